-- Which frames can still be delivered: of those that were put out, only those that are no older than a frame's life.
use Rattle.std.proofs.Common.{sym, subst, ◌≤◌, pos, ◌+ℤ◌, ◌≤ℤ◌, List, ◌++◌, length}
use Rattle.wrp_base.proofs.Integers.{int_le_trans}
use Rattle.wrp_bounds.specs.Times.{frame_life}
use Rattle.wrp_course.specs.Premises.{Accepts}
use Rattle.wrp_course.specs.Run.{Happened, world_after}
use Rattle.wrp_course.specs.RunLaws.{FramesWerePutOut}
use Rattle.wrp_course.specs.Runs.{IsRun, WasPutOut}
use Rattle.wrp_course.proofs.RunTimes.{time_never_falls}
use Rattle.wrp_bound_laws.specs.OneMessage.{OnlySuchComeStill}
use Rattle.wrp_bound_laws.proofs.DelayPairs.DelayPieces.{LongerEnd, longer_end}
use Rattle.wrp_bound_laws.proofs.Frames.Deliveries.{deliver_holds}
use Rattle.wrp_bound_laws.proofs.Frames.PutOut.{put_since}
use Rattle.wrp_bound_laws.proofs.Frames.Sendings.{WasPut, was_put}
use Rattle.wrp_bound_laws.proofs.Runs.Suffixes.{run_before}

pub only_such : FramesWerePutOut → OnlySuchComeStill
only_such law s h newer older i f run event there known =
    let events : List Happened = newer ++ older in
    let before : IsRun s events = run_before s h events run in
    let a : WasPut s events f.link f.by f.sending = was_put s events f.link f.by f.sending (law s events i f before there) in
    let it : LongerEnd newer older a.newer a.older = longer_end newer older a.newer a.older a.splits (subst (λ n. n ≤ length older) a.in_it.moment known) in
    let young : (world_after s events).time ≤ℤ (f.sending.at +ℤ pos (frame_life s.cfg)) =
    (deliver_holds s (world_after s events) h.says i f (subst (Accepts s (world_after s events) h.says) event run.accepted.0) there).0 in
    record {
      put = subst (λ l. WasPutOut f.sending ((world_after s l).end_at f.link f.by).sent) (sym it.is) (put_since s it.between a.older f.link f.by f.sending a.in_it.put);
      young = int_le_trans (world_after s older).time (world_after s events).time (f.sending.at +ℤ pos (frame_life s.cfg)) (time_never_falls s newer older before) young;
    }
