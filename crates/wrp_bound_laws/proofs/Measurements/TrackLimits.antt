-- A node in TRACK keeps its limits: the limits of its servo are the network's, and its four is young.
use Rattle.std.proofs.Common.{◌≡◌, ◌∙◌, refl, ap, sym, subst, ℕ, ◌+◌, ◌≤◌, ℤ, pos, ◌≤ℤ◌, unsigned_abs, true, is_some, Option, None, Some}
use Rattle.std.proofs.lemmas.Bool.{false≢true}
use Rattle.wrp_base.specs.declared.link.ServoState.TheVariants.{Track}
use Rattle.wrp_node.specs.declared.interface.NodeSet.{NodeSet}
use Rattle.wrp_node.specs.NodeAt.{NodeAt, servo_at, servo_setting_of}
use Rattle.wrp_servo.specs.Call.{ServoSetting}
use Rattle.wrp_servo.specs.declared.interface.ServoSet.{ServoSet}
use Rattle.wrp_servo.specs.declared.machine.Core.{Core}
use Rattle.wrp_servo.specs.declared.machine.Measurement.{Measurement}
use Rattle.wrp_servo.specs.Following.{e_tau}
use Rattle.wrp_servo.specs.Laws.{InTrack}
use Rattle.wrp_servo.specs.Sampling.{is_near, is_within, residual}
use Rattle.wrp_servo.specs.Table.{is_track}
use Rattle.wrp_servo.proofs.Gone.{set_is}
use Rattle.wrp_servo.proofs.Sized.{within_says}
use Rattle.wrp_course.specs.Run.{world_after}
use Rattle.wrp_course.specs.Setting.{link_of, node_setting_of}
use Rattle.wrp_bound_laws.specs.Fours.{IsKept}
use Rattle.wrp_bound_laws.specs.Limits.{TrackKeepsLimits}
use Rattle.wrp_bound_laws.proofs.Measurements.FourTrack.{AgeLaws, young_ticks}
use Rattle.wrp_bound_laws.proofs.Runs.LinksAbove.{above_at}
use Rattle.wrp_bound_laws.proofs.Sources.Parents.{has_servo, with_servo}

within : (set limit x : ℤ) → set ≡ limit → is_within set x ≡ true → pos (unsigned_abs x) ≤ℤ limit
within set limit x same h = within_says limit x (subst (λ l. is_within l x ≡ true) same h)

-- the measurement that is held
some_kept : (o : Option Measurement) → is_some o ≡ true → (kept : Measurement) × (o ≡ Some kept)
some_kept None e = absurd (false≢true e)
some_kept (Some kept) e = (kept, refl)

pub track_keeps_limits : AgeLaws → TrackKeepsLimits
track_keeps_limits laws s events n link run above track =
    let node : NodeAt = (world_after s events).node n in
    let x : ServoSetting = servo_setting_of (node_setting_of s n) in
    let v : Core = servo_at (node_setting_of s n) node in
    let state : v.state ≡ Track = sym (with_servo (node_setting_of s n) node (has_servo s run.network n link above)) ∙ track in
    let near : InTrack v = laws.near x node.calls (ap is_track state) in
    let it : (kept : Measurement) × (v.kept ≡ Some kept) = some_kept v.kept near.kept in
    let at : (k : ℕ) × (link_of s k ≡ Some link) × (link.lower ≡ n) = above_at s n link above in
    let set : v.set ≡ (s.set n).servo = set_is x node.calls in
    let loop : v.set.loop_tau ≡ s.cfg.loop_tau = ap (λ (z : ServoSet). z.loop_tau) set ∙ ap (λ (z : NodeSet). z.servo.loop_tau) (run.network.set n) in
    let limit : v.set.track_tau ≡ s.cfg.track_tau = ap (λ (z : ServoSet). z.track_tau) set ∙ ap (λ (z : NodeSet). z.servo.track_tau) (run.network.set n) in
    record {
      kept = it.0;
      stands = it.1;
      young =
          subst (λ i. (servo_at (node_setting_of s i) ((world_after s events).node i)).state ≡ Track → IsKept s i events it.0 → ((world_after s events).node i).ticks ≤ it.0.four.tick + unsigned_abs s.cfg.age) at.2
          (λ t m. young_ticks laws s events at.0 link it.0 run at.1 t m) state it.1;
      loop = within v.set.loop_tau s.cfg.loop_tau (e_tau v.phase) loop near.calm;
      track = within v.set.track_tau s.cfg.track_tau (residual v.phase it.0) limit (sym (ap (is_near v.set.track_tau v.phase) it.1) ∙ near.near);
    }
