-- The Sync that a Follow_Up in a chain reports is the one that the exchange holds: sequenceIds come again too late.
use Rattle.std.proofs.Common.{◌≡◌, inl, inr, ◌∙◌, ap, sym, subst, ℕ, ◌+◌, ◌*◌, ◌<◌, ◌≤◌, ℤ, pos, min, ◌+ℤ◌, ◌≤ℤ◌, unsigned_abs, false, if◌then◌else◌, List, [], ◌∷◌, ◌++◌, length, Option, None, Some, arith}
use Rattle.std.proofs.lemmas.Int.{ints}
use Rattle.wrp_base.specs.declared.link.Role.TheVariants.{Master}
use Rattle.wrp_network.specs.declared.network.LinkCfg.{LinkCfg}
use Rattle.wrp_base.proofs.Lists.{append_assoc}
use Rattle.wrp_base.proofs.Naturals.{eq_self}
use Rattle.wrp_bounds.specs.Times.{frame_life, gap_time, shortest_tick}
use Rattle.wrp_course.specs.declared.event.Event.{Event}
use Rattle.wrp_course.specs.declared.place.Place.{Place}
use Rattle.wrp_bound_laws.proofs.Samples.BoundRuns.{at_oldest}
use Rattle.wrp_bound_laws.proofs.DelayPairs.DelayPieces.{still_depart}
use Rattle.wrp_course.specs.Given.{given_by}
use Rattle.wrp_course.specs.Moved.{departing, frame_after, moved, waiting_at}
use Rattle.wrp_course.specs.Run.{Happened, world_after}
use Rattle.wrp_course.specs.Runs.{IsRun, WasPutOut}
use Rattle.wrp_course.specs.Setting.{Setting, link_of}
use Rattle.wrp_course.specs.WorldAt.{FrameAt, Sending, WorldAt, delay_from}
use Rattle.wrp_course.proofs.RunTimes.{time_never_falls}
use Rattle.wrp_bound_laws.specs.Moments.{AtEach}
use Rattle.wrp_bound_laws.specs.Rates.{HasChain}
use Rattle.wrp_bound_laws.specs.SequenceIds.{IdsComeAgainLate, IsOpenAt, OneTimedAnEvent}
use Rattle.wrp_bound_laws.proofs.Frames.DepartedFrames.{Stayed, frame_stays}
use Rattle.wrp_bound_laws.proofs.Frames.InOrder.{given_frame}
use Rattle.wrp_bound_laws.proofs.Schedules.OpenPorts.{open_since}
use Rattle.wrp_bound_laws.proofs.Frames.Sendings.{WasPut, was_put}
use Rattle.wrp_bound_laws.proofs.Runs.Suffixes.{at_newest, at_rest, count_is, older_run}
use Rattle.wrp_bound_laws.proofs.SyncPairs.SyncGiven.{IsSync}
use Rattle.wrp_bound_laws.proofs.SyncPairs.SyncHanded.{either_end}
use Rattle.wrp_bound_laws.proofs.SyncPairs.SyncMasters.{MasterLaws, master_open_each, sent_sync}
use Rattle.wrp_bound_laws.proofs.SyncPairs.SyncSends.{FollowedIn, Follows}

-- The frame that departed as a Follow_Up was put out

-- a frame of the master's end, of this sending and stamp, departed at this time, after this many events
pub record Departed (s : Setting) (events : List Happened) (k : ℕ) (y : Sending) (stamp at : ℤ) (moment : ℕ) : Type 0 where
  pub number : ℕ
  pub frame : FrameAt
  pub there : (world_after s events).frame number ≡ Some frame
  pub link : frame.link ≡ k
  pub by : frame.by ≡ Master
  pub sending : frame.sending ≡ y
  pub stamp_is : frame.stamp ≡ stamp
  pub at_is : frame.at ≡ at
  pub moment_is : frame.moment ≡ moment

-- the frame that it becomes
abbrev leaves : Setting → WorldAt → ℕ → Sending → ℤ → FrameAt
leaves s w k y stamp = record {
  link = k;
  by = Master;
  sending = y;
  stamp = stamp;
  at = w.time;
  moment = w.count;
  due = w.time +ℤ delay_from w k Master;
  arrival = None;
  gone = false;
}

departs_now : (s : Setting) (h : Happened) (before : List Happened) (k : ℕ) (link : LinkCfg) (x : Sending) (f : Follows s (world_after s before) k link h.event x) →
    (world_after s (h ∷ before)).frame ((world_after s before).departed + 1) ≡ Some (leaves s (world_after s before) k f.oldest f.stamp)
departs_now s h before k link x f =
    let w : WorldAt = world_after s before in
    let i : ℕ = w.departed + 1 in
    let v : WorldAt = moved s w h.event in
    let g : FrameAt = leaves s w k f.oldest f.stamp in
    (given_frame s h.answer (given_by s w v h.says h.event) v i).0
    ∙ ap (λ (e : Event). frame_after s w e i) f.event
    ∙ ap (λ (o : Option Place). departing w o f.stamp (waiting_at w o) i) f.place
    ∙ ap (λ (q : List Sending). departing w (Some (record { link = k; role = Master })) f.stamp q i) f.waits
    ∙ ap (λ b. if b then Some g else w.frame i) (eq_self i)

stays_departed : (s : Setting) (newer : List Happened) (h : Happened) (before : List Happened) (k : ℕ) (link : LinkCfg) (x : Sending) (f : Follows s (world_after s before) k link h.event x) → IsRun s (newer ++ h ∷ before) →
    Departed s (newer ++ h ∷ before) k f.oldest f.stamp (world_after s before).time (length before)
stays_departed s newer h before k link x f run =
    let it : Stayed s (newer ++ h ∷ before) ((world_after s before).departed + 1) (leaves s (world_after s before) k f.oldest f.stamp) =
    frame_stays s newer (h ∷ before) ((world_after s before).departed + 1) (leaves s (world_after s before) k f.oldest f.stamp) run (departs_now s h before k link x f) in
    record {
      number = (world_after s before).departed + 1;
      frame = it.frame;
      there = it.there;
      link = it.link;
      by = it.by;
      sending = it.sending;
      stamp_is = it.stamp;
      at_is = it.at;
      moment_is = it.moment ∙ count_is s before;
    }

-- it departed as the Follow_Up was put out
pub departed : (s : Setting) (events : List Happened) (k : ℕ) (link : LinkCfg) (x : Sending) (it : FollowedIn s events k link x) → IsRun s events → Departed s events k it.follows.oldest it.follows.stamp x.at (length it.before)
departed s events k link x it run =
    subst (λ t. Departed s events k it.follows.oldest it.follows.stamp t (length it.before)) (sym (it.at ∙ still_depart s it.event it.before link.upper link.upper_port it.follows.stamp it.follows.event))
    (subst (λ l. Departed s l k it.follows.oldest it.follows.stamp (world_after s it.before).time (length it.before)) (sym it.splits)
    (stays_departed s it.newer it.event it.before k link x it.follows (subst (IsRun s) it.splits run)))

-- Two Syncs of one sequenceId

-- the laws that this rests on
pub record SameLaws : Type 0 where
  pub master : MasterLaws
  pub one : OneTimedAnEvent
  pub late : IdsComeAgainLate

-- the time in which a sequenceId does not come again
abbrev pub again : Setting → ℕ
again s = 65_000 * min (unsigned_abs s.cfg.sync) (unsigned_abs s.cfg.delay) * shortest_tick s.cfg

-- the ring's gaps
abbrev pub ring_time : Setting → ℕ
ring_time s = unsigned_abs s.cfg.ring * gap_time s.cfg

too_late : (x y now : ℤ) (big ring life : ℕ) → (x +ℤ pos big) ≤ℤ y → y ≤ℤ now → now ≤ℤ (x +ℤ pos (life + ring)) → ring + 4 * life < big → ⊥
too_late x y now big ring life h k l m = omega (arith, ints)

much_too_late : (x y now : ℤ) (big ring life : ℕ) → (y +ℤ pos big) ≤ℤ x → x ≤ℤ now → now ≤ℤ (y +ℤ pos (2 * life)) → ring + 4 * life < big → ⊥
much_too_late x y now big ring life h k l m = omega (arith, ints)

at_both : (P : List Happened → Type 0) (a b older : List Happened) → AtEach P a (b ++ older) → AtEach P b older → AtEach P (a ++ b) older
at_both P [] b older h k = k
at_both P (x ∷ a) b older h k = (subst (λ l. P (x ∷ l)) (sym (append_assoc a b older)) h.0, at_both P a b older h.1 k)

-- two Syncs that the master put out, the first before the second of two events of a chain, or in it
pub record TwoSyncs (s : Setting) (k : ℕ) (gap older : List Happened) (x y : Sending) : Type 0 where
  pub put_first : WasPutOut x ((world_after s older).end_at k Master).sent
  pub put_still : WasPutOut x ((world_after s (gap ++ older)).end_at k Master).sent
  pub put_other : WasPutOut y ((world_after s (gap ++ older)).end_at k Master).sent
  pub first : IsSync x.message.body
  pub other : IsSync y.message.body
  pub same : x.message.head.seq ≡ y.message.head.seq
  pub young : (world_after s older).time ≤ℤ (x.at +ℤ pos (frame_life s.cfg))
  pub near : (world_after s (gap ++ older)).time ≤ℤ (x.at +ℤ pos (frame_life s.cfg + ring_time s))
  pub near_other : (world_after s (gap ++ older)).time ≤ℤ (y.at +ℤ pos (2 * frame_life s.cfg))

double : (t at : ℤ) (life : ℕ) → t ≤ℤ (at +ℤ pos life) → t ≤ℤ (at +ℤ pos (2 * life))
double t at life h = omega (arith, ints)

less_length : (z : Happened) (zs older : List Happened) (a b : ℕ) → a ≡ length older → b ≡ length ((z ∷ zs) ++ older) → a < b
less_length z zs older a b e f = let h : length older ≤ length (zs ++ older) = longer zs older in omega (arith, e, f, h)
  where
    longer : (xs ys : List Happened) → length ys ≤ length (xs ++ ys)
    longer [] ys = omega arith
    longer (x ∷ xs) ys = let h : length ys ≤ length (xs ++ ys) = longer xs ys in omega (arith, h)

in_time : (s : Setting) (z : Sending) (events newer old : List Happened) → IsRun s events → events ≡ newer ++ old → z.at ≡ (world_after s old).time → z.at ≤ℤ (world_after s events).time
in_time s z events newer old r e at =
    subst (λ t. t ≤ℤ (world_after s events).time) (sym at) (subst (λ l. (world_after s old).time ≤ℤ (world_after s l).time) (sym e) (time_never_falls s newer old (subst (IsRun s) e r)))

-- the first was not put out after the other
not_after : SameLaws → (s : Setting) (k : ℕ) (link : LinkCfg) (gap older : List Happened) (x y : Sending) → IsRun s (gap ++ older) → link_of s k ≡ Some link → (two : TwoSyncs s k gap older x y) → (a : WasPut s older k Master x) (b : WasPut s (gap ++ older) k Master y) →
    (between : List Happened) → a.older ≡ between ++ b.older → b.newer ≡ (gap ++ a.newer) ++ between → AtEach (IsOpenAt s link Master) b.newer b.older → x ≡ y
not_after laws s k link gap older x y run is two a b [] end front open_all =
    laws.one s (gap ++ older) k link Master x y run is two.put_still two.put_other two.first two.other (a.in_it.moment ∙ ap length end ∙ sym b.in_it.moment)
not_after laws s k link gap older x y run is two a b (z ∷ between) end front open_all =
    let whole : gap ++ older ≡ (gap ++ a.newer) ++ a.older = ap (λ l. gap ++ l) a.splits ∙ sym (append_assoc gap a.newer a.older) in
    let run_here : IsRun s ((z ∷ between) ++ b.older) = subst (IsRun s) end (older_run s (gap ++ a.newer) a.older (subst (IsRun s) whole run)) in
    let opens : AtEach (IsOpenAt s link Master) (z ∷ between) b.older = at_rest (IsOpenAt s link Master) (gap ++ a.newer) (z ∷ between) b.older (subst (λ l. AtEach (IsOpenAt s link Master) l b.older) front open_all) in
    let later : (y.at +ℤ pos (again s)) ≤ℤ x.at =
    laws.late s (z ∷ between) b.older k link Master y x run_here is b.in_it.put b.in_it.moment (subst (λ l. WasPutOut x ((world_after s l).end_at k Master).sent) end a.in_it.put)
    two.other two.first (sym two.same) opens (less_length z between b.older y.moment x.moment b.in_it.moment (a.in_it.moment ∙ ap length end)) in
    absurd (much_too_late x.at y.at (world_after s (gap ++ older)).time (again s) (ring_time s) (frame_life s.cfg) later (in_time s x (gap ++ older) (gap ++ a.newer) a.older run whole a.in_it.at) two.near_other run.network.accepted.inequalities.id_reuse)

-- nor before it
not_sooner : SameLaws → (s : Setting) (k : ℕ) (link : LinkCfg) (gap older : List Happened) (x y : Sending) → IsRun s (gap ++ older) → link_of s k ≡ Some link → (two : TwoSyncs s k gap older x y) → (a : WasPut s older k Master x) (b : WasPut s (gap ++ older) k Master y) →
    (between : List Happened) → b.older ≡ between ++ a.older → gap ++ a.newer ≡ b.newer ++ between → AtEach (IsOpenAt s link Master) (gap ++ a.newer) a.older → x ≡ y
not_sooner laws s k link gap older x y run is two a b [] end front open_all =
    laws.one s (gap ++ older) k link Master x y run is two.put_still two.put_other two.first two.other (a.in_it.moment ∙ ap length (sym end) ∙ sym b.in_it.moment)
not_sooner laws s k link gap older x y run is two a b (z ∷ between) end front open_all =
    let run_here : IsRun s ((z ∷ between) ++ a.older) = subst (IsRun s) end (older_run s b.newer b.older (subst (IsRun s) b.splits run)) in
    let opens : AtEach (IsOpenAt s link Master) (z ∷ between) a.older = at_rest (IsOpenAt s link Master) b.newer (z ∷ between) a.older (subst (λ l. AtEach (IsOpenAt s link Master) l a.older) front open_all) in
    let later : (x.at +ℤ pos (again s)) ≤ℤ y.at =
    laws.late s (z ∷ between) a.older k link Master x y run_here is a.in_it.put a.in_it.moment (subst (λ l. WasPutOut y ((world_after s l).end_at k Master).sent) end b.in_it.put)
    two.first two.other two.same opens (less_length z between a.older x.moment y.moment a.in_it.moment (b.in_it.moment ∙ ap length end)) in
    absurd (too_late x.at y.at (world_after s (gap ++ older)).time (again s) (ring_time s) (frame_life s.cfg) later (in_time s y (gap ++ older) b.newer b.older run b.splits b.in_it.at) two.near run.network.accepted.inequalities.id_reuse)

-- they are one
pub same_sending : SameLaws → (s : Setting) (k : ℕ) (link : LinkCfg) (gap older : List Happened) (x y : Sending) → IsRun s (gap ++ older) → link_of s k ≡ Some link → AtEach (HasChain s link.lower) gap older → TwoSyncs s k gap older x y → x ≡ y
same_sending laws s k link gap older x y run is chain two =
    let was : IsRun s older = older_run s gap older run in
    let a : WasPut s older k Master x = was_put s older k Master x two.put_first in
    let b : WasPut s (gap ++ older) k Master y = was_put s (gap ++ older) k Master y two.put_other in
    let open_each : AtEach (IsOpenAt s link Master) gap older = master_open_each laws.master s gap older k link run is chain in
    let run_a : IsRun s (a.newer ++ a.older) = subst (IsRun s) a.splits was in
    let run_b : IsRun s (b.newer ++ b.older) = subst (IsRun s) b.splits run in
    let first_open : IsOpenAt s link Master (a.newer ++ a.older) = subst (IsOpenAt s link Master) a.splits (at_oldest (IsOpenAt s link Master) gap older open_each) in
    let last_open : IsOpenAt s link Master (b.newer ++ b.older) = subst (IsOpenAt s link Master) b.splits (at_newest (IsOpenAt s link Master) gap older open_each) in
    let soon_a : (world_after s (a.newer ++ a.older)).time ≤ℤ ((world_after s a.older).time +ℤ pos (2 * frame_life s.cfg)) =
    subst (λ l. (world_after s l).time ≤ℤ ((world_after s a.older).time +ℤ pos (2 * frame_life s.cfg))) a.splits
    (subst (λ t. (world_after s older).time ≤ℤ (t +ℤ pos (2 * frame_life s.cfg))) a.in_it.at (double (world_after s older).time x.at (frame_life s.cfg) two.young)) in
    let soon_b : (world_after s (b.newer ++ b.older)).time ≤ℤ ((world_after s b.older).time +ℤ pos (2 * frame_life s.cfg)) =
    subst (λ l. (world_after s l).time ≤ℤ ((world_after s b.older).time +ℤ pos (2 * frame_life s.cfg))) b.splits
    (subst (λ t. (world_after s (gap ++ older)).time ≤ℤ (t +ℤ pos (2 * frame_life s.cfg))) b.in_it.at two.near_other) in
    let since_a : AtEach (IsOpenAt s link Master) a.newer a.older =
    open_since laws.master.chains.lease.quiet s a.newer a.older Master link run_a (sent_sync laws.master s a.older k link x is two.first a.in_it).open_then first_open soon_a in
    let since_b : AtEach (IsOpenAt s link Master) b.newer b.older =
    open_since laws.master.chains.lease.quiet s b.newer b.older Master link run_b (sent_sync laws.master s b.older k link y is two.other b.in_it).open_then last_open soon_b in
    let all_a : AtEach (IsOpenAt s link Master) (gap ++ a.newer) a.older =
    at_both (IsOpenAt s link Master) gap a.newer a.older (subst (AtEach (IsOpenAt s link Master) gap) a.splits open_each) since_a in
    let whole : gap ++ older ≡ (gap ++ a.newer) ++ a.older = ap (λ l. gap ++ l) a.splits ∙ sym (append_assoc gap a.newer a.older) in
    elim (either_end (gap ++ a.newer) a.older b.newer b.older (sym whole ∙ b.splits)) [
      | inl it ↦ not_after laws s k link gap older x y run is two a b it.between it.end it.front since_b
      | inr it ↦ not_sooner laws s k link gap older x y run is two a b it.between it.end it.front all_a
    ]
