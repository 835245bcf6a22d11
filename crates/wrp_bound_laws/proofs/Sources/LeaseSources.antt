-- A lease that runs has a source of time above it.
use Rattle.std.proofs.Common.{◌≡◌, inl, inr, ◌∙◌, refl, ap, sym, subst, ℕ, zero, suc, ◌+◌, ◌-◌, ◌*◌, ◌<◌, ◌≤◌, ℤ, pos, ◌+ℤ◌, ◌≤ℤ◌, unsigned_abs, not, true, false, is_some, List, [], ◌∷◌, ◌++◌, length, Option, None, Some, Result, arith}
use Rattle.std.proofs.lemmas.Bool.Decides.{eqb_tells}
use Rattle.std.proofs.lemmas.Int.{ints}
use Rattle.std.proofs.Math.Nat.{mul-le-mul_right}
use Rattle.std.specs.Option.{option_or}
use Rattle.std.proofs.lemmas.Bool.{and_parts}
use Rattle.std.proofs.lemmas.Option.{none-some}
use Rattle.wrp_base.specs.declared.link.Role.TheVariants.{Master, Slave}
use Rattle.wrp_base.specs.declared.message.PtpMsg.{PtpMsg}
use Rattle.wrp_network.specs.declared.network.LinkCfg.{LinkCfg}
use Rattle.wrp_network.specs.Network.{link_above}
use Rattle.wrp_base.proofs.Integers.{int_le_trans}
use Rattle.wrp_base.proofs.Lists.{append_assoc}
use Rattle.wrp_bounds.specs.Times.{frame_life, longest_tick, shortest_tick}
use Rattle.wrp_frame.specs.declared.fault.FrameFault.{FrameFault}
use Rattle.wrp_node.specs.declared.interface.Input.TheVariants.{Tick as TickInput}
use Rattle.wrp_node.specs.declared.interface.NodeSet.{NodeSet}
use Rattle.wrp_node.specs.NodeAt.{NodeAt, is_fresh_at, link_at, setting_of, slave_of}
use Rattle.wrp_port.specs.Hearing.{is_open}
use Rattle.wrp_port.specs.History.{is_fresh, is_fresh_at as is_fresh_by}
use Rattle.wrp_servo.specs.Holdover.{HoldoverSince}
use Rattle.wrp_servo.specs.Laws.{TrackSince}
use Rattle.wrp_course.specs.declared.event.Event.{Event}
use Rattle.wrp_course.specs.declared.event.Event.TheVariants.{Pass, Tick, Sample, Depart, Arrive, Deliver, Noise, Down, Up, Cut, Join}
use Rattle.wrp_course.specs.Given.{given_by, given_plain, taken_of, world_step}
use Rattle.wrp_course.specs.Moved.{moved}
use Rattle.wrp_course.specs.Run.{Happened, world_after}
use Rattle.wrp_course.specs.RunLaws.{FramesWerePutOut}
use Rattle.wrp_course.specs.Runs.{IsRun, WasPutOut}
use Rattle.wrp_course.specs.Setting.{Setting, node_setting_of, link_of}
use Rattle.wrp_course.specs.WorldAt.{Sending, WorldAt, ends_are_up, has_carrier}
use Rattle.wrp_course.proofs.RunSettled.{all_given_carrier}
use Rattle.wrp_course.proofs.RunTimes.{comes_up_down, time_never_falls, not_up}
use Rattle.wrp_bound_laws.specs.Announcing.{IsCertainAnnounce}
use Rattle.wrp_bound_laws.specs.Leases.{HasSource, IsCarried, LeaseHasSource, last_renewal, lease_time, renewal_in}
use Rattle.wrp_bound_laws.specs.Moments.{AtEach}
use Rattle.wrp_bound_laws.proofs.Sources.Carried.{renewed_has_carrier}
use Rattle.wrp_bound_laws.proofs.Nodes.Inputs.{no_tick_last}
use Rattle.wrp_bound_laws.proofs.Runs.LinksAbove.{above_is}
use Rattle.wrp_bound_laws.proofs.Motion.OnTime.{on_time, ticked_past}
use Rattle.wrp_bound_laws.proofs.Sources.Parents.{FollowedAt, IsCalmOf, begins, calm_last, has_servo, has_slave, is_source, next_follows, ticked_node, ticks_not}
use Rattle.wrp_bound_laws.proofs.Schedules.OpenPorts.{QuietLaws, carried_since}
use Rattle.wrp_bound_laws.proofs.Sources.Renewals.{IsPlainOf, Renewal, deliver_turns, noise_turns, plain_turns, renewal_certain, renewal_is, renewal_young, turns_in}
use Rattle.wrp_bound_laws.proofs.Frames.Sendings.{PutOutIn, WasPut, certain_in, was_put}
use Rattle.wrp_bound_laws.proofs.Nodes.StepLeases.{turns_at, turns_before}
use Rattle.wrp_bound_laws.proofs.Runs.Suffixes.{at_each, at_newest, at_rest, older_run, run_before, rest_length}

-- the laws that this rests on
pub record LeaseLaws : Type 0 where
  pub quiet : QuietLaws
  pub put : FramesWerePutOut
  pub track : TrackSince
  pub held : HoldoverSince

-- A link with its carrier has both its nodes up

pub both_nodes : (s : Setting) (w : WorldAt) (k : ℕ) (link : LinkCfg) → link_of s k ≡ Some link → has_carrier s w k ≡ true → ((w.clock link.upper).up ≡ true) × ((w.clock link.lower).up ≡ true)
both_nodes s w k link is c =
    let up : ends_are_up w.clock (link_of s k) ≡ true = (and_parts (w.fibre k).joined (ends_are_up w.clock (link_of s k)) c).1 in
    and_parts (w.clock link.upper).up (w.clock link.lower).up (sym (ap (ends_are_up w.clock) is) ∙ up)

-- The lease

-- the Announce with which a lease of this many turns was renewed last, and how late the last tick of its node can be
record Held (s : Setting) (events : List Happened) (k : ℕ) (link : LinkCfg) (turns : ℕ) : Type 0 where
  announce : Sending
  renewed : last_renewal s k link events ≡ Some announce
  certain : IsCertainAnnounce announce.message
  newer : List Happened
  older : List Happened
  splits : events ≡ newer ++ older
  in_it : PutOutIn s older k Master announce
  carried : AtEach (IsCarried s k) newer older
  late : ((world_after s events).clock link.lower).ticked ≤ℤ (announce.at +ℤ pos (frame_life s.cfg + turns * longest_tick s.cfg))

lit_now : LeaseLaws → (s : Setting) (events : List Happened) (k : ℕ) (link : LinkCfg) (turns : ℕ) → IsRun s events → link_of s k ≡ Some link → turns_in s (world_after s events) link ≡ Some turns → has_carrier s (world_after s events) k ≡ true
lit_now laws s events k link turns run is e =
    sym (laws.quiet.carriers s events k Slave link run is)
    ∙ renewed_has_carrier (setting_of (s.set link.lower) link.lower_port) (((world_after s events).node link.lower).told link.lower_port) turns e

-- an event that does not renew it
held_on : LeaseLaws → (s : Setting) (h : Happened) (before : List Happened) (k : ℕ) (link : LinkCfg) (old turns : ℕ) → IsRun s (h ∷ before) → link_of s k ≡ Some link → renewal_in s (world_after s before) k link h.event ≡ None →
    turns_in s (world_after s (h ∷ before)) link ≡ Some turns → (it : Held s before k link old) →
    ((world_after s (h ∷ before)).clock link.lower).ticked ≤ℤ (it.announce.at +ℤ pos (frame_life s.cfg + turns * longest_tick s.cfg)) → Held s (h ∷ before) k link turns
held_on laws s h before k link old turns run is none e it late = record {
  announce = it.announce;
  renewed = ap (λ o. option_or o (last_renewal s k link before)) none ∙ it.renewed;
  certain = it.certain;
  newer = h ∷ it.newer;
  older = it.older;
  splits = ap (λ l. h ∷ l) it.splits;
  in_it = it.in_it;
  carried = (subst (λ l. IsCarried s k (h ∷ l)) it.splits (lit_now laws s (h ∷ before) k link turns run is e), it.carried);
  late = late;
}

pub same_last : (s : Setting) (h : Happened) (before : List Happened) (n : ℕ) → IsCalmOf n h.event → ((world_after s (h ∷ before)).clock n).ticked ≡ ((world_after s before).clock n).ticked
same_last s h before n calm = no_tick_last s h.says h.answer (world_after s before) h.event n (ticks_not n h.event calm) ∙ calm_last s (world_after s before) h.event n calm

calm_held : LeaseLaws → (s : Setting) (h : Happened) (before : List Happened) (k : ℕ) (link : LinkCfg) (turns : ℕ) → IsRun s (h ∷ before) → link_of s k ≡ Some link → IsCalmOf link.lower h.event →
    renewal_in s (world_after s before) k link h.event ≡ None → turns_in s (world_after s (h ∷ before)) link ≡ Some turns → Held s before k link turns → Held s (h ∷ before) k link turns
calm_held laws s h before k link turns run is calm none e it =
    held_on laws s h before k link turns turns run is none e it
    (subst (λ t. t ≤ℤ (it.announce.at +ℤ pos (frame_life s.cfg + turns * longest_tick s.cfg))) (sym (same_last s h before link.lower calm)) it.late)

-- a tick of its node
one_turn : (now last at : ℤ) (life u dmax : ℕ) → now ≤ℤ (last +ℤ pos dmax) → last ≤ℤ (at +ℤ pos (life + u * dmax)) → now ≤ℤ (at +ℤ pos (life + (u + 1) * dmax))
one_turn now last at life u dmax h k =
    let more : (u + 1) * dmax ≡ u * dmax + dmax = grind (arith) in
    sum now last at life (u * dmax) ((u + 1) * dmax) dmax more h k
  where
    sum : (now last at : ℤ) (life p q dmax : ℕ) → q ≡ p + dmax → now ≤ℤ (last +ℤ pos dmax) → last ≤ℤ (at +ℤ pos (life + p)) → now ≤ℤ (at +ℤ pos (life + q))
    sum now last at life p q dmax e h k = omega (arith, ints)

lower_up : (s : Setting) (events : List Happened) (k : ℕ) (link : LinkCfg) (turns : ℕ) → link_of s k ≡ Some link → Held s events k link turns → ((world_after s events).clock link.lower).up ≡ true
lower_up s events k link turns is it =
    (both_nodes s (world_after s events) k link is (subst (IsCarried s k) (sym it.splits) (at_newest (IsCarried s k) it.newer it.older it.carried))).1

tick_held : LeaseLaws → (s : Setting) (says : Result PtpMsg FrameFault) (y : ℤ) (before : List Happened) (m k : ℕ) (link : LinkCfg) (turns : ℕ) → IsRun s (record { event = Tick m; says = says; answer = y } ∷ before) → link_of s k ≡ Some link →
    link.lower ≡ m → turns_in s (world_step s says y (world_after s before) (Tick m)) link ≡ Some turns → ((u : ℕ) → turns_in s (world_after s before) link ≡ Some u → Held s before k link u) →
    Held s (record { event = Tick m; says = says; answer = y } ∷ before) k link turns
tick_held laws s says y before m k link turns run is same e old =
    let w : WorldAt = world_after s before in
    let h : Happened = record { event = Tick m; says = says; answer = y } in
    let node : _ = ticked_node s says y w link.lower m same in
    let slave : slave_of (s.set link.lower) ≡ Some link.lower_port = has_slave s run.network link.lower link (above_is s run.network k link is) in
    let was : (u : ℕ) × (u + 1 ≡ turns) × (turns_in s w link ≡ Some u) =
    turns_before (node_setting_of s link.lower) (taken_of y (given_plain m TickInput)) (w.node link.lower) link.lower_port turns slave
    (subst (λ (n : NodeAt). turns_at (node_setting_of s link.lower) n link.lower_port ≡ Some turns) node.0 e) in
    let it : Held s before k link was.0 = old was.0 was.2 in
    let late : w.time ≤ℤ ((w.clock link.lower).ticked +ℤ pos (longest_tick s.cfg)) =
    on_time laws.quiet.apart s before link.lower (run.network.accepted.tree.ends k link is).1 (run_before s h before run) (lower_up s before k link was.0 is it) in
    let now : w.time ≤ℤ (it.announce.at +ℤ pos (frame_life s.cfg + (was.0 + 1) * longest_tick s.cfg)) =
    one_turn w.time (w.clock link.lower).ticked it.announce.at (frame_life s.cfg) was.0 (longest_tick s.cfg) late it.late in
    held_on laws s h before k link was.0 turns run is refl e it
    (subst (λ t. t ≤ℤ (it.announce.at +ℤ pos (frame_life s.cfg + turns * longest_tick s.cfg))) (sym node.1)
    (subst (λ u. w.time ≤ℤ (it.announce.at +ℤ pos (frame_life s.cfg + u * longest_tick s.cfg))) was.1 now))

-- A renewal

-- a port that takes messages is handed a frame that is not older than its life
record Handed (s : Setting) (k : ℕ) (link : LinkCfg) (at : ℤ) (events : List Happened) : Type 0 where
  run : IsRun s events
  takes : is_open (link_at (s.set link.lower) ((world_after s events).node link.lower) link.lower_port) ≡ true
  young : (world_after s events).time ≤ℤ (at +ℤ pos (frame_life s.cfg))

two_lives : (at then now : ℤ) (life : ℕ) → at ≡ then → now ≤ℤ (at +ℤ pos life) → now ≤ℤ (then +ℤ pos (2 * life))
two_lives at then now life e h = omega (arith, ints, e, h)

carried_by : LeaseLaws → (s : Setting) (k : ℕ) (link : LinkCfg) (x : Sending) (newer older : List Happened) → link_of s k ≡ Some link → PutOutIn s older k Master x → Handed s k link x.at (newer ++ older) → AtEach (IsCarried s k) newer older
carried_by laws s k link x newer older is put h =
    carried_since laws.quiet s newer older k Slave link h.run is h.takes (two_lives x.at (world_after s older).time (world_after s (newer ++ older)).time (frame_life s.cfg) put.at h.young)

in_life : (last now at : ℤ) (life more : ℕ) → last ≤ℤ now → now ≤ℤ (at +ℤ pos life) → last ≤ℤ (at +ℤ pos (life + more))
in_life last now at life more h k = omega (arith, ints)

renewed_held : LeaseLaws → (s : Setting) (says : Result PtpMsg FrameFault) (y : ℤ) (before : List Happened) (i k : ℕ) (link : LinkCfg) (turns : ℕ) (x : Sending) → IsRun s (record { event = Deliver i; says = says; answer = y } ∷ before) →
    link_of s k ≡ Some link → renewal_in s (world_after s before) k link (Deliver i) ≡ Some x → Held s (record { event = Deliver i; says = says; answer = y } ∷ before) k link turns
renewed_held laws s says y before i k link turns x run is e =
    let w : WorldAt = world_after s before in
    let h : Happened = record { event = Deliver i; says = says; answer = y } in
    let was : IsRun s before = run_before s h before run in
    let r : Renewal s w i k link x = renewal_is s w i k link x e in
    let young : (w.time ≤ℤ (x.at +ℤ pos (frame_life s.cfg))) × (has_carrier s w k ≡ true) = renewal_young s w says i k link x run.accepted.0 r in
    let put_there : WasPutOut r.frame.sending (w.end_at r.frame.link r.frame.by).sent = laws.put s before i r.frame was r.there in
    let put_here : WasPutOut r.frame.sending (w.end_at k Master).sent =
    subst (λ b. WasPutOut r.frame.sending (w.end_at k b).sent) r.by_is (subst (λ l. WasPutOut r.frame.sending (w.end_at l r.frame.by).sent) r.link_is put_there) in
    let it : WasPut s before k Master x = was_put s before k Master x (subst (λ (z : Sending). WasPutOut z (w.end_at k Master).sent) r.sending_is put_here) in
    let handed : Handed s k link x.at (it.newer ++ it.older) =
    subst (Handed s k link x.at) it.splits (record { run = was; takes = r.renews.takes; young = young.0 }) in
    let lit : has_carrier s (world_after s (h ∷ before)) k ≡ true = all_given_carrier s y (given_by s w (moved s w (Deliver i)) says (Deliver i)) (moved s w (Deliver i)) k ∙ young.1 in
    record {
      announce = x;
      renewed = ap (λ o. option_or o (last_renewal s k link before)) e;
      certain = renewal_certain s w i k link x r;
      newer = h ∷ it.newer;
      older = it.older;
      splits = ap (λ l. h ∷ l) it.splits;
      in_it = it.in_it;
      carried = (subst (λ l. IsCarried s k (h ∷ l)) it.splits lit, carried_by laws s k link x it.newer it.older is it.in_it handed);
      late =
          subst (λ t. t ≤ℤ (x.at +ℤ pos (frame_life s.cfg + turns * longest_tick s.cfg))) (sym (same_last s h before link.lower tt))
          (in_life (w.clock link.lower).ticked w.time x.at (frame_life s.cfg) (turns * longest_tick s.cfg) (ticked_past laws.quiet.apart s before link.lower was) young.0);
    }

-- Every event

deliver_held : LeaseLaws → (s : Setting) (says : Result PtpMsg FrameFault) (y : ℤ) (before : List Happened) (i k : ℕ) (link : LinkCfg) (turns : ℕ) (o : Option Sending) → IsRun s (record { event = Deliver i; says = says; answer = y } ∷ before) →
    link_of s k ≡ Some link → renewal_in s (world_after s before) k link (Deliver i) ≡ o → turns_in s (world_step s says y (world_after s before) (Deliver i)) link ≡ Some turns →
    (turns_in s (world_after s before) link ≡ Some turns → Held s before k link turns) → Held s (record { event = Deliver i; says = says; answer = y } ∷ before) k link turns
deliver_held laws s says y before i k link turns (Some x) run is e t old = renewed_held laws s says y before i k link turns x run is e
deliver_held laws s says y before i k link turns None run is e t old =
    let slave : slave_of (s.set link.lower) ≡ Some link.lower_port = has_slave s run.network link.lower link (above_is s run.network k link is) in
    calm_held laws s (record { event = Deliver i; says = says; answer = y }) before k link turns run is tt e t
    (old (deliver_turns s run.network says y (world_after s before) i k link turns slave is e t))

plain_held : LeaseLaws → (s : Setting) (h : Happened) (before : List Happened) (k : ℕ) (link : LinkCfg) (turns : ℕ) → IsRun s (h ∷ before) → link_of s k ≡ Some link → IsPlainOf link.lower h.event →
    ((it : Held s before k link turns) → IsCalmOf link.lower h.event) → renewal_in s (world_after s before) k link h.event ≡ None → turns_in s (world_after s (h ∷ before)) link ≡ Some turns →
    (turns_in s (world_after s before) link ≡ Some turns → Held s before k link turns) → Held s (h ∷ before) k link turns
plain_held laws s h before k link turns run is plain calm none t old =
    let slave : slave_of (s.set link.lower) ≡ Some link.lower_port = has_slave s run.network link.lower link (above_is s run.network k link is) in
    let it : Held s before k link turns = old (plain_turns s h.says h.answer (world_after s before) h.event link turns slave plain t) in
    calm_held laws s h before k link turns run is (calm it) none t it

step_held : LeaseLaws → (s : Setting) (says : Result PtpMsg FrameFault) (y : ℤ) (before : List Happened) (e : Event) (k : ℕ) (link : LinkCfg) (turns : ℕ) → IsRun s (record { event = e; says = says; answer = y } ∷ before) →
    link_of s k ≡ Some link → turns_in s (world_step s says y (world_after s before) e) link ≡ Some turns → ((u : ℕ) → turns_in s (world_after s before) link ≡ Some u → Held s before k link u) →
    Held s (record { event = e; says = says; answer = y } ∷ before) k link turns
step_held laws s says y before (Tick m) k link turns run is t old =
    elim (eqb_tells link.lower m) [
      | inl x ↦ tick_held laws s says y before m k link turns run is x.1 t old
      | inr x ↦ plain_held laws s (record { event = Tick m; says = says; answer = y }) before k link turns run is x.1 (λ it. x.1) refl t (old turns)
    ]
step_held laws s says y before (Deliver i) k link turns run is t old =
    deliver_held laws s says y before i k link turns (renewal_in s (world_after s before) k link (Deliver i)) run is refl t (old turns)
step_held laws s says y before (Noise m p octets raw) k link turns run is t old =
    let slave : slave_of (s.set link.lower) ≡ Some link.lower_port = has_slave s run.network link.lower link (above_is s run.network k link is) in
    calm_held laws s (record { event = Noise m p octets raw; says = says; answer = y }) before k link turns run is tt refl t
    (old turns (noise_turns s says y (world_after s before) m p octets raw link turns slave run.accepted.0 t))
step_held laws s says y before (Up m off swaps) k link turns run is t old =
    plain_held laws s (record { event = Up m off swaps; says = says; answer = y }) before k link turns run is tt
    (λ it same.
    not_up ((world_after s before).clock link.lower).up (lower_up s before k link turns is it)
    (subst (λ n. not (not ((world_after s before).clock n).up) ≡ false) (sym same) (comes_up_down s (world_after s before) says m off swaps run.accepted.0)))
    refl t (old turns)
step_held laws s says y before (Pass dt drifts fibres) k link turns run is t old =
    plain_held laws s (record { event = Pass dt drifts fibres; says = says; answer = y }) before k link turns run is tt (λ it. tt) refl t (old turns)
step_held laws s says y before (Sample m base bits) k link turns run is t old =
    plain_held laws s (record { event = Sample m base bits; says = says; answer = y }) before k link turns run is tt (λ it. tt) refl t (old turns)
step_held laws s says y before (Depart m p stamp) k link turns run is t old =
    plain_held laws s (record { event = Depart m p stamp; says = says; answer = y }) before k link turns run is tt (λ it. tt) refl t (old turns)
step_held laws s says y before (Arrive i raw) k link turns run is t old =
    plain_held laws s (record { event = Arrive i raw; says = says; answer = y }) before k link turns run is tt (λ it. tt) refl t (old turns)
step_held laws s says y before (Down m) k link turns run is t old =
    plain_held laws s (record { event = Down m; says = says; answer = y }) before k link turns run is tt (λ it. tt) refl t (old turns)
step_held laws s says y before (Cut l) k link turns run is t old =
    plain_held laws s (record { event = Cut l; says = says; answer = y }) before k link turns run is tt (λ it. tt) refl t (old turns)
step_held laws s says y before (Join l ms sm) k link turns run is t old =
    plain_held laws s (record { event = Join l ms sm; says = says; answer = y }) before k link turns run is tt (λ it. tt) refl t (old turns)

held_all : LeaseLaws → (s : Setting) (events : List Happened) (k : ℕ) (link : LinkCfg) (turns : ℕ) → IsRun s events → link_of s k ≡ Some link → turns_in s (world_after s events) link ≡ Some turns → Held s events k link turns
held_all laws s [] k link turns run is t = absurd (none-some turns t)
held_all laws s (h ∷ before) k link turns run is t =
    step_held laws s h.says h.answer before h.event k link turns run is t (λ u was. held_all laws s before k link u (run_before s h before run) is was)

-- The parent

too_short : (b c moment : ℕ) → c ≤ b → moment ≡ suc b → moment ≡ c → ⊥
too_short b c moment h e f = omega (arith, h, e, f)

-- it was in TRACK at the tick at which it put out the Announce
first_follows : (s : Setting) (older : List Happened) (k : ℕ) (link : LinkCfg) (x : Sending) → link_of s k ≡ Some link → is_some (slave_of (s.set link.upper)) ≡ true → IsCertainAnnounce x.message → PutOutIn s older k Master x →
    FollowedAt s link.upper x.at ((world_after s older).clock link.upper).ticked ((world_after s older).node link.upper)
first_follows s [] k link x is servo certain put = absurd put.put
first_follows s (h ∷ before) k link x is servo certain put =
    let w : WorldAt = world_after s before in
    elim (certain_in s h.says h.answer w h.event k link x is certain put.put) [
      | inl old ↦
          let it : WasPut s before k Master x = was_put s before k Master x old in
          absurd (too_short (length before) (length it.older) x.moment
          (subst (λ l. length it.older ≤ length l) (sym it.splits) (rest_length it.newer it.older)) put.moment it.in_it.moment)
      | inr now ↦
          subst (λ e. FollowedAt s link.upper x.at ((world_step s h.says h.answer w e).clock link.upper).ticked ((world_step s h.says h.answer w e).node link.upper)) (sym now.0)
          (begins s h.says h.answer w link.upper x.at servo now.1)
    ]

follows_since : (s : Setting) (newer older : List Happened) (k : ℕ) (link : LinkCfg) (x : Sending) → IsRun s (newer ++ older) → link_of s k ≡ Some link → is_some (slave_of (s.set link.upper)) ≡ true → IsCertainAnnounce x.message → PutOutIn s older k Master x →
    AtEach (IsCarried s k) newer older → FollowedAt s link.upper x.at ((world_after s (newer ++ older)).clock link.upper).ticked ((world_after s (newer ++ older)).node link.upper)
follows_since s [] older k link x run is servo certain put carried = first_follows s older k link x is servo certain put
follows_since s (h ∷ newer) older k link x run is servo certain put carried =
    let before : List Happened = newer ++ older in
    let was : IsRun s before = run_before s h before run in
    next_follows s h before link.upper x.at servo run (both_nodes s (world_after s before) k link is (at_newest (IsCarried s k) newer older carried.1)).0
    (subst (λ t. t ≤ℤ (world_after s before).time) (sym put.at) (time_never_falls s newer older was))
    (follows_since s newer older k link x was is servo certain put carried.1)

-- HOLDOVER outlasts the lease
before_end : (at last now : ℤ) (life lease dmax wait : ℕ) → (lease + 1) * dmax + life < wait → last ≤ℤ now → now ≤ℤ (at +ℤ pos (lease * dmax + life)) → (at +ℤ pos wait) ≤ℤ last → ⊥
before_end at last now life lease dmax wait c2 past soon late =
    let more : (lease + 1) * dmax ≡ lease * dmax + dmax = grind (arith) in
    sum at last now life (lease * dmax) ((lease + 1) * dmax) dmax wait more c2 past soon late
  where
    sum : (at last now : ℤ) (life p q dmax wait : ℕ) → q ≡ p + dmax → q + life < wait → last ≤ℤ now → now ≤ℤ (at +ℤ pos (p + life)) → (at +ℤ pos wait) ≤ℤ last → ⊥
    sum at last now life p q dmax wait e c2 past soon late = omega (arith, ints)

pub some_holdover : (holdover a dmin : ℕ) → a < (holdover - 1) * dmin → 0 < holdover
some_holdover zero a dmin h = absurd (omega arith)
some_holdover (suc k) a dmin h = omega arith

source_by : LeaseLaws → (s : Setting) (a b older : List Happened) (k : ℕ) (link : LinkCfg) (x : Sending) (o : Option LinkCfg) → IsRun s (a ++ (b ++ older)) → link_of s k ≡ Some link → IsCertainAnnounce x.message → PutOutIn s older k Master x →
    AtEach (IsCarried s k) b older → (world_after s (a ++ (b ++ older))).time ≤ℤ (x.at +ℤ pos (lease_time s)) → link_above s.cfg link.upper ≡ o → HasSource s link (b ++ older)
source_by laws s a b older k link x None run is certain put carried soon above = inl above
source_by laws s a b older k link x (Some up) run is certain put carried soon above =
    let was : IsRun s (b ++ older) = older_run s a (b ++ older) run in
    let w : WorldAt = world_after s (b ++ older) in
    let now : WorldAt = world_after s (a ++ (b ++ older)) in
    let c2 : (unsigned_abs s.cfg.lease + 1) * longest_tick s.cfg + frame_life s.cfg < (unsigned_abs s.cfg.holdover - 1) * shortest_tick s.cfg = run.network.accepted.inequalities.holdover_time in
    let servo : is_some (slave_of (s.set link.upper)) ≡ true = has_servo s run.network link.upper up above in
    is_source laws.track laws.held s run.network w link.upper x.at servo
    (some_holdover (unsigned_abs s.cfg.holdover) ((unsigned_abs s.cfg.lease + 1) * longest_tick s.cfg + frame_life s.cfg) (shortest_tick s.cfg) c2)
    (follows_since s b older k link x was is servo certain put carried)
    (λ late.
    before_end x.at (w.clock link.upper).ticked now.time (frame_life s.cfg) (unsigned_abs s.cfg.lease) (longest_tick s.cfg) ((unsigned_abs s.cfg.holdover - 1) * shortest_tick s.cfg) c2
    (int_le_trans (w.clock link.upper).ticked w.time now.time (ticked_past laws.quiet.apart s (b ++ older) link.upper was) (time_never_falls s a (b ++ older) run)) soon late)

-- When the lease is fresh

fresh_turns : (lease : ℕ) (o : Option ℕ) → is_fresh_by lease o ≡ true → (turns : ℕ) × (o ≡ Some turns) × (turns < lease)
fresh_turns lease None e = absurd (let f : false ≡ true = e in cc)
fresh_turns lease (Some turns) e = (turns, refl, grind (arith, e))

in_lease : (now last at : ℤ) (life turns lease dmax : ℕ) → turns < lease → now ≤ℤ (last +ℤ pos dmax) → last ≤ℤ (at +ℤ pos (life + turns * dmax)) → now ≤ℤ (at +ℤ pos (lease * dmax + life))
in_lease now last at life turns lease dmax few h k =
    let more : (turns + 1) * dmax ≡ turns * dmax + dmax = grind (arith) in
    let fits : (turns + 1) * dmax ≤ lease * dmax = mul-le-mul_right dmax (omega (arith, few)) in
    sum now last at life (turns * dmax) ((turns + 1) * dmax) (lease * dmax) dmax more fits h k
  where
    sum : (now last at : ℤ) (life p q r dmax : ℕ) → q ≡ p + dmax → q ≤ r → now ≤ℤ (last +ℤ pos dmax) → last ≤ℤ (at +ℤ pos (life + p)) → now ≤ℤ (at +ℤ pos (r + life))
    sum now last at life p q r dmax e fits h k = omega (arith, ints)

pub lease_has_source : LeaseLaws → LeaseHasSource
lease_has_source laws s events k link run is fresh =
    let n : ℕ = link.lower in
    let w : WorldAt = world_after s events in
    let slave : slave_of (s.set n) ≡ Some link.lower_port = has_slave s run.network n link (above_is s run.network k link is) in
    let at_port : is_fresh (setting_of (s.set n) link.lower_port) ((w.node n).told link.lower_port) ≡ true = sym (ap (is_fresh_at (s.set n) (w.node n)) slave) ∙ fresh in
    let t : (turns : ℕ) × (turns_in s w link ≡ Some turns) × (turns < (setting_of (s.set n) link.lower_port).sched.lease) =
    fresh_turns (setting_of (s.set n) link.lower_port).sched.lease (turns_in s w link) at_port in
    let few : t.0 < unsigned_abs s.cfg.lease = subst (λ k2. t.0 < k2) (ap (λ (x : NodeSet). x.sched.lease) (run.network.set n)) t.2 in
    let it : Held s events k link t.0 = held_all laws s events k link t.0 run is t.1 in
    let soon : w.time ≤ℤ (it.announce.at +ℤ pos (lease_time s)) =
    in_lease w.time (w.clock n).ticked it.announce.at (frame_life s.cfg) t.0 (unsigned_abs s.cfg.lease) (longest_tick s.cfg) few
    (on_time laws.quiet.apart s events n (run.network.accepted.tree.ends k link is).1 run (lower_up s events k link t.0 is it)) it.late in
    record {
      announce = it.announce;
      renewed = it.renewed;
      certain = it.certain;
      newer = it.newer;
      older = it.older;
      splits = it.splits;
      put_out = it.in_it.put;
      moment = it.in_it.moment;
      at = it.in_it.at;
      recent = soon;
      carried = it.carried;
      source =
          at_each (HasSource s link) it.newer it.older
          (λ a b e.
          let all : events ≡ a ++ (b ++ it.older) = it.splits ∙ ap (λ l. l ++ it.older) e ∙ append_assoc a b it.older in
          source_by laws s a b it.older k link it.announce (link_above s.cfg link.upper) (subst (IsRun s) all run) is it.certain it.in_it
          (at_rest (IsCarried s k) a b it.older (subst (λ l. AtEach (IsCarried s k) l it.older) e it.carried))
          (subst (λ l. (world_after s l).time ≤ℤ (it.announce.at +ℤ pos (lease_time s))) all soon) refl);
    }
