-- A port in WR_LINK_ON has earned it, and what is reported to be in WR_LINK_ON in an event is there after it.
use Rattle.std.proofs.Common.{◌≡◌, ◌∙◌, refl, ap, sym, subst, ℕ, ℤ, ◌==◌, Bool, true, false, if◌then◌else◌, List, [], ◌∷◌, Option, None, Some, is_some, Result}
use Rattle.std.specs.List.{AllByRecursion, list_any}
use Rattle.std.specs.Option.{option_map_or}
use Rattle.std.proofs.lemmas.Option.{same_Some}
use Rattle.wrp_base.specs.declared.link.LinkState.TheVariants.{LinkOn}
use Rattle.wrp_base.specs.declared.link.LinkWord.TheVariants.{In}
use Rattle.wrp_base.specs.declared.link.Role.{Role}
use Rattle.wrp_base.specs.declared.link.Role.TheVariants.{Master, Slave}
use Rattle.wrp_base.specs.declared.message.PtpMsg.{PtpMsg}
use Rattle.wrp_network.specs.declared.network.LinkCfg.{LinkCfg}
use Rattle.wrp_network.specs.Network.{End}
use Rattle.wrp_base.specs.Link.{other_of}
use Rattle.wrp_base.proofs.Lists.{all_weaker}
use Rattle.wrp_base.proofs.Naturals.{eq_self}
use Rattle.wrp_frame.specs.declared.fault.FrameFault.{FrameFault}
use Rattle.wrp_node.specs.declared.interface.NodeSet.{NodeSet}
use Rattle.wrp_node.specs.declared.interface.Output.{Output}
use Rattle.wrp_node.specs.declared.interface.Output.TheVariants.{Report}
use Rattle.wrp_node.specs.declared.interface.Report.TheVariants.{Link}
use Rattle.wrp_node.specs.LinkNews.{StepGivesLinks}
use Rattle.wrp_node.specs.NodeAt.{NodeAt, link_at, numbers_of}
use Rattle.wrp_course.specs.declared.event.Event.{Event}
use Rattle.wrp_course.specs.declared.event.Event.TheVariants.{Pass, Tick, Sample, Depart, Arrive, Deliver, Noise, Down, Up, Cut, Join}
use Rattle.wrp_course.specs.declared.place.Place.{Place}
use Rattle.wrp_course.specs.Earned.{AllHaveEarned, AreTrueReports, IsEarnedReport, EveryLinkOnIsEarned, ReportsAreTrue}
use Rattle.wrp_course.specs.Setting.{has_port}
use Rattle.wrp_course.proofs.DroppedFrames.{NoFrame}
use Rattle.wrp_course.specs.Given.{Given, comes_from, delivered, delivered_by, delivered_to, event_steps, given_by, gives, gives_all, goes_from, node_step_of, step_of, steps_of, taken_of, world_step}
use Rattle.wrp_course.specs.Moved.{moved, waiting_at}
use Rattle.wrp_course.specs.Run.{world_after}
use Rattle.wrp_course.specs.Runs.{IsNetwork}
use Rattle.wrp_course.specs.SameHandshake.{LinkOnInTheSameHandshake, LinkOnWithTheDeltas, state_at}
use Rattle.wrp_course.specs.Setting.{Setting, end_at, end_of, node_setting_of, place_of}
use Rattle.wrp_course.specs.WorldAt.{Arrival, FrameAt, WorldAt, has_carrier}
use Rattle.wrp_course.proofs.PortNumbers.{has-place}
use Rattle.wrp_course.proofs.RunGifts.{AllGiven, all_if, comes_all, goes_all, ports_all, sent_all}
use Rattle.wrp_course.proofs.RunNetwork.{LinkEnd, end_with, place_end}
use Rattle.wrp_course.proofs.WordReports.{NotOn, WordSo, outputs_so, quiet_step, word_on}

-- Ports in WR_LINK_ON

slave_on : (s : Setting) (w : WorldAt) (n p : ℕ) (r : Role) (own link : LinkCfg) → end_of r own ≡ end_with n p → own ≡ link → r ≡ Slave → state_at s w n p ≡ LinkOn →
    (link_at (s.set (end_of Slave link).node) (w.node (end_of Slave link).node) (end_of Slave link).port).state ≡ LinkOn
slave_on s w n p r own link at same slave on =
    let is : end_of Slave link ≡ end_with n p = ap (end_of Slave) (sym same) ∙ ap (λ (q : Role). end_of q own) (sym slave) ∙ at in
    subst (λ (end : End). (link_at (s.set end.node) (w.node end.node) end.port).state ≡ LinkOn) (sym is) on

pub link_on_is_earned : LinkOnInTheSameHandshake → LinkOnWithTheDeltas → EveryLinkOnIsEarned
link_on_is_earned handshake deltas s events run n p place at on = record {
  handshake = handshake s events n p place run at on;
  deltas = λ link slave is.
      let it : LinkEnd s place.link place.role (end_with n p) = place_end s n p place at in
      deltas s events place.link link run is
      (slave_on s (world_after s events) n p place.role it.link link it.end_is (same_Some it.link link (sym it.there ∙ is)) slave on);
}

-- Inputs that are no frames

true_report : (s : Setting) (w : WorldAt) (n : ℕ) (o : Output) → NotOn o → IsEarnedReport s w n o
true_report s w n (Report (Link p (In LinkOn))) h = absurd h
true_report s w n _ h = tt

quiet_steps : StepGivesLinks → (s : Setting) (y : ℤ) (w : WorldAt) (gs : List Given) (v : WorldAt) → AllGiven NoFrame gs → AllByRecursion (AreTrueReports s w) (steps_of s y v gs)
quiet_steps links s y w [] v h = tt
quiet_steps links s y w (g ∷ gs) v h = (
  all_weaker NotOn (IsEarnedReport s w g.to) (true_report s w g.to) (node_step_of s y v g).outs (quiet_step links (node_setting_of s g.to) (taken_of y g) (v.node g.to) h.0),
  quiet_steps links s y w gs (gives s y v g) h.1,
)

-- A frame, which is the only input of its event

is_place : (o : Option Place) → is_some o ≡ true → (place : Place) × (o ≡ Some place)
is_place None e = absurd (let f : false ≡ true = e in cc)
is_place (Some place) e = (place, refl)

placed_port : (s : Setting) (n p : ℕ) → IsNetwork s → list_any (λ q. q == p) (numbers_of (s.set n)) ≡ true → (place : Place) × (place_of s n p ≡ Some place)
placed_port s n p net among =
    let own : has_port s.cfg n p ≡ true = subst (λ (set : NodeSet). list_any (λ q. q == p) (numbers_of set) ≡ true) (net.set n) among in
    is_place (place_of s n p) (sym (has-place s.cfg n p) ∙ own)

node_here : (s : Setting) (y : ℤ) (v : WorldAt) (g : Given) → (gives s y v g).node g.to ≡ (step_of s y v g).node
node_here s y v g = ap (λ (b : Bool). if b then (step_of s y v g).node else v.node g.to) (eq_self g.to)

reported : (s : Setting) (y : ℤ) (v : WorldAt) (g : Given) → IsNetwork s → AllHaveEarned s (gives s y v g) → (o : Output) → WordSo (node_setting_of s g.to) (v.node g.to) (step_of s y v g) o →
    IsEarnedReport s (gives s y v g) g.to o
reported s y v g net earned (Report (Link p (In LinkOn))) h =
    let at : (place : Place) × (place_of s g.to p ≡ Some place) = placed_port s g.to p net h.port in
    let on : state_at s (gives s y v g) g.to p ≡ LinkOn =
    ap (λ (n : NodeAt). (link_at (s.set g.to) n p).state) (node_here s y v g) ∙ (word_on (link_at (s.set g.to) (step_of s y v g).node p) h.is).on in
    record { place = at.0; placed = at.1; on = on; earned = earned g.to p at.0 at.1 on }
reported s y v g net earned _ h = tt

one_step : (s : Setting) (y : ℤ) (v : WorldAt) (g : Given) → IsNetwork s → AllHaveEarned s (gives s y v g) → AllByRecursion (AreTrueReports s (gives s y v g)) (steps_of s y v (g ∷ []))
one_step s y v g net earned = (
  all_weaker (WordSo (node_setting_of s g.to) (v.node g.to) (step_of s y v g)) (IsEarnedReport s (gives s y v g) g.to) (reported s y v g net earned) (node_step_of s y v g).outs
      (outputs_so (node_setting_of s g.to) g.input (v.node g.to) (step_of s y v g)),
  tt,
)

abbrev TrueSteps : Setting → ℤ → WorldAt → List Given → Type 0
TrueSteps s y v gs = AllHaveEarned s (gives_all s y v gs) → AllByRecursion (AreTrueReports s (gives_all s y v gs)) (steps_of s y v gs)

handed_steps : (s : Setting) (y : ℤ) (v : WorldAt) (f : FrameAt) (arrival : Arrival) (o : Option End) → IsNetwork s → TrueSteps s y v (option_map_or (λ end. delivered_to f arrival end.node end.port) o [])
handed_steps s y v f arrival None net earned = tt
handed_steps s y v f arrival (Some end) net earned = one_step s y v _ net earned

arrived_steps : (s : Setting) (y : ℤ) (v : WorldAt) (f : FrameAt) (o : Option Arrival) → IsNetwork s → TrueSteps s y v (delivered_by s f o)
arrived_steps s y v f None net earned = tt
arrived_steps s y v f (Some arrival) net earned = handed_steps s y v f arrival (end_at s f.link (other_of f.by)) net earned

delivered_steps : (s : Setting) (y : ℤ) (v : WorldAt) (o : Option FrameAt) → IsNetwork s → TrueSteps s y v (delivered s o)
delivered_steps s y v None net earned = tt
delivered_steps s y v (Some f) net earned = arrived_steps s y v f f.arrival net earned

-- Each event

quiet : StepGivesLinks → (s : Setting) (says : Result PtpMsg FrameFault) (y : ℤ) (w : WorldAt) (e : Event) → AllGiven NoFrame (given_by s w (moved s w e) says e) →
    AllByRecursion (AreTrueReports s (world_step s says y w e)) (event_steps s says y w e)
quiet links s says y w e h = quiet_steps links s y (world_step s says y w e) (given_by s w (moved s w e) says e) (moved s w e) h

event_true : StepGivesLinks → (s : Setting) (says : Result PtpMsg FrameFault) (y : ℤ) (w : WorldAt) (e : Event) → IsNetwork s → AllHaveEarned s (world_step s says y w e) →
    AllByRecursion (AreTrueReports s (world_step s says y w e)) (event_steps s says y w e)
event_true links s says y w (Pass dt drifts fibres) net earned = tt
event_true links s says y w (Tick n) net earned = quiet links s says y w (Tick n) (refl, tt)
event_true links s says y w (Sample n base bits) net earned = quiet links s says y w (Sample n base bits) (refl, tt)
event_true links s says y w (Depart n p stamp) net earned =
    quiet links s says y w (Depart n p stamp) (sent_all NoFrame (λ q seq delay t. refl) n p stamp (w.clock n).samples (waiting_at w (place_of s n p)))
event_true links s says y w (Arrive i raw) net earned = tt
event_true links s says y w (Deliver i) net earned = delivered_steps s y (moved s w (Deliver i)) (w.frame i) net earned
event_true links s says y w (Noise n p octets raw) net earned = one_step s y (moved s w (Noise n p octets raw)) _ net earned
event_true links s says y w (Down n) net earned =
    quiet links s says y w (Down n) (ports_all NoFrame s w (goes_from s) n (numbers_of (s.set n)) (goes_all NoFrame (λ p. refl) s))
event_true links s says y w (Up n off swaps) net earned =
    let v : WorldAt = moved s w (Up n off swaps) in
    quiet links s says y w (Up n off swaps) (refl, ports_all NoFrame s v (comes_from s v) n (numbers_of (s.set n)) (comes_all NoFrame (λ p m. refl) s v))
event_true links s says y w (Cut k) net earned =
    quiet links s says y w (Cut k) (all_if NoFrame (has_carrier s w k) (goes_from s k Master) (goes_all NoFrame (λ p. refl) s k Master))
event_true links s says y w (Join k ms sm) net earned =
    let v : WorldAt = moved s w (Join k ms sm) in
    quiet links s says y w (Join k ms sm) (all_if NoFrame (has_carrier s v k) (comes_from s v k Master) (comes_all NoFrame (λ p m. refl) s v k Master))

pub reports_are_true : StepGivesLinks → EveryLinkOnIsEarned → ReportsAreTrue
reports_are_true links earned s h before run =
    event_true links s h.says h.answer (world_after s before) h.event run.network (earned s (h ∷ before) run)
