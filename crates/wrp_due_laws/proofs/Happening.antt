-- What the octets of an event say, and the answer of the links' laws with which it can come: after the first input
-- of an event no frame is given.
use Rattle.std.proofs.Common.{◌≡◌, ◌⊎◌, inl, inr, refl, sym, subst, ap, ℕ, ℤ, pos, ◌==◌, Bool, true, false, if◌then◌else◌, List, [], ◌∷◌, Option, None, Some, option_map, Result, Err}
use Rattle.std.specs.Option.{option_map_or}
use Rattle.std.proofs.lemmas.Bool.{eqb-true}
use Rattle.wrp_base.specs.declared.link.Role.TheVariants.{Master}
use Rattle.wrp_base.specs.declared.message.Body.{Body}
use Rattle.wrp_base.specs.declared.message.Body.TheVariants.{Sync, DelayReq, FollowUp, DelayResp, Announce, Signal}
use Rattle.wrp_base.specs.declared.message.PtpMsg.{PtpMsg}
use Rattle.wrp_network.specs.Network.{End}
use Rattle.wrp_base.specs.Link.{other_of}
use Rattle.wrp_frame.specs.declared.fault.FrameFault.{FrameFault}
use Rattle.wrp_frame.specs.declared.fault.FrameFault.TheVariants.{Short}
use Rattle.wrp_node.specs.NodeAt.{numbers_of, servo_setting_of}
use Rattle.wrp_node.specs.OneRun.{answers_by}
use Rattle.wrp_node.specs.StepLaws.{is_frame}
use Rattle.wrp_servo.specs.Servo.{AllAnswered}
use Rattle.wrp_course.specs.declared.breach.Breach.{Breach}
use Rattle.wrp_course.specs.declared.event.Event.{Event}
use Rattle.wrp_course.specs.declared.event.Event.TheVariants.{Pass, Tick, Sample, Depart, Arrive, Deliver, Noise, Down, Up, Cut, Join}
use Rattle.wrp_course.specs.Checks.{Check, breach_of, first_broken, told_of}
use Rattle.wrp_course.specs.Given.{Given, at_ports, comes_from, delivered, delivered_by, delivered_to, given_by, gives, gives_all, goes_from, sent_oldest, step_of, taken_of, told_sending, world_step}
use Rattle.wrp_course.specs.Moved.{moved, waiting_at}
use Rattle.wrp_course.specs.Premises.{Accepts, checks_of}
use Rattle.wrp_course.specs.Run.{IsAnswered, IsSaid}
use Rattle.wrp_course.specs.Setting.{Setting, end_at, node_setting_of, place_of}
use Rattle.wrp_course.specs.WorldAt.{Arrival, FrameAt, Sending, WorldAt, has_carrier}
use Rattle.wrp_course.proofs.Unbroken.{accepted_is_unbroken}
use Rattle.wrp_due_laws.proofs.Measuring.{plain_answered, step_answered}
use Rattle.wrp_frame.proofs.Saying.{each_says}
use Rattle.wrp_course.proofs.RunGifts.{AllGiven, all_if, comes_all, goes_all, ports_all}
use Rattle.wrp_node.specs.declared.interface.Input.{Input}

-- What the octets of an event say

pub event_said : (e : Event) → (says : Result PtpMsg FrameFault) × IsSaid e says
event_said (Noise n p octets raw) = each_says octets.items
event_said (Pass dt drifts fibres) = (Err Short, tt)
event_said (Tick n) = (Err Short, tt)
event_said (Sample n base bits) = (Err Short, tt)
event_said (Depart n p stamp) = (Err Short, tt)
event_said (Arrive i raw) = (Err Short, tt)
event_said (Deliver i) = (Err Short, tt)
event_said (Down n) = (Err Short, tt)
event_said (Up n off swaps) = (Err Short, tt)
event_said (Cut k) = (Err Short, tt)
event_said (Join k ms sm) = (Err Short, tt)

-- Inputs that are no frames

abbrev NoFrame : Input → Type 0
NoFrame x = is_frame x ≡ false

abbrev ArePlain : List Given → Type 0
ArePlain gs = AllGiven NoFrame gs

-- all inputs after the first are not frames
abbrev FirstAlone : List Given → Type 0
FirstAlone [] = Unit {0}
FirstAlone (g ∷ gs) = ArePlain gs

first_if : (gs : List Given) → ArePlain gs → FirstAlone gs
first_if [] h = tt
first_if (g ∷ gs) h = h.1

told_alone : (n p seq : ℕ) (stamp : ℤ) (samples : ℕ) (body : Body) → FirstAlone (told_sending n p seq stamp samples body)
told_alone n p seq stamp samples (Sync origin) = tt
told_alone n p seq stamp samples (DelayReq origin) = tt
told_alone n p seq stamp samples (FollowUp precise) = tt
told_alone n p seq stamp samples (DelayResp receive requesting) = tt
told_alone n p seq stamp samples (Announce origin utc p1 quality p2 gm steps source suffix) = tt
told_alone n p seq stamp samples (Signal target message) = tt

oldest_alone : (n p : ℕ) (stamp : ℤ) (samples : ℕ) (waiting : List Sending) → FirstAlone (sent_oldest n p stamp samples waiting)
oldest_alone n p stamp samples [] = tt
oldest_alone n p stamp samples (oldest ∷ rest) = told_alone n p oldest.message.head.seq stamp samples oldest.message.body

arrival_alone : (f : FrameAt) (a : Arrival) (o : Option End) → FirstAlone (option_map_or (λ (end : End). delivered_to f a end.node end.port) o [])
arrival_alone f a None = tt
arrival_alone f a (Some end) = tt

delivery_alone : (s : Setting) (f : FrameAt) (o : Option Arrival) → FirstAlone (delivered_by s f o)
delivery_alone s f None = tt
delivery_alone s f (Some a) = arrival_alone f a (end_at s f.link (other_of f.by))

frame_alone : (s : Setting) (o : Option FrameAt) → FirstAlone (delivered s o)
frame_alone s None = tt
frame_alone s (Some f) = delivery_alone s f f.arrival

given_alone : (s : Setting) (w v : WorldAt) (says : Result PtpMsg FrameFault) (e : Event) → FirstAlone (given_by s w v says e)
given_alone s w v says (Pass dt drifts fibres) = tt
given_alone s w v says (Tick n) = tt
given_alone s w v says (Sample n base bits) = tt
given_alone s w v says (Depart n p stamp) = oldest_alone n p stamp (w.clock n).samples (waiting_at w (place_of s n p))
given_alone s w v says (Arrive i raw) = tt
given_alone s w v says (Deliver i) = frame_alone s (w.frame i)
given_alone s w v says (Noise n p octets raw) = tt
given_alone s w v says (Down n) =
    first_if (at_ports s w (goes_from s) n) (ports_all NoFrame s w (goes_from s) n (numbers_of (s.set n)) (goes_all NoFrame (λ p. refl) s))
given_alone s w v says (Up n off swaps) = ports_all NoFrame s v (comes_from s v) n (numbers_of (s.set n)) (comes_all NoFrame (λ p m. refl) s v)
given_alone s w v says (Cut k) =
    first_if (if has_carrier s w k then goes_from s k Master else [])
    (all_if NoFrame (has_carrier s w k) (goes_from s k Master) (goes_all NoFrame (λ p. refl) s k Master))
given_alone s w v says (Join k ms sm) =
    first_if (if has_carrier s v k then comes_from s v k Master else [])
    (all_if NoFrame (has_carrier s v k) (comes_from s v k Master) (comes_all NoFrame (λ p m. refl) s v k Master))

-- The answers of the laws, which are functions

-- each answer to a measurement is the answer of its link's law, by the node below the link
abbrev pub AnsweredBy : (ℕ → ℤ → ℤ) → Setting → WorldAt → Type 0
AnsweredBy law s w = IsAnswered (λ n. answers_by (law n)) s w

given_answered : (law : ℕ → ℤ → ℤ) (s : Setting) (y : ℤ) (v : WorldAt) (g : Given) → AllAnswered (answers_by (law g.to)) (servo_setting_of (node_setting_of s g.to)) (step_of s y v g).node.calls
    → AnsweredBy law s v → AnsweredBy law s (gives s y v g)
given_answered law s y v g step before n = go (n == g.to) refl
  where
    go : (b : Bool) → (n == g.to) ≡ b → AllAnswered (answers_by (law n)) (servo_setting_of (node_setting_of s n)) (if b then (step_of s y v g).node else v.node n).calls
    go true is =
        subst (λ (m : ℕ). AllAnswered (answers_by (law m)) (servo_setting_of (node_setting_of s m)) (step_of s y v g).node.calls) (sym (eqb-true n g.to is)) step
    go false is = before n

plain_all : (law : ℕ → ℤ → ℤ) (s : Setting) (y : ℤ) (v : WorldAt) (gs : List Given) → ArePlain gs → AnsweredBy law s v → AnsweredBy law s (gives_all s y v gs)
plain_all law s y v [] plain h = h
plain_all law s y v (g ∷ gs) plain h =
    plain_all law s y (gives s y v g) gs plain.1
    (given_answered law s y v g (plain_answered (answers_by (law g.to)) (node_setting_of s g.to) (taken_of y g) (v.node g.to) plain.0 (h g.to)) h)

given_all : (law : ℕ → ℤ → ℤ) (s : Setting) (v : WorldAt) (gs : List Given) → FirstAlone gs → AnsweredBy law s v → (y : ℤ) × AnsweredBy law s (gives_all s y v gs)
given_all law s v [] alone h = (pos 0, h)
given_all law s v (g ∷ gs) alone h =
    let due = step_answered (law g.to) (node_setting_of s g.to) g.input g.says (v.node g.to) (h g.to) in
    (due.0, plain_all law s due.0 (gives s due.0 v g) gs alone (given_answered law s due.0 v g due.1 h))

-- an event can come with an answer of the laws
pub event_answered : (law : ℕ → ℤ → ℤ) (s : Setting) (w : WorldAt) (says : Result PtpMsg FrameFault) (e : Event) → AnsweredBy law s w → (y : ℤ) × AnsweredBy law s (world_step s says y w e)
event_answered law s w says e h = given_all law s (moved s w e) (given_by s w (moved s w e) says e) (given_alone s w (moved s w e) says e) (λ n. h n)

-- Premises: an event keeps all premises, or one of them is the first that it breaks

tried_as : (checks : List Check) (o : Option Check) → first_broken checks ≡ o → (first_broken checks ≡ None) ⊎ ((breach : Breach) × (told_of checks ≡ Some breach))
tried_as checks None is = inl is
tried_as checks (Some check) is = inr (breach_of check, ap (λ (o : Option Check). option_map breach_of o) is)

pub event_tried : (s : Setting) (w : WorldAt) (says : Result PtpMsg FrameFault) (e : Event) → Accepts s w says e ⊎ ((breach : Breach) × (told_of (checks_of s w says e) ≡ Some breach))
event_tried s w says e =
    elim (tried_as (checks_of s w says e) (first_broken (checks_of s w says e)) refl) [
      | inl none ↦ inl ((accepted_is_unbroken s w says e).1 none)
      | inr broken ↦ inr broken
    ]
