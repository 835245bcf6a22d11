-- What an event puts out at an end of a link: what the steps of its node send at its port.
use Rattle.std.proofs.Common.{◌≡◌, ◌⊎◌, inl, inr, refl, ap, sym, subst, ℕ, ℤ, if◌then◌else◌, List, [], ◌∷◌, ◌++◌, map, Some, Result}
use Rattle.std.proofs.lemmas.Bool.Decides.{eqb_tells}
use Rattle.wrp_base.specs.declared.link.Role.{Role}
use Rattle.wrp_base.specs.declared.message.PtpMsg.{PtpMsg}
use Rattle.wrp_network.specs.declared.network.LinkCfg.{LinkCfg}
use Rattle.wrp_network.specs.Network.{End}
use Rattle.wrp_frame.specs.declared.fault.FrameFault.{FrameFault}
use Rattle.wrp_node.specs.declared.interface.Input.{Input}
use Rattle.wrp_node.specs.declared.interface.Input.TheVariants.{Tick as TickInput}
use Rattle.wrp_node.specs.Telling.{Step}
use Rattle.wrp_course.specs.declared.event.Event.{Event}
use Rattle.wrp_course.specs.declared.event.Event.TheVariants.{Tick}
use Rattle.wrp_course.proofs.RunFlights.{put_either}
use Rattle.wrp_course.specs.Given.{Given, end_given, given_by, given_plain, gives, gives_all, sending, step_of, world_step}
use Rattle.wrp_course.specs.Moved.{moved}
use Rattle.wrp_course.specs.Run.{Happened, world_after}
use Rattle.wrp_course.specs.Runs.{WasPutOut}
use Rattle.wrp_course.specs.Setting.{Setting, end_of, link_of}
use Rattle.wrp_course.specs.WorldAt.{EndAt, Sending, WorldAt}
use Rattle.wrp_course.proofs.RunFrames.{moved_sent, sent_stays, new_put}
use Rattle.wrp_course.proofs.RunGiven.{end_is}
use Rattle.wrp_course.proofs.RunPorts.{told_end}
use Rattle.wrp_course.proofs.RunSent.{told_there}
use Rattle.wrp_bound_laws.proofs.Nodes.Inputs.{GivesTo, To, gives_to}

-- An end of a link is as it was, or what its node's step sends is put out there

pub given_put : (s : Setting) (y : ℤ) (v : WorldAt) (g : Given) (k : ℕ) (r : Role) (link : LinkCfg) (x : Sending) → link_of s k ≡ Some link → WasPutOut x ((gives s y v g).end_at k r).sent →
    WasPutOut x (v.end_at k r).sent ⊎ (((end_of r link).node ≡ g.to) × WasPutOut x (map (sending v) ((step_of s y v g).sends (end_of r link).port)))
given_put s y v g k r link x is h =
    told_there (λ e. WasPutOut x e.sent → WasPutOut x (v.end_at k r).sent ⊎ (((end_of r link).node ≡ g.to) × WasPutOut x (map (sending v) ((step_of s y v g).sends (end_of r link).port)))) s y v g k r link is
    (λ old. inl old)
    (λ here put. elim (put_either x (map (sending v) ((step_of s y v g).sends (end_of r link).port)) (v.end_at k r).sent put) [
      | inl new ↦ inr (here, new)
      | inr old ↦ inl old
    ]) h

pub moved_back : (s : Setting) (w : WorldAt) (e : Event) (k : ℕ) (r : Role) (x : Sending) → WasPutOut x ((moved s w e).end_at k r).sent → WasPutOut x (w.end_at k r).sent
moved_back s w e k r x h = subst (WasPutOut x) (moved_sent s w e k r) h

-- An event

-- inputs at which no step of the node sends it
abbrev NoneOf : (Input → Type 0) → Setting → ℤ → Role → LinkCfg → Sending → Type 0
NoneOf Q s y r link x = (v : WorldAt) (g : Given) → Q g.input → WasPutOut x (map (sending v) ((step_of s y v g).sends (end_of r link).port)) → ⊥

none_given : (Q : Input → Type 0) (s : Setting) (y : ℤ) (gs : List Given) (v : WorldAt) (k : ℕ) (r : Role) (link : LinkCfg) (x : Sending) → link_of s k ≡ Some link → NoneOf Q s y r link x → To Q (end_of r link).node gs →
    WasPutOut x ((gives_all s y v gs).end_at k r).sent → WasPutOut x (v.end_at k r).sent
none_given Q s y [] v k r link x is none to h = h
none_given Q s y (g ∷ gs) v k r link x is none to h =
    elim (given_put s y v g k r link x is (none_given Q s y gs (gives s y v g) k r link x is none to.1 h)) [
      | inl old ↦ old
      | inr new ↦ absurd (none v g (to.0 new.0) new.1)
    ]

-- an event that gives the node only such inputs does not put it out
pub none_put : (Q : Input → Type 0) (s : Setting) (says : Result PtpMsg FrameFault) (y : ℤ) (w : WorldAt) (e : Event) (k : ℕ) (r : Role) (link : LinkCfg) (x : Sending) → link_of s k ≡ Some link → NoneOf Q s y r link x → GivesTo Q (end_of r link).node e →
    WasPutOut x ((world_step s says y w e).end_at k r).sent → WasPutOut x (w.end_at k r).sent
none_put Q s says y w e k r link x is none to h =
    moved_back s w e k r x (none_given Q s y (given_by s w (moved s w e) says e) (moved s w e) k r link x is none (gives_to Q s w (moved s w e) says (end_of r link).node e to) h)

-- at a tick of the node
pub tick_put : (s : Setting) (says : Result PtpMsg FrameFault) (y : ℤ) (w : WorldAt) (k : ℕ) (r : Role) (link : LinkCfg) (x : Sending) → link_of s k ≡ Some link → WasPutOut x ((world_step s says y w (Tick (end_of r link).node)).end_at k r).sent →
    WasPutOut x (w.end_at k r).sent ⊎ WasPutOut x (map (sending (moved s w (Tick (end_of r link).node))) ((step_of s y (moved s w (Tick (end_of r link).node)) (given_plain (end_of r link).node TickInput)).sends (end_of r link).port))
tick_put s says y w k r link x is h =
    elim (given_put s y (moved s w (Tick (end_of r link).node)) (given_plain (end_of r link).node TickInput) k r link x is h) [
      | inl old ↦ inl (moved_back s w (Tick (end_of r link).node) k r x old)
      | inr new ↦ inr new.1
    ]

pub tick_puts : (s : Setting) (says : Result PtpMsg FrameFault) (y : ℤ) (w : WorldAt) (k : ℕ) (r : Role) (link : LinkCfg) (x : Sending) → link_of s k ≡ Some link →
    WasPutOut x (map (sending (moved s w (Tick (end_of r link).node))) ((step_of s y (moved s w (Tick (end_of r link).node)) (given_plain (end_of r link).node TickInput)).sends (end_of r link).port)) →
    WasPutOut x ((world_step s says y w (Tick (end_of r link).node)).end_at k r).sent
tick_puts s says y w k r link x is h =
    let end : End = end_of r link in
    let v : WorldAt = moved s w (Tick end.node) in
    let g : Given = given_plain end.node TickInput in
    let step : Step = step_of s y v g in
    subst (λ (e : EndAt). WasPutOut x e.sent) (sym (ap (told_end s v g step k r) (end_is s k r link is)))
    (elim (eqb_tells end.node end.node) [
      | inl there ↦
          subst (λ b. WasPutOut x (if b then end_given s v g step k r end.port else v.end_at k r).sent) (sym there.0)
          (new_put x (map (sending v) (step.sends end.port)) (v.end_at k r).sent h)
      | inr away ↦ absurd (away.1 refl)
    ])

-- What was put out stays so

all_stay : (s : Setting) (y : ℤ) (gs : List Given) (v : WorldAt) (k : ℕ) (r : Role) (x : Sending) → WasPutOut x (v.end_at k r).sent → WasPutOut x ((gives_all s y v gs).end_at k r).sent
all_stay s y [] v k r x h = h
all_stay s y (g ∷ gs) v k r x h = all_stay s y gs (gives s y v g) k r x (sent_stays s y v g k r x h)

pub put_stays : (s : Setting) (h : Happened) (before : List Happened) (k : ℕ) (r : Role) (x : Sending) → WasPutOut x ((world_after s before).end_at k r).sent → WasPutOut x ((world_after s (h ∷ before)).end_at k r).sent
put_stays s h before k r x put =
    let w : WorldAt = world_after s before in
    all_stay s h.answer (given_by s w (moved s w h.event) h.says h.event) (moved s w h.event) k r x (subst (WasPutOut x) (sym (moved_sent s w h.event k r)) put)

pub put_since : (s : Setting) (newer older : List Happened) (k : ℕ) (r : Role) (x : Sending) → WasPutOut x ((world_after s older).end_at k r).sent → WasPutOut x ((world_after s (newer ++ older)).end_at k r).sent
put_since s [] older k r x put = put
put_since s (h ∷ newer) older k r x put = put_stays s h (newer ++ older) k r x (put_since s newer older k r x put)
