-- What a rule gave, and what the rules give one after another.
use Rattle.std.proofs.Common.{◌≡◌, ◌∙◌, refl, ap, sym, subst, Bool, true, false, List, [], ◌∷◌, Option, None, Some}
use Rattle.wrp_course.specs.declared.event.Event.{Event}
use Rattle.wrp_sim.specs.Rules.{Next, comes, first_of}
use Rattle.wrp_sim.specs.declared.sim.state.State.{State}
use Rattle.wrp_sim.specs.Sim.{Gave, SimIs, put}
use Rattle.wrp_sim.specs.SimAt.{SimAt}

-- a rule that gave nothing does not apply
pub no_rule : (stays : SimAt) (rule : Option Next) (sim : State) → Gave stays rule None sim → rule ≡ None
no_rule stays None sim h = refl
no_rule stays (Some next) sim h = absurd h

pub stayed : (stays : SimAt) (rule : Option Next) (sim : State) → Gave stays rule None sim → SimIs stays sim
stayed stays None sim h = h
stayed stays (Some next) sim h = absurd h

-- the first rule gave an event
pub by_first : (stays : SimAt) (rule : Option Next) (rules : List (Option Next)) (event : Event) (sim : State) →
    Gave stays rule (Some event) sim → Gave stays (first_of (rule ∷ rules)) (Some event) sim
by_first stays None rules event sim h = absurd h
by_first stays (Some next) rules event sim h = h

-- what the rules after it gave
pub by_later : (stays : SimAt) (rule : Option Next) (rules : List (Option Next)) (event : Option Event) (sim : State) →
    rule ≡ None → Gave stays (first_of rules) event sim → Gave stays (first_of (rule ∷ rules)) event sim
by_later stays rule rules event sim e h = subst (λ r. Gave stays (first_of (r ∷ rules)) event sim) (sym e) h

pub by_last : (stays : SimAt) (rule : Option Next) (event : Option Event) (sim : State) →
    Gave stays rule event sim → Gave stays (first_of (rule ∷ [])) event sim
by_last stays None None sim h = h
by_last stays None (Some event) sim h = absurd h
by_last stays (Some next) event sim h = h

-- if a rule gave an event, it does not matter what stays
pub whatever_stays : (a b : SimAt) (rule : Option Next) (event : Event) (sim : State) → Gave a rule (Some event) sim → Gave b rule (Some event) sim
whatever_stays a b None event sim h = absurd h
whatever_stays a b (Some next) event sim h = h

pub gives_same : (stays : SimAt) (a b : Option Next) (event : Option Event) (sim : State) → a ≡ b → Gave stays a event sim → Gave stays b event sim
gives_same stays a b event sim e h = subst (λ r. Gave stays r event sim) e h

-- a rule that gave no event leaves everything to the rules after it
pub passes_on : (stays : SimAt) (rule : Option Next) (event : Option Event) (sim : State) → event ≡ None → Gave stays rule event sim → (rule ≡ None) × SimIs stays sim
passes_on stays rule event sim e h =
    let gave : Gave stays rule None sim = subst (λ x. Gave stays rule x sim) e h in
    (no_rule stays rule sim gave, stayed stays rule sim gave)

pub gave_none : (at : SimAt) (rule : Option Next) (sim : State) → rule ≡ None → SimIs at sim → Gave at rule None sim
gave_none at rule sim e h = subst (λ r. Gave at r None sim) (sym e) h

-- the first rule gave this event
pub first_gave : (stays : SimAt) (rule : Option Next) (rules : List (Option Next)) (given : Option Event) (event : Event) (sim : State) → given ≡ Some event →
    Gave stays rule given sim → Gave stays (first_of (rule ∷ rules)) (Some event) sim
first_gave stays rule rules given event sim e h = by_first stays rule rules event sim (subst (λ x. Gave stays rule x sim) e h)

-- an event is the one that it was made to be
pub came : (stays at : SimAt) (made event given : Event) (sim : State) → made ≡ event → Gave stays (comes made at) (Some given) sim → Gave stays (comes event at) (Some given) sim
came stays at made event given sim e h = (h.0 ∙ e, h.1)

-- a place has an event if one was put into it, otherwise none

pub put_one : (b : Bool) (e : Event) → b ≡ true → put b e ≡ Some e
put_one b e h = ap (λ x. put x e) h

pub put_none : (b : Bool) (e : Event) → b ≡ false → put b e ≡ None
put_none b e h = ap (λ x. put x e) h
