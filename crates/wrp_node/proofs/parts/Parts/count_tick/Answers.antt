-- The tick is counted, then the lease has its turn.
use Rattle.std.proofs.Common.{◌≡◌, ◌∙◌, ◌+◌, refl, sym, subst, ℕ, Option, None, Some}
use Rattle.wrp_node.specs.declared.parts.Parts.{Parts}
use Rattle.wrp_node.specs.NodeAt.{NodeSetting, NodeAt}
use Rattle.wrp_node.specs.Parts.{PartsIn}
use Rattle.wrp_node.specs.Telling.{Step}
use Rattle.wrp_node.proofs.Telling.{lease_turned, no_lease, ticks_set}
use Rattle.wrp_node.proofs.parts.Parts.count_tick.Goals as goal

none_is : (o : Option ℕ) → ((x : ℕ) → o ≡ Some x → ⊥) → o ≡ None
none_is None h = refl
none_is (Some x) h = absurd (h x refl)

ticked_on : (parts : Parts) (fixed : NodeSetting) (before : NodeAt) (s : Step) → PartsIn fixed before s parts →
    PartsIn fixed before (record s { node = record s.node { ticks = s.node.ticks + 1 } }) (record parts { ticks = parts.ticks + 1 })
ticked_on parts fixed before s h =
    subst (λ (k : ℕ). PartsIn fixed before (record s { node = record s.node { ticks = k + 1 } }) (record parts { ticks = parts.ticks + 1 })) h.ticks
    (ticks_set fixed before s (parts.ticks + 1) parts h)

pub returns-in-Some : goal.returns-in-Some
returns-in-Some c fixed before s h =
    lease_turned fixed before s c.in-Some.slave c.give.new.self (sym h.slave ∙ c.in-Some.is)
    (c.give.ensures fixed before (record s { node = record s.node { ticks = s.node.ticks + 1 } }) (ticked_on c.args.self.now fixed before s h))

pub returns-in_default : goal.returns-in_default
returns-in_default c fixed before s h =
    no_lease fixed before s (record c.args.self.now { ticks = c.args.self.now.ticks + 1 }) (sym h.slave ∙ none_is c.args.self.now.slave c.in_default.not-Some)
    (ticked_on c.args.self.now fixed before s h)
