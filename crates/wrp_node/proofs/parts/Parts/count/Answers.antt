-- One counter rises.
use Rattle.std.proofs.Common.{◌≡◌, refl, sym, subst, ℕ, Option, None, Some}
use Rattle.wrp_node.specs.Parts.{PartsIn, reason_counted}
use Rattle.wrp_node.proofs.Giving.{parts_counted, counted_none}
use Rattle.wrp_node.proofs.parts.Parts.count.Goals as goal

none_is : (o : Option ℕ) → ((x : ℕ) → o ≡ Some x → ⊥) → o ≡ None
none_is None h = refl
none_is (Some x) h = absurd (h x refl)

pub returns-in-Some : goal.returns-in-Some
returns-in-Some c fixed before s h =
    subst (λ (r : Option ℕ). PartsIn fixed before (reason_counted c.args.port r fixed s) (record c.args.self.now { ports = c.count.new.self })) (sym c.in-Some.is)
    (parts_counted fixed before s c.args.port c.in-Some.reason c.args.self.now c.count.new.self c.count.ensures h)

pub returns-in_default : goal.returns-in_default
returns-in_default c fixed before s h =
    subst (λ (r : Option ℕ). PartsIn fixed before (reason_counted c.args.port r fixed s) c.args.self.now) (sym (none_is c.args.reason c.in_default.not-Some))
    (counted_none fixed before s c.args.port c.args.self.now h)
