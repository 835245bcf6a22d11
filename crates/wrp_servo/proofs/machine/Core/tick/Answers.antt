-- A tick in HOLDOVER, and one elsewhere.
use Rattle.std.proofs.Common.{◌≡◌, refl, ap, ◌∙◌, rules}
use Rattle.wrp_base.specs.declared.link.ServoState.{ServoState}
use Rattle.wrp_base.specs.declared.link.ServoState.TheVariants.{Holdover}
use Rattle.wrp_servo.specs.declared.machine.Core.{Core}
use Rattle.wrp_servo.specs.Table.{ended_by_age, ended_by_gap, holdover_ticked, one_tick, ticked_in}
use Rattle.wrp_servo.proofs.machine.Core.tick.Goals as goal

-- in HOLDOVER
within : (v : Core) (s : ServoState) → s ≡ Holdover → holdover_ticked v ≡ ticked_in v s
within v s e = rw e refl

-- elsewhere
without : (v : Core) (s : ServoState) → (s ≡ Holdover → ⊥) → ended_by_age (ended_by_gap v) ≡ ticked_in v s
without v Holdover n = absurd (n refl)
without v _ n = refl

pub returns-then-eq : goal.returns-then-eq
returns-then-eq c =
    let is : c.args.self.now.state ≡ Holdover = search rules in
    c.tick_in_holdover.ensures ∙ within (one_tick c.args.self.now) c.args.self.now.state is

pub returns-else-eq : goal.returns-else-eq
returns-else-eq c =
    let not : c.args.self.now.state ≡ Holdover → ⊥ = search rules in
    c.end_past_age.ensures ∙ ap ended_by_age c.end_past_gap.ensures ∙ without (one_tick c.args.self.now) c.args.self.now.state not
