use Rattle.std.proofs.Common.{◌∙◌, ap, ap₂, sym, ℕ, Bool, if◌then◌else◌, Option, None, Some}
use Rattle.wrp_world.specs.declared.steer.Steer.{Steer}
use Rattle.wrp_world.specs.Steered.{steering_in}
use Rattle.wrp_world.proofs.world.World.steering.Goals as goal

abbrev steering_by : ℕ → Option ℕ → Steer
steering_by dac kept = record { dac = dac; kept = kept }

pub returns-then-is_up-clause-value : goal.returns-then-is_up-clause-value
returns-then-is_up-clause-value g c s w h =
    ap₂ (λ d k. Some (steering_by d k)) (c.dac-dac.ensures s w h) (c.rate_where-kept.ensures.value s w h)
    ∙ sym (ap (λ (b : Bool). let it : Option Steer = if b then Some (steering_in s w c.args.n) else None in it) (sym (c.is_up.ensures s w h) ∙ c.if-is_up.true))

pub returns-else-is_up-clause-value : goal.returns-else-is_up-clause-value
returns-else-is_up-clause-value g c s w h =
    sym (ap (λ (b : Bool). let it : Option Steer = if b then Some (steering_in s w c.args.n) else None in it) (sym (c.is_up.ensures s w h) ∙ c.if-is_up.false))

pub rate_where-kept-requires-clause-up : goal.rate_where-kept-requires-clause-up
rate_where-kept-requires-clause-up g c s w h = sym c.if-is_up.true ∙ c.is_up.ensures s w h
