use Rattle.std.proofs.Common.{◌∙◌, sym, ap, ap₂, to_z}
use Rattle.std.proofs.lemmas.Int.{to_z-of_z}
use Rattle.std.specs.Int.{w64}
use Rattle.wrp_course.specs.Checks.{told_of}
use Rattle.wrp_course.specs.Moved.{drift_of}
use Rattle.wrp_course.specs.Premises.{rate_checks, rate_of}
use Rattle.wrp_premises.proofs.TriedRates.{still_clock}
use Rattle.wrp_world.proofs.world.World.rate_broken.Goals as goal

pub returns-then-drift-eq0 : goal.returns-then-drift-eq0
returns-then-drift-eq0 g c s w h =
    still_clock (drift_of c.args.drifts.now.items c.args.n) c.args.dt (rate_of s w c.args.n)
    (sym (c.drift_at-drift.ensures ∙ ap (λ xs. drift_of xs c.args.n) c.as_slice.ensures.value)
    ∙ sym (to_z-of_z w64 c.drift_at-drift.result (record { sfits = c.drift_at-drift.type_inv })) ∙ ap (to_z w64) c.if-drift-eq0.true)

pub returns-else-drift-eq0 : goal.returns-else-drift-eq0
returns-else-drift-eq0 g c s w h =
    c.drift_broken.ensures s w h
    ∙ ap₂ (λ d t. told_of (rate_checks d t (rate_of s w c.args.n)))
    (to_z-of_z w64 c.drift_at-drift.result (record { sfits = c.drift_at-drift.type_inv }) ∙ c.drift_at-drift.ensures ∙ ap (λ xs. drift_of xs c.args.n) c.as_slice.ensures.value)
    (to_z-of_z w64 c.args.dt c.ranges.dt)
