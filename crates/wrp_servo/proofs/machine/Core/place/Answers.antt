-- The four that is kept changes no step.
use Rattle.std.proofs.Common.{◌≡◌, ℤ, Option, Some, to_z, of_z, SFits, rules, refl, ap, ◌∙◌}
use Rattle.std.proofs.lemmas.Int.{to_z-of_z}
use Rattle.std.specs.Int.{w64, w128}
use Rattle.wrp_base.specs.declared.link.ServoState.{ServoState}
use Rattle.wrp_base.specs.declared.link.ServoState.TheVariants.{SyncTai, SyncNsec}
use Rattle.wrp_servo.specs.declared.machine.Core.{Core}
use Rattle.wrp_servo.specs.declared.machine.Measurement.{Measurement}
use Rattle.wrp_servo.specs.Measuring.{cycles_in, placed_in}
use Rattle.wrp_servo.specs.Sampling.{est_of}
use Rattle.wrp_servo.proofs.machine.Core.place.Goals as goal

-- the step is not by the four that is kept
same_step : (v : Core) (o : Option Measurement) (est : ℤ) (s : ServoState) → cycles_in (record v { kept = o }) est s ≡ cycles_in v est s
same_step v o est SyncTai = refl
same_step v o est SyncNsec = refl
same_step v o est _ = refl

-- est as it was found
found : (k : Measurement) (u est : ℤ) → SFits w64 u → SFits w128 est → est ≡ est_of (to_z w64 (of_z w64 u)) k → to_z w128 (of_z w128 est) ≡ est_of u k
found k u est fits_u fits e = to_z-of_z w128 est fits ∙ e ∙ ap (λ (z : ℤ). est_of z k) (to_z-of_z w64 u fits_u)

pub returns-clause-value : goal.returns-clause-value
returns-clause-value c =
    let fits : SFits w64 c.args.self.now.phase.u = search rules in
    c.place_four.ensures.value
    ∙ ap (λ (est : ℤ). placed_in (record c.args.self.now { kept = Some c.args.kept }) c.args.kept est c.args.self.now.state) (found c.args.kept c.args.self.now.phase.u c.est.result fits (record { sfits = c.est.type_inv }) c.est.ensures.value)

pub returns-clause-cycles : goal.returns-clause-cycles
returns-clause-cycles c =
    let fits : SFits w64 c.args.self.now.phase.u = search rules in
    to_z-of_z w64 c.place_four.result (record { sfits = c.place_four.type_inv }) ∙ c.place_four.ensures.cycles
    ∙ same_step c.args.self.now (Some c.args.kept) (to_z w128 (of_z w128 c.est.result)) c.args.self.now.state
    ∙ ap (λ (est : ℤ). cycles_in c.args.self.now est c.args.self.now.state) (found c.args.kept c.args.self.now.phase.u c.est.result fits (record { sfits = c.est.type_inv }) c.est.ensures.value)
