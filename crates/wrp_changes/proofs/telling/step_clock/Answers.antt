use Rattle.std.proofs.Common.{◌≡◌, ◌∙◌, ℕ, ℤ, Bool, List, subst, to_z, of_z, arith}
use Rattle.std.proofs.lemmas.Int.{to_z-of_z}
use Rattle.std.specs.Int.{w64, w128}
use Rattle.wrp_base.specs.Clock.{period_of}
use Rattle.wrp_course.specs.declared.clocks.ClockState.{ClockState}
use Rattle.wrp_changes.specs.Moves.{At, EachBecame}
use Rattle.wrp_changes.specs.PlantTold.{Steps, cycles_in}
use Rattle.wrp_plant.proofs.SignedReads.{read}
use Rattle.wrp_plant.proofs.Sizing.{time_size}
use Rattle.wrp_changes.proofs.telling.step_clock.Goals as goal

read_both : (n : ℕ) (cycles now y z : ℤ) (period : ℕ) (ticked : Bool) (xs ys : List ClockState) → y ≡ cycles → z ≡ now →
    EachBecame (At n (Steps y z period ticked)) xs ys → EachBecame (At n (Steps cycles now period ticked)) xs ys
read_both n cycles now y z period ticked xs ys e f r =
    subst (λ q. EachBecame (At n (Steps q now period ticked)) xs ys) e (subst (λ t. EachBecame (At n (Steps y t period ticked)) xs ys) f r)

pub returns-clause-clocks : goal.returns-clause-clocks
returns-clause-clocks c =
    read_both c.args.news.now.node (cycles_in c.args.outs.now) c.args.plant.now.time
    (to_z w64 (of_z w64 c.cycles_in-cycles.result)) (to_z w128 (of_z w128 c.args.plant.now.time)) (period_of c.args.plant.now.net.cfg.clock) c.args.news.now.ticked
    c.args.plant.now.clocks.items c.step.new.clocks.items
    (to_z-of_z w64 c.cycles_in-cycles.result (record { sfits = c.cycles_in-cycles.type_inv }) ∙ c.cycles_in-cycles.ensures)
    (read c.args.plant.now.time (omega (arith, time_size c.args.plant.now.events c.args.plant.now.time c.requires.fits.events c.requires.fits.time))) c.step.ensures
