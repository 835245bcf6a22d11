use Rattle.std.proofs.Common.{ap₂, arith}
use Rattle.wrp_course.specs.declared.event.Event.TheVariants.{Join}
use Rattle.wrp_course.specs.Moved.{moved}
use Rattle.wrp_plant.proofs.SignedReads.{read}
use Rattle.wrp_premises.proofs.TriedFibres.{joined_fibre, joined_has}
use Rattle.wrp_premises.proofs.tries.fibres.new_fibre_broken.Goals as goal

pub returns : goal.returns
returns c s w h =
    c.delays_broken.ensures s w (moved s w (Join c.args.k c.args.ms c.args.sm)) h
    (joined_has s w c.args.k c.args.ms c.args.sm c.span-span.result.now _ c.delays-master.result c.delays-slave.result
    (h.spans c.args.k c.span-span.result.now c.span-span.ensures.value)
    (ap₂ joined_fibre (read c.args.ms (omega (arith, c.requires.ms))) (read c.args.sm (omega (arith, c.requires.sm))))
    c.delays-master.ensures c.delays-slave.ensures)
