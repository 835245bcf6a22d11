use Rattle.std.proofs.Common.{◌+◌, ap, Some}
use Rattle.wrp_node.specs.declared.interface.Input.TheVariants.{Sample as SampleInput}
use Rattle.wrp_course.specs.declared.clocks.ClockState.{ClockState}
use Rattle.wrp_course.specs.declared.event.Event.TheVariants.{Sample}
use Rattle.wrp_changes.proofs.Departing.{on_ok}
use Rattle.wrp_changes.proofs.FrameGifts.{sample_gives}
use Rattle.wrp_changes.proofs.Listing.{gives_listed}
use Rattle.wrp_changes.proofs.giving.list_sample.Goals as goal

pub returns : goal.returns
returns c =
    on_ok c.put_sample.result c.put_sample.ensures
    (λ h. gives_listed c.args.plant.now (Sample c.args.n c.args.base c.args.bits)
    (Some (record { node = c.args.n; input = SampleInput (c.clock.result.now.samples + 1) c.args.base c.args.bits })) _ h
    (sample_gives c.args.plant.now c.args.n c.args.base c.args.bits _ c.requires.node c.requires.base
    (λ s w h. ap (λ (clock : ClockState). clock.samples + 1) (c.clock.ensures.value s w h))))
