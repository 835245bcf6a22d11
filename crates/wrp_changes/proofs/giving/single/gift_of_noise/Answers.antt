use Rattle.std.proofs.Common.{◌∙◌, ap, sym}
use Rattle.wrp_course.specs.declared.clocks.ClockState.{ClockState}
use Rattle.wrp_changes.proofs.FrameGifts.{no_noise_gives, noise_gives_copied}
use Rattle.wrp_course.proofs.PortNumbers.{has_placed}
use Rattle.wrp_changes.proofs.giving.single.gift_of_noise.Goals as goal

pub returns-in-Some : goal.returns-in-Some
returns-in-Some c =
    noise_gives_copied c.args.plant.now c.args.n c.args.port _ c.args.bytes.now c.copied.result c.args.raw c.copied.ensures c.requires.node
    (has_placed c.args.plant.now.net.cfg c.args.n c.args.port _ (sym c.place_of.ensures.value ∙ c.in-Some.is)) c.requires.raw
    (λ s w h. ap (λ (clock : ClockState). clock.samples) (c.clock.ensures.value s w h))

pub returns-in-None : goal.returns-in-None
returns-in-None c = no_noise_gives c.args.plant.now c.args.n c.args.port c.args.bytes.now c.args.raw (sym c.place_of.ensures.value ∙ c.in-None.is)
