use Rattle.std.proofs.Common.{◌∙◌, ap, sym}
use Rattle.wrp_course.specs.declared.place.Place.{Place}
use Rattle.wrp_course.specs.Setting.{end_at}
use Rattle.wrp_plant.proofs.Sizing.{raw_fits}
use Rattle.wrp_changes.proofs.FrameGifts.{received_is}
use Rattle.wrp_changes.proofs.giving.frames.received.Goals as goal

pub returns-clause-gifts : goal.returns-clause-gifts
returns-clause-gifts c s w f a h k r =
    received_is s f c.args.frame.now a c.args.reception _ c.copied.result
    (sym (ap (λ (p : Place). end_at s p.link p.role) c.other_end.ensures) ∙ c.own_at-node.ensures.value s w h) c.copied.ensures k r

pub returns-clause-fits : goal.returns-clause-fits
returns-clause-fits c = record { node = c.own_at-node.ensures.node; input = (c.own_at-node.ensures.port, raw_fits c.args.reception.raw c.requires.raw) }
