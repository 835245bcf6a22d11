use Rattle.std.proofs.Common.{◌∙◌, sym, ap, Some, arith}
use Rattle.wrp_network.specs.declared.configuration.NetCfg.{NetCfg}
use Rattle.wrp_course.specs.Setting.{place_among}
use Rattle.wrp_plant.proofs.SignedReads.{read}
use Rattle.wrp_premises.proofs.TriedFrames.{depart_told, departs_at}
use Rattle.wrp_premises.proofs.tries.frames.depart_broken.Goals as goal

pub returns-in-Some : goal.returns-in-Some
returns-in-Some c s w says h =
    depart_told s w c.args.n c.args.port c.args.stamp (Some c.in-Some.place) c.leaving_broken.result
    (c.leaving_broken.ensures s w h ∙ ap (λ x. departs_at s w c.args.n x (Some c.in-Some.place)) (read c.args.stamp (omega (arith, c.requires.stamp))))
    (ap (λ (cfg : NetCfg). place_among c.args.n c.args.port 0 cfg.links.items) (sym h.cfg) ∙ sym c.place_of.ensures.value ∙ c.in-Some.is)

pub returns-in-None : goal.returns-in-None
returns-in-None c s w says h =
    depart_told s w c.args.n c.args.port c.args.stamp _ c.needs.result c.needs.ensures
    (ap (λ (cfg : NetCfg). place_among c.args.n c.args.port 0 cfg.links.items) (sym h.cfg) ∙ sym c.place_of.ensures.value ∙ c.in-None.is)
