use Rattle.std.proofs.Common.{◌≡◌, ◌∙◌, sym, ap, Some}
use Rattle.wrp_network.specs.declared.configuration.NetCfg.{NetCfg}
use Rattle.wrp_course.specs.Setting.{place_among, place_of}
use Rattle.wrp_course.specs.Views.{history_of}
use Rattle.wrp_plant.proofs.plant.Plant.history.Goals as goal

pub returns-in-Some : goal.returns-in-Some
returns-in-Some c s w h =
    let place : place_of s c.args.n c.args.port ≡ Some c.in-Some.place =
    ap (λ (cfg : NetCfg). place_among c.args.n c.args.port 0 cfg.links.items) (sym h.cfg) ∙ sym c.place_of.ensures.value ∙ c.in-Some.is in
    c.as_slice.ensures.value ∙ (c.end.ensures s w h).marks ∙ sym (ap (history_of w) place)
