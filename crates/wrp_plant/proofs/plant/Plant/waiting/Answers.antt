use Rattle.std.proofs.Common.{◌≡◌, ◌∙◌, sym, ap, Some}
use Rattle.wrp_network.specs.declared.configuration.NetCfg.{NetCfg}
use Rattle.wrp_course.specs.Setting.{place_among, place_of}
use Rattle.wrp_course.specs.Moved.{waiting_at}
use Rattle.wrp_course.specs.Views.{oldest_of}
use Rattle.wrp_plant.proofs.plant.Plant.waiting.Goals as goal

pub returns-in-Some : goal.returns-in-Some
returns-in-Some c s w h =
    let place : place_of s c.args.n c.args.port ≡ Some c.in-Some.place =
    ap (λ (cfg : NetCfg). place_among c.args.n c.args.port 0 cfg.links.items) (sym h.cfg) ∙ sym c.place_of.ensures.value ∙ c.in-Some.is in
    c.oldest.ensures (w.end_at c.in-Some.place.link c.in-Some.place.role) (c.end.ensures s w h)
    ∙ sym (ap (λ o. oldest_of (waiting_at w o)) place)
