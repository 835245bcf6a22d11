use Rattle.std.proofs.Common.{◌≡◌, ◌∙◌, sym, ap, Some, None}
use Rattle.wrp_network.specs.declared.configuration.NetCfg.{NetCfg}
use Rattle.wrp_course.specs.Checks.{told_of}
use Rattle.wrp_course.specs.Premises.{noise_checks}
use Rattle.wrp_course.specs.Setting.{place_among, place_of}
use Rattle.wrp_premises.proofs.tries.octets.heard_broken.Goals as goal

pub returns-in-Some : goal.returns-in-Some
returns-in-Some c s w h set =
    let place : place_of s c.args.n c.args.port ≡ Some c.in-Some.place =
    ap (λ (cfg : NetCfg). place_among c.args.n c.args.port 0 cfg.links.items) (sym h.cfg) ∙ sym c.place_of.ensures.value ∙ c.in-Some.is in
    c.said_broken.ensures s w h set place ∙ sym (ap (λ o. told_of (noise_checks s w c.args.n c.args.port c.args.says.now o)) place)

pub returns-in-None : goal.returns-in-None
returns-in-None c s w h set =
    let place : place_of s c.args.n c.args.port ≡ None =
    ap (λ (cfg : NetCfg). place_among c.args.n c.args.port 0 cfg.links.items) (sym h.cfg) ∙ sym c.place_of.ensures.value ∙ c.in-None.is in
    c.needs.ensures ∙ sym (ap (λ o. told_of (noise_checks s w c.args.n c.args.port c.args.says.now o)) place)
