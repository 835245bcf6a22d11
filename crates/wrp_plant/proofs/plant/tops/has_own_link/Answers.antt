use Rattle.std.proofs.Common.{◌∙◌, sym, ◌==◌}
use Rattle.wrp_plant.proofs.FoundLinks.{some_found}
use Rattle.wrp_plant.proofs.plant.tops.has_own_link.Goals as goal

pub returns-clause-above : goal.returns-clause-above
returns-clause-above c e = some_found (λ link. link.lower == c.args.n) c.args.cfg.now.links.items _ (sym c.is_above.ensures ∙ e)
