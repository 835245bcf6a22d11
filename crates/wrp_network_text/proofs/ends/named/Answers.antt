use Rattle.std.proofs.Common.{sym, ◌∙◌}
use Rattle.toml.specs.View.{view}
use Rattle.wrp_network_text.specs.Ends.{is_named}
use Rattle.wrp_config.proofs.Lists.{position-map}
use Rattle.wrp_network_text.proofs.ends.named.Goals as goal

pub returns-clause-value : goal.returns-clause-value
returns-clause-value c = c.first_named.ensures.value ∙ sym (position-map (is_named c.args.name.now) view c.args.values.now)
