use Rattle.toml.specs.View.{table_view}
use Rattle.wrp_network_text.proofs.Few.{few_nodes, few_links}
use Rattle.wrp_network_text.proofs.config.network_of.Goals as goal

pub gathered-requires-clause-nodes : goal.gathered-requires-clause-nodes
gathered-requires-clause-nodes c = few_nodes (table_view c.args.doc.now) c.requires.taken

pub gathered-requires-clause-links : goal.gathered-requires-clause-links
gathered-requires-clause-links c = few_links (table_view c.args.doc.now) c.requires.taken
