use Rattle.toml.specs.View.{table_view}
use Rattle.wrp_network_text.proofs.Refused.{node_answer}
use Rattle.wrp_network_text.proofs.reading.answer_for_taken.Goals as goal

pub returns-in-Some-clause-value : goal.returns-in-Some-clause-value
returns-in-Some-clause-value c =
    node_answer (table_view c.args.doc.now) c.network_of-cfg.result c.in-Some.fault c.in-Some.n c.node_fault.result
    c.requires.taken c.network_of-cfg.ensures c.in-Some.ensures c.node_fault.ensures
