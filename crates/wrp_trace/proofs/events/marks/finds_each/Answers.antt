-- Each node and each link is found by its name.
use Rattle.wrp_trace.proofs.events.marks.finds_each.Goals as goal

pub returns-then-finds_nodes : goal.returns-then-finds_nodes
returns-then-finds_nodes c = λ all. record { nodes = c.finds_nodes.ensures c.if-finds_nodes.true; links = c.finds_links.ensures all }
