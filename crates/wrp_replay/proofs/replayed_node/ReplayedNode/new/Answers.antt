-- The node is new, and is set to what the network says.
use Rattle.std.proofs.Common.{◌∙◌, sym, rules}
use Rattle.std.proofs.lemmas.Int.{to_z-of_z}
use Rattle.wrp_config.proofs.Bare.{above_some}
use Rattle.wrp_replay.proofs.GoingOn.{new_ready, nothing_taken}
use Rattle.wrp_replay.proofs.replayed_node.ReplayedNode.new.Goals as goal

pub new-requires-clause-law : goal.new-requires-clause-law
new-requires-clause-law g c =
    c.requires.law.some ∙ above_some c.args.replayed.net.now.cfg c.args.replayed.node ∙ sym c.node_set.ensures.has_slave

pub returns-clause-ready : goal.returns-clause-ready
returns-clause-ready g c =
    new_ready _ c.node_set.result c.args.law c.node_set.ensures.value c.requires.law c.in_ok-node.ensures.stands c.in_ok-node.ensures.valid c.in_ok-node.ensures.law
    c.name_of.ensures (search (to_z-of_z, rules))

pub returns-clause-taken : goal.returns-clause-taken
returns-clause-taken g c =
    nothing_taken _ c.node_set.result c.args.law c.node_set.ensures.value c.requires.law c.in_ok-node.ensures.stands
