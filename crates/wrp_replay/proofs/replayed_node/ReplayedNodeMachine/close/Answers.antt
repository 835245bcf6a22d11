-- The counters are the run's counters.
use Rattle.wrp_replay.proofs.GoingOn.{closes_so}
use Rattle.wrp_replay.proofs.replayed_node.ReplayedNodeMachine.close.Goals as goal

pub returns-clause-closed : goal.returns-clause-closed
returns-clause-closed g c = λ lines is.
    closes_so c.args.self.now c.args.text.now.items c.append_counts.new.text.items c.requires.ready c.requires.none c.in_ok-append_counts.ensures lines
