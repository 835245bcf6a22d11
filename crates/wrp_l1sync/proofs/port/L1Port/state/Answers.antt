-- What looking back finds is answered.
use Rattle.wrp_l1sync.proofs.PortLaws.{state_looked_back}
use Rattle.wrp_l1sync.proofs.port.L1Port.state.Goals as goal

pub returns-clause-looked_back : goal.returns-clause-looked_back
returns-clause-looked_back c inputs stands = state_looked_back c.args.self.now inputs c.present_state.result c.present_state.ensures stands
