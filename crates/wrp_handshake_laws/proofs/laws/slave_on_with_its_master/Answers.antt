use Rattle.wrp_handshake_laws.proofs.Proved as proof
use Rattle.wrp_handshake_laws.proofs.laws.slave_on_with_its_master.Goals as goal

pub returns : goal.returns
returns c = proof.slave_on_with_its_master
