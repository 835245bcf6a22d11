-- The fixed delays that a slave in WR_LINK_ON knows of both ends. This project's profile.
use Rattle.std.specs.Prelude.{◌≡◌, ℤ, Option, Some}
use Rattle.wrp_base.specs.declared.link.Module.{Module}
use Rattle.wrp_base.specs.declared.message.WrMsg.TheVariants.{Calibrated as CALIBRATED}
use Rattle.wrp_check.specs.Stretches.{stretches_of, newest_of, movers_of}
use Rattle.wrp_handshake_laws.specs.Ends.{Port, IsAmong}

-- they are the entries of the modules in place at the master and at the slave, and the master's two come from a
-- CALIBRATED that moved the slave in its last stretch
pub record KnowsDeltas (slave : Port) (at_master at_slave : Option Module) : Type 0 where
  pub own : Module
  pub peers : Module
  pub own_is : slave.link.own_module ≡ Some own
  pub own_placed : at_slave ≡ Some own
  pub peers_placed : at_master ≡ Some peers
  pub deltas : slave.link.deltas ≡ Some (peers.tx, peers.rx)
  pub at : ℤ
  pub told : IsAmong (CALIBRATED peers.tx peers.rx, at) (movers_of (newest_of (stretches_of slave.marks)))
