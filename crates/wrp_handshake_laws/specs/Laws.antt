-- What holds of every link at every moment, whatever was lost, late, repeated or of an earlier carrier. This project's
-- profile.
use Rattle.std.specs.Prelude.{◌≡◌, ◌≢◌, ◌⊎◌, ℕ, ◌*◌, ℤ, pos, ◌+ℤ◌, ◌<ℤ◌, ◌≤ℤ◌, true, List}
use Rattle.std.specs.List.{AllByRecursion}
use Rattle.wrp_base.specs.declared.link.LinkState.{LinkState}
use Rattle.wrp_base.specs.declared.link.LinkState.TheVariants.{Idle, Present, SLock, LinkOn}
use Rattle.wrp_base.specs.declared.link.Mark.{Mark}
use Rattle.wrp_base.specs.declared.link.Role.{Role}
use Rattle.wrp_base.specs.declared.link.Role.TheVariants.{Master, Slave}
use Rattle.wrp_base.specs.declared.message.WrMsg.{WrMsg}
use Rattle.wrp_base.specs.declared.message.WrMsg.TheVariants.{Lock as LOCK, Locked as LOCKED}
use Rattle.wrp_base.specs.Link.{other_of}
use Rattle.wrp_check.specs.Handshake.{SameHandshake}
use Rattle.wrp_check.specs.Laws.{state_after, IsHistory}
use Rattle.wrp_check.specs.Stretches.{stretches_of, newest_of, movers_of}
use Rattle.wrp_handshake_laws.specs.Deltas.{KnowsDeltas}
use Rattle.wrp_handshake_laws.specs.Ends.{BothPorts, Port, CanBe, new_ends, end_of, IsAmong, lit_at, placed_at}

-- a port in WR_LINK_ON is in the same handshake as its peer
abbrev pub OnInTheSameHandshake : Type 0
OnInTheSameHandshake =
    (life dmin : ℕ) (ends : BothPorts) (role : Role) →
    CanBe life dmin ends →
    (end_of ends role).link.state ≡ LinkOn →
    SameHandshake role (end_of ends role).marks (end_of ends (other_of role)).marks

-- a slave in WR_LINK_ON knows the deltas of the modules in place at both ends
abbrev pub OnWithTheDeltas : Type 0
OnWithTheDeltas =
    (life dmin : ℕ) (ends : BothPorts) (can : CanBe life dmin ends) →
    ends.slave.link.state ≡ LinkOn →
    KnowsDeltas ends.slave (placed_at can.changes Master) (placed_at can.changes Slave)

-- a port with its carrier has the module in place
abbrev pub CarrierWithItsModule : Type 0
CarrierWithItsModule =
    (life dmin : ℕ) (ends : BothPorts) (role : Role) (can : CanBe life dmin ends) →
    (end_of ends role).link.carrier ≡ true →
    (end_of ends role).link.own_module ≡ placed_at can.changes role

-- marks are a history, which leads to a state
pub record LeadsTo (state : LinkState) (marks : List Mark) : Type 0 where
  pub history : IsHistory marks
  pub leads : state_after marks ≡ state

-- the marks of a port are a history, which leads to its state
abbrev pub MarksAreAHistory : Type 0
MarksAreAHistory =
    (life dmin : ℕ) (ends : BothPorts) (role : Role) →
    CanBe life dmin ends →
    LeadsTo (end_of ends role).link.state (end_of ends role).marks

-- a port has its carrier, and its quiet time is over
pub record IsAwake (port : Port) : Type 0 where
  pub lit : port.link.carrier ≡ true
  pub over : (port.link.state ≢ Idle) ⊎ (port.link.quiet ≡ 0)

-- a time is so long ago that two frames may have lived one after the other since
abbrev pub IsLongAgo : (life : ℕ) → (time before : ℤ) → Type 0
IsLongAgo life time before = (before +ℤ pos (2 * life)) <ℤ time

-- a port whose quiet time is over got its carrier, and left its last stretch, long ago: no message that it
-- sent before can be heard any more, nor any that its peer sent when it heard one of these
abbrev pub QuietTimeOutlivesFrames : Type 0
QuietTimeOutlivesFrames =
    (life dmin : ℕ) (ends : BothPorts) (role : Role) (can : CanBe life dmin ends) →
    IsAwake (end_of ends role) →
    IsLongAgo life ends.time (lit_at (new_ends can.of_master can.of_slave can.start) can.changes)
    × AllByRecursion (λ mark. mark.to ≡ Idle → IsLongAgo life ends.time mark.at) (end_of ends role).marks

-- a message moved a port in its present stretch
pub record Moved (port : Port) (message : WrMsg) (at : ℤ) : Type 0 where
  pub stays : port.link.state ≢ Idle
  pub among : IsAmong (message, at) (movers_of (newest_of (stretches_of port.marks)))

-- from the LOCK that moved a slave on, its master begins no new stretch while the slave stays in its own
abbrev pub MasterStaysFromLock : Type 0
MasterStaysFromLock =
    (life dmin : ℕ) (ends : BothPorts) (at : ℤ) →
    CanBe life dmin ends →
    Moved ends.slave LOCK at →
    AllByRecursion (λ mark. mark.from ≡ Idle → mark.at ≤ℤ at) ends.master.marks

-- from the LOCKED that moved a master on, its slave comes from PRESENT to S_LOCK in no other stretch
-- while the master stays in its own
abbrev pub SlaveStaysFromLocked : Type 0
SlaveStaysFromLocked =
    (life dmin : ℕ) (ends : BothPorts) (at : ℤ) →
    CanBe life dmin ends →
    Moved ends.master LOCKED at →
    AllByRecursion (λ mark. mark.from ≡ Present → mark.to ≡ SLock → mark.at ≤ℤ at) ends.slave.marks

-- a slave in WR_LINK_ON whose master has its carrier has its master in WR_LINK_ON
abbrev pub SlaveOnWithItsMaster : Type 0
SlaveOnWithItsMaster =
    (life dmin : ℕ) (ends : BothPorts) →
    CanBe life dmin ends →
    ends.slave.link.state ≡ LinkOn →
    ends.master.link.carrier ≡ true →
    ends.master.link.state ≡ LinkOn
