-- The laws, from what is kept.
use Rattle.std.proofs.Common.{◌≡◌, subst, ℕ, ℤ, true, Option}
use Rattle.std.specs.List.{AllByRecursion}
use Rattle.wrp_base.specs.declared.link.LinkState.TheVariants.{Idle, LinkOn}
use Rattle.wrp_base.specs.declared.link.Module.{Module}
use Rattle.wrp_base.specs.declared.link.Role.{Role}
use Rattle.wrp_base.specs.declared.link.Role.TheVariants.{Master, Slave}
use Rattle.wrp_base.specs.declared.message.WrMsg.TheVariants.{Lock as LOCK, Locked as LOCKED}
use Rattle.wrp_base.specs.Link.{other_of}
use Rattle.wrp_check.specs.Handshake.{SameHandshake}
use Rattle.wrp_handshake_laws.specs.Ends.{BothPorts, end_of, placed_at}
use Rattle.wrp_handshake_laws.specs.Laws.{OnInTheSameHandshake, OnWithTheDeltas, CarrierWithItsModule, LeadsTo, MarksAreAHistory, IsAwake, IsLongAgo, QuietTimeOutlivesFrames, MasterStaysFromLock, SlaveStaysFromLocked, SlaveOnWithItsMaster}
use Rattle.wrp_handshake_laws.proofs.Keeps.{view_of}
use Rattle.wrp_handshake_laws.proofs.Changes.{EndsKeep, from_master, from_slave, can_keep}
use Rattle.wrp_handshake_laws.proofs.Histories.{EndsLead, can_lead}
use Rattle.wrp_handshake_laws.proofs.Lit.{LitKeeps, can_keep_lit, deltas_by, lit_long_ago, module_in_place}
use Rattle.wrp_handshake_laws.proofs.Same.{same_by}
use Rattle.wrp_handshake_laws.proofs.Since.{since_of, no_stretch_since, no_lock_since, left_long_ago}
use Rattle.wrp_handshake_laws.proofs.Staying.{can_stay}
use Rattle.wrp_handshake_laws.proofs.Together.{master_on}

at_end :
    (life dmin : ℕ) (ends : BothPorts) (role : Role) → EndsKeep life dmin ends → (end_of ends role).link.state ≡ LinkOn →
    SameHandshake role (end_of ends role).marks (end_of ends (other_of role)).marks
at_end life dmin ends Master k on =
    subst (λ (r : Role). SameHandshake r ends.master.marks ends.slave.marks) k.is_master
    (same_by life dmin ends.time (view_of ends.master) k.of_master (view_of ends.slave) k.of_slave (from_master life dmin ends k) on)
at_end life dmin ends Slave k on =
    subst (λ (r : Role). SameHandshake r ends.slave.marks ends.master.marks) k.is_slave
    (same_by life dmin ends.time (view_of ends.slave) k.of_slave (view_of ends.master) k.of_master (from_slave life dmin ends k) on)

pub on_in_the_same_handshake : OnInTheSameHandshake
on_in_the_same_handshake life dmin ends role can on = at_end life dmin ends role (can_keep life dmin ends can) on

pub on_with_the_deltas : OnWithTheDeltas
on_with_the_deltas life dmin ends can on = deltas_by life dmin ends _ (placed_at can.changes) (can_keep_lit life dmin ends can) on

module_at : (life dmin : ℕ) (ends : BothPorts) (role : Role) (lit : ℤ) (placed : Role → Option Module) → LitKeeps life dmin ends lit placed →
    (end_of ends role).link.carrier ≡ true → (end_of ends role).link.own_module ≡ placed role
module_at life dmin ends Master lit placed k h = module_in_place (placed Master) ends.master.link k.master.in_place h
module_at life dmin ends Slave lit placed k h = module_in_place (placed Slave) ends.slave.link k.slave.in_place h

pub carrier_with_its_module : CarrierWithItsModule
carrier_with_its_module life dmin ends role can h = module_at life dmin ends role _ (placed_at can.changes) (can_keep_lit life dmin ends can) h

leads_at : (ends : BothPorts) (role : Role) → EndsLead ends → LeadsTo (end_of ends role).link.state (end_of ends role).marks
leads_at ends Master h = h.master
leads_at ends Slave h = h.slave

pub marks_are_a_history : MarksAreAHistory
marks_are_a_history life dmin ends role can = leads_at ends role (can_lead life dmin ends can)

long_ago_at : (life dmin : ℕ) (ends : BothPorts) (role : Role) (lit : ℤ) (placed : Role → Option Module) → EndsKeep life dmin ends → LitKeeps life dmin ends lit placed → IsAwake (end_of ends role) →
    IsLongAgo life ends.time lit × AllByRecursion (λ mark. mark.to ≡ Idle → IsLongAgo life ends.time mark.at) (end_of ends role).marks
long_ago_at life dmin ends Master lit placed k l h =
    (lit_long_ago life dmin ends.time lit (placed Master) ends.master l.master h, left_long_ago life dmin ends.time ends.master k.of_master k.master h)
long_ago_at life dmin ends Slave lit placed k l h =
    (lit_long_ago life dmin ends.time lit (placed Slave) ends.slave l.slave h, left_long_ago life dmin ends.time ends.slave k.of_slave k.slave h)

pub quiet_time_outlives_frames : QuietTimeOutlivesFrames
quiet_time_outlives_frames life dmin ends role can h =
    long_ago_at life dmin ends role _ (placed_at can.changes) (can_keep life dmin ends can) (can_keep_lit life dmin ends can) h

pub master_stays_from_lock : MasterStaysFromLock
master_stays_from_lock life dmin ends at can moved =
    let k : EndsKeep life dmin ends = can_keep life dmin ends can in
    no_stretch_since ends.master.link.role k.of_master.turn at ends.master.marks k.is_master
    (since_of life dmin ends.time (view_of ends.slave) k.of_slave (view_of ends.master) k.of_master (LOCK, at) (from_slave life dmin ends k) moved.stays moved.among)
    (can_lead life dmin ends can).master.history k.master.turns

pub slave_stays_from_locked : SlaveStaysFromLocked
slave_stays_from_locked life dmin ends at can moved =
    let k : EndsKeep life dmin ends = can_keep life dmin ends can in
    no_lock_since ends.slave.link.role k.of_slave.turn at ends.slave.marks k.is_slave
    (since_of life dmin ends.time (view_of ends.master) k.of_master (view_of ends.slave) k.of_slave (LOCKED, at) (from_master life dmin ends k) moved.stays moved.among)
    k.slave.turns

pub slave_on_with_its_master : SlaveOnWithItsMaster
slave_on_with_its_master life dmin ends can on lit =
    master_on life dmin ends _ (placed_at can.changes) (can_keep life dmin ends can) (can_keep_lit life dmin ends can) (can_stay life dmin ends can) on lit
