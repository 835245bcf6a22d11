-- The list of captured messages that a table of pairs stands for (this project's profile).
use Rattle.std.specs.Prelude.{◌≡◌, ◌≢◌, ℕ, if◌then◌else◌, List, [], Option, None, Some, IsSome, unwrap_or}
use Rattle.std.specs.BTreeMap as tree
use Rattle.std.specs.declared.cmp.Ordering.{Ordering}
use Rattle.std.specs.Ordering.{nat_cmp, ordering_then}
use Rattle.wrp_base.specs.declared.message.Body.{Body}
use Rattle.wrp_base.specs.declared.message.Body.TheVariants.{Signal}
use Rattle.wrp_base.specs.declared.message.PortIdentity.{PortIdentity}
use Rattle.wrp_base.specs.declared.message.WrMsg.{WrMsg}
use Rattle.wrp_base.specs.declared.message.WrMsg.TheVariants.{ModeOn as WR_MODE_ON}
use Rattle.wrp_pcap.specs.declared.chain.Trail.{Trail}
use Rattle.wrp_pcap.specs.declared.pairs.Pairs.{Pairs}
use Rattle.wrp_pcap.specs.declared.verdict.Verdict8.{Verdict8}
use Rattle.wrp_pcap.specs.Certificate.{Captured, Falls, goes}
use Rattle.wrp_pcap.specs.Chain.{trail_of, after_master, after_slave, verdict_behind}

-- a master and its slave as a key: clock and port of each
abbrev pub Key : Type 0
Key = (ℕ × ℕ) × (ℕ × ℕ)

abbrev pub key : (master slave : PortIdentity) → Key
key master slave = ((master.clock, master.port), (slave.clock, slave.port))

abbrev pub port_cmp : ℕ × ℕ → ℕ × ℕ → Ordering
port_cmp a b = ordering_then (nat_cmp a.0 b.0) (nat_cmp a.1 b.1)

abbrev pub key_cmp : Key → Key → Ordering
key_cmp a b = ordering_then (port_cmp a.0 b.0) (port_cmp a.1 b.1)

-- the trail of a master and its slave, which is the trail of no message if the table has none
abbrev pub trail_at : Pairs → (master slave : PortIdentity) → Trail
trail_at pairs master slave = unwrap_or (tree.get key_cmp pairs.chains (key master slave)) (trail_of master slave [])

-- a table stands for these messages, whose numbers rise: each of its chains is what looking back over them finds
pub record StandsFor (pairs : Pairs) (captured : List Captured) : Type 0 where
  pub falls : Falls captured
  pub chains : (master slave : PortIdentity) → trail_at pairs master slave ≡ trail_of master slave captured

-- ---- what the steps of keeping a message leave

-- the table has room for a chain
abbrev pub HasRoom : (master slave : PortIdentity) → Pairs → Type 0
HasRoom master slave pairs = IsSome (tree.get key_cmp pairs.chains (key master slave))

abbrev pub KeepsRoom : Pairs → Pairs → Type 0
KeepsRoom old new = (master slave : PortIdentity) → HasRoom master slave old → HasRoom master slave new

-- the chains are what they were, and what had room has it
pub record Opened (old new : Pairs) : Type 0 where
  pub chains : (master slave : PortIdentity) → trail_at new master slave ≡ trail_at old master slave
  pub room : KeepsRoom old new

-- a chain was written in place of its pair's
abbrev pub Written : (master slave : PortIdentity) → Trail → Pairs → Pairs → Type 0
Written master slave chain old new =
    (m s : PortIdentity) → trail_at new m s ≡ (if goes master slave m s then chain else trail_at old m s)

-- what a message from one port to another makes of the chains in which the one is the master and the other the slave
abbrev pub HeardAsMaster : (source target : PortIdentity) → WrMsg → ℕ → Pairs → Pairs → Type 0
HeardAsMaster source target message number old new =
    (master slave : PortIdentity) →
    trail_at new master slave
    ≡ (if goes source target master slave then after_master message number (trail_at old master slave) else trail_at old master slave)

-- and of the chains in which the one is the slave and the other the master
abbrev pub HeardAsSlave : (source target : PortIdentity) → WrMsg → ℕ → Pairs → Pairs → Type 0
HeardAsSlave source target message number old new =
    (master slave : PortIdentity) →
    trail_at new master slave
    ≡ (if goes source target slave master then after_slave message number (trail_at old master slave) else trail_at old master slave)

-- what it makes of a chain
abbrev pub heard_at : (source target : PortIdentity) → WrMsg → ℕ → (master slave : PortIdentity) → Trail → Trail
heard_at source target message number master slave chain =
    let after = if goes source target master slave then after_master message number chain else chain in
    if goes source target slave master then after_slave message number after else after

abbrev pub Heard : (source target : PortIdentity) → WrMsg → ℕ → Pairs → Pairs → Type 0
Heard source target message number old new =
    (master slave : PortIdentity) →
    trail_at new master slave ≡ heard_at source target message number master slave (trail_at old master slave)

-- what a captured message makes of a chain
abbrev pub kept_at : PortIdentity → ℕ → (master slave : PortIdentity) → Body → Trail → Trail
kept_at source number master slave (Signal target (Some message)) chain = heard_at source target message number master slave chain
kept_at source number master slave _ chain = chain

abbrev pub Kept : ℕ → PortIdentity → Body → Pairs → Pairs → Type 0
Kept number source body old new =
    (master slave : PortIdentity) → trail_at new master slave ≡ kept_at source number master slave body (trail_at old master slave)

-- the verdict on a captured message, if there is one
abbrev pub told_at : Pairs → ℕ → PortIdentity → Body → Option Verdict8
told_at pairs number source (Signal target (Some WR_MODE_ON)) = Some (verdict_behind number (trail_at pairs source target).slave_calibrated)
told_at pairs number source _ = None

-- a body whose message may need room: a White Rabbit message that is no WR_MODE_ON
abbrev pub NeedsRoom : Body → Type 0
NeedsRoom (Signal target (Some message)) = message ≢ WR_MODE_ON
NeedsRoom _ = ⊥
