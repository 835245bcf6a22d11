-- One more message: what it makes of the chain of a master and its slave.
use Rattle.std.proofs.Common.{◌≡◌, refl, ◌∙◌, ℕ, Bool, true, false, ◌&&◌, if◌then◌else◌, List, ◌∷◌, Some, arith}
use Rattle.wrp_base.specs.declared.message.Body.{Body}
use Rattle.wrp_base.specs.declared.message.Body.TheVariants.{Signal}
use Rattle.wrp_base.specs.declared.message.PortIdentity.{PortIdentity}
use Rattle.wrp_base.specs.declared.message.WrMsg.{WrMsg}
use Rattle.wrp_base.specs.declared.message.WrMsg.TheVariants.{Present as SLAVE_PRESENT, Lock as LOCK, Locked as LOCKED, Calibrate as CALIBRATE, Calibrated as CALIBRATED, ModeOn as WR_MODE_ON}
use Rattle.wrp_pcap.specs.declared.chain.Trail.{Trail}
use Rattle.wrp_pcap.specs.Certificate.{Captured, is_present, is_lock, is_locked, is_calibrate, is_calibrated, goes, carries, is_sent, IsAbove, to_lock, to_locked, to_master_calibrate, to_master_calibrated, to_slave_calibrate}
use Rattle.wrp_pcap.specs.Chain.{trail_of, followed, locked_behind, begun_again, after_master, after_slave}
use Rattle.wrp_pcap.specs.StandsFor.{kept_at}
use Rattle.wrp_pcap.proofs.LookingBack.{behind_after, present_after, lock_after}

-- which of the seven messages a message is
record Tests : Type 0 where
  present : Bool
  lock : Bool
  locked : Bool
  master_calibrate : Bool
  master_calibrated : Bool
  slave_calibrate : Bool
  slave_calibrated : Bool

-- a chain with a message
abbrev stepped : Tests → ℕ → Trail → Trail
stepped t n chain =
    record {
      present = if t.present then Some n else chain.present;
      lock = if t.lock then locked_behind n chain.present else (if t.present then begun_again n chain.lock else chain.lock);
      locked = if t.locked then followed n chain.lock else (if t.present then begun_again n chain.locked else chain.locked);
      master_calibrate = if t.master_calibrate then followed n chain.locked else (if t.present then begun_again n chain.master_calibrate else chain.master_calibrate);
      master_calibrated = if t.master_calibrated then followed n chain.master_calibrate else (if t.present then begun_again n chain.master_calibrated else chain.master_calibrated);
      slave_calibrate = if t.slave_calibrate then followed n chain.master_calibrated else (if t.present then begun_again n chain.slave_calibrate else chain.slave_calibrate);
      slave_calibrated = if t.slave_calibrated then followed n chain.slave_calibrate else (if t.present then begun_again n chain.slave_calibrated else chain.slave_calibrated);
    }

-- which of them a body is, from a port, in the handshake of a master and its slave
abbrev tests : (master slave : PortIdentity) → PortIdentity → Body → Tests
tests master slave source body =
    record {
      present = carries source is_present slave master body;
      lock = carries source is_lock master slave body;
      locked = carries source is_locked slave master body;
      master_calibrate = carries source is_calibrate master slave body;
      master_calibrated = carries source is_calibrated master slave body;
      slave_calibrate = carries source is_calibrate slave master body;
      slave_calibrated = carries source is_calibrated slave master body;
    }

-- a message of another kind is no SLAVE_PRESENT
not_both : (a b : Bool) → (a && b) ≡ true → a ≡ false → ⊥
not_both true b e f = cc
not_both false b e f = cc

apart : (kind : WrMsg → Bool) (source from to master slave : PortIdentity) (body : Body) → kind SLAVE_PRESENT ≡ false →
    carries source kind from to body ≡ true → carries source is_present slave master body ≡ false
apart kind source from to master slave (Signal target (Some SLAVE_PRESENT)) other is = absurd (not_both (kind SLAVE_PRESENT) (goes source target from to) is other)
apart kind source from to master slave _ other is = refl

chain_stepped : (master slave : PortIdentity) (newest : Captured) (before : List Captured) → IsAbove newest.number before →
    trail_of master slave (newest ∷ before)
    ≡ stepped (tests master slave newest.message.head.source newest.message.body) newest.number (trail_of master slave before)
chain_stepped master slave newest before above =
    let source = newest.message.head.source in
    let body = newest.message.body in
    let present = is_sent is_present slave master in
    let one = present_after present newest before in
    let two = lock_after present (is_sent is_lock master slave) present newest before above
    (apart is_lock source master slave master slave body refl) in
    let three = behind_after present (is_sent is_locked slave master) (to_lock master slave) newest before (omega arith) above
    (apart is_locked source slave master master slave body refl) in
    let four = behind_after present (is_sent is_calibrate master slave) (to_locked master slave) newest before (omega arith) above
    (apart is_calibrate source master slave master slave body refl) in
    let five = behind_after present (is_sent is_calibrated master slave) (to_master_calibrate master slave) newest before (omega arith) above
    (apart is_calibrated source master slave master slave body refl) in
    let six = behind_after present (is_sent is_calibrate slave master) (to_master_calibrated master slave) newest before (omega arith) above
    (apart is_calibrate source slave master master slave body refl) in
    let seven = behind_after present (is_sent is_calibrated slave master) (to_slave_calibrate master slave) newest before (omega arith) above
    (apart is_calibrated source slave master master slave body refl) in
    λ i. record {
      present = one i;
      lock = two i;
      locked = three i;
      master_calibrate = four i;
      master_calibrated = five i;
      slave_calibrate = six i;
      slave_calibrated = seven i;
    }

-- a White Rabbit message, taken as its master's if it goes from the master to the slave, and as its slave's if it goes
-- back
abbrev heard_by : WrMsg → (forth back : Bool) → ℕ → Trail → Trail
heard_by message forth back n chain =
    let after = if forth then after_master message n chain else chain in
    if back then after_slave message n after else after

stepped_is : (message : WrMsg) (forth back : Bool) (n : ℕ) (chain : Trail) →
    stepped (record {
      present = is_present message && back;
      lock = is_lock message && forth;
      locked = is_locked message && back;
      master_calibrate = is_calibrate message && forth;
      master_calibrated = is_calibrated message && forth;
      slave_calibrate = is_calibrate message && back;
      slave_calibrated = is_calibrated message && back;
    }) n chain
    ≡ heard_by message forth back n chain
stepped_is SLAVE_PRESENT true true n chain = refl
stepped_is SLAVE_PRESENT true false n chain = refl
stepped_is SLAVE_PRESENT false true n chain = refl
stepped_is SLAVE_PRESENT false false n chain = refl
stepped_is LOCK true true n chain = refl
stepped_is LOCK true false n chain = refl
stepped_is LOCK false true n chain = refl
stepped_is LOCK false false n chain = refl
stepped_is LOCKED true true n chain = refl
stepped_is LOCKED true false n chain = refl
stepped_is LOCKED false true n chain = refl
stepped_is LOCKED false false n chain = refl
stepped_is (CALIBRATE _ _ _) true true n chain = refl
stepped_is (CALIBRATE _ _ _) true false n chain = refl
stepped_is (CALIBRATE _ _ _) false true n chain = refl
stepped_is (CALIBRATE _ _ _) false false n chain = refl
stepped_is (CALIBRATED _ _) true true n chain = refl
stepped_is (CALIBRATED _ _) true false n chain = refl
stepped_is (CALIBRATED _ _) false true n chain = refl
stepped_is (CALIBRATED _ _) false false n chain = refl
stepped_is WR_MODE_ON true true n chain = refl
stepped_is WR_MODE_ON true false n chain = refl
stepped_is WR_MODE_ON false true n chain = refl
stepped_is WR_MODE_ON false false n chain = refl

stepped_by : (master slave source : PortIdentity) (n : ℕ) (body : Body) (chain : Trail) →
    stepped (tests master slave source body) n chain ≡ kept_at source n master slave body chain
stepped_by master slave source n (Signal target (Some message)) chain =
    stepped_is message (goes source target master slave) (goes source target slave master) n chain
stepped_by master slave source n _ chain = refl

-- looking back over one more message
pub chain_after : (master slave : PortIdentity) (newest : Captured) (before : List Captured) → IsAbove newest.number before →
    trail_of master slave (newest ∷ before)
    ≡ kept_at newest.message.head.source newest.number master slave newest.message.body (trail_of master slave before)
chain_after master slave newest before above =
    chain_stepped master slave newest before above
    ∙ stepped_by master slave newest.message.head.source newest.number newest.message.body (trail_of master slave before)
