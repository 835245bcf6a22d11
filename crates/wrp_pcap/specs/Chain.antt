-- What is kept of the messages between a master and its slave, and what each message makes of it (this project's profile).
use Rattle.std.specs.Prelude.{ℕ, Bool, true, false, List, ◌∷◌, ◌++◌, reverse, take, replicate, Option, None, Some, get_or}
use Rattle.wrp_base.specs.declared.message.PortIdentity.{PortIdentity}
use Rattle.wrp_base.specs.declared.message.WrMsg.{WrMsg}
use Rattle.wrp_base.specs.declared.message.WrMsg.TheVariants.{Present as SLAVE_PRESENT, Lock as LOCK, Locked as LOCKED, Calibrate as CALIBRATE, Calibrated as CALIBRATED}
use Rattle.wrp_pcap.specs.declared.chain.Behind.{Behind}
use Rattle.wrp_pcap.specs.declared.chain.Behind.TheVariants as behind
use Rattle.wrp_pcap.specs.declared.chain.Trail.{Trail}
use Rattle.wrp_pcap.specs.declared.verdict.Verdict8.{Verdict8}
use Rattle.wrp_pcap.specs.declared.verdict.Verdict8.TheVariants.{Missing}
use Rattle.wrp_pcap.specs.Certificate.{Captured, is_present, is_sent, to_present, to_lock, to_locked, to_master_calibrate, to_master_calibrated, to_slave_calibrate, to_slave_calibrated, Back, lacks, finds, look_back, first_above, lock_of, unless_restarted}

-- ---- what looking back finds, as it is kept

-- seven places for numbers, the last message of the handshake first; places without a message have 0
abbrev pub kept : List ℕ → List ℕ
kept numbers = take 7 (reverse numbers ++ replicate 7 0)

abbrev pub present_of : Back → Option ℕ
present_of (lacks place) = None
present_of (finds numbers) = Some (get_or numbers 0 0)

abbrev pub behind_of : (Captured → Bool) → List Captured → Back → Behind
behind_of present captured (lacks place) = behind.Missing place
behind_of present captured (finds numbers) = behind.Whole (kept numbers) (first_above present (lock_of numbers) captured)

-- what looking back from a message of the handshake finds, with the first SLAVE_PRESENT since its LOCK
abbrev pub behind_at : (Captured → Bool) → List (Captured → Bool) → List Captured → Behind
behind_at present steps captured = behind_of present captured (look_back steps captured)

abbrev pub trail_of : (master slave : PortIdentity) → List Captured → Trail
trail_of master slave captured =
    let present = is_sent is_present slave master in
    record {
      present = present_of (look_back (to_present master slave) captured);
      lock = behind_at present (to_lock master slave) captured;
      locked = behind_at present (to_locked master slave) captured;
      master_calibrate = behind_at present (to_master_calibrate master slave) captured;
      master_calibrated = behind_at present (to_master_calibrated master slave) captured;
      slave_calibrate = behind_at present (to_slave_calibrate master slave) captured;
      slave_calibrated = behind_at present (to_slave_calibrated master slave) captured;
    }

-- ---- what a message makes of it

-- the next message of the handshake after these
abbrev pub followed : ℕ → Behind → Behind
followed number (behind.Missing place) = behind.Missing place
followed number (behind.Whole numbers restart) = behind.Whole (number ∷ take 6 numbers) restart

-- a LOCK after a SLAVE_PRESENT
abbrev pub locked_behind : ℕ → Option ℕ → Behind
locked_behind number None = behind.Missing 1
locked_behind number (Some present) = behind.Whole (number ∷ present ∷ replicate 5 0) None

-- a SLAVE_PRESENT after these: the first since the LOCK counts
abbrev pub begun_again : ℕ → Behind → Behind
begun_again number (behind.Missing place) = behind.Missing place
begun_again number (behind.Whole numbers None) = behind.Whole numbers (Some number)
begun_again number (behind.Whole numbers (Some first)) = behind.Whole numbers (Some first)

abbrev pub presented : ℕ → Trail → Trail
presented number chain =
    record {
      present = Some number;
      lock = begun_again number chain.lock;
      locked = begun_again number chain.locked;
      master_calibrate = begun_again number chain.master_calibrate;
      master_calibrated = begun_again number chain.master_calibrated;
      slave_calibrate = begun_again number chain.slave_calibrate;
      slave_calibrated = begun_again number chain.slave_calibrated;
    }

-- a message from the master to the slave
abbrev pub after_master : WrMsg → ℕ → Trail → Trail
after_master LOCK number chain = record chain { lock = locked_behind number chain.present }
after_master (CALIBRATE _ _ _) number chain = record chain { master_calibrate = followed number chain.locked }
after_master (CALIBRATED _ _) number chain = record chain { master_calibrated = followed number chain.master_calibrate }
after_master _ number chain = chain

-- a message from the slave to the master
abbrev pub after_slave : WrMsg → ℕ → Trail → Trail
after_slave SLAVE_PRESENT number chain = presented number chain
after_slave LOCKED number chain = record chain { locked = followed number chain.lock }
after_slave (CALIBRATE _ _ _) number chain = record chain { slave_calibrate = followed number chain.master_calibrated }
after_slave (CALIBRATED _ _) number chain = record chain { slave_calibrated = followed number chain.slave_calibrate }
after_slave _ number chain = chain

-- whether a master's message, or a slave's, is one of a handshake before its WR_MODE_ON
abbrev pub is_masters : WrMsg → Bool
is_masters LOCK = true
is_masters (CALIBRATE _ _ _) = true
is_masters (CALIBRATED _ _) = true
is_masters _ = false

abbrev pub is_slaves : WrMsg → Bool
is_slaves SLAVE_PRESENT = true
is_slaves LOCKED = true
is_slaves (CALIBRATE _ _ _) = true
is_slaves (CALIBRATED _ _) = true
is_slaves _ = false

-- ---- the verdict that is kept

abbrev pub verdict_behind : ℕ → Behind → Verdict8
verdict_behind number (behind.Missing place) = Missing place
verdict_behind number (behind.Whole numbers restart) = unless_restarted restart (reverse (number ∷ numbers))
