-- Certificates worked out (this project's profile).
use Rattle.std.specs.Prelude.{◌≡◌, ℕ, ◌+◌, pos, List, [], ◌∷◌, ◌++◌, remove, reverse, take, drop, Option, None, Some}
use Rattle.wrp_base.specs.declared.message.Body.TheVariants.{Signal}
use Rattle.wrp_base.specs.declared.message.Head.{Head}
use Rattle.wrp_base.specs.declared.message.PortIdentity.{PortIdentity}
use Rattle.wrp_base.specs.declared.message.WrMsg.{WrMsg}
use Rattle.wrp_base.specs.declared.message.WrMsg.TheVariants.{Present as SLAVE_PRESENT, Lock as LOCK, Locked as LOCKED, Calibrate as CALIBRATE, Calibrated as CALIBRATED, ModeOn as WR_MODE_ON}
use Rattle.wrp_pcap.specs.declared.verdict.Verdict8.{Verdict8}
use Rattle.wrp_pcap.specs.declared.verdict.Verdict8.TheVariants.{Complete, Restarted, Missing}
use Rattle.wrp_pcap.specs.Certificate.{Captured, verdict_of}

-- a master, its slave, and a third port, of the slave's clock
abbrev pub m : PortIdentity
m = record { clock = 1; port = 1 }

abbrev pub s : PortIdentity
s = record { clock = 2; port = 1 }

abbrev pub t : PortIdentity
t = record { clock = 2; port = 2 }

-- the portIdentity of all ones
abbrev pub every_port : PortIdentity
every_port = record { clock = 0xffffffffffffffff; port = 0xffff }

-- the header of a message from a port, all else 0
abbrev pub head_from : PortIdentity → Head
head_from source = record { domain = 0; flags = 0; correction = pos 0; source = source; seq = 0; interval = 0 }

-- a White Rabbit message
abbrev pub packet : ℕ → PortIdentity → PortIdentity → WrMsg → Captured
packet number source target message =
    record { number = number; message = record { head = head_from source; body = Signal target (Some message) } }

-- the messages of a handshake from packet number n on, except the last, the oldest first
abbrev pub seven : ℕ → PortIdentity → PortIdentity → List Captured
seven n master slave =
    packet n slave master SLAVE_PRESENT ∷
    (packet (n + 1) master slave LOCK ∷
    (packet (n + 2) slave master LOCKED ∷
    (packet (n + 3) master slave (CALIBRATE 0 0 0) ∷
    (packet (n + 4) master slave (CALIBRATED 1 2) ∷
    (packet (n + 5) slave master (CALIBRATE 0 0 0) ∷
    (packet (n + 6) slave master (CALIBRATED 3 4) ∷
    []))))))

-- the verdict on a WR_MODE_ON with the number n, after messages with the oldest first
abbrev pub told : ℕ → PortIdentity → PortIdentity → List Captured → Option Verdict8
told n source target before = verdict_of (packet n source target WR_MODE_ON) (reverse before)

-- the handshakes of a master with two slaves, in turn
abbrev pub in_turn : List Captured
in_turn =
    packet 1 s m SLAVE_PRESENT ∷
    (packet 2 t m SLAVE_PRESENT ∷
    (packet 3 m s LOCK ∷
    (packet 4 m t LOCK ∷
    (packet 5 s m LOCKED ∷
    (packet 6 t m LOCKED ∷
    (packet 7 m s (CALIBRATE 0 0 0) ∷
    (packet 8 m t (CALIBRATE 0 0 0) ∷
    (packet 9 m s (CALIBRATED 1 2) ∷
    (packet 10 m t (CALIBRATED 1 2) ∷
    (packet 11 s m (CALIBRATE 0 0 0) ∷
    (packet 12 t m (CALIBRATE 0 0 0) ∷
    (packet 13 s m (CALIBRATED 3 4) ∷
    (packet 14 t m (CALIBRATED 5 6) ∷
    [])))))))))))))

pub record WorkedCertificates : Type 0 where
  -- the eight messages in their order; a message that is no WR_MODE_ON has no verdict
  pub complete : told 8 m s (seven 1 m s) ≡ Some (Complete (1 ∷ (2 ∷ (3 ∷ (4 ∷ (5 ∷ (6 ∷ (7 ∷ (8 ∷ [])))))))))
  pub other : verdict_of (packet 8 m s LOCK) (reverse (seven 1 m s)) ≡ None
  -- each of them left out, and all
  pub no_present : told 8 m s (remove (seven 1 m s) 0) ≡ Some (Missing 1)
  pub no_lock : told 8 m s (remove (seven 1 m s) 1) ≡ Some (Missing 2)
  pub no_locked : told 8 m s (remove (seven 1 m s) 2) ≡ Some (Missing 3)
  pub no_master_calibrate : told 8 m s (remove (seven 1 m s) 3) ≡ Some (Missing 4)
  pub no_master_calibrated : told 8 m s (remove (seven 1 m s) 4) ≡ Some (Missing 5)
  pub no_slave_calibrate : told 8 m s (remove (seven 1 m s) 5) ≡ Some (Missing 6)
  pub no_slave_calibrated : told 8 m s (remove (seven 1 m s) 6) ≡ Some (Missing 7)
  pub none : told 8 m s [] ≡ Some (Missing 7)
  pub greatest : told 8 m s (remove (remove (seven 1 m s) 4) 1) ≡ Some (Missing 5)
  -- SLAVE_PRESENT once more: right after the LOCK, right before the WR_MODE_ON, at both, and right before the LOCK
  pub behind_lock : told 9 m s (take 2 (seven 1 m s) ++ packet 3 s m SLAVE_PRESENT ∷ drop 2 (seven 2 m s)) ≡ Some (Restarted 3)
  pub at_last : told 9 m s (seven 1 m s ++ packet 8 s m SLAVE_PRESENT ∷ []) ≡ Some (Restarted 8)
  pub twice :
      told 10 m s (take 2 (seven 1 m s) ++ packet 3 s m SLAVE_PRESENT ∷ drop 2 (seven 2 m s) ++ packet 9 s m SLAVE_PRESENT ∷ [])
      ≡ Some (Restarted 3)
  pub before_lock : told 9 m s (packet 1 s m SLAVE_PRESENT ∷ seven 2 m s)
      ≡ Some (Complete (2 ∷ (3 ∷ (4 ∷ (5 ∷ (6 ∷ (7 ∷ (8 ∷ (9 ∷ [])))))))))
  -- if messages come again, the last before the next one counts
  pub locked_again : told 9 m s (take 3 (seven 1 m s) ++ packet 4 s m LOCKED ∷ drop 3 (seven 2 m s))
      ≡ Some (Complete (1 ∷ (2 ∷ (4 ∷ (5 ∷ (6 ∷ (7 ∷ (8 ∷ (9 ∷ [])))))))))
  pub lock_too_late : told 9 m s (take 3 (seven 1 m s) ++ packet 4 m s LOCK ∷ drop 3 (seven 2 m s))
      ≡ Some (Complete (1 ∷ (2 ∷ (3 ∷ (5 ∷ (6 ∷ (7 ∷ (8 ∷ (9 ∷ [])))))))))
  pub calibrated_again : told 9 m s (seven 1 m s ++ packet 8 s m (CALIBRATED 3 4) ∷ [])
      ≡ Some (Complete (1 ∷ (2 ∷ (3 ∷ (4 ∷ (5 ∷ (6 ∷ (8 ∷ (9 ∷ [])))))))))
  pub mode_on_again : told 9 m s (seven 1 m s ++ packet 8 m s WR_MODE_ON ∷ [])
      ≡ Some (Complete (1 ∷ (2 ∷ (3 ∷ (4 ∷ (5 ∷ (6 ∷ (7 ∷ (9 ∷ [])))))))))
  -- two slaves in turn, and a WR_MODE_ON of a third port
  pub first_in_turn : told 15 m s in_turn ≡ Some (Complete (1 ∷ (3 ∷ (5 ∷ (7 ∷ (9 ∷ (11 ∷ (13 ∷ (15 ∷ [])))))))))
  pub second_in_turn : told 16 m t in_turn ≡ Some (Complete (2 ∷ (4 ∷ (6 ∷ (8 ∷ (10 ∷ (12 ∷ (14 ∷ (16 ∷ [])))))))))
  pub of_third : told 8 t s (seven 1 m s) ≡ Some (Missing 7)
  pub exchanged : told 8 s m (seven 1 m s) ≡ Some (Missing 5)
  -- all ones as a target is that port, and no other
  pub to_every_port : told 8 m every_port (seven 1 m every_port) ≡ Some (Complete (1 ∷ (2 ∷ (3 ∷ (4 ∷ (5 ∷ (6 ∷ (7 ∷ (8 ∷ [])))))))))
  pub lock_to_every_port : told 8 m s (take 1 (seven 1 m s) ++ packet 2 m every_port LOCK ∷ drop 2 (seven 1 m s)) ≡ Some (Missing 2)
  pub on_to_every_port : told 8 m every_port (seven 1 m s) ≡ Some (Missing 7)
  -- a port that speaks to itself
  pub to_itself : told 8 m m (seven 1 m m) ≡ Some (Complete (1 ∷ (2 ∷ (3 ∷ (4 ∷ (5 ∷ (6 ∷ (7 ∷ (8 ∷ [])))))))))
  -- one handshake after another, and a SLAVE_PRESENT after one
  pub in_a_row : told 18 m s (seven 1 m s ++ packet 8 m s WR_MODE_ON ∷ seven 11 m s)
      ≡ Some (Complete (11 ∷ (12 ∷ (13 ∷ (14 ∷ (15 ∷ (16 ∷ (17 ∷ (18 ∷ [])))))))))
  pub begun_again : told 18 m s (seven 1 m s ++ packet 8 m s WR_MODE_ON ∷ packet 9 s m SLAVE_PRESENT ∷ []) ≡ Some (Restarted 9)
