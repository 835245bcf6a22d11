-- The certificate of a handshake: whether the messages of one precede a WR_MODE_ON, looked for backwards from it.
-- Lists of captured messages have the newest first (this project's profile).
use Rattle.std.specs.Prelude.{ℕ, ◌<◌, ◌&&◌, Bool, true, false, if◌then◌else◌, nat_lt, List, [], ◌∷◌, ◌++◌, length, get_or, Option, None, Some}
use Rattle.std.specs.List.{AllByRecursion}
use Rattle.std.specs.Option.{option_or}
use Rattle.wrp_base.specs.Message.{is_port}
use Rattle.wrp_base.specs.declared.message.Body.{Body}
use Rattle.wrp_base.specs.declared.message.Body.TheVariants.{Signal}
use Rattle.wrp_base.specs.declared.message.PortIdentity.{PortIdentity}
use Rattle.wrp_base.specs.declared.message.PtpMsg.{PtpMsg}
use Rattle.wrp_base.specs.declared.message.WrMsg.{WrMsg}
use Rattle.wrp_base.specs.declared.message.WrMsg.TheVariants.{Present as SLAVE_PRESENT, Lock as LOCK, Locked as LOCKED, Calibrate as CALIBRATE, Calibrated as CALIBRATED, ModeOn as WR_MODE_ON}
use Rattle.wrp_pcap.specs.declared.verdict.Verdict8.{Verdict8}
use Rattle.wrp_pcap.specs.declared.verdict.Verdict8.TheVariants.{Complete, Restarted, Missing}

-- a PTP message of a capture, with the number of its packet
pub record Captured : Type 0 where
  pub number : ℕ
  pub message : PtpMsg

-- ---- the messages of a handshake

abbrev pub is_present : WrMsg → Bool
is_present SLAVE_PRESENT = true
is_present _ = false

abbrev pub is_lock : WrMsg → Bool
is_lock LOCK = true
is_lock _ = false

abbrev pub is_locked : WrMsg → Bool
is_locked LOCKED = true
is_locked _ = false

abbrev pub is_calibrate : WrMsg → Bool
is_calibrate (CALIBRATE _ _ _) = true
is_calibrate _ = false

abbrev pub is_calibrated : WrMsg → Bool
is_calibrated (CALIBRATED _ _) = true
is_calibrated _ = false

-- whether what is sent from one port to another goes from this one to that: ports are compared literally, the target
-- of all ones too
abbrev pub goes : (source target : PortIdentity) → (from to : PortIdentity) → Bool
goes source target from to = is_port source from && is_port target to

-- whether a body is the body of a Signaling from one port to another with a White Rabbit message of this kind; the
-- port that sent it is the first
abbrev pub carries : PortIdentity → (WrMsg → Bool) → (from to : PortIdentity) → Body → Bool
carries source kind from to (Signal target (Some message)) = kind message && goes source target from to
carries source kind from to _ = false

-- whether a captured message is a White Rabbit message of this kind from one port to another
abbrev pub is_sent : (WrMsg → Bool) → (from to : PortIdentity) → Captured → Bool
is_sent kind from to captured = carries captured.message.head.source kind from to captured.message.body

-- the messages of the handshake of a master and its slave up to one of them, that one first; its place is their number
abbrev pub to_present : (master slave : PortIdentity) → List (Captured → Bool)
to_present master slave = is_sent is_present slave master ∷ []

abbrev pub to_lock : (master slave : PortIdentity) → List (Captured → Bool)
to_lock master slave = is_sent is_lock master slave ∷ to_present master slave

abbrev pub to_locked : (master slave : PortIdentity) → List (Captured → Bool)
to_locked master slave = is_sent is_locked slave master ∷ to_lock master slave

abbrev pub to_master_calibrate : (master slave : PortIdentity) → List (Captured → Bool)
to_master_calibrate master slave = is_sent is_calibrate master slave ∷ to_locked master slave

abbrev pub to_master_calibrated : (master slave : PortIdentity) → List (Captured → Bool)
to_master_calibrated master slave = is_sent is_calibrated master slave ∷ to_master_calibrate master slave

abbrev pub to_slave_calibrate : (master slave : PortIdentity) → List (Captured → Bool)
to_slave_calibrate master slave = is_sent is_calibrate slave master ∷ to_master_calibrated master slave

abbrev pub to_slave_calibrated : (master slave : PortIdentity) → List (Captured → Bool)
to_slave_calibrated master slave = is_sent is_calibrated slave master ∷ to_slave_calibrate master slave

-- ---- looking back

-- what looking back finds: the numbers of the messages, the first of the handshake first, or the greatest place of which
-- there is no message
pub data Back : Type 0 where
  lacks : ℕ → Back
  finds : List ℕ → Back

abbrev pub with_number : ℕ → Back → Back
with_number n (lacks place) = lacks place
with_number n (finds numbers) = finds (numbers ++ n ∷ [])

-- the last captured message that is the first of these, the last before it that is the next of them, and so on
abbrev pub look_back : List (Captured → Bool) → List Captured → Back
look_back [] captured = finds []
look_back (step ∷ steps) [] = lacks (length (step ∷ steps))
look_back (step ∷ steps) (newest ∷ before) =
    if step newest then with_number newest.number (look_back steps before) else look_back (step ∷ steps) before

-- the number of the first captured message above a number that is one of these
abbrev pub first_above : (Captured → Bool) → ℕ → List Captured → Option ℕ
first_above test number [] = None
first_above test number (newest ∷ before) =
    option_or (first_above test number before) (if test newest && nat_lt number newest.number then Some newest.number else None)

-- ---- the verdict

-- p2 among p1, p2 and so on
abbrev pub lock_of : List ℕ → ℕ
lock_of numbers = get_or numbers 1 0

-- the messages are there, and their numbers are these: a SLAVE_PRESENT after the LOCK began the handshake again
abbrev pub unless_restarted : Option ℕ → List ℕ → Verdict8
unless_restarted (Some number) numbers = Restarted number
unless_restarted None numbers = Complete numbers

abbrev pub told_by : (master slave : PortIdentity) → ℕ → List Captured → Back → Verdict8
told_by master slave number before (lacks place) = Missing place
told_by master slave number before (finds numbers) =
    unless_restarted (first_above (is_sent is_present slave master) (lock_of numbers) before) (numbers ++ number ∷ [])

-- the verdict on a WR_MODE_ON with this number from a master to its slave, after these messages
abbrev pub certificate : (master slave : PortIdentity) → ℕ → List Captured → Verdict8
certificate master slave number before = told_by master slave number before (look_back (to_slave_calibrated master slave) before)

-- the verdict on a message: a WR_MODE_ON has one, any other message has none
abbrev pub verdict_on : PortIdentity → ℕ → List Captured → Body → Option Verdict8
verdict_on source number before (Signal target (Some WR_MODE_ON)) = Some (certificate source target number before)
verdict_on source number before _ = None

abbrev pub verdict_of : Captured → List Captured → Option Verdict8
verdict_of captured before = verdict_on captured.message.head.source captured.number before captured.message.body

-- ---- numbers

-- a number is above the numbers of these messages
abbrev pub IsAbove : ℕ → List Captured → Type 0
IsAbove number captured = AllByRecursion (λ c. c.number < number) captured

-- the number of each message is above the numbers of the messages before it
abbrev pub Falls : List Captured → Type 0
Falls [] = Unit {0}
Falls (newest ∷ before) = IsAbove newest.number before × Falls before
