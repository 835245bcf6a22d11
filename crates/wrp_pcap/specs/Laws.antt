-- What holds of every certificate (this project's profile).
use Rattle.std.specs.Prelude.{◌≡◌, ◌⊎◌, ℕ, ◌<◌, ◌≤◌, Bool, true, false, List, [], ◌∷◌, ◌++◌, length}
use Rattle.std.specs.List.{AllByRecursion}
use Rattle.wrp_base.specs.declared.message.PortIdentity.{PortIdentity}
use Rattle.wrp_pcap.specs.declared.verdict.Verdict8.{Verdict8}
use Rattle.wrp_pcap.specs.declared.verdict.Verdict8.TheVariants.{Complete, Restarted, Missing}
use Rattle.wrp_pcap.specs.Certificate.{Captured, Falls, IsAbove, certificate, is_present, is_sent, lock_of, to_slave_calibrated}
use Rattle.wrp_pcap.specs.Marks.{Rises}

-- ---- the verdict without the recursion that finds it

-- the last of some captured messages at which a test holds has this number, and these are before it
pub record IsLast (test : Captured → Bool) (captured : List Captured) (number : ℕ) (before : List Captured) : Type 0 where
  pub later : List Captured
  pub last : Captured
  pub splits : captured ≡ later ++ last ∷ before
  pub holds : test last ≡ true
  pub others : AllByRecursion (λ c. test c ≡ false) later
  pub number_is : last.number ≡ number

-- the numbers of some messages of a handshake, the first of the handshake first: each is the last of its kind before
-- the next one
abbrev pub AreLast : List (Captured → Bool) → List Captured → List ℕ → Type 0
AreLast [] captured numbers = numbers ≡ []
AreLast (step ∷ steps) captured numbers =
    (earlier : List ℕ) × (number : ℕ) × (before : List Captured) ×
    (numbers ≡ earlier ++ number ∷ []) × IsLast step captured number before × AreLast steps before earlier

-- a place is the greatest of which there is no message: the messages of the places above are there
abbrev pub IsMissing : List (Captured → Bool) → List Captured → ℕ → Type 0
IsMissing [] captured place = ⊥
IsMissing (step ∷ steps) captured place =
    ((place ≡ length (step ∷ steps)) × AllByRecursion (λ c. step c ≡ false) captured)
    ⊎ ((number : ℕ) × (before : List Captured) × IsLast step captured number before × IsMissing steps before place)

-- no SLAVE_PRESENT of the slave above a number
abbrev pub NoneAbove : (master slave : PortIdentity) → ℕ → List Captured → Type 0
NoneAbove master slave number captured =
    AllByRecursion (λ c. is_sent is_present slave master c ≡ true → c.number ≤ number) captured

-- all messages are there, and no SLAVE_PRESENT came after the LOCK
pub record IsComplete (master slave : PortIdentity) (number : ℕ) (captured : List Captured) (all : List ℕ) : Type 0 where
  pub numbers : List ℕ
  pub all_are : all ≡ numbers ++ number ∷ []
  pub last : AreLast (to_slave_calibrated master slave) captured numbers
  pub none : NoneAbove master slave (lock_of numbers) captured

-- all messages are there, and the first SLAVE_PRESENT after the LOCK has this number
pub record IsRestarted (master slave : PortIdentity) (captured : List Captured) (restart : ℕ) : Type 0 where
  pub numbers : List ℕ
  pub last : AreLast (to_slave_calibrated master slave) captured numbers
  pub later : List Captured
  pub present : Captured
  pub earlier : List Captured
  pub splits : captured ≡ later ++ present ∷ earlier
  pub holds : is_sent is_present slave master present ≡ true
  pub number_is : present.number ≡ restart
  pub behind_lock : lock_of numbers < restart
  pub first : NoneAbove master slave (lock_of numbers) earlier

abbrev pub IsDue : (master slave : PortIdentity) → ℕ → List Captured → Verdict8 → Type 0
IsDue master slave number captured (Complete all) = IsComplete master slave number captured all
IsDue master slave number captured (Restarted restart) = IsRestarted master slave captured restart
IsDue master slave number captured (Missing place) = IsMissing (to_slave_calibrated master slave) captured place

abbrev pub CertificateIsDue : Type 0
CertificateIsDue =
    (master slave : PortIdentity) (number : ℕ) (captured : List Captured) →
    IsDue master slave number captured (certificate master slave number captured)

-- ---- numbers

-- the numbers of a complete certificate rise if the numbers of the messages do
abbrev pub CompleteRises : Type 0
CompleteRises =
    (master slave : PortIdentity) (number : ℕ) (before : List Captured) (numbers : List ℕ) → Falls before → IsAbove number before →
    certificate master slave number before ≡ Complete numbers → Rises numbers
