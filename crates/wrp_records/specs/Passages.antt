-- What passes in a call between the call and the outside objects that it was given (this project's profile).
use Rattle.std.specs.Prelude.{◌≡◌, ℕ, Bool, true, false, Option, List, [], ◌++◌}
use Rattle.std.specs.Io.KnownBytes.{Appends, Consumes, IsAtEnd}
use Rattle.wrp_io.specs.declared.link.LinkCall.{LinkCall}
use Rattle.wrp_io.specs.Faults.{Rose}
use Rattle.wrp_records.specs.declared.status.Status.{Status}
use Rattle.wrp_records.specs.declared.status.Status.TheVariants.{ReadFault, WriteFault}
use Rattle.wrp_records.specs.After.{After}
use Rattle.wrp_records.specs.Meaning.{Meaning}

-- What an object showed before a call and after it, if it shows anything (what a source has left, what a sink
-- holds, the calls of a link), and how often it had failed.
pub record Passage (A : Type 0) : Type 0 where
  pub before : Option A
  pub now : Option A
  pub faults : ℕ
  pub faults_now : ℕ

-- the passage of an object between two states of it
abbrev pub passage : {T A : Type 0} → (T → Option A) → (T → ℕ) → T → T → Passage A
passage tells faults before now = record {
  before = tells before;
  now = tells now;
  faults = faults before;
  faults_now = faults now;
}

-- it failed
abbrev pub Failed : {A : Type 0} → Passage A → Type 0
Failed p = Rose p.faults p.faults_now

-- it did not fail
abbrev pub IsSound : {A : Type 0} → Passage A → Type 0
IsSound p = p.faults_now ≡ p.faults

-- it failed if and only if this status is answered
pub record FailsBy {A : Type 0} (fault status : Status) (p : Passage A) : Type 0 where
  pub failed : status ≡ fault → Failed p
  pub sound : (status ≡ fault → ⊥) → IsSound p

-- After octets that were held, and an input that had ended or not, the handling of an input took some octets
-- from the source and wrote the output, with this status; it then knows whether the input ended.
pub record Passes (M : Meaning) (source sink : Passage (List ℕ)) (held : List ℕ) (had_ended ended : Bool)
    (calls : List LinkCall) (status : Status) : Type 0 where
  pub given : List ℕ
  pub octets : List ℕ
  pub taken : Consumes source.before source.now given
  pub wrote : Appends sink.before sink.now octets
  pub stands : After M (held ++ given) ended calls status octets
  pub at_end : ended ≡ true → IsAtEnd source.now
  pub stays : had_ended ≡ true → ended ≡ true
  pub read : FailsBy ReadFault status source
  pub write : FailsBy WriteFault status sink

-- the same for a command that has no text in front of its records and calls no link, from the first octet on
abbrev pub PassesAll : Meaning → Passage (List ℕ) → Passage (List ℕ) → Status → Type 0
PassesAll M source sink status = (ended : Bool) × Passes M source sink [] false ended [] status
