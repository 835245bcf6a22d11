-- The meaning of octets whose records are lines (this project's profile).
use Rattle.std.specs.Prelude.{◌≡◌, ℕ, List, []}
use Rattle.wrp_records.specs.declared.machine.Refusal.{Refusal}
use Rattle.wrp_records.specs.declared.machine.Refusal.TheVariants as refusals
use Rattle.wrp_records.specs.declared.status.Status.{Status}
use Rattle.wrp_records.specs.declared.status.Status.TheVariants.{BadTrace, Broken}
use Rattle.wrp_records.specs.LineMeaning.{LineMeaning}
use Rattle.wrp_records.specs.Lines.{lines_of}
use Rattle.wrp_records.specs.Meaning.{Meaning}
use Rattle.wrp_records.specs.RecordsAnswer.{RecordsAnswer, StandsFirst, IsRefused}
use Rattle.wrp_records.specs.Stream.{CutHandled}

-- the last of these lines is refused
pub record LastRefused (L : LineMeaning) (refusal : Refusal) (octets : List ℕ) : Type 0 where
  pub text : List ℕ
  pub refused : IsRefused L refusal (lines_of octets) text
  pub last : refused.behind ≡ []

-- the last of these lines is refused with this status
abbrev pub LastRefusedAs : LineMeaning → Status → List ℕ → Type 0
LastRefusedAs L BadTrace octets = LastRefused L refusals.BadTrace octets
LastRefusedAs L Broken octets = LastRefused L refusals.Broken octets
LastRefusedAs L status octets = ⊥

-- the meaning of lines, by what the lines and the calls of a link mean: no call is made if a line is
-- refused
abbrev pub of_lines : LineMeaning → Meaning
of_lines L = record {
  answers = λ octets calls status text. (calls ≡ []) × RecordsAnswer L (lines_of octets) status text;
  first = λ octets calls text. (calls ≡ []) × StandsFirst L (lines_of octets) text;
  cut = λ octets text. CutHandled L.accepts octets text;
  refused = λ status octets. LastRefusedAs L status octets;
  unlinked = λ octets calls text. ⊥;
}
