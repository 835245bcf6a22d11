-- What the record lines of a command mean (this project's profile).
use Rattle.std.specs.Prelude.{ℕ, List}
use Rattle.wrp_records.specs.declared.status.Status.{Status}
use Rattle.wrp_records.specs.declared.status.Status.TheVariants.{BadCalib}
use Rattle.wrp_records.specs.Stream.{Accepting, Refusing}

-- the statuses with which the text written at the end, after all lines, may break off, by what the
-- lines say, and the part of that text that is then written
abbrev pub Breaking : Type 1
Breaking = List (List ℕ) → Status → List ℕ → Type 0

-- the end of the input is refused after all lines; this last line names the refusal
abbrev pub breaks_by : Accepting → Breaking
breaks_by bars lines BadCalib text = bars lines text
breaks_by bars lines status text = ⊥

-- no lines fail to give an answer
abbrev pub bars_none : Accepting
bars_none lines text = ⊥

-- which lines are records and what they write; which line is refused after others and what names it;
-- what is written at the end, after all lines; and how that may break off
pub record LineMeaning : Type 1 where
  pub accepts : Accepting
  pub refuses : Refusing
  pub closes : Accepting
  pub breaks_off : Breaking

-- the meaning of a machine's lines
abbrev pub meaning_by : Accepting → Refusing → Accepting → Accepting → LineMeaning
meaning_by accepts refuses closes bars = record {
  accepts = accepts;
  refuses = refuses;
  closes = closes;
  breaks_off = breaks_by bars;
}
