-- What the octets of an input mean to a command: the octets after the text in front of the records if there is
-- such a text, otherwise all octets (this project's profile).
use Rattle.std.specs.Prelude.{ℕ, List}
use Rattle.wrp_io.specs.declared.link.LinkCall.{LinkCall}
use Rattle.wrp_records.specs.declared.status.Status.{Status}

-- What a command makes of an input, and of the link calls that the command itself makes, with their answers;
-- a command that makes no calls has none.
pub record Meaning : Type 1 where
  -- the status that is expected for an input, and the octets that are written
  pub answers : List ℕ → List LinkCall → Status → List ℕ → Type 0
  -- what the first records of an input write, or the first events that the command makes itself
  pub first : List ℕ → List LinkCall → List ℕ → Type 0
  -- the output if the source failed after these octets: they contain no refusal
  pub cut : List ℕ → List ℕ → Type 0
  -- a refusal with this status comes at the end of these octets: it is expected for them, and no octets after them
  -- are asked for
  pub refused : Status → List ℕ → Type 0
  -- the output if the next call of the link failed after these
  pub unlinked : List ℕ → List LinkCall → List ℕ → Type 0
