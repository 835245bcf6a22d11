-- What an input means to the command `migrate`: the whole of it is a calibration text (this project's profile).
use Rattle.std.specs.Prelude.{◌≡◌, ◌<◌, ◌≤◌, ℕ, List, [], length, Ok}
use Rattle.wrp_caldb.specs.Database.{Database}
use Rattle.wrp_calibration_text.specs.Reading.{IsReadingOf, IsFaultIn}
use Rattle.wrp_calibration_text.specs.Text.{IsTextDue}
use Rattle.wrp_records.specs.Meaning.{Meaning}
use Rattle.wrp_records.specs.Refusals.{bad_network_line, too_large_line}
use Rattle.wrp_records.specs.declared.status.Status.{Status}
use Rattle.wrp_records.specs.declared.status.Status.TheVariants.{Done, BadNetwork, TooLarge}

-- a calibration text has at most this many octets
abbrev pub IsWithin : List ℕ → Type 0
IsWithin input = length input ≤ 262_144

-- the input is a calibration text, and this is the text of version 2 that its database is written as
pub record IsMigrated (input text : List ℕ) : Type 0 where
  pub db : Database
  pub read : IsReadingOf input (Ok db)
  pub due : IsTextDue db text

-- the input is no calibration text, and this line has the least code of its faults, at the first place
pub record IsRefused (input text : List ℕ) : Type 0 where
  pub code : ℕ
  pub place : List ℕ
  pub fault : IsFaultIn input code place
  pub line : text ≡ bad_network_line code place

-- the status that is expected for an input, and what is written
abbrev pub IsAnswer : List ℕ → Status → List ℕ → Type 0
IsAnswer input Done text = IsWithin input × IsMigrated input text
IsAnswer input BadNetwork text = IsWithin input × IsRefused input text
IsAnswer input TooLarge text = (262_144 < length input) × (text ≡ too_large_line)
IsAnswer input _ text = ⊥

-- no call is made; before the end of the input, and if the source failed, nothing is written; a text that a failed
-- read cuts is judged for its size alone
abbrev pub migration : Meaning
migration = record {
  answers = λ input calls status text. (calls ≡ []) × IsAnswer input status text;
  first = λ input calls text. (calls ≡ []) × (text ≡ []);
  cut = λ taken text. IsWithin taken × (text ≡ []);
  refused = λ status octets. ⊥;
  unlinked = λ octets calls text. ⊥;
}
