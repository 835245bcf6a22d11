-- What the reader of a calibration text answers (this project's profile).
use Rattle.std.specs.Prelude.{◌≡◌, ◌⊎◌, ℕ, List, Some, None, Result, Ok, Err, codes}
use Rattle.std.specs.Str.{IsUtf8}
use Rattle.toml.specs.Data.{Members}
use Rattle.toml.specs.Parse.{parse_document}
use Rattle.wrp_base.specs.declared.fault.ConfFault.{ConfFault}
use Rattle.wrp_base.specs.declared.fault.ConfFault.TheVariants.{Fault, Memory}
use Rattle.wrp_caldb.specs.Calibration.{IsRefused, IsAccepted}
use Rattle.wrp_caldb.specs.Database.{Database, database_of}
use Rattle.wrp_caldb.specs.Place.{PlaceAt, place_text}
use Rattle.wrp_caldb.specs.Refusal.{number_of}
use Rattle.wrp_caldb.specs.declared.keys.Others.{Others}
use Rattle.wrp_caldb.specs.declared.keys.Others.TheVariants.{Refused}
use Rattle.wrp_caldb.specs.declared.row.Code.{Code}

-- the table is refused with this number and this text of a place
abbrev pub IsFaultOf : Others → Members → ℕ → List ℕ → Type 0
IsFaultOf others doc number text = (code : Code) × (place : PlaceAt)
    × IsRefused others doc code place × (number ≡ number_of code) × (text ≡ place_text place)

-- the fault has the number of this code and the text of this place
abbrev pub IsFaultAt : Code → PlaceAt → ConfFault → Type 0
IsFaultAt code place (Fault number text) =
    (number ≡ number_of code) × (text.bytes ≡ place_text place)
IsFaultAt code place (Memory e) = Unit {0}

-- code 1, at the place `-`
abbrev pub IsSyntax : ConfFault → Type 0
IsSyntax (Fault number text) = (number ≡ 1) × (text.bytes ≡ codes "-")
IsSyntax (Memory e) = ⊥

-- the answer for a table: its database if it is accepted, else the least code at its first place; for any table the
-- answer may be out of memory
abbrev pub IsAnswerOf : Others → Members → Result Database ConfFault → Type 0
IsAnswerOf others doc (Ok db) = IsAccepted others doc × (db ≡ database_of doc)
IsAnswerOf others doc (Err (Fault number place)) = IsFaultOf others doc number place.bytes
IsAnswerOf others doc (Err (Memory e)) = Unit {0}

-- the octets are a text of this table
abbrev pub IsTextOf : Members → List ℕ → Type 0
IsTextOf doc octets = IsUtf8 octets × (parse_document octets ≡ Some doc)

-- the octets are no text of TOML: no UTF-8, or refused by `toml`
abbrev pub IsNoText : List ℕ → Type 0
IsNoText octets = (¬ (IsUtf8 octets)) ⊎ (parse_document octets ≡ None)

-- the octets are no text, which is code 1 at the place `-`, or a text of a table with this fault
abbrev pub IsFaultIn : List ℕ → ℕ → List ℕ → Type 0
IsFaultIn octets number place =
    (IsNoText octets × (number ≡ 1) × (place ≡ codes "-"))
    ⊎ ((doc : Members) × IsTextOf doc octets × IsFaultOf Refused doc number place)

-- the answer for the octets of a text
abbrev pub IsReadingOf : List ℕ → Result Database ConfFault → Type 0
IsReadingOf octets (Ok db) =
    (doc : Members) × IsTextOf doc octets × IsAccepted Refused doc × (db ≡ database_of doc)
IsReadingOf octets (Err (Fault number place)) = IsFaultIn octets number place.bytes
IsReadingOf octets (Err (Memory e)) = Unit {0}
