-- One input has one answer.
use Rattle.std.proofs.Common.{◌≡◌, inl, inr, ℕ, Some, None, Ok, List, refl, sym, ap, ap₂, ◌∙◌, subst, arith}
use Rattle.std.proofs.lemmas.Option.{same_Some}
use Rattle.toml.specs.Data.{Members}
use Rattle.wrp_calibration_text.proofs.OneText.{one_text}
use Rattle.wrp_calibration_text.proofs.Refusals.{least_exact}
use Rattle.wrp_caldb.specs.Calibration.{first_place, IsAccepted}
use Rattle.wrp_caldb.specs.Database.{Database, database_of}
use Rattle.wrp_caldb.specs.Place.{PlaceAt, place_text}
use Rattle.wrp_calibration_text.specs.Reading.{IsFaultIn, IsFaultOf, IsNoText, IsReadingOf, IsTextOf}
use Rattle.wrp_caldb.specs.Refusal.{number_of}
use Rattle.wrp_calibration_text.specs.Text.{IsTextDue}
use Rattle.wrp_caldb.specs.declared.keys.Others.TheVariants.{Refused}
use Rattle.wrp_caldb.specs.declared.row.Code.{Code}
use Rattle.wrp_io.specs.declared.link.LinkCall.{LinkCall}
use Rattle.wrp_migrate.specs.Migration.{IsAnswer, migration}
use Rattle.wrp_records.specs.Refusals.{bad_network_line}
use Rattle.wrp_records.specs.declared.status.Status.{Status}
use Rattle.wrp_records.specs.declared.status.Status.TheVariants.{Done, BadNetwork, TooLarge}

-- a text has one table
text_once : (octets : List ℕ) (a b : Members) → IsTextOf a octets → IsTextOf b octets → a ≡ b
text_once octets a b x y = same_Some a b (sym x.1 ∙ y.1)

-- octets of a text are some text
no_text : (octets : List ℕ) (doc : Members) → IsTextOf doc octets → IsNoText octets → ⊥
no_text octets doc is (inl none) = none is.0
no_text octets doc is (inr none) = let never : None ≡ Some doc = sym none ∙ is.1 in cc never

-- a text has one database
pub one_database : (input : List ℕ) (a b : Database) → IsReadingOf input (Ok a) → IsReadingOf input (Ok b) → a ≡ b
one_database input a b x y = x.3 ∙ ap database_of (text_once input x.0 y.0 x.1 y.1) ∙ sym y.3

-- one code at one place
table_once : (doc : Members) (n m : ℕ) (s t : List ℕ) → IsFaultOf Refused doc n s → IsFaultOf Refused doc m t → (n ≡ m) × (s ≡ t)
table_once doc n m s t one other =
    let first = (least_exact (first_place Refused doc) one.0 one.1).1 one.2 in
    let second = (least_exact (first_place Refused doc) other.0 other.1).1 other.2 in
    let same : (one.0, one.1) ≡ (other.0, other.1) = same_Some (one.0, one.1) (other.0, other.1) (sym first ∙ second) in (
      one.3 ∙ ap (λ (at : Code × PlaceAt). number_of at.0) same ∙ sym other.3,
      one.4 ∙ ap (λ (at : Code × PlaceAt). place_text at.1) same ∙ sym other.4,
    )

-- an accepted table has no fault
not_accepted : (doc : Members) (n : ℕ) (s : List ℕ) → IsAccepted Refused doc → IsFaultOf Refused doc n s → ⊥
not_accepted doc n s accepted is = let never : None ≡ Some is.1 = sym (accepted is.0) ∙ is.2.0 in cc never

-- a text of a database has no fault
never_both : (input : List ℕ) (db : Database) (n : ℕ) (s : List ℕ) → IsReadingOf input (Ok db) → IsFaultIn input n s → ⊥
never_both input db n s read (inl none) = no_text input read.0 read.1 none.0
never_both input db n s read (inr is) =
    not_accepted read.0 n s read.2 (subst (λ doc. IsFaultOf Refused doc n s) (text_once input is.0 read.0 is.1 read.1) is.2)

-- octets have one fault
fault_once : (input : List ℕ) (n m : ℕ) (s t : List ℕ) → IsFaultIn input n s → IsFaultIn input m t → (n ≡ m) × (s ≡ t)
fault_once input n m s t (inl one) (inl other) = (one.1 ∙ sym other.1, one.2 ∙ sym other.2)
fault_once input n m s t (inl one) (inr other) = absurd (no_text input other.0 other.1 one.0)
fault_once input n m s t (inr one) (inl other) = absurd (no_text input one.0 one.1 other.0)
fault_once input n m s t (inr one) (inr other) =
    table_once other.0 n m s t (subst (λ doc. IsFaultOf Refused doc n s) (text_once input one.0 other.0 one.1 other.1) one.2) other.2

-- one status and one text are expected
one_answer : (input : List ℕ) (a b : Status) (t u : List ℕ) → IsAnswer input a t → IsAnswer input b u → (a ≡ b) × (t ≡ u)
one_answer input Done Done t u x y =
    let db = one_database input x.1.db y.1.db x.1.read y.1.read in
    (refl, one_text y.1.db t u (subst (λ d. IsTextDue d t) db x.1.due) y.1.due)
one_answer input Done BadNetwork t u x y = absurd (never_both input x.1.db y.1.code y.1.place x.1.read y.1.fault)
one_answer input Done TooLarge t u x y = let within = x.0 in let long = y.0 in absurd (omega (arith, within, long))
one_answer input BadNetwork Done t u x y = absurd (never_both input y.1.db x.1.code x.1.place y.1.read x.1.fault)
one_answer input BadNetwork BadNetwork t u x y =
    let same = fault_once input x.1.code y.1.code x.1.place y.1.place x.1.fault y.1.fault in
    (refl, x.1.line ∙ ap₂ bad_network_line same.0 same.1 ∙ sym y.1.line)
one_answer input BadNetwork TooLarge t u x y = let within = x.0 in let long = y.0 in absurd (omega (arith, within, long))
one_answer input TooLarge Done t u x y = let within = y.0 in let long = x.0 in absurd (omega (arith, within, long))
one_answer input TooLarge BadNetwork t u x y = let within = y.0 in let long = x.0 in absurd (omega (arith, within, long))
one_answer input TooLarge TooLarge t u x y = (refl, x.1 ∙ sym y.1)
one_answer input Done _ t u x y = absurd y
one_answer input BadNetwork _ t u x y = absurd y
one_answer input TooLarge _ t u x y = absurd y
one_answer input _ b t u x y = absurd x

-- an input has one answer: one status and one text
pub one_migration : (input : List ℕ) (calls : List LinkCall) (a b : Status) (t u : List ℕ) → migration.answers input calls a t → migration.answers input calls b u → (a ≡ b) × (t ≡ u)
one_migration input calls a b t u x y = one_answer input a b t u x.1 y.1
