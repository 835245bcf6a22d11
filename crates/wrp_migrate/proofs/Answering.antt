-- How much of what is expected for an input is written, and what is then left.
use Rattle.std.proofs.Common.{◌≡◌, inl, inr, true, false, ℕ, ◌+◌, ◌<◌, Bool, Option, List, [], ◌++◌, length, take, refl, sym, ap, ◌∙◌, subst, append-nil, length-append, arith}
use Rattle.std.proofs.KnownBytes.{Appends-nil}
use Rattle.std.specs.Io.KnownBytes.{Appends}
use Rattle.wrp_migrate.specs.Input.{IsShort, GivesAnswer}
use Rattle.wrp_migrate.specs.Migration.{IsAnswer, migration}
use Rattle.wrp_records.specs.After.{After, IsDue}
use Rattle.wrp_records.specs.Engine.{Finishes}
use Rattle.wrp_records.specs.Refusals.{too_large_line}
use Rattle.wrp_records.specs.declared.status.Status.{Status}
use Rattle.wrp_records.specs.declared.status.Status.TheVariants.{Done, BadNetwork, ReadFault, WriteFault, TooLarge, OutOfMemory}

-- what is written, and what is then left
abbrev pub Wrote : List ℕ → Bool → Status → Option (List ℕ) → Option (List ℕ) → Type 0
Wrote taken ended given before now = (octets : List ℕ) × Appends before now octets × After migration taken ended [] given octets

-- if the input ended, it does not go on
due_ended : (input : List ℕ) (status : Status) (text : List ℕ) → IsAnswer input status text → IsDue migration input true [] status text
due_ended input status text is more goes =
    let all : input ++ more ≡ input = ap (λ l. input ++ l) (goes refl) ∙ append-nil input in
    (refl, subst (λ (l : List ℕ). IsAnswer l status text) (sym all) is)

-- all that is expected is written
stands : (input : List ℕ) (status : Status) (text : List ℕ) → IsAnswer input status text → After migration input true [] status text
stands input Done text is = (refl, (refl, is))
stands input BadNetwork text is = due_ended input BadNetwork text is
stands input TooLarge text is = due_ended input TooLarge text is
stands input _ text is = absurd is

-- all of a text is written, or the first of it
finished : (taken : List ℕ) (ended : Bool) (due given : Status) (before now : Option (List ℕ)) (text : List ℕ) → After migration taken ended [] due text
    → IsDue migration taken ended [] due text → Finishes due given before now text → Wrote taken ended given before now
finished taken ended due given before now text after is (inl whole) = (text, whole.1, subst (λ s. After migration taken ended [] s text) (sym whole.0) after)
finished taken ended due given before now text after is (inr cut) = (
  take cut.1.0 text,
  cut.1.1,
  subst (λ s. After migration taken ended [] s (take cut.1.0 text)) (sym cut.0) (text, cut.1.0, refl, inl (due, is)),
)

-- if memory runs out nothing is written
pub wrote_nothing : (taken : List ℕ) (ended : Bool) (given : Status) (before now : Option (List ℕ)) → IsShort given before now → Wrote taken ended given before now
wrote_nothing taken ended given before now is = (
  [],
  subst (λ (held : Option (List ℕ)). Appends before held []) (sym is.1) (Appends-nil before),
  subst (λ s. After migration taken ended [] s []) (sym is.0) (λ more goes. (refl, refl)),
)

-- at the end of the input
pub wrote_answer : (input : List ℕ) (given : Status) (before now : Option (List ℕ)) → GivesAnswer input given before now → Wrote input true given before now
wrote_answer input given before now (inl is) = wrote_nothing input true given before now is
wrote_answer input given before now (inr is) =
    finished input true is.0 given before now is.1 (stands input is.0 is.1 is.2) (due_ended input is.0 is.1 is.2) is.3

-- an input that is too long is so however it goes on
due_large : (taken : List ℕ) → 262_144 < length taken → IsDue migration taken false [] TooLarge too_large_line
due_large taken long more goes =
    let size : length (taken ++ more) ≡ length taken + length more = length-append taken more in
    (refl, (omega (arith, size, long), refl))

-- and the line that says so is written
pub wrote_large : (taken : List ℕ) (given : Status) (before now : Option (List ℕ)) → 262_144 < length taken → Finishes TooLarge given before now too_large_line
    → Wrote taken false given before now
wrote_large taken given before now long is = finished taken false TooLarge given before now too_large_line (due_large taken long) (due_large taken long) is

-- no failed read is reported at the end of the input
pub never_read : (input : List ℕ) (given : Status) (before now : Option (List ℕ)) → GivesAnswer input given before now → given ≡ ReadFault → ⊥
never_read input given before now (inl is) e = let other : OutOfMemory ≡ ReadFault = sym is.0 ∙ e in cc other
never_read input given before now (inr (due, text, is, inl whole)) e = subst (λ s. IsAnswer input s text) (sym whole.0 ∙ e) is
never_read input given before now (inr (due, text, is, inr cut)) e = let other : WriteFault ≡ ReadFault = sym cut.0 ∙ e in cc other
