-- Octets that are appended one after another are appended as one.
use Rattle.std.proofs.Common.{◌≡◌, ◌++◌, ℕ, List, ap, ◌∙◌, append_assoc}
use Rattle.arrayvec.specs.ArrayVec.{ArrayVec}
use Rattle.wrp_tlv.specs.Appending.{Appends}

-- what is appended first, and what is appended after it
pub and_then : {old one two : ArrayVec ℕ} {a b : List ℕ} → Appends old a one → Appends one b two → Appends old (a ++ b) two
and_then {old} {one} {two} {a} {b} first second = record {
  items = second.items ∙ ap (λ l. l ++ b) first.items ∙ append_assoc old.items a b;
}

-- the same octets by another name
pub renamed : {old new : ArrayVec ℕ} {a b : List ℕ} → Appends old a new → a ≡ b → Appends old b new
renamed {old} appended same = record { items = appended.items ∙ ap (λ l. old.items ++ l) same }
