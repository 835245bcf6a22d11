-- The next line of octets that continue, whole or cut.
use Rattle.std.proofs.Common.{◌≡◌, inl, inr, true, false, ℕ, ◌<◌, ◌==◌, List, [], ◌∷◌, ◌++◌, length, refl, sym, ap, ◌∙◌, subst, append-nil, arith}
use Rattle.wrp_records.specs.Lines.{lines_of, HasNoFeed}
use Rattle.wrp_records.specs.Reader.{ReaderAt, IsNext}
use Rattle.wrp_records.proofs.Feeds.{lines_of-whole, lines_of-open}

-- the next line, however the input goes on
pub next_line : (line more : List ℕ) (r : ReaderAt) → IsNext line r → (r.ended ≡ true → more ≡ []) → lines_of (line ++ (r.rest ++ more)) ≡ line ∷ lines_of (r.rest ++ more)
next_line line more r next goes =
    elim next [
      | inl whole ↦ subst (λ (l : List ℕ). lines_of (l ++ (r.rest ++ more)) ≡ l ∷ lines_of (r.rest ++ more)) (sym whole.is) (lines_of-whole whole.front (r.rest ++ more) whole.plain)
      | inr end ↦
          let nothing : r.rest ++ more ≡ [] = ap (λ l. l ++ more) end.last.none ∙ goes end.last.ended in
          ap (λ l. lines_of (line ++ l)) nothing ∙ ap lines_of (append-nil line) ∙ lines_of-open line end.some end.plain ∙ ap (λ l. line ∷ lines_of l) (sym nothing)
    ]

-- a cut line continues with the input
pub cut_line : (cut more : List ℕ) → HasNoFeed cut → 0 < length cut → (tail : List ℕ) × (behind : List (List ℕ)) × (lines_of (cut ++ more) ≡ (cut ++ tail) ∷ behind)
cut_line [] more plain some = absurd (omega arith)
cut_line (octet ∷ []) more plain some =
    let other : (octet == 10) ≡ false = plain.0 in
    elim (lines_of more) as (λ ls. lines_of more ≡ ls → (tail : List ℕ) × (behind : List (List ℕ)) × (lines_of (octet ∷ more) ≡ (octet ∷ tail) ∷ behind)) [
      | [] ↦ λ is. ([], [], simp (other, is) refl)
      | l ∷ ls ↦ λ is. (l, ls, simp (other, is) refl)
    ] refl
cut_line (octet ∷ next ∷ cut) more plain some =
    let other : (octet == 10) ≡ false = plain.0 in
    let later = cut_line (next ∷ cut) more plain.1 (omega arith) in
    let is : lines_of ((next ∷ cut) ++ more) ≡ ((next ∷ cut) ++ later.0) ∷ later.1 = later.2 in
    (later.0, later.1, simp (other, is) refl)
