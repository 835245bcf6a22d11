-- What a source in memory gives and what it has left are what it had.
use Rattle.std.proofs.Common.{◌≡◌, ℕ, ◌+◌, ◌<◌, min, List, [], ◌++◌, length, take, drop, sym, ap, ◌∙◌, arith}
use Rattle.std.proofs.lemmas.List.{drop-drop, take-append-drop, nil_from_length}

-- the octets that were given, and those that are left
pub given_and_left : (left given bytes : List ℕ) (at n : ℕ) → drop at bytes ≡ left → take n given ≡ take n left
    → left ≡ take n given ++ drop (at + n) bytes
given_and_left left given bytes at n is copied =
    sym (take-append-drop n left) ∙ ap (λ front. front ++ drop n left) (sym copied)
    ∙ ap (λ back. take n given ++ back) (ap (drop n) (sym is) ∙ drop-drop n at bytes)

-- none is given only at the end or with no room
pub none_at_the_end : (left bytes : List ℕ) (at n room : ℕ) → drop at bytes ≡ left → n ≡ min room (length left)
    → n ≡ 0 → 0 < room → drop (at + n) bytes ≡ []
none_at_the_end left bytes at n room is count none some =
    let empty : length left ≡ 0 = omega arith in
    sym (drop-drop n at bytes) ∙ ap (drop n) (is ∙ nil_from_length left empty) ∙ ap (λ k. drop k []) none
