-- What is written of a text, piece by piece.
use Rattle.std.proofs.Common.{◌≡◌, ℕ, ◌+◌, ◌≤◌, ◌++◌, min, Option, List, length, take, drop, sym, ap, ◌∙◌, subst, arith, length-take}
use Rattle.std.proofs.lemmas.List.{take-take}
use Rattle.std.proofs.Math.Seq.{take-add}
use Rattle.std.proofs.KnownBytes.{Appends-trans}
use Rattle.std.specs.Io.KnownBytes.{Appends}

-- what was written before, and then a part of the next piece, is written up to the end of that part
pub written_on : (first held now : Option (List ℕ)) (text : List ℕ) (at size taken : ℕ) → taken ≤ length (take size (drop at text))
    → Appends first held (take at text) → Appends held now (take taken (take size (drop at text)))
    → Appends first now (take (at + taken) text)
written_on first held now text at size taken within so_far more =
    let short : length (take size (drop at text)) ≡ min size (length (drop at text)) = length-take size (drop at text) in
    let part : take taken (take size (drop at text)) ≡ take taken (drop at text) = take-take taken size (drop at text) (omega arith) in
    let whole : take at text ++ take taken (take size (drop at text)) ≡ take (at + taken) text =
    ap (λ l. take at text ++ l) part ∙ sym (take-add at taken text) in
    subst (Appends first now) whole (Appends-trans first held now _ _ so_far more)
