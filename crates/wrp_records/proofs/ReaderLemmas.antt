-- What a reader gives and holds.
use Rattle.std.proofs.Common.{◌≡◌, ℕ, ◌+◌, ◌-◌, ◌≤◌, min, Option, List, [], Bool, true, false, ◌++◌, append_assoc, append-nil, length, take, drop, sym, ap, ◌∙◌, arith, length-take, subst}
use Rattle.std.proofs.lemmas.List.{drop-take, drop-drop, take-append-drop}
use Rattle.std.proofs.KnownBytes.{Consumes-trans}
use Rattle.std.specs.Io.KnownBytes.{Consumes}
use Rattle.wrp_records.specs.declared.reader.Next.{Next}
use Rattle.wrp_records.specs.Reader.{GivesOn, ReaderAt, Takes}

-- what was given after some octets, and what is held after it, are what was held
pub held_on : (piece before after : List ℕ) (at size end : ℕ) → size ≤ length (take (end - at) (drop at piece))
    → after ≡ before ++ take size (take (end - at) (drop at piece))
    → after ++ take (end - (at + size)) (drop (at + size) piece) ≡ before ++ take (end - at) (drop at piece)
held_on piece before after at size end within is =
    let held : List ℕ = take (end - at) (drop at piece) in
    let short : length held ≡ min (end - at) (length (drop at piece)) = length-take (end - at) (drop at piece) in
    let parts : size + (end - (at + size)) ≡ end - at = omega arith in
    let back : drop size held ≡ take (end - (at + size)) (drop (at + size) piece) =
    ap (λ n. drop size (take n (drop at piece))) (sym parts) ∙ drop-take size (end - (at + size)) (drop at piece)
    ∙ ap (take (end - (at + size))) (drop-drop size at piece) in
    ap (λ l. l ++ take (end - (at + size)) (drop (at + size) piece)) is
    ∙ append_assoc before (take size held) (take (end - (at + size)) (drop (at + size) piece))
    ∙ ap (λ l. before ++ (take size held ++ l)) (sym back) ∙ ap (λ l. before ++ l) (take-append-drop size held)

-- what is held if some of it is passed
pub passed_on : (piece : List ℕ) (at size end : ℕ) → size ≤ length (take (end - at) (drop at piece))
    → take (end - (at + size)) (drop (at + size) piece) ≡ drop size (take (end - at) (drop at piece))
passed_on piece at size end within =
    let short : length (take (end - at) (drop at piece)) ≡ min (end - at) (length (drop at piece)) = length-take (end - at) (drop at piece) in
    let parts : size + (end - (at + size)) ≡ end - at = omega arith in
    sym (ap (λ n. drop size (take n (drop at piece))) (sym parts) ∙ drop-take size (end - (at + size)) (drop at piece)
    ∙ ap (take (end - (at + size))) (drop-drop size at piece))

-- what was taken before, and then one more piece
pub more_taken : (first before now : Option (List ℕ)) (start line rest after none more : List ℕ) (was is will : Bool)
    → ((given : List ℕ) × Consumes first before given × (line ++ rest ≡ start ++ given) × (was ≡ true → (given ≡ []) × (is ≡ true)))
    → is ≡ false
    → after ++ none ≡ line ++ rest → none ≡ [] → Consumes before now more
    → (given : List ℕ) × Consumes first now given × (after ++ more ≡ start ++ given) × (was ≡ true → (given ≡ []) × (will ≡ true))
more_taken first before now start line rest after none more was is will so_far goes same empty taken =
    let all : after ≡ line ++ rest = sym (append-nil after) ∙ ap (λ l. after ++ l) (sym empty) ∙ same in (
      so_far.0 ++ more,
      Consumes-trans first before now so_far.0 more so_far.1 taken,
      ap (λ l. l ++ more) (all ∙ so_far.2) ∙ append_assoc start so_far.0 more,
      λ ended. let both = (so_far.3 ended).1 in cc,
    )

-- what was taken before, and then by one more request
pub takes_on : (first mid now : Option (List ℕ)) (held line after : List ℕ) (ended : Bool) (r s : ReaderAt)
    → Takes first mid held ended r line → Takes mid now (line ++ r.rest) r.ended s after → Takes first now held ended s after
takes_on first mid now held line after ended r s so_far more = (
  so_far.0 ++ more.0,
  Consumes-trans first mid now so_far.0 more.0 so_far.1 more.1,
  more.2 ∙ ap (λ l. l ++ more.0) so_far.2 ∙ append_assoc held so_far.0 more.0,
  λ was.
      let none = so_far.3 was in
      let further = more.3 none.1 in
      (ap (λ l. l ++ more.0) none.0 ∙ further.0, further.1),
)

-- what ends the reading, for this answer
pub given_on : (n m : Next) (line : List ℕ) (r : ReaderAt) (most : ℕ) → GivesOn n line r most → n ≡ m → GivesOn m line r most
given_on n m line r most how is = subst (λ (x : Next). GivesOn x line r most) is how
