-- The queue of a link in memory: taking out the first frame that is held for an end.
use Rattle.std.proofs.Common.{◌≡◌, ◌≢◌, ◌+◌, ◌<◌, ◌≤◌, ◌==◌, ℕ, List, [], ◌∷◌, ◌++◌, length, take, drop, get_or, Some, None, refl, sym, ap, ◌∙◌, eq-eqb, suc, true, false, subst, arith}
use Rattle.std.specs.List.{position, position_or_len, remove, cons_option}
use Rattle.std.proofs.lemmas.Grind.{common_steps}
use Rattle.std.proofs.lemmas.Bool.Decides.{nat_tests}
use Rattle.std.proofs.lemmas.List.Elements.{filter_map-append}
use Rattle.std.proofs.lemmas.List.Sums.{passes_at_first}
use Rattle.std.proofs.lemmas.List.{take-append-drop}
use Rattle.std.proofs.Math.Seq.{drop-cons}
use Rattle.wrp_io.specs.declared.queue.Held.{Held}
use Rattle.wrp_io.specs.Queue.{held_for, held_at, TakesFirst}

-- the place of the first frame that is held for an end
abbrev place : ℕ → List Held → ℕ
place end queue = position_or_len (λ held. held.end == end) queue

-- one more is taken with the head
one_more_taken : (n : ℕ) (held : Held) (queue : List Held) → take (1 + n) (held ∷ queue) ≡ held ∷ take n queue
one_more_taken n held queue = grind (arith, common_steps)

-- none is held for the end before that place
none_before : (end : ℕ) (queue : List Held) → held_at end (take (place end queue) queue) ≡ []
none_before end [] = refl
none_before end (held ∷ queue) =
    elim (held.end == end) as (λ b. (held.end == end) ≡ b → held_at end (take (place end (held ∷ queue)) (held ∷ queue)) ≡ []) [
      | true ↦ λ is. simp is refl
      | false ↦ λ is. let later : held_at end (take (place end queue) queue) ≡ [] = none_before end queue in simp (is, one_more_taken) later
    ] refl

-- if the search finds none, none is held for the end
pub none_held : (end : ℕ) (queue : List Held) → position (λ held. held.end == end) queue ≡ None → held_at end queue ≡ []
none_held end queue none =
    let past : length queue ≤ place end queue = grind (arith, nat_tests) in
    let all : take (place end queue) queue ≡ queue = grind (arith, common_steps) in
    ap (held_at end) (sym all) ∙ none_before end queue

-- what a frame counts for at its own end
pub own : (end : ℕ) (held : Held) → held.end ≡ end → held_for end held ≡ Some held.frame.items
own end held is = let same : (held.end == end) ≡ true = eq-eqb held.end end is in rw same refl

-- what a frame counts for at another end
pub foreign : (end other : ℕ) (held : Held) → held.end ≡ end → other ≢ end → held_for other held ≡ None
foreign end other held is ne = let differ : (held.end == other) ≡ false = grind (arith, nat_tests) in rw differ refl

-- a queue without one frame before which none is held for its end
pub without : (end : ℕ) (front back : List Held) (held : Held) → held_at end front ≡ [] → held.end ≡ end
    → TakesFirst (front ++ held ∷ back) (front ++ back) end (Some held.frame)
without end front back held none is =
    let here : held_for end held ≡ Some held.frame.items = own end held is in
    let before : held_at end (front ++ held ∷ back) ≡ held.frame.items ∷ held_at end back =
    filter_map-append (held_for end) front (held ∷ back) ∙ ap (λ xs. xs ++ held_at end (held ∷ back)) none ∙ ap (λ o. cons_option o (held_at end back)) here in
    let after : held_at end (front ++ back) ≡ held_at end back =
    filter_map-append (held_for end) front back ∙ ap (λ xs. xs ++ held_at end back) none in (
      before ∙ ap (λ xs. held.frame.items ∷ xs) (sym after),
      λ other ne. filter_map-append (held_for other) front back
          ∙ ap (λ o. held_at other front ++ cons_option o (held_at other back)) (sym (foreign end other held is ne))
          ∙ sym (filter_map-append (held_for other) front (held ∷ back)),
    )

-- the frame at the place that the search finds is the first that is held for the end
pub first_held : (end : ℕ) (queue : List Held) (at : ℕ) (held : Held) → position (λ held. held.end == end) queue ≡ Some at → held ≡ get_or queue at held
    → TakesFirst queue (remove queue at) end (Some held.frame)
first_held end queue at held found is =
    let there : place end queue ≡ at = grind (arith, nat_tests) in
    let within : at < length queue = grind (arith, nat_tests) in
    let passes : (get_or queue (place end queue) held).end == end ≡ true = passes_at_first (λ h. h.end == end) queue held (subst (λ n. n < length queue) (sym there) within) in
    let chosen : (get_or queue at held).end == end ≡ true = subst (λ n. (get_or queue n held).end == end ≡ true) there passes in
    let ends : held.end ≡ end = grind (arith, nat_tests, chosen) in
    let none : held_at end (take at queue) ≡ [] = subst (λ n. held_at end (take n queue) ≡ []) there (none_before end queue) in
    let parts : take at queue ++ held ∷ drop (suc at) queue ≡ queue =
    ap (λ h. take at queue ++ h ∷ drop (suc at) queue) is ∙ ap (λ xs. take at queue ++ xs) (sym (drop-cons queue at held within)) ∙ take-append-drop at queue in
    subst (λ xs. TakesFirst xs (remove queue at) end (Some held.frame)) parts (without end (take at queue) (drop (suc at) queue) held none ends)
