-- States that were entered in their order: how many of them, as one mark comes after another.
use Rattle.std.proofs.Common.{◌≡◌, sym, ap, ◌∙◌, subst, inl, inr, ℕ, ◌+◌, ◌<◌, ◌≤◌, ℤ, ◌≤ℤ◌, List, [], ◌∷◌, ◌++◌, length, reverse, take, drop, get_or, pos, Option, None, arith}
use Rattle.std.proofs.lemmas.List.{take_all, take-append-drop, drop_more}
use Rattle.std.proofs.lemmas.Option.{slice_get_cases, slice_get-get_or}
use Rattle.std.specs.List.{slice_get}
use Rattle.std.specs.Option.{MatchOption}
use Rattle.wrp_base.specs.declared.link.LinkState.{LinkState}
use Rattle.wrp_base.specs.declared.link.LinkState.TheVariants.{Idle}
use Rattle.wrp_base.specs.declared.link.Mark.{Mark}
use Rattle.wrp_check.specs.Judged.{Lacks}
use Rattle.wrp_check.specs.Stretches.{Entered}
use Rattle.wrp_check.proofs.Backwards.{reverse_more}

-- if later states were entered, so were those before them
pub entered_less : (time : ℤ) (state : LinkState) (states : List LinkState) (marks : List Mark) → Entered time (state ∷ states) marks → Entered time states marks
entered_less time state [] marks h = tt
entered_less time state (s ∷ states) [] h = absurd h
entered_less time state (s ∷ states) (mark ∷ marks) h =
    elim h [ inl x ↦ inr x.others | inr x ↦ inr (entered_less time state (s ∷ states) marks x) ]

-- what was entered stays entered with one more mark
pub entered_more : (time : ℤ) (states : List LinkState) (mark : Mark) (marks : List Mark) → Entered time states marks → Entered time states (mark ∷ marks)
entered_more time [] mark marks h = tt
entered_more time (s ∷ states) mark marks h = inr h

-- this many of the states were entered, and no more of them
pub record EnteredSoFar (time : ℤ) (states : List LinkState) (marks : List Mark) (count : ℕ) : Type 0 where
  pub within : count ≤ length states
  pub entered : Entered time (reverse (take count states)) marks
  pub most : count < length states → Entered time (get_or states count Idle ∷ reverse (take count states)) marks → ⊥

-- a mark that enters the next state
pub enters : (time : ℤ) (states : List LinkState) (marks : List Mark) (count : ℕ) (mark : Mark) →
    count < length states → mark.to ≡ get_or states count Idle → mark.at ≤ℤ time →
    EnteredSoFar time states marks count → EnteredSoFar time states (mark ∷ marks) (count + 1)
enters time states marks count mark lt is by h =
    let more : reverse (take (count + 1) states) ≡ get_or states count Idle ∷ reverse (take count states) = reverse_more states count Idle lt in
    record {
      within = omega arith;
      entered =
          subst (λ (ss : List LinkState). Entered time ss (mark ∷ marks)) (sym more)
          (inl (record { is = is; by = by; others = h.entered }));
      most = λ lt' both.
          elim (subst (λ (ss : List LinkState). Entered time (get_or states (count + 1) Idle ∷ ss) (mark ∷ marks)) more both) [
            | inl x ↦ h.most lt x.others
            | inr x ↦ h.most lt (entered_less time (get_or states (count + 1) Idle) (get_or states count Idle ∷ reverse (take count states)) marks x)
          ];
    }

-- any other mark
pub passes_by : (time : ℤ) (states : List LinkState) (marks : List Mark) (count : ℕ) (mark : Mark) →
    (count < length states → mark.to ≡ get_or states count Idle → mark.at ≤ℤ time → ⊥) →
    EnteredSoFar time states marks count → EnteredSoFar time states (mark ∷ marks) count
passes_by time states marks count mark other h =
    record {
      within = h.within;
      entered = entered_more time (reverse (take count states)) mark marks h.entered;
      most = λ lt both. elim both [ inl x ↦ other lt x.is x.by | inr x ↦ h.most lt x ];
    }

-- all states were entered
pub all_entered : (time : ℤ) (states : List LinkState) (marks : List Mark) (count : ℕ) → length states ≤ count → EnteredSoFar time states marks count → Entered time (reverse states) marks
all_entered time states marks count le h = subst (λ (ss : List LinkState). Entered time (reverse ss) marks) (take_all count states le) h.entered

-- the next state is the first that is not there
pub lacks_next : (time : ℤ) (states : List LinkState) (marks : List Mark) (count : ℕ) →
    count < length states → EnteredSoFar time states marks count → Lacks states time marks (get_or states count Idle)
lacks_next time states marks count lt h =
    record {
      before = take count states;
      after = drop (count + 1) states;
      splits = sym (take-append-drop count states) ∙ ap (λ ss. take count states ++ ss) (drop_more states count Idle lt);
      entered = h.entered;
      missing = h.most lt;
    }

-- what `missing` answers, by the count at the end
pub missing_is : (time : ℤ) (states : List LinkState) (marks : List Mark) (count : ℕ) → EnteredSoFar time states marks count →
    MatchOption (slice_get states count) (Entered time (reverse states) marks) (λ state. Lacks states time marks state)
missing_is time states marks count h =
    elim (slice_get_cases states count).1 [
      | inl (state, lt, is, same) ↦
          let P : Option LinkState → Type 0 = λ o. MatchOption o (Entered time (reverse states) marks) (λ s. Lacks states time marks s) in
          subst P (sym (slice_get-get_or states count Idle lt)) (lacks_next time states marks count lt h)
      | inr (le, is) ↦
          let P : Option LinkState → Type 0 = λ o. MatchOption o (Entered time (reverse states) marks) (λ s. Lacks states time marks s) in
          subst P (sym is) (all_entered time states marks count le h)
    ]

-- the mark that is used for one past the end
abbrev pub no_mark : Mark
no_mark = record { at = pos 0; from = Idle; to = Idle; by = None }

-- the mark at i read from the end, and the count by an equation
pub next_mark : (time : ℤ) (states : List LinkState) (marks : List Mark) (i : ℕ) (d : Mark) (count now : ℕ) →
    now ≡ count → i < length marks → EnteredSoFar time states (get_or marks i d ∷ reverse (take i marks)) count →
    EnteredSoFar time states (reverse (take (i + 1) marks)) now
next_mark time states marks i d count now e lt h =
    let P : List Mark → Type 0 = λ ms. EnteredSoFar time states ms now in
    subst P (sym (reverse_more marks i d lt))
    (subst (λ (n : ℕ). EnteredSoFar time states (get_or marks i d ∷ reverse (take i marks)) n) (sym e) h)
