-- For the lines of `l1sync` one answer is expected; and what the first of them write comes first.
use Rattle.std.proofs.Common.{◌≡◌, ◌∙◌, ap, ap₂, sym, subst, refl, ℕ, ◌+◌, Some, Result, Ok, Err, List, [], ◌∷◌, ◌++◌, append_assoc, length, None, reverse}
use Rattle.std.proofs.lemmas.List.{append-nil}
use Rattle.wrp_base.specs.declared.fault.TraceFault.{TraceFault}
use Rattle.wrp_l1sync.specs.declared.event.Breach.{Breach}
use Rattle.wrp_l1sync.specs.declared.event.L1Event.{L1Event}
use Rattle.wrp_l1sync.specs.declared.event.Limits.{Limits}
use Rattle.wrp_l1sync.specs.LineReading.{event_read, limits_read}
use Rattle.wrp_l1sync.specs.LineRecords.{Accepts, Breaks, Closes, IsBad, Refuses, Say, meaning}
use Rattle.wrp_l1sync.specs.LineText.{breach_line, event_text, text_of}
use Rattle.wrp_l1sync.specs.Pair.{AreAccepted, breach_of, history}
use Rattle.wrp_l1sync.proofs.LineLists.{never_among, one_list, say_front, say_more}
use Rattle.wrp_records.specs.declared.machine.Refusal.{Refusal}
use Rattle.wrp_records.specs.declared.machine.Refusal.TheVariants as refusals
use Rattle.wrp_records.specs.Refusals.{bad_trace_line}
use Rattle.wrp_records.proofs.Unique.{IsExact, ends_once, never_barred}

-- ---- the first events

-- the first of accepted events were accepted
accepted_front : (limits : Limits) (newer older : List L1Event) → AreAccepted limits (newer ++ older) → AreAccepted limits older
accepted_front limits [] older are = are
accepted_front limits (event ∷ newer) older are = accepted_front limits newer older are.1

-- and what is written for them comes first
pub text_front : (limits : Limits) (newer older : List L1Event) → (more : List ℕ) × (text_of limits (newer ++ older) ≡ text_of limits older ++ more)
text_front limits [] older = ([], sym (append-nil (text_of limits older)))
text_front limits (event ∷ newer) older =
    let rest = text_front limits newer older in (
      rest.0 ++ event_text limits (newer ++ older) event,
      ap (λ (t : List ℕ). t ++ event_text limits (newer ++ older) event) rest.1
          ∙ append_assoc (text_of limits older) rest.0 (event_text limits (newer ++ older) event),
    )

-- the first of lines that are records are records, and what they write comes first
pub accepts_front : (first : List ℕ) (later behind : List (List ℕ)) (text : List ℕ) → Accepts (first ∷ (later ++ behind)) text →
    (written : List ℕ) × (more : List ℕ) × (text ≡ written ++ more) × Accepts (first ∷ later) written
accepts_front first later behind text accepted =
    let limits : Limits = accepted.0 in
    let said = say_front first later behind limits accepted.1 accepted.2 in
    let front = text_front limits said.0 said.1 in (
      text_of limits said.1,
      front.0,
      accepted.3.wrote ∙ ap (λ (es : List L1Event). text_of limits es) said.2 ∙ front.1,
      (
        limits,
        said.1,
        said.3,
        record {
          accepted = accepted_front limits said.0 said.1 (subst (λ (es : List L1Event). AreAccepted limits es) said.2 accepted.3.accepted);
          wrote = refl;
        },
      ),
    )

-- ---- one answer

-- lines write one text
one_text : (lines : List (List ℕ)) (t u : List ℕ) → Accepts lines t → Accepts lines u → t ≡ u
one_text [] t u p q = p ∙ sym q
one_text (first ∷ later) t u p q =
    let same = one_list (first ∷ later) p.0 q.0 p.1 q.1 p.2 q.2 in
    p.3.wrote ∙ ap₂ (λ (l : Limits) (es : List L1Event). text_of l es) same.0 same.1 ∙ sym q.3.wrote

-- a line that breaks a premise is not accepted after the same lines
never_accepted : (first : List ℕ) (later behind : List (List ℕ)) (line t last : List ℕ) (number : ℕ) (limits : Limits) (events : List L1Event) →
    Accepts (first ∷ (later ++ line ∷ behind)) t → Say (first ∷ later) limits events → Breaks limits events number line last → ⊥
never_accepted first later behind line t last number limits events accepted say breaks =
    let whole : first ∷ (later ++ line ∷ behind) ≡ first ∷ ((later ++ line ∷ []) ++ behind) =
    ap (λ (ls : List (List ℕ)). first ∷ ls) (sym (append_assoc later (line ∷ []) behind)) in
    let front = accepts_front first (later ++ line ∷ []) behind t (subst (λ (ls : List (List ℕ)). Accepts ls t) whole accepted) in
    let with_line = front.3 in
    let said : Say (first ∷ (later ++ line ∷ [])) limits (breaks.event ∷ events) =
    say_more first later limits events line breaks.event say breaks.says in
    let same = one_list (first ∷ (later ++ line ∷ [])) with_line.0 limits with_line.1 (breaks.event ∷ events) with_line.2 said in
    let kept : AreAccepted limits (breaks.event ∷ events) =
    subst (λ (l : Limits). AreAccepted l (breaks.event ∷ events)) same.0
    (subst (λ (es : List L1Event). AreAccepted with_line.0 es) same.1 with_line.3.accepted) in
    let both : Some breaks.breach ≡ None = sym breaks.broken ∙ kept.0 in
    absurd cc

-- a line that is refused is not accepted after the same lines
not_both : (before behind : List (List ℕ)) (line t last : List ℕ) (refusal : Refusal) → Accepts (before ++ line ∷ behind) t →
    Refuses before line refusal last → ⊥
not_both [] behind line t last refusals.BadTrace p q = let both : Err q.0 ≡ Ok p.0 = sym q.1 ∙ p.2.0 in absurd cc
not_both [] behind line t last refusals.Broken p q = q
not_both (first ∷ later) behind line t last refusals.BadTrace p q = never_among later behind line q.0 (reverse p.1) p.2.1 q.1
not_both (first ∷ later) behind line t last refusals.Broken p q =
    never_accepted first later behind line t last (length (first ∷ later) + 1) q.0 q.1 p q.2 q.3

-- a line has one fault
one_bad : {A : Type 0} (reading : List ℕ → Result A TraceFault) (number : ℕ) (line t u : List ℕ) → IsBad reading number line t →
    IsBad reading number line u → t ≡ u
one_bad reading number line t u p q =
    let both : Err p.0 ≡ Err q.0 = sym p.1 ∙ q.1 in
    let fault : p.0 ≡ q.0 = cc in
    p.2 ∙ ap (λ (f : TraceFault). bad_trace_line number f) fault ∙ sym q.2

-- a line breaks one premise
one_break : (limits : Limits) (events : List L1Event) (number : ℕ) (line t u : List ℕ) → Breaks limits events number line t →
    Breaks limits events number line u → t ≡ u
one_break limits events number line t u p q =
    let read : Ok p.event ≡ Ok q.event = sym p.says ∙ q.says in
    let event : p.event ≡ q.event = cc in
    let both : Some p.breach ≡ Some q.breach =
    sym p.broken ∙ ap (λ (e : L1Event). breach_of limits (history limits.interval events) e) event ∙ q.broken in
    let breach : p.breach ≡ q.breach = cc in
    p.is ∙ ap (λ (b : Breach). breach_line number b) breach ∙ sym q.is

-- a line is refused in one way
one_refusal : (before : List (List ℕ)) (line t u : List ℕ) (a b : Refusal) → Refuses before line a t → Refuses before line b u →
    (a ≡ b) × (t ≡ u)
one_refusal [] line t u refusals.BadTrace refusals.BadTrace p q = (refl, one_bad limits_read 1 line t u p q)
one_refusal [] line t u refusals.BadTrace refusals.Broken p q = absurd q
one_refusal [] line t u refusals.Broken b p q = absurd p
one_refusal (first ∷ later) line t u refusals.BadTrace refusals.BadTrace p q =
    (refl, one_bad event_read (length (first ∷ later) + 1) line t u p q)
one_refusal (first ∷ later) line t u refusals.BadTrace refusals.Broken p q =
    let both : Err p.0 ≡ Ok q.3.event = sym p.1 ∙ q.3.says in absurd cc
one_refusal (first ∷ later) line t u refusals.Broken refusals.BadTrace p q =
    let both : Err q.0 ≡ Ok p.3.event = sym q.1 ∙ p.3.says in absurd cc
one_refusal (first ∷ later) line t u refusals.Broken refusals.Broken p q =
    let same = one_list (first ∷ later) p.0 q.0 p.1 q.1 p.2 q.2 in
    let breaks : Breaks q.0 q.1 (length (first ∷ later) + 1) line t =
    subst (λ (l : Limits). Breaks l q.1 (length (first ∷ later) + 1) line t) same.0
    (subst (λ (es : List L1Event). Breaks p.0 es (length (first ∷ later) + 1) line t) same.1 p.3) in
    (refl, one_break q.0 q.1 (length (first ∷ later) + 1) line t u breaks q.3)

one_closing : (lines : List (List ℕ)) (t u : List ℕ) → Closes lines t → Closes lines u → t ≡ u
one_closing lines t u p q = p ∙ sym q

-- what the relations of the lines keep
pub exact : IsExact meaning
exact = record {
  one_text = one_text;
  not_both = not_both;
  one_refusal = one_refusal;
  one_end = ends_once meaning never_barred one_closing;
}
