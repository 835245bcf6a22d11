-- What the record lines of a plain servo mean is exact: they have one text, one refusal and one end.
use Rattle.std.proofs.Common.{◌≡◌, ◌∙◌, refl, ap, ap₂, sym, subst, append_assoc, append-nil, ℕ, ◌+◌, None, Some, Ok, Err, List, [], ◌∷◌, ◌++◌, length, map, reverse}
use Rattle.std.proofs.lemmas.List.{map-append, reverse-append, reverse-reverse, same_from_push}
use Rattle.wrp_records.specs.declared.machine.Refusal.{Refusal}
use Rattle.wrp_records.specs.declared.machine.Refusal.TheVariants as refusals
use Rattle.wrp_records.specs.Refusals.{bad_trace_line}
use Rattle.wrp_records.proofs.Unique.{IsExact, ends_once, never_barred}
use Rattle.wrp_plain.specs.declared.event.PlainEvent.{PlainEvent}
use Rattle.wrp_plain.specs.declared.settings.PlainStart.{PlainStart}
use Rattle.wrp_plain.specs.LineCourse.{IsPlainRun, PlainAccepts, PlainRefuses, plain_meaning}
use Rattle.wrp_plain.specs.LineReading.{event_read}
use Rattle.wrp_plain.specs.LineText.{broken_line, events_text}
use Rattle.wrp_plain.specs.Premises.{broken_after}
use Rattle.wrp_plain.proofs.LinesOnce.{one_course, read, turned}

-- The newest event of a course

none_ends : {X : Type 0} (xs : List X) (x : X) → xs ++ x ∷ [] ≡ [] → ⊥
none_ends [] x e = cc
none_ends (y ∷ xs) x e = cc

-- the last line of a course says the newest event, and the lines before it are a course
record Newest (first : List ℕ) (lines : List (List ℕ)) (line : List ℕ) (start : PlainStart) : Type 0 where
  newest : PlainEvent
  before : List PlainEvent
  course : IsPlainRun first lines start before
  reads : event_read line ≡ Ok newest
  kept : broken_after start.set start.off before newest ≡ None

newest_of : (first : List ℕ) (lines : List (List ℕ)) (line : List ℕ) (start : PlainStart) (events : List PlainEvent) → IsPlainRun first (lines ++ line ∷ []) start events → Newest first lines line start
newest_of first lines line start [] course = absurd (none_ends (map event_read lines) (event_read line) (sym (map-append event_read lines (line ∷ [])) ∙ course.are))
newest_of first lines line start (event ∷ before) course =
    let ends = same_from_push (map event_read lines) (map read (reverse before)) (event_read line) (read event)
    (sym (map-append event_read lines (line ∷ [])) ∙ course.are ∙ turned event before) in
    record {
      newest = event;
      before = before;
      course = record { starts = course.starts; are = ends.0; kept = course.kept.2 };
      reads = ends.1;
      kept = course.kept.1;
    }

-- the first lines of a course are a course
first_lines : (first : List ℕ) (front back : List (List ℕ)) (start : PlainStart) (events : List PlainEvent) → IsPlainRun first (front ++ reverse back) start events →
    (older : List PlainEvent) × IsPlainRun first front start older
first_lines first front [] start events course = (events, subst (λ (ls : List (List ℕ)). IsPlainRun first ls start events) (append-nil front) course)
first_lines first front (line ∷ back) start events course =
    let split : front ++ reverse (line ∷ back) ≡ (front ++ reverse back) ++ line ∷ [] =
    ap (λ (ls : List (List ℕ)). front ++ ls) (reverse-append (line ∷ []) back) ∙ sym (append_assoc front (reverse back) (line ∷ [])) in
    let n : Newest first (front ++ reverse back) line start = newest_of first (front ++ reverse back) line start events (subst (λ (ls : List (List ℕ)). IsPlainRun first ls start events) split course) in
    first_lines first front back start n.before n.course

-- a line among the lines of a course
among : (first : List ℕ) (before behind : List (List ℕ)) (line : List ℕ) (start : PlainStart) (events : List PlainEvent) → IsPlainRun first (before ++ line ∷ behind) start events → Newest first before line start
among first before behind line start events course =
    let older = first_lines first (before ++ line ∷ []) (reverse behind) start events
    (subst (λ (ls : List (List ℕ)). IsPlainRun first ls start events)
    (sym (append_assoc before (line ∷ []) behind) ∙ ap (λ (ls : List (List ℕ)). (before ++ line ∷ []) ++ ls) (sym (reverse-reverse behind))) course) in
    newest_of first before line start older.0 older.1

-- One text

one_text : (lines : List (List ℕ)) (t u : List ℕ) → PlainAccepts lines t → PlainAccepts lines u → t ≡ u
one_text [] t u p q = p ∙ sym q
one_text (first ∷ lines) t u p q =
    let one = one_course first lines p.0 q.0 p.1 q.1 p.2 q.2 in
    p.3 ∙ ap₂ (λ (s : PlainStart) (es : List PlainEvent). events_text s.set s.off es) one.0 one.1 ∙ sym q.3

-- One refusal

-- an event is the one that a line says, and breaks the same premise after the same lines
same_broken : (first : List ℕ) (lines : List (List ℕ)) (line : List ℕ) (s t : PlainStart) (a b : List PlainEvent) (x y : PlainEvent) → IsPlainRun first lines s a → IsPlainRun first lines t b →
    event_read line ≡ Ok x → event_read line ≡ Ok y → broken_after s.set s.off a x ≡ broken_after t.set t.off b y
same_broken first lines line s t a b x y p q h k =
    let one = one_course first lines s t a b p q in
    let both : read x ≡ read y = sym h ∙ k in
    let same : x ≡ y = cc in
    ap₂ (λ (r : PlainStart) (es : List PlainEvent). broken_after r.set r.off es x) one.0 one.1 ∙ ap (broken_after t.set t.off b) same

-- a line of a course is not refused
not_both : (before behind : List (List ℕ)) (line t last : List ℕ) (refusal : Refusal) → PlainAccepts (before ++ line ∷ behind) t → PlainRefuses before line refusal last → ⊥
not_both [] behind line t last refusals.BadTrace p q =
    let both : Ok p.0 ≡ Err q.0 = sym p.2.starts ∙ q.1 in
    cc
not_both [] behind line t last refusals.Broken p q = q
not_both (first ∷ before) behind line t last refusals.BadTrace p q =
    let n : Newest first before line p.0 = among first before behind line p.0 p.1 p.2 in
    let both : Ok n.newest ≡ Err q.0 = sym n.reads ∙ q.1 in
    cc
not_both (first ∷ before) behind line t last refusals.Broken p q =
    let n : Newest first before line p.0 = among first before behind line p.0 p.1 p.2 in
    let both : None ≡ Some q.broken = sym n.kept ∙ same_broken first before line p.0 q.start n.before q.events n.newest q.event n.course q.course n.reads q.reads ∙ q.told in
    cc

one_refusal : (before : List (List ℕ)) (line t u : List ℕ) (a b : Refusal) → PlainRefuses before line a t → PlainRefuses before line b u → (a ≡ b) × (t ≡ u)
one_refusal [] line t u refusals.BadTrace refusals.BadTrace p q =
    let both : Err p.0 ≡ Err q.0 = sym p.1 ∙ q.1 in
    let fault : p.0 ≡ q.0 = cc in
    (refl, p.2 ∙ ap (bad_trace_line 1) fault ∙ sym q.2)
one_refusal [] line t u refusals.BadTrace refusals.Broken p q = absurd q
one_refusal [] line t u refusals.Broken b p q = absurd p
one_refusal (first ∷ lines) line t u refusals.BadTrace refusals.BadTrace p q =
    let both : Err p.0 ≡ Err q.0 = sym p.1 ∙ q.1 in
    let fault : p.0 ≡ q.0 = cc in
    (refl, p.2 ∙ ap (bad_trace_line (length (first ∷ lines) + 1)) fault ∙ sym q.2)
one_refusal (first ∷ lines) line t u refusals.BadTrace refusals.Broken p q =
    let both : Err p.0 ≡ Ok q.event = sym p.1 ∙ q.reads in
    absurd (cc)
one_refusal (first ∷ lines) line t u refusals.Broken refusals.BadTrace p q =
    let both : Ok p.event ≡ Err q.0 = sym p.reads ∙ q.1 in
    absurd (cc)
one_refusal (first ∷ lines) line t u refusals.Broken refusals.Broken p q =
    let told : Some p.broken ≡ Some q.broken =
    sym p.told ∙ same_broken first lines line p.start q.start p.events q.events p.event q.event p.course q.course p.reads q.reads ∙ q.told in
    let broken : p.broken ≡ q.broken = cc in
    (refl, p.is ∙ ap (broken_line (length (first ∷ lines) + 1)) broken ∙ sym q.is)

-- What is exact

pub exact : IsExact plain_meaning
exact = record {
  one_text = one_text;
  not_both = not_both;
  one_refusal = one_refusal;
  one_end = ends_once plain_meaning never_barred (λ lines t u p q. p ∙ sym q);
}
