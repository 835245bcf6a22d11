-- Lines are one course: they say one start and one list of events; and one more line says one more event.
use Rattle.std.proofs.Common.{◌≡◌, ◌∙◌, refl, sym, ap, ap₂, ℕ, Result, Ok, List, [], ◌∷◌, ◌++◌, map, reverse}
use Rattle.std.proofs.lemmas.List.{map-append, reverse-append, reverse-reverse}
use Rattle.wrp_base.specs.declared.fault.TraceFault.{TraceFault}
use Rattle.wrp_plain.specs.declared.event.PlainEvent.{PlainEvent}
use Rattle.wrp_plain.specs.declared.settings.PlainStart.{PlainStart}
use Rattle.wrp_plain.specs.LineCourse.{AreEvents, IsPlainRun}
use Rattle.wrp_plain.specs.LineReading.{event_read}
use Rattle.wrp_plain.specs.Premises.{Accepts}

-- an event as it is read
abbrev pub read : PlainEvent → Result PlainEvent TraceFault
read event = Ok event

-- in the order in which the events came, the newest is the last
pub turned : (event : PlainEvent) (events : List PlainEvent) → map read (reverse (event ∷ events)) ≡ map read (reverse events) ++ read event ∷ []
turned event events = ap (map read) (reverse-append (event ∷ []) events) ∙ map-append read (reverse events) (event ∷ [])

map_reverse : (events : List PlainEvent) → map read (reverse events) ≡ reverse (map read events)
map_reverse [] = refl
map_reverse (event ∷ events) =
    turned event events ∙ ap (λ (rs : List (Result PlainEvent TraceFault)). rs ++ read event ∷ []) (map_reverse events) ∙ sym (reverse-append (read event ∷ []) (map read events))

-- events are known by how they are read
same_reads : (a b : List PlainEvent) → map read a ≡ map read b → a ≡ b
same_reads [] [] e = refl
same_reads [] (y ∷ b) e = absurd (cc)
same_reads (x ∷ a) [] e = absurd (cc)
same_reads (x ∷ a) (y ∷ b) e =
    let head : read x ≡ read y = cc in
    let first : x ≡ y = cc in
    let rest : map read a ≡ map read b = cc in
    ap₂ (λ (z : PlainEvent) (zs : List PlainEvent). z ∷ zs) first (same_reads a b rest)

-- lines say one list of events
one_list : (lines : List (List ℕ)) (a b : List PlainEvent) → AreEvents lines a → AreEvents lines b → a ≡ b
one_list lines a b p q =
    let both : reverse (map read a) ≡ reverse (map read b) = sym (map_reverse a) ∙ sym p ∙ q ∙ map_reverse b in
    same_reads a b (sym (reverse-reverse (map read a)) ∙ ap reverse both ∙ reverse-reverse (map read b))

-- two courses of the same lines are one
pub one_course : (first : List ℕ) (lines : List (List ℕ)) (s t : PlainStart) (a b : List PlainEvent) → IsPlainRun first lines s a → IsPlainRun first lines t b → (s ≡ t) × (a ≡ b)
one_course first lines s t a b p q =
    let both : Ok s ≡ Ok t = sym p.starts ∙ q.starts in
    let start : s ≡ t = cc in
    (start, one_list lines a b p.are q.are)

-- one more line says one more event
pub course_more : (first : List ℕ) (lines : List (List ℕ)) (start : PlainStart) (events : List PlainEvent) (line : List ℕ) (event : PlainEvent) → IsPlainRun first lines start events → event_read line ≡ Ok event →
    Accepts start.set start.off (event ∷ events) → IsPlainRun first (lines ++ line ∷ []) start (event ∷ events)
course_more first lines start events line event course is kept = record {
  starts = course.starts;
  are =
      map-append event_read lines (line ∷ []) ∙ ap₂ (λ (a b : List (Result PlainEvent TraceFault)). a ++ b) course.are (ap (λ (r : Result PlainEvent TraceFault). r ∷ []) is)
      ∙ sym (turned event events);
  kept = kept;
}
