-- Lines give one list of events, and a list of events writes one text.
use Rattle.std.proofs.Common.{◌≡◌, ◌∙◌, refl, ap, ap₂, sym, ℕ, Result, Ok, List, [], ◌∷◌, ◌++◌, map, reverse, flat_map}
use Rattle.std.proofs.lemmas.List.{map-append, reverse-append, reverse-reverse}
use Rattle.wrp_base.specs.declared.fault.TraceFault.{TraceFault}
use Rattle.wrp_servo.specs.Told.{ToldLast}
use Rattle.wrp_trace.specs.Events.{event_read}
use Rattle.wrp_course.specs.declared.event.Event.{Event}
use Rattle.wrp_course.specs.Given.{NodeStepAt}
use Rattle.wrp_course.specs.Run.{AllSaid, Happened, IsAnswered, world_after, steps_at}
use Rattle.wrp_course.specs.Setting.{Setting}
use Rattle.wrp_course.specs.WorldAt.{WorldAt}
use Rattle.wrp_audit.specs.Audited.{AreEvents}
use Rattle.wrp_network_world.specs.NetworkSetting.{answers_in, laws_in}
use Rattle.wrp_audit.specs.AuditLaws.{OneAudit}
use Rattle.wrp_audit.specs.AuditText.{audit_lines, given_line, given_lines, step_lines}
use Rattle.wrp_network_world.specs.Counts.{all_counts}
use Rattle.wrp_one_world_laws.specs.OneWorld.{Alike, SameEvents}
use Rattle.wrp_one_world_laws.proofs.OneWorld.{alike_after, before_newest, checks_one, steps_after}

-- Lines

-- an event as it is read
abbrev pub read : Happened → Result Event TraceFault
read h = Ok h.event

turned : (h : Happened) (events : List Happened) → reverse (h ∷ events) ≡ reverse events ++ h ∷ []
turned h events = reverse-append (h ∷ []) events

map_reverse : (events : List Happened) → map read (reverse events) ≡ reverse (map read events)
map_reverse [] = refl
map_reverse (h ∷ events) =
    ap (map read) (turned h events) ∙ map-append read (reverse events) (h ∷ [])
    ∙ ap (λ (rs : List (Result Event TraceFault)). rs ++ read h ∷ []) (map_reverse events)
    ∙ sym (reverse-append (read h ∷ []) (map read events))

-- one more line
pub one_line : (s : Setting) (lines : List (List ℕ)) (events : List Happened) (line : List ℕ) (h : Happened) → AreEvents s lines events
    → event_read s.cfg line ≡ Ok h.event
    → AreEvents s (lines ++ line ∷ []) (h ∷ events)
one_line s lines events line h are is =
    map-append (event_read s.cfg) lines (line ∷ [])
    ∙ ap₂ (λ (a b : List (Result Event TraceFault)). a ++ b) are (ap (λ (r : Result Event TraceFault). r ∷ []) is)
    ∙ sym (ap (map read) (turned h events) ∙ map-append read (reverse events) (h ∷ []))

heads_same : (a b : List Happened) → map read a ≡ map read b → SameEvents a b
heads_same [] [] e = tt
heads_same [] (k ∷ b) e = absurd (cc)
heads_same (h ∷ a) [] e = absurd (cc)
heads_same (h ∷ a) (k ∷ b) e =
    let head : read h ≡ read k = cc in
    let rest : map read a ≡ map read b = cc in
    (cc, heads_same a b rest)

-- lines give one list of events
same_events : (s : Setting) (lines : List (List ℕ)) (a b : List Happened) → AreEvents s lines a → AreEvents s lines b → SameEvents a b
same_events s lines a b p q =
    let both : reverse (map read a) ≡ reverse (map read b) = sym (map_reverse a) ∙ sym p ∙ q ∙ map_reverse b in
    heads_same a b (sym (reverse-reverse (map read a)) ∙ ap reverse both ∙ reverse-reverse (map read b))

-- What is written

steps_written : (s : Setting) (v w : WorldAt) (steps : List NodeStepAt) → Alike s v w → flat_map (step_lines s v) steps ≡ flat_map (step_lines s w) steps
steps_written s v w steps h = ap (λ (k : WorldAt). flat_map (step_lines s k) steps) (sym h.is)

abbrev Answered : Setting → List Happened → Type 0
Answered s events = IsAnswered (answers_in s) s (world_after s events)

one_lines : ToldLast → (s : Setting) (a b : List Happened) → SameEvents a b → AllSaid a → AllSaid b → Answered s a → Answered s b
    → audit_lines s a ≡ audit_lines s b
one_lines last s [] [] same p q c d = refl
one_lines last s [] (k ∷ b) same p q c d = absurd same
one_lines last s (h ∷ a) [] same p q c d = absurd same
one_lines last s (h ∷ a) (k ∷ b) same p q c d =
    ap₂ (λ (earlier lines : List ℕ). earlier ++ lines)
    (one_lines last s a b same.1 p.1 q.1 (before_newest (laws_in s) s h a c) (before_newest (laws_in s) s k b d))
    (steps_written s (world_after s (h ∷ a)) (world_after s (k ∷ b)) (steps_at s a h) (alike_after (laws_in s) last s (h ∷ a) (k ∷ b) same p q c d)
    ∙ ap (flat_map (step_lines s (world_after s (k ∷ b)))) (steps_after (laws_in s) last s a b h k same p q c d))

one_given : ToldLast → (s : Setting) (n : ℕ) (a b : List Happened) → SameEvents a b → AllSaid a → AllSaid b → Answered s a → Answered s b
    → given_lines s n a ≡ given_lines s n b
one_given last s n [] [] same p q c d = refl
one_given last s n [] (k ∷ b) same p q c d = absurd same
one_given last s n (h ∷ a) [] same p q c d = absurd same
one_given last s n (h ∷ a) (k ∷ b) same p q c d =
    ap₂ (λ (earlier lines : List ℕ). earlier ++ lines)
    (one_given last s n a b same.1 p.1 q.1 (before_newest (laws_in s) s h a c) (before_newest (laws_in s) s k b d))
    (ap (flat_map (given_line s n)) (steps_after (laws_in s) last s a b h k same p q c d))

pub one_audit : ToldLast → OneAudit
one_audit last s lines events others p q =
    let same : SameEvents events others = same_events s lines events others p.are q.are in
    let alike : Alike s (world_after s events) (world_after s others) =
    alike_after (laws_in s) last s events others same p.run.said q.run.said p.run.answered q.run.answered in
    record {
      lines = one_lines last s events others same p.run.said q.run.said p.run.answered q.run.answered;
      given = λ n. one_given last s n events others same p.run.said q.run.said p.run.answered q.run.answered;
      counts = ap (all_counts s) (sym alike.is);
      tried = λ e a b x y. checks_one s (world_after s events) (world_after s others) e a b alike x y;
    }
