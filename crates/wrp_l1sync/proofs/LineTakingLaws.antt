-- How a pair of ends begins, and goes on with a line.
use Rattle.std.proofs.Common.{◌≡◌, ◌∙◌, ap, ap₂, sym, subst, refl, ℕ, ◌+◌, Option, None, Some, Result, Ok, Err, IfOk, List, [], ◌∷◌, ◌++◌, length, arith}
use Rattle.wrp_l1sync.specs.declared.event.L1Event.{L1Event}
use Rattle.wrp_l1sync.specs.declared.event.Limits.{Limits}
use Rattle.wrp_l1sync.specs.declared.interface.L1Out.{L1Out}
use Rattle.wrp_l1sync.specs.declared.lines.L1Lines.{L1Lines}
use Rattle.wrp_records.specs.declared.machine.Refusal.{Refusal}
use Rattle.wrp_records.specs.declared.machine.Refusal.TheVariants as refusal
use Rattle.wrp_records.specs.declared.machine.Taken.{Taken}
use Rattle.wrp_records.specs.declared.machine.Taken.TheVariants.{Accepted, Refused}
use Rattle.wrp_l1sync.specs.LineReading.{limits_read, event_read}
use Rattle.wrp_l1sync.specs.LineRecords.{Say, Happen, Accepts, IsBad, Breaks, Refuses}
use Rattle.wrp_l1sync.specs.LineTaking.{IsPairOf, HasTaken, TookEvent, GoesOn, BeginsWith}
use Rattle.wrp_l1sync.specs.LineText.{end_of_event, text_at, event_text}
use Rattle.wrp_l1sync.specs.Pair.{AreAccepted, PairAt, StandsFor, answer_of, history}
use Rattle.wrp_l1sync.proofs.LineLists.{say_more, one_list}

-- an event that a pair took is written as looking back says
pub took_event : (old new : PairAt) (before : List L1Event) (event : L1Event) (out : L1Out) (line was text : List ℕ) →
    event_read line ≡ Ok event → StandsFor new (event ∷ before) → new.limits ≡ old.limits →
    out ≡ answer_of old.limits (history old.limits.interval before) event → was ≡ [] →
    text ≡ was ++ text_at (end_of_event event) (history new.limits.interval (event ∷ before)) out →
    TookEvent old new before line text
took_event old new before event out line was text says stands same answered none wrote = record {
  event = event;
  says = says;
  stands = stands;
  limits = same;
  wrote = wrote
      ∙ ap₂ (λ (w : List ℕ) (l : Limits). w ++ text_at (end_of_event event) (history l.interval (event ∷ before)) out) none same
      ∙ ap (λ (o : L1Out). text_at (end_of_event event) (history old.limits.interval (event ∷ before)) o) answered;
}

-- what is written goes on with an event
pub happen_more : (limits : Limits) (events : List L1Event) (event : L1Event) (before text : List ℕ) → Happen limits events before →
    AreAccepted limits (event ∷ events) → text ≡ event_text limits events event → Happen limits (event ∷ events) (before ++ text)
happen_more limits events event before text happened accepted is =
    record { accepted = accepted; wrote = ap₂ (λ (a b : List ℕ). a ++ b) happened.wrote is }

-- a line is taken after others
took_line : (old new : PairAt) (first : List ℕ) (later : List (List ℕ)) (events : List L1Event) (line before text : List ℕ) →
    IsPairOf old (first ∷ later) events → TookEvent old new events line text → Accepts (first ∷ later) before →
    HasTaken (record { pair = Some new }) (first ∷ (later ++ line ∷ [])) × Accepts (first ∷ (later ++ line ∷ [])) (before ++ text)
took_line old new first later events line before text is took accepted =
    let same = one_list (first ∷ later) accepted.0 old.limits accepted.1 events accepted.2 is.say in
    let happened : Happen old.limits events before =
    subst (λ (l : Limits). Happen l events before) same.0 (subst (λ (es : List L1Event). Happen accepted.0 es before) same.1 accepted.3) in
    let say : Say (first ∷ (later ++ line ∷ [])) old.limits (took.event ∷ events) =
    say_more first later old.limits events line took.event is.say took.says in
    let say_new : Say (first ∷ (later ++ line ∷ [])) new.limits (took.event ∷ events) =
    subst (λ (l : Limits). Say (first ∷ (later ++ line ∷ [])) l (took.event ∷ events)) (sym took.limits) say in
    let kept : AreAccepted old.limits (took.event ∷ events) =
    subst (λ (l : Limits). AreAccepted l (took.event ∷ events)) took.limits took.stands.accepted in (
      (new, took.event ∷ events, refl, record { say = say_new; stands = took.stands }),
      (old.limits, took.event ∷ events, say, happen_more old.limits events took.event before text happened kept took.wrote),
    )

-- the pair that is held is the one that represents the lines
is_held : (held : L1Lines) (old : PairAt) (first : List ℕ) (later : List (List ℕ)) → held.pair ≡ Some old → HasTaken held (first ∷ later) →
    (events : List L1Event) × IsPairOf old (first ∷ later) events
is_held held old first later is has =
    let both : Some has.0 ≡ Some old = sym has.2 ∙ is in
    let same : has.0 ≡ old = cc in
    (has.1, subst (λ (p : PairAt). IsPairOf p (first ∷ later) has.1) same has.3)

-- a pair goes on with a line that is taken
pub goes_on : {E : Type 0} (held : L1Lines) (old new : PairAt) (number : ℕ) (line text : List ℕ) (result : Result Taken E) → held.pair ≡ Some old →
    ((events : List L1Event) → StandsFor old events → IfOk result (GoesOn old new events number line text)) →
    (lines : List (List ℕ)) (before : List ℕ) → IfOk result (λ taken. taken ≡ Accepted → HasTaken held lines → Accepts lines before →
    HasTaken (record { pair = Some new }) (lines ++ line ∷ []) × Accepts (lines ++ line ∷ []) (before ++ text))
goes_on held old new number line text (Err e) is goes lines before = tt
goes_on held old new number line text (Ok Accepted) is goes [] before = λ taken has accepted. let both : Some old ≡ None = sym is ∙ has in absurd cc
goes_on held old new number line text (Ok Accepted) is goes (first ∷ later) before = λ taken has accepted.
    let is_pair = is_held held old first later is has in
    took_line old new first later is_pair.0 line before text is_pair.1 (goes is_pair.0 is_pair.1.stands) accepted
goes_on held old new number line text (Ok (Refused why)) is goes lines before = λ taken. absurd cc

-- a line that a pair refuses
refuses_line : (old new : PairAt) (first : List ℕ) (later : List (List ℕ)) (number : ℕ) (line text : List ℕ) (events : List L1Event) (why : Refusal) →
    IsPairOf old (first ∷ later) events → GoesOn old new events number line text (Refused why) → number ≡ length (first ∷ later) + 1 →
    Refuses (first ∷ later) line why text
refuses_line old new first later number line text events refusal.BadTrace is bad counts =
    subst (λ (n : ℕ). IsBad event_read n line text) counts bad
refuses_line old new first later number line text events refusal.Broken is breaks counts =
    (old.limits, events, is.say, subst (λ (n : ℕ). Breaks old.limits events n line text) counts breaks)

-- a pair refuses a line after others
pub goes_wrong : {E : Type 0} (held : L1Lines) (old new : PairAt) (number : ℕ) (line text : List ℕ) (result : Result Taken E) → held.pair ≡ Some old →
    ((events : List L1Event) → StandsFor old events → IfOk result (GoesOn old new events number line text)) →
    (lines : List (List ℕ)) (why : Refusal) → IfOk result (λ taken. taken ≡ Refused why → HasTaken held lines → number ≡ length lines + 1 →
    Refuses lines line why text)
goes_wrong held old new number line text (Err e) is goes lines why = tt
goes_wrong held old new number line text (Ok Accepted) is goes lines why = λ taken. absurd cc
goes_wrong held old new number line text (Ok (Refused other)) is goes [] why = λ taken has counts. let both : Some old ≡ None = sym is ∙ has in absurd cc
goes_wrong held old new number line text (Ok (Refused other)) is goes (first ∷ later) why = λ taken has counts.
    let is_pair = is_held held old first later is has in
    let same : other ≡ why = cc in
    subst (λ (w : Refusal). Refuses (first ∷ later) line w text) same
    (refuses_line old new first later number line text is_pair.0 other is_pair.1 (goes is_pair.0 is_pair.1.stands) counts)

-- the first line is taken
begun : (held : L1Lines) (number : ℕ) (line before text : List ℕ) → BeginsWith held.pair number line text Accepted → before ≡ [] →
    HasTaken held (line ∷ []) × Accepts (line ∷ []) (before ++ text)
begun held number line before text begins none =
    let wrote : before ++ text ≡ [] = ap₂ (λ (a b : List ℕ). a ++ b) none begins.4 in (
      (begins.0, [], begins.1, record { say = (begins.2, refl); stands = begins.3 }),
      (begins.0.limits, [], (begins.2, refl), record { accepted = tt; wrote = wrote }),
    )

-- the records begin with a line that is taken
pub begins_on : {E : Type 0} (held new : L1Lines) (number : ℕ) (line text : List ℕ) (result : Result Taken E) → held.pair ≡ None →
    IfOk result (BeginsWith new.pair number line text) →
    (lines : List (List ℕ)) (before : List ℕ) → IfOk result (λ taken. taken ≡ Accepted → HasTaken held lines → Accepts lines before →
    HasTaken new (lines ++ line ∷ []) × Accepts (lines ++ line ∷ []) (before ++ text))
begins_on held new number line text (Err e) is begins lines before = tt
begins_on held new number line text (Ok Accepted) is begins [] before = λ taken has accepted. begun new number line before text begins accepted
begins_on held new number line text (Ok Accepted) is begins (first ∷ later) before = λ taken has accepted. let both : Some has.0 ≡ None = sym has.2 ∙ is in absurd cc
begins_on held new number line text (Ok (Refused why)) is begins lines before = λ taken. absurd cc

first_refused : (new : Option PairAt) (number : ℕ) (line text : List ℕ) (why : Refusal) → BeginsWith new number line text (Refused why) → number ≡ 1 →
    Refuses [] line why text
first_refused new number line text refusal.BadTrace begins counts = subst (λ (n : ℕ). IsBad limits_read n line text) counts begins
first_refused new number line text refusal.Broken begins counts = begins

-- the first line is refused
pub begins_wrong : {E : Type 0} (held new : L1Lines) (number : ℕ) (line text : List ℕ) (result : Result Taken E) → held.pair ≡ None →
    IfOk result (BeginsWith new.pair number line text) →
    (lines : List (List ℕ)) (why : Refusal) → IfOk result (λ taken. taken ≡ Refused why → HasTaken held lines → number ≡ length lines + 1 →
    Refuses lines line why text)
begins_wrong held new number line text (Err e) is begins lines why = tt
begins_wrong held new number line text (Ok Accepted) is begins lines why = λ taken. absurd cc
begins_wrong held new number line text (Ok (Refused other)) is begins [] why = λ taken has counts.
    let same : other ≡ why = cc in
    subst (λ (w : Refusal). Refuses [] line w text) same (first_refused new.pair number line text other begins (omega (arith, counts)))
begins_wrong held new number line text (Ok (Refused other)) is begins (first ∷ later) why = λ taken has counts.
    let both : Some has.0 ≡ None = sym has.2 ∙ is in absurd cc
