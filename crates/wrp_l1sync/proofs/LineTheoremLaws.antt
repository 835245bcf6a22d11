-- The text shows the state of both ends.
use Rattle.std.proofs.Common.{◌≡◌, ◌∙◌, ap, sym, subst, refl, ℕ, if◌then◌else◌, Bool, true, false, List, [], ◌∷◌, ◌++◌, append_assoc, length, Option, None, Some, codes, unwrap_or}
use Rattle.std.specs.Fmt.{decimal}
use Rattle.std.specs.Option.{option_map, option_or}
use Rattle.std.proofs.lemmas.List.{append-nil}
use Rattle.wrp_l1sync.specs.declared.event.Handing.{Handing}
use Rattle.wrp_l1sync.specs.declared.event.L1Event.{L1Event}
use Rattle.wrp_l1sync.specs.declared.event.L1Event.TheVariants.{Pass, Tick, Enable, Disable, Own, Deliver}
use Rattle.wrp_l1sync.specs.declared.event.Limits.{Limits}
use Rattle.wrp_l1sync.specs.declared.event.Sent.{Sent}
use Rattle.wrp_l1sync.specs.declared.event.Side.{Side}
use Rattle.wrp_l1sync.specs.declared.event.Side.TheVariants.{A, B}
use Rattle.wrp_l1sync.specs.declared.interface.L1In.{L1In}
use Rattle.wrp_l1sync.specs.declared.interface.L1Out.{L1Out}
use Rattle.wrp_l1sync.specs.declared.interface.L1State.{L1State}
use Rattle.wrp_l1sync.specs.declared.interface.L1State.TheVariants.{Disabled, Idle, LinkAlive, ConfigMatch, Up}
use Rattle.wrp_l1sync.specs.declared.message.L1Msg.{L1Msg}
use Rattle.wrp_l1sync.specs.Inputs.{change_of, out_of, state_of, ticks_of}
use Rattle.wrp_l1sync.specs.LineRecords.{Accepts, Happen}
use Rattle.wrp_l1sync.specs.LineText.{end_word, end_of_event, event_text, out_text, send_text, state_line, state_text, state_word, text_at, text_of}
use Rattle.wrp_l1sync.specs.LineTheorem.{Shows, ShowsBoth, TextShowsThePair, last_told, lines_in, shown, told_by}
use Rattle.wrp_l1sync.specs.Pair.{History, Timed, answer_of, delivery_to, grown, handed, handing_of, history, input_to, inputs_of, is_side, out_for, sent_at, side_of, with_input}
use Rattle.wrp_records.specs.Words.{line_of}
use Rattle.wrp_l1sync.proofs.LineExact.{accepts_front}
use Rattle.wrp_records.specs.Words.{IsWord}
use Rattle.wrp_records.proofs.WordLemmas.{AreWords, decimal_word}
use Rattle.wrp_l1sync.proofs.LineWords.{line_first, words_joined}
use Rattle.wrp_l1sync.proofs.PrintedLaws.{shows_up}
use Rattle.wrp_l1sync.proofs.TheoremLaws.{one_up, two_up}

-- ---- what a text gives for an end

-- whatever follows it, a text gives this state last for an end
abbrev Tells : Side → List ℕ → Option L1State → Type 0
Tells side text told = (rest : List ℕ) → last_told side (lines_in (text ++ rest)) ≡ option_or (last_told side (lines_in rest)) told

or-none : (o : Option L1State) → o ≡ option_or o None
or-none None = refl
or-none (Some state) = refl

or-more : (o p q : Option L1State) → option_or (option_or o p) q ≡ option_or o (option_or p q)
or-more None p q = refl
or-more (Some state) p q = refl

tells_nothing : (side : Side) → Tells side [] None
tells_nothing side rest = or-none (last_told side (lines_in rest))

tells_both : (side : Side) (one other : List ℕ) (a b : Option L1State) → Tells side one a → Tells side other b →
    Tells side (one ++ other) (option_or b a)
tells_both side one other a b p q rest =
    ap (λ (t : List ℕ). last_told side (lines_in t)) (append_assoc one other rest) ∙ p (other ++ rest)
    ∙ ap (λ (o : Option L1State). option_or o a) (q rest) ∙ or-more (last_told side (lines_in rest)) b a

tells_line : (side : Side) (word : List ℕ) (words : List (List ℕ)) → AreWords (word ∷ words) →
    Tells side (line_of (word ∷ words)) (told_by side (word ∷ words))
tells_line side word words are rest =
    ap (λ (ls : List (List ℕ)). last_told side ls) (line_first (word ∷ words) rest are)
    ∙ ap (λ (ws : List (List ℕ)). option_or (last_told side (lines_in rest)) (told_by side ws)) (words_joined word words are)

-- ---- words

end_is_word : (side : Side) → IsWord (end_word side)
end_is_word A = refl
end_is_word B = refl

state_is_word : (state : L1State) → IsWord (state_word state)
state_is_word Disabled = refl
state_is_word Idle = refl
state_is_word LinkAlive = refl
state_is_word ConfigMatch = refl
state_is_word Up = refl

-- the line of an end's state gives it for this end alone
told_state : (side of : Side) (tick : List ℕ) (state : L1State) →
    told_by side (end_word of ∷ tick ∷ state_word state ∷ []) ≡ (if is_side of side then Some state else None)
told_state A A tick Disabled = refl
told_state A A tick Idle = refl
told_state A A tick LinkAlive = refl
told_state A A tick ConfigMatch = refl
told_state A A tick Up = refl
told_state A B tick state = refl
told_state B A tick state = refl
told_state B B tick Disabled = refl
told_state B B tick Idle = refl
told_state B B tick LinkAlive = refl
told_state B B tick ConfigMatch = refl
told_state B B tick Up = refl

-- ---- what is written for an event

-- what an answer of an end gives for an end
abbrev told_of : Side → Side → Option L1State → Option L1State
told_of side of moved = if is_side of side then moved else None

tells_send : (side of : Side) (tick number : ℕ) (send : Option L1Msg) → Tells side (send_text of tick number send) None
tells_send side of tick number None = tells_nothing side
tells_send side of tick number (Some message) =
    tells_line side (end_word of) (decimal tick ∷ codes "send" ∷ decimal number ∷ decimal message.req ∷ decimal message.is ∷ [])
    (end_is_word of, (decimal_word tick, (refl, (decimal_word number, (decimal_word message.req, (decimal_word message.is, tt))))))

abbrev nothing : Option L1State
nothing = None

none-of : (b : Bool) → (if b then nothing else nothing) ≡ nothing
none-of true = refl
none-of false = refl

tells_state : (side of : Side) (tick : ℕ) (moved : Option L1State) → Tells side (state_text of tick moved) (told_of side of moved)
tells_state side of tick None = subst (λ (o : Option L1State). Tells side [] o) (sym (none-of (is_side of side))) (tells_nothing side)
tells_state side of tick (Some state) =
    subst (λ (o : Option L1State). Tells side (state_line of tick state) o) (told_state side of (decimal tick) state)
    (tells_line side (end_word of) (decimal tick ∷ state_word state ∷ []) (end_is_word of, (decimal_word tick, (state_is_word state, tt))))

tells_out : (side of : Side) (tick number : ℕ) (out : L1Out) → Tells side (out_text of tick number out) (told_of side of out.moved)
tells_out side of tick number out =
    subst (λ (o : Option L1State). Tells side (out_text of tick number out) o) (sym (or-none (told_of side of out.moved)))
    (tells_both side (send_text of tick number out.send) (state_text of tick out.moved) None (told_of side of out.moved)
    (tells_send side of tick number out.send) (tells_state side of tick out.moved))

-- what an event gives for an end
abbrev told_at : Side → Option ℕ → L1Out → Option L1State
told_at side None out = None
told_at side (Some number) out = told_of side (side_of number) out.moved

tells_at : (side : Side) (end : Option ℕ) (h : History) (out : L1Out) → Tells side (text_at end h out) (told_at side end out)
tells_at side None h out = tells_nothing side
tells_at side (Some number) h out =
    tells_out side (side_of number) (ticks_of (inputs_of (handed (side_of number) h))) (length h.sent) out

-- what events give for an end, newest first
abbrev told_in : Limits → Side → List L1Event → Option L1State
told_in limits side [] = None
told_in limits side (event ∷ before) =
    option_or (told_at side (end_of_event event) (answer_of limits (history limits.interval before) event)) (told_in limits side before)

tells_all : (limits : Limits) (side : Side) (events : List L1Event) → Tells side (text_of limits events) (told_in limits side events)
tells_all limits side [] = tells_nothing side
tells_all limits side (event ∷ before) =
    tells_both side (text_of limits before) (event_text limits before event) (told_in limits side before)
    (told_at side (end_of_event event) (answer_of limits (history limits.interval before) event))
    (tells_all limits side before)
    (tells_at side (end_of_event event) (history limits.interval (event ∷ before)) (answer_of limits (history limits.interval before) event))

shown_is : (limits : Limits) (side : Side) (events : List L1Event) → shown side (text_of limits events) ≡ unwrap_or (told_in limits side events) Disabled
shown_is limits side events =
    ap (λ (t : List ℕ). unwrap_or (last_told side (lines_in t)) Disabled) (sym (append-nil (text_of limits events)))
    ∙ ap (λ (o : Option L1State). unwrap_or o Disabled) (tells_all limits side events [])

-- ---- the state that is shown

change_shown : (from to : L1State) (told : Option L1State) → unwrap_or told Disabled ≡ from →
    unwrap_or (option_or (change_of from to) told) Disabled ≡ to
change_shown Disabled Disabled told e = e
change_shown Idle Idle told e = e
change_shown LinkAlive LinkAlive told e = e
change_shown ConfigMatch ConfigMatch told e = e
change_shown Up Up told e = e
change_shown from to told e = refl

-- what an input gives for an end
abbrev told_with : Limits → History → Side → Option Handing → Option L1State
told_with limits h side None = None
told_with limits h side (Some handing) =
    told_of side handing.to (out_of limits.timeout limits.interval (inputs_of (handed handing.to h)) handing.input).moved

told_delivery : (limits : Limits) (h : History) (side of : Side) (sent : Option Sent) →
    told_of side of (out_for limits.timeout limits.interval h (option_map (delivery_to of) sent)).moved
    ≡ told_with limits h side (option_map (delivery_to of) sent)
told_delivery limits h side of None = none-of (is_side of side)
told_delivery limits h side of (Some one) = refl

told_handing : (limits : Limits) (h : History) (side : Side) (event : L1Event) →
    told_at side (end_of_event event) (answer_of limits h event) ≡ told_with limits h side (handing_of h.sent event)
told_handing limits h side (Pass dt) = refl
told_handing limits h side (Tick number) = refl
told_handing limits h side (Enable number) = refl
told_handing limits h side (Disable number) = refl
told_handing limits h side (Own number message) = refl
told_handing limits h side (Deliver number k) = told_delivery limits h side (side_of number) (sent_at h.sent k)

-- the state of an end after an input of an end
shown_input : (limits : Limits) (h : History) (side of : Side) (input : L1In) (told : Option L1State) →
    unwrap_or told Disabled ≡ state_of limits.timeout (inputs_of (handed side h)) →
    unwrap_or (option_or (told_of side of (out_of limits.timeout limits.interval (inputs_of (handed of h)) input).moved) told) Disabled
    ≡ state_of limits.timeout (inputs_of (with_input h.time (handed side h) (if is_side of side then Some input else None)))
shown_input limits h A A input told e =
    change_shown (state_of limits.timeout (inputs_of h.a)) (state_of limits.timeout (input ∷ inputs_of h.a)) told e
shown_input limits h A B input told e = e
shown_input limits h B A input told e = e
shown_input limits h B B input told e =
    change_shown (state_of limits.timeout (inputs_of h.b)) (state_of limits.timeout (input ∷ inputs_of h.b)) told e

shown_handing : (limits : Limits) (h : History) (side : Side) (handing : Option Handing) (told : Option L1State) →
    unwrap_or told Disabled ≡ state_of limits.timeout (inputs_of (handed side h)) →
    unwrap_or (option_or (told_with limits h side handing) told) Disabled
    ≡ state_of limits.timeout (inputs_of (with_input h.time (handed side h) (input_to side handing)))
shown_handing limits h side None told e = e
shown_handing limits h side (Some handing) told e = shown_input limits h side handing.to handing.input told e

handed_grown : (interval : ℕ) (h : History) (event : L1Event) (side : Side) →
    with_input h.time (handed side h) (input_to side (handing_of h.sent event)) ≡ handed side (grown interval h event)
handed_grown interval h event A = refl
handed_grown interval h event B = refl

-- what events give for an end is the state that looking back finds
told_state_is : (limits : Limits) (side : Side) (events : List L1Event) →
    unwrap_or (told_in limits side events) Disabled ≡ state_of limits.timeout (inputs_of (handed side (history limits.interval events)))
told_state_is limits A [] = refl
told_state_is limits B [] = refl
told_state_is limits side (event ∷ before) =
    let h : History = history limits.interval before in
    ap (λ (o : Option L1State). unwrap_or (option_or o (told_in limits side before)) Disabled) (told_handing limits h side event)
    ∙ shown_handing limits h side (handing_of h.sent event) (told_in limits side before) (told_state_is limits side before)
    ∙ ap (λ (timed : List Timed). state_of limits.timeout (inputs_of timed)) (handed_grown limits.interval h event side)

-- ---- the law

shows : (limits : Limits) (events : List L1Event) (text : List ℕ) → Happen limits events text → (side : Side) → Shows limits events text side
shows limits events text happened side =
    let is : shown side text ≡ state_of limits.timeout (inputs_of (handed side (history limits.interval events))) =
    ap (λ (t : List ℕ). shown side t) happened.wrote ∙ shown_is limits side events ∙ told_state_is limits side events in
    record { state = is; up = λ up. shows_up limits events text side happened.wrote (one_up limits events side happened.accepted (sym is ∙ up)) }

shows_both : (first : List ℕ) (later : List (List ℕ)) (text : List ℕ) → Accepts (first ∷ later) text → ShowsBoth (first ∷ later) text
shows_both first later text accepted =
    let limits : Limits = accepted.0 in
    let events : List L1Event = accepted.1 in
    let each = λ (side : Side). shows limits events text accepted.3 side in (
      limits,
      events,
      accepted.2,
      each,
      (λ a b. two_up limits events accepted.3.accepted (sym (each A).state ∙ a) (sym (each B).state ∙ b)),
    )

-- after each record what is written shows the state of both ends
pub text_shows_the_pair : TextShowsThePair
text_shows_the_pair lines text accepted first later behind is =
    let front = accepts_front first later behind text (subst (λ (ls : List (List ℕ)). Accepts ls text) is accepted) in
    (front.0, front.1, front.2, front.3, shows_both first later front.0 front.3)
