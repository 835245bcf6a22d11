-- One more event: looking back finds what the event makes of the pair before it.
use Rattle.std.proofs.Common.{◌≡◌, ◌∙◌, ap, sym, subst, refl, ℕ, ◌+◌, if◌then◌else◌, List, ◌∷◌, length, Option, None, Some, Result, Ok, Err, IsOk, IsErr, arith}
use Rattle.std.specs.Option.{option_map}
use Rattle.wrp_base.specs.Calls.{Adds}
use Rattle.wrp_l1sync.specs.declared.event.Breach.{Breach}
use Rattle.wrp_l1sync.specs.declared.event.Handing.{Handing}
use Rattle.wrp_l1sync.specs.declared.event.L1Event.{L1Event}
use Rattle.wrp_l1sync.specs.declared.event.L1Event.TheVariants.{Pass, Tick, Enable, Disable, Own, Deliver}
use Rattle.wrp_l1sync.specs.declared.event.L1Refused.{L1Refused}
use Rattle.wrp_l1sync.specs.declared.event.Limits.{Limits}
use Rattle.wrp_l1sync.specs.declared.event.Side.{Side}
use Rattle.wrp_l1sync.specs.declared.event.Side.TheVariants.{A, B}
use Rattle.wrp_l1sync.specs.declared.interface.L1In.{L1In}
use Rattle.wrp_l1sync.specs.declared.interface.L1In.TheVariants as given
use Rattle.wrp_l1sync.specs.declared.interface.L1Out.{L1Out}
use Rattle.wrp_l1sync.specs.declared.interface.L1State.{L1State}
use Rattle.wrp_l1sync.specs.Inputs.{is_enabled, ticks_of, send_of, state_of, out_of}
use Rattle.wrp_l1sync.specs.PortAt.{port_of, after, state_by, due_by, out_by}
use Rattle.wrp_l1sync.specs.Pair.{side_of, Timed, inputs_of, begins, last_of, History, handed, handing_of, input_to, with_input, elapsed, sent_by, with_sent, new_sent, grown, history, breach_of, breach_by, AreAccepted, out_for, answer_of, told_breach, PairAt, end_of, pair_at, StandsFor, ticks_after, end_after, end_if, end_at, sends_of, noted, out_at, changed}
use Rattle.wrp_l1sync.proofs.PortLaws.{port-after, send-port, out-port, state-port}

-- ---- one end

ticks-after : (inputs : List L1In) (input : L1In) → ticks_after (is_enabled inputs) input (ticks_of inputs) ≡ ticks_of (input ∷ inputs)
ticks-after inputs given.Enable = refl
ticks-after inputs given.Disable = refl
ticks-after inputs (given.Own message) = refl
ticks-after inputs (given.Msg message) = refl
ticks-after inputs given.Tick = refl

end-after : (timeout interval now : ℕ) (timed : List Timed) (input : L1In) →
    end_after now (end_of timeout interval timed) input ≡ end_of timeout interval (record { at = now; input = input } ∷ timed)
end-after timeout interval now timed input =
    let port : after (port_of timeout interval (inputs_of timed)) input ≡ port_of timeout interval (input ∷ inputs_of timed) =
    port-after timeout interval input (inputs_of timed) in
    let ticks : ticks_after (is_enabled (inputs_of timed)) input (ticks_of (inputs_of timed)) ≡ ticks_of (input ∷ inputs_of timed) =
    ticks-after (inputs_of timed) input in
    let last : ℕ = if begins (is_enabled (inputs_of timed)) input then now else last_of timed in
    λ i. record { port = port i; ticks = ticks i; last = last }

end-if : (timeout interval now : ℕ) (timed : List Timed) (input : Option L1In) →
    end_if now (end_of timeout interval timed) input ≡ end_of timeout interval (with_input now timed input)
end-if timeout interval now timed None = refl
end-if timeout interval now timed (Some input) = end-after timeout interval now timed input

-- ---- both

-- a message that is sent now is not handed over now
same-handing : (pair : PairAt) (event : L1Event) → handing_of (noted pair event).sent event ≡ handing_of pair.sent event
same-handing pair (Pass dt) = refl
same-handing pair (Tick number) = refl
same-handing pair (Enable number) = refl
same-handing pair (Disable number) = refl
same-handing pair (Own number message) = refl
same-handing pair (Deliver number k) = refl

due-side : (limits : Limits) (count : ℕ) (h : History) (side : Side) →
    due_by (end_at side (pair_at limits count h)).port ≡ send_of limits.interval (inputs_of (handed side h)) given.Tick
due-side limits count h A = send-port limits.timeout limits.interval given.Tick (inputs_of h.a)
due-side limits count h B = send-port limits.timeout limits.interval given.Tick (inputs_of h.b)

sends-pair : (limits : Limits) (count : ℕ) (h : History) (event : L1Event) →
    sends_of (pair_at limits count h) event ≡ new_sent limits.interval h event
sends-pair limits count h (Tick number) =
    ap (λ m. option_map (sent_by (side_of number) h.time) m) (due-side limits count h (side_of number))
sends-pair limits count h _ = refl

-- looking back over one more event
pub pair-after : (limits : Limits) (count : ℕ) (h : History) (event : L1Event) →
    changed (noted (pair_at limits count h) event) event ≡ pair_at limits (count + 1) (grown limits.interval h event)
pair-after limits count h event =
    let pair : PairAt = pair_at limits count h in
    let handing : handing_of (noted pair event).sent event ≡ handing_of h.sent event = same-handing pair event in
    let one : (timed : List Timed) (side : Side) →
    end_if h.time (end_of limits.timeout limits.interval timed) (input_to side (handing_of (noted pair event).sent event))
    ≡ end_of limits.timeout limits.interval (with_input h.time timed (input_to side (handing_of h.sent event))) =
    λ timed side. ap (λ g. end_if h.time (end_of limits.timeout limits.interval timed) (input_to side g)) handing
    ∙ end-if limits.timeout limits.interval h.time timed (input_to side (handing_of h.sent event)) in
    let sends : with_sent h.sent (sends_of pair event) ≡ with_sent h.sent (new_sent limits.interval h event) =
    ap (λ s. with_sent h.sent s) (sends-pair limits count h event) in
    λ i. record { limits = limits; time = h.time + elapsed event; count = count + 1; a = one h.a A i; b = one h.b B i; sent = sends i }

out-side : (limits : Limits) (count : ℕ) (h : History) (event : L1Event) (side : Side) (input : L1In) →
    out_by (end_at side (noted (pair_at limits count h) event)).port input
    ≡ out_of limits.timeout limits.interval (inputs_of (handed side h)) input
out-side limits count h event A input = out-port limits.timeout limits.interval input (inputs_of h.a)
out-side limits count h event B input = out-port limits.timeout limits.interval input (inputs_of h.b)

out-handing : (limits : Limits) (count : ℕ) (h : History) (event : L1Event) (handing : Option Handing) →
    out_at (noted (pair_at limits count h) event) handing ≡ out_for limits.timeout limits.interval h handing
out-handing limits count h event None = refl
out-handing limits count h event (Some handing) = out-side limits count h event handing.to handing.input

out-pair : (limits : Limits) (count : ℕ) (h : History) (event : L1Event) →
    out_at (noted (pair_at limits count h) event) (handing_of (noted (pair_at limits count h) event).sent event) ≡ answer_of limits h event
out-pair limits count h event =
    ap (λ g. out_at (noted (pair_at limits count h) event) g) (same-handing (pair_at limits count h) event)
    ∙ out-handing limits count h event (handing_of h.sent event)

-- ---- the list of events

-- the premise that is reported is the one that looking back finds
pub breach_looked_back : (pair : PairAt) (events : List L1Event) (event : L1Event) (told : Option Breach) →
    told ≡ breach_by pair event → StandsFor pair events → told ≡ breach_of pair.limits (history pair.limits.interval events) event
breach_looked_back pair events event told is stands = is ∙ ap (λ p. breach_by p event) stands.is

-- so is the answer
pub answer_looked_back : (pair : PairAt) (events : List L1Event) (event : L1Event) (out : L1Out) →
    out ≡ out_at (noted pair event) (handing_of (noted pair event).sent event) →
    StandsFor pair events → out ≡ answer_of pair.limits (history pair.limits.interval events) event
answer_looked_back pair events event out is stands =
    is
    ∙ ap (λ p. out_at (noted p event) (handing_of (noted p event).sent event)) stands.is
    ∙ out-pair pair.limits (length events) (history pair.limits.interval events) event

-- an event that breaks no premise and sends nothing is accepted
pub silent_looked_back : (pair : PairAt) (events : List L1Event) (event : L1Event) (result : Result L1Out L1Refused) →
    (breach_by pair event ≡ None → sends_of pair event ≡ None → IsOk result) → StandsFor pair events →
    breach_of pair.limits (history pair.limits.interval events) event ≡ None →
    new_sent pair.limits.interval (history pair.limits.interval events) event ≡ None → IsOk result
silent_looked_back pair events event result ok stands kept none =
    ok (ap (λ p. breach_by p event) stands.is ∙ kept)
    (ap (λ p. sends_of p event) stands.is
    ∙ sends-pair pair.limits (length events) (history pair.limits.interval events) event ∙ none)

-- an answer that is Ok reports no premise
pub none_told : (result : Result L1Out L1Refused) → IsOk result → told_breach result ≡ None
none_told (Ok out) ok = refl
none_told (Err refused) ok = absurd cc

pub accepted_looked_back : (pair : PairAt) (events : List L1Event) (event : L1Event) (result : Result L1Out L1Refused) →
    told_breach result ≡ breach_by pair event → IsOk result → StandsFor pair events → AreAccepted pair.limits (event ∷ events)
accepted_looked_back pair events event result is ok stands =
    (sym (breach_looked_back pair events event (told_breach result) is stands) ∙ none_told result ok, stands.accepted)

-- an accepted event goes in front of the events that a pair stands for
pub Adds-event : (old new : PairAt) (event : L1Event) (result : Result L1Out L1Refused) →
    new ≡ changed (noted old event) event → told_breach result ≡ breach_by old event → IsOk result → Adds StandsFor old new event
Adds-event old new event result moved told ok events stands =
    let is : new ≡ pair_at old.limits (length events + 1) (history old.limits.interval (event ∷ events)) =
    moved ∙ ap (λ p. changed (noted p event) event) stands.is ∙ pair-after old.limits (length events) (history old.limits.interval events) event in
    let more : length events + 1 ≡ length (event ∷ events) = omega arith in
    let grows : new ≡ pair_at old.limits (length (event ∷ events)) (history old.limits.interval (event ∷ events)) =
    is ∙ ap (λ n. pair_at old.limits n (history old.limits.interval (event ∷ events))) more in
    let same : old.limits ≡ new.limits = sym (ap (λ p. p.limits) is) in
    record {
      is = subst (λ l. new ≡ pair_at l (length (event ∷ events)) (history l.interval (event ∷ events))) same grows;
      accepted = subst (λ l. AreAccepted l (event ∷ events)) same (accepted_looked_back old events event result told ok stands);
    }

-- no event changes the settings
pub same_limits : (old new : PairAt) (event : L1Event) (result : Result L1Out L1Refused) →
    (IsOk result → new ≡ changed (noted old event) event) → (IsErr result → new ≡ old) → new.limits ≡ old.limits
same_limits old new event (Ok out) moved same = ap (λ p. p.limits) (moved refl)
same_limits old new event (Err refused) moved same = ap (λ p. p.limits) (same refl)

-- ---- what is shown

pub state_shown : (pair : PairAt) (events : List L1Event) (side : Side) (state : L1State) →
    state ≡ state_by (end_at side pair).port → StandsFor pair events →
    state ≡ state_of pair.limits.timeout (inputs_of (handed side (history pair.limits.interval events)))
state_shown pair events A state is stands =
    is ∙ ap (λ p. state_by p.a.port) stands.is
    ∙ state-port pair.limits.timeout pair.limits.interval (inputs_of (history pair.limits.interval events).a)
state_shown pair events B state is stands =
    is ∙ ap (λ p. state_by p.b.port) stands.is
    ∙ state-port pair.limits.timeout pair.limits.interval (inputs_of (history pair.limits.interval events).b)

pub ticks_shown : (pair : PairAt) (events : List L1Event) (side : Side) (ticks : ℕ) →
    ticks ≡ (end_at side pair).ticks → StandsFor pair events →
    ticks ≡ ticks_of (inputs_of (handed side (history pair.limits.interval events)))
ticks_shown pair events A ticks is stands = is ∙ ap (λ p. p.a.ticks) stands.is
ticks_shown pair events B ticks is stands = is ∙ ap (λ p. p.b.ticks) stands.is

pub last_shown : (pair : PairAt) (events : List L1Event) (last : ℕ) →
    last ≡ length pair.sent → StandsFor pair events → last ≡ length (history pair.limits.interval events).sent
last_shown pair events last is stands = is ∙ ap (λ p. length p.sent) stands.is
