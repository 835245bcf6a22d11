-- One more input: looking back finds what the input makes of the port before it.
use Rattle.std.proofs.Common.{◌≡◌, ◌∙◌, ap, ap₂, sym, refl, ℕ, ◌+◌, ◌-◌, ◌%◌, ◌==◌, ◌&&◌, nat_lt, not, Bool, true, false, if◌then◌else◌, List, [], ◌∷◌, Option, None, Some, arith}
use Rattle.std.proofs.Math.Nat.{zero-mod}
use Rattle.std.proofs.lemmas.Bool.Decides.{nat_tests}
use Rattle.std.specs.Option.{option_map}
use Rattle.wrp_base.specs.Calls.{Adds}
use Rattle.wrp_base.proofs.Naturals.{turn_mod}
use Rattle.wrp_l1sync.specs.declared.interface.L1In.{L1In}
use Rattle.wrp_l1sync.specs.declared.interface.L1In.TheVariants.{Enable, Disable, Own, Msg, Tick}
use Rattle.wrp_l1sync.specs.declared.interface.L1Out.{L1Out}
use Rattle.wrp_l1sync.specs.declared.interface.L1State.{L1State}
use Rattle.wrp_l1sync.specs.declared.interface.L1State.TheVariants.{Disabled}
use Rattle.wrp_l1sync.specs.declared.kept.Kept.{Kept}
use Rattle.wrp_l1sync.specs.declared.message.L1Msg.{L1Msg}
use Rattle.wrp_l1sync.specs.Inputs.{is_enabled, own_of, last_message, ticks_since, ticks_of, state_with, state_of, send_of, change_of, out_of}
use Rattle.wrp_l1sync.specs.PortAt.{PortAt, kept_by, port_of, StandsFor, aged, enabled_by, heard_by, next_turn, ticked_by, after, message_of, state_by, send_by, out_by}

-- a port that is not enabled knows no message
pub none_known : (inputs : List L1In) → is_enabled inputs ≡ false → last_message inputs ≡ None
none_known [] off = refl
none_known (Enable ∷ before) off = cc
none_known (Disable ∷ before) off = refl
none_known (Own message ∷ before) off = none_known before off
none_known (Msg message ∷ before) off = ap (λ b. if b then Some message else None) off
none_known (Tick ∷ before) off = none_known before off

abbrev kept_at : L1Msg → ℕ → Kept
kept_at message left = record { msg = message; left = left }

-- the last tick of a message
last-tick : (timeout ticks : ℕ) → nat_lt ticks timeout ≡ true → ((timeout - ticks) == 1) ≡ not (nat_lt (ticks + 1) timeout)
last-tick timeout ticks live = grind (arith, nat_tests)

past-last : (timeout ticks : ℕ) → nat_lt ticks timeout ≡ false → nat_lt (ticks + 1) timeout ≡ false
past-last timeout ticks dead = grind (arith, nat_tests)

kept-one : (message : L1Msg) (one other : ℕ) (b : Bool) → one ≡ other →
    (if not b then None else Some (kept_at message one)) ≡ (if b then Some (kept_at message other) else None)
kept-one message one other true e = ap (λ n. Some (kept_at message n)) e
kept-one message one other false e = refl

kept-aged-by : (timeout ticks : ℕ) (message : L1Msg) (b : Bool) → nat_lt ticks timeout ≡ b →
    aged (if b then Some (kept_at message (timeout - ticks)) else None) ≡ kept_by timeout (ticks + 1) (Some message)
kept-aged-by timeout ticks message true live =
    ap (λ c. if c then None else Some (kept_at message ((timeout - ticks) - 1))) (last-tick timeout ticks live)
    ∙ kept-one message ((timeout - ticks) - 1) (timeout - (ticks + 1)) (nat_lt (ticks + 1) timeout) (omega arith)
kept-aged-by timeout ticks message false dead =
    ap (λ c. if c then Some (kept_at message (timeout - (ticks + 1))) else None) (sym (past-last timeout ticks dead))

-- a message that is kept, one tick later
kept-aged : (timeout ticks : ℕ) (message : Option L1Msg) → aged (kept_by timeout ticks message) ≡ kept_by timeout (ticks + 1) message
kept-aged timeout ticks None = refl
kept-aged timeout ticks (Some message) = kept-aged-by timeout ticks message (nat_lt ticks timeout) refl

-- the message that is kept is the live one
kept-live : (timeout ticks : ℕ) (message : Option L1Msg) → option_map message_of (kept_by timeout ticks message) ≡ (if nat_lt ticks timeout then message else None)
kept-live timeout ticks None =
    let none : Option L1Msg = None in
    elim (nat_lt ticks timeout) as (λ b. none ≡ (if b then none else none)) [ true ↦ refl | false ↦ refl ]
kept-live timeout ticks (Some message) =
    elim (nat_lt ticks timeout) as (λ b. option_map message_of (if b then Some (record { msg = message; left = timeout - ticks }) else None) ≡ (if b then Some message else None)) [ true ↦ refl | false ↦ refl ]

-- ---- each input

-- a port by its parts
abbrev port_at : (timeout interval : ℕ) → Bool → L1Msg → Option Kept → ℕ → PortAt
port_at timeout interval enabled own kept turn =
    record { timeout = timeout; interval = interval; enabled = enabled; own = own; kept = kept; turn = turn }

enabled-port : (timeout interval : ℕ) (b : Bool) (own : L1Msg) (kept : Option Kept) (ticks : ℕ) →
    enabled_by (port_at timeout interval b own kept (ticks % interval)) ≡ port_at timeout interval true own kept ((if b then ticks else 0) % interval)
enabled-port timeout interval true own kept ticks = refl
enabled-port timeout interval false own kept ticks = ap (λ n. port_at timeout interval true own kept n) (sym (zero-mod interval))

heard-port : (timeout interval : ℕ) (b : Bool) (own : L1Msg) (kept : Option Kept) (turn : ℕ) (message : L1Msg) →
    (b ≡ false → kept ≡ None) →
    heard_by (port_at timeout interval b own kept turn) message ≡ port_at timeout interval b own (kept_by timeout 0 (if b then Some message else None)) turn
heard-port timeout interval true own kept turn message none = refl
heard-port timeout interval false own kept turn message none = ap (λ k. port_at timeout interval false own k turn) (none refl)

ticked-port : (timeout interval : ℕ) (b : Bool) (own : L1Msg) (since : ℕ) (message : Option L1Msg) (ticks : ℕ) →
    (b ≡ false → message ≡ None) →
    ticked_by (port_at timeout interval b own (kept_by timeout since message) (ticks % interval))
    ≡ port_at timeout interval b own (kept_by timeout (since + 1) message) ((if b then ticks + 1 else ticks) % interval)
ticked-port timeout interval true own since message ticks none =
    ap₂ (λ k n. port_at timeout interval true own k n) (kept-aged timeout since message) (turn_mod interval ticks)
ticked-port timeout interval false own since message ticks none =
    ap (λ k. port_at timeout interval false own k (ticks % interval))
    (ap (λ m. kept_by timeout since m) (none refl) ∙ sym (ap (λ m. kept_by timeout (since + 1) m) (none refl)))

-- looking back over one more input
pub port-after : (timeout interval : ℕ) (input : L1In) (before : List L1In) →
    after (port_of timeout interval before) input ≡ port_of timeout interval (input ∷ before)
port-after timeout interval Enable before =
    enabled-port timeout interval (is_enabled before) (own_of before) (kept_by timeout (ticks_since before) (last_message before)) (ticks_of before)
port-after timeout interval Disable before = refl
port-after timeout interval (Own message) before = refl
port-after timeout interval (Msg message) before =
    heard-port timeout interval (is_enabled before) (own_of before) (kept_by timeout (ticks_since before) (last_message before)) (ticks_of before % interval) message
    (λ off. ap (λ m. kept_by timeout (ticks_since before) m) (none_known before off))
port-after timeout interval Tick before =
    ticked-port timeout interval (is_enabled before) (own_of before) (ticks_since before) (last_message before) (ticks_of before) (none_known before)

-- ---- what is shown

pub state-port : (timeout interval : ℕ) (inputs : List L1In) → state_by (port_of timeout interval inputs) ≡ state_of timeout inputs
state-port timeout interval inputs =
    ap (λ m. if is_enabled inputs then state_with (own_of inputs) m else Disabled) (kept-live timeout (ticks_since inputs) (last_message inputs))

pub send-port : (timeout interval : ℕ) (input : L1In) (before : List L1In) → send_by (port_of timeout interval before) input ≡ send_of interval before input
send-port timeout interval Tick before =
    ap (λ n. if is_enabled before && (n == 0) then Some (own_of before) else None) (turn_mod interval (ticks_of before))
send-port timeout interval _ before = refl

pub out-port : (timeout interval : ℕ) (input : L1In) (before : List L1In) → out_by (port_of timeout interval before) input ≡ out_of timeout interval before input
out-port timeout interval input before =
    let next : state_by (after (port_of timeout interval before) input) ≡ state_of timeout (input ∷ before) =
    ap state_by (port-after timeout interval input before) ∙ state-port timeout interval (input ∷ before) in
    let moved : change_of (state_by (port_of timeout interval before)) (state_by (after (port_of timeout interval before) input))
    ≡ change_of (state_of timeout before) (state_of timeout (input ∷ before)) =
    ap₂ change_of (state-port timeout interval before) next in
    let sent : send_by (port_of timeout interval before) input ≡ send_of interval before input = send-port timeout interval input before in
    λ i. record { send = sent i; moved = moved i }

-- ---- the list of inputs

-- no input changes the settings
same-settings : (b : Bool) (one other : PortAt) (timeout interval : ℕ) →
    (one.timeout ≡ timeout) × (one.interval ≡ interval) → (other.timeout ≡ timeout) × (other.interval ≡ interval) →
    ((if b then one else other).timeout ≡ timeout) × ((if b then one else other).interval ≡ interval)
same-settings true one other timeout interval h k = h
same-settings false one other timeout interval h k = k

pub keeps_settings : (port : PortAt) (input : L1In) → ((after port input).timeout ≡ port.timeout) × ((after port input).interval ≡ port.interval)
keeps_settings port Enable =
    same-settings port.enabled port (record port { enabled = true; turn = 0 }) port.timeout port.interval (refl, refl) (refl, refl)
keeps_settings port Disable = (refl, refl)
keeps_settings port (Own message) = (refl, refl)
keeps_settings port (Msg message) =
    same-settings port.enabled (record port { kept = kept_by port.timeout 0 (Some message) }) port port.timeout port.interval (refl, refl) (refl, refl)
keeps_settings port Tick =
    same-settings port.enabled (record port { kept = aged port.kept; turn = next_turn port }) port port.timeout port.interval (refl, refl) (refl, refl)

-- an input goes in front of the inputs that a port stands for
pub Adds-input : (old new : PortAt) (input : L1In) → new ≡ after old input → Adds StandsFor old new input
Adds-input old new input moved inputs stands =
    let is : new ≡ port_of old.timeout old.interval (input ∷ inputs) =
    moved ∙ ap (λ p. after p input) stands ∙ port-after old.timeout old.interval input inputs in
    is ∙ ap₂ (λ t n. port_of t n (input ∷ inputs)) (sym (ap (λ p. p.timeout) is)) (sym (ap (λ p. p.interval) is))

-- an answer is what looking back finds
pub out_looked_back : (port : PortAt) (input : L1In) (inputs : List L1In) (out : L1Out) →
    out ≡ out_by port input → StandsFor port inputs → out ≡ out_of port.timeout port.interval inputs input
out_looked_back port input inputs out is stands =
    is ∙ ap (λ p. out_by p input) stands ∙ out-port port.timeout port.interval input inputs

pub state_looked_back : (port : PortAt) (inputs : List L1In) (state : L1State) →
    state ≡ state_by port → StandsFor port inputs → state ≡ state_of port.timeout inputs
state_looked_back port inputs state is stands =
    is ∙ ap state_by stands ∙ state-port port.timeout port.interval inputs
