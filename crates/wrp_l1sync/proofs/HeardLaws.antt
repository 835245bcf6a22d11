-- The message that an end knows was handed to it by a delivery, while it was enabled, and was sent by its peer.
use Rattle.std.proofs.Common.{◌≡◌, ◌∙◌, ap, sym, subst, refl, ℕ, ◌+◌, ◌*◌, ◌≤◌, Bool, true, false, if◌then◌else◌, List, [], ◌∷◌, ◌++◌, Option, None, Some, arith}
use Rattle.std.specs.Prelude.{not}
use Rattle.std.specs.List.{AllByRecursion}
use Rattle.std.specs.Option.{option_map}
use Rattle.std.proofs.lemmas.Option.{same_Some}
use Rattle.wrp_l1sync.specs.declared.event.L1Event.{L1Event}
use Rattle.wrp_l1sync.specs.declared.event.L1Event.TheVariants.{Pass, Tick, Enable, Disable, Own, Deliver}
use Rattle.wrp_l1sync.specs.declared.event.Limits.{Limits}
use Rattle.wrp_l1sync.specs.declared.event.Sent.{Sent}
use Rattle.wrp_l1sync.specs.declared.event.Side.{Side}
use Rattle.wrp_l1sync.specs.declared.event.Side.TheVariants.{A, B}
use Rattle.wrp_l1sync.specs.declared.interface.L1In.{L1In}
use Rattle.wrp_l1sync.specs.declared.interface.L1In.TheVariants as given
use Rattle.wrp_l1sync.specs.declared.message.L1Msg.{L1Msg}
use Rattle.wrp_l1sync.specs.Inputs.{is_enabled, last_message, ticks_since}
use Rattle.wrp_l1sync.specs.Agreement.{inputs_to, replaces, ticks_to}
use Rattle.wrp_l1sync.specs.Pair.{AreAccepted, History, Timed, breach_of, delivery_to, handed, handing_of, history, input_to, inputs_of, is_side, last_of, other, sent_at, side_of, with_input}
use Rattle.wrp_l1sync.specs.Premises.{WasSent}
use Rattle.wrp_l1sync.proofs.PortLaws.{none_known}
use Rattle.wrp_l1sync.proofs.PremiseLaws.{events_are_taken_exactly}
use Rattle.wrp_l1sync.proofs.TimeLaws.{Recent, grown_to, recent}

-- a message that an end knows: the delivery that handed it over, what came since, and how old it is
pub record Heard (limits : Limits) (events : List L1Event) (side : Side) (timed : List Timed) (known : L1Msg) : Type 0 where
  pub message : Sent
  pub k : ℕ
  pub newer : List L1Event
  pub older : List L1Event
  pub number : ℕ
  pub all : events ≡ newer ++ Deliver number k ∷ older
  pub to : side_of number ≡ side
  pub is : sent_at (history limits.interval older).sent k ≡ Some message
  pub enabled : is_enabled (inputs_to limits.interval older side) ≡ true
  pub since : AllByRecursion (λ event. replaces side event ≡ false) newer
  pub by_peer : message.by ≡ other side
  pub says : message.msg ≡ known
  pub ticks : ticks_to side newer ≡ ticks_since (inputs_of timed)
  pub age : last_of timed ≤ message.at + (limits.life + ticks_since (inputs_of timed) * limits.dmax)

-- ---- an event that does not replace it

-- with this event the ticks since are counted on, and the age keeps its bound
record Keeps (limits : Limits) (side : Side) (event : L1Event) (timed grown : List Timed) : Type 0 where
  same : replaces side event ≡ false
  ticks : (newer : List L1Event) → ticks_to side newer ≡ ticks_since (inputs_of timed) → ticks_to side (event ∷ newer) ≡ ticks_since (inputs_of grown)
  age : (at : ℕ) → last_of timed ≤ at + (limits.life + ticks_since (inputs_of timed) * limits.dmax) →
      last_of grown ≤ at + (limits.life + ticks_since (inputs_of grown) * limits.dmax)

heard_on : (limits : Limits) (before : List L1Event) (side : Side) (event : L1Event) (timed grown : List Timed) (known : L1Msg) →
    Keeps limits side event timed grown → Heard limits before side timed known → Heard limits (event ∷ before) side grown known
heard_on limits before side event timed grown known keeps heard = record {
  message = heard.message;
  k = heard.k;
  newer = event ∷ heard.newer;
  older = heard.older;
  number = heard.number;
  all = ap (λ (events : List L1Event). event ∷ events) heard.all;
  to = heard.to;
  is = heard.is;
  enabled = heard.enabled;
  since = (keeps.same, heard.since);
  by_peer = heard.by_peer;
  says = heard.says;
  ticks = keeps.ticks heard.newer heard.ticks;
  age = keeps.age heard.message.at heard.age;
}

on_by : (inputs : List L1In) (known : L1Msg) (b : Bool) → is_enabled inputs ≡ b → last_message inputs ≡ Some known → is_enabled inputs ≡ true
on_by inputs known true is some = is
on_by inputs known false is some = let none : last_message inputs ≡ None = none_known inputs is in absurd cc

-- an end that knows a message is enabled
is_on : (inputs : List L1In) (known : L1Msg) → last_message inputs ≡ Some known → is_enabled inputs ≡ true
is_on inputs known some = on_by inputs known (is_enabled inputs) refl some

one_more : (dmax ticks : ℕ) → (ticks + 1) * dmax ≡ ticks * dmax + dmax
one_more dmax ticks = grind arith

pub tick_age : (life dmax ticks now last at : ℕ) → now ≤ last + dmax → last ≤ at + (life + ticks * dmax) → now ≤ at + (life + (ticks + 1) * dmax)
tick_age life dmax ticks now last at due age =
    let more : (ticks + 1) * dmax ≡ ticks * dmax + dmax = one_more dmax ticks in
    omega arith

-- ---- each event

-- what an end knows in some events it heard
abbrev AreHeard : Limits → List L1Event → Side → List Timed → Type 0
AreHeard limits events side timed = (known : L1Msg) → last_message (inputs_of timed) ≡ Some known → Heard limits events side timed known

-- an event at the other end, or of neither
heard_beside : (limits : Limits) (before : List L1Event) (side : Side) (event : L1Event) (timed : List Timed) → replaces side event ≡ false →
    ((newer : List L1Event) → ticks_to side (event ∷ newer) ≡ ticks_to side newer) → AreHeard limits before side timed →
    AreHeard limits (event ∷ before) side timed
heard_beside limits before side event timed same ticks heard known some =
    heard_on limits before side event timed timed known (record { same = same; ticks = λ newer e. ticks newer ∙ e; age = λ at age. age }) (heard known some)

heard_tick : (limits : Limits) (before : List L1Event) (side : Side) (number now : ℕ) (timed : List Timed) (b : Bool) → is_side (side_of number) side ≡ b →
    Recent limits now timed → AreHeard limits before side timed →
    AreHeard limits (Tick number ∷ before) side (with_input now timed (if b then Some given.Tick else None))
heard_tick limits before side number now timed true is recent heard = λ known some.
    let on : is_enabled (inputs_of timed) ≡ true = is_on (inputs_of timed) known some in
    heard_on limits before side (Tick number) timed (record { at = now; input = given.Tick } ∷ timed) known
    (record {
      same = refl;
      ticks = λ newer e. rw is (ap (λ (n : ℕ). n + 1) e);
      age = λ at age. rw on (tick_age limits.life limits.dmax (ticks_since (inputs_of timed)) now (last_of timed) at (recent.due on) age);
    })
    (heard known some)
heard_tick limits before side number now timed false is recent heard =
    heard_beside limits before side (Tick number) timed refl (λ newer. rw is refl) heard

heard_enable : (limits : Limits) (before : List L1Event) (side : Side) (number now : ℕ) (timed : List Timed) (b : Bool) → AreHeard limits before side timed →
    AreHeard limits (Enable number ∷ before) side (with_input now timed (if b then Some given.Enable else None))
heard_enable limits before side number now timed true heard = λ known some.
    let on : is_enabled (inputs_of timed) ≡ true = is_on (inputs_of timed) known some in
    heard_on limits before side (Enable number) timed (record { at = now; input = given.Enable } ∷ timed) known
    (record { same = refl; ticks = λ newer e. e; age = λ at age. rw on age })
    (heard known some)
heard_enable limits before side number now timed false heard = heard_beside limits before side (Enable number) timed refl (λ newer. refl) heard

heard_disable : (limits : Limits) (before : List L1Event) (side : Side) (number now : ℕ) (timed : List Timed) (b : Bool) → is_side (side_of number) side ≡ b →
    AreHeard limits before side timed → AreHeard limits (Disable number ∷ before) side (with_input now timed (if b then Some given.Disable else None))
heard_disable limits before side number now timed true is heard = λ known some. absurd cc
heard_disable limits before side number now timed false is heard = heard_beside limits before side (Disable number) timed is (λ newer. refl) heard

heard_own : (limits : Limits) (before : List L1Event) (side : Side) (number now : ℕ) (message : L1Msg) (timed : List Timed) (b : Bool) →
    AreHeard limits before side timed → AreHeard limits (Own number message ∷ before) side (with_input now timed (if b then Some (given.Own message) else None))
heard_own limits before side number now message timed true heard = λ known some.
    heard_on limits before side (Own number message) timed (record { at = now; input = given.Own message } ∷ timed) known
    (record { same = refl; ticks = λ newer e. e; age = λ at age. age })
    (heard known some)
heard_own limits before side number now message timed false heard =
    heard_beside limits before side (Own number message) timed refl (λ newer. refl) heard

is_same : (one side : Side) → is_side one side ≡ true → one ≡ side
is_same A A e = refl
is_same A B e = absurd cc
is_same B A e = absurd cc
is_same B B e = refl

-- a message that is heard now
taken : (b : Bool) (one known : L1Msg) → (if b then Some one else None) ≡ Some known → (b ≡ true) × (one ≡ known)
taken true one known e = (refl, same_Some one known e)
taken false one known e = absurd cc

new_age : (last now at life dmax : ℕ) → last ≤ now → now ≤ at + life → last ≤ at + (life + 0 * dmax)
new_age last now at life dmax past young = omega arith

heard_delivery : (limits : Limits) (before : List L1Event) (side : Side) (number k : ℕ) (b : Bool) → is_side (side_of number) side ≡ b →
    let h : History = history limits.interval before in
    WasSent limits h (side_of number) k → Recent limits h.time (handed side h) → (sent : Sent) → sent_at h.sent k ≡ Some sent →
    AreHeard limits before side (handed side h) →
    AreHeard limits (Deliver number k ∷ before) side (with_input h.time (handed side h) (if b then Some (given.Msg sent.msg) else None))
heard_delivery limits before side number k true is was recent sent at heard = λ known some.
    let h : History = history limits.interval before in
    let same : sent ≡ was.message = same_Some sent was.message (sym at ∙ was.numbered) in
    let both = taken (is_enabled (inputs_of (handed side h))) sent.msg known some in
    let to : side_of number ≡ side = is_same (side_of number) side is in
    let young : h.time ≤ sent.at + limits.life = subst (λ (s : Sent). h.time ≤ s.at + limits.life) (sym same) was.young in
    record {
      message = sent;
      k = k;
      newer = [];
      older = before;
      number = number;
      all = refl;
      to = to;
      is = at;
      enabled = both.0;
      since = tt;
      by_peer = ap (λ (s : Sent). s.by) same ∙ was.by_other ∙ ap other to;
      says = both.1;
      ticks = refl;
      age = new_age (last_of (handed side h)) h.time sent.at limits.life limits.dmax recent.past young;
    }
heard_delivery limits before side number k false is was recent sent at heard =
    heard_beside limits before side (Deliver number k) (handed side (history limits.interval before)) is (λ newer. refl) heard

heard_event : (limits : Limits) (before : List L1Event) (side : Side) (event : L1Event) →
    let h : History = history limits.interval before in
    breach_of limits h event ≡ None → Recent limits h.time (handed side h) → AreHeard limits before side (handed side h) →
    AreHeard limits (event ∷ before) side (with_input h.time (handed side h) (input_to side (handing_of h.sent event)))
heard_event limits before side (Pass dt) none recent heard =
    heard_beside limits before side (Pass dt) (handed side (history limits.interval before)) refl (λ newer. refl) heard
heard_event limits before side (Tick number) none recent heard =
    let h : History = history limits.interval before in
    heard_tick limits before side number h.time (handed side h) (is_side (side_of number) side) refl recent heard
heard_event limits before side (Enable number) none recent heard =
    let h : History = history limits.interval before in
    heard_enable limits before side number h.time (handed side h) (is_side (side_of number) side) heard
heard_event limits before side (Disable number) none recent heard =
    let h : History = history limits.interval before in
    heard_disable limits before side number h.time (handed side h) (is_side (side_of number) side) refl heard
heard_event limits before side (Own number message) none recent heard =
    let h : History = history limits.interval before in
    heard_own limits before side number h.time message (handed side h) (is_side (side_of number) side) heard
heard_event limits before side (Deliver number k) none recent heard =
    let h : History = history limits.interval before in
    let was : WasSent limits h (side_of number) k = (events_are_taken_exactly limits h (Deliver number k)).0 none in
    subst (λ (o : Option Sent). AreHeard limits (Deliver number k ∷ before) side
    (with_input h.time (handed side h) (input_to side (option_map (delivery_to (side_of number)) o))))
    (sym was.numbered)
    (heard_delivery limits before side number k (is_side (side_of number) side) refl was recent was.message was.numbered heard)

nothing_heard : (limits : Limits) (side : Side) → AreHeard limits [] side (handed side (history limits.interval []))
nothing_heard limits A known some = absurd cc
nothing_heard limits B known some = absurd cc

-- after every list of accepted events, at either end
pub heard : (limits : Limits) (events : List L1Event) (side : Side) → AreAccepted limits events →
    AreHeard limits events side (handed side (history limits.interval events))
heard limits [] side accepted = nothing_heard limits side
heard limits (event ∷ before) side accepted =
    let h : History = history limits.interval before in
    subst (λ (timed : List Timed). AreHeard limits (event ∷ before) side timed) (grown_to limits.interval h event side)
    (heard_event limits before side event accepted.0 (recent limits before side accepted.1) (heard limits before side accepted.1))
