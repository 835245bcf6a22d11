-- An end that is up has a peer that sent what it says, and was handed it; and when two ends that are up agree.
use Rattle.std.proofs.Common.{◌≡◌, ◌∙◌, ap, sym, subst, refl, ◌⊎◌, inl, inr, ℕ, ◌+◌, ◌*◌, ◌≤◌, ◌<◌, ◌==◌, ◌&&◌, nat_lt, Bool, true, false, if◌then◌else◌, IsTrue, List, [], ◌∷◌, Option, None, Some, arith}
use Rattle.std.proofs.Math.Nat.{mul-le-mul_right}
use Rattle.std.proofs.lemmas.Bool.{eqb-true}
use Rattle.std.proofs.lemmas.Bool.Decides.{nat_tests}
use Rattle.wrp_l1sync.specs.declared.event.L1Event.{L1Event}
use Rattle.wrp_l1sync.specs.declared.event.L1Event.TheVariants.{Tick, Deliver}
use Rattle.wrp_l1sync.specs.declared.event.Limits.{Limits}
use Rattle.wrp_l1sync.specs.declared.event.Sent.{Sent}
use Rattle.wrp_l1sync.specs.declared.event.Side.{Side}
use Rattle.wrp_l1sync.specs.declared.event.Side.TheVariants.{A, B}
use Rattle.wrp_l1sync.specs.declared.interface.L1In.{L1In}
use Rattle.wrp_l1sync.specs.declared.interface.L1State.TheVariants.{Disabled, LinkAlive, ConfigMatch, Up}
use Rattle.wrp_l1sync.specs.declared.message.L1Msg.{L1Msg}
use Rattle.wrp_l1sync.specs.Agreement.{Agree, AreUpBy, HasNoOwn, IsUp, IsUpBy, UpEndsAgree, inputs_to, own_at, ticks_to}
use Rattle.wrp_l1sync.specs.Inputs.{is_enabled, last_message, own_of, state_with, ticks_since}
use Rattle.wrp_l1sync.specs.Message.{meets}
use Rattle.wrp_l1sync.specs.Pair.{AreAccepted, History, Timed, handed, history, inputs_of, last_of, other, sent_at, side_of}
use Rattle.wrp_l1sync.specs.Theorem.{UpIsCarried}
use Rattle.wrp_l1sync.proofs.HeardLaws.{Heard, heard, tick_age}
use Rattle.wrp_l1sync.proofs.SentLaws.{WasTicked, contains_number, is_own, own_stays, sent_later, was_ticked}
use Rattle.wrp_l1sync.proofs.TimeLaws.{Recent, recent}

-- ---- an end that is up

record UpParts (own : L1Msg) (enabled live : Bool) (known : Option L1Msg) : Type 0 where
  message : L1Msg
  on : enabled ≡ true
  still : live ≡ true
  is : known ≡ Some message
  same : (message.req == own.req) ≡ true
  own_holds : meets own.req own.is ≡ true
  peer_holds : meets own.req message.is ≡ true

up_with : (same one two : Bool) → (if same then (if one && two then Up else ConfigMatch) else LinkAlive) ≡ Up →
    (same ≡ true) × (one ≡ true) × (two ≡ true)
up_with true true true up = (refl, refl, refl)
up_with true true false up = absurd cc
up_with true false true up = absurd cc
up_with true false false up = absurd cc
up_with false one two up = absurd cc

up_parts : (own : L1Msg) (enabled live : Bool) (known : Option L1Msg) →
    (if enabled then state_with own (if live then known else None) else Disabled) ≡ Up → UpParts own enabled live known
up_parts own true true (Some message) up =
    let all = up_with (message.req == own.req) (meets own.req own.is) (meets own.req message.is) up in
    record { message = message; on = refl; still = refl; is = refl; same = all.0; own_holds = all.1; peer_holds = all.2 }
up_parts own true true None up = absurd cc
up_parts own true false known up = absurd cc
up_parts own false live known up = absurd cc

below : (a b : ℕ) → nat_lt a b ≡ true → a < b
below a b e = grind (arith, nat_tests)

up_age : (life dmax timeout ticks now last at : ℕ) → ticks < timeout → now ≤ last + dmax → last ≤ at + (life + ticks * dmax) →
    now ≤ at + (timeout * dmax + life)
up_age life dmax timeout ticks now last at within due age =
    let next : ticks + 1 ≤ timeout = omega arith in
    let at_most : (ticks + 1) * dmax ≤ timeout * dmax = mul-le-mul_right dmax next in
    let more : now ≤ at + (life + (ticks + 1) * dmax) = tick_age life dmax ticks now last at due age in
    omega arith

fewer : (a b timeout : ℕ) → a ≡ b → b < timeout → a < timeout
fewer a b timeout e h = omega arith

-- ---- what its peer requires

agreed : (own peer message : L1Msg) → message.req ≡ own.req → IsTrue (meets own.req own.is) → IsTrue (meets own.req message.is) →
    message ≡ peer → Agree own peer
agreed own peer message same own_holds peer_holds is = record {
  same = sym same ∙ ap (λ (m : L1Msg). m.req) is;
  own_holds = own_holds;
  peer_holds = subst (λ (m : L1Msg). IsTrue (meets own.req m.is)) is peer_holds;
}

-- the peer's own message is the one that was sent
still_own : (interval : ℕ) (events : List L1Event) (side : Side) (k : ℕ) (message : Sent) (was : WasTicked interval events k message) →
    side_of was.number ≡ side → HasNoOwn side was.since → message.msg ≡ own_at interval events side
still_own interval events side k message was by none =
    (is_own interval was.older was.number message was.is).says
    ∙ ap (λ (s : Side). own_at interval was.older s) by
    ∙ sym (own_stays interval was.since (Tick was.number ∷ was.older) side none ∙ own_stays interval (Tick was.number ∷ []) was.older side (refl, tt))
    ∙ ap (λ (es : List L1Event). own_at interval es side) (sym was.all)

up_by : (limits : Limits) (events : List L1Event) (side : Side) →
    Recent limits (history limits.interval events).time (handed side (history limits.interval events)) →
    (is : UpParts (own_at limits.interval events side) (is_enabled (inputs_to limits.interval events side))
    (nat_lt (ticks_since (inputs_to limits.interval events side)) limits.timeout) (last_message (inputs_to limits.interval events side))) →
    Heard limits events side (handed side (history limits.interval events)) is.message → IsUpBy limits events side
up_by limits events side times is known =
    let h : History = history limits.interval events in
    let timed : List Timed = handed side h in
    let own : L1Msg = own_at limits.interval events side in
    let within : ticks_since (inputs_of timed) < limits.timeout = below (ticks_since (inputs_of timed)) limits.timeout is.still in
    let numbered : sent_at h.sent known.k ≡ Some known.message =
    subst (λ (es : List L1Event). sent_at (history limits.interval es).sent known.k ≡ Some known.message) (sym known.all)
    (sent_later limits.interval known.newer (Deliver known.number known.k ∷ known.older) known.k known.message
    (sent_later limits.interval (Deliver known.number known.k ∷ []) known.older known.k known.message known.is)) in
    let was : WasTicked limits.interval events known.k known.message = was_ticked limits.interval events known.k known.message numbered in
    let by : side_of was.number ≡ other side =
    sym (is_own limits.interval was.older was.number known.message was.is).by ∙ known.by_peer in
    let same : known.message.msg.req ≡ own.req = ap (λ (m : L1Msg). m.req) known.says ∙ eqb-true is.message.req own.req is.same in
    let peer_holds : meets own.req known.message.msg.is ≡ true = ap (λ (m : L1Msg). meets own.req m.is) known.says ∙ is.peer_holds in
    record {
      message = known.message;
      k = known.k;
      since = was.since;
      carries = record {
        sent = contains_number h.sent known.k known.message numbered;
        by_peer = known.by_peer;
        age = up_age limits.life limits.dmax limits.timeout (ticks_since (inputs_of timed)) h.time (last_of timed) known.message.at
            within (times.due is.on) known.age;
        same = same;
        own_holds = is.own_holds;
        peer_holds = peer_holds;
      };
      came = record {
        newer = known.newer;
        older = known.older;
        number = known.number;
        all = known.all;
        to = known.to;
        is = known.is;
        enabled = known.enabled;
        since = known.since;
        ticks = fewer (ticks_to side known.newer) (ticks_since (inputs_of timed)) limits.timeout known.ticks within;
      };
      sent = record { older = was.older; number = was.number; all = was.all; by = by; is = was.is; numbered = was.numbered };
      agree = λ none. agreed own (own_at limits.interval events (other side)) known.message.msg same is.own_holds peer_holds
          (still_own limits.interval events (other side) known.k known.message was by none);
    }

-- after every list of accepted events an end that is up is so by a message
pub one_up : (limits : Limits) (events : List L1Event) (side : Side) → AreAccepted limits events → IsUp limits events side → IsUpBy limits events side
one_up limits events side accepted up =
    let inputs : List L1In = inputs_to limits.interval events side in
    let is = up_parts (own_of inputs) (is_enabled inputs) (nat_lt (ticks_since inputs) limits.timeout) (last_message inputs) up in
    up_by limits events side (recent limits events side accepted) is (heard limits events side accepted is.message is.is)

-- at either end
pub up_is_carried : (limits : Limits) (events : List L1Event) (side : Side) → AreAccepted limits events →
    UpIsCarried limits (history limits.interval events) side
up_is_carried limits events side accepted up = let is = one_up limits events side accepted up in (is.message, is.carries)

-- ---- both ends

turned : (own peer : L1Msg) → Agree own peer → Agree peer own
turned own peer agree = record {
  same = sym agree.same;
  own_holds = subst (λ (req : ℕ). IsTrue (meets req peer.is)) agree.same agree.peer_holds;
  peer_holds = subst (λ (req : ℕ). IsTrue (meets req own.is)) agree.same agree.own_holds;
}

two_agree : (limits : Limits) (events : List L1Event) (a : IsUpBy limits events A) (b : IsUpBy limits events B) →
    HasNoOwn B a.since ⊎ HasNoOwn A b.since → Agree (own_at limits.interval events A) (own_at limits.interval events B)
two_agree limits events a b (inl none) = a.agree none
two_agree limits events a b (inr none) = turned (own_at limits.interval events B) (own_at limits.interval events A) (b.agree none)

pub two_up : (limits : Limits) (events : List L1Event) → AreAccepted limits events → IsUp limits events A → IsUp limits events B → AreUpBy limits events
two_up limits events accepted a_up b_up =
    let a : IsUpBy limits events A = one_up limits events A accepted a_up in
    let b : IsUpBy limits events B = one_up limits events B accepted b_up in
    record { a = a; b = b; agree = two_agree limits events a b }

pub up_ends_agree : UpEndsAgree
up_ends_agree = record {
  one = one_up;
  two = two_up;
  worked = record {
    accepted = (refl, (refl, (refl, (refl, (refl, (refl, (refl, (refl, (refl, (refl, tt))))))))));
    a = refl;
    b = refl;
    a_requires = refl;
    b_requires = refl;
  };
}
