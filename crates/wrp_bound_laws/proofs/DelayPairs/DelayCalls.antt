-- What an exchange keeps of its newest Delay_Req and of its delay pair, call by call, and by what its port is given.
use Rattle.std.proofs.Common.{◌≡◌, refl, sym, subst, ℕ, ℤ, ◌==◌, ◌&&◌, not, Bool, true, false, if◌then◌else◌, List, ◌∷◌, Option, None, Some}
use Rattle.std.proofs.lemmas.Bool.{eqb-true}
use Rattle.std.specs.Option.{option_and_then, option_map, option_or}
use Rattle.std.specs.Prelude.{IfSome}
use Rattle.wrp_base.specs.declared.link.Role.{Role}
use Rattle.wrp_base.specs.declared.link.Role.TheVariants.{Master, Slave}
use Rattle.wrp_base.specs.declared.measurement.ChainNews.TheVariants.{Same, Started, Ended}
use Rattle.wrp_base.specs.declared.message.Body.{Body}
use Rattle.wrp_base.specs.declared.message.Body.TheVariants.{Sync, DelayReq, FollowUp, DelayResp, Announce, Signal}
use Rattle.wrp_base.specs.declared.message.Head.{Head}
use Rattle.wrp_base.specs.declared.message.PtpMsg.{PtpMsg}
use Rattle.wrp_base.specs.declared.time.Stamp.{Stamp}
use Rattle.wrp_data.specs.declared.reason.Reason.{Reason}
use Rattle.wrp_exch.specs.Call.{Call, CallStart, CallClear, CallSample, CallReqOut, CallReqSent, CallResp}
use Rattle.wrp_exch.specs.Chain.{first_sample, latched_phase}
use Rattle.wrp_exch.specs.declared.delay.DelayPair.{DelayPair}
use Rattle.wrp_exch.specs.declared.delay.Sent.{Sent}
use Rattle.wrp_exch.specs.DelayPair.{delay_pair, first_sent, held_sent, is_answered, last_request, pair_of_sent}
use Rattle.wrp_port.specs.declared.interface.PortIn.{PortIn}
use Rattle.wrp_port.specs.declared.interface.PortIn.TheVariants.{Msg, Sent as PortSent, Tick as PortTick, Sample as PortSample}
use Rattle.wrp_port.specs.declared.setting.Setting.{Setting}
use Rattle.wrp_port.specs.Hearing.{early_reason, piece_of}
use Rattle.wrp_port.specs.History.{calls_of, rest_after}
use Rattle.wrp_port.specs.LineAfter.{requests_on, ticked}
use Rattle.wrp_port.specs.Outputs.{only_slave, piece_unless, with_call}
use Rattle.wrp_port.specs.Wire.{earlier_by}
use Rattle.wrp_bound_laws.proofs.Nodes.StepTold.{KeptByNews, KeptByTurns}

-- this holds of the newest request's id, with its sending if one was kept; and of the sending of the pair, if there is
-- one
abbrev pub Asked : (R : ℕ → Option Sent → Type 0) (S : DelayPair → Type 0) (ring : ℕ) (calls : List Call) → Type 0
Asked R S ring calls = IfSome (last_request calls) (λ id. R id (first_sent ring calls)) × IfSome (delay_pair ring calls) S

-- Call by call

-- a request
out_asked : (R : ℕ → Option Sent → Type 0) (seq : ℕ) (o : Option ℕ) → R seq None → IfSome (option_map (λ _. seq) o) (λ id. R id None)
out_asked R seq None h = tt
out_asked R seq (Some first) h = h

request_asked : (R : ℕ → Option Sent → Type 0) (S : DelayPair → Type 0) (ring seq : ℕ) (calls : List Call) → R seq None → IfSome (delay_pair ring calls) S → Asked R S ring (CallReqOut seq ∷ calls)
request_asked R S ring seq calls new pair = (out_asked R seq (first_sample calls) new, pair)

-- a sending
abbrev pub SendingFits : (R : ℕ → Option Sent → Type 0) (ring : ℕ) (calls : List Call) (seq : ℕ) (t3 : Stamp) (tick : ℕ) → Type 0
SendingFits R ring calls seq t3 tick = (u : ℤ) → latched_phase ring calls t3.sample ≡ Some u → R seq None → R seq (Some (held_sent t3 tick u))

usable_asked : (R : ℕ → Option Sent → Type 0) (seq tick id : ℕ) (t3 : Stamp) (l : Option ℤ) (b : Bool) → (b ≡ true → id ≡ seq) → ((u : ℤ) → l ≡ Some u → R seq None → R seq (Some (held_sent t3 tick u))) → R id None →
    R id (if b then option_map (held_sent t3 tick) l else None)
usable_asked R seq tick id t3 (Some u) true same fits h =
    let is : id ≡ seq = same refl in
    subst (λ i. R i (Some (held_sent t3 tick u))) (sym is) (fits u refl (subst (λ i. R i None) is h))
usable_asked R seq tick id t3 None true same fits h = h
usable_asked R seq tick id t3 l false same fits h = h

sent_asked : (R : ℕ → Option Sent → Type 0) (seq tick : ℕ) (t3 : Stamp) (l : Option ℤ) (o : Option ℕ) (f : Option Sent) → ((u : ℤ) → l ≡ Some u → R seq None → R seq (Some (held_sent t3 tick u))) → IfSome o (λ id. R id f) →
    IfSome o (λ id. R id (option_or f (option_and_then (λ i. if i == seq then option_map (held_sent t3 tick) l else None) o)))
sent_asked R seq tick t3 l None f fits h = tt
sent_asked R seq tick t3 l (Some id) (Some x) fits h = h
sent_asked R seq tick t3 l (Some id) None fits h = usable_asked R seq tick id t3 l (id == seq) (λ e. eqb-true id seq e) fits h

sending_asked : (R : ℕ → Option Sent → Type 0) (S : DelayPair → Type 0) (ring seq tick : ℕ) (t3 : Stamp) (calls : List Call) → SendingFits R ring calls seq t3 tick → Asked R S ring calls → Asked R S ring (CallReqSent seq t3 tick ∷ calls)
sending_asked R S ring seq tick t3 calls fits h = (sent_asked R seq tick t3 (latched_phase ring calls t3.sample) (last_request calls) (first_sent ring calls) fits h.0, h.1)

-- a Delay_Resp
abbrev pub RespFits : (R : ℕ → Option Sent → Type 0) (S : DelayPair → Type 0) (seq : ℕ) (t4 : ℤ) → Type 0
RespFits R S seq t4 = (x : Sent) → R seq (Some x) → S (pair_of_sent t4 x)

answered_asked : (R : ℕ → Option Sent → Type 0) (S : DelayPair → Type 0) (seq id : ℕ) (t4 : ℤ) (f : Option Sent) (d : Option DelayPair) (a b : Bool) → (a ≡ true → id ≡ seq) → RespFits R S seq t4 → R id f → IfSome d S →
    IfSome (option_or (if a && not b then option_map (pair_of_sent t4) f else None) d) S
answered_asked R S seq id t4 (Some x) d true false same fits h k = fits x (subst (λ i. R i (Some x)) (same refl) h)
answered_asked R S seq id t4 None d true false same fits h k = k
answered_asked R S seq id t4 f d true true same fits h k = k
answered_asked R S seq id t4 f d false b same fits h k = k

resp_by : (R : ℕ → Option Sent → Type 0) (S : DelayPair → Type 0) (ring seq : ℕ) (t4 : ℤ) (calls : List Call) (o : Option ℕ) (f : Option Sent) (d : Option DelayPair) → RespFits R S seq t4 → IfSome o (λ id. R id f) → IfSome d S →
    IfSome (option_or (option_and_then (λ id. if (id == seq) && not (is_answered ring seq calls) then option_map (pair_of_sent t4) f else None) o) d) S
resp_by R S ring seq t4 calls None f d fits h k = k
resp_by R S ring seq t4 calls (Some id) f d fits h k = answered_asked R S seq id t4 f d (id == seq) (is_answered ring seq calls) (λ e. eqb-true id seq e) fits h k

resp_asked : (R : ℕ → Option Sent → Type 0) (S : DelayPair → Type 0) (ring seq : ℕ) (t4 : ℤ) (calls : List Call) → RespFits R S seq t4 → Asked R S ring calls → Asked R S ring (CallResp seq t4 ∷ calls)
resp_asked R S ring seq t4 calls fits h = (h.0, resp_by R S ring seq t4 calls (last_request calls) (first_sent ring calls) (delay_pair ring calls) fits h.0 h.1)

-- What a port is given

-- the exchange of a port that was given this
abbrev pub AskedOf : (R : ℕ → Option Sent → Type 0) (S : DelayPair → Type 0) (set : Setting) (told : List PortIn) → Type 0
AskedOf R S set told = Asked R S set.ring (calls_of set told)

pub only_kept : (P : List Call → Type 0) (role : Role) (o : Option Call) (calls : List Call) → P (with_call o calls) → P calls → P (with_call (only_slave role o) calls)
only_kept P Master o calls new old = old
only_kept P Slave o calls new old = new

pub news_asked : (R : ℕ → Option Sent → Type 0) (S : DelayPair → Type 0) (set : Setting) → KeptByNews (AskedOf R S set)
news_asked R S set told Same h = only_kept (Asked R S set.ring) set.ds.role None (calls_of set told) h h
news_asked R S set told (Started n) h = only_kept (Asked R S set.ring) set.ds.role (Some (CallStart n)) (calls_of set told) (tt, tt) h
news_asked R S set told Ended h = only_kept (Asked R S set.ring) set.ds.role (Some CallClear) (calls_of set told) (tt, tt) h

pub turns_asked : (R : ℕ → Option Sent → Type 0) (S : DelayPair → Type 0) (set : Setting) → KeptByTurns (AskedOf R S set)
turns_asked R S set = record { carrier = λ told up own_module h. h; reset = λ told h. (tt, tt) }

pub sample_asked : (R : ℕ → Option Sent → Type 0) (S : DelayPair → Type 0) (set : Setting) (told : List PortIn) (number : ℕ) (phase : ℤ) → AskedOf R S set told → AskedOf R S set (PortSample number phase ∷ told)
sample_asked R S set told number phase h = only_kept (Asked R S set.ring) set.ds.role (Some (CallSample number phase)) (calls_of set told) h h

-- a message: it is no Delay_Resp, or one that fits
abbrev pub MessageFits : (R : ℕ → Option Sent → Type 0) (S : DelayPair → Type 0) → Head → Body → Type 0
MessageFits R S head (DelayResp receive requesting) = RespFits R S head.seq (earlier_by receive head.correction)
MessageFits R S head _ = Unit {0}

piece_asked : (R : ℕ → Option Sent → Type 0) (S : DelayPair → Type 0) (ring : ℕ) (role : Role) (head : Head) (body : Body) (stamp : Stamp) (tick : ℕ) (calls : List Call) → MessageFits R S head body → Asked R S ring calls →
    Asked R S ring (with_call (piece_of role head body stamp tick) calls)
piece_asked R S ring Slave head (DelayResp receive requesting) stamp tick calls fits h = resp_asked R S ring head.seq (earlier_by receive head.correction) calls fits h
piece_asked R S ring Slave head (Sync origin) stamp tick calls fits h = h
piece_asked R S ring Slave head (FollowUp precise) stamp tick calls fits h = h
piece_asked R S ring Slave head (DelayReq origin) stamp tick calls fits h = h
piece_asked R S ring Slave head (Announce origin utc p1 quality p2 gm steps source suffix) stamp tick calls fits h = h
piece_asked R S ring Slave head (Signal target message) stamp tick calls fits h = h
piece_asked R S ring Master head body stamp tick calls fits h = h

pub unless_kept : (P : List Call → Type 0) (reason : Option Reason) (piece : Option Call) (calls : List Call) → P (with_call piece calls) → P calls → P (with_call (piece_unless reason piece) calls)
unless_kept P None piece calls new old = new
unless_kept P (Some reason) piece calls new old = old

pub message_asked : (R : ℕ → Option Sent → Type 0) (S : DelayPair → Type 0) (set : Setting) (told : List PortIn) (m : PtpMsg) (stamp : Stamp) (tick : ℕ) → MessageFits R S m.head m.body → AskedOf R S set told → AskedOf R S set (Msg m stamp tick ∷ told)
message_asked R S set told m stamp tick fits h =
    unless_kept (Asked R S set.ring) (early_reason set (rest_after set told).link m) (piece_of set.ds.role m.head m.body stamp tick) (calls_of set told)
    (piece_asked R S set.ring set.ds.role m.head m.body stamp tick (calls_of set told) fits h) h

-- a sending
pub told_asked : (R : ℕ → Option Sent → Type 0) (S : DelayPair → Type 0) (set : Setting) (told : List PortIn) (seq tick : ℕ) (delay : Bool) (stamp : Stamp) → (delay ≡ true → SendingFits R set.ring (calls_of set told) seq stamp tick) → AskedOf R S set told →
    AskedOf R S set (PortSent delay seq stamp tick ∷ told)
told_asked R S set told seq tick true stamp fits h =
    only_kept (Asked R S set.ring) set.ds.role (Some (CallReqSent seq stamp tick)) (calls_of set told) (sending_asked R S set.ring seq tick stamp (calls_of set told) (fits refl) h) h
told_asked R S set told seq tick false stamp fits h = h

-- a tick
due_asked : (R : ℕ → Option Sent → Type 0) (S : DelayPair → Type 0) (ring id : ℕ) (role : Role) (due : Bool) (calls : List Call) → role ≡ Slave → (due ≡ true → R id None) → (due ≡ false → IfSome (last_request calls) (λ i. R i (first_sent ring calls))) →
    IfSome (delay_pair ring calls) S → Asked R S ring (with_call (only_slave role (if due then Some (CallReqOut id) else None)) calls)
due_asked R S ring id Slave true calls slave new old pair = request_asked R S ring id calls (new refl) pair
due_asked R S ring id Slave false calls slave new old pair = (old refl, pair)
due_asked R S ring id Master due calls slave new old pair = absurd cc

pub tick_asked : (R : ℕ → Option Sent → Type 0) (S : DelayPair → Type 0) (set : Setting) (told : List PortIn) (locked certain : Bool) → set.ds.role ≡ Slave →
    (requests_on (ticked set (rest_after set told) locked) ≡ true → R (ticked set (rest_after set told) locked).ids.request None) →
    (requests_on (ticked set (rest_after set told) locked) ≡ false → IfSome (last_request (calls_of set told)) (λ i. R i (first_sent set.ring (calls_of set told)))) → IfSome (delay_pair set.ring (calls_of set told)) S →
    AskedOf R S set (PortTick locked certain ∷ told)
tick_asked R S set told locked certain slave new old pair =
    due_asked R S set.ring (ticked set (rest_after set told) locked).ids.request set.ds.role (requests_on (ticked set (rest_after set told) locked)) (calls_of set told) slave new old pair

-- it holds where it follows
pub asked_less : (R Q : ℕ → Option Sent → Type 0) (S T : DelayPair → Type 0) (ring : ℕ) (calls : List Call) → ((id : ℕ) (o : Option Sent) → R id o → Q id o) → ((p : DelayPair) → S p → T p) → Asked R S ring calls → Asked Q T ring calls
asked_less R Q S T ring calls f g h = (at_last (last_request calls) (first_sent ring calls) h.0, at_pair (delay_pair ring calls) h.1)
  where
    at_last : (o : Option ℕ) (x : Option Sent) → IfSome o (λ id. R id x) → IfSome o (λ id. Q id x)
    at_last None x k = tt
    at_last (Some id) x k = f id x k

    at_pair : (o : Option DelayPair) → IfSome o S → IfSome o T
    at_pair None k = tt
    at_pair (Some p) k = g p k
