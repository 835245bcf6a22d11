-- No four that a node measures is older than the one that it holds: the ticks that its port gives its exchange never
-- fall.
use Rattle.std.proofs.Common.{◌≡◌, inl, inr, ◌∙◌, refl, ap, sym, subst, ℕ, ◌+◌, ◌≤◌, ℤ, ◌&&◌, Bool, true, false, if◌then◌else◌, List, [], ◌∷◌, ◌++◌, Option, None, Some, arith}
use Rattle.std.specs.Prelude.{IfSome}
use Rattle.std.proofs.lemmas.Option.{none-some}
use Rattle.wrp_base.specs.declared.link.Deltas.{Deltas}
use Rattle.wrp_base.specs.declared.link.Role.{Role}
use Rattle.wrp_base.specs.declared.link.Role.TheVariants.{Master, Slave}
use Rattle.wrp_base.specs.declared.measurement.ChainNews.{ChainNews}
use Rattle.wrp_base.specs.declared.measurement.ChainNews.TheVariants.{Same, Started, Ended}
use Rattle.wrp_base.specs.declared.measurement.Four.{Four}
use Rattle.wrp_base.specs.declared.message.Body.{Body}
use Rattle.wrp_base.specs.declared.message.Body.TheVariants.{Sync, DelayReq, FollowUp, DelayResp, Announce, Signal}
use Rattle.wrp_base.specs.declared.message.Head.{Head}
use Rattle.wrp_base.specs.declared.message.PtpMsg.{PtpMsg}
use Rattle.wrp_base.specs.declared.time.Stamp.{Stamp}
use Rattle.wrp_base.proofs.Naturals.{le_of_same}
use Rattle.wrp_data.specs.declared.reason.Reason.{Reason}
use Rattle.wrp_exch.specs.Call.{Call as ExchangeCall, CallReqOut}
use Rattle.wrp_exch.specs.Exchange.{four_of}
use Rattle.wrp_exch.specs.Ticks.{NoneAfter, NotOlder, TicksRise, tick_of}
use Rattle.wrp_exch.proofs.Ticks.{four_of-rises}
use Rattle.wrp_node.specs.NodeAt.{NodeSetting, Taken, setting_of, servo_setting_of, slave_of}
use Rattle.wrp_node.specs.NodeRun.{node_after}
use Rattle.wrp_node.specs.Telling.{heard_of, number_of, with_news, with_sample}
use Rattle.wrp_port.specs.declared.interface.PortIn.{PortIn}
use Rattle.wrp_port.specs.declared.interface.PortIn.TheVariants.{Chain, Msg, Lease, Tick, Sample, Sent, Carrier, Reset}
use Rattle.wrp_port.specs.declared.line.Rest.{Rest}
use Rattle.wrp_port.specs.declared.setting.Setting.{Setting}
use Rattle.wrp_port.specs.Hearing.{early_reason, piece_of}
use Rattle.wrp_port.specs.History.{calls_of, rest_after}
use Rattle.wrp_port.specs.LineAfter.{requests_on, ticked}
use Rattle.wrp_port.specs.Outputs.{call_of, due_request, is_kept, measured_by, news_call, only_slave, pairs, piece_unless, sample_call, sent_call, with_call}
use Rattle.wrp_servo.specs.Call.{Call, CallSample, CallMeasured, CallTick, CallLease, CallLink, CallCarrier, CallReset, ServoSetting, run}
use Rattle.wrp_servo.specs.declared.interface.ServoOut.{ServoOut}
use Rattle.wrp_servo.specs.declared.machine.Measurement.{Measurement}
use Rattle.wrp_servo.specs.Servo.{answer_to}
use Rattle.wrp_tracking_laws.specs.ServoGives.{FoursRise}
use Rattle.wrp_bound_laws.proofs.Measurements.FourCalls.{kept_before, measured_before}
use Rattle.wrp_bound_laws.proofs.Nodes.FourSteps.{IsFree, IsOnlySlave, IsPlain, KeptByEach, answered, step_keeps_each}
use Rattle.wrp_bound_laws.proofs.Sources.HeldCalls.{IsNoMeasure}

-- The pieces that the exchange of a port was given

-- the measurement that is held was made when these were given, or fewer
pub record IsOf (ring : ℕ) (pieces : List ExchangeCall) (k : Measurement) : Type 0 where
  pub since : List ExchangeCall
  pub before : List ExchangeCall
  pub splits : pieces ≡ since ++ before
  pub four : four_of ring before ≡ Some k.four

-- they give no tick after this one, and none before one that was given; and the measurement that is held is of some of
-- them
pub record Rise (ring ticks : ℕ) (pieces : List ExchangeCall) (kept : Option Measurement) : Type 0 where
  pub last : NoneAfter ticks pieces
  pub rise : TicksRise pieces
  pub of : (k : Measurement) → kept ≡ Some k → IsOf ring pieces k

one_more : (ring : ℕ) (pieces : List ExchangeCall) (piece : ExchangeCall) (k : Measurement) → IsOf ring pieces k → IsOf ring (piece ∷ pieces) k
one_more ring pieces piece k h = record { since = piece ∷ h.since; before = h.before; splits = ap (λ (l : List ExchangeCall). piece ∷ l) h.splits; four = h.four }

-- a piece that gives no other tick than this
abbrev TellsOnly : ℕ → ExchangeCall → Type 0
TellsOnly ticks piece = IfSome (tick_of piece) (λ t. t ≡ ticks)

told_within : (o : Option ℕ) (ticks : ℕ) → IfSome o (λ t. t ≡ ticks) → IfSome o (λ t. t ≤ ticks)
told_within None ticks h = tt
told_within (Some t) ticks h = le_of_same t ticks h

none_later : (o : Option ℕ) (ticks : ℕ) (pieces : List ExchangeCall) → IfSome o (λ t. t ≡ ticks) → NoneAfter ticks pieces → IfSome o (λ t. NoneAfter t pieces)
none_later None ticks pieces h k = tt
none_later (Some t) ticks pieces h k = subst (λ (z : ℕ). NoneAfter z pieces) (sym h) k

piece_rises : (ring ticks : ℕ) (pieces : List ExchangeCall) (kept : Option Measurement) (o : Option ExchangeCall) → IfSome o (TellsOnly ticks) → Rise ring ticks pieces kept → Rise ring ticks (with_call o pieces) kept
piece_rises ring ticks pieces kept None h r = r
piece_rises ring ticks pieces kept (Some piece) h r = record {
  last = (told_within (tick_of piece) ticks h, r.last);
  rise = (none_later (tick_of piece) ticks pieces h r.last, r.rise);
  of = λ k is. one_more ring pieces piece k (r.of k is);
}

later_tick : (o : Option ℕ) (ticks : ℕ) → IfSome o (λ t. t ≤ ticks) → IfSome o (λ t. t ≤ ticks + 1)
later_tick None ticks h = tt
later_tick (Some t) ticks h = omega (arith, h)

later_last : (ticks : ℕ) (pieces : List ExchangeCall) → NoneAfter ticks pieces → NoneAfter (ticks + 1) pieces
later_last ticks [] h = tt
later_last ticks (piece ∷ pieces) h = (later_tick (tick_of piece) ticks h.0, later_last ticks pieces h.1)

tick_rises : (ring ticks : ℕ) (pieces : List ExchangeCall) (kept : Option Measurement) → Rise ring ticks pieces kept → Rise ring (ticks + 1) pieces kept
tick_rises ring ticks pieces kept r = record { last = later_last ticks pieces r.last; rise = r.rise; of = r.of }

-- a servo that keeps no other measurement
fewer_rise : (ring ticks : ℕ) (pieces : List ExchangeCall) (old new : Option Measurement) → ((k : Measurement) → new ≡ Some k → old ≡ Some k) → Rise ring ticks pieces old → Rise ring ticks pieces new
fewer_rise ring ticks pieces old new f r = record { last = r.last; rise = r.rise; of = λ k is. r.of k (f k is) }

-- What a port is given

message_tells : (role : Role) (head : Head) (body : Body) (stamp : Stamp) (ticks : ℕ) → IfSome (piece_of role head body stamp ticks) (TellsOnly ticks)
message_tells Slave head (Sync origin) stamp ticks = refl
message_tells Slave head (DelayReq origin) stamp ticks = tt
message_tells Slave head (FollowUp precise) stamp ticks = tt
message_tells Slave head (DelayResp receive requesting) stamp ticks = tt
message_tells Slave head (Announce origin utc p1 quality p2 gm steps source suffix) stamp ticks = tt
message_tells Slave head (Signal target message) stamp ticks = tt
message_tells Master head body stamp ticks = tt

unless_tells : (reason : Option Reason) (ticks : ℕ) (o : Option ExchangeCall) → IfSome o (TellsOnly ticks) → IfSome (piece_unless reason o) (TellsOnly ticks)
unless_tells None ticks o h = h
unless_tells (Some reason) ticks o h = tt

due_tells : (role : Role) (b : Bool) (seq ticks : ℕ) → IfSome (only_slave role (if b then Some (CallReqOut seq) else None)) (TellsOnly ticks)
due_tells Master b seq ticks = tt
due_tells Slave true seq ticks = tt
due_tells Slave false seq ticks = tt

sent_tells : (role : Role) (seq : ℕ) (stamp : Stamp) (ticks : ℕ) → IfSome (sent_call role seq stamp ticks) (TellsOnly ticks)
sent_tells Master seq stamp ticks = tt
sent_tells Slave seq stamp ticks = refl

-- the pieces after it
abbrev PiecesAfter : Setting → ℕ → List PortIn → PortIn → Type 0
PiecesAfter set ticks told input = (o : Option ExchangeCall) × (calls_of set (input ∷ told) ≡ with_call o (calls_of set told)) × IfSome o (TellsOnly ticks)

plain_pieces : (set : Setting) (ticks : ℕ) (told : List PortIn) (input : PortIn) → IsPlain ticks input → PiecesAfter set ticks told input
plain_pieces set ticks told (Msg message stamp tick) h =
    let o : Option ExchangeCall = call_of set (rest_after set told) (Msg message stamp tick) in
    (o, refl, subst (λ (t : ℕ). IfSome o (TellsOnly t)) h (unless_tells (early_reason set (rest_after set told).link message) tick (piece_of set.ds.role message.head message.body stamp tick) (message_tells set.ds.role message.head message.body stamp tick)))
plain_pieces set ticks told Lease h = (None, refl, tt)
plain_pieces set ticks told (Tick locked certain) h =
    let line : Rest = ticked set (rest_after set told) locked in
    (due_request set.ds.role line, refl, due_tells set.ds.role (requests_on line) line.ids.request ticks)
plain_pieces set ticks told (Sent true seq stamp tick) h = (sent_call set.ds.role seq stamp tick, refl, subst (λ (t : ℕ). IfSome (sent_call set.ds.role seq stamp tick) (TellsOnly t)) h (sent_tells set.ds.role seq stamp tick))
plain_pieces set ticks told (Sent false seq stamp tick) h = (None, refl, tt)
plain_pieces set ticks told (Carrier up own_module) h = (None, refl, tt)
plain_pieces set ticks told (Sample number phase) h = absurd h
plain_pieces set ticks told (Chain news) h = absurd h
plain_pieces set ticks told Reset h = absurd h

pieces_rise : (set : Setting) (ticks : ℕ) (told : List PortIn) (input : PortIn) (kept : Option Measurement) → PiecesAfter set ticks told input → Rise set.ring ticks (calls_of set told) kept → Rise set.ring ticks (calls_of set (input ∷ told)) kept
pieces_rise set ticks told input kept after r =
    subst (λ (l : List ExchangeCall). Rise set.ring ticks l kept) (sym after.1) (piece_rises set.ring ticks (calls_of set told) kept after.0 after.2 r)

-- What the servo answers

sample_tells : (role : Role) (number : ℕ) (phase : ℤ) (ticks : ℕ) → IfSome (sample_call role number phase) (TellsOnly ticks)
sample_tells Master number phase ticks = tt
sample_tells Slave number phase ticks = tt

news_tells : (role : Role) (news : ChainNews) (ticks : ℕ) → IfSome (news_call role news) (TellsOnly ticks)
news_tells Master news ticks = tt
news_tells Slave Same ticks = tt
news_tells Slave (Started first) ticks = tt
news_tells Slave Ended ticks = tt

news_rises : (set : Setting) (ticks : ℕ) (told : List PortIn) (news : ChainNews) (kept : Option Measurement) → Rise set.ring ticks (calls_of set told) kept → Rise set.ring ticks (calls_of set (with_news news told)) kept
news_rises set ticks told Same kept r = r
news_rises set ticks told (Started first) kept r = pieces_rise set ticks told (Chain (Started first)) kept (news_call set.ds.role (Started first), refl, news_tells set.ds.role (Started first) ticks) r
news_rises set ticks told Ended kept r = pieces_rise set ticks told (Chain Ended) kept (news_call set.ds.role Ended, refl, news_tells set.ds.role Ended ticks) r

sample_rises : (set : Setting) (ticks : ℕ) (told : List PortIn) (o : Option ℤ) (number : ℕ) (kept : Option Measurement) → Rise set.ring ticks (calls_of set told) kept → Rise set.ring ticks (calls_of set (with_sample o number told)) kept
sample_rises set ticks told None number kept r = r
sample_rises set ticks told (Some phase) number kept r = pieces_rise set ticks told (Sample number phase) kept (sample_call set.ds.role number phase, refl, sample_tells set.ds.role number phase ticks) r

heard_rises : (set : Setting) (ticks : ℕ) (told : List PortIn) (out : ServoOut) (number : ℕ) (kept : Option Measurement) → Rise set.ring ticks (calls_of set told) kept → Rise set.ring ticks (calls_of set (heard_of out number told)) kept
heard_rises set ticks told out number kept r = sample_rises set ticks (with_news out.chain told) out.unwrapped number kept (news_rises set ticks told out.chain kept r)

answered_rises : (fixed : NodeSetting) (p ticks : ℕ) (told : List PortIn) (calls : List Call) (c : Call) (kept : Option Measurement) → Rise fixed.set.ring ticks (calls_of (setting_of fixed.set p) told) kept →
    Rise fixed.set.ring ticks (calls_of (setting_of fixed.set p) (answered fixed told calls c)) kept
answered_rises fixed p ticks told calls c kept r =
    heard_rises (setting_of fixed.set p) ticks told (answer_to (servo_setting_of fixed) (run (servo_setting_of fixed) calls) c) (number_of (Some c)) kept r

-- A measurement

four_told : (b : Bool) (ring : ℕ) (calls : List ExchangeCall) (o : Option ExchangeCall) (four : Four) → (if b then four_of ring (with_call o calls) else None) ≡ Some four → four_of ring (with_call o calls) ≡ Some four
four_told true ring calls o four e = e
four_told false ring calls o four e = absurd (none-some four e)

-- it is of all pieces that its message leaves
pub four_measured : (set : Setting) (told : List PortIn) (message : PtpMsg) (stamp : Stamp) (tick : ℕ) (four : Four) → measured_by set (rest_after set told) (calls_of set told) (Msg message stamp tick) ≡ Some four →
    four_of set.ring (calls_of set (Msg message stamp tick ∷ told)) ≡ Some four
four_measured set told message stamp tick four e =
    let o : Option ExchangeCall = call_of set (rest_after set told) (Msg message stamp tick) in
    four_told (pairs o && is_kept set.ring (calls_of set told) o) set.ring (calls_of set told) o four e

-- and so not older than the one that is held
young_by : (o p : Option Four) (a b : Four) → o ≡ Some a → p ≡ Some b → NotOlder o p → a.tick ≤ b.tick
young_by o p a b e f h = subst (λ (z : Option Four). IfSome z (λ g. a.tick ≤ g.tick)) f (subst (λ (z : Option Four). IfSome z (λ g. IfSome p (λ h. g.tick ≤ h.tick))) e h)

not_older : (ring : ℕ) (pieces : List ExchangeCall) (k : Measurement) (four : Four) → TicksRise pieces → IsOf ring pieces k → four_of ring pieces ≡ Some four → k.four.tick ≤ four.tick
not_older ring pieces k four rise h is =
    young_by (four_of ring h.before) (four_of ring pieces) k.four four h.four is
    (subst (λ (l : List ExchangeCall). NotOlder (four_of ring h.before) (four_of ring l)) (sym h.splits)
    (four_of-rises ring h.since h.before (subst TicksRise h.splits rise)))

each_young : (o : Option Measurement) (tick : ℕ) → ((k : Measurement) → o ≡ Some k → k.four.tick ≤ tick) → IfSome o (λ k. k.four.tick ≤ tick)
each_young None tick h = tt
each_young (Some k) tick h = h k refl

new_rises : (x : ServoSetting) (calls : List Call) (ring ticks : ℕ) (pieces : List ExchangeCall) (four : Four) (y : ℤ) → four_of ring pieces ≡ Some four → Rise ring ticks pieces (run x calls).kept →
    Rise ring ticks pieces (run x (CallMeasured four y ∷ calls)).kept
new_rises x calls ring ticks pieces four y is r = record {
  last = r.last;
  rise = r.rise;
  of =
      λ k e. elim (measured_before x calls four y k e) [
        | inl old ↦ r.of k old
        | inr new ↦ record { since = []; before = pieces; splits = refl; four = is ∙ ap (λ (m : Measurement). Some m.four) (sym new.is) }
      ];
}

-- A node

pub record NodeRises (fixed : NodeSetting) (p ticks : ℕ) (told : List PortIn) (calls : List Call) : Type 0 where
  pub pieces : Rise fixed.set.ring ticks (calls_of (setting_of fixed.set p) told) (run (servo_setting_of fixed) calls).kept
  pub fours : FoursRise (servo_setting_of fixed) calls

free_rises : (x : ServoSetting) (calls : List Call) (c : Call) → IsFree c → FoursRise x calls → FoursRise x (c ∷ calls)
free_rises x calls (CallSample n base bits) free h = h
free_rises x calls (CallMeasured f y) free h = absurd free
free_rises x calls CallTick free h = h
free_rises x calls (CallLease fresh) free h = h
free_rises x calls (CallLink on) free h = absurd free
free_rises x calls (CallCarrier up) free h = h
free_rises x calls CallReset free h = absurd free

pub free_measures_none : (c : Call) → IsFree c → IsNoMeasure c
free_measures_none (CallSample n base bits) free = tt
free_measures_none (CallMeasured f y) free = free
free_measures_none CallTick free = tt
free_measures_none (CallLease fresh) free = tt
free_measures_none (CallLink on) free = tt
free_measures_none (CallCarrier up) free = tt
free_measures_none CallReset free = tt

each_rises : (fixed : NodeSetting) (p : ℕ) → KeptByEach fixed p (NodeRises fixed p)
each_rises fixed p =
    let set : Setting = setting_of fixed.set p in
    let x : ServoSetting = servo_setting_of fixed in
    record {
      port = λ ticks told calls input plain h. record { pieces = pieces_rise set ticks told input (run x calls).kept (plain_pieces set ticks told input plain) h.pieces; fours = h.fours };
      count = λ ticks told calls h. record { pieces = tick_rises fixed.set.ring ticks (calls_of set told) (run x calls).kept h.pieces; fours = h.fours };
      call = λ ticks told calls c free h. record {
        pieces =
            answered_rises fixed p ticks told calls c (run x (c ∷ calls)).kept
            (fewer_rise fixed.set.ring ticks (calls_of set told) (run x calls).kept (run x (c ∷ calls)).kept (λ k is. kept_before x calls c k (free_measures_none c free) is) h.pieces);
        fours = free_rises x calls c free h.fours;
      };
      measured = λ ticks told calls message stamp four answer is h.
          let after : Rise fixed.set.ring ticks (calls_of set (Msg message stamp ticks ∷ told)) (run x calls).kept =
          pieces_rise set ticks told (Msg message stamp ticks) (run x calls).kept (plain_pieces set ticks told (Msg message stamp ticks) refl) h.pieces in
          let of_all : four_of fixed.set.ring (calls_of set (Msg message stamp ticks ∷ told)) ≡ Some four = four_measured set told message stamp ticks four is in
          record {
            pieces =
                answered_rises fixed p ticks (Msg message stamp ticks ∷ told) calls (CallMeasured four answer) (run x (CallMeasured four answer ∷ calls)).kept
                (new_rises x calls fixed.set.ring ticks (calls_of set (Msg message stamp ticks ∷ told)) four answer of_all after);
            fours = (
              each_young (run x calls).kept four.tick (λ k e. not_older fixed.set.ring (calls_of set (Msg message stamp ticks ∷ told)) k four after.rise (after.of k e) of_all),
              h.fours,
            );
          };
      reset = λ ticks told calls h. record { pieces = record { last = tt; rise = tt; of = λ k e. absurd (none-some k e) }; fours = h.fours };
    }

link_rises : (fixed : NodeSetting) (p ticks : ℕ) (told : List PortIn) (calls : List Call) (on : Option Deltas) → NodeRises fixed p ticks told calls → NodeRises fixed p ticks (answered fixed told calls (CallLink on)) (CallLink on ∷ calls)
link_rises fixed p ticks told calls on h =
    let set : Setting = setting_of fixed.set p in
    let x : ServoSetting = servo_setting_of fixed in
    record {
      pieces =
          answered_rises fixed p ticks told calls (CallLink on) (run x (CallLink on ∷ calls)).kept
          (fewer_rise fixed.set.ring ticks (calls_of set told) (run x calls).kept (run x (CallLink on ∷ calls)).kept (λ k is. kept_before x calls (CallLink on) k tt is) h.pieces);
      fours = h.fours;
    }

new_node_rises : (fixed : NodeSetting) (p : ℕ) → NodeRises fixed p 0 [] []
new_node_rises fixed p = record { pieces = record { last = tt; rise = tt; of = λ k e. absurd (none-some k e) }; fours = tt }

node_rises : (fixed : NodeSetting) (p : ℕ) → slave_of fixed.set ≡ Some p → IsOnlySlave fixed p → (inputs : List Taken) →
    NodeRises fixed p (node_after fixed inputs).ticks ((node_after fixed inputs).told p) (node_after fixed inputs).calls
node_rises fixed p slave only [] = new_node_rises fixed p
node_rises fixed p slave only (t ∷ before) =
    step_keeps_each (NodeRises fixed p) fixed p (each_rises fixed p) (λ ticks told calls on changed h. link_rises fixed p ticks told calls on h) slave only t (node_after fixed before)
    (node_rises fixed p slave only before)

pub fours_rise : (fixed : NodeSetting) (p : ℕ) → slave_of fixed.set ≡ Some p → IsOnlySlave fixed p → (inputs : List Taken) → FoursRise (servo_setting_of fixed) (node_after fixed inputs).calls
fours_rise fixed p slave only inputs = (node_rises fixed p slave only inputs).fours
