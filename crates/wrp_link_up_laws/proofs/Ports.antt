-- What is kept of one port since the carriers came, and what an input does to it.
use Rattle.std.proofs.Common.{◌≡◌, ◌≢◌, ◌⊎◌, inl, inr, refl, sym, ap, ap₂, ◌∙◌, subst, subst₂, min, max, ℤ, ℕ, ◌+◌, ◌-◌, ◌*◌, ◌<◌, ◌≤◌, pos, Bool, true, false, is_some, List, [], Option, None, Some, arith, ◌+ℤ◌, ◌<ℤ◌, ◌≤ℤ◌}
use Rattle.std.proofs.lemmas.Int.{ints}
use Rattle.wrp_base.specs.declared.link.LinkState.{LinkState}
use Rattle.wrp_base.specs.declared.link.LinkState.TheVariants.{Idle, Present, SLock, MLock, Locked, Calibration, Calibrated, RespCalib, LinkOn}
use Rattle.wrp_base.specs.declared.link.Role.{Role}
use Rattle.wrp_base.specs.declared.link.Role.TheVariants.{Master, Slave}
use Rattle.wrp_base.specs.declared.message.WrMsg.{WrMsg}
use Rattle.wrp_base.specs.declared.message.WrMsg.TheVariants.{Present as SLAVE_PRESENT, Lock as LOCK, Locked as LOCKED, Calibrate as CALIBRATE, Calibrated as CALIBRATED, ModeOn as WR_MODE_ON}
use Rattle.wrp_link.specs.declared.interface.LinkIn.{LinkIn}
use Rattle.wrp_link.specs.declared.interface.LinkIn.TheVariants.{Msg, Announce, Tick, CarrierDown, CarrierUp}
use Rattle.wrp_link.specs.declared.interface.LinkSet.{LinkSet}
use Rattle.wrp_link.specs.LinkAt.{LinkAt, Waiting, wait_of, armed, entering}
use Rattle.wrp_link.specs.Rows.{Row, NoRow, Stays, Moves, Keeps, Resends, Fails, Waits, Counts, CarrierComes, CarrierGoes, resent}
use Rattle.wrp_link.specs.Table.{ticked, retried, counted, by_row, sent_by, is_same}
use Rattle.wrp_link.proofs.Fits.{Belongs}
use Rattle.wrp_handshake_laws.specs.Ends.{Sending, IsAmong, stamped, ticked_by}
use Rattle.wrp_handshake_laws.proofs.Failing.{FailsBy}
use Rattle.wrp_handshake_laws.proofs.Inputs.{tick_past}
use Rattle.wrp_handshake_laws.proofs.Parts.{stamped_in}
use Rattle.wrp_handshake_laws.proofs.RowFits.{RowFits}
use Rattle.wrp_handshake_laws.proofs.Stages.{Sends, SendsAll, FitsMove}
use Rattle.wrp_handshake_laws.proofs.Times.{Calm, calm_tick, calm_over}
use Rattle.wrp_link_up_laws.specs.Pace.{Pace, patience, LeavesCarrier, rest_of}
use Rattle.wrp_link_up_laws.proofs.Sums.{less_one, a_wait_less, last_late, fresh_late, one_left, tick_less, quiet_less, OnFor, on_tick, below, clash, le_self}
use Rattle.wrp_link_up_laws.proofs.Tells.{MovesBy, NoTick, IsTick, StaysBy, RowTells}

pub idle_or_out : (s : LinkState) → (s ≡ Idle) ⊎ (s ≢ Idle)
idle_or_out Idle = inl refl
idle_or_out _ = inr (λ e. cc)

not_idle_of : (s : LinkState) → is_same s Idle ≡ false → s ≢ Idle
not_idle_of Idle e = cc
not_idle_of _ e = λ f. cc

-- what the laws are about, in one form for both: each end has its counts, and a giver of the delays may let
-- its taker wait for more than a message
pub record Given : Type 0 where
  pub life : ℕ
  pub dmin : ℕ
  pub pace : Pace
  pub set : Role → LinkSet
  -- whether no CALIBRATED overtakes a CALIBRATE
  pub in_turn : Bool
  -- how long the taker waits for more than a message, by the role of the giver, and for either
  pub slow : Role → ℕ
  pub slowest : ℕ
  -- the ticks of rest that each end has at first, and the longer of both
  pub rest : Role → ℕ
  pub quiet : ℕ

-- a CALIBRATED that overtook a CALIBRATE is sent again
abbrev pub SentAgain : Given → Role → Type 0
SentAgain g role = ((g.set role).wait * g.pace.dmax ≡ g.slow role) × (g.pace.delay + g.dmin < (g.set role).wait * g.dmin)

-- what is required of the end of a role
pub record Holds (g : Given) (role : Role) : Type 0 where
  pub wr : (g.set role).wr ≡ true
  pub outlives : 2 * g.life < ((g.set role).quiet - 1) * g.dmin
  pub rests : 2 * g.life < (g.rest role - 1) * g.dmin
  pub longer : g.rest role ≤ g.quiet
  pub slower : g.slow role ≤ g.slowest
  pub mode : SentAgain g role ⊎ (g.in_turn ≡ true)
  pub waits_last : g.slowest + g.pace.dmax + 2 * g.pace.delay + g.dmin < patience (g.set role).wait (g.set role).retries * g.dmin
  pub locks_last : g.pace.lock + 2 * g.pace.delay + g.dmin < patience (g.set role).lock_wait (g.set role).retries * g.dmin
  pub wait : 1 ≤ (g.set role).wait
  pub lock_wait : 1 ≤ (g.set role).lock_wait

-- what is required of both ends
abbrev pub BothHold : Given → Type 0
BothHold g = (role : Role) → Holds g role

-- how far a port came, and how far it must have come to send a message
abbrev pub reached : Role → LinkState → ℕ
reached Slave Idle = 0
reached Slave Present = 1
reached Slave SLock = 2
reached Slave Locked = 3
reached Slave RespCalib = 4
reached Slave Calibration = 5
reached Slave Calibrated = 6
reached Slave LinkOn = 7
reached Master Idle = 0
reached Master MLock = 1
reached Master Calibration = 2
reached Master Calibrated = 3
reached Master RespCalib = 4
reached Master LinkOn = 5
reached _ _ = 0

abbrev pub told_from : Role → WrMsg → ℕ
told_from Slave SLAVE_PRESENT = 1
told_from Slave LOCKED = 3
told_from Slave (CALIBRATE _ _ _) = 5
told_from Slave (CALIBRATED _ _) = 6
told_from Master LOCK = 1
told_from Master (CALIBRATE _ _ _) = 2
told_from Master (CALIBRATED _ _) = 3
told_from Master WR_MODE_ON = 5
told_from _ _ = 9

sends_reached : (role : Role) (s : LinkState) (m : WrMsg) → Sends role s m → told_from role m ≤ reached role s
sends_reached Slave Present SLAVE_PRESENT h = omega arith
sends_reached Slave Locked LOCKED h = omega arith
sends_reached Slave Calibration (CALIBRATE _ _ _) h = omega arith
sends_reached Slave Calibrated (CALIBRATE _ _ _) h = omega arith
sends_reached Slave Calibrated (CALIBRATED _ _) h = omega arith
sends_reached Master MLock LOCK h = omega arith
sends_reached Master Calibration (CALIBRATE _ _ _) h = omega arith
sends_reached Master Calibrated (CALIBRATE _ _ _) h = omega arith
sends_reached Master Calibrated (CALIBRATED _ _) h = omega arith
sends_reached Master LinkOn WR_MODE_ON h = omega arith
sends_reached _ _ _ h = absurd h

-- each move reaches one state more
pub moves_reach : (l : LinkAt) (role : Role) (from : LinkState) (input : LinkIn) (next : LinkState) (ms : List WrMsg) →
    MovesBy l role from input next ms → reached role from + 1 ≡ reached role next
moves_reach l Slave Idle input next ms h = ap (λ s. reached Slave s) (sym h.1.0)
moves_reach l Slave Present input next ms h = ap (λ s. reached Slave s) (sym h.1.0)
moves_reach l Slave SLock input next ms h = ap (λ s. reached Slave s) (sym h.1.0)
moves_reach l Slave Locked input next ms h = ap (λ s. reached Slave s) (sym h.1.0)
moves_reach l Slave RespCalib input next ms h = ap (λ s. reached Slave s) (sym h.1.0)
moves_reach l Slave Calibration input next ms h = ap (λ s. reached Slave s) (sym h.1.0)
moves_reach l Slave Calibrated input next ms h = ap (λ s. reached Slave s) (sym h.1.0)
moves_reach l Master Idle input next ms h = ap (λ s. reached Master s) (sym h.1.0)
moves_reach l Master MLock input next ms h = ap (λ s. reached Master s) (sym h.1.0)
moves_reach l Master Calibration input next ms h = ap (λ s. reached Master s) (sym h.1.0)
moves_reach l Master Calibrated input next ms h = ap (λ s. reached Master s) (sym h.1.0)
moves_reach l Master RespCalib input next ms h = ap (λ s. reached Master s) (sym h.1.0)
moves_reach l _ _ input next ms h = absurd h

-- rest, from quiet time and holdoff

pub none_left : (l : LinkAt) → l.quiet ≡ 0 → l.holdoff ≡ 0 → rest_of l ≡ 0
none_left l q h = omega (arith, q, h)

pub no_quiet : (l : LinkAt) → rest_of l ≡ 0 → l.quiet ≡ 0
no_quiet l r = omega (arith, r)

pub no_holdoff : (l : LinkAt) → rest_of l ≡ 0 → l.holdoff ≡ 0
no_holdoff l r = omega (arith, r)

rest_less : (q h : ℕ) → max (q - 1) (h - 1) ≡ max q h - 1
rest_less q h = omega arith

-- a port that moves on from IDLE has rested
moves_idle : (l : LinkAt) (role : Role) (from : LinkState) (input : LinkIn) (next : LinkState) (ms : List WrMsg) →
    from ≡ Idle → MovesBy l role from input next ms → (role ≡ Master → l.holdoff ≡ 0) → rest_of l ≡ 0
moves_idle l Slave Idle input next ms e h free = none_left l h.1.1.1.0 h.1.1.1.1
moves_idle l Master Idle input next ms e h free = none_left l h.1.1.1 (free refl)
moves_idle l Slave Present input next ms e h free = cc
moves_idle l Slave SLock input next ms e h free = cc
moves_idle l Slave Locked input next ms e h free = cc
moves_idle l Slave RespCalib input next ms e h free = cc
moves_idle l Slave Calibration input next ms e h free = cc
moves_idle l Slave Calibrated input next ms e h free = cc
moves_idle l Master MLock input next ms e h free = cc
moves_idle l Master Calibration input next ms e h free = cc
moves_idle l Master Calibrated input next ms e h free = cc
moves_idle l Master RespCalib input next ms e h free = cc
moves_idle l _ _ input next ms e h free = absurd h

pub some_is : {a b : ℕ} → Some a ≡ Some b → a ≡ b
some_is e = cc

wait_some : (g : Given) (role : Role) (s : LinkState) (n : ℕ) → Holds g role → wait_of (g.set role) s ≡ Some n → 1 ≤ n
wait_some g role Idle n h e = cc
wait_some g role Calibration n h e = cc
wait_some g role LinkOn n h e = cc
wait_some g role Present n h e = subst (λ (k : ℕ). 1 ≤ k) (some_is e) h.wait
wait_some g role Locked n h e = subst (λ (k : ℕ). 1 ≤ k) (some_is e) h.wait
wait_some g role Calibrated n h e = subst (λ (k : ℕ). 1 ≤ k) (some_is e) h.wait
wait_some g role RespCalib n h e = subst (λ (k : ℕ). 1 ≤ k) (some_is e) h.wait
wait_some g role SLock n h e = subst (λ (k : ℕ). 1 ≤ k) (some_is e) h.lock_wait
wait_some g role MLock n h e = subst (λ (k : ℕ). 1 ≤ k) (some_is e) h.lock_wait

-- a timer that was armed at a time
pub record Runs (g : Given) (role : Role) (n : ℕ) (waiting : Option Waiting) (e tick : ℤ) : Type 0 where
  pub w : Waiting
  pub is : waiting ≡ Some w
  pub some : 1 ≤ w.ticks
  pub few : w.retries ≤ (g.set role).retries
  pub calm : Calm g.dmin (patience n (g.set role).retries) (w.ticks + n * w.retries) tick e
  pub late : w.retries ≡ (g.set role).retries → (tick +ℤ pos (w.ticks * g.pace.dmax)) ≤ℤ (e +ℤ pos (n * g.pace.dmax))

-- a timer that did not end yet
pub record IsFresh (g : Given) (role : Role) (l : LinkAt) : Type 0 where
  pub w : Waiting
  pub is : l.waiting ≡ Some w
  pub all : w.retries ≡ (g.set role).retries

-- what is kept of a port since the carriers came at lit; it entered its state at e
pub record PortUp (g : Given) (time lit : ℤ) (role : Role) (l : LinkAt) (tick : ℤ) (sent : List Sending) (e : ℤ) : Type 0 where
  pub has_carrier : l.carrier ≡ true
  pub listed : is_some l.own_module ≡ true
  pub same_set : l.set ≡ (g.set role)
  pub same_role : l.role ≡ role
  pub belongs : Belongs role l.state
  pub free : role ≡ Master → l.holdoff ≡ 0
  pub past : e ≤ℤ time
  pub ticked : tick ≤ℤ time
  pub lit_past : lit ≤ℤ time
  pub calm : l.state ≡ Idle → Calm g.dmin (g.rest role) (rest_of l) tick lit
  pub soon : l.state ≡ Idle → (rest_of l ≡ 0) ⊎ ((tick +ℤ pos (rest_of l * g.pace.dmax)) ≤ℤ (lit +ℤ pos (g.rest role * g.pace.dmax)))
  pub awake : l.state ≢ Idle → (lit +ℤ pos (2 * g.life)) <ℤ e
  pub timer : (n : ℕ) → wait_of (g.set role) l.state ≡ Some n → Runs g role n l.waiting e tick
  pub at_once : l.state ≡ Calibration → tick ≤ℤ e
  pub on : l.state ≡ LinkOn → OnFor g.dmin l.on_ticks e tick
  pub sents : (f : Sending) → IsAmong f sent → (f.1 ≤ℤ time) × ((f.1 ≤ℤ lit) ⊎ (told_from role f.0 ≤ reached role l.state))

-- a timer ended for the first time now, and its messages are sent again
pub record Ended (g : Given) (time : ℤ) (l : LinkAt) (e : ℤ) (n : ℕ) (ms : List WrMsg) : Type 0 where
  pub again : ms ≡ resent l l.state
  pub late : time ≤ℤ (e +ℤ pos (n * g.pace.dmax))
  pub early : (e +ℤ pos (n * g.dmin)) ≤ℤ (time +ℤ pos g.dmin)

-- what an input does to a port
pub data Outcome (g : Given) (time lit : ℤ) (role : Role) (l : LinkAt) (e : ℤ) (input : LinkIn) (next : LinkAt) (tick : ℤ) (sent : List Sending) (ms : List WrMsg) : Type 0 where
  -- it stays
  stays :
      PortUp g time lit role next tick sent e → next.state ≡ l.state → StaysBy l role l.state input → (rest_of l ≡ 0 → rest_of next ≡ 0) → SendsAll role l.state ms →
      ((n : ℕ) → wait_of (g.set role) l.state ≡ Some n → IsFresh g role l → IsFresh g role next ⊎ Ended g time l e n ms) →
      Outcome g time lit role l e input next tick sent ms
  -- it moves on
  moves :
      (to : LinkState) → PortUp g time lit role next tick sent time → next.state ≡ to → MovesBy l role l.state input to ms →
      ((n : ℕ) → wait_of (g.set role) to ≡ Some n → IsFresh g role next) → Outcome g time lit role l e input next tick sent ms

pub not_timed_idle : (set : LinkSet) (s : LinkState) (n : ℕ) → wait_of set s ≡ Some n → (s ≢ Idle) × ((s ≢ Calibration) × (s ≢ LinkOn))
not_timed_idle set Idle n e = cc
not_timed_idle set Calibration n e = cc
not_timed_idle set LinkOn n e = cc
not_timed_idle set _ n e = (λ f. cc, (λ f. cc, λ f. cc))

no_tick : (input : LinkIn) (time tick : ℤ) → NoTick input → tick ≡ ticked_by input time tick
no_tick (Tick locked) time tick h = absurd h
no_tick _ time tick h = refl

a_tick : (input : LinkIn) (time tick : ℤ) → IsTick input → time ≡ ticked_by input time tick
a_tick (Tick locked) time tick h = refl
a_tick (Msg m) time tick h = absurd h
a_tick (Announce suffix) time tick h = absurd h
a_tick CarrierDown time tick h = absurd h
a_tick (CarrierUp fitted) time tick h = absurd h

-- what a port ever sent, with the messages of a state
sents_more :
    (time lit : ℤ) (role : Role) (from to : LinkState) (ms : List WrMsg) (sent : List Sending) (f : Sending) →
    SendsAll role to ms → reached role from ≤ reached role to →
    ((i : Sending) → IsAmong i sent → (i.1 ≤ℤ time) × ((i.1 ≤ℤ lit) ⊎ (told_from role i.0 ≤ reached role from))) →
    IsAmong f (stamped time ms sent) → (f.1 ≤ℤ time) × ((f.1 ≤ℤ lit) ⊎ (told_from role f.0 ≤ reached role to))
sents_more time lit role from to ms sent f all le old i =
    elim (stamped_in time role to ms sent f all i) [
      | inl now ↦ (subst (λ (t : ℤ). t ≤ℤ time) (sym now.1) (le_self time), inr (sends_reached role to f.0 now.0))
      | inr before ↦
          let o : (f.1 ≤ℤ time) × ((f.1 ≤ℤ lit) ⊎ (told_from role f.0 ≤ reached role from)) = old f before in
          (o.0, elim o.1 [ inl x ↦ inl x | inr k ↦ inr (omega arith) ])
    ]

-- the same port with more sent
with_sent :
    (g : Given) (time lit : ℤ) (role : Role) (l : LinkAt) (tick : ℤ) (sent : List Sending) (e : ℤ) (ms : List WrMsg) →
    PortUp g time lit role l tick sent e → SendsAll role l.state ms → PortUp g time lit role l tick (stamped time ms sent) e
with_sent g time lit role l tick sent e ms u all =
    record {
      has_carrier = u.has_carrier;
      listed = u.listed;
      same_set = u.same_set;
      same_role = u.same_role;
      belongs = u.belongs;
      free = u.free;
      past = u.past;
      ticked = u.ticked;
      lit_past = u.lit_past;
      calm = u.calm;
      soon = u.soon;
      awake = u.awake;
      timer = u.timer;
      at_once = u.at_once;
      on = u.on;
      sents = λ f i. sents_more time lit role l.state l.state ms sent f all (omega arith) u.sents i;
    }

-- the same port in a state with a timer, at a tick, with its timer run on
with_timer :
    (g : Given) (time lit : ℤ) (role : Role) (l : LinkAt) (tick : ℤ) (sent : List Sending) (e : ℤ) (n : ℕ) (waiting : Option Waiting) →
    PortUp g time lit role l tick sent e → wait_of (g.set role) l.state ≡ Some n → Runs g role n waiting e time →
    PortUp g time lit role (record l { waiting = waiting }) time sent e
with_timer g time lit role l tick sent e n waiting u is runs =
    let out : (l.state ≢ Idle) × ((l.state ≢ Calibration) × (l.state ≢ LinkOn)) = not_timed_idle (g.set role) l.state n is in
    record {
      has_carrier = u.has_carrier;
      listed = u.listed;
      same_set = u.same_set;
      same_role = u.same_role;
      belongs = u.belongs;
      free = u.free;
      past = u.past;
      ticked = le_self time;
      lit_past = u.lit_past;
      calm = λ i. absurd (out.0 i);
      soon = λ i. absurd (out.0 i);
      awake = u.awake;
      timer = λ m here. subst (λ (k : ℕ). Runs g role k waiting e time) (some_is (sym is ∙ here)) runs;
      at_once = λ c. absurd (out.1.0 c);
      on = λ o. absurd (out.1.1 o);
      sents = u.sents;
    }

-- the timer runs on
runs_on :
    (g : Given) (role : Role) (n : ℕ) (waiting : Option Waiting) (e tick time : ℤ) (r : Runs g role n waiting e tick) →
    r.w.ticks ≢ 1 → (tick +ℤ pos g.dmin) ≤ℤ time → e ≤ℤ time → time ≤ℤ (tick +ℤ pos g.pace.dmax) → Runs g role n (ticked waiting) e time
runs_on g role n waiting e tick time r more early past due =
    let two : 1 ≤ r.w.ticks - 1 = omega (arith, r.some, more) in
    record {
      w = record r.w { ticks = r.w.ticks - 1 };
      is = ap ticked r.is;
      some = two;
      few = r.few;
      calm =
          subst (λ (k : ℕ). Calm g.dmin (patience n (g.set role).retries) k time e) (less_one r.w.ticks (n * r.w.retries) r.some)
          (calm_tick g.dmin (patience n (g.set role).retries) (r.w.ticks + n * r.w.retries) tick time e early past r.calm);
      late = λ all. tick_less g.pace.dmax (n * g.pace.dmax) r.w.ticks tick e time r.some (r.late all) due;
    }

-- it ends, and is armed again
armed_again :
    (g : Given) (role : Role) (n : ℕ) (waiting : Option Waiting) (e tick time : ℤ) (r : Runs g role n waiting e tick) →
    r.w.ticks ≡ 1 → 1 ≤ r.w.retries → 1 ≤ n → (tick +ℤ pos g.dmin) ≤ℤ time → e ≤ℤ time → Runs g role n (retried waiting (Some n)) e time
armed_again g role n waiting e tick time r last some long early past =
    let left : 1 + n * r.w.retries - 1 ≡ n + n * (r.w.retries - 1) = a_wait_less n r.w.retries some in
    let calm : Calm g.dmin (patience n (g.set role).retries) (1 + n * r.w.retries) tick e =
    subst (λ (k : ℕ). Calm g.dmin (patience n (g.set role).retries) (k + n * r.w.retries) tick e) last r.calm in
    record {
      w = record { ticks = n; retries = r.w.retries - 1 };
      is = ap (λ w. retried w (Some n)) r.is;
      some = long;
      few = omega (arith, r.few);
      calm =
          subst (λ (k : ℕ). Calm g.dmin (patience n (g.set role).retries) k time e) left
          (calm_tick g.dmin (patience n (g.set role).retries) (1 + n * r.w.retries) tick time e early past calm);
      late = λ all. absurd (omega (arith, r.few, some, all));
    }

-- a timer is armed now
armed_now : (g : Given) (role : Role) (n : ℕ) (tick time : ℤ) → 1 ≤ n → tick ≤ℤ time → Runs g role n (armed (Some n) (g.set role).retries) time tick
armed_now g role n tick time long past =
    record {
      w = record { ticks = n; retries = (g.set role).retries };
      is = refl;
      some = long;
      few = omega arith;
      calm = inl refl;
      late = λ all. omega (arith, ints, past);
    }

-- it moves on
moved_up :
    (g : Given) (time lit : ℤ) (role : Role) (l : LinkAt) (tick later : ℤ) (sent : List Sending) (e : ℤ) (input : LinkIn) (next : LinkState) (ms : List WrMsg) (deltas : Option (ℕ × ℕ)) →
    Holds g role → PortUp g time lit role l tick sent e → MovesBy l role l.state input next ms → FitsMove role l.state l input next ms → later ≤ℤ time →
    PortUp g time lit role (record (entering l next) { deltas = deltas }) later (stamped time ms sent) time
moved_up g time lit role l tick later sent e input next ms deltas h u m f past =
    let out : next ≢ Idle = not_idle_of next f.leaves in
    record {
      has_carrier = u.has_carrier;
      listed = u.listed;
      same_set = u.same_set;
      same_role = u.same_role;
      belongs = f.belongs;
      free = u.free;
      past = le_self time;
      ticked = past;
      lit_past = u.lit_past;
      calm = λ i. absurd (out i);
      soon = λ i. absurd (out i);
      awake =
          λ _. elim (idle_or_out l.state) [
            | inl idle ↦
                calm_over g.life g.dmin (g.rest role) tick time lit h.rests u.ticked
                (subst (λ (q : ℕ). Calm g.dmin (g.rest role) q tick lit) (moves_idle l role l.state input next ms idle m u.free) (u.calm idle))
            | inr awake ↦ below lit e time (2 * g.life) (u.awake awake) u.past
          ];
      timer =
          λ n is.
          subst (λ (s : LinkSet). Runs g role n (armed (wait_of s next) s.retries) time later) (sym u.same_set)
          (subst (λ (w : Option ℕ). Runs g role n (armed w (g.set role).retries) time later) (sym is) (armed_now g role n later time (wait_some g role next n h is) past));
      at_once = λ _. past;
      on = λ _. inl refl;
      sents =
          let more : reached role l.state + 1 ≡ reached role next = moves_reach l role l.state input next ms m in
          λ f' i. sents_more time lit role l.state next ms sent f' f.sends (omega (arith, more)) u.sents i;
    }

-- the counts of IDLE and of WR_LINK_ON
counted_up :
    (g : Given) (time lit : ℤ) (role : Role) (l : LinkAt) (s : LinkState) (tick : ℤ) (sent : List Sending) (e : ℤ) →
    PortUp g time lit role l tick sent e → l.state ≡ s → (s ≡ Idle) ⊎ (s ≡ LinkOn) → (tick +ℤ pos g.dmin) ≤ℤ time → time ≤ℤ (tick +ℤ pos g.pace.dmax) →
    PortUp g time lit role (counted l s) time sent e × (((counted l s).state ≡ l.state) × (rest_of l ≡ 0 → rest_of (counted l s) ≡ 0))
counted_up g time lit role l Idle tick sent e u is which early due = (
  record {
    has_carrier = u.has_carrier;
    listed = u.listed;
    same_set = u.same_set;
    same_role = u.same_role;
    belongs = u.belongs;
    free = λ m. ap (λ n. n - 1) (u.free m);
    past = u.past;
    ticked = le_self time;
    lit_past = u.lit_past;
    calm = λ i.
        subst (λ (q : ℕ). Calm g.dmin (g.rest role) q time lit) (sym (rest_less l.quiet l.holdoff))
        (calm_tick g.dmin (g.rest role) (rest_of l) tick time lit early u.lit_past (u.calm i));
    soon = λ i.
        subst (λ (q : ℕ). (q ≡ 0) ⊎ ((time +ℤ pos (q * g.pace.dmax)) ≤ℤ (lit +ℤ pos (g.rest role * g.pace.dmax)))) (sym (rest_less l.quiet l.holdoff))
        (quiet_less g.pace.dmax (g.rest role * g.pace.dmax) (rest_of l) tick lit time (u.soon i) due);
    awake = u.awake;
    timer = λ n w. absurd ((not_timed_idle (g.set role) l.state n w).0 is);
    at_once = λ c. (let x : Idle ≡ Calibration = sym is ∙ c in cc);
    on = λ c. (let x : Idle ≡ LinkOn = sym is ∙ c in cc);
    sents = u.sents;
  },
  (refl, λ q. rest_less l.quiet l.holdoff ∙ ap (λ n. n - 1) q),
)
counted_up g time lit role l LinkOn tick sent e u is which early due = (
  record {
    has_carrier = u.has_carrier;
    listed = u.listed;
    same_set = u.same_set;
    same_role = u.same_role;
    belongs = u.belongs;
    free = u.free;
    past = u.past;
    ticked = le_self time;
    lit_past = u.lit_past;
    calm = λ c. (let x : LinkOn ≡ Idle = sym is ∙ c in cc);
    soon = λ c. (let x : LinkOn ≡ Idle = sym is ∙ c in cc);
    awake = u.awake;
    timer = λ n w. absurd ((not_timed_idle (g.set role) l.state n w).1.1 is);
    at_once = λ c. (let x : LinkOn ≡ Calibration = sym is ∙ c in cc);
    on = λ c. on_tick g.dmin l.on_ticks (min (l.on_ticks + 1) 4_294_967_295) e tick time (omega arith) u.past early (u.on c);
    sents = u.sents;
  },
  (refl, λ q. q),
)
counted_up g time lit role l Present tick sent e u is which early due = elim which [ inl f ↦ cc | inr f ↦ cc ]
counted_up g time lit role l SLock tick sent e u is which early due = elim which [ inl f ↦ cc | inr f ↦ cc ]
counted_up g time lit role l MLock tick sent e u is which early due = elim which [ inl f ↦ cc | inr f ↦ cc ]
counted_up g time lit role l Locked tick sent e u is which early due = elim which [ inl f ↦ cc | inr f ↦ cc ]
counted_up g time lit role l Calibration tick sent e u is which early due = elim which [ inl f ↦ cc | inr f ↦ cc ]
counted_up g time lit role l Calibrated tick sent e u is which early due = elim which [ inl f ↦ cc | inr f ↦ cc ]
counted_up g time lit role l RespCalib tick sent e u is which early due = elim which [ inl f ↦ cc | inr f ↦ cc ]

-- what a step is given
pub record Step (g : Given) (role : Role) (time : ℤ) (l : LinkAt) (tick e : ℤ) (input : LinkIn) : Type 0 where
  pub holds : Holds g role
  pub leaves : LeavesCarrier input
  pub early : IsTick input → (tick +ℤ pos g.dmin) ≤ℤ time
  pub due : time ≤ℤ (tick +ℤ pos g.pace.dmax)
  pub patient : (n : ℕ) → wait_of (g.set role) l.state ≡ Some n → (time +ℤ pos g.dmin) <ℤ (e +ℤ pos (patience n (g.set role).retries * g.dmin))
  pub safe : l.state ≡ LinkOn → input ≡ Msg SLAVE_PRESENT → l.set.quiet ≤ l.on_ticks → ⊥

-- the timer of a state in which a tick is the last
pub timed :
    (g : Given) (time lit : ℤ) (role : Role) (l : LinkAt) (tick : ℤ) (sent : List Sending) (e : ℤ) (n : ℕ) →
    PortUp g time lit role l tick sent e → wait_of l.set l.state ≡ Some n → wait_of (g.set role) l.state ≡ Some n
timed g time lit role l tick sent e n u is = subst (λ (s : LinkSet). wait_of s l.state ≡ Some n) u.same_set is

some_same : {a b : Waiting} → Some a ≡ Some b → a ≡ b
some_same e = cc

pub same_waiting : (a b : Waiting) (o : Option Waiting) → o ≡ Some a → o ≡ Some b → a ≡ b
same_waiting a b o x y = some_same (sym x ∙ y)

none_some : (w : Waiting) → None ≡ Some w → ⊥
none_some w e = cc

one_only : (n : ℕ) → 1 + n * 0 ≡ 1
one_only n = omega arith

fresh_now : (g : Given) (role : Role) (l : LinkAt) (next : LinkState) (n : ℕ) → l.set ≡ (g.set role) → wait_of (g.set role) next ≡ Some n → (w : Waiting) × ((armed (wait_of l.set next) l.set.retries ≡ Some w) × (w.retries ≡ (g.set role).retries))
fresh_now g role l next n same is =
    (record { ticks = n; retries = l.set.retries }, (ap (λ (o : Option ℕ). armed o l.set.retries) (ap (λ (s : LinkSet). wait_of s next) same ∙ is), ap (λ (s : LinkSet). s.retries) same))

-- a timer without retries does not end
not_ended :
    (g : Given) (role : Role) (n : ℕ) (waiting : Option Waiting) (e tick time : ℤ) (r : Runs g role n waiting e tick) → r.w.ticks ≡ 1 → r.w.retries ≡ 0 →
    (tick +ℤ pos g.dmin) ≤ℤ time → e ≤ℤ time → (time +ℤ pos g.dmin) <ℤ (e +ℤ pos (patience n (g.set role).retries * g.dmin)) → ⊥
not_ended g role n waiting e tick time r last none early past patient =
    let all : r.w.ticks + n * r.w.retries ≡ 1 = ap₂ (λ (a b : ℕ). a + n * b) last none ∙ one_only n in
    clash (e +ℤ pos (patience n (g.set role).retries * g.dmin)) (time +ℤ pos g.dmin)
    (last_late g.dmin (patience n (g.set role).retries) tick e time (subst (λ (k : ℕ). Calm g.dmin (patience n (g.set role).retries) k tick e) all r.calm) early past)
    patient

-- a timer that ends for the first time
ends_first :
    (g : Given) (role : Role) (n : ℕ) (waiting : Option Waiting) (e tick time : ℤ) (r : Runs g role n waiting e tick) → r.w.ticks ≡ 1 → r.w.retries ≡ (g.set role).retries →
    (tick +ℤ pos g.dmin) ≤ℤ time → e ≤ℤ time → time ≤ℤ (tick +ℤ pos g.pace.dmax) →
    (time ≤ℤ (e +ℤ pos (n * g.pace.dmax))) × ((e +ℤ pos (n * g.dmin)) ≤ℤ (time +ℤ pos g.dmin))
ends_first g role n waiting e tick time r last all early past due =
    let calm : Calm g.dmin (n + n * (g.set role).retries) (1 + n * (g.set role).retries) tick e =
    subst₂ (λ (a b : ℕ). Calm g.dmin (n + n * (g.set role).retries) (a + n * b) tick e) last all r.calm in
    let left : (tick +ℤ pos (1 * g.pace.dmax)) ≤ℤ (e +ℤ pos (n * g.pace.dmax)) =
    subst (λ (k : ℕ). (tick +ℤ pos (k * g.pace.dmax)) ≤ℤ (e +ℤ pos (n * g.pace.dmax))) last (r.late all) in
    (one_left g.pace.dmax n tick e time left due, fresh_late g.dmin n (n * (g.set role).retries) tick e time calm early past)

resends_up :
    (g : Given) (time lit : ℤ) (role : Role) (l : LinkAt) (tick : ℤ) (sent : List Sending) (e : ℤ) (input : LinkIn) (ms : List WrMsg) (n : ℕ) (w : Waiting) →
    Step g role time l tick e input → PortUp g time lit role l tick sent e → IsTick input → StaysBy l role l.state input → SendsAll role l.state ms →
    wait_of l.set l.state ≡ Some n → ms ≡ resent l l.state → l.waiting ≡ Some w → w.ticks ≡ 1 → 1 ≤ w.retries →
    Outcome g time lit role l e input (record l { waiting = retried l.waiting (wait_of l.set l.state) }) (ticked_by input time tick) (stamped time ms sent) ms
resends_up g time lit role l tick sent e input ms n w st u t stay all is same wait last some =
    let here : wait_of (g.set role) l.state ≡ Some n = timed g time lit role l tick sent e n u is in
    let runs : Runs g role n l.waiting e tick = u.timer n here in
    let one : runs.w ≡ w = same_waiting runs.w w l.waiting runs.is wait in
    let ticks : runs.w.ticks ≡ 1 = ap (λ x. x.ticks) one ∙ last in
    let left : 1 ≤ runs.w.retries = subst (λ (x : Waiting). 1 ≤ x.retries) (sym one) some in
    let again : Runs g role n (retried l.waiting (wait_of l.set l.state)) e time =
    subst (λ (x : Option ℕ). Runs g role n (retried l.waiting x) e time) (sym is)
    (armed_again g role n l.waiting e tick time runs ticks left (wait_some g role l.state n st.holds here) (st.early t) u.past) in
    let up : PortUp g time lit role (record l { waiting = retried l.waiting (wait_of l.set l.state) }) time (stamped time ms sent) e =
    with_sent g time lit role (record l { waiting = retried l.waiting (wait_of l.set l.state) }) time sent e ms
    (with_timer g time lit role l tick sent e n (retried l.waiting (wait_of l.set l.state)) u here again) all in
    stays
    (subst (λ (x : ℤ). PortUp g time lit role (record l { waiting = retried l.waiting (wait_of l.set l.state) }) x (stamped time ms sent) e) (a_tick input time tick t) up)
    refl stay (λ q. q) all
    (λ m m_is fresh.
    let mn : n ≡ m = some_is (sym here ∙ m_is) in
    let first : runs.w.retries ≡ (g.set role).retries = ap (λ x. x.retries) (same_waiting runs.w fresh.w l.waiting runs.is fresh.is) ∙ fresh.all in
    let both : (time ≤ℤ (e +ℤ pos (n * g.pace.dmax))) × ((e +ℤ pos (n * g.dmin)) ≤ℤ (time +ℤ pos g.dmin)) =
    ends_first g role n l.waiting e tick time runs ticks first (st.early t) u.past st.due in
    inr (subst (λ (k : ℕ). Ended g time l e k ms) mn (record { again = same; late = both.0; early = both.1 })))

waits_up :
    (g : Given) (time lit : ℤ) (role : Role) (l : LinkAt) (tick : ℤ) (sent : List Sending) (e : ℤ) (input : LinkIn) (n : ℕ) →
    Step g role time l tick e input → PortUp g time lit role l tick sent e → IsTick input → StaysBy l role l.state input →
    wait_of l.set l.state ≡ Some n → (l.waiting ≡ None) ⊎ ((w : Waiting) × ((l.waiting ≡ Some w) × (w.ticks ≢ 1))) →
    Outcome g time lit role l e input (record l { waiting = ticked l.waiting }) (ticked_by input time tick) sent []
waits_up g time lit role l tick sent e input n st u t stay is which =
    let here : wait_of (g.set role) l.state ≡ Some n = timed g time lit role l tick sent e n u is in
    let runs : Runs g role n l.waiting e tick = u.timer n here in
    let more : runs.w.ticks ≢ 1 =
    elim which [
      | inl none ↦ absurd (none_some runs.w (sym none ∙ runs.is))
      | inr w ↦ (λ one. w.1.1 (ap (λ x. x.ticks) (same_waiting w.0 runs.w l.waiting w.1.0 runs.is) ∙ one))
    ] in
    let up : PortUp g time lit role (record l { waiting = ticked l.waiting }) time sent e =
    with_timer g time lit role l tick sent e n (ticked l.waiting) u here (runs_on g role n l.waiting e tick time runs more (st.early t) u.past st.due) in
    stays
    (subst (λ (x : ℤ). PortUp g time lit role (record l { waiting = ticked l.waiting }) x sent e) (a_tick input time tick t) up)
    refl stay (λ q. q) tt
    (λ _ _ fresh. inl (record { w = record fresh.w { ticks = fresh.w.ticks - 1 }; is = ap ticked fresh.is; all = fresh.all }))

-- each row
pub row_up :
    (g : Given) (time lit : ℤ) (role : Role) (l : LinkAt) (tick : ℤ) (sent : List Sending) (e : ℤ) (input : LinkIn) (row : Row) →
    Step g role time l tick e input → PortUp g time lit role l tick sent e → RowTells l role l.state input row → RowFits role l.state l input row → FailsBy l l.state input row →
    Outcome g time lit role l e input (by_row l row) (ticked_by input time tick) (stamped time (sent_by row) sent) (sent_by row)
row_up g time lit role l tick sent e input NoRow st u t f b =
    stays (subst (λ (x : ℤ). PortUp g time lit role l x sent e) (no_tick input time tick t.0) u) refl t.1 (λ q. q) tt (λ _ _ fresh. inl fresh)
row_up g time lit role l tick sent e input (Stays ms) st u t f b =
    stays (subst (λ (x : ℤ). PortUp g time lit role l x (stamped time ms sent) e) (no_tick input time tick t.0) (with_sent g time lit role l tick sent e ms u f)) refl t.1 (λ q. q) f (λ _ _ fresh. inl fresh)
row_up g time lit role l tick sent e input (Moves next ms) st u t f b =
    moves next (moved_up g time lit role l tick (ticked_by input time tick) sent e input next ms l.deltas st.holds u t f (tick_past input time tick u.ticked)) refl t
    (λ n is. (let x : (w : Waiting) × ((armed (wait_of l.set next) l.set.retries ≡ Some w) × (w.retries ≡ (g.set role).retries)) = fresh_now g role l next n u.same_set is in record { w = x.0; is = x.1.0; all = x.1.1 }))
row_up g time lit role l tick sent e input (Keeps tx rx next ms) st u t f b =
    moves next (moved_up g time lit role l tick (ticked_by input time tick) sent e input next ms (Some (tx, rx)) st.holds u t f (tick_past input time tick u.ticked)) refl t
    (λ n is. (let x : (w : Waiting) × ((armed (wait_of l.set next) l.set.retries ≡ Some w) × (w.retries ≡ (g.set role).retries)) = fresh_now g role l next n u.same_set is in record { w = x.0; is = x.1.0; all = x.1.1 }))
row_up g time lit role l tick sent e input (Resends ms) st u t f b =
    resends_up g time lit role l tick sent e input ms t.1.0.0 t.1.1.1.0 st u t.0.0 t.0.1 f t.1.0.1 t.1.1.0 t.1.1.1.1.0 t.1.1.1.1.1.0 t.1.1.1.1.1.1
row_up g time lit role l tick sent e input Fails st u t f b =
    elim t [
      | inl on ↦ (let c : (input ≡ Msg SLAVE_PRESENT) × (l.set.quiet ≤ l.on_ticks) = b on in absurd (st.safe on c.0 c.1))
      | inr x ↦
          let here : wait_of (g.set role) l.state ≡ Some x.1.0.0 = timed g time lit role l tick sent e x.1.0.0 u x.1.0.1 in
          let runs : Runs g role x.1.0.0 l.waiting e tick = u.timer x.1.0.0 here in
          let one : runs.w ≡ x.1.1.0 = same_waiting runs.w x.1.1.0 l.waiting runs.is x.1.1.1.0 in
          absurd (not_ended g role x.1.0.0 l.waiting e tick time runs (ap (λ y. y.ticks) one ∙ x.1.1.1.1.0) (ap (λ y. y.retries) one ∙ x.1.1.1.1.1)
          (st.early x.0) u.past (st.patient x.1.0.0 here))
    ]
row_up g time lit role l tick sent e input Waits st u t f b =
    waits_up g time lit role l tick sent e input t.1.0.0 st u t.0.0 t.0.1 t.1.0.1 t.1.1
row_up g time lit role l tick sent e input Counts st u t f b =
    let c : PortUp g time lit role (counted l l.state) time sent e × (((counted l l.state).state ≡ l.state) × (rest_of l ≡ 0 → rest_of (counted l l.state) ≡ 0)) =
    counted_up g time lit role l l.state tick sent e u refl t.1 (st.early t.0.0) st.due in
    stays (subst (λ (x : ℤ). PortUp g time lit role (counted l l.state) x sent e) (a_tick input time tick t.0.0) c.0) c.1.0 t.0.1 c.1.1 tt
    (λ n is fresh. elim t.1 [ inl i ↦ absurd ((not_timed_idle (g.set role) l.state n is).0 i) | inr i ↦ absurd ((not_timed_idle (g.set role) l.state n is).1.1 i) ])
row_up g time lit role l tick sent e input (CarrierComes fitted) st u t f b = absurd (subst (λ (i : LinkIn). LeavesCarrier i) t st.leaves)
row_up g time lit role l tick sent e input CarrierGoes st u t f b = absurd (subst (λ (i : LinkIn). LeavesCarrier i) t st.leaves)
