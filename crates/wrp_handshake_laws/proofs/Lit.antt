-- What is kept of a link since its carrier came: its modules, and who was given their delays.
use Rattle.std.proofs.Common.{◌≡◌, ◌≢◌, ◌⊎◌, inl, inr, refl, ap, sym, ◌∙◌, subst, ℕ, ◌-◌, ◌*◌, ◌<◌, ℤ, pos, ◌+ℤ◌, ◌≤ℤ◌, ◌<ℤ◌, Bool, true, false, is_some, List, [], ◌∷◌, Option, None, Some, arith}
use Rattle.std.proofs.lemmas.Int.{ints}
use Rattle.std.proofs.lemmas.Option.{same_Some}
use Rattle.wrp_base.specs.declared.link.LinkState.{LinkState}
use Rattle.wrp_base.specs.declared.link.LinkState.TheVariants.{Idle, Calibrated, LinkOn}
use Rattle.wrp_base.specs.declared.link.Mark.{Mark}
use Rattle.wrp_base.specs.declared.link.Module.{Module}
use Rattle.wrp_base.specs.declared.link.Role.{Role}
use Rattle.wrp_base.specs.declared.link.Role.TheVariants.{Master, Slave}
use Rattle.wrp_base.specs.declared.message.WrMsg.{WrMsg}
use Rattle.wrp_base.specs.declared.message.WrMsg.TheVariants.{Calibrated as CALIBRATED, ModeOn as WR_MODE_ON}
use Rattle.wrp_base.specs.Link.{other_of}
use Rattle.wrp_base.proofs.Integers.{int_le_self}
use Rattle.wrp_base.proofs.Options.{pair_there}
use Rattle.wrp_link.specs.declared.interface.LinkIn.{LinkIn}
use Rattle.wrp_link.specs.declared.interface.LinkIn.TheVariants.{Msg, CarrierUp}
use Rattle.wrp_link.specs.declared.interface.LinkSet.{LinkSet}
use Rattle.wrp_link.specs.Laws.{TurnsOn}
use Rattle.wrp_link.specs.LinkAt.{LinkAt, Waiting, new_link, entering, failed, with_carrier}
use Rattle.wrp_link.specs.Rows.{Row, NoRow, Stays, Moves, Keeps, Resends, Fails, Waits, Counts, CarrierComes, CarrierGoes, row_of}
use Rattle.wrp_link.specs.Table.{by_row, sent_by, counted, ticked, retried}
use Rattle.wrp_link.specs.LinkAt.{wait_of}
use Rattle.wrp_link.proofs.Fits.{Fits, knows, row_fits as link_fits}
use Rattle.wrp_link.proofs.Orders.{IsOrdered, after_ordered, new_ordered}
use Rattle.wrp_link.proofs.Deltas.{is_same_self, out_of_idle}
use Rattle.wrp_handshake_laws.specs.Ends.{Sending, Port, BothPorts, Change, Passes, Hears, Starts, Lights, end_of, with_end, IsAmong, stamped, mover_of, ticked_by, marked, port_by, after_input, MayHear, IsNoCarrier, changed, MayCome, ends_after, AllMayCome, new_ends, lit_by, lit_at, placed_by, placed_at, OutlivesFrames, CanBe}
use Rattle.wrp_link.proofs.Runs.{by_row_role}
use Rattle.wrp_handshake_laws.specs.Deltas.{KnowsDeltas}
use Rattle.wrp_handshake_laws.specs.Laws.{IsAwake, IsLongAgo}
use Rattle.wrp_handshake_laws.proofs.Stages.{Kind, opening, engaging, answering, binding, going_on, FitsMove}
use Rattle.wrp_handshake_laws.proofs.RowFits.{RowFits, row_fits}
use Rattle.wrp_handshake_laws.proofs.Times.{Calm, later, passes, passes_below, calm_later, calm_tick, calm_over}
use Rattle.wrp_handshake_laws.proofs.Parts.{mark_at, not_idle, not_same_idle}
use Rattle.wrp_handshake_laws.proofs.Inputs.{engaged_awake, idle_or_not, marked_new, marked_same, tick_past, tick_grows}
use Rattle.wrp_handshake_laws.proofs.Deltas.{IsOwn, OwnAll, row_owns, now_moved, moved_more, moved_first, in_with, of_with, stamped_own}

-- the peer gave these delays in this stretch
abbrev Among : List Mark → ℕ → ℕ → Type 0
Among marks tx rx = (at : ℤ) × IsAmong (CALIBRATED tx rx, at) (now_moved marks)

-- a port has the module in place, or no carrier and none
abbrev pub InPlace : Option Module → LinkAt → Type 0
InPlace placed l = (l.own_module ≡ placed) ⊎ ((l.own_module ≡ None) × (l.carrier ≡ false))

no_own : (placed : Option Module) (m : WrMsg) → IsOwn None m → IsOwn placed m
no_own placed m h = λ tx rx e. (let none : None ≡ Some (h tx rx e).0 = (h tx rx e).1.0 in absurd cc)

-- what a port sends is of the module in place
own_placed : (placed : Option Module) (l : LinkAt) (m : WrMsg) → InPlace placed l → IsOwn l.own_module m → IsOwn placed m
own_placed placed l m at own =
    elim at [
      | inl e ↦ subst (λ (x : Option Module). IsOwn x m) e own
      | inr e ↦ no_own placed m (subst (λ (x : Option Module). IsOwn x m) e.0 own)
    ]

pub record LitPort (life dmin : ℕ) (time lit : ℤ) (placed : Option Module) (l : LinkAt) (tick : ℤ) (marks : List Mark) (sent : List Sending) : Type 0 where
  pub ordered : IsOrdered l
  pub counts : 2 * life < (l.set.quiet - 1) * dmin
  pub tick_past : tick ≤ℤ time
  pub lit_past : lit ≤ℤ time
  pub past : (f : Sending) → IsAmong f sent → f.1 ≤ℤ time
  pub calm : l.state ≡ Idle → l.carrier ≡ true → Calm dmin l.set.quiet l.quiet tick lit
  pub awake : l.state ≢ Idle → (lit +ℤ pos (2 * life)) <ℤ time
  pub lit_on : l.state ≢ Idle → l.carrier ≡ true
  pub listed : l.state ≢ Idle → is_some l.own_module ≡ true
  pub in_place : InPlace placed l
  pub told : (f : Sending) → IsAmong f sent → lit <ℤ f.1 → IsOwn placed f.0
  pub knows : (tx rx : ℕ) → l.deltas ≡ Some (tx, rx) → Among marks tx rx
  -- what moved the port was sent since the carriers came
  pub fresh : l.state ≢ Idle → (m : Sending) → IsAmong m (now_moved marks) → lit <ℤ m.1
  -- a slave in WR_LINK_ON was moved by WR_MODE_ON
  pub turned_on : l.role ≡ Slave → l.state ≡ LinkOn → (at : ℤ) × IsAmong (WR_MODE_ON, at) (now_moved marks)

abbrev pub LitAt : (life dmin : ℕ) → (time lit : ℤ) → Option Module → Port → Type 0
LitAt life dmin time lit placed p = LitPort life dmin time lit placed p.link p.ticked p.marks p.sent

-- what moved a port carries the delays of the module at the peer
abbrev pub LitPair : Port → Option Module → Type 0
LitPair p peers = p.link.state ≢ Idle → (m : Sending) → IsAmong m (now_moved p.marks) → IsOwn peers m.0

past_now : (life dmin : ℕ) (time : ℤ) (fitted : Option Module) (ms : List WrMsg) (sent : List Sending) →
    OwnAll fitted ms → ((f : Sending) → IsAmong f sent → f.1 ≤ℤ time) → (f : Sending) → IsAmong f (stamped time ms sent) → f.1 ≤ℤ time
past_now life dmin time fitted ms sent own h f i =
    elim (stamped_own time fitted ms sent f own i) [
      | inl x ↦ subst (λ (t : ℤ). t ≤ℤ time) (sym x.1) (int_le_self time)
      | inr j ↦ h f j
    ]

-- the state stays
lit_same :
    (life dmin : ℕ) (time lit : ℤ) (placed : Option Module) (l : LinkAt) (tick : ℤ) (marks : List Mark) (sent : List Sending)
    (quiet holdoff on_ticks : ℕ) (waiting : Option Waiting) (tick' : ℤ) (ms : List WrMsg) →
    LitPort life dmin time lit placed l tick marks sent →
    IsOrdered (record l { quiet = quiet; holdoff = holdoff; waiting = waiting; on_ticks = on_ticks }) →
    tick' ≤ℤ time →
    (l.state ≡ Idle → l.carrier ≡ true → Calm dmin l.set.quiet quiet tick' lit) →
    OwnAll l.own_module ms →
    LitPort life dmin time lit placed (record l { quiet = quiet; holdoff = holdoff; waiting = waiting; on_ticks = on_ticks }) tick'
    (marked time l.state l.state None marks) (stamped time ms sent)
lit_same life dmin time lit placed l tick marks sent quiet holdoff on_ticks waiting tick' ms k o t c own =
    subst
    (λ (xs : List Mark).
    LitPort life dmin time lit placed (record l { quiet = quiet; holdoff = holdoff; waiting = waiting; on_ticks = on_ticks }) tick' xs (stamped time ms sent))
    (marked_same time l.state l.state None marks (is_same_self l.state))
    (record {
      ordered = o;
      counts = k.counts;
      tick_past = t;
      lit_past = k.lit_past;
      past = past_now life dmin time l.own_module ms sent own k.past;
      calm = c;
      awake = k.awake;
      lit_on = k.lit_on;
      listed = k.listed;
      in_place = k.in_place;
      told =
          λ f i new.
          elim (stamped_own time l.own_module ms sent f own i) [ inl x ↦ own_placed placed l f.0 k.in_place x.0 | inr j ↦ k.told f j new ];
      knows = k.knows;
      fresh = k.fresh;
      turned_on = k.turned_on;
    })

other_mover : (time : ℤ) (s : LinkState) (by : Option Sending) (marks : List Mark) → marked time s s None marks ≡ marked time s s by marks
other_mover time s by marks = sym (marked_same time s s None marks (is_same_self s)) ∙ marked_same time s s by marks (is_same_self s)

lit_stays :
    (life dmin : ℕ) (time lit : ℤ) (placed : Option Module) (p : Port) (input : LinkIn) (at : ℤ) (waiting : Option Waiting) (ms : List WrMsg) →
    LitAt life dmin time lit placed p → IsOrdered (record p.link { waiting = waiting }) → OwnAll p.link.own_module ms →
    LitPort life dmin time lit placed (record p.link { waiting = waiting }) (ticked_by input time p.ticked)
    (marked time p.link.state p.link.state (mover_of input at) p.marks) (stamped time ms p.sent)
lit_stays life dmin time lit placed p input at waiting ms k o own =
    subst
    (λ (xs : List Mark). LitPort life dmin time lit placed (record p.link { waiting = waiting }) (ticked_by input time p.ticked) xs (stamped time ms p.sent))
    (other_mover time p.link.state (mover_of input at) p.marks)
    (lit_same life dmin time lit placed p.link p.ticked p.marks p.sent p.link.quiet p.link.holdoff p.link.on_ticks waiting
    (ticked_by input time p.ticked) ms k o (tick_past input time p.ticked k.tick_past)
    (λ i lit'. calm_later dmin p.link.set.quiet p.link.quiet p.ticked (ticked_by input time p.ticked) lit
    (tick_grows input time p.ticked k.tick_past) (k.calm i lit'))
    own)

-- where a move begins
from_where : (role : Role) (from : LinkState) (l : LinkAt) (input : LinkIn) (next : LinkState) → Kind role from l input next →
    ((from ≡ Idle) × (l.carrier ≡ true) × (is_some l.own_module ≡ true) × (l.quiet ≡ 0)) ⊎ (from ≢ Idle)
from_where role from l input next (opening i c f q s a) = inl (i, c, f, q)
from_where role from l input next (engaging i c f q e b m r) = inl (i, c, f, q)
from_where role from l input next (answering a e f b m r) = inr a
from_where role from l input next (binding e u f b m) = inr (engaged_awake role from e)
from_where role from l input next (going_on e u f b) = inr (engaged_awake role from e)

-- what a move finds
record FoundAwake (life : ℕ) (time lit : ℤ) (l : LinkAt) : Type 0 where
  long : (lit +ℤ pos (2 * life)) <ℤ time
  lit_on : l.carrier ≡ true
  listed : is_some l.own_module ≡ true

awake_at :
    (life dmin : ℕ) (time lit : ℤ) (placed : Option Module) (l : LinkAt) (tick : ℤ) (marks : List Mark) (sent : List Sending) (input : LinkIn) (next : LinkState) →
    LitPort life dmin time lit placed l tick marks sent → Kind l.role l.state l input next → FoundAwake life time lit l
awake_at life dmin time lit placed l tick marks sent input next k kind =
    elim (from_where l.role l.state l input next kind) [
      | inl x ↦
          record {
            long =
                calm_over life dmin l.set.quiet tick time lit k.counts k.tick_past
                (subst (λ (n : ℕ). Calm dmin l.set.quiet n tick lit) x.3 (k.calm x.0 x.1));
            lit_on = x.1;
            listed = x.2;
          }
      | inr a ↦ record { long = k.awake a; lit_on = k.lit_on a; listed = k.listed a }
    ]

-- a message that is heard was sent since the carriers came
sent_since : (life : ℕ) (lit at time : ℤ) → (lit +ℤ pos (2 * life)) <ℤ time → time ≤ℤ (at +ℤ pos life) → lit <ℤ at
sent_since life lit at time h k = omega (arith, ints)

since_lit :
    (life dmin : ℕ) (time lit : ℤ) (p q : Port) (input : LinkIn) (at : ℤ) (m : WrMsg) →
    MayHear life dmin time p q input at → (lit +ℤ pos (2 * life)) <ℤ time → input ≡ Msg m → lit <ℤ at
since_lit life dmin time lit p q input at m h long is =
    let there : MayHear life dmin time p q (Msg m) at = subst (λ (i : LinkIn). MayHear life dmin time p q i at) is h in
    sent_since life lit at time long there.1

mode_on_among :
    (time : ℤ) (old next : LinkState) (marks : List Mark) (at : ℤ) → old ≢ Idle →
    IsAmong (WR_MODE_ON, at) (now_moved (mark_at time old next (Some (WR_MODE_ON, at)) ∷ marks))
mode_on_among time old next marks at out =
    subst (λ (xs : List Sending). IsAmong (WR_MODE_ON, at) xs)
    (sym (moved_more (mark_at time old next (Some (WR_MODE_ON, at))) marks (not_same_idle old out))) (inl refl)

-- a move
lit_moves :
    (life dmin : ℕ) (time lit : ℤ) (placed : Option Module) (p : Port) (input : LinkIn) (at : ℤ) (next : LinkState) (deltas : Option (ℕ × ℕ)) (ms : List WrMsg) →
    LitAt life dmin time lit placed p → FitsMove p.link.role p.link.state p.link input next ms →
    IsOrdered (record (entering p.link next) { deltas = deltas }) → OwnAll p.link.own_module ms →
    ((tx rx : ℕ) → deltas ≡ Some (tx, rx) → Among (mark_at time p.link.state next (mover_of input at) ∷ p.marks) tx rx) →
    ((lit +ℤ pos (2 * life)) <ℤ time → (m : WrMsg) → input ≡ Msg m → lit <ℤ at) →
    (next ≡ LinkOn → TurnsOn p.link.role p.link.state input) →
    LitPort life dmin time lit placed (record (entering p.link next) { deltas = deltas }) (ticked_by input time p.ticked)
    (marked time p.link.state next (mover_of input at) p.marks) (stamped time ms p.sent)
lit_moves life dmin time lit placed p input at next deltas ms k f o own kn since turns =
    let mark : Mark = mark_at time p.link.state next (mover_of input at) in
    let a : FoundAwake life time lit p.link = awake_at life dmin time lit placed p.link p.ticked p.marks p.sent input next k f.kind in
    subst
    (λ (xs : List Mark). LitPort life dmin time lit placed (record (entering p.link next) { deltas = deltas }) (ticked_by input time p.ticked) xs (stamped time ms p.sent))
    (marked_new time p.link.state next (mover_of input at) p.marks f.changes)
    (record {
      ordered = o;
      counts = k.counts;
      tick_past = tick_past input time p.ticked k.tick_past;
      lit_past = k.lit_past;
      past = past_now life dmin time p.link.own_module ms p.sent own k.past;
      calm = λ i. absurd (not_idle next f.leaves i);
      awake = λ _. a.long;
      lit_on = λ _. a.lit_on;
      listed = λ _. a.listed;
      in_place = k.in_place;
      told =
          λ g i new.
          elim (stamped_own time p.link.own_module ms p.sent g own i) [ inl x ↦ own_placed placed p.link g.0 k.in_place x.0 | inr j ↦ k.told g j new ];
      knows = kn;
      fresh =
          λ _ m i.
          elim (idle_or_not p.link.state) [
            | inl idle ↦
                elim (of_with input at [] m (subst (λ (xs : List Sending). IsAmong m xs) (moved_first mark p.marks idle) i)) [
                  | inl x ↦ subst (λ (t : ℤ). lit <ℤ t) (sym x.1) (since a.long m.0 x.0)
                  | inr x ↦ absurd x
                ]
            | inr awake ↦
                elim (of_with input at (now_moved p.marks) m
                (subst (λ (xs : List Sending). IsAmong m xs) (moved_more mark p.marks (not_same_idle p.link.state awake)) i)) [
                  | inl x ↦ subst (λ (t : ℤ). lit <ℤ t) (sym x.1) (since a.long m.0 x.0)
                  | inr x ↦ k.fresh awake m x
                ]
          ];
      turned_on =
          λ slave on.
          let turn : TurnsOn Slave p.link.state input = subst (λ (r : Role). TurnsOn r p.link.state input) slave (turns on) in (
            at,
            subst (λ (i : LinkIn). IsAmong (WR_MODE_ON, at) (now_moved (mark_at time p.link.state next (mover_of i at) ∷ p.marks))) (sym turn.1)
                (mode_on_among time p.link.state next p.marks at (λ i. let x : Calibrated ≡ Idle = sym turn.0 ∙ i in cc)),
          );
    })

-- delays that were kept before a move are among what moved
still_among :
    (time : ℤ) (old next : LinkState) (by : Option Sending) (marks : List Mark) (tx rx : ℕ) →
    old ≢ Idle → Among marks tx rx → Among (mark_at time old next by ∷ marks) tx rx
still_among time old next by marks tx rx a h = (
  h.0,
  subst (λ (xs : List Sending). IsAmong (CALIBRATED tx rx, h.0) xs) (sym (moved_more (mark_at time old next by) marks (not_same_idle old a)))
      (in_with by (now_moved marks) (CALIBRATED tx rx, h.0) h.1),
)

now_among :
    (time : ℤ) (old next : LinkState) (marks : List Mark) (tx rx : ℕ) (at : ℤ) →
    Among (mark_at time old next (Some (CALIBRATED tx rx, at)) ∷ marks) tx rx
now_among time old next marks tx rx at = (
  at,
  elim (idle_or_not old) [
    | inl i ↦
        subst (λ (xs : List Sending). IsAmong (CALIBRATED tx rx, at) xs)
        (sym (moved_first (mark_at time old next (Some (CALIBRATED tx rx, at))) marks i)) (inl refl)
    | inr a ↦
        subst (λ (xs : List Sending). IsAmong (CALIBRATED tx rx, at) xs)
        (sym (moved_more (mark_at time old next (Some (CALIBRATED tx rx, at))) marks (not_same_idle old a))) (inl refl)
  ],
)

-- a port in IDLE
lit_idle :
    (life dmin : ℕ) (time lit : ℤ) (placed : Option Module) (l : LinkAt) (tick : ℤ) (marks : List Mark) (sent : List Sending) →
    IsOrdered l → l.state ≡ Idle → 2 * life < (l.set.quiet - 1) * dmin → tick ≤ℤ time → lit ≤ℤ time →
    ((f : Sending) → IsAmong f sent → f.1 ≤ℤ time) →
    (l.carrier ≡ true → Calm dmin l.set.quiet l.quiet tick lit) →
    InPlace placed l → ((f : Sending) → IsAmong f sent → lit <ℤ f.1 → IsOwn placed f.0) →
    LitPort life dmin time lit placed l tick marks sent
lit_idle life dmin time lit placed l tick marks sent o idle counts t lp past calm at told =
    record {
      ordered = o;
      counts = counts;
      tick_past = t;
      lit_past = lp;
      past = past;
      calm = λ _ e. calm e;
      awake = λ a. absurd (a idle);
      lit_on = λ a. absurd (a idle);
      listed = λ a. absurd (a idle);
      in_place = at;
      told = told;
      knows = λ tx rx e. absurd (out_of_idle l tx rx o e idle);
      fresh = λ a. absurd (a idle);
      turned_on = λ _ on. (let x : LinkOn ≡ Idle = sym on ∙ idle in cc);
    }

counts_lit :
    (life dmin : ℕ) (time lit : ℤ) (placed : Option Module) (p : Port) (locked : Bool) (at : ℤ) (s : LinkState) →
    LitAt life dmin time lit placed p → IsOrdered (counted p.link s) → (p.ticked +ℤ pos dmin) ≤ℤ time →
    LitPort life dmin time lit placed (counted p.link s) time (marked time p.link.state (counted p.link s).state None p.marks) p.sent
counts_lit life dmin time lit placed p locked at Idle k o h =
    lit_same life dmin time lit placed p.link p.ticked p.marks p.sent (p.link.quiet - 1) (p.link.holdoff - 1) p.link.on_ticks p.link.waiting time [] k o
    (int_le_self time) (λ i e. calm_tick dmin p.link.set.quiet p.link.quiet p.ticked time lit h k.lit_past (k.calm i e)) tt
counts_lit life dmin time lit placed p locked at LinkOn k o h =
    lit_same life dmin time lit placed p.link p.ticked p.marks p.sent p.link.quiet p.link.holdoff _ p.link.waiting time [] k o
    (int_le_self time) (λ i e. calm_later dmin p.link.set.quiet p.link.quiet p.ticked time lit k.tick_past (k.calm i e)) tt
counts_lit life dmin time lit placed p locked at _ k o h =
    lit_same life dmin time lit placed p.link p.ticked p.marks p.sent p.link.quiet p.link.holdoff p.link.on_ticks p.link.waiting time [] k o
    (int_le_self time) (λ i e. calm_later dmin p.link.set.quiet p.link.quiet p.ticked time lit k.tick_past (k.calm i e)) tt

lit_row :
    (life dmin : ℕ) (time lit : ℤ) (placed : Option Module) (p q : Port) (input : LinkIn) (at : ℤ) (row : Row) →
    LitAt life dmin time lit placed p → MayHear life dmin time p q input at → IsNoCarrier input →
    RowFits p.link.role p.link.state p.link input row → Fits p.link.role p.link.state input row →
    IsOrdered (by_row p.link row) → OwnAll p.link.own_module (sent_by row) →
    LitAt life dmin time lit placed (port_by time p input at row)
lit_row life dmin time lit placed p q input at NoRow k h n f g o own = lit_stays life dmin time lit placed p input at p.link.waiting [] k o tt
lit_row life dmin time lit placed p q input at (Stays ms) k h n f g o own = lit_stays life dmin time lit placed p input at p.link.waiting ms k o own
lit_row life dmin time lit placed p q input at (Moves next ms) k h n f g o own =
    lit_moves life dmin time lit placed p input at next p.link.deltas ms k f o own
    (λ tx rx e. still_among time p.link.state next (mover_of input at) p.marks tx rx (out_of_idle p.link tx rx k.ordered e) (k.knows tx rx e))
    (λ long m is. since_lit life dmin time lit p q input at m h long is) g.turns
lit_row life dmin time lit placed p q input at (Keeps tx rx next ms) k h n f g o own =
    lit_moves life dmin time lit placed p input at next (Some (tx, rx)) ms k f o own
    (λ tx' rx' e.
    subst (λ (d : ℕ × ℕ). Among (mark_at time p.link.state next (mover_of input at) ∷ p.marks) d.0 d.1) (same_Some (tx, rx) (tx', rx') e)
    (subst (λ (i : LinkIn). Among (mark_at time p.link.state next (mover_of i at) ∷ p.marks) tx rx) (sym g.told)
    (now_among time p.link.state next p.marks tx rx at)))
    (λ long m is. since_lit life dmin time lit p q input at m h long is) g.turns
lit_row life dmin time lit placed p q input at (Resends ms) k h n f g o own =
    lit_stays life dmin time lit placed p input at (retried p.link.waiting (wait_of p.link.set p.link.state)) ms k o own
lit_row life dmin time lit placed p q input at Fails k h n f g o own =
    lit_idle life dmin time lit placed (failed p.link) (ticked_by input time p.ticked)
    (marked time p.link.state Idle (mover_of input at) p.marks) p.sent o refl k.counts
    (tick_past input time p.ticked k.tick_past) k.lit_past k.past (λ _. inl refl) k.in_place k.told
lit_row life dmin time lit placed p q input at Waits k h n f g o own =
    lit_stays life dmin time lit placed p input at (ticked p.link.waiting) [] k o tt
lit_row life dmin time lit placed p q input at Counts k h n f g o own =
    let early : (p.ticked +ℤ pos dmin) ≤ℤ time = subst (λ (i : LinkIn). MayHear life dmin time p q i at) f.1 h in
    subst (λ (i : LinkIn). LitAt life dmin time lit placed (port_by time p i at Counts)) (sym f.1)
    (counts_lit life dmin time lit placed p f.0 at p.link.state k o early)
lit_row life dmin time lit placed p q input at (CarrierComes fitted) k h n f g o own =
    absurd (subst (λ (i : LinkIn). IsNoCarrier i) f n)
lit_row life dmin time lit placed p q input at CarrierGoes k h n f g o own =
    lit_idle life dmin time lit placed (new_link p.link.role p.link.set) (ticked_by input time p.ticked)
    (marked time p.link.state Idle (mover_of input at) p.marks) p.sent o refl k.counts
    (tick_past input time p.ticked k.tick_past) k.lit_past k.past (λ e. cc) (inr (refl, refl)) k.told

lit_heard :
    (life dmin : ℕ) (time lit : ℤ) (placed : Option Module) (p q : Port) (input : LinkIn) (at : ℤ) →
    LitAt life dmin time lit placed p → MayHear life dmin time p q input at → IsNoCarrier input → LitAt life dmin time lit placed (after_input time p input at)
lit_heard life dmin time lit placed p q input at k h n =
    lit_row life dmin time lit placed p q input at (row_of p.link input) k h n
    (row_fits p.link input k.ordered.belongs)
    (link_fits p.link input k.ordered.belongs)
    (after_ordered p.link input k.ordered)
    (row_owns p.link input k.listed)

-- a port and its peer

-- a message that is handed over is of the module in place at the peer
told_now :
    (life dmin : ℕ) (time lit : ℤ) (peers : Option Module) (p q : Port) (input : LinkIn) (at : ℤ) (m : Sending) →
    LitAt life dmin time lit peers q → MayHear life dmin time p q input at → (lit +ℤ pos (2 * life)) <ℤ time →
    input ≡ Msg m.0 → IsOwn peers m.0
told_now life dmin time lit peers p q input at m k h long is =
    let there : MayHear life dmin time p q (Msg m.0) at = subst (λ (i : LinkIn). MayHear life dmin time p q i at) is h in
    k.told (m.0, at) there.0 (sent_since life lit at time long there.1)

pair_moves :
    (life dmin : ℕ) (time lit : ℤ) (placed peers : Option Module) (p q : Port) (input : LinkIn) (at : ℤ) (next : LinkState) (ms : List WrMsg) →
    LitAt life dmin time lit placed p → LitAt life dmin time lit peers q → LitPair p peers → MayHear life dmin time p q input at →
    FitsMove p.link.role p.link.state p.link input next ms →
    (m : Sending) → IsAmong m (now_moved (marked time p.link.state next (mover_of input at) p.marks)) → IsOwn peers m.0
pair_moves life dmin time lit placed peers p q input at next ms k kq pair h f m i =
    let a : FoundAwake life time lit p.link = awake_at life dmin time lit placed p.link p.ticked p.marks p.sent input next k f.kind in
    let mark : Mark = mark_at time p.link.state next (mover_of input at) in
    let j : IsAmong m (now_moved (mark ∷ p.marks)) =
    subst (λ (xs : List Mark). IsAmong m (now_moved xs)) (sym (marked_new time p.link.state next (mover_of input at) p.marks f.changes)) i in
    elim (idle_or_not p.link.state) [
      | inl idle ↦
          elim (of_with input at [] m (subst (λ (xs : List Sending). IsAmong m xs) (moved_first mark p.marks idle) j)) [
            | inl x ↦ told_now life dmin time lit peers p q input at m kq h a.long x.0
            | inr x ↦ absurd x
          ]
      | inr awake ↦
          elim (of_with input at (now_moved p.marks) m
          (subst (λ (xs : List Sending). IsAmong m xs) (moved_more mark p.marks (not_same_idle p.link.state awake)) j)) [
            | inl x ↦ told_now life dmin time lit peers p q input at m kq h a.long x.0
            | inr x ↦ pair awake m x
          ]
    ]

pair_stays :
    (peers : Option Module) (p : Port) (time : ℤ) (by : Option Sending) → LitPair p peers →
    p.link.state ≢ Idle → (m : Sending) → IsAmong m (now_moved (marked time p.link.state p.link.state by p.marks)) → IsOwn peers m.0
pair_stays peers p time by pair a m i =
    pair a m
    (subst (λ (xs : List Mark). IsAmong m (now_moved xs)) (sym (marked_same time p.link.state p.link.state by p.marks (is_same_self p.link.state))) i)

counts_pair :
    (peers : Option Module) (p : Port) (time : ℤ) (by : Option Sending) (s : LinkState) → LitPair p peers →
    (counted p.link s).state ≢ Idle → (m : Sending) →
    IsAmong m (now_moved (marked time p.link.state (counted p.link s).state by p.marks)) → IsOwn peers m.0
counts_pair peers p time by Idle pair a m i = pair_stays peers p time by pair a m i
counts_pair peers p time by _ pair a m i = pair_stays peers p time by pair a m i

pair_row :
    (life dmin : ℕ) (time lit : ℤ) (placed peers : Option Module) (p q : Port) (input : LinkIn) (at : ℤ) (row : Row) →
    LitAt life dmin time lit placed p → LitAt life dmin time lit peers q → LitPair p peers → MayHear life dmin time p q input at →
    RowFits p.link.role p.link.state p.link input row → LitPair (port_by time p input at row) peers
pair_row life dmin time lit placed peers p q input at NoRow k kq pair h f = pair_stays peers p time (mover_of input at) pair
pair_row life dmin time lit placed peers p q input at (Stays ms) k kq pair h f = pair_stays peers p time (mover_of input at) pair
pair_row life dmin time lit placed peers p q input at (Moves next ms) k kq pair h f =
    λ a. pair_moves life dmin time lit placed peers p q input at next ms k kq pair h f
pair_row life dmin time lit placed peers p q input at (Keeps tx rx next ms) k kq pair h f =
    λ a. pair_moves life dmin time lit placed peers p q input at next ms k kq pair h f
pair_row life dmin time lit placed peers p q input at (Resends ms) k kq pair h f = pair_stays peers p time (mover_of input at) pair
pair_row life dmin time lit placed peers p q input at Fails k kq pair h f = λ a. absurd (a refl)
pair_row life dmin time lit placed peers p q input at Waits k kq pair h f = pair_stays peers p time (mover_of input at) pair
pair_row life dmin time lit placed peers p q input at Counts k kq pair h f = counts_pair peers p time (mover_of input at) p.link.state pair
pair_row life dmin time lit placed peers p q input at (CarrierComes fitted) k kq pair h f = λ a. absurd (a refl)
pair_row life dmin time lit placed peers p q input at CarrierGoes k kq pair h f = λ a. absurd (a refl)

-- a link

-- a port whose quiet time is over got its carrier long ago
pub lit_long_ago :
    (life dmin : ℕ) (time lit : ℤ) (placed : Option Module) (p : Port) → LitAt life dmin time lit placed p → IsAwake p → IsLongAgo life time lit
lit_long_ago life dmin time lit placed p k h =
    elim (idle_or_not p.link.state) [
      | inl idle ↦
          elim h.over [
            | inl out ↦ absurd (out idle)
            | inr over ↦
                calm_over life dmin p.link.set.quiet p.ticked time lit k.counts k.tick_past
                (subst (λ (n : ℕ). Calm dmin p.link.set.quiet n p.ticked lit) over (k.calm idle h.lit))
          ]
      | inr out ↦ k.awake out
    ]

pub record LitKeeps (life dmin : ℕ) (w : BothPorts) (lit : ℤ) (placed : Role → Option Module) : Type 0 where
  pub master : LitAt life dmin w.time lit (placed Master) w.master
  pub slave : LitAt life dmin w.time lit (placed Slave) w.slave
  pub down : LitPair w.master (placed Slave)
  pub up : LitPair w.slave (placed Master)
  pub is_master : w.master.link.role ≡ Master
  pub is_slave : w.slave.link.role ≡ Slave

lit_hears :
    (life dmin : ℕ) (w : BothPorts) (lit : ℤ) (placed : Role → Option Module) (role : Role) (input : LinkIn) (at : ℤ) →
    MayHear life dmin w.time (end_of w role) (end_of w (other_of role)) input at → IsNoCarrier input →
    LitKeeps life dmin w lit placed → LitKeeps life dmin (with_end w role (after_input w.time (end_of w role) input at)) lit placed
lit_hears life dmin w lit placed Master input at h n k =
    let f : RowFits w.master.link.role w.master.link.state w.master.link input (row_of w.master.link input) =
    row_fits w.master.link input k.master.ordered.belongs in
    record {
      master = lit_heard life dmin w.time lit (placed Master) w.master w.slave input at k.master h n;
      slave = k.slave;
      down = pair_row life dmin w.time lit (placed Master) (placed Slave) w.master w.slave input at (row_of w.master.link input) k.master k.slave k.down h f;
      up = k.up;
      is_master = by_row_role w.master.link (row_of w.master.link input) ∙ k.is_master;
      is_slave = k.is_slave;
    }
lit_hears life dmin w lit placed Slave input at h n k =
    let f : RowFits w.slave.link.role w.slave.link.state w.slave.link input (row_of w.slave.link input) =
    row_fits w.slave.link input k.slave.ordered.belongs in
    record {
      master = k.master;
      slave = lit_heard life dmin w.time lit (placed Slave) w.slave w.master input at k.slave h n;
      down = k.down;
      up = pair_row life dmin w.time lit (placed Slave) (placed Master) w.slave w.master input at (row_of w.slave.link input) k.slave k.master k.up h f;
      is_master = k.is_master;
      is_slave = by_row_role w.slave.link (row_of w.slave.link input) ∙ k.is_slave;
    }

lit_later : (life dmin : ℕ) (time lit : ℤ) (placed : Option Module) (p : Port) (dt : ℕ) → LitAt life dmin time lit placed p → LitAt life dmin (time +ℤ pos dt) lit placed p
lit_later life dmin time lit placed p dt k =
    let le : time ≤ℤ (time +ℤ pos dt) = passes time time dt (int_le_self time) in
    record {
      ordered = k.ordered;
      counts = k.counts;
      tick_past = later k.tick_past le;
      lit_past = later k.lit_past le;
      past = λ f i. later (k.past f i) le;
      calm = k.calm;
      awake = λ a. passes_below lit time (2 * life) dt (k.awake a);
      lit_on = k.lit_on;
      listed = k.listed;
      in_place = k.in_place;
      told = k.told;
      knows = k.knows;
      fresh = k.fresh;
      turned_on = k.turned_on;
    }

lit_starts : (life dmin : ℕ) (time lit : ℤ) (placed : Option Module) (p : Port) → LitAt life dmin time lit placed p → LitAt life dmin time lit placed (record p { ticked = time })
lit_starts life dmin time lit placed p k =
    record {
      ordered = k.ordered;
      counts = k.counts;
      tick_past = int_le_self time;
      lit_past = k.lit_past;
      past = k.past;
      calm = λ i e. calm_later dmin p.link.set.quiet p.link.quiet p.ticked time lit k.tick_past (k.calm i e);
      awake = k.awake;
      lit_on = k.lit_on;
      listed = k.listed;
      in_place = k.in_place;
      told = k.told;
      knows = k.knows;
      fresh = k.fresh;
      turned_on = k.turned_on;
    }

pub never : (a b : ℤ) → a ≤ℤ b → b <ℤ a → ⊥
never a b h k = omega (arith, ints)

lit_comes :
    (life dmin : ℕ) (time lit : ℤ) (placed : Option Module) (p : Port) (fitted : Option Module) →
    LitAt life dmin time lit placed p → LitAt life dmin time time fitted (after_input time p (CarrierUp fitted) (pos 0))
lit_comes life dmin time lit placed p fitted k =
    lit_idle life dmin time time fitted (with_carrier p.link fitted) p.ticked
    (marked time p.link.state Idle None p.marks) p.sent
    (after_ordered p.link (CarrierUp fitted) k.ordered) refl k.counts k.tick_past (int_le_self time) k.past
    (λ _. inl refl) (inl refl)
    (λ f i new. absurd (never f.1 time (k.past f i) new))

lit_changes :
    (life dmin : ℕ) (w : BothPorts) (lit : ℤ) (placed : Role → Option Module) (c : Change) → MayCome life dmin w c → LitKeeps life dmin w lit placed →
    LitKeeps life dmin (changed w c) (lit_by w c lit) (λ role. placed_by c role (placed role))
lit_changes life dmin w lit placed (Passes dt) h k =
    record {
      master = lit_later life dmin w.time lit (placed Master) w.master dt k.master;
      slave = lit_later life dmin w.time lit (placed Slave) w.slave dt k.slave;
      down = k.down;
      up = k.up;
      is_master = k.is_master;
      is_slave = k.is_slave;
    }
lit_changes life dmin w lit placed (Hears role input at) h k = lit_hears life dmin w lit placed role input at h.1 h.0 k
lit_changes life dmin w lit placed (Starts Master) h k =
    record {
      master = lit_starts life dmin w.time lit (placed Master) w.master k.master;
      slave = k.slave;
      down = k.down;
      up = k.up;
      is_master = k.is_master;
      is_slave = k.is_slave;
    }
lit_changes life dmin w lit placed (Starts Slave) h k =
    record {
      master = k.master;
      slave = lit_starts life dmin w.time lit (placed Slave) w.slave k.slave;
      down = k.down;
      up = k.up;
      is_master = k.is_master;
      is_slave = k.is_slave;
    }
lit_changes life dmin w lit placed (Lights of_master of_slave) h k =
    record {
      master = lit_comes life dmin w.time lit (placed Master) w.master of_master k.master;
      slave = lit_comes life dmin w.time lit (placed Slave) w.slave of_slave k.slave;
      down = λ a. absurd (a refl);
      up = λ a. absurd (a refl);
      is_master = k.is_master;
      is_slave = k.is_slave;
    }

lit_new : (life dmin : ℕ) (time : ℤ) (role : Role) (set : LinkSet) → OutlivesFrames life dmin set →
    LitPort life dmin time time None (new_link role set) time [] []
lit_new life dmin time role set c1 =
    lit_idle life dmin time time None (new_link role set) time [] [] (new_ordered role set) refl c1 (int_le_self time) (int_le_self time)
    (λ f i. absurd i) (λ e. cc) (inl refl) (λ f i. absurd i)

lit_start :
    (life dmin : ℕ) (time : ℤ) (of_master of_slave : LinkSet) → OutlivesFrames life dmin of_master → OutlivesFrames life dmin of_slave →
    LitKeeps life dmin (new_ends of_master of_slave time) time (placed_at [])
lit_start life dmin time of_master of_slave hm hs =
    record {
      master = lit_new life dmin time Master of_master hm;
      slave = lit_new life dmin time Slave of_slave hs;
      down = λ a. absurd (a refl);
      up = λ a. absurd (a refl);
      is_master = refl;
      is_slave = refl;
    }

lit_all :
    (life dmin : ℕ) (ends : BothPorts) (changes : List Change) → AllMayCome life dmin ends changes → LitKeeps life dmin ends ends.time (placed_at []) →
    LitKeeps life dmin (ends_after ends changes) (lit_at ends changes) (placed_at changes)
lit_all life dmin ends [] h k = k
lit_all life dmin ends (change ∷ older) h k =
    lit_changes life dmin (ends_after ends older) (lit_at ends older) (placed_at older) change h.0 (lit_all life dmin ends older h.1 k)

-- of all ends that can be
pub can_keep_lit :
    (life dmin : ℕ) (ends : BothPorts) (can : CanBe life dmin ends) →
    LitKeeps life dmin ends (lit_at (new_ends can.of_master can.of_slave can.start) can.changes) (placed_at can.changes)
can_keep_lit life dmin ends h =
    subst (λ (e : BothPorts). LitKeeps life dmin e (lit_at (new_ends h.of_master h.of_slave h.start) h.changes) (placed_at h.changes)) (sym h.is)
    (lit_all life dmin (new_ends h.of_master h.of_slave h.start) h.changes h.come
    (lit_start life dmin h.start h.of_master h.of_slave h.master_quiet h.slave_quiet))

module_at : (f : Option Module) → is_some f ≡ true → (x : Module) × (f ≡ Some x)
module_at None e = cc
module_at (Some x) e = (x, refl)

listed_in_place : (placed : Option Module) (l : LinkAt) (x : Module) → InPlace placed l → l.own_module ≡ Some x → placed ≡ Some x
listed_in_place placed l x at e =
    elim at [ inl same ↦ sym same ∙ e | inr none ↦ (let no : None ≡ Some x = sym none.0 ∙ e in absurd cc) ]

pub deltas_by :
    (life dmin : ℕ) (w : BothPorts) (lit : ℤ) (placed : Role → Option Module) → LitKeeps life dmin w lit placed → w.slave.link.state ≡ LinkOn →
    KnowsDeltas w.slave (placed Master) (placed Slave)
deltas_by life dmin w lit placed k on =
    let out : w.slave.link.state ≢ Idle = λ i. (let x : LinkOn ≡ Idle = sym on ∙ i in cc) in
    let knows_at : knows w.slave.link.role w.slave.link.state ≡ true =
    ap (λ (r : Role). knows r w.slave.link.state) k.is_slave ∙ ap (λ (s : LinkState). knows Slave s) on in
    let known : (t : ℕ × ℕ) × (w.slave.link.deltas ≡ Some t) = pair_there w.slave.link.deltas (k.slave.ordered.known ∙ knows_at) in
    let own : (x : Module) × (w.slave.link.own_module ≡ Some x) = module_at w.slave.link.own_module (k.slave.listed out) in
    let among : Among w.slave.marks known.0.0 known.0.1 = k.slave.knows known.0.0 known.0.1 known.1 in
    let x : (y : Module) × ((placed Master ≡ Some y) × (known.0.0 ≡ y.tx) × (known.0.1 ≡ y.rx)) =
    k.up out (CALIBRATED known.0.0 known.0.1, among.0) among.1 known.0.0 known.0.1 refl in
    record {
      own = own.0;
      peers = x.0;
      own_is = own.1;
      own_placed = listed_in_place (placed Slave) w.slave.link own.0 k.slave.in_place own.1;
      peers_placed = x.1.0;
      deltas = known.1 ∙ ap (λ (a : ℕ). Some (a, known.0.1)) x.1.1 ∙ ap (λ (b : ℕ). Some (x.0.tx, b)) x.1.2;
      at = among.0;
      told =
          subst (λ (a : ℕ). IsAmong (CALIBRATED a x.0.rx, among.0) (now_moved w.slave.marks)) x.1.1
          (subst (λ (b : ℕ). IsAmong (CALIBRATED known.0.0 b, among.0) (now_moved w.slave.marks)) x.1.2 among.1);
    }

-- a port with its carrier has the module in place
pub module_in_place : (placed : Option Module) (l : LinkAt) → InPlace placed l → l.carrier ≡ true → l.own_module ≡ placed
module_in_place placed l at lit = elim at [ inl same ↦ same | inr none ↦ (let no : true ≡ false = sym lit ∙ none.1 in absurd cc) ]
