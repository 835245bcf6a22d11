-- A port since a moment at which it had no carrier: its quiet time still runs, or more than two lives of a frame have passed.
use Rattle.std.proofs.Common.{◌≡◌, ◌≢◌, ◌⊎◌, inl, inr, refl, sym, subst, ℕ, ◌-◌, ◌*◌, ◌<◌, ◌==◌, ℤ, pos, ◌+ℤ◌, ◌<ℤ◌, ◌≤ℤ◌, Bool, true, false, if◌then◌else◌, List, [], ◌∷◌, Some, Result, arith}
use Rattle.std.proofs.lemmas.Bool.Decides.{eqb_tells}
use Rattle.std.proofs.lemmas.Int.{ints}
use Rattle.wrp_base.specs.declared.link.LinkState.{LinkState}
use Rattle.wrp_base.specs.declared.link.LinkState.TheVariants.{Idle, LinkOn}
use Rattle.wrp_base.specs.declared.link.Role.{Role}
use Rattle.wrp_base.specs.declared.message.PtpMsg.{PtpMsg}
use Rattle.wrp_network.specs.Network.{End}
use Rattle.wrp_base.proofs.Booleans.{not_both}
use Rattle.wrp_base.proofs.Integers.{int_le_self, int_le_trans}
use Rattle.wrp_bounds.specs.Times.{frame_life, shortest_tick}
use Rattle.wrp_frame.specs.declared.fault.FrameFault.{FrameFault}
use Rattle.wrp_handshake_laws.specs.Ends.{OutlivesFrames, Port, ticked_by}
use Rattle.wrp_handshake_laws.specs.Laws.{IsAwake, IsLongAgo}
use Rattle.wrp_handshake_laws.proofs.Inputs.{engaged_awake, idle_or_not, tick_grows, tick_past}
use Rattle.wrp_handshake_laws.proofs.Parts.{not_idle}
use Rattle.wrp_handshake_laws.proofs.RowFits.{RowFits, row_fits}
use Rattle.wrp_handshake_laws.proofs.Stages.{Kind, opening, engaging, answering, binding, going_on}
use Rattle.wrp_handshake_laws.proofs.Times.{Calm, calm_later, calm_over, calm_tick}
use Rattle.wrp_link.specs.declared.interface.LinkIn.{LinkIn}
use Rattle.wrp_link.specs.declared.interface.LinkIn.TheVariants as link_in
use Rattle.wrp_link.specs.LinkAt.{LinkAt, new_link}
use Rattle.wrp_link.specs.Rows.{Row, NoRow, Stays, Moves, Keeps, Resends, Fails, Waits, Counts, CarrierComes, CarrierGoes, row_of}
use Rattle.wrp_link.specs.Table.{by_row, counted}
use Rattle.wrp_link.proofs.Fits.{Belongs}
use Rattle.wrp_link.proofs.Orders.{new_ordered, run_ordered}
use Rattle.wrp_node.specs.declared.interface.Input.{Input}
use Rattle.wrp_node.specs.declared.interface.Input.TheVariants.{Tick, Sample, Frame, Sent, Carrier, Reset}
use Rattle.wrp_node.specs.declared.interface.NodeSet.{NodeSet}
use Rattle.wrp_node.specs.LinkNews.{LinkNews, Nothing, Given as Handed, Renewed, StepGivesLinks, frame_news, news_at}
use Rattle.wrp_node.specs.NodeAt.{NodeAt, NodeSetting, link_at, setting_of}
use Rattle.wrp_node.specs.Sends.{SignalsAreOfLink}
use Rattle.wrp_port.specs.History.{link_inputs}
use Rattle.wrp_course.specs.Given.{Given, gives, gives_all}
use Rattle.wrp_course.specs.LinkEnds.{port_at}
use Rattle.wrp_course.specs.Runs.{IsNetwork}
use Rattle.wrp_course.specs.Setting.{Setting, end_at, node_setting_of}
use Rattle.wrp_course.specs.WorldAt.{WorldAt}
use Rattle.wrp_course.proofs.RunGifts.{AllGiven}
use Rattle.wrp_course.proofs.RunPorts.{any_frame, link_set, port_by_news, port_given, port_other}
use Rattle.wrp_course.proofs.RunTicks.{NoTick}

-- what is known of a link whose carrier was not there before this time: it is in quiet time, of which no more has passed than
-- since then, or two lives of a frame have
pub record SinceLit (life dmin : ℕ) (time lit : ℤ) (l : LinkAt) (ticked : ℤ) : Type 0 where
  pub past : ticked ≤ℤ time
  pub lit_past : lit ≤ℤ time
  pub calm : l.state ≡ Idle → l.carrier ≡ true → Calm dmin l.set.quiet l.quiet ticked lit
  pub awake : l.state ≢ Idle → (lit +ℤ pos (2 * life)) <ℤ time

-- the same state later
pub starts_later : (life dmin : ℕ) (time lit : ℤ) (l : LinkAt) (ticked later : ℤ) → SinceLit life dmin time lit l ticked → ticked ≤ℤ later → later ≤ℤ time → SinceLit life dmin time lit l later
starts_later life dmin time lit l ticked later k le most = record {
  past = most;
  lit_past = k.lit_past;
  calm = λ i c. calm_later dmin l.set.quiet l.quiet ticked later lit le (k.calm i c);
  awake = k.awake;
}

past_still : (a b now later : ℤ) → (a +ℤ b) <ℤ now → now ≤ℤ later → (a +ℤ b) <ℤ later
past_still a b now later h k = omega (arith, ints)

pub later_time : (life dmin : ℕ) (time later lit : ℤ) (l : LinkAt) (ticked : ℤ) → SinceLit life dmin time lit l ticked → time ≤ℤ later → SinceLit life dmin later lit l ticked
later_time life dmin time later lit l ticked k le = record {
  past = int_le_trans ticked time later k.past le;
  lit_past = int_le_trans lit time later k.lit_past le;
  calm = k.calm;
  awake = λ a. past_still lit (pos (2 * life)) time later (k.awake a) le;
}

-- One input

-- where a move begins
from_where : (role : Role) (from : LinkState) (l : LinkAt) (input : LinkIn) (next : LinkState) → Kind role from l input next → ((from ≡ Idle) × (l.carrier ≡ true) × (l.quiet ≡ 0)) ⊎ (from ≢ Idle)
from_where role from l input next (opening i c f q s a) = inl (i, c, q)
from_where role from l input next (engaging i c f q e b m r) = inl (i, c, q)
from_where role from l input next (answering a e f b m r) = inr a
from_where role from l input next (binding e u f b m) = inr (engaged_awake role from e)
from_where role from l input next (going_on e u f b) = inr (engaged_awake role from e)

over : (life dmin : ℕ) (time lit : ℤ) (l : LinkAt) (ticked : ℤ) → 2 * life < (l.set.quiet - 1) * dmin → SinceLit life dmin time lit l ticked → l.state ≡ Idle → l.carrier ≡ true → l.quiet ≡ 0 → (lit +ℤ pos (2 * life)) <ℤ time
over life dmin time lit l ticked long k idle on quiet =
    calm_over life dmin l.set.quiet ticked time lit long k.past (subst (λ (n : ℕ). Calm dmin l.set.quiet n ticked lit) quiet (k.calm idle on))

leaves : (life dmin : ℕ) (time lit : ℤ) (l : LinkAt) (ticked : ℤ) (input : LinkIn) (next : LinkState) → 2 * life < (l.set.quiet - 1) * dmin → SinceLit life dmin time lit l ticked → Kind l.role l.state l input next → (lit +ℤ pos (2 * life)) <ℤ time
leaves life dmin time lit l ticked input next long k kind = elim (from_where l.role l.state l input next kind) [
  | inl x ↦ over life dmin time lit l ticked long k x.0 x.1 x.2
  | inr out ↦ k.awake out
]

counts_on : (life dmin : ℕ) (time lit : ℤ) (l : LinkAt) (ticked : ℤ) (s : LinkState) → SinceLit life dmin time lit l ticked → (ticked +ℤ pos dmin) ≤ℤ time → SinceLit life dmin time lit (counted l s) time
counts_on life dmin time lit l ticked Idle k early = record {
  past = int_le_self time;
  lit_past = k.lit_past;
  calm = λ i c. calm_tick dmin l.set.quiet l.quiet ticked time lit early k.lit_past (k.calm i c);
  awake = k.awake;
}
counts_on life dmin time lit l ticked LinkOn k early = record {
  past = int_le_self time;
  lit_past = k.lit_past;
  calm = λ i c. calm_later dmin l.set.quiet l.quiet ticked time lit k.past (k.calm i c);
  awake = k.awake;
}
counts_on life dmin time lit l ticked _ k early = starts_later life dmin time lit l ticked time k k.past (int_le_self time)

-- no tick comes sooner than dmin after the last
abbrev IsEarly : (dmin : ℕ) → (time ticked : ℤ) → LinkIn → Type 0
IsEarly dmin time ticked (link_in.Tick locked) = (ticked +ℤ pos dmin) ≤ℤ time
IsEarly dmin time ticked _ = Unit {0}

row_since : (life dmin : ℕ) (time lit : ℤ) (l : LinkAt) (ticked : ℤ) (input : LinkIn) (row : Row) → 2 * life < (l.set.quiet - 1) * dmin → IsEarly dmin time ticked input → RowFits l.role l.state l input row →
    SinceLit life dmin time lit l ticked → SinceLit life dmin time lit (by_row l row) (ticked_by input time ticked)
row_since life dmin time lit l ticked input (Moves next sends) long early f k = record {
  past = tick_past input time ticked k.past;
  lit_past = k.lit_past;
  calm = λ i c. absurd (not_idle next f.leaves i);
  awake = λ out. leaves life dmin time lit l ticked input next long k f.kind;
}
row_since life dmin time lit l ticked input (Keeps tx rx next sends) long early f k = record {
  past = tick_past input time ticked k.past;
  lit_past = k.lit_past;
  calm = λ i c. absurd (not_idle next f.leaves i);
  awake = λ out. leaves life dmin time lit l ticked input next long k f.kind;
}
row_since life dmin time lit l ticked input Fails long early f k =
    record { past = tick_past input time ticked k.past; lit_past = k.lit_past; calm = λ i c. inl refl; awake = λ out. absurd (out refl) }
row_since life dmin time lit l ticked input (CarrierComes own_module) long early f k =
    record { past = tick_past input time ticked k.past; lit_past = k.lit_past; calm = λ i c. inl refl; awake = λ out. absurd (out refl) }
row_since life dmin time lit l ticked input CarrierGoes long early f k =
    record { past = tick_past input time ticked k.past; lit_past = k.lit_past; calm = λ i c. absurd (not_both false c refl); awake = λ out. absurd (out refl) }
row_since life dmin time lit l ticked input Counts long early f k =
    subst (λ (i : LinkIn). SinceLit life dmin time lit (counted l l.state) (ticked_by i time ticked)) (sym f.1)
    (counts_on life dmin time lit l ticked l.state k (subst (IsEarly dmin time ticked) f.1 early))
row_since life dmin time lit l ticked input NoRow long early f k =
    starts_later life dmin time lit l ticked (ticked_by input time ticked) k (tick_grows input time ticked k.past) (tick_past input time ticked k.past)
row_since life dmin time lit l ticked input (Stays sends) long early f k =
    starts_later life dmin time lit l ticked (ticked_by input time ticked) k (tick_grows input time ticked k.past) (tick_past input time ticked k.past)
row_since life dmin time lit l ticked input (Resends sends) long early f k =
    let it : SinceLit life dmin time lit l (ticked_by input time ticked) = starts_later life dmin time lit l ticked (ticked_by input time ticked) k (tick_grows input time ticked k.past) (tick_past input time ticked k.past) in
    record { past = it.past; lit_past = it.lit_past; calm = it.calm; awake = it.awake }
row_since life dmin time lit l ticked input Waits long early f k =
    let it : SinceLit life dmin time lit l (ticked_by input time ticked) = starts_later life dmin time lit l ticked (ticked_by input time ticked) k (tick_grows input time ticked k.past) (tick_past input time ticked k.past) in
    record { past = it.past; lit_past = it.lit_past; calm = it.calm; awake = it.awake }

-- What a node is given

abbrev AreEarly : (dmin : ℕ) → (time ticked : ℤ) → LinkNews → Type 0
AreEarly dmin time ticked (Handed input) = IsEarly dmin time ticked input
AreEarly dmin time ticked _ = Unit {0}

abbrev PortSince : (life dmin : ℕ) → (time lit : ℤ) → Port → Type 0
PortSince life dmin time lit q = SinceLit life dmin time lit q.link q.ticked

news_since : (life dmin : ℕ) (time lit : ℤ) (q : Port) (at : ℤ) (news : LinkNews) → 2 * life < (q.link.set.quiet - 1) * dmin → Belongs q.link.role q.link.state → AreEarly dmin time q.ticked news →
    PortSince life dmin time lit q → PortSince life dmin time lit (port_by_news time q at news)
news_since life dmin time lit q at Nothing long belongs early k = k
news_since life dmin time lit q at (Handed input) long belongs early k =
    row_since life dmin time lit q.link q.ticked input (row_of q.link input) long early (row_fits q.link input belongs) k
news_since life dmin time lit q at Renewed long belongs early k =
    record { past = k.past; lit_past = k.lit_past; calm = λ i c. absurd (not_both false c refl); awake = λ out. absurd (out refl) }

-- a tick, not too early, or no tick
abbrev pub IsTimely : (dmin : ℕ) → (time ticked : ℤ) → Input → Type 0
IsTimely dmin time ticked Tick = (ticked +ℤ pos dmin) ≤ℤ time
IsTimely dmin time ticked _ = Unit {0}

early_where : (dmin : ℕ) (time ticked : ℤ) (b : Bool) (news : LinkNews) → AreEarly dmin time ticked news → AreEarly dmin time ticked (if b then news else Nothing)
early_where dmin time ticked true news h = h
early_where dmin time ticked false news h = tt

input_early : (fixed : NodeSetting) (n : NodeAt) (says : Result PtpMsg FrameFault) (input : Input) (p dmin : ℕ) (time ticked : ℤ) → IsTimely dmin time ticked input → AreEarly dmin time ticked (news_at fixed n input says p)
input_early fixed n says Tick p dmin time ticked h = h
input_early fixed n says (Sample number base bits) p dmin time ticked h = tt
input_early fixed n says (Frame x octets raw sample) p dmin time ticked h =
    early_where dmin time ticked (p == x) (frame_news fixed n x says) (any_frame (AreEarly dmin time ticked) tt (λ a. tt) (λ m. tt) fixed n x says)
input_early fixed n says (Sent x seq delay stamp) p dmin time ticked h = tt
input_early fixed n says (Carrier x true own_module) p dmin time ticked h = early_where dmin time ticked (p == x) (Handed (link_in.CarrierUp own_module)) tt
input_early fixed n says (Carrier x false own_module) p dmin time ticked h = early_where dmin time ticked (p == x) (Handed link_in.CarrierDown) tt
input_early fixed n says Reset p dmin time ticked h = tt

-- A port of a network

belongs_at : (s : Setting) (v : WorldAt) (n p : ℕ) → Belongs (link_at (s.set n) (v.node n) p).role (link_at (s.set n) (v.node n) p).state
belongs_at s v n p =
    (run_ordered (new_link (setting_of (s.set n) p).ds.role (setting_of (s.set n) p).link) (link_inputs (setting_of (s.set n) p) ((v.node n).told p))
    (new_ordered (setting_of (s.set n) p).ds.role (setting_of (s.set n) p).link)).belongs

quiet_at : (s : Setting) → IsNetwork s → (v : WorldAt) (n p : ℕ) → OutlivesFrames (frame_life s.cfg) (shortest_tick s.cfg) (link_at (s.set n) (v.node n) p).set
quiet_at s net v n p =
    subst (OutlivesFrames (frame_life s.cfg) (shortest_tick s.cfg)) (sym (link_set s v n p))
    (subst (λ (x : NodeSet). OutlivesFrames (frame_life s.cfg) (shortest_tick s.cfg) (setting_of x p).link) (sym (net.set n)) net.accepted.inequalities.quiet_time)

-- a port at an end of a link since this time
abbrev pub EndSince : Setting → WorldAt → ℕ → Role → End → ℤ → Type 0
EndSince s v k r end lit = PortSince (frame_life s.cfg) (shortest_tick s.cfg) v.time lit (port_at s v k r end)

pub given_since : StepGivesLinks → SignalsAreOfLink → (s : Setting) → IsNetwork s → (y : ℤ) (v : WorldAt) (g : Given) (k : ℕ) (r : Role) (end : End) (lit : ℤ) → end_at s k r ≡ Some end →
    IsTimely (shortest_tick s.cfg) v.time (v.clock g.to).ticked g.input → EndSince s v k r end lit → EndSince s (gives s y v g) k r end lit
given_since links signals s net y v g k r end lit is timely h =
    elim (eqb_tells end.node g.to) [
      | inl x ↦
          subst (PortSince (frame_life s.cfg) (shortest_tick s.cfg) v.time lit) (sym (port_given links signals s y v g k r end is x.1))
          (news_since (frame_life s.cfg) (shortest_tick s.cfg) v.time lit (port_at s v k r end) g.at (news_at (node_setting_of s g.to) (v.node g.to) g.input g.says end.port)
          (quiet_at s net v end.node end.port) (belongs_at s v end.node end.port)
          (input_early (node_setting_of s g.to) (v.node g.to) g.says g.input end.port (shortest_tick s.cfg) v.time (v.clock end.node).ticked
          (subst (λ n. IsTimely (shortest_tick s.cfg) v.time (v.clock n).ticked g.input) (sym x.1) timely)) h)
      | inr x ↦ subst (PortSince (frame_life s.cfg) (shortest_tick s.cfg) v.time lit) (sym (port_other s y v g k r end is x.1)) h
    ]

no_tick : (dmin : ℕ) (time ticked : ℤ) (input : Input) → NoTick input → IsTimely dmin time ticked input
no_tick dmin time ticked Tick h = absurd h
no_tick dmin time ticked (Sample number base bits) h = tt
no_tick dmin time ticked (Frame p octets raw sample) h = tt
no_tick dmin time ticked (Sent p seq delay stamp) h = tt
no_tick dmin time ticked (Carrier p up own_module) h = tt
no_tick dmin time ticked Reset h = tt

pub all_given_since : StepGivesLinks → SignalsAreOfLink → (s : Setting) → IsNetwork s → (y : ℤ) (gs : List Given) (v : WorldAt) (k : ℕ) (r : Role) (end : End) (lit : ℤ) → end_at s k r ≡ Some end → AllGiven NoTick gs →
    EndSince s v k r end lit → EndSince s (gives_all s y v gs) k r end lit
all_given_since links signals s net y [] v k r end lit is none h = h
all_given_since links signals s net y (g ∷ gs) v k r end lit is none h =
    all_given_since links signals s net y gs (gives s y v g) k r end lit is none.1
    (given_since links signals s net y v g k r end lit is (no_tick (shortest_tick s.cfg) v.time (v.clock g.to).ticked g.input none.0) h)

-- a port that is awake
pub long_since : (s : Setting) → IsNetwork s → (v : WorldAt) (k : ℕ) (r : Role) (end : End) (lit : ℤ) → EndSince s v k r end lit → IsAwake (port_at s v k r end) → IsLongAgo (frame_life s.cfg) v.time lit
long_since s net v k r end lit h awake =
    let q : Port = port_at s v k r end in
    elim (idle_or_not q.link.state) [
      | inl idle ↦
          elim awake.over [
            | inl out ↦ absurd (out idle)
            | inr quiet ↦ over (frame_life s.cfg) (shortest_tick s.cfg) v.time lit q.link q.ticked (quiet_at s net v end.node end.port) h idle awake.lit quiet
          ]
      | inr out ↦ h.awake out
    ]
