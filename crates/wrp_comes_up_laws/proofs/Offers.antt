-- The offers of a master: at which ticks its port puts one out, and that the port is open then.
use Rattle.std.proofs.Common.{◌≡◌, ◌⊎◌, inl, inr, ◌∙◌, refl, ap, ap₂, sym, subst, ℕ, ◌+◌, ◌%◌, ◌==◌, ◌&&◌, ℤ, Bool, true, false, if◌then◌else◌, is_some, List, [], ◌∷◌, ◌++◌, map, None, Some, Result}
use Rattle.std.specs.List.{AllByRecursion}
use Rattle.std.proofs.lemmas.Bool.{and_parts, eqb-true, false≢true}
use Rattle.wrp_base.specs.declared.link.LinkState.{LinkState}
use Rattle.wrp_base.specs.declared.link.LinkState.TheVariants.{Idle, LinkOn}
use Rattle.wrp_base.specs.declared.link.LinkWord.TheVariants.{Down, Ptp, Quiet}
use Rattle.wrp_base.specs.declared.link.Role.{Role}
use Rattle.wrp_base.specs.declared.link.Role.TheVariants.{Master, Slave}
use Rattle.wrp_base.specs.declared.message.PtpMsg.{PtpMsg}
use Rattle.wrp_network.specs.declared.network.LinkCfg.{LinkCfg}
use Rattle.wrp_data.specs.declared.datasets.PortDs.{PortDs}
use Rattle.wrp_data.specs.Announce.{bit_where}
use Rattle.wrp_frame.specs.declared.fault.FrameFault.{FrameFault}
use Rattle.wrp_handshake_laws.specs.Ends.{Port}
use Rattle.wrp_handshake_laws.specs.Laws.{IsAwake}
use Rattle.wrp_link.specs.declared.interface.LinkIn.TheVariants as link_in
use Rattle.wrp_link.specs.LinkAt.{LinkAt}
use Rattle.wrp_link.specs.Rows.{offers}
use Rattle.wrp_link.specs.Table.{after, is_same, word_in}
use Rattle.wrp_node.specs.declared.interface.Input.{Input}
use Rattle.wrp_node.specs.declared.interface.Input.TheVariants.{Tick as TickInput, Sample, Frame, Sent, Carrier, Reset}
use Rattle.wrp_node.specs.NodeAt.{NodeAt, NodeSetting, Taken, certain_of, line_at, link_at, locked_of, setting_of}
use Rattle.wrp_node.specs.NodeStep.{node_step, servo_ticked}
use Rattle.wrp_node.proofs.Links.{before_ports}
use Rattle.wrp_port.specs.declared.line.Rest.{Rest}
use Rattle.wrp_port.specs.declared.setting.Setting.{Setting as PortSetting}
use Rattle.wrp_port.specs.Hearing.{is_open, is_open_word}
use Rattle.wrp_port.specs.History.{link_of as link_told, rest_after, ticks_open}
use Rattle.wrp_port.specs.LineAfter.{announces_on, first_turns, next_turns, ticked}
use Rattle.wrp_port.specs.Messages.{announce_of}
use Rattle.wrp_port.specs.Outputs.{scheduled_sends, where_due}
use Rattle.wrp_course.specs.declared.event.Event.{Event}
use Rattle.wrp_course.specs.declared.event.Event.TheVariants.{Tick}
use Rattle.wrp_course.specs.Given.{given_plain, sending, step_of, taken_of, world_step}
use Rattle.wrp_course.specs.LinkEnds.{port_at}
use Rattle.wrp_course.specs.Moved.{moved}
use Rattle.wrp_course.specs.Runs.{IsNetwork, WasPutOut}
use Rattle.wrp_course.specs.Setting.{Setting, end_of, link_of, node_setting_of}
use Rattle.wrp_course.specs.WorldAt.{Sending, WorldAt}
use Rattle.wrp_bound_laws.proofs.Frames.PutOut.{none_put, tick_put, tick_puts}
use Rattle.wrp_bound_laws.proofs.Nodes.Inputs.{IsNoTick, no_tick_to, tick_or_not}
use Rattle.wrp_bound_laws.proofs.Nodes.StepSends.{ScheduledAll, SentBy, step_each}
use Rattle.wrp_bound_laws.proofs.Schedules.ScheduleSince.{PortOf, told_then}
use Rattle.wrp_bound_laws.proofs.Sources.Parents.{ticked_node}
use Rattle.wrp_comes_up_laws.specs.Served.{offers_in}
use Rattle.wrp_comes_up_laws.proofs.Counts.{CountsAt, OpensAt, open_then}
use Rattle.wrp_comes_up_laws.proofs.Grounds.{Laws}
use Rattle.wrp_comes_up_laws.proofs.Heard.{ds_is}
use Rattle.wrp_bound_laws.proofs.Runs.PortRoles.{role_is, set_at}

-- Awake and open

open_where : (b : Bool) → is_open_word (if b then Ptp else Quiet) ≡ true → b ≡ true
open_where true e = refl
open_where false e = absurd (false≢true e)

awake_by : (c : Bool) (s : LinkState) (quiet : ℕ) → is_open_word (if c then word_in s quiet else Down) ≡ true → (c ≡ true) × ((s ≡ Idle → ⊥) ⊎ (quiet ≡ 0))
awake_by false s quiet e = absurd (false≢true e)
awake_by true Idle quiet e = (refl, inr (eqb-true quiet 0 (open_where (quiet == 0) e)))
awake_by true _ quiet e = (refl, inl (λ i. cc))

open_by : (c : Bool) (s : LinkState) (quiet : ℕ) → c ≡ true → (s ≡ Idle → ⊥) ⊎ (quiet ≡ 0) → is_open_word (if c then word_in s quiet else Down) ≡ true
open_by false s quiet e which = absurd (false≢true e)
open_by true Idle quiet e (inl out) = absurd (out refl)
open_by true Idle quiet e (inr over) = ap (λ (b : Bool). is_open_word (if b then Ptp else Quiet)) (ap (λ n. n == 0) over)
open_by true _ quiet e which = refl

-- a port is awake if and only if it is open
pub open_awake : (q : Port) → is_open q.link ≡ true → IsAwake q
open_awake q e = let it : (q.link.carrier ≡ true) × ((q.link.state ≡ Idle → ⊥) ⊎ (q.link.quiet ≡ 0)) =
    awake_by q.link.carrier q.link.state q.link.quiet e in record { lit = it.0; over = it.1 }

pub awake_open : (q : Port) → IsAwake q → is_open q.link ≡ true
awake_open q a = open_by q.link.carrier q.link.state q.link.quiet a.lit a.over

-- What a step sends

-- the line of a port as its node ticks
abbrev pub line_now : NodeSetting → NodeAt → ℕ → Rest
line_now fixed n p =
    ticked (setting_of fixed.set p) (line_at fixed.set (servo_ticked fixed n).node p) (locked_of fixed (servo_ticked fixed n).node)

-- an offer is sent only at a tick at which an Announce is due
abbrev pub MayOffer : NodeSetting → NodeAt → ℕ → Input → Type 0
MayOffer fixed n p TickInput = announces_on (line_now fixed n p) ≡ true
MayOffer fixed n p _ = ⊥

abbrev OnlyWhen : Type 0 → List PtpMsg → Type 0
OnlyWhen C ms = AllByRecursion (λ m. offers_in m.body ≡ true → C) ms

scheduled_offers :
    (C : Type 0) (set : PortSetting) (role : Role) (line : Rest) (certain : Bool) → (announces_on line ≡ true → C) →
    ScheduledAll (λ m. offers_in m.body ≡ true → C) set role line certain
scheduled_offers C set Master line certain h = (λ e o. h e, λ e o. absurd (false≢true o))
scheduled_offers C set Slave line certain h = λ e o. absurd (false≢true o)

offers_by : (fixed : NodeSetting) (n : NodeAt) (p : ℕ) (input : Input) (says : Result PtpMsg FrameFault) →
    SentBy (λ m. offers_in m.body ≡ true → MayOffer fixed n p input) fixed n p input says
offers_by fixed n p TickInput says =
    scheduled_offers (announces_on (line_now fixed n p) ≡ true) (setting_of fixed.set p) (setting_of fixed.set p).ds.role (line_now fixed n p)
    (certain_of fixed (servo_ticked fixed n).node) (λ e. e)
offers_by fixed n p (Sample number base bits) says = tt
offers_by fixed n p (Frame q octets raw sample) says = λ m is same hears request o. absurd (false≢true o)
offers_by fixed n p (Sent q seq delay stamp) says = λ e same o. absurd (false≢true o)
offers_by fixed n p (Carrier q up own_module) says = tt
offers_by fixed n p Reset says = tt

offers_only : (fixed : NodeSetting) (t : Taken) (n : NodeAt) (p : ℕ) → OnlyWhen (MayOffer fixed n p t.input) ((node_step fixed t n).sends p)
offers_only fixed t n p =
    step_each (λ m. offers_in m.body ≡ true → MayOffer fixed n p t.input) fixed t n p (λ seq m o. absurd (false≢true o)) (offers_by fixed n p t.input t.says)

-- In a world

sent_when : (C : Type 0) (v : WorldAt) (x : Sending) (ms : List PtpMsg) → offers_in x.message.body ≡ true → OnlyWhen C ms →
    WasPutOut x (map (sending v) ms) → C
sent_when C v x [] offer only h = absurd h
sent_when C v x (m ∷ ms) offer only h = elim h [
  | inl is ↦ only.0 (ap (λ (t : Sending). offers_in t.message.body) (sym is) ∙ offer)
  | inr rest ↦ sent_when C v x ms offer only.1 rest
]

no_offer : (s : Setting) (v : WorldAt) (n p : ℕ) (input : Input) → IsNoTick input → MayOffer (node_setting_of s n) (v.node n) p input → ⊥
no_offer s v n p TickInput h m = absurd h
no_offer s v n p _ h m = m

-- it is new in a tick of the master's node, at which an Announce is due
pub offer_in :
    (s : Setting) (says : Result PtpMsg FrameFault) (y : ℤ) (w : WorldAt) (e : Event) (k : ℕ) (link : LinkCfg) (x : Sending) →
    link_of s k ≡ Some link → offers_in x.message.body ≡ true →
    WasPutOut x ((world_step s says y w e).end_at k Master).sent →
    WasPutOut x (w.end_at k
    Master).sent ⊎ ((e ≡ Tick link.upper) × (announces_on (line_now (node_setting_of s link.upper) (w.node link.upper) link.upper_port) ≡ true))
offer_in s says y w e k link x is offer put = elim (tick_or_not link.upper e) [
  | inl tick ↦
      elim (tick_put s says y w k Master link x is (subst (λ t. WasPutOut x ((world_step s says y w t).end_at k Master).sent) tick put)) [
        | inl old ↦ inl old
        | inr new ↦
            inr (
              tick,
              sent_when (announces_on (line_now (node_setting_of s link.upper) (w.node link.upper) link.upper_port) ≡ true) (moved s w (Tick link.upper)) x
                  ((step_of s y (moved s w (Tick link.upper)) (given_plain link.upper TickInput)).sends link.upper_port) offer
                  (offers_only (node_setting_of s link.upper) (taken_of y (given_plain link.upper TickInput)) (w.node link.upper) link.upper_port) new,
            )
      ]
  | inr other ↦
      inl (none_put IsNoTick s says y w e k Master link x is
      (λ v g none new.
      no_offer s v g.to link.upper_port g.input none
      (sent_when (MayOffer (node_setting_of s g.to) (v.node g.to) link.upper_port g.input) v x ((step_of s y v g).sends link.upper_port) offer
      (offers_only (node_setting_of s g.to) (taken_of y g) (v.node g.to) link.upper_port) new))
      (no_tick_to link.upper e other) put)
]

-- the port is open after the tick if and only if its line is
pub open_now :
    Laws → (s : Setting) (says : Result PtpMsg FrameFault) (y : ℤ) (w : WorldAt) (k : ℕ) (link : LinkCfg) →
    is_open (port_at s (world_step s says y w (Tick link.upper)) k Master (end_of Master link)).link
    ≡ is_open (line_now (node_setting_of s link.upper) (w.node link.upper) link.upper_port).link
open_now laws s says y w k link =
    let n : ℕ = link.upper in
    let p : ℕ = link.upper_port in
    let fixed : NodeSetting = node_setting_of s n in
    ap (λ (x : NodeAt). is_open (link_at (s.set n) x p)) (ticked_node s says y w n n refl).0
    ∙ ap is_open (laws.links fixed (taken_of y (given_plain n TickInput)) (w.node n) p)
    ∙ ap (λ (l : LinkAt). is_open (after l (link_in.Tick (locked_of fixed (servo_ticked fixed (w.node n)).node)))) (sym (before_ports fixed (w.node n) p))

-- its line is open if an Announce is due
pub due_open : (line : Rest) → announces_on line ≡ true → is_open line.link ≡ true
due_open line due = (and_parts (is_open line.link) (line.turns.announce == 0) due).0

-- An offer that is due

two_flags : (known on : Bool) → offers (Some (1 + bit_where 2 known + bit_where 3 on)) ≡ true
two_flags true true = refl
two_flags true false = refl
two_flags false true = refl
two_flags false false = refl

announce_offers : (set : PortSetting) (l : LinkAt) (certain : Bool) (seq : ℕ) → set.ds.wr ≡ true → offers_in (announce_of set l certain seq).body ≡ true
announce_offers set l certain seq wr =
    ap (λ (b : Bool). offers (if b then Some (1 + bit_where 2 (is_some l.own_module) + bit_where 3 (is_same l.state LinkOn)) else None)) wr
    ∙ two_flags (is_some l.own_module) (is_same l.state LinkOn)

in_first : (v : WorldAt) (x : Sending) (a b : List PtpMsg) → WasPutOut x (map (sending v) a) → WasPutOut x (map (sending v) (a ++ b))
in_first v x [] b h = absurd h
in_first v x (m ∷ a) b h = elim h [ inl e ↦ inl e | inr t ↦ inr (in_first v x a b t) ]

in_last : (v : WorldAt) (x : Sending) (a b : List PtpMsg) → WasPutOut x (map (sending v) b) → WasPutOut x (map (sending v) (a ++ b))
in_last v x [] b h = h
in_last v x (m ∷ a) b h = inr (in_last v x a b h)

due_sent : (v : WorldAt) (due : Bool) (m : PtpMsg) → due ≡ true → WasPutOut (sending v m) (map (sending v) (where_due due m))
due_sent v true m e = inl refl
due_sent v false m e = absurd (false≢true e)

slave_not : Slave ≡ Master → ⊥
slave_not e = cc

-- what is due is among what the schedule sends
scheduled_sent :
    (v : WorldAt) (set : PortSetting) (role : Role) (line : Rest) (certain : Bool) → role ≡ Master → announces_on line ≡ true →
    WasPutOut (sending v (announce_of set line.link certain line.ids.announce)) (map (sending v) (scheduled_sends set role line certain))
scheduled_sent v set Master line certain e due =
    in_first v (sending v (announce_of set line.link certain line.ids.announce))
    (where_due (announces_on line) (announce_of set line.link certain line.ids.announce)) _
    (due_sent v (announces_on line) (announce_of set line.link certain line.ids.announce) due)
scheduled_sent v set Slave line certain e due = absurd (slave_not e)

-- an offer that is put out now
pub record OfferNow (s : Setting) (w : WorldAt) (v : WorldAt) (k : ℕ) : Type 0 where
  pub frame : Sending
  pub put : WasPutOut frame (w.end_at k Master).sent
  pub newest : frame.moment ≡ v.count
  pub offers : offers_in frame.message.body ≡ true
  pub time : frame.at ≡ v.time

pub offer_put :
    Laws → (s : Setting) → IsNetwork s → (says : Result PtpMsg FrameFault) (y : ℤ) (w : WorldAt) (k : ℕ) (link : LinkCfg) → link_of s k ≡ Some link →
    link.wr ≡ true →
    announces_on (line_now (node_setting_of s link.upper) (w.node link.upper) link.upper_port) ≡ true →
    OfferNow s (world_step s says y w (Tick link.upper)) (moved s w (Tick link.upper)) k
offer_put laws s net says y w k link is wr due =
    let n : ℕ = link.upper in
    let fixed : NodeSetting = node_setting_of s n in
    let v : WorldAt = moved s w (Tick n) in
    let set : PortSetting = set_at s Master link in
    let line : Rest = line_now fixed (w.node n) link.upper_port in
    let certain : Bool = certain_of fixed (servo_ticked fixed (w.node n)).node in
    let m : PtpMsg = announce_of set line.link certain line.ids.announce in
    record {
      frame = sending v m;
      put =
          tick_puts s says y w k Master link (sending v m) is
          (in_last v (sending v m) _ (scheduled_sends set set.ds.role line certain)
          (scheduled_sent v set set.ds.role line certain (role_is laws.ends s net k Master link is) due));
      newest = refl;
      offers = announce_offers set line.link certain line.ids.announce (ap (λ (d : PortDs). d.wr) (ds_is laws.ends s net k Master link is) ∙ wr);
      time = refl;
    }

-- the master's port at an end of a link
abbrev pub master_of : LinkCfg → PortOf
master_of link = record { node = link.upper; port = link.upper_port }

-- it is due after this many ticks
pub is_due_now :
    (s : Setting) (c : ℕ) (w : WorldAt) (link : LinkCfg) → OpensAt s (master_of link) w → CountsAt s (master_of link) c w →
    is_open (line_now (node_setting_of s link.upper) (w.node link.upper) link.upper_port).link ≡ true →
    (c % (set_at s Master link).sched.announce + 1) % (set_at s Master link).sched.announce ≡ 0 →
    announces_on (line_now (node_setting_of s link.upper) (w.node link.upper) link.upper_port) ≡ true
is_due_now s c w link takes counts now whole =
    let set : PortSetting = set_at s Master link in
    let fixed : NodeSetting = node_setting_of s link.upper in
    let line : Rest = line_now fixed (w.node link.upper) link.upper_port in
    let then_ : (is_open (link_told set (told_then s (master_of link) w)) ≡ true) × (ticks_open set (told_then s (master_of link) w) ≡ c) =
    open_then s (master_of link) c w takes counts in
    let turn : line.turns.announce ≡ (c % set.sched.announce + 1) % set.sched.announce =
    ap (λ (b : Bool). (if b
    then (if is_open (link_told set (told_then s (master_of link) w)) then next_turns set.sched
    (rest_after set (told_then s (master_of link) w)).turns else first_turns) else first_turns).announce) now
    ∙ ap (λ (b : Bool). (if b then next_turns set.sched (rest_after set (told_then s (master_of link) w)).turns else first_turns).announce) then_.0
    ∙ ap (λ k. (k % set.sched.announce + 1) % set.sched.announce) then_.1 in
    ap₂ (λ (b : Bool) k. b && (k == 0)) now (turn ∙ whole)
