-- The tick of the node at an end of a link: its port sends other messages, and then the one that is stamped if it is
-- due; its port is open then.
use Rattle.std.proofs.Common.{◌≡◌, ap, sym, ◌∙◌, ℕ, ℤ, Bool, true, false, List, [], ◌∷◌, ◌++◌, Some, Result, inl, inr, refl, subst, map, pos}
use Rattle.wrp_base.specs.declared.link.Role.{Role}
use Rattle.wrp_base.specs.declared.link.Role.TheVariants.{Master, Slave}
use Rattle.wrp_base.specs.declared.message.PtpMsg.{PtpMsg}
use Rattle.wrp_network.specs.declared.network.LinkCfg.{LinkCfg}
use Rattle.wrp_base.proofs.Lists.{append_assoc}
use Rattle.wrp_frame.specs.declared.fault.FrameFault.{FrameFault}
use Rattle.wrp_link.specs.declared.interface.LinkIn.TheVariants as link_in
use Rattle.wrp_link.specs.LinkAt.{LinkAt}
use Rattle.wrp_link.specs.Table.{sends_of as link_sends_of, after}
use Rattle.wrp_node.specs.declared.interface.Input.{Input}
use Rattle.wrp_node.specs.declared.interface.Input.TheVariants.{Tick, Frame, Sent, Carrier, Reset, Tick as TickInput, Sample as SampleInput}
use Rattle.wrp_node.specs.LinkNews.{StepGivesLinks}
use Rattle.wrp_node.specs.NodeAt.{NodeSetting, NodeAt, Taken, line_at, link_at, setting_of, certain_of, locked_of}
use Rattle.wrp_node.specs.NodeStep.{node_step, servo_ticked}
use Rattle.wrp_node.specs.SetLaws.{EndsAreSet}
use Rattle.wrp_node.proofs.Links.{before_ports}
use Rattle.wrp_port.specs.declared.interface.PortIn.{PortIn}
use Rattle.wrp_port.specs.declared.interface.PortIn.TheVariants.{Tick as PortTick}
use Rattle.wrp_port.specs.declared.line.Ids.{Ids}
use Rattle.wrp_port.specs.declared.line.Rest.{Rest}
use Rattle.wrp_port.specs.declared.setting.Setting.{Setting as PortSetting}
use Rattle.wrp_port.specs.Hearing.{is_open}
use Rattle.wrp_port.specs.History.{rest_after}
use Rattle.wrp_port.specs.LineAfter.{announces_on, syncs_on, ticked}
use Rattle.wrp_port.specs.Messages.{announce_of, signals_of, sync_of}
use Rattle.wrp_port.specs.Outputs.{scheduled_sends, sends_of, where_due}
use Rattle.wrp_course.specs.declared.event.Event.{Event}
use Rattle.wrp_course.specs.declared.event.Event.TheVariants.{Tick}
use Rattle.wrp_course.specs.Given.{given_plain, sending, step_of, taken_of, world_step}
use Rattle.wrp_course.specs.Moved.{moved}
use Rattle.wrp_course.specs.Run.{Happened, world_after}
use Rattle.wrp_course.specs.Runs.{IsNetwork, WasPutOut}
use Rattle.wrp_course.specs.Setting.{Setting, end_of, node_setting_of, link_of}
use Rattle.wrp_course.specs.WorldAt.{Sending, WorldAt}
use Rattle.wrp_bound_laws.specs.SequenceIds.{IsOpenAt, IsTimed}
use Rattle.wrp_bound_laws.proofs.Schedules.IdsPutOut.{NewIn, timed_in}
use Rattle.wrp_bound_laws.proofs.Schedules.IdsSent.{NoneSent, SentAt, Where, signals_where, step_where, timed_of}
use Rattle.wrp_bound_laws.proofs.Nodes.Inputs.{IsNoTick}
use Rattle.wrp_bound_laws.proofs.Sources.Parents.{ticked_node}
use Rattle.wrp_bound_laws.proofs.Runs.PortRoles.{role_is, set_at}
use Rattle.wrp_bound_laws.proofs.Frames.PutOut.{tick_puts}
use Rattle.wrp_bound_laws.proofs.Schedules.ScheduleCounts.{due_at, turn_of, is_due_on}
use Rattle.wrp_bound_laws.proofs.Frames.Sendings.{PutOutIn, is_new}
use Rattle.wrp_bound_laws.proofs.Nodes.StepSends.{both_each, due_each}

-- Inputs of a node

quiet_where : (fixed : NodeSetting) (n : NodeAt) (r : Role) (p : ℕ) (input : Input) (ms : List PtpMsg) → IsNoTick input → Where (SentAt fixed n r p input) r ms → Where NoneSent r ms
quiet_where fixed n r p TickInput ms none h = absurd none
quiet_where fixed n r p (SampleInput number base bits) ms none h = h
quiet_where fixed n r p (Frame q octets raw sample) ms none h = h
quiet_where fixed n r p (Sent q seq delay stamp) ms none h = h
quiet_where fixed n r p (Carrier q up own_module) ms none h = h
quiet_where fixed n r p Reset ms none h = h

-- at one that is no tick no stamped message is sent
pub no_tick_where : (fixed : NodeSetting) (t : Taken) (n : NodeAt) (r : Role) (p : ℕ) → IsNoTick t.input → Where NoneSent r ((node_step fixed t n).sends p)
no_tick_where fixed t n r p none = quiet_where fixed n r p t.input ((node_step fixed t n).sends p) none (step_where fixed t n r p)

-- A tick of a port

-- other messages, and then one that is stamped if it is due
pub record SendsOne (r : Role) (sends : List PtpMsg) (due : Bool) (timed : PtpMsg) : Type 0 where
  pub before : List PtpMsg
  pub none : Where NoneSent r before
  pub is : sends ≡ before ++ where_due due timed

tick_sends : (set : PortSetting) (r : Role) (line : Rest) (locked certain : Bool) → set.ds.role ≡ r →
    SendsOne r (sends_of set line (PortTick locked certain)) (is_due_on r (ticked set line locked)) (timed_of r set (ticked set line locked).ids)
tick_sends set Master line locked certain master =
    let signals : List PtpMsg = signals_of set line.ids.signal (link_sends_of line.link (link_in.Tick locked)) in
    let now : Rest = ticked set line locked in
    let announce : List PtpMsg = where_due (announces_on now) (announce_of set now.link certain now.ids.announce) in
    record {
      before = signals ++ announce;
      none =
          both_each (λ m. IsTimed Master m.body → NoneSent m) signals announce (signals_where NoneSent Master set line.ids.signal (link_sends_of line.link (link_in.Tick locked)))
          (due_each (λ m. IsTimed Master m.body → NoneSent m) (announces_on now) (announce_of set now.link certain now.ids.announce) (λ e t. t));
      is = ap (λ r. signals ++ scheduled_sends set r now certain) master ∙ sym (append_assoc signals announce (where_due (syncs_on now) (sync_of set now.ids.sync)));
    }
tick_sends set Slave line locked certain slave = record {
  before = signals_of set line.ids.signal (link_sends_of line.link (link_in.Tick locked));
  none = signals_where NoneSent Slave set line.ids.signal (link_sends_of line.link (link_in.Tick locked));
  is = ap (λ r. signals_of set line.ids.signal (link_sends_of line.link (link_in.Tick locked)) ++ scheduled_sends set r (ticked set line locked) certain) slave;
}

-- The node in a world

-- the port after it was given the news of lease and chain, and before its own tick
abbrev pub port_then : Setting → WorldAt → Role → LinkCfg → List PortIn
port_then s w r link = (servo_ticked (node_setting_of s (end_of r link).node) (w.node (end_of r link).node)).node.told (end_of r link).port

abbrev pub locked_then : Setting → WorldAt → ℕ → Bool
locked_then s w n = locked_of (node_setting_of s n) (servo_ticked (node_setting_of s n) (w.node n)).node

abbrev pub certain_then : Setting → WorldAt → ℕ → Bool
certain_then s w n = certain_of (node_setting_of s n) (servo_ticked (node_setting_of s n) (w.node n)).node

-- its line after it ticked, and whether one is due
abbrev pub line_then : Setting → WorldAt → Role → LinkCfg → Rest
line_then s w r link = ticked (set_at s r link) (rest_after (set_at s r link) (port_then s w r link)) (locked_then s w (end_of r link).node)

abbrev pub is_due_then : Setting → WorldAt → Role → LinkCfg → Bool
is_due_then s w r link = is_due_on r (line_then s w r link)

abbrev pub timed_then : Setting → WorldAt → Role → LinkCfg → PtpMsg
timed_then s w r link = timed_of r (set_at s r link) (line_then s w r link).ids

abbrev pub tick_of_it : Setting → WorldAt → ℤ → Role → LinkCfg → List PtpMsg
tick_of_it s w y r link = (step_of s y (moved s w (Tick (end_of r link).node)) (given_plain (end_of r link).node TickInput)).sends (end_of r link).port

pub sends_then : EndsAreSet → (s : Setting) → IsNetwork s → (w : WorldAt) (y : ℤ) (k : ℕ) (r : Role) (link : LinkCfg) → link_of s k ≡ Some link → SendsOne r (tick_of_it s w y r link) (is_due_then s w r link) (timed_then s w r link)
sends_then ends s net w y k r link is =
    tick_sends (set_at s r link) r (rest_after (set_at s r link) (port_then s w r link)) (locked_then s w (end_of r link).node) (certain_then s w (end_of r link).node) (role_is ends s net k r link is)

in_last : (v : WorldAt) (x : Sending) (a b : List PtpMsg) → WasPutOut x (map (sending v) b) → WasPutOut x (map (sending v) (a ++ b))
in_last v x [] b h = h
in_last v x (m ∷ a) b h = inr (in_last v x a b h)

due_put : (v : WorldAt) (r : Role) (sends : List PtpMsg) (due : Bool) (m : PtpMsg) → SendsOne r sends due m → due ≡ true → WasPutOut (sending v m) (map (sending v) sends)
due_put v r sends true m one e = subst (λ l. WasPutOut (sending v m) (map (sending v) l)) (sym one.is) (in_last v (sending v m) one.before (m ∷ []) (inl refl))
due_put v r sends false m one e = absurd cc

-- it is put out if it is due
pub due_then : EndsAreSet → (s : Setting) → IsNetwork s → (says : Result PtpMsg FrameFault) (y : ℤ) (w : WorldAt) (k : ℕ) (r : Role) (link : LinkCfg) → link_of s k ≡ Some link → is_due_then s w r link ≡ true →
    WasPutOut (sending (moved s w (Tick (end_of r link).node)) (timed_then s w r link)) ((world_step s says y w (Tick (end_of r link).node)).end_at k r).sent
due_then ends s net says y w k r link is due =
    tick_puts s says y w k r link (sending (moved s w (Tick (end_of r link).node)) (timed_then s w r link)) is
    (due_put (moved s w (Tick (end_of r link).node)) r (tick_of_it s w y r link) (is_due_then s w r link) (timed_then s w r link) (sends_then ends s net w y k r link is) due)

-- When one is put out

-- the port is open then, and the message has no correction
pub record SentTimed (s : Setting) (older : List Happened) (r : Role) (link : LinkCfg) (x : Sending) : Type 0 where
  pub open_then : IsOpenAt s link r older
  pub plain : x.message.head.correction ≡ pos 0

no_correction : (r : Role) (set : PortSetting) (ids : Ids) → (timed_of r set ids).head.correction ≡ pos 0
no_correction Master set ids = refl
no_correction Slave set ids = refl

open_now : StepGivesLinks → (s : Setting) (says : Result PtpMsg FrameFault) (y : ℤ) (w : WorldAt) (r : Role) (link : LinkCfg) → is_open (after (link_at (s.set (end_of r link).node) (w.node (end_of r link).node) (end_of r link).port) (link_in.Tick (locked_of (node_setting_of s (end_of r link).node) (servo_ticked (node_setting_of s (end_of r link).node) (w.node (end_of r link).node)).node))) ≡ true →
    is_open (link_at (s.set (end_of r link).node) ((world_step s says y w (Tick (end_of r link).node)).node (end_of r link).node) (end_of r link).port) ≡ true
open_now links s says y w r link e =
    let n : ℕ = (end_of r link).node in
    let fixed : NodeSetting = node_setting_of s n in
    ap (λ (x : NodeAt). is_open (link_at (s.set n) x (end_of r link).port)) (ticked_node s says y w n n refl).0
    ∙ ap is_open (links fixed (taken_of y (given_plain n TickInput)) (w.node n) (end_of r link).port) ∙ e

new_timed : StepGivesLinks → (s : Setting) (h : Happened) (before : List Happened) (r : Role) (link : LinkCfg) (x : Sending) → NewIn s (world_after s before) link r h.event x → SentTimed s (h ∷ before) r link x
new_timed links s h before r link x new =
    let n : ℕ = (end_of r link).node in
    let w : WorldAt = world_after s before in
    let fixed : NodeSetting = node_setting_of s n in
    let mid : NodeAt = (servo_ticked fixed (w.node n)).node in
    let line : Rest = ticked (setting_of (s.set n) (end_of r link).port) (line_at (s.set n) mid (end_of r link).port) (locked_of fixed mid) in
    let opens : is_open line.link ≡ true = (due_at line.link (turn_of r line.turns) new.1.2.1).0 in
    let opened : is_open (after (link_at (s.set n) (w.node n) (end_of r link).port) (link_in.Tick (locked_of fixed mid))) ≡ true =
    ap (λ (l : LinkAt). is_open (after l (link_in.Tick (locked_of fixed mid)))) (sym (before_ports fixed (w.node n) (end_of r link).port)) ∙ opens in
    record {
      open_then = subst (λ (e : Event). is_open (link_at (s.set n) ((world_step s h.says h.answer w e).node n) (end_of r link).port) ≡ true) (sym new.0) (open_now links s h.says h.answer w r link opened);
      plain = ap (λ (z : Sending). z.message.head.correction) new.1.1 ∙ ap (λ (m : PtpMsg). m.head.correction) new.1.2.2 ∙ no_correction r _ line.ids;
    }

pub sent_timed : StepGivesLinks → (s : Setting) (older : List Happened) (k : ℕ) (r : Role) (link : LinkCfg) (x : Sending) → link_of s k ≡ Some link → IsTimed r x.message.body → PutOutIn s older k r x → SentTimed s older r link x
sent_timed links s [] k r link x is timed put = absurd put.put
sent_timed links s (h ∷ before) k r link x is timed put =
    elim (timed_in s h.says h.answer (world_after s before) h.event k link r x is timed put.put) [
      | inl old ↦ absurd (is_new s h before k r x put old)
      | inr new ↦ new_timed links s h before r link x new
    ]
