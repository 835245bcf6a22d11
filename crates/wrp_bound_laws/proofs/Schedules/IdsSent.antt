-- A node sends a message whose sending is stamped only at a tick, at most one at a port, with the sequenceId of its
-- count.
use Rattle.std.proofs.Common.{◌≡◌, inl, inr, refl, ap, subst, ℕ, Bool, true, List, [], ◌∷◌, map, Result}
use Rattle.std.specs.List.{AllByRecursion}
use Rattle.wrp_base.specs.declared.link.Role.{Role}
use Rattle.wrp_base.specs.declared.link.Role.TheVariants.{Master, Slave}
use Rattle.wrp_base.specs.declared.message.Head.{Head}
use Rattle.wrp_base.specs.declared.message.PtpMsg.{PtpMsg}
use Rattle.wrp_base.specs.declared.message.WrMsg.{WrMsg}
use Rattle.wrp_base.specs.declared.time.Stamp.{Stamp}
use Rattle.wrp_frame.specs.declared.fault.FrameFault.{FrameFault}
use Rattle.wrp_node.specs.declared.interface.Input.{Input}
use Rattle.wrp_node.specs.declared.interface.Input.TheVariants.{Tick, Sample, Frame, Sent, Carrier, Reset}
use Rattle.wrp_node.specs.NodeAt.{NodeSetting, NodeAt, Taken, certain_of, setting_of, line_at, locked_of}
use Rattle.wrp_node.specs.NodeStep.{servo_ticked, stamp_of, node_step}
use Rattle.wrp_port.specs.declared.line.Ids.{Ids}
use Rattle.wrp_port.specs.declared.line.Rest.{Rest}
use Rattle.wrp_port.specs.declared.setting.Setting.{Setting}
use Rattle.wrp_port.specs.LineAfter.{ticked}
use Rattle.wrp_port.specs.Messages.{follow_up_of, request_of, signals_of, sync_of, signal_of, response_of}
use Rattle.wrp_course.specs.Given.{sending}
use Rattle.wrp_course.specs.Runs.{WasPutOut}
use Rattle.wrp_course.specs.WorldAt.{Sending, WorldAt}
use Rattle.wrp_bound_laws.specs.SequenceIds.{IsTimed}
use Rattle.wrp_bound_laws.proofs.Schedules.ScheduleCounts.{is_due_on}
use Rattle.wrp_bound_laws.proofs.Nodes.StepSends.{ScheduledAll, SentBy, signals_each, step_each}

-- the message of the kind that an end of this role schedules and that is stamped
abbrev pub timed_of : Role → Setting → Ids → PtpMsg
timed_of Master set ids = sync_of set ids.sync
timed_of Slave set ids = request_of set ids.request

-- Lists of messages

-- each of these that is stamped is of this kind
abbrev pub Where : (PtpMsg → Type 0) → Role → List PtpMsg → Type 0
Where Q r ms = AllByRecursion (λ m. IsTimed r m.body → Q m) ms

no_signal : (Q : PtpMsg → Type 0) (r : Role) (set : Setting) (seq : ℕ) (m : WrMsg) → IsTimed r (signal_of set seq m).body → Q (signal_of set seq m)
no_signal Q Master set seq m t = absurd t
no_signal Q Slave set seq m t = absurd t

pub signals_where : (Q : PtpMsg → Type 0) (r : Role) (set : Setting) (seq : ℕ) (ms : List WrMsg) → Where Q r (signals_of set seq ms)
signals_where Q r set seq ms = signals_each (λ m. IsTimed r m.body → Q m) set (no_signal Q r set) seq ms

-- A tick of a port

-- it is due on a port's line, and has the sequenceId of that line
abbrev pub Scheduled : Setting → (role r : Role) → Rest → PtpMsg → Type 0
Scheduled set role r line m = (role ≡ r) × (is_due_on r line ≡ true) × (m ≡ timed_of r set line.ids)

scheduled_timed : (set : Setting) (role r : Role) (line : Rest) (certain : Bool) → ScheduledAll (λ m. IsTimed r m.body → Scheduled set role r line m) set role line certain
scheduled_timed set Master Master line certain = (λ e t. absurd t, λ e t. (refl, e, refl))
scheduled_timed set Master Slave line certain = (λ e t. absurd t, λ e t. absurd t)
scheduled_timed set Slave Master line certain = λ e t. absurd t
scheduled_timed set Slave Slave line certain = λ e t. (refl, e, refl)

abbrev pub TickSends : Setting → Role → Rest → (locked : Bool) → PtpMsg → Type 0
TickSends set r line locked = Scheduled set set.ds.role r (ticked set line locked)

-- An input of a node

abbrev pub NoneSent : PtpMsg → Type 0
NoneSent m = ⊥

no_response : (r : Role) (set : Setting) (head : Head) (stamp : Stamp) → IsTimed r (response_of set head stamp).body → ⊥
no_response Master set head stamp t = t
no_response Slave set head stamp t = t

no_follow_up : (r : Role) (set : Setting) (seq : ℕ) (stamp : Stamp) → IsTimed r (follow_up_of set seq stamp).body → ⊥
no_follow_up Master set seq stamp t = t
no_follow_up Slave set seq stamp t = t

-- a port at a tick, after the tick of the lease and of the servo, sends such a message; at no other input is one sent
abbrev pub SentAt : NodeSetting → NodeAt → (r : Role) → (p : ℕ) → Input → PtpMsg → Type 0
SentAt fixed n r p Tick m =
    TickSends (setting_of fixed.set p) r (line_at fixed.set (servo_ticked fixed n).node p) (locked_of fixed (servo_ticked fixed n).node) m
SentAt fixed n r p _ m = ⊥

timed_by : (fixed : NodeSetting) (n : NodeAt) (r : Role) (p : ℕ) (input : Input) (says : Result PtpMsg FrameFault) → SentBy (λ m. IsTimed r m.body → SentAt fixed n r p input m) fixed n p input says
timed_by fixed n r p Tick says = scheduled_timed (setting_of fixed.set p) (setting_of fixed.set p).ds.role r (ticked (setting_of fixed.set p) (line_at fixed.set (servo_ticked fixed n).node p) (locked_of fixed (servo_ticked fixed n).node)) (certain_of fixed (servo_ticked fixed n).node)
timed_by fixed n r p (Sample number base bits) says = tt
timed_by fixed n r p (Frame q octets raw sample) says = λ m is same hears request t. no_response r (setting_of fixed.set p) m.head (stamp_of fixed n p raw sample) t
timed_by fixed n r p (Sent q seq delay stamp) says = λ e same t. no_follow_up r (setting_of fixed.set p) seq stamp t
timed_by fixed n r p (Carrier q up own_module) says = tt
timed_by fixed n r p Reset says = tt

pub step_where : (fixed : NodeSetting) (t : Taken) (n : NodeAt) (r : Role) (p : ℕ) → Where (SentAt fixed n r p t.input) r ((node_step fixed t n).sends p)
step_where fixed t n r p =
    step_each (λ m. IsTimed r m.body → SentAt fixed n r p t.input m) fixed t n p (no_signal (SentAt fixed n r p t.input) r (setting_of fixed.set p)) (timed_by fixed n r p t.input t.says)

-- Among what is put out

-- it is put out at this moment, and its message is of this kind
abbrev pub PutNow : (PtpMsg → Type 0) → WorldAt → Sending → Type 0
PutNow Q v x = (m : PtpMsg) × (x ≡ sending v m) × Q m

among : (Q : PtpMsg → Type 0) (r : Role) (v : WorldAt) (x : Sending) (ms : List PtpMsg) → Where Q r ms → IsTimed r x.message.body → WasPutOut x (map (sending v) ms) → PutNow Q v x
among Q r v x [] h timed put = absurd put
among Q r v x (m ∷ ms) h timed put = elim put [
  | inl is ↦ (m, is, h.0 (subst (IsTimed r) (ap (λ (t : Sending). t.message.body) is) timed))
  | inr rest ↦ among Q r v x ms h.1 timed rest
]

pub put_by_step : (fixed : NodeSetting) (t : Taken) (n : NodeAt) (r : Role) (p : ℕ) (v : WorldAt) (x : Sending) → IsTimed r x.message.body → WasPutOut x (map (sending v) ((node_step fixed t n).sends p)) → PutNow (SentAt fixed n r p t.input) v x
put_by_step fixed t n r p v x timed put = among (SentAt fixed n r p t.input) r v x ((node_step fixed t n).sends p) (step_where fixed t n r p) timed put
