-- The servo is given a call: its answer goes to the slave port and to the counters (this project's profile).
use Rattle.std.specs.Prelude.{ℕ, ℤ, pos, ◌==◌, Bool, true, false, if◌then◌else◌, not, unsigned_abs, List, [], ◌∷◌, Option, None, Some, is_some}
use Rattle.std.specs.Option.{option_or}
use Rattle.wrp_base.specs.declared.measurement.ChainNews.{ChainNews}
use Rattle.wrp_base.specs.declared.measurement.ChainNews.TheVariants.{Same}
use Rattle.wrp_base.specs.declared.message.PtpMsg.{PtpMsg}
use Rattle.wrp_data.specs.Counters.{counts_after}
use Rattle.wrp_node.specs.NodeAt.{NodeSetting, NodeAt, slave_of, servo_setting_of, is_fresh_in, deltas_in}
use Rattle.wrp_port.specs.declared.interface.PortIn.{PortIn}
use Rattle.wrp_port.specs.declared.interface.PortIn.TheVariants.{Sample, Chain}
use Rattle.wrp_servo.specs.Call.{Call, CallSample, CallLease, CallLink, run}
use Rattle.wrp_servo.specs.declared.interface.ServoOut.{ServoOut}
use Rattle.wrp_servo.specs.Servo.{plain_out, answer_to}
use Rattle.wrp_servo.specs.Told.{lease_told, link_told}

-- a node on its way through an input: the step of its clock in periods, its DAC value, and what each port sends
pub record Step : Type 0 where
  pub node : NodeAt
  pub cycles : ℤ
  pub dac : Option ℕ
  pub sends : ℕ → List PtpMsg

-- nothing has followed from the input yet
abbrev pub step_from : NodeAt → Step
step_from n = record { node = n; cycles = pos 0; dac = None; sends = λ p. [] }

-- ---- ports and counters

-- one port is given an input
abbrev pub told_at : (ℕ → List PortIn) → ℕ → PortIn → ℕ → List PortIn
told_at told p input q = if q == p then input ∷ told q else told q

-- every port is given an input
abbrev pub told_all : (ℕ → List PortIn) → PortIn → ℕ → List PortIn
told_all told input q = input ∷ told q

-- only one port sends
abbrev pub only_at : ℕ → List PtpMsg → ℕ → List PtpMsg
only_at p sends q = if q == p then sends else []

-- the counter of a reason is raised, if there is one
abbrev pub counted : Option ℕ → List ℕ → List ℕ
counted None counters = counters
counted (Some reason) counters = counts_after counters reason

-- a reason is counted at one port
abbrev pub counted_at : (ℕ → List ℕ) → ℕ → Option ℕ → ℕ → List ℕ
counted_at counters p reason q = if q == p then counted reason (counters q) else counters q

-- ---- what an answer of the servo is to the slave port: first what became of the chain, then the sample

-- the slave port is given what became of the chain of good samples, unless the chain is as it was
abbrev pub with_news : ChainNews → List PortIn → List PortIn
with_news Same told = told
with_news news told = Chain news ∷ told

-- the slave port is given a good sample, if there is one: its number, and its unwrapped phase in tau
abbrev pub with_sample : Option ℤ → ℕ → List PortIn → List PortIn
with_sample None number told = told
with_sample (Some phase) number told = Sample number phase ∷ told

-- the number of a sample
abbrev pub number_of : Option Call → ℕ
number_of (Some (CallSample n base bits)) = n
number_of _ = 0

-- all that the slave port is given of an answer; `number` is the sample's
abbrev pub heard_of : ServoOut → ℕ → List PortIn → List PortIn
heard_of out number told = with_sample out.unwrapped number (with_news out.chain told)

-- the answer is given to the slave port, if there is one, and to no other port
abbrev pub told_by : Option ℕ → ServoOut → ℕ → (ℕ → List PortIn) → ℕ → List PortIn
told_by None out number told q = told q
told_by (Some p) out number told q = if q == p then heard_of out number (told q) else told q

-- the reason for which the servo refused a measurement (14) or a sample (15), if it did, is counted at the slave port
abbrev pub counted_by : Option ℕ → ServoOut → (ℕ → List ℕ) → ℕ → List ℕ
counted_by None out counters q = counters q
counted_by (Some p) out counters q = counted_at counters p out.refused q

-- ---- giving a call to the servo

-- a node without a slave port has no servo to call
abbrev pub for_slave : NodeSetting → Option Call → Option Call
for_slave fixed call = if is_some (slave_of fixed.set) then call else None

-- there is no call, and nothing follows from it
abbrev pub no_answer : ServoOut
no_answer = plain_out (pos 0) Same None

-- what the servo answers
abbrev pub answer_of : NodeSetting → Option Call → List Call → ServoOut
answer_of fixed None calls = no_answer
answer_of fixed (Some call) calls = answer_to (servo_setting_of fixed) (run (servo_setting_of fixed) calls) call

-- the calls of the servo, newest first, with one more, if there is one
abbrev pub called : Option Call → List Call → List Call
called None calls = calls
called (Some call) calls = call ∷ calls

-- the newest step that is not 0
abbrev pub newest_step : ℤ → ℤ → ℤ
newest_step new old = if unsigned_abs new == 0 then old else new

-- the servo is given a call, if there is one
abbrev pub tell : NodeSetting → Option Call → Step → Step
tell fixed call s = record {
  node = record {
    ticks = s.node.ticks;
    told = told_by (slave_of fixed.set) (answer_of fixed call s.node.calls) (number_of call) s.node.told;
    calls = called call s.node.calls;
    counters = counted_by (slave_of fixed.set) (answer_of fixed call s.node.calls) s.node.counters;
  };
  cycles = newest_step (answer_of fixed call s.node.calls).cycles s.cycles;
  dac = option_or (answer_of fixed call s.node.calls).dac s.dac;
  sends = s.sends;
}

-- ---- a changed lease, and a changed WR_LINK_ON

-- whether what holds now differs from what was last given
abbrev pub is_changed : Bool → Bool → Bool
is_changed true now = not now
is_changed false now = now

-- the call that gives the servo the lease: only if it differs from the lease last given
abbrev pub lease_change : NodeSetting → NodeAt → Option Call
lease_change fixed n =
    for_slave fixed
    (if is_changed (lease_told n.calls) (is_fresh_in fixed.set n) then Some (CallLease (is_fresh_in fixed.set n)) else None)

-- and of WR_LINK_ON
abbrev pub link_change : NodeSetting → NodeAt → Option Call
link_change fixed n =
    for_slave fixed
    (if is_changed (is_some (link_told n.calls)) (is_some (deltas_in fixed.set n)) then Some (CallLink (deltas_in fixed.set n)) else None)

-- the servo is given the lease, if this changed
abbrev pub with_lease : NodeSetting → Step → Step
with_lease fixed s = tell fixed (lease_change fixed s.node) s

-- the servo is given WR_LINK_ON, if this changed
abbrev pub with_link : NodeSetting → Step → Step
with_link fixed s = tell fixed (link_change fixed s.node) s

-- the servo is given a changed lease, then a changed WR_LINK_ON
abbrev pub settled : NodeSetting → Step → Step
settled fixed s = with_link fixed (with_lease fixed s)
