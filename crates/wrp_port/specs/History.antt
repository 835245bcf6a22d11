-- What a port holds after a list of inputs, by looking back over the list from the newest: the inputs that reached its
-- link, the lease, the ticks of its schedule, how many messages of each kind it sent, and the pieces that reached its
-- exchange (this project's profile).
use Rattle.std.specs.Prelude.{ℕ, ◌+◌, ◌-◌, ◌%◌, ◌&&◌, Bool, true, false, if◌then◌else◌, nat_lt, List, [], ◌∷◌, length, option_map, Option, None, Some}
use Rattle.std.specs.Option.{is_none}
use Rattle.wrp_base.specs.declared.message.PtpMsg.{PtpMsg}
use Rattle.wrp_base.specs.declared.link.Role.{Role}
use Rattle.wrp_base.specs.declared.link.Role.TheVariants.{Master, Slave}
use Rattle.wrp_data.specs.declared.reason.Reason.{Reason}
use Rattle.wrp_exch.specs.Call.{Call}
use Rattle.wrp_link.specs.declared.interface.LinkIn.{LinkIn}
use Rattle.wrp_link.specs.declared.interface.LinkIn.TheVariants as link
use Rattle.wrp_link.specs.LinkAt.{LinkAt, new_link}
use Rattle.wrp_link.specs.Table.{after as link_after, run_of, sends_of}
use Rattle.wrp_port.specs.declared.interface.PortIn.{PortIn}
use Rattle.wrp_port.specs.declared.interface.PortIn.TheVariants.{Msg, Lease, Tick, Carrier, Reset}
use Rattle.wrp_port.specs.declared.line.Rest.{Rest}
use Rattle.wrp_port.specs.declared.setting.Setting.{Setting}
use Rattle.wrp_port.specs.Hearing.{is_open, early_reason, link_input, renews}
use Rattle.wrp_port.specs.LineAfter.{is_due, newest_where}
use Rattle.wrp_port.specs.Outputs.{call_of, with_call}

-- ---- the link

-- what a message is to the link: nothing if there is a reason to drop it early
abbrev pub input_unless : Option Reason → Option LinkIn → Option LinkIn
input_unless None input = input
input_unless (Some reason) input = None

-- what an input is to a link
abbrev pub to_link : Setting → LinkAt → PortIn → Option LinkIn
to_link set l (Msg message stamp tick) = input_unless (early_reason set l message) (link_input set.ds.role message.body)
to_link set l (Tick locked certain) = Some (link.Tick locked)
to_link set l (Carrier true own_module) = Some (link.CarrierUp own_module)
to_link set l (Carrier false own_module) = Some link.CarrierDown
to_link set l _ = None

-- the link that the handshake table makes of inputs, newest first
abbrev pub link_by : Setting → List LinkIn → LinkAt
link_by set inputs = run_of (new_link set.ds.role set.link) inputs

-- these inputs with one more in front, if there is one
abbrev pub with_input : Option LinkIn → List LinkIn → List LinkIn
with_input None inputs = inputs
with_input (Some input) inputs = input ∷ inputs

-- the inputs that reached the link since the last reset, newest first
abbrev pub link_inputs : Setting → List PortIn → List LinkIn
link_inputs set [] = []
link_inputs set (Reset ∷ before) = []
link_inputs set (input ∷ before) =
    with_input (to_link set (link_by set (link_inputs set before)) input) (link_inputs set before)

-- the link: the handshake table over the inputs that reached it
abbrev pub link_of : Setting → List PortIn → LinkAt
link_of set inputs = link_by set (link_inputs set inputs)

-- ---- the lease

-- a message renews the lease of a port with this link
abbrev pub renews_at : Setting → LinkAt → PtpMsg → Bool
renews_at set l message = is_none (early_reason set l message) && renews set.ds.role message.head message.body

-- the turns of the lease since it was renewed: 0 if a message renews it now, else as they were
abbrev pub zero_where : Bool → Option ℕ → Option ℕ
zero_where renewed turns = if renewed then Some 0 else turns

-- the turns of the lease since the last message that renewed it, with no loss of the carrier and no reset since
abbrev pub since_renewal : Setting → List PortIn → Option ℕ
since_renewal set [] = None
since_renewal set (Reset ∷ before) = None
since_renewal set (Carrier false own_module ∷ before) = None
since_renewal set (Lease ∷ before) = option_map (λ turns. turns + 1) (since_renewal set before)
since_renewal set (Msg message stamp tick ∷ before) = zero_where (renews_at set (link_of set before) message) (since_renewal set before)
since_renewal set (_ ∷ before) = since_renewal set before

-- the lease was renewed, fewer turns ago than it has; one that nothing renewed is not fresh
abbrev pub is_fresh_at : ℕ → Option ℕ → Bool
is_fresh_at lease None = false
is_fresh_at lease (Some turns) = nat_lt turns lease

-- the lease is fresh: a message renewed it fewer turns ago than it has
abbrev pub is_fresh : Setting → List PortIn → Bool
is_fresh set inputs = is_fresh_at set.sched.lease (since_renewal set inputs)

-- the turns for which the lease is still fresh: 0 if nothing renewed it, or all its turns passed
abbrev pub left_of : ℕ → Option ℕ → ℕ
left_of lease None = 0
left_of lease (Some turns) = lease - turns

-- ---- the schedule

-- the ticks of the schedule: 0 if the port is not open, since the schedule begins again
abbrev pub while_open : LinkAt → ℕ → ℕ
while_open l ticks = if is_open l then ticks else 0

-- the ticks of the schedule once the link was given an input, if there is one
abbrev pub ticks_told : LinkAt → Option LinkIn → ℕ → ℕ
ticks_told l None ticks = ticks
ticks_told l (Some input) ticks = while_open (link_after l input) ticks

-- the ticks since the one at which quiet time ended, while the port is open since
abbrev pub ticks_open : Setting → List PortIn → ℕ
ticks_open set [] = 0
ticks_open set (Reset ∷ before) = 0
ticks_open set (Tick locked certain ∷ before) =
    while_open (link_of set (Tick locked certain ∷ before)) (if is_open (link_of set before) then ticks_open set before + 1 else 0)
ticks_open set (input ∷ before) = ticks_told (link_of set before) (to_link set (link_of set before) input) (ticks_open set before)

-- whether the newest of these inputs, a tick, sends a message whose kind comes every so many ticks
abbrev pub is_due_in : Setting → ℕ → List PortIn → Bool
is_due_in set every inputs = is_due (link_of set inputs) (ticks_open set inputs % every)

-- ---- sequenceIds: how many messages of a kind were sent since the last reset

-- a count of sent messages, with one more if one is sent
abbrev pub one_more_where : Bool → ℕ → ℕ
one_more_where sent n = if sent then n + 1 else n

-- the messages of a kind that comes every so many ticks
abbrev pub sent_each : ℕ → Setting → List PortIn → ℕ
sent_each every set [] = 0
sent_each every set (Reset ∷ before) = 0
sent_each every set (Tick locked certain ∷ before) =
    one_more_where (is_due_in set every (Tick locked certain ∷ before)) (sent_each every set before)
sent_each every set (_ ∷ before) = sent_each every set before

-- Announce and Sync are sent by a master, Delay_Req by a slave
abbrev pub at_master : Role → ℕ → ℕ
at_master Master n = n
at_master Slave n = 0

-- a count at a slave, and 0 at a master
abbrev pub at_slave : Role → ℕ → ℕ
at_slave Master n = 0
at_slave Slave n = n

-- the Announces that the port sent since the last reset: none at a slave
abbrev pub announces : Setting → List PortIn → ℕ
announces set inputs = at_master set.ds.role (sent_each set.sched.announce set inputs)

-- the Syncs that the port sent since the last reset: none at a slave
abbrev pub syncs : Setting → List PortIn → ℕ
syncs set inputs = at_master set.ds.role (sent_each set.sched.sync set inputs)

-- the Delay_Reqs that the port sent since the last reset: none at a master
abbrev pub requests : Setting → List PortIn → ℕ
requests set inputs = at_slave set.ds.role (sent_each set.sched.delay set inputs)

-- so many messages, and the ones that the link sends for an input, if there is one
abbrev pub signals_told : LinkAt → Option LinkIn → ℕ → ℕ
signals_told l None sent = sent
signals_told l (Some input) sent = sent + length (sends_of l input)

-- the messages of link setup
abbrev pub signals : Setting → List PortIn → ℕ
signals set [] = 0
signals set (Reset ∷ before) = 0
signals set (input ∷ before) = signals_told (link_of set before) (to_link set (link_of set before) input) (signals set before)

-- the sequenceId of the newest Sync since the last reset
abbrev pub newest_of : Setting → List PortIn → Option ℕ
newest_of set [] = None
newest_of set (Reset ∷ before) = None
newest_of set (Tick locked certain ∷ before) =
    newest_where (is_due_in set set.sched.sync (Tick locked certain ∷ before)) (syncs set before % 65536) (newest_of set before)
newest_of set (_ ∷ before) = newest_of set before

-- the sequenceId of the newest Sync at a master; a slave sends none
abbrev pub only_at_master : Role → Option ℕ → Option ℕ
only_at_master Master newest = newest
only_at_master Slave newest = None

-- the sequenceId of the newest Sync that the port sent since the last reset: None if it sent none
abbrev pub newest_sync : Setting → List PortIn → Option ℕ
newest_sync set inputs = only_at_master set.ds.role (newest_of set inputs)

-- ---- the port

-- the line that looking back finds
abbrev pub rest_after : Setting → List PortIn → Rest
rest_after set inputs =
    record {
      link = link_of set inputs;
      lease = left_of set.sched.lease (since_renewal set inputs);
      turns =
          record {
            announce = ticks_open set inputs % set.sched.announce;
            sync = ticks_open set inputs % set.sched.sync;
            delay = ticks_open set inputs % set.sched.delay;
          };
      ids =
          record {
            announce = announces set inputs % 65536;
            sync = syncs set inputs % 65536;
            request = requests set inputs % 65536;
            signal = signals set inputs % 65536;
            newest_sync = newest_sync set inputs;
          };
    }

-- the calls that the exchange was given since the last reset, newest first
abbrev pub calls_of : Setting → List PortIn → List Call
calls_of set [] = []
calls_of set (Reset ∷ before) = []
calls_of set (input ∷ before) = with_call (call_of set (rest_after set before) input) (calls_of set before)
