-- A port's line, which is all of the port but its exchange: the link, the lease, the schedule and the sequenceIds; and what each input makes of it (this project's profile).
use Rattle.std.specs.Prelude.{ℕ, ◌+◌, ◌-◌, ◌%◌, ◌==◌, ◌&&◌, Bool, true, false, if◌then◌else◌, length, Option, None, Some}
use Rattle.wrp_base.specs.declared.link.Role.{Role}
use Rattle.wrp_base.specs.declared.link.Role.TheVariants.{Master, Slave}
use Rattle.wrp_base.specs.declared.message.PtpMsg.{PtpMsg}
use Rattle.wrp_data.specs.declared.reason.Reason.{Reason}
use Rattle.wrp_link.specs.declared.interface.LinkIn.{LinkIn}
use Rattle.wrp_link.specs.declared.interface.LinkIn.TheVariants as link
use Rattle.wrp_link.specs.LinkAt.{LinkAt, new_link}
use Rattle.wrp_link.specs.Table.{after as link_after, sends_of}
use Rattle.wrp_port.specs.declared.interface.PortIn.{PortIn}
use Rattle.wrp_port.specs.declared.interface.PortIn.TheVariants.{Msg, Lease, Tick, Carrier, Reset}
use Rattle.wrp_port.specs.declared.interface.Sched.{Sched}
use Rattle.wrp_port.specs.declared.line.Ids.{Ids}
use Rattle.wrp_port.specs.declared.line.Rest.{Rest}
use Rattle.wrp_port.specs.declared.line.Turns.{Turns}
use Rattle.wrp_port.specs.declared.setting.Setting.{Setting}
use Rattle.wrp_port.specs.Hearing.{is_open, early_reason, link_input, renews}
use Rattle.wrp_port.specs.Messages.{next_id}

-- the schedule at its beginning
abbrev pub first_turns : Turns
first_turns = record { announce = 0; sync = 0; delay = 0 }

-- the schedule one tick on: each count goes round the ticks of its kind
abbrev pub next_turns : Sched → Turns → Turns
next_turns sched turns =
    record {
      announce = (turns.announce + 1) % sched.announce;
      sync = (turns.sync + 1) % sched.sync;
      delay = (turns.delay + 1) % sched.delay;
    }

-- the sequenceIds before any message
abbrev pub first_ids : Ids
first_ids = record { announce = 0; sync = 0; request = 0; signal = 0; newest_sync = None }

-- a line before any input
abbrev pub new_line : Setting → Rest
new_line set = record { link = new_link set.ds.role set.link; lease = 0; turns = first_turns; ids = first_ids }

-- the schedule of a port with this link: it restarts if the port is not open
abbrev pub turns_while : LinkAt → Turns → Turns
turns_while l turns = if is_open l then turns else first_turns

-- a line whose link was given an input; each message that the link sends takes a sequenceId
abbrev pub told : Rest → LinkIn → Rest
told line input =
    record {
      link = link_after line.link input;
      lease = line.lease;
      turns = turns_while (link_after line.link input) line.turns;
      ids = record line.ids { signal = (line.ids.signal + length (sends_of line.link input)) % 65536 };
    }

-- a line whose link was given an input, if there is one
abbrev pub told_if : Rest → Option LinkIn → Rest
told_if line None = line
told_if line (Some input) = told line input

-- a line after a message that is not dropped early
abbrev pub heard : Setting → Rest → PtpMsg → Rest
heard set line message =
    record (told_if line (link_input set.ds.role message.body)) {
      lease = if renews set.ds.role message.head message.body then set.sched.lease else line.lease;
    }

-- a line after a message
abbrev pub heard_unless : Option Reason → Setting → Rest → PtpMsg → Rest
heard_unless None set line message = heard set line message
heard_unless (Some reason) set line message = line

-- a line after the link's part of a tick: if the port was open before it, the schedule goes on; else it begins
abbrev pub ticked : Setting → Rest → Bool → Rest
ticked set line locked =
    record (told line (link.Tick locked)) {
      turns = turns_while (link_after line.link (link.Tick locked)) (if is_open line.link then next_turns set.sched line.turns else first_turns);
    }

-- whether a message of the schedule is due on a line: the port is open, and the turn of its kind has come
abbrev pub is_due : LinkAt → ℕ → Bool
is_due l turn = is_open l && (turn == 0)

-- an Announce is due on this line, if it is a master's
abbrev pub announces_on : Rest → Bool
announces_on line = is_due line.link line.turns.announce

-- a Sync is due on this line, if it is a master's
abbrev pub syncs_on : Rest → Bool
syncs_on line = is_due line.link line.turns.sync

-- a Delay_Req is due on this line, if it is a slave's
abbrev pub requests_on : Rest → Bool
requests_on line = is_due line.link line.turns.delay

-- the next sequenceId if a message is sent
abbrev pub next_where : Bool → ℕ → ℕ
next_where sent seq = if sent then next_id seq else seq

-- the newest Sync if one is sent
abbrev pub newest_where : Bool → ℕ → Option ℕ → Option ℕ
newest_where sent seq newest = if sent then Some seq else newest

-- a line that sent the Announce that is due
abbrev pub announced : Rest → Rest
announced line = record line { ids = record line.ids { announce = next_where (announces_on line) line.ids.announce } }

-- a line that sent the Sync that is due
abbrev pub synced : Rest → Rest
synced line =
    record line {
      ids =
          record line.ids {
            sync = next_where (syncs_on line) line.ids.sync;
            newest_sync = newest_where (syncs_on line) line.ids.sync line.ids.newest_sync;
          };
    }

-- a line that sent the Delay_Req that is due
abbrev pub requested : Rest → Rest
requested line = record line { ids = record line.ids { request = next_where (requests_on line) line.ids.request } }

-- a line that sent what is due: Announce and Sync at a master, Delay_Req at a slave
abbrev pub scheduled : Role → Rest → Rest
scheduled Master line = synced (announced line)
scheduled Slave line = requested line

-- a line after an input
abbrev pub after : Setting → Rest → PortIn → Rest
after set line (Msg message stamp tick) = heard_unless (early_reason set line.link message) set line message
after set line Lease = record line { lease = line.lease - 1 }
after set line (Tick locked certain) = scheduled set.ds.role (ticked set line locked)
after set line (Carrier true own_module) = told line (link.CarrierUp own_module)
after set line (Carrier false own_module) = record (told line link.CarrierDown) { lease = 0 }
after set line Reset = new_line set
after set line _ = line
