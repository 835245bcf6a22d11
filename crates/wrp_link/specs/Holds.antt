-- What the fields of a link mean (names of the White Rabbit Specification 2.0; this project's profile).
use Rattle.std.specs.Prelude.{◌≤◌, Option, None, Some}
use Rattle.wrp_link.specs.declared.machine.Wait.{Wait}
use Rattle.wrp_link.specs.declared.machine.Link.TheInside.{Inside}
use Rattle.wrp_link.specs.LinkAt.{LinkAt, Waiting}

-- the timer of a waiting state
abbrev pub waiting_of : Option Wait → Option Waiting
waiting_of None = None
waiting_of (Some w) = Some (record { ticks = w.timer; retries = w.retry })

-- the link that the fields hold
abbrev pub holds_of : Inside → LinkAt
holds_of l =
    record {
      role = l.role;
      set = l.set;
      carrier = l.carrier;
      state = l.state;
      quiet = l.quiet;
      holdoff = l.holdoff;
      waiting = waiting_of l.wait;
      on_ticks = l.on_ticks;
      own_module = l.own_module;
      deltas = l.deltas;
    }

-- the quiet time and the waits have a length
abbrev pub HasLengths : Inside → Type 0
HasLengths l = (1 ≤ l.set.quiet) × (1 ≤ l.set.wait) × (1 ≤ l.set.lock_wait)
