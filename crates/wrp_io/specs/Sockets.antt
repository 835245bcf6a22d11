-- A link over sockets: its ends and its faults (this project's profile).
use Rattle.std.specs.Prelude.{◌≡◌, ℕ, ◌+◌, ◌%◌}
use Rattle.wrp_io.specs.declared.link.StartFault.{StartFault}
use Rattle.wrp_io.specs.declared.link.StartFault.TheVariants.{Failed, Memory}
use Rattle.wrp_io.specs.Calls.{one_more}

-- how many ends the link has, numbered from 0, and how often it failed
pub record UdpLinkAt : Type 0 where
  pub ends : ℕ
  pub faults : ℕ

-- a link that was not started and has not failed
abbrev pub not_started : UdpLinkAt
not_started = record { ends = 0; faults = 0 }

-- the link with this many ends, which come in pairs: one more than an odd number
abbrev pub with_ends : UdpLinkAt → ℕ → UdpLinkAt
with_ends link ends = record link { ends = ends + ends % 2 }

-- the link after a call that failed
abbrev pub with_fault : UdpLinkAt → UdpLinkAt
with_fault link = record link { faults = one_more link.faults }

-- what a start that gave up leaves: a fault is counted, and running out of memory is none
abbrev pub NotStarted : UdpLinkAt → UdpLinkAt → StartFault → Type 0
NotStarted before now Failed = now ≡ with_fault before
NotStarted before now (Memory _) = now ≡ before
