-- The two structures that several fields have, at a place of the octets (IEEE 1588-2019).
use Rattle.std.specs.Prelude.{ℕ, ◌+◌, List}
use Rattle.wrp_base.specs.declared.time.Ts.{Ts}
use Rattle.wrp_base.specs.declared.message.PortIdentity.{PortIdentity}
use Rattle.wrp_tlv.specs.Octets.{number_at}

-- the Timestamp at a place: 48 bits of seconds and 32 of nanoseconds
abbrev pub timestamp_at : ℕ → List ℕ → Ts
timestamp_at at octets = record {
  seconds = number_at at 6 octets;
  nanos = number_at (at + 6) 4 octets;
}

-- the PortIdentity at a place: clockIdentity and portNumber
abbrev pub identity_at : ℕ → List ℕ → PortIdentity
identity_at at octets = record {
  clock = number_at at 8 octets;
  port = number_at (at + 8) 2 octets;
}
