-- The common header of 34 octets (IEEE 1588-2019). High nibbles, the reserved octets and
-- controlField are free.
use Rattle.std.specs.Prelude.{◌≡◌, ◌≤◌, ℕ, ◌%◌, List, length, slice_index, Option, Some}
use Rattle.wrp_base.specs.declared.message.Head.{Head}
use Rattle.wrp_frame.specs.declared.message_type.MessageType.{MessageType}
use Rattle.wrp_frame.specs.MessageTypes.{kind_numbered}
use Rattle.wrp_tlv.specs.Octets.{number_at, signed_64_at}
use Rattle.wrp_frame.specs.Fields.{identity_at}

-- versionPTP, the low nibble of octet 1
abbrev pub version_of : List ℕ → ℕ
version_of octets = slice_index octets 1 % 16

-- the kind that messageType, the low nibble of octet 0, means
abbrev pub kind_of : List ℕ → Option MessageType
kind_of octets = kind_numbered (slice_index octets 0 % 16)

-- messageLength, octets 2 and 3
abbrev pub message_length : List ℕ → ℕ
message_length octets = number_at 2 2 octets

-- the fields of the header that a node keeps: domainNumber, flagField, correctionField,
-- sourcePortIdentity, sequenceId, logMessageInterval
abbrev pub head_at : List ℕ → Head
head_at octets = record {
  domain = slice_index octets 4;
  flags = number_at 6 2 octets;
  correction = signed_64_at 8 octets;
  source = identity_at 20 octets;
  seq = number_at 30 2 octets;
  interval = slice_index octets 33;
}

-- the octets begin with a whole header of version 2 and of this kind
pub record HasHeader (kind : MessageType) (octets : List ℕ) : Type 0 where
  pub whole : 34 ≤ length octets
  pub version : version_of octets ≡ 2
  pub kind_is : kind_of octets ≡ Some kind
