-- The eight faults of octets that are no message, each on its own, and their order (this project's
-- profile).
use Rattle.std.specs.Prelude.{◌≡◌, ◌≢◌, ◌<◌, ◌≤◌, ℕ, true, List, length, Some, None, ◌⊎◌}
use Rattle.std.specs.List.{list_any}
use Rattle.wrp_frame.specs.declared.fault.FrameFault.{FrameFault}
use Rattle.wrp_frame.specs.declared.fault.FrameFault.TheVariants.{Short, Version, Kind, Length, Time, Tlv, BadWr, OneStep}
use Rattle.wrp_frame.specs.declared.message_type.MessageType.{MessageType}
use Rattle.wrp_frame.specs.declared.message_type.MessageType.TheVariants.{Sync}
use Rattle.wrp_frame.specs.Fields.{timestamp_at}
use Rattle.wrp_frame.specs.MessageTypes.{least_length, has_timestamp, reads_white_rabbit}
use Rattle.wrp_frame.specs.Header.{version_of, kind_of, message_length}
use Rattle.wrp_tlv.specs.TlvList.{TypedValue, Fills, IsFilledByNone}
use Rattle.wrp_tlv.specs.WhiteRabbitList.{read_of, is_bad}
use Rattle.wrp_frame.specs.Grammar.{tlv_part, IsTwoStep}

-- the octets, whose kind is this one, have the fault; the first three faults are of no kind
abbrev pub HasFaultOf : FrameFault → MessageType → List ℕ → Type 0
HasFaultOf Length kind octets =
    (message_length octets < least_length kind) ⊎ (length octets < message_length octets)
HasFaultOf Time kind octets =
    (has_timestamp kind ≡ true) × (1_000_000_000 ≤ (timestamp_at 34 octets).nanos)
HasFaultOf Tlv kind octets = IsFilledByNone (tlv_part kind octets)
HasFaultOf BadWr kind octets =
    (reads_white_rabbit kind ≡ true)
    × ((tlvs : List TypedValue)
    × Fills tlvs (tlv_part kind octets)
    × (list_any (λ tlv. is_bad (read_of tlv)) tlvs ≡ true))
HasFaultOf OneStep kind octets = (kind ≡ Sync) × (IsTwoStep octets → ⊥)
HasFaultOf _ kind octets = ⊥

-- the octets have the fault, whatever other faults they have
abbrev pub HasFault : FrameFault → List ℕ → Type 0
HasFault Short octets = length octets < 34
HasFault Version octets = version_of octets ≢ 2
HasFault Kind octets = kind_of octets ≡ None
HasFault fault octets =
    (kind : MessageType) × (kind_of octets ≡ Some kind) × HasFaultOf fault kind octets

-- the number of a fault: of several the least is reported
abbrev pub fault_number : FrameFault → ℕ
fault_number Short = 1
fault_number Version = 2
fault_number Kind = 3
fault_number Length = 4
fault_number Time = 5
fault_number Tlv = 6
fault_number BadWr = 7
fault_number OneStep = 8

-- the octets have the fault and none of a lower number
pub record IsFirstFault (fault : FrameFault) (octets : List ℕ) : Type 0 where
  pub has : HasFault fault octets
  pub none_before : (other : FrameFault)
      → fault_number other < fault_number fault → HasFault other octets → ⊥
