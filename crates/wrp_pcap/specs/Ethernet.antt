-- What an Ethernet packet carries, by its EtherType, after one VLAN tag at most (IEEE 802.3, IEEE 802.1Q). PTP over
-- Ethernet has EtherType 88f7 (IEEE 1588-2019).
use Rattle.std.specs.Prelude.{◌≡◌, ◌≤◌, ◌+◌, ℕ, ◌==◌, if◌then◌else◌, List, length, drop}
use Rattle.byteorder.specs.Endian.{big_number}
use Rattle.wrp_base.specs.declared.message.PtpMsg.{PtpMsg}
use Rattle.wrp_frame.specs.declared.fault.FrameFault.{FrameFault}
use Rattle.wrp_frame.specs.Faults.{IsFirstFault}
use Rattle.wrp_frame.specs.Grammar.{Spells}

-- the number of the two octets at a place
abbrev pub type_at : ℕ → List ℕ → ℕ
type_at at packet = big_number 2 (drop at packet)

-- the place of the EtherType of what is carried: after the two addresses, or, if a VLAN tag, 8100, is there, after
-- that tag
abbrev pub type_place : List ℕ → ℕ
type_place packet = if type_at 12 packet == 0x8100 then 16 else 12

-- the packet carries this PTP frame: all that follows the EtherType, which may be nothing
pub record Carries (packet frame : List ℕ) : Type 0 where
  pub whole : type_place packet + 2 ≤ length packet
  pub ptp : type_at (type_place packet) packet ≡ 0x88F7
  pub behind : frame ≡ drop (type_place packet + 2) packet

-- the packet carries a frame that spells this message
pub record CarriesMessage (packet : List ℕ) (message : PtpMsg) : Type 0 where
  pub frame : List ℕ
  pub carries : Carries packet frame
  pub spells : Spells frame message

-- the packet carries a frame that is no message, for this fault
pub record CarriesFault (packet : List ℕ) (fault : FrameFault) : Type 0 where
  pub frame : List ℕ
  pub carries : Carries packet frame
  pub first : IsFirstFault fault frame

-- the packet carries no PTP frame
abbrev pub CarriesNone : List ℕ → Type 0
CarriesNone packet = (frame : List ℕ) → Carries packet frame → ⊥
