-- The TLV at a place of the octets (IEEE 1588-2019).
use Rattle.std.specs.Prelude.{◌≡◌, ◌≤◌, ◌+◌, ℕ, List, length}
use Rattle.wrp_tlv.specs.declared.tlv.Tlv.{Tlv}
use Rattle.wrp_tlv.specs.Octets.{number_at}

-- a whole TLV is at n: tlvType, lengthField, and then the value, which ends within the octets
pub record StandsAt (octets : List ℕ) (n : ℕ) (tlv : Tlv) : Type 0 where
  pub kind : tlv.kind ≡ number_at n 2 octets
  pub from : tlv.from ≡ n + 4
  pub to : tlv.to ≡ n + 4 + number_at (n + 2) 2 octets
  pub whole : n + 4 ≤ length octets
  pub within : tlv.to ≤ length octets

-- no whole TLV is at n
abbrev pub HasNoTlvAt : List ℕ → ℕ → Type 0
HasNoTlvAt octets n = (tlv : Tlv) → StandsAt octets n tlv → ⊥
