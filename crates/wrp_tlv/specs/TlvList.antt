-- Lists of TLVs that fill a part of the octets (IEEE 1588-2019).
use Rattle.std.specs.Prelude.{◌≡◌, ℕ, List, [], ◌∷◌, ◌++◌, length}
use Rattle.byteorder.specs.Endian.{big_bytes}
use Rattle.wrp_tlv.specs.Octets.{number_at}

-- a whole TLV, wherever it is: its tlvType and its value
pub record TypedValue : Type 0 where
  pub kind : ℕ
  pub value : List ℕ

-- the four octets before a TLV's value: tlvType, and the value's length
pub record IsTlvHeader (head : List ℕ) (tlv : TypedValue) : Type 0 where
  pub whole : length head ≡ 4
  pub kind : tlv.kind ≡ number_at 0 2 head
  pub long : length tlv.value ≡ number_at 2 2 head

-- these whole TLVs, one after another, are the octets, and nothing is left
abbrev pub Fills : List TypedValue → List ℕ → Type 0
Fills [] octets = octets ≡ []
Fills (tlv ∷ tlvs) octets =
    (head : List ℕ)
    × (rest : List ℕ)
    × (octets ≡ head ++ (tlv.value ++ rest))
    × IsTlvHeader head tlv
    × Fills tlvs rest

-- no list of whole TLVs fills the octets
abbrev pub IsFilledByNone : List ℕ → Type 0
IsFilledByNone octets = (tlvs : List TypedValue) → Fills tlvs octets → ⊥

-- the octets of a TLV: tlvType, lengthField, value
abbrev pub tlv_octets : TypedValue → List ℕ
tlv_octets tlv = big_bytes 2 tlv.kind ++ big_bytes 2 (length tlv.value) ++ tlv.value

-- an ORGANIZATION_EXTENSION, which is tlvType 3, with this value
abbrev pub extension : List ℕ → TypedValue
extension value = record { kind = 0x0003; value = value }
