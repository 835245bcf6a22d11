-- The message of an L1_SYNC TLV: its octets, and what is required and what holds (after Annex L of
-- IEEE 1588-2019; this project's profile).
use Rattle.std.specs.Prelude.{ℕ, ◌%◌, ◌==◌, Bool, bit_and, List, ◌∷◌, [], Option, None, Some}
use Rattle.wrp_l1sync.specs.declared.message.L1Msg.{L1Msg}

-- what the value of a TLV says: the three low bits of its first two octets; a shorter one says nothing
abbrev pub read_of : List ℕ → Option L1Msg
read_of [] = None
read_of (req ∷ []) = None
read_of (req ∷ is ∷ rest) = Some (record { req = req % 8; is = is % 8 })

-- the octets of a TLV: tlvType 8001, lengthField 2, what is required, what holds
abbrev pub tlv_of : L1Msg → List ℕ
tlv_of message = 0x80 ∷ 0x01 ∷ 0x00 ∷ 0x02 ∷ message.req ∷ message.is ∷ []

-- a message without any bit
abbrev pub no_bits : L1Msg
no_bits = record { req = 0; is = 0 }

-- every bit that is required is among those that hold
abbrev pub meets : (required holding : ℕ) → Bool
meets required holding = bit_and required holding == required
