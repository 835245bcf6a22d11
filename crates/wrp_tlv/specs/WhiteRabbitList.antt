-- What a list of TLVs says of White Rabbit: that the first message and the first suffix count is this project's
-- profile.
use Rattle.std.specs.Prelude.{ℕ, Bool, true, false, ◌==◌, if◌then◌else◌, List, [], ◌∷◌, Option, Some, None}
use Rattle.wrp_base.specs.declared.message.WrMsg.{WrMsg}
use Rattle.wrp_tlv.specs.declared.white_rabbit.WrRead.{WrRead}
use Rattle.wrp_tlv.specs.declared.white_rabbit.WrRead.TheVariants.{Wr, Suffix, Other, BadWr}
use Rattle.wrp_tlv.specs.TlvList.{TypedValue}
use Rattle.wrp_tlv.specs.WhiteRabbit.{wr_read}

-- what a TLV says: only an ORGANIZATION_EXTENSION, tlvType 3, says something
abbrev pub read_of : TypedValue → WrRead
read_of tlv = if tlv.kind == 0x0003 then wr_read tlv.value else Other

-- a TLV of White Rabbit that no reader understands
abbrev pub is_bad : WrRead → Bool
is_bad BadWr = true
is_bad (Wr message) = false
is_bad (Suffix flags) = false
is_bad Other = false

-- the message that is read, else the later one
abbrev pub message_or : WrRead → Option WrMsg → Option WrMsg
message_or (Wr message) later = Some message
message_or (Suffix flags) later = later
message_or Other later = later
message_or BadWr later = later

-- the wrFlags that are read, else the later ones
abbrev pub suffix_or : WrRead → Option ℕ → Option ℕ
suffix_or (Suffix flags) later = Some flags
suffix_or (Wr message) later = later
suffix_or Other later = later
suffix_or BadWr later = later

-- the first White Rabbit message of the list
abbrev pub first_message : List TypedValue → Option WrMsg
first_message [] = None
first_message (tlv ∷ tlvs) = message_or (read_of tlv) (first_message tlvs)

-- the wrFlags of the first White Rabbit suffix of the list
abbrev pub first_suffix : List TypedValue → Option ℕ
first_suffix [] = None
first_suffix (tlv ∷ tlvs) = suffix_or (read_of tlv) (first_suffix tlvs)
