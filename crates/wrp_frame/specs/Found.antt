-- What a list of TLVs says of White Rabbit: its first message, its first suffix, and whether a bad
-- one is among them (White Rabbit Specification 2.0; which one counts is this project's profile).
use Rattle.std.specs.Prelude.{◌≡◌, ◌||◌, ℕ, List}
use Rattle.std.specs.List.{list_any}
use Rattle.std.specs.Option.{option_or}
use Rattle.wrp_frame.specs.declared.found.Found.{Found}
use Rattle.wrp_tlv.specs.declared.white_rabbit.WrRead.{WrRead}
use Rattle.wrp_frame.specs.declared.message_type.MessageType.{MessageType}
use Rattle.wrp_tlv.specs.TlvList.{TypedValue, Fills}
use Rattle.wrp_tlv.specs.WhiteRabbitList.{read_of, is_bad, message_or, suffix_or, first_message, first_suffix}
use Rattle.wrp_frame.specs.Grammar.{HasTlvs}

-- what the list says
abbrev pub found_in : List TypedValue → Found
found_in tlvs = record {
  message = first_message tlvs;
  suffix = first_suffix tlvs;
  bad = list_any (λ tlv. is_bad (read_of tlv)) tlvs;
}

-- what a TLV and those after it say
abbrev pub with_first : WrRead → Found → Found
with_first read later = record {
  message = message_or read later.message;
  suffix = suffix_or read later.suffix;
  bad = is_bad read || later.bad;
}

-- what two lists say, one after the other
abbrev pub joined : Found → Found → Found
joined earlier later = record {
  message = option_or earlier.message later.message;
  suffix = option_or earlier.suffix later.suffix;
  bad = earlier.bad || later.bad;
}

-- what the whole TLVs that fill the octets say
pub record IsFoundAmong (octets : List ℕ) (found : Found) : Type 0 where
  pub tlvs : List TypedValue
  pub filled : Fills tlvs octets
  pub is : found ≡ found_in tlvs

-- what the TLVs after the body say, of which none is a bad one that the kind reads
pub record HasFound (kind : MessageType) (octets : List ℕ) (found : Found) : Type 0 where
  pub tlvs : List TypedValue
  pub listed : HasTlvs kind tlvs octets
  pub is : found ≡ found_in tlvs
