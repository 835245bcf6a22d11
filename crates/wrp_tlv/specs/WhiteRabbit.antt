-- The values of White Rabbit TLVs: the table of ids and lengths, read and written (White Rabbit
-- Specification 2.0).
use Rattle.std.specs.Prelude.{◌≡◌, ℕ, Bool, ◌&&◌, ◌==◌, nat_le, nat_lt, if◌then◌else◌, List, [], ◌++◌, ◌<◌, ◌^◌, length, slice_index}
use Rattle.wrp_base.specs.declared.message.WrMsg.{WrMsg}
use Rattle.wrp_base.specs.declared.message.WrMsg.TheVariants.{Present, Lock, Locked, Calibrate, Calibrated, ModeOn}
use Rattle.wrp_tlv.specs.declared.white_rabbit.WrRead.{WrRead}
use Rattle.wrp_tlv.specs.declared.white_rabbit.WrRead.TheVariants.{Wr, Suffix, Other, BadWr}
use Rattle.byteorder.specs.Endian.{big_bytes}
use Rattle.wrp_base.specs.Octets.{AreOctets}
use Rattle.wrp_tlv.specs.Octets.{number_at}

-- the value begins with organizationId 08 00 30 and organizationSubType DE AD 01
abbrev pub is_white_rabbit : List ℕ → Bool
is_white_rabbit value = nat_le 6 (length value) && (number_at 0 6 value == 0x0800_30DE_AD01)

-- what a value of this length says; a value of another length says nothing
abbrev pub sized : ℕ → List ℕ → WrRead → WrRead
sized n value read = if length value == n then read else BadWr

-- CALIBRATE: calSendPattern, calRetry and calPeriod
abbrev pub calibrate_at : List ℕ → WrMsg
calibrate_at value = Calibrate (slice_index value 8) (slice_index value 9) (number_at 10 4 value)

-- CALIBRATED: deltaTx and deltaRx
abbrev pub calibrated_at : List ℕ → WrMsg
calibrated_at value = Calibrated (number_at 8 8 value) (number_at 16 8 value)

-- the table of ids, each with its lengthField and its message: SLAVE_PRESENT, LOCK, LOCKED,
-- CALIBRATE, CALIBRATED, WR_MODE_ON, and ANN_SUFIX, the suffix of an Announce
unfoldable pub read_by_id : ℕ → List ℕ → WrRead
read_by_id id value =
    if id == 0x1000 then sized 8 value (Wr Present)
    else if id == 0x1001 then sized 8 value (Wr Lock)
    else if id == 0x1002 then sized 8 value (Wr Locked)
    else if id == 0x1003 then sized 14 value (Wr (calibrate_at value))
    else if id == 0x1004 then sized 24 value (Wr (calibrated_at value))
    else if id == 0x1005 then sized 8 value (Wr ModeOn)
    else if id == 0x2000 then sized 10 value (Suffix (number_at 8 2 value))
    else Other

-- what the value of an ORGANIZATION_EXTENSION says: without an id it is a bad value of White Rabbit
unfoldable pub wr_read : List ℕ → WrRead
wr_read value =
    if is_white_rabbit value
    then if nat_lt (length value) 8 then BadWr else read_by_id (number_at 6 2 value) value
    else Other

-- the beginning of the value of an id: organizationId, organizationSubType, and the id
abbrev pub value_start : ℕ → List ℕ
value_start id = big_bytes 6 0x0800_30DE_AD01 ++ big_bytes 2 id

-- the id of a message
abbrev pub id_of : WrMsg → ℕ
id_of Present = 0x1000
id_of Lock = 0x1001
id_of Locked = 0x1002
id_of (Calibrate pattern retry period) = 0x1003
id_of (Calibrated tx rx) = 0x1004
id_of ModeOn = 0x1005

-- the data after the id
abbrev pub data_of : WrMsg → List ℕ
data_of Present = []
data_of Lock = []
data_of Locked = []
data_of (Calibrate pattern retry period) =
    big_bytes 1 pattern ++ big_bytes 1 retry ++ big_bytes 4 period
data_of (Calibrated tx rx) = big_bytes 8 tx ++ big_bytes 8 rx
data_of ModeOn = []

-- the value that carries a message
abbrev pub wr_value : WrMsg → List ℕ
wr_value message = value_start (id_of message) ++ data_of message

-- the numbers of a message fit their octets
abbrev pub FitsOctets : WrMsg → Type 0
FitsOctets Present = Unit {0}
FitsOctets Lock = Unit {0}
FitsOctets Locked = Unit {0}
FitsOctets (Calibrate pattern retry period) = (pattern < 256) × (retry < 256) × (period < 256 ^ 4)
FitsOctets (Calibrated tx rx) = (tx < 256 ^ 8) × (rx < 256 ^ 8)
FitsOctets ModeOn = Unit {0}

-- the value that carries the wrFlags of a suffix
abbrev pub suffix_value : ℕ → List ℕ
suffix_value flags = value_start 0x2000 ++ big_bytes 2 flags

-- only the value of a message is read as that message, and only the value of a suffix as that suffix
pub record HaveOneValue : Type 0 where
  pub message : (value : List ℕ) (message : WrMsg)
      → AreOctets value → wr_read value ≡ Wr message → value ≡ wr_value message
  pub suffix : (value : List ℕ) (flags : ℕ)
      → AreOctets value → wr_read value ≡ Suffix flags → value ≡ suffix_value flags
