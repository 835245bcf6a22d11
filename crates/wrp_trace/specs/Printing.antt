-- Input lines, printed: numbers without leading zeros, hex in lower case (this project's profile).
use Rattle.std.specs.Prelude.{ℕ, Bool, true, false, unwrap_or, Option, None, Some, List, [], ◌∷◌, codes}
use Rattle.std.specs.List.{join_with_byte}
use Rattle.std.specs.Fmt.{decimal, signed_decimal}
use Rattle.byteorder.specs.Endian.{big_bytes}
use Rattle.hex.specs.Hex.{encode_lower}
use Rattle.wrp_base.specs.declared.link.Module.{Module}
use Rattle.wrp_base.specs.declared.time.Raw.{Raw}
use Rattle.wrp_base.specs.declared.time.Stamp.{Stamp}
use Rattle.wrp_node.specs.declared.interface.Input.{Input}
use Rattle.wrp_node.specs.declared.interface.Input.TheVariants.{Tick, Sample, Frame, Sent, Carrier, Reset}
use Rattle.wrp_trace.specs.LineSetting.{LineSetting, name_of}

-- BITS: the 16 digits of a number's eight octets, the most significant first
abbrev pub bits_text : ℕ → List ℕ
bits_text bits = encode_lower (big_bytes 8 bits)

-- which message was sent: a Delay_Req, or else a Sync
abbrev pub message_text : Bool → List ℕ
message_text true = codes "delay"
message_text false = codes "sync"

-- MODULE: the first listed name with these values at the port, or `unlisted` for a module that the
-- database does not list
abbrev pub module_text : LineSetting → ℕ → Option Module → List ℕ
module_text site port None = codes "unlisted"
module_text site port (Some values) = unwrap_or (name_of site port values) []

-- the fields of a line, with commas (octet 44) between them
abbrev pub joined : List (List ℕ) → List ℕ
joined texts = join_with_byte 44 texts

-- `sample,N,BASE,BITS`
abbrev pub sample_texts : ℕ → ℕ → ℕ → List (List ℕ)
sample_texts n base bits = codes "sample" ∷ decimal n ∷ decimal base ∷ bits_text bits ∷ []

-- `frame,PORT,HEX,RISING,FALLING,TAG,SAMPLE`
abbrev pub frame_texts : ℕ → List ℕ → Raw → ℕ → List (List ℕ)
frame_texts port octets raw sample =
    codes "frame" ∷ decimal port ∷ encode_lower octets
    ∷ decimal raw.rising ∷ decimal raw.falling ∷ decimal raw.tag ∷ decimal sample ∷ []

-- `sent,PORT,sync,SEQ,STAMP,SAMPLE`, and the same with `delay`
abbrev pub sent_texts : ℕ → ℕ → Bool → Stamp → List (List ℕ)
sent_texts port seq delay stamp =
    codes "sent" ∷ decimal port ∷ message_text delay ∷ decimal seq
    ∷ signed_decimal stamp.value ∷ decimal stamp.sample ∷ []

-- `up,PORT,MODULE` and `down,PORT`
abbrev pub carrier_texts : LineSetting → ℕ → Bool → Option Module → List (List ℕ)
carrier_texts site port true entry =
    codes "up" ∷ decimal port ∷ module_text site port entry ∷ []
carrier_texts site port false entry = codes "down" ∷ decimal port ∷ []

-- the fields of an input's line
abbrev pub texts_of : LineSetting → Input → List (List ℕ)
texts_of site Tick = codes "tick" ∷ []
texts_of site (Sample n base bits) = sample_texts n base bits
texts_of site (Frame port octets raw sample) = frame_texts port octets.items raw sample
texts_of site (Sent port seq delay stamp) = sent_texts port seq delay stamp
texts_of site (Carrier port up entry) = carrier_texts site port up entry
texts_of site Reset = codes "reset" ∷ []

-- the line of an input at a node
abbrev pub line_of : LineSetting → Input → List ℕ
line_of site x = joined (texts_of site x)
