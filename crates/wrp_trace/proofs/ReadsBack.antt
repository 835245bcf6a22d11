-- A printed line reads back as the input that was printed.
use Rattle.std.proofs.Common.{◌≡◌, ℕ, ℤ, pos, negsuc, length, ◌+◌, ◌<◌, ◌≤◌, ◌^◌, List, [], ◌∷◌, Bool, true, false, Option, None, Some, Ok, refl, sym, ap, ◌∙◌, arith}
use Rattle.std.specs.Prelude.{codes, unwrap_or, if◌then◌else◌}
use Rattle.std.specs.List.{join_with_byte}
use Rattle.std.specs.Fmt.{decimal, signed_decimal}
use Rattle.arrayvec.specs.ArrayVec.{ArrayVec}
use Rattle.hex.specs.Hex.{encode_lower, IsBytes}
use Rattle.byteorder.specs.Endian.{big_bytes}
use Rattle.wrp_base.specs.declared.link.Module.{Module}
use Rattle.wrp_base.specs.declared.time.Raw.{Raw}
use Rattle.wrp_base.specs.declared.time.Stamp.{Stamp}
use Rattle.wrp_config.specs.Accepted.{IsSoundDatabase}
use Rattle.wrp_node.specs.declared.interface.Input.{Input}
use Rattle.wrp_node.specs.declared.interface.Input.TheVariants as inputs
use Rattle.wrp_trace.specs.Digits.{frame_of as frame_octets, bits_of}
use Rattle.wrp_fields.specs.Fields.{number_at}
use Rattle.wrp_trace.specs.Fields.{u16_at, u32_at, step_at, counter_at, bits_at, octets_at, time_at, raw_from, stamp_from, message_at, own_port, port_at, module_at}
use Rattle.wrp_trace.specs.Inputs.{sample_of, frame_of, sent_of, up_of, down_of, input_of, read_of}
use Rattle.wrp_fields.specs.Numbers.{natural_in}
use Rattle.wrp_trace.specs.Times.{time_of}
use Rattle.wrp_trace.specs.InputAt.{IsListed, IsInputAt, FitsTypes}
use Rattle.wrp_trace.specs.Printing.{bits_text, message_text, module_text, texts_of, line_of}
use Rattle.wrp_fields.specs.Reading.{field_of, ◌>>=◌, number_or_fault, name_or_fault}
use Rattle.wrp_trace.specs.LineSetting.{LineSetting, is_grandmaster, has_port, named_at}
use Rattle.wrp_trace.proofs.DigitLemmas.{frame_back, bits_back, number_octets}
use Rattle.wrp_trace.proofs.Listed.{printed_name, name_finds, plain_name}
use Rattle.wrp_trace.proofs.NumberLemmas.{natural_back, time_back}
use Rattle.wrp_trace.proofs.Texts.{IsText, decimal_text, hex_text, name_text, line_says}
use Rattle.wrp_course.specs.EventAt.{IsRaw, IsTime}

-- Fields

pub number_read : (least greatest place n : ℕ) (fields : List (List ℕ)) → least ≤ n → n ≤ greatest → n < 10 ^ 39
    → field_of place fields ≡ decimal n → number_at least greatest place fields ≡ Ok n
number_read least greatest place n fields low high small e =
    ap (λ text. number_or_fault place (natural_in least greatest text)) e
    ∙ ap (number_or_fault place) (natural_back least greatest n low high small)

pub short_read : (place n : ℕ) (fields : List (List ℕ)) → n < 2 ^ 16 → field_of place fields ≡ decimal n → u16_at place fields ≡ Ok n
short_read place n fields small e = number_read 0 65_535 place n fields (omega arith) (omega arith) (omega arith) e

pub long_read : (place n : ℕ) (fields : List (List ℕ)) → n < 2 ^ 32 → field_of place fields ≡ decimal n → u32_at place fields ≡ Ok n
long_read place n fields small e = number_read 0 4_294_967_295 place n fields (omega arith) (omega arith) (omega arith) e

pub step_read : (place n : ℕ) (fields : List (List ℕ)) → n ≤ 16_383 → field_of place fields ≡ decimal n → step_at place fields ≡ Ok n
step_read place n fields small e = number_read 0 16_383 place n fields (omega arith) small (omega arith) e

pub counter_read : (place n : ℕ) (fields : List (List ℕ)) → 1 ≤ n → n ≤ 9_223_372_036_854_775_807 → field_of place fields ≡ decimal n → counter_at place fields ≡ Ok n
counter_read place n fields low high e = number_read 1 9_223_372_036_854_775_807 place n fields low high (omega arith) e

pub bits_read : (place bits : ℕ) (fields : List (List ℕ)) → bits < 2 ^ 64 → field_of place fields ≡ bits_text bits → bits_at place fields ≡ Ok bits
bits_read place bits fields small e =
    ap (λ text. number_or_fault place (bits_of text)) e ∙ ap (number_or_fault place) (bits_back bits small)

pub octets_read : (place : ℕ) (frame : ArrayVec ℕ) (fields : List (List ℕ)) → IsBytes frame.items → length frame.items ≤ 256
    → field_of place fields ≡ encode_lower frame.items → octets_at place fields ≡ Ok frame
octets_read place frame fields fit few e =
    ap (λ text. number_or_fault place (frame_octets text)) e ∙ ap (number_or_fault place) (frame_back frame fit few)

pub time_read : (place : ℕ) (time : ℤ) (fields : List (List ℕ)) → IsTime time → field_of place fields ≡ signed_decimal time → time_at place fields ≡ Ok time
time_read place time fields is e =
    ap (λ text. number_or_fault place (time_of text)) e ∙ ap (number_or_fault place) (time_back time is)

own : (site : LineSetting) (place port : ℕ) → has_port site port ≡ true → own_port site place port ≡ Ok port
own site place port has = ap (λ b. name_or_fault place (if b then Some port else None)) has

port_read : (site : LineSetting) (place port : ℕ) (fields : List (List ℕ)) → port < 2 ^ 16 → has_port site port ≡ true
    → field_of place fields ≡ decimal port → port_at site place fields ≡ Ok port
port_read site place port fields small has e =
    ap (λ r. r >>= own_port site place) (short_read place port fields small e) ∙ own site place port has

-- Lines

sample_read : (fields : List (List ℕ)) (n base bits : ℕ) → u32_at 2 fields ≡ Ok n → step_at 3 fields ≡ Ok base → bits_at 4 fields ≡ Ok bits
    → sample_of fields ≡ Ok (inputs.Sample n base bits)
sample_read fields n base bits e1 e2 e3 = rw (e1, e2, e3) refl

pub raw_read : (place : ℕ) (fields : List (List ℕ)) (raw : Raw) → counter_at place fields ≡ Ok raw.rising
    → counter_at (place + 1) fields ≡ Ok raw.falling → step_at (place + 2) fields ≡ Ok raw.tag
    → raw_from place fields ≡ Ok raw
raw_read place fields raw e1 e2 e3 = rw (e1, e2, e3) refl

frame_read : (site : LineSetting) (fields : List (List ℕ)) (port : ℕ) (frame : ArrayVec ℕ) (raw : Raw) (sample : ℕ)
    → port_at site 2 fields ≡ Ok port → octets_at 3 fields ≡ Ok frame → raw_from 4 fields ≡ Ok raw → u32_at 7 fields ≡ Ok sample
    → frame_of site fields ≡ Ok (inputs.Frame port frame raw sample)
frame_read site fields port frame raw sample e1 e2 e3 e4 = rw (e1, e2, e3, e4) refl

stamp_read : (place : ℕ) (fields : List (List ℕ)) (stamp : Stamp) → time_at place fields ≡ Ok stamp.value
    → u32_at (place + 1) fields ≡ Ok stamp.sample → stamp_from place fields ≡ Ok stamp
stamp_read place fields stamp e1 e2 = rw (e1, e2) refl

sent_read : (site : LineSetting) (fields : List (List ℕ)) (port seq : ℕ) (delay : Bool) (stamp : Stamp)
    → port_at site 2 fields ≡ Ok port → message_at 3 fields ≡ Ok delay → u16_at 4 fields ≡ Ok seq → stamp_from 5 fields ≡ Ok stamp
    → sent_of site fields ≡ Ok (inputs.Sent port seq delay stamp)
sent_read site fields port seq delay stamp e1 e2 e3 e4 = rw (e1, e2, e3, e4) refl

up_read : (site : LineSetting) (fields : List (List ℕ)) (port : ℕ) (entry : Option Module)
    → port_at site 2 fields ≡ Ok port → module_at site port 3 fields ≡ Ok entry
    → up_of site fields ≡ Ok (inputs.Carrier port true entry)
up_read site fields port entry e1 e2 = rw (e1, e2) refl

down_read : (site : LineSetting) (fields : List (List ℕ)) (port : ℕ) → port_at site 2 fields ≡ Ok port
    → down_of site fields ≡ Ok (inputs.Carrier port false None)
down_read site fields port e1 = rw e1 refl

-- Kinds

pub short_text : (n : ℕ) → n < 2 ^ 64 → IsText (decimal n)
short_text n small = decimal_text n (omega arith)

sample_says : (site : LineSetting) (n base bits : ℕ) → is_grandmaster site ≡ false → n < 2 ^ 32 → base ≤ 16_383 → bits < 2 ^ 64
    → input_of site (texts_of site (inputs.Sample n base bits)) ≡ Ok (inputs.Sample n base bits)
sample_says site n base bits slave small low few =
    let fields = texts_of site (inputs.Sample n base bits) in
    rw slave (sample_read fields n base bits (long_read 2 n fields small refl) (step_read 3 base fields low refl) (bits_read 4 bits fields few refl))

pub sample_back : (site : LineSetting) (n base bits : ℕ) → is_grandmaster site ≡ false → n < 2 ^ 32 → base ≤ 16_383 → bits < 2 ^ 64
    → read_of site (line_of site (inputs.Sample n base bits)) ≡ Ok (inputs.Sample n base bits)
sample_back site n base bits slave small low few =
    line_says site 115 (codes "ample") (decimal n ∷ decimal base ∷ bits_text bits ∷ [])
    (refl, (short_text n (omega arith), (short_text base (omega arith), (hex_text (big_bytes 8 bits) (number_octets 8 bits), tt))))
    ∙ sample_says site n base bits slave small low few

frame_says : (site : LineSetting) (port : ℕ) (frame : ArrayVec ℕ) (raw : Raw) (sample : ℕ) → has_port site port ≡ true → port < 2 ^ 16
    → IsBytes frame.items → length frame.items ≤ 256 → IsRaw raw → sample < 2 ^ 32
    → input_of site (texts_of site (inputs.Frame port frame raw sample)) ≡ Ok (inputs.Frame port frame raw sample)
frame_says site port frame raw sample has small fit few is last =
    let fields = texts_of site (inputs.Frame port frame raw sample) in
    frame_read site fields port frame raw sample (port_read site 2 port fields small has refl) (octets_read 3 frame fields fit few refl)
    (raw_read 4 fields raw (counter_read 4 raw.rising fields is.rising.0 is.rising.1 refl) (counter_read 5 raw.falling fields is.falling.0 is.falling.1 refl) (step_read 6 raw.tag fields is.tag refl))
    (long_read 7 sample fields last refl)

pub frame_line_back : (site : LineSetting) (port : ℕ) (frame : ArrayVec ℕ) (raw : Raw) (sample : ℕ) → has_port site port ≡ true → port < 2 ^ 16
    → IsBytes frame.items → length frame.items ≤ 256 → IsRaw raw → sample < 2 ^ 32
    → read_of site (line_of site (inputs.Frame port frame raw sample)) ≡ Ok (inputs.Frame port frame raw sample)
frame_line_back site port frame raw sample has small fit few is last =
    line_says site 102 (codes "rame") (decimal port ∷ encode_lower frame.items ∷ decimal raw.rising ∷ decimal raw.falling ∷ decimal raw.tag ∷ decimal sample ∷ [])
    (refl, (short_text port (omega arith), (hex_text frame.items fit, (short_text raw.rising (omega (arith, is.rising.1)), (short_text raw.falling (omega (arith, is.falling.1)), (short_text raw.tag (omega (arith, is.tag)), (short_text sample (omega arith), tt)))))))
    ∙ frame_says site port frame raw sample has small fit few is last

message_read : (delay : Bool) (fields : List (List ℕ)) → field_of 3 fields ≡ message_text delay → message_at 3 fields ≡ Ok delay
message_read true fields e = rw e refl
message_read false fields e = rw e refl

message_is_text : (delay : Bool) → IsText (message_text delay)
message_is_text true = refl
message_is_text false = refl

sent_says : (site : LineSetting) (port seq : ℕ) (delay : Bool) (stamp : Stamp) → has_port site port ≡ true → port < 2 ^ 16 → seq < 2 ^ 16
    → IsTime stamp.value → stamp.sample < 2 ^ 32
    → input_of site (texts_of site (inputs.Sent port seq delay stamp)) ≡ Ok (inputs.Sent port seq delay stamp)
sent_says site port seq delay stamp has small low is last =
    let fields = texts_of site (inputs.Sent port seq delay stamp) in
    sent_read site fields port seq delay stamp (port_read site 2 port fields small has refl) (message_read delay fields refl)
    (short_read 4 seq fields low refl) (stamp_read 5 fields stamp (time_read 5 stamp.value fields is refl) (long_read 6 stamp.sample fields last refl))

time_text : (time : ℤ) → IsTime time → IsText (signed_decimal time)
time_text (pos n) is = decimal_text n (omega (arith, is.greatest))
time_text (negsuc n) is = absurd (omega (arith, is.least))

pub sent_back : (site : LineSetting) (port seq : ℕ) (delay : Bool) (stamp : Stamp) → has_port site port ≡ true → port < 2 ^ 16 → seq < 2 ^ 16
    → IsTime stamp.value → stamp.sample < 2 ^ 32
    → read_of site (line_of site (inputs.Sent port seq delay stamp)) ≡ Ok (inputs.Sent port seq delay stamp)
sent_back site port seq delay stamp has small low is last =
    line_says site 115 (codes "ent") (decimal port ∷ message_text delay ∷ decimal seq ∷ signed_decimal stamp.value ∷ decimal stamp.sample ∷ [])
    (refl, (short_text port (omega arith), (message_is_text delay, (short_text seq (omega arith), (time_text stamp.value is, (short_text stamp.sample (omega arith), tt))))))
    ∙ sent_says site port seq delay stamp has small low is last

-- what names a module at a port, and the module that it names
pub record IsName (site : LineSetting) (port : ℕ) (entry : Option Module) (name : List ℕ) : Type 0 where
  pub printed : module_text site port entry ≡ name
  pub text : IsText name
  pub finds : named_at site port name ≡ Some entry

some_name : (site : LineSetting) (port : ℕ) (entry : Option Module) → IsSoundDatabase site.db → IsListed site port entry
    → (name : List ℕ) × IsName site port entry name
some_name site port None sound listed = (codes "unlisted", record { printed = refl; text = refl; finds = refl })
some_name site port (Some values) sound listed =
    let found = printed_name site port values sound listed in
    let is = found.1 in (
      found.0,
      record {
        printed = ap (λ o. unwrap_or o []) is.printed;
        text = name_text found.0 (plain_name found.0 is.valid);
        finds = name_finds site port values found.0 is;
      },
    )

up_says : (site : LineSetting) (port : ℕ) (entry : Option Module) (name : List ℕ) → has_port site port ≡ true → port < 2 ^ 16
    → named_at site port name ≡ Some entry
    → input_of site (codes "up" ∷ decimal port ∷ name ∷ []) ≡ Ok (inputs.Carrier port true entry)
up_says site port entry name has small finds =
    let fields : List (List ℕ) = codes "up" ∷ decimal port ∷ name ∷ [] in
    up_read site fields port entry (port_read site 2 port fields small has refl) (ap (name_or_fault 3) finds)

pub up_back : (site : LineSetting) (port : ℕ) (entry : Option Module) → IsSoundDatabase site.db → has_port site port ≡ true → port < 2 ^ 16
    → IsListed site port entry
    → read_of site (line_of site (inputs.Carrier port true entry)) ≡ Ok (inputs.Carrier port true entry)
up_back site port entry sound has small listed =
    let named = some_name site port entry sound listed in
    let is = named.1 in
    ap (λ name. read_of site (join_with_byte 44 (codes "up" ∷ decimal port ∷ name ∷ []))) is.printed
    ∙ line_says site 117 (codes "p") (decimal port ∷ named.0 ∷ []) (refl, (short_text port (omega arith), (is.text, tt)))
    ∙ up_says site port entry named.0 has small is.finds

down_says : (site : LineSetting) (port : ℕ) → has_port site port ≡ true → port < 2 ^ 16
    → input_of site (codes "down" ∷ decimal port ∷ []) ≡ Ok (inputs.Carrier port false None)
down_says site port has small =
    let fields : List (List ℕ) = codes "down" ∷ decimal port ∷ [] in
    down_read site fields port (port_read site 2 port fields small has refl)

pub down_back : (site : LineSetting) (port : ℕ) (entry : Option Module) → has_port site port ≡ true → port < 2 ^ 16 → entry ≡ None
    → read_of site (line_of site (inputs.Carrier port false entry)) ≡ Ok (inputs.Carrier port false entry)
down_back site port entry has small none =
    line_says site 100 (codes "own") (decimal port ∷ []) (refl, (short_text port (omega arith), tt))
    ∙ down_says site port has small ∙ ap (λ e. Ok (inputs.Carrier port false e)) (sym none)

-- each line that can be printed reads back
pub reads_back : (site : LineSetting) (x : Input) → IsSoundDatabase site.db → IsInputAt site x → FitsTypes x
    → read_of site (line_of site x) ≡ Ok x
reads_back site inputs.Tick sound is fits = line_says site 116 (codes "ick") [] (refl, tt)
reads_back site (inputs.Sample n base bits) sound is fits = sample_back site n base bits is.0 fits.0 is.1 fits.1
reads_back site (inputs.Frame port octets raw sample) sound is fits =
    frame_line_back site port octets raw sample is.0 fits.0 fits.1.0 fits.1.1 is.1 fits.2
reads_back site (inputs.Sent port seq delay stamp) sound is fits = sent_back site port seq delay stamp is.0 fits.0 fits.1 is.1 fits.2
reads_back site (inputs.Carrier port true entry) sound is fits = up_back site port entry sound is.0 fits is.1
reads_back site (inputs.Carrier port false entry) sound is fits = down_back site port entry is.0 fits is.1
reads_back site inputs.Reset sound is fits = line_says site 114 (codes "eset") [] (refl, tt)
