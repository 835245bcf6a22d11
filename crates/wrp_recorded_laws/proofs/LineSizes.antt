-- The line of an input is no longer than a record line may be.
use Rattle.std.proofs.Common.{◌≡◌, ap, sym, subst, ℕ, ℤ, pos, negsuc, suc, ◌+◌, ◌*◌, ◌<◌, ◌≤◌, ◌^◌, ◌&&◌, Bool, true, false, List, [], ◌∷◌, ◌++◌, length, length-append, Option, None, Some, arith, lit<}
use Rattle.std.specs.Prelude.{nat_le, unwrap_or}
use Rattle.std.specs.Fmt.{decimal, signed_decimal}
use Rattle.std.specs.List.{AllByRecursion, join_with_byte, list_all}
use Rattle.std.proofs.lemmas.Bool.{and_parts, leb-true}
use Rattle.std.proofs.lemmas.Fmt.{length-decimal-le_wide}
use Rattle.byteorder.specs.Endian.{big_bytes}
use Rattle.byteorder.specs.Numbers.{length-bytes_high_first}
use Rattle.hex.specs.Hex.{encode_lower, lower_digits}
use Rattle.hex.proofs.HexLemmas.{length-encode_with}
use Rattle.wrp_base.specs.declared.link.Module.{Module}
use Rattle.wrp_caldb.specs.Name.{is_letter, is_name, is_name_octet}
use Rattle.wrp_config.specs.Accepted.{IsSoundDatabase}
use Rattle.wrp_node.specs.declared.interface.Input.{Input}
use Rattle.wrp_node.specs.declared.interface.Input.TheVariants.{Tick, Sample, Frame, Sent, Carrier, Reset}
use Rattle.wrp_trace.specs.InputAt.{FitsTypes, IsInputAt, IsListed}
use Rattle.wrp_trace.specs.Printing.{bits_text, line_of, message_text, module_text, texts_of}
use Rattle.wrp_trace.specs.LineSetting.{LineSetting}
use Rattle.wrp_trace.proofs.Listed.{plain_name, printed_name}
use Rattle.wrp_course.specs.EventAt.{IsTime}

-- a text of at most 512 octets
abbrev IsBrief : List ℕ → Type 0
IsBrief text = length text ≤ 512

joined_size : (texts : List (List ℕ)) → AllByRecursion IsBrief texts → length (join_with_byte 44 texts) ≤ 513 * length texts
joined_size [] h = omega arith
joined_size (text ∷ []) h = let one = h.0 in omega (arith, one)
joined_size (text ∷ next ∷ texts) h =
    let one = h.0 in
    let rest : length (join_with_byte 44 (next ∷ texts)) ≤ 513 * length (next ∷ texts) = joined_size (next ∷ texts) h.1 in
    let all : length (text ++ 44 ∷ join_with_byte 44 (next ∷ texts)) ≡ length text + suc (length (join_with_byte 44 (next ∷ texts))) = length-append text (44 ∷ join_with_byte 44 (next ∷ texts)) in
    omega (arith, one, rest, all)

number_brief : (n : ℕ) → n < 10 ^ 39 → IsBrief (decimal n)
number_brief n small =
    let wide : n < 10 ^ 64 = omega (arith, small) in
    let few : length (decimal n) ≤ 39 = length-decimal-le_wide 39 n (lit< tt) small wide in
    omega (arith, few)

short_brief : (n : ℕ) → n < 2 ^ 64 → IsBrief (decimal n)
short_brief n small = number_brief n (omega (arith, small))

time_brief : (time : ℤ) → IsTime time → IsBrief (signed_decimal time)
time_brief (pos n) is = let most = is.greatest in number_brief n (omega (arith, most))
time_brief (negsuc n) is = absurd (let least = is.least in omega (arith, least))

hex_brief : (octets : List ℕ) → length octets ≤ 256 → IsBrief (encode_lower octets)
hex_brief octets few = let size : length (encode_lower octets) ≡ 2 * length octets = length-encode_with lower_digits octets in omega (arith, size, few)

bits_brief : (bits : ℕ) → IsBrief (bits_text bits)
bits_brief bits = let size : length (big_bytes 8 bits) ≡ 8 = length-bytes_high_first 8 bits in hex_brief (big_bytes 8 bits) (omega (arith, size))

name_brief : (name : List ℕ) → is_name name ≡ true → IsBrief name
name_brief [] is = omega arith
name_brief (c ∷ cs) is =
    let both = and_parts (is_letter c) (list_all is_name_octet cs && nat_le (length cs) 15) is in
    let rest = and_parts (list_all is_name_octet cs) (nat_le (length cs) 15) both.1 in
    let few : length cs ≤ 15 = leb-true (length cs) 15 rest.1 in
    omega (arith, few)

module_brief : (site : LineSetting) (port : ℕ) (entry : Option Module) → IsSoundDatabase site.db → IsListed site port entry → IsBrief (module_text site port entry)
module_brief site port None sound listed = omega arith
module_brief site port (Some values) sound listed =
    let found = printed_name site port values sound listed in
    subst IsBrief (sym (ap (λ (o : Option (List ℕ)). unwrap_or o []) found.1.printed)) (name_brief found.0 (plain_name found.0 found.1.valid))

message_brief : (delay : Bool) → IsBrief (message_text delay)
message_brief true = omega arith
message_brief false = omega arith

texts_brief : (site : LineSetting) (x : Input) → IsSoundDatabase site.db → IsInputAt site x → FitsTypes x → AllByRecursion IsBrief (texts_of site x) × (length (texts_of site x) ≤ 7)
texts_brief site Tick sound is fits = ((omega arith, tt), omega arith)
texts_brief site (Sample n base bits) sound is fits =
    let low = is.1 in
    let small = fits.0 in
    ((omega arith, (short_brief n (omega (arith, small)), (short_brief base (omega (arith, low)), (bits_brief bits, tt)))), omega arith)
texts_brief site (Frame port octets raw sample) sound is fits =
    let a = fits.0 in
    let b = is.1.rising.1 in
    let c = is.1.falling.1 in
    let d = is.1.tag in
    let e = fits.2 in (
      (
        omega arith,
        (
          short_brief port (omega (arith, a)),
          (
            hex_brief octets.items fits.1.1,
            (
              short_brief raw.rising (omega (arith, b)),
              (
                short_brief raw.falling (omega (arith, c)),
                (short_brief raw.tag (omega (arith, d)), (short_brief sample (omega (arith, e)), tt)),
              ),
            ),
          ),
        ),
      ),
      omega arith,
    )
texts_brief site (Sent port seq delay stamp) sound is fits =
    let a = fits.0 in
    let b = fits.1 in
    let c = fits.2 in
    ((omega arith, (short_brief port (omega (arith, a)), (message_brief delay, (short_brief seq (omega (arith, b)), (time_brief stamp.value is.1, (short_brief stamp.sample (omega (arith, c)), tt)))))), omega arith)
texts_brief site (Carrier port true entry) sound is fits =
    let a : port < 2 ^ 16 = fits in
    ((omega arith, (short_brief port (omega (arith, a)), (module_brief site port entry sound is.1, tt))), omega arith)
texts_brief site (Carrier port false entry) sound is fits =
    let a : port < 2 ^ 16 = fits in
    ((omega arith, (short_brief port (omega (arith, a)), tt)), omega arith)
texts_brief site Reset sound is fits = ((omega arith, tt), omega arith)

pub line_size : (site : LineSetting) (x : Input) → IsSoundDatabase site.db → IsInputAt site x → FitsTypes x → length (line_of site x) ≤ 8_192
line_size site x sound is fits =
    let brief = texts_brief site x sound is fits in
    let size : length (line_of site x) ≤ 513 * length (texts_of site x) = joined_size (texts_of site x) brief.0 in
    let few = brief.1 in
    omega (arith, size, few)
