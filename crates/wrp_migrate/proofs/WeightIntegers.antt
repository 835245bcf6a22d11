-- How many digits a number that a text writes has.
use Rattle.std.proofs.Common.{◌≡◌, ◌≤◌, ◌<◌, ◌+◌, ◌-◌, ◌*◌, ◌^◌, ◌==◌, ◌&&◌, ◌||◌, not, cond, ℕ, ℤ, pos, neg_ℤ, zero, suc, true, false, Bool, List, [], ◌∷◌, ◌++◌, length, take, drop, filter, Option, Some, None, option_map, nat_lt, codes, bytes_eq, refl, sym, ap, ◌∙◌, subst, inl, inr, arith}
use Rattle.std.proofs.lemmas.Bool.{cases_Bool, and_parts}
use Rattle.std.proofs.lemmas.Bool.Decides.{nat_tests}
use Rattle.std.proofs.lemmas.Fmt.{length-decimal-le}
use Rattle.std.proofs.lemmas.Int.Digits.{digits_value-lt}
use Rattle.std.proofs.lemmas.List.{length-take}
use Rattle.std.proofs.Math.Nat.{pow-le-pow_left}
use Rattle.std.proofs.lemmas.Nat.{mul-pow, pow-add}
use Rattle.std.proofs.lemmas.Option.{none-some, same_Some}
use Rattle.std.specs.Float.{binary64, float_is_finite}
use Rattle.std.specs.Float.Ieee.{inf, nan}
use Rattle.std.specs.Char.{digit_value, is_digit, is_ascii_digit}
use Rattle.std.specs.Float.Numeral.{Parts, scan_numeral, numeral_digits, nearest_float}
use Rattle.std.specs.Fmt.{signed_decimal}
use Rattle.std.specs.List.{prefix_len, list_all}
use Rattle.std.specs.Str.Parse.{AllDigits, digits_value}
use Rattle.toml_parser.specs.Lexical.{first}
use Rattle.toml_parser.specs.Numbers.{radix_of, prefixed_integer, is_decimal, integer_of, float_of, decimal_number, plain_number, number, underscores_fit, underscore_radix, looks_like_datetime, word_value, unquoted, word_len}
use Rattle.toml_parser.specs.declared.scalar.Scalar.{Scalar}
use Rattle.toml_parser.specs.declared.scalar.Scalar.TheVariants.{Boolean, Integer, Float, Datetime}
use Rattle.wrp_migrate.proofs.WeightStrings.{byte_there, mapped, parts_length}

-- the digits of an integer are fewer than twice the octets that write it; nothing is said of another scalar
abbrev pub IsShort : ℕ → Scalar → Type 0
IsShort octets (Integer z) = length (signed_decimal z) + 1 ≤ 2 * octets
IsShort octets _ = Unit {0}

-- the same holds of what was read
abbrev Short : ℕ → Option Scalar → Type 0
Short octets o = (s : Scalar) → o ≡ Some s → IsShort octets s

short_none : (octets : ℕ) → Short octets None
short_none octets s e = absurd (none-some s e)

short_some : (octets : ℕ) (s : Scalar) → IsShort octets s → Short octets (Some s)
short_some octets s h t e = subst (IsShort octets) (same_Some s t e) h

short_if : (octets : ℕ) (b : Bool) (o p : Option Scalar) → (b ≡ true → Short octets o) → (b ≡ false → Short octets p) → Short octets (cond b o p)
short_if octets true o p h k = h refl
short_if octets false o p h k = k refl

more_octets : (few many : ℕ) (s : Scalar) → few ≤ many → IsShort few s → IsShort many s
more_octets few many (Integer z) less h = omega (arith, less, h)
more_octets few many (Boolean b) less h = tt
more_octets few many (Float x) less h = tt
more_octets few many (Datetime d) less h = tt

short_more : (few many : ℕ) (o : Option Scalar) → few ≤ many → Short few o → Short many o
short_more few many o less h s e = more_octets few many s less (h s e)

-- ---- digits

all_digits : (radix : ℕ) (cs : List ℕ) → list_all (λ c. is_digit c radix) cs ≡ true → AllDigits radix cs
all_digits radix [] all = tt
all_digits radix (c ∷ cs) all =
    let parts = and_parts (is_digit c radix) (list_all (λ d. is_digit d radix) cs) all in
    let here : nat_lt (digit_value c) radix ≡ true = parts.0 in
    (grind (arith, nat_tests, here), all_digits radix cs parts.1)

ascii_digit : (c : ℕ) → is_ascii_digit c ≡ true → digit_value c < 10
ascii_digit c h = grind (arith, nat_tests, h)

-- the digits in front
front_digits : (cs : List ℕ) → AllDigits 10 (take (prefix_len is_ascii_digit cs) cs)
front_digits [] = tt
front_digits (c ∷ cs) = elim (cases_Bool (is_ascii_digit c)) [
  | inl digit ↦
      let more : 1 + prefix_len is_ascii_digit cs ≡ suc (prefix_len is_ascii_digit cs) = omega arith in
      rw (digit, more) (ascii_digit c digit, front_digits cs)
  | inr other ↦ rw other tt
]

-- ---- decimal numbers

abbrev with_sign : Bool → ℕ → ℤ
with_sign negative n = cond negative (neg_ℤ (pos n)) (pos n)

abbrev sign_length : Bool → ℕ
sign_length negative = cond negative 1 0

signed_length : (negative : Bool) (n k : ℕ) → 0 < k → n < 10 ^ k → n < 2 ^ 64 → length (signed_decimal (with_sign negative n)) ≤ sign_length negative + k
signed_length false n k some small fits = let size = length-decimal-le k n some small fits in omega (arith, size)
signed_length true zero k some small fits = let one = length-decimal-le k 0 some small fits in omega (arith, one)
signed_length true (suc n) k some small fits = let size = length-decimal-le k (suc n) some small fits in omega (arith, size)

limited : (negative : Bool) (n : ℕ) → (nat_lt n (2 ^ 63) || (negative && n == 2 ^ 63)) ≡ true → n < 2 ^ 64
limited negative n h = grind (arith, nat_tests, h)

integer_short : (negative : Bool) (octets n k : ℕ) → 0 < k → n < 10 ^ k → sign_length negative + k ≤ octets → Short octets (integer_of negative n)
integer_short negative octets n k some small fits =
    short_if octets (nat_lt n (2 ^ 63) || (negative && n == 2 ^ 63)) (Some (Integer (with_sign negative n))) None
    (λ is. let size = signed_length negative n k some small (limited negative n is) in
    short_some octets (Integer (with_sign negative n)) (omega (arith, size, fits, some)))
    (λ is. short_none octets)

whole_is : (word : List ℕ) → (scan_numeral word).whole ≡ take (prefix_len is_ascii_digit word) word
unfolding scan_numeral
whole_is word =
    let same : 0 + prefix_len is_ascii_digit word - 0 ≡ prefix_len is_ascii_digit word = omega arith in
    ap (λ n. take n word) same

no_fraction : (word : List ℕ) → (scan_numeral word).point ≡ false → (scan_numeral word).fraction ≡ []
unfolding scan_numeral
no_fraction word none = rw none refl

append_nil : (xs : List ℕ) → xs ++ [] ≡ xs
append_nil [] = refl
append_nil (x ∷ xs) = ap (λ t. x ∷ t) (append_nil xs)

or_first : (b c : Bool) → (b || c) ≡ false → b ≡ false
or_first false c h = refl
or_first true c h = absurd cc

not_true : (b : Bool) → not b ≡ false → b ≡ true
not_true true h = refl
not_true false h = absurd cc

float_short : (octets : ℕ) (negative : Bool) (p : Parts) → Short octets (float_of negative p)
float_short octets negative p =
    short_if octets (float_is_finite (nearest_float binary64 negative p)) (Some (Float (nearest_float binary64 negative p))) None
    (λ is. short_some octets (Float (nearest_float binary64 negative p)) tt) (λ is. short_none octets)

decimal_short : (negative : Bool) (octets : ℕ) (word : List ℕ) → sign_length negative + length word ≤ octets → Short octets (decimal_number negative word)
unfolding decimal_number
decimal_short negative octets word fits =
    let p = scan_numeral word in
    let sound = p.len == length word && is_decimal p in
    let digits = prefix_len is_ascii_digit word in
    short_if octets (bytes_eq word (codes "inf")) (Some (Float (inf negative))) _ (λ is. short_some octets (Float (inf negative)) tt) (λ not_inf.
    short_if octets (bytes_eq word (codes "nan")) (Some (Float nan)) _ (λ is. short_some octets (Float nan) tt) (λ not_nan.
    short_if octets (not sound) None _ (λ is. short_none octets) (λ is_sound.
    short_if octets (p.point || nat_lt 0 (length p.exponent)) (float_of negative p) (integer_of negative (numeral_digits p))
    (λ is. float_short octets negative p) (λ whole.
    let point = or_first p.point (nat_lt 0 (length p.exponent)) whole in
    let front = (and_parts (p.len == length word) (is_decimal p) (not_true sound is_sound)).1 in
    let lengths = (and_parts (nat_lt 0 (length p.whole) && (length p.whole == 1 || not (first p.whole == 48)))
    (not p.point || nat_lt 0 (length p.fraction)) front).0 in
    let some : nat_lt 0 (length p.whole) ≡ true = (and_parts (nat_lt 0 (length p.whole)) (length p.whole == 1 || not (first p.whole == 48)) lengths).0 in
    let all : p.whole ++ p.fraction ≡ take digits word = ap (λ f. p.whole ++ f) (no_fraction word point) ∙ append_nil p.whole ∙ whole_is word in
    let taken = length-take digits word in
    let own = ap length (whole_is word) in
    let there : 0 < length (take digits word) = grind (arith, nat_tests, some, own) in
    let value : digits_value 10 (p.whole ++ p.fraction) < 10 ^ length (take digits word) =
    subst (λ (ds : List ℕ). digits_value 10 ds < 10 ^ length (take digits word)) (sym all) (digits_value-lt 10 (take digits word) (front_digits word)) in
    integer_short negative octets (digits_value 10 (p.whole ++ p.fraction)) (length (take digits word)) there value (omega (arith, fits, taken))))))

-- ---- numbers with a prefix

hundred : (m : ℕ) → 100 ^ m ≡ 10 ^ (m + m)
hundred m = mul-pow 10 10 m ∙ sym (pow-add 10 m m)

radix_le : (word : List ℕ) → radix_of word ≤ 100
radix_le word = grind (arith)

prefixed_short : (radix octets : ℕ) (digits : List ℕ) → radix ≤ 100 → length digits + 2 ≤ octets → Short octets (prefixed_integer radix digits)
unfolding prefixed_integer
prefixed_short radix octets digits small fits =
    let m = length digits in
    let value = digits_value radix digits in
    let sound = (nat_lt 0 m && list_all (λ c. is_digit c radix) digits) && nat_lt value (2 ^ 63) in
    short_if octets sound (Some (Integer (pos value))) None (λ is.
    let parts = and_parts (nat_lt 0 m && list_all (λ c. is_digit c radix) digits) (nat_lt value (2 ^ 63)) is in
    let front = and_parts (nat_lt 0 m) (list_all (λ c. is_digit c radix) digits) parts.0 in
    let some : nat_lt 0 m ≡ true = front.0 in
    let there : 0 < m = grind (arith, nat_tests, some) in
    let limit : nat_lt value (2 ^ 63) ≡ true = parts.1 in
    let below : value < 2 ^ 64 = grind (arith, nat_tests, limit) in
    let by_radix = digits_value-lt radix digits (all_digits radix digits front.1) in
    let by_hundred : radix ^ m ≤ 100 ^ m = pow-le-pow_left small m in
    let same = hundred m in
    let size = length-decimal-le (m + m) value (omega (arith, there)) (omega (arith, by_radix, by_hundred, same)) below in
    short_some octets (Integer (pos value)) (omega (arith, size, fits))) (λ is. short_none octets)

-- ---- words

prefixed_there : (word : List ℕ) → not (radix_of word == 10) ≡ true → length (drop 2 word) + 2 ≤ length word
prefixed_there [] h = absurd cc
prefixed_there (a ∷ []) h = absurd (grind (arith, nat_tests, h))
prefixed_there (a ∷ b ∷ cs) h = omega arith

plain_short : (octets : ℕ) (word : List ℕ) → length word ≤ octets → Short octets (plain_number word)
unfolding plain_number
plain_short octets word fits =
    short_if octets (not (radix_of word == 10)) (prefixed_integer (radix_of word) (drop 2 word)) _
    (λ is. let two = prefixed_there word is in prefixed_short (radix_of word) octets (drop 2 word) (radix_le word) (omega (arith, two, fits))) (λ decimal_word.
    short_if octets (first word == 45) (decimal_number true (drop 1 word)) _
    (λ is. let one = byte_there 45 word (omega arith) is in decimal_short true octets (drop 1 word) (omega (arith, one, fits))) (λ no_dash.
    short_if octets (first word == 43) (decimal_number false (drop 1 word)) (decimal_number false word)
    (λ is. let one = byte_there 43 word (omega arith) is in decimal_short false octets (drop 1 word) (omega (arith, one, fits)))
    (λ bare. decimal_short false octets word (omega (arith, fits)))))

filter_le : (p : ℕ → Bool) (xs : List ℕ) → length (filter p xs) ≤ length xs
filter_le p [] = omega arith
filter_le p (x ∷ xs) = let more = filter_le p xs in
    elim (cases_Bool (p x)) [ inl passes ↦ rw passes (omega (arith, more)) | inr other ↦ rw other (omega (arith, more)) ]

number_short : (word : List ℕ) → Short (length word) (number word)
unfolding number
number_short word =
    let plain = filter (λ c. not (c == 95)) word in
    short_if (length word) (underscores_fit (λ c. is_digit c (underscore_radix word)) 0 word) (plain_number plain) None
    (λ is. plain_short (length word) plain (filter_le (λ c. not (c == 95)) word)) (λ is. short_none (length word))

mapped_short : {D : Type 0} (octets : ℕ) (f : D → Scalar) (o : Option D) → ((d : D) → IsShort octets (f d)) → Short octets (option_map f o)
mapped_short octets f None h = short_none octets
mapped_short octets f (Some d) h = short_some octets (f d) (h d)

word_short : (word : List ℕ) → Short (length word) (word_value word)
unfolding word_value
word_short word =
    short_if (length word) (bytes_eq word (codes "true")) (Some (Boolean true)) _ (λ is. short_some (length word) (Boolean true) tt) (λ not_true.
    short_if (length word) (bytes_eq word (codes "false")) (Some (Boolean false)) _ (λ is. short_some (length word) (Boolean false) tt) (λ not_false.
    short_if (length word) (looks_like_datetime word) _ (number word)
    (λ is. mapped_short (length word) Datetime _ (λ d. tt)) (λ is. number_short word)))

-- a scalar that a text begins with
pub unquoted_short : (text : List ℕ) (s : Scalar) (rest : List ℕ) → unquoted text ≡ Some (s, rest)
    → (octets : ℕ) × (octets + length rest ≡ length text) × IsShort octets s
unfolding unquoted
unquoted_short text s rest e =
    let size = word_len text in
    elim (cases_Bool (size == 0)) [
      | inl none ↦ absurd (none-some (s, rest) (rw none at e))
      | inr some ↦
          let found = mapped {B = Scalar × List ℕ} (λ d. (d, drop size text)) (word_value (take size text)) (s, rest) (rw some at e) in
          let is : found.0 ≡ s = ap (λ p. p.0) found.2 in
          let left : length (drop size text) ≡ length rest = ap (λ p. length p.1) found.2 in
          let parts = parts_length size text in
          (length (take size text), omega (arith, left, parts), subst (IsShort (length (take size text))) is (word_short (take size text) found.0 found.1))
    ]
