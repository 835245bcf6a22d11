-- No line that an emission prints begins as the line of an estimate in TRACK does: the lines of inputs are one word,
-- and the third word of each other line begins with a digit, a capital or an `a`.
use Rattle.std.proofs.Common.{◌≡◌, ◌⊎◌, inl, inr, refl, sym, ap, ◌∙◌, subst, append_assoc, ℕ, zero, suc, ◌+◌, ◌/◌, ◌%◌, ◌<◌, ◌≤◌, ◌==◌, nat_lt, Bool, true, false, if◌then◌else◌, List, [], ◌∷◌, ◌++◌, codes, arith}
use Rattle.std.specs.Prelude.{nat_le}
use Rattle.std.specs.Fmt.{decimal, digit_glyph, digits, digits_onto, signed_decimal}
use Rattle.std.specs.List.{AllByRecursion}
use Rattle.std.proofs.lemmas.Bool.{leb-true}
use Rattle.wrp_config.specs.Accepted.{IsSoundDatabase}
use Rattle.wrp_network_text.specs.SameAnswer.{ReadingIsAccepted}
use Rattle.wrp_course.specs.Setting.{Setting}
use Rattle.wrp_records.specs.declared.status.Status.{Status}
use Rattle.wrp_records.specs.declared.status.Status.TheVariants.{Usage, WriteFault}
use Rattle.wrp_records.specs.Lines.{lines_of}
use Rattle.wrp_records.specs.Refusals.{code_name, code_of, field_of, name_of}
use Rattle.wrp_records.specs.Words.{line_of, IsWord}
use Rattle.wrp_network_world.specs.NetworkSetting.{IsSettingOf}
use Rattle.wrp_commands.specs.Request.{CommandLine}
use Rattle.wrp_asked.specs.EmitHeadline.{EmissionsTellNoTrack, HasPlainUsage, InputsOf, LacksNode, TellsNoTrack}
use Rattle.wrp_asked.specs.Headline.{ReachesNone}
use Rattle.wrp_asked.specs.Input.{network_text}
use Rattle.wrp_audit.specs.Broken.{premise_name}
use Rattle.wrp_records.proofs.WordLemmas.{decimal_word, first_word, head_of}
use Rattle.wrp_asked.proofs.InputLines.{pass_events}
use Rattle.wrp_asked.proofs.TakenLines.{HoldsInFront, taken_lines}
use Rattle.wrp_asked.proofs.LastLines.{HasLastLines, last_tells, none_tells, told_as}
use Rattle.wrp_data.specs.Reason.{number_of}
use Rattle.wrp_lines.specs.Words.{reason_word, servo_word}

-- Texts that do not begin as `track` does

abbrev IsLow : List ℕ → Type 0
IsLow text = head_of text ≤ 115

glyph_by : (d : ℕ) (b : Bool) → d < 10 → (if b then 48 + d else (if false then 55 + d else 87 + d)) ≤ 115
glyph_by d true small = omega (arith, small)
glyph_by d false small = omega (arith, small)

glyph_low : (d : ℕ) → d < 10 → digit_glyph false d ≤ 115
glyph_low d small = glyph_by d (nat_lt d 10) small

either_low : (b : Bool) (x y : List ℕ) → IsLow x → IsLow y → IsLow (if b then x else y)
either_low true x y h k = h
either_low false x y h k = k

digits_low : (k n : ℕ) (acc : List ℕ) → IsLow acc → IsLow (digits_onto k 10 false n acc)
digits_low zero n acc h = h
digits_low (suc k) n acc h =
    let small : n % 10 < 10 = omega arith in
    let first : IsLow (digit_glyph false (n % 10) ∷ acc) = glyph_low (n % 10) small in
    either_low (n / 10 == 0) (digit_glyph false (n % 10) ∷ acc) (digits_onto k 10 false (n / 10) (digit_glyph false (n % 10) ∷ acc)) first
    (digits_low k (n / 10) (digit_glyph false (n % 10) ∷ acc) first)

pub decimal_low : (n : ℕ) → IsLow (decimal n)
unfolding digits
decimal_low n = let none : 0 ≤ 115 = omega arith in digits_low 64 n [] none

before_low : (text more : List ℕ) → IsLow text → IsLow more → IsLow (text ++ more)
before_low [] more h k = k
before_low (c ∷ cs) more h k = h

low_by : (text : List ℕ) → nat_le (head_of text) 115 ≡ true → IsLow text
low_by text is = leb-true (head_of text) 115 is

-- Lines of one, two and more words

one_word : (w : List ℕ) → IsWord w → TellsNoTrack (w ++ 10 ∷ [])
one_word w h node tick rest p q e =
    let one = first_word w node 10 32 [] (tick ++ 32 ∷ (codes "track" ++ rest)) h p refl refl e in
    let same : 10 ≡ 32 = one.gap in
    omega (arith, same)

pub two_words : (a b : List ℕ) → IsWord a → IsWord b → TellsNoTrack (a ++ 32 ∷ (b ++ 10 ∷ []))
two_words a b h k node tick rest p q e =
    let one = first_word a node 32 32 (b ++ 10 ∷ []) (tick ++ 32 ∷ (codes "track" ++ rest)) h p refl refl e in
    let two = first_word b tick 10 32 [] (codes "track" ++ rest) k q refl refl one.rest in
    let same : 10 ≡ 32 = two.gap in
    omega (arith, same)

pub third_low : (a b third : List ℕ) → IsWord a → IsWord b → IsLow third → TellsNoTrack (a ++ 32 ∷ (b ++ 32 ∷ third))
third_low a b third h k low node tick rest p q e =
    let one = first_word a node 32 32 (b ++ 32 ∷ third) (tick ++ 32 ∷ (codes "track" ++ rest)) h p refl refl e in
    let two = first_word b tick 32 32 third (codes "track" ++ rest) k q refl refl one.rest in
    let high : 116 ≤ 115 = subst IsLow two.rest low in
    omega (arith, high)

-- a third word, and more words
pub fourth : (a b c d : List ℕ) (more : List (List ℕ)) → IsWord a → IsWord b → IsLow c → TellsNoTrack (line_of (a ∷ b ∷ c ∷ d ∷ more))
fourth a b c d more h k low =
    let space : 32 ≤ 115 = omega arith in
    third_low a b (c ++ 32 ∷ line_of (d ∷ more)) h k (before_low c (32 ∷ line_of (d ∷ more)) low space)

-- Lines that end an output

code_low : (code : ℕ) → IsLow (code_name code)
unfolding code_name
code_low code =
    let none : 0 ≤ 115 = omega arith in
    either_low (code == 1) (codes "Syntax") _ (low_by (codes "Syntax") refl) (either_low (code == 2) (codes "UnknownKey") _ (low_by (codes "UnknownKey") refl)
    (either_low (code == 3) (codes "Missing") _ (low_by (codes "Missing") refl) (either_low (code == 4) (codes "Range") _ (low_by (codes "Range") refl)
    (either_low (code == 5) (codes "Twice") _ (low_by (codes "Twice") refl) (either_low (code == 7) (codes "NotATree") _ (low_by (codes "NotATree") refl)
    (either_low (code == 8) (codes "TwoSlaves") _ (low_by (codes "TwoSlaves") refl) (either_low (code == 9) (codes "TooDeep") _ (low_by (codes "TooDeep") refl)
    (either_low (code == 10) (codes "Clash") [] (low_by (codes "Clash") refl) none))))))))

pub no_track_last : HasLastLines TellsNoTrack
no_track_last = record {
  large = λ n. two_words (codes "too-large") (decimal n) refl (decimal_word n);
  text = two_words (codes "too-large") (codes "0") refl refl;
  trace = λ n fault.
      fourth (codes "bad-trace") (decimal n) (decimal (code_of fault)) (name_of fault) (decimal (field_of fault) ∷ []) refl (decimal_word n)
      (decimal_low (code_of fault));
  broken = λ n breach.
      fourth (codes "broken") (decimal n) (decimal breach.premise) (premise_name breach.premise)
      (signed_decimal breach.shown ∷ signed_decimal breach.bound ∷ []) refl (decimal_word n) (decimal_low breach.premise);
  network = λ code place h. fourth (codes "bad-network") (decimal code) (code_name code) place [] refl (decimal_word code) (code_low code);
  forged = λ count. two_words (codes "forged") (decimal count) refl (decimal_word count);
  count = λ name port reason value h.
      fourth name (codes "count") (decimal port) (reason_word (number_of reason)) (decimal value ∷ []) h refl (decimal_low port);
  sum = λ name ticks tracks worst bound state h.
      fourth name (codes "sum") (decimal ticks) (decimal tracks) (decimal worst ∷ signed_decimal bound ∷ servo_word state ∷ []) h refl (decimal_low ticks);
}

-- What is expected

sound_in : ReadingIsAccepted → (text : List ℕ) (s : Setting) → IsSettingOf text s → IsSoundDatabase s.db
sound_in accepted text s setting = subst (λ (t : Setting). IsSoundDatabase t.db) (sym setting.is) (accepted text setting.net setting.reads).database

inputs_tell : ReadingIsAccepted → (asked : CommandLine) (input : List ℕ) (status : Status) (octets : List ℕ) → InputsOf asked input status octets
    → AllByRecursion TellsNoTrack (lines_of octets)
inputs_tell accepted asked input status octets inputs =
    let sound = sound_in accepted (network_text input) inputs.setting inputs.asks.2.0 in
    let last = last_tells TellsNoTrack no_track_last status inputs.setting inputs.came.front inputs.came.behind [] inputs.last tt inputs.ends in
    told_as TellsNoTrack octets _ inputs.is (pass_events TellsNoTrack one_word inputs.setting inputs.node inputs.events sound inputs.last last)

lacks_tells : (asked : CommandLine) (input : List ℕ) (status : Status) (octets : List ℕ) → HasPlainUsage asked → LacksNode asked input status octets
    → AllByRecursion TellsNoTrack (lines_of octets)
lacks_tells asked input Usage octets plain lacks = told_as TellsNoTrack octets asked.usage lacks.1 plain
lacks_tells asked input status octets plain lacks = absurd lacks

abbrev IsInputDue : CommandLine → List ℕ → Status → List ℕ → Type 0
IsInputDue asked input status due = LacksNode asked input status due ⊎ (ReachesNone input status due ⊎ InputsOf asked input status due)

due_tells : ReadingIsAccepted → (asked : CommandLine) (input : List ℕ) (status : Status) (octets : List ℕ) → HasPlainUsage asked
    → IsInputDue asked input status octets → AllByRecursion TellsNoTrack (lines_of octets)
due_tells accepted asked input status octets plain (inl lacks) = lacks_tells asked input status octets plain lacks
due_tells accepted asked input status octets plain (inr (inl none)) = none_tells TellsNoTrack no_track_last input status octets none
due_tells accepted asked input status octets plain (inr (inr inputs)) = inputs_tell accepted asked input status octets inputs

-- a line that is cut begins as the whole one
pub longer : (node tick rest more : List ℕ)
    → (node ++ 32 ∷ (tick ++ 32 ∷ (codes "track" ++ rest))) ++ more ≡ node ++ 32 ∷ (tick ++ 32 ∷ (codes "track" ++ (rest ++ more)))
longer node tick rest more =
    append_assoc node (32 ∷ (tick ++ 32 ∷ (codes "track" ++ rest))) more
    ∙ ap (λ (l : List ℕ). node ++ 32 ∷ l) (append_assoc tick (32 ∷ (codes "track" ++ rest)) more)

pub in_front : HoldsInFront TellsNoTrack
in_front line more told node tick rest p q e =
    told node tick (rest ++ more) p q (ap (λ (l : List ℕ). l ++ more) e ∙ longer node tick rest more)

pub emissions_tell_no_track : ReadingIsAccepted → EmissionsTellNoTrack
emissions_tell_no_track accepted asked input WriteFault octets plain (status, due, count, is, so) =
    told_as TellsNoTrack octets _ is (taken_lines TellsNoTrack in_front due count (due_tells accepted asked input status due plain so))
emissions_tell_no_track accepted asked input status octets plain prints = due_tells accepted asked input status octets plain prints
