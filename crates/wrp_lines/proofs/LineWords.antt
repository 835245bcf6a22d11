-- The words of a line that is written for an output: each is a word, so the line can be split at its
-- spaces.
use Rattle.std.proofs.Common.{◌≡◌, ◌⊎◌, inl, inr, refl, ℕ, zero, suc, ℤ, pos, ◌+◌, ◌≤◌, ◌/◌, ◌%◌, ◌==◌, ◌&&◌, ◌||◌, Bool, true, false, List, [], ◌∷◌, ◌++◌, get_or, length, Option, None, Some, arith}
use Rattle.std.specs.Prelude.{nat_le, slice_get}
use Rattle.std.specs.List.{list_all}
use Rattle.std.specs.Option.{option_map_or}
use Rattle.std.specs.Fmt.{decimal}
use Rattle.std.proofs.lemmas.Bool.{and_parts, eqb-true, leb-true, or_cases}
use Rattle.hex.specs.Hex.{encode_lower, encode_with, lower_digits}
use Rattle.wrp_network.specs.declared.configuration.NetCfg.{NetCfg}
use Rattle.wrp_base.specs.declared.link.LinkState.TheVariants.{Idle, Present, SLock, MLock, Locked, Calibration, Calibrated, RespCalib, LinkOn}
use Rattle.wrp_base.specs.declared.link.LinkWord.{LinkWord}
use Rattle.wrp_base.specs.declared.link.LinkWord.TheVariants.{Down, Quiet, Ptp, In}
use Rattle.wrp_base.specs.declared.link.ServoState.{ServoState}
use Rattle.wrp_base.specs.declared.link.ServoState.TheVariants.{Uninit, SyncTai, SyncNsec, SyncPhase, WaitStable, Track as Tracking, Holdover}
use Rattle.wrp_network.specs.declared.network.NodeCfg.{NodeCfg}
use Rattle.wrp_network.specs.Network.{name_at}
use Rattle.wrp_caldb.specs.Name.{is_letter, is_name, is_name_octet}
use Rattle.wrp_config.specs.Accepted.{HasNames}
use Rattle.wrp_node.specs.declared.interface.Output.{Output}
use Rattle.wrp_node.specs.declared.interface.Output.TheVariants.{Send, Step, Dac, Report}
use Rattle.wrp_node.specs.declared.interface.Report.TheVariants.{Link, Servo, Track}
use Rattle.wrp_records.specs.Words.{IsWord, is_word_octet, line_of}
use Rattle.wrp_records.proofs.WordLemmas.{AreWords, decimal_word, onto_word, signed_word, word_octet}
use Rattle.wrp_lines.specs.Lines.{output_words, truth_words}
use Rattle.wrp_lines.specs.Words.{link_word, servo_word}

-- Octets in hexadecimal digits

got_word : (octets : List ℕ) (k : ℕ) → IsWord octets → is_word_octet (get_or octets k 0) ≡ true
got_word [] k h = refl
got_word (c ∷ cs) zero h = (and_parts (is_word_octet c) (list_all is_word_octet cs) h).0
got_word (c ∷ cs) (suc k) h = got_word cs k (and_parts (is_word_octet c) (list_all is_word_octet cs) h).1

pub hex_word : (octets : List ℕ) → IsWord (encode_lower octets)
unfolding encode_with
hex_word [] = refl
hex_word (c ∷ cs) =
    onto_word (get_or lower_digits (c / 16) 0) (get_or lower_digits (c % 16) 0 ∷ encode_lower cs) (got_word lower_digits (c / 16) refl)
    (onto_word (get_or lower_digits (c % 16) 0) (encode_lower cs) (got_word lower_digits (c % 16) refl) (hex_word cs))

-- Names

letter_least : (c : ℕ) → is_letter c ≡ true → 33 ≤ c
letter_least c is =
    let low : 97 ≤ c = leb-true 97 c (and_parts (nat_le 97 c) (nat_le c 122) is).0 in
    omega arith

other_least : (c : ℕ) → ((nat_le 48 c && nat_le c 57) ≡ true) ⊎ ((c == 95) ≡ true) → 33 ≤ c
other_least c (inl is) = let low : 48 ≤ c = leb-true 48 c (and_parts (nat_le 48 c) (nat_le c 57) is).0 in omega arith
other_least c (inr is) = let same : c ≡ 95 = eqb-true c 95 is in omega arith

name_least : (c : ℕ) → (is_letter c ≡ true) ⊎ (((nat_le 48 c && nat_le c 57) || (c == 95)) ≡ true) → 33 ≤ c
name_least c (inl is) = letter_least c is
name_least c (inr is) = other_least c (or_cases (nat_le 48 c && nat_le c 57) (c == 95) is)

names_word : (cs : List ℕ) → list_all is_name_octet cs ≡ true → IsWord cs
names_word [] are = refl
names_word (c ∷ cs) are =
    let both = and_parts (is_name_octet c) (list_all is_name_octet cs) are in
    onto_word c cs (word_octet c (name_least c (or_cases (is_letter c) ((nat_le 48 c && nat_le c 57) || (c == 95)) both.0))) (names_word cs both.1)

pub name_word : (name : List ℕ) → is_name name ≡ true → IsWord name
name_word [] is = refl
name_word (c ∷ cs) is =
    let both = and_parts (is_letter c) (list_all is_name_octet cs && nat_le (length cs) 15) is in
    onto_word c cs (word_octet c (letter_least c both.0)) (names_word cs (and_parts (list_all is_name_octet cs) (nat_le (length cs) 15) both.1).0)

node_word : (o : Option NodeCfg) → ((node : NodeCfg) → o ≡ Some node → is_name node.name.bytes ≡ true) → IsWord (option_map_or (λ (node : NodeCfg). node.name.bytes) o [])
node_word None h = refl
node_word (Some node) h = name_word node.name.bytes (h node refl)

pub at_word : (cfg : NetCfg) → HasNames cfg → (n : ℕ) → IsWord (name_at cfg n)
at_word cfg names n = node_word (slice_get cfg.nodes.items n) (λ node e. names.node n node e)

-- What is written for an output

pub truth_are : (truth : Option ℤ) → AreWords (truth_words truth)
truth_are None = tt
truth_are (Some off) = (refl, (signed_word off, tt))

pub link_are : (word : LinkWord) → IsWord (link_word word)
link_are Down = refl
link_are Quiet = refl
link_are Ptp = refl
link_are (In Idle) = refl
link_are (In Present) = refl
link_are (In SLock) = refl
link_are (In MLock) = refl
link_are (In Locked) = refl
link_are (In Calibration) = refl
link_are (In Calibrated) = refl
link_are (In RespCalib) = refl
link_are (In LinkOn) = refl

pub servo_are : (state : ServoState) → IsWord (servo_word state)
servo_are Uninit = refl
servo_are SyncTai = refl
servo_are SyncNsec = refl
servo_are SyncPhase = refl
servo_are WaitStable = refl
servo_are Tracking = refl
servo_are Holdover = refl

pub output_are : (o : Output) (bound : ℤ) (truth : Option ℤ) → AreWords (output_words o bound truth)
output_are (Send port frame) bound truth = (refl, (decimal_word port, (hex_word frame.items, tt)))
output_are (Step cycles) bound truth = (refl, (signed_word cycles, tt))
output_are (Dac value) bound truth = (refl, (decimal_word value, tt))
output_are (Report (Link port word)) bound truth = (refl, (decimal_word port, (link_are word, tt)))
output_are (Report (Servo state)) bound truth = (refl, (servo_are state, tt))
output_are (Report (Track est)) bound truth = (refl, (signed_word est, (signed_word bound, truth_are truth)))

pub behind_two : (name tick : List ℕ) (o : Output) (bound : ℤ) (truth : Option ℤ) → line_of (name ∷ tick ∷ output_words o bound truth) ≡ name ++ 32 ∷ (tick ++ 32 ∷ line_of (output_words o bound truth))
behind_two name tick (Send p frame) bound truth = refl
behind_two name tick (Step cycles) bound truth = refl
behind_two name tick (Dac value) bound truth = refl
behind_two name tick (Report (Link p word)) bound truth = refl
behind_two name tick (Report (Servo state)) bound truth = refl
behind_two name tick (Report (Track est)) bound truth = refl
