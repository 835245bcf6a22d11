-- Only the value of a message is read as that message, and only the value of a suffix as that suffix.
use Rattle.std.proofs.Common.{◌≡◌, ◌+◌, ℕ, Bool, true, false, List, [], ◌∷◌, ◌++◌, length, drop, refl, ap, ap₂, ◌∙◌, subst, arith, nat_le, nat_lt}
use Rattle.std.specs.Prelude.{slice_index, ◌==◌, if◌then◌else◌}
use Rattle.std.proofs.lemmas.Bool.{eqb-true}
use Rattle.std.proofs.lemmas.List.{get_or-drop}
use Rattle.byteorder.specs.Endian.{big_bytes}
use Rattle.wrp_base.specs.declared.message.WrMsg.TheVariants.{Present, Lock, Locked, Calibrate, ModeOn}
use Rattle.wrp_tlv.specs.declared.white_rabbit.WrRead.{WrRead}
use Rattle.wrp_tlv.specs.declared.white_rabbit.WrRead.TheVariants.{Wr, Suffix, Other, BadWr}
use Rattle.wrp_base.specs.Octets.{AreOctets}
use Rattle.wrp_base.proofs.Booleans.{and_second}
use Rattle.wrp_tlv.specs.Octets.{number_at}
use Rattle.wrp_tlv.specs.WhiteRabbit.{wr_read, read_by_id, sized, is_white_rabbit, calibrate_at, calibrated_at, wr_value, suffix_value, value_start, HaveOneValue}
use Rattle.wrp_tlv.proofs.Written.{width_of, sent_from, all_sent}

-- the value is the one as which this is sent
abbrev pub IsSentAs : List ℕ → WrRead → Type 0
IsSentAs value (Wr message) = value ≡ wr_value message
IsSentAs value (Suffix flags) = value ≡ suffix_value flags
IsSentAs value Other = Unit {0}
IsSentAs value BadWr = Unit {0}

-- what holds in both cases holds of an if
either : (value : List ℕ) (b : Bool) (one two : WrRead) → (b ≡ true → IsSentAs value one) → IsSentAs value two → IsSentAs value (if b then one else two)
either value true one two is rest = is refl
either value false one two is rest = rest

-- this row of the table, or the rest
row : (value : List ℕ) (id own long : ℕ) (read rest : WrRead) → (id ≡ own → length value ≡ long → IsSentAs value read) → IsSentAs value rest
    → IsSentAs value (if id == own then sized long value read else rest)
row value id own long read rest is others =
    either value (id == own) (sized long value read) rest
    (λ same. either value (length value == long) read BadWr (λ whole. is (eqb-true id own same) (eqb-true (length value) long whole)) tt)
    others

-- a White Rabbit value of this id, with numbers of these widths after it
value_is : (value : List ℕ) (id : ℕ) (widths : List ℕ) → AreOctets value → number_at 0 6 value ≡ 0x0800_30DE_AD01 → number_at 6 2 value ≡ id
    → length value ≡ 8 + width_of widths → value ≡ value_start id ++ sent_from 8 widths value
value_is value id widths octets white is long =
    all_sent 0 (6 ∷ 2 ∷ widths) value octets (omega arith)
    ∙ ap (λ n. big_bytes 6 n ++ (big_bytes 2 (number_at 6 2 value) ++ sent_from 8 widths value)) white
    ∙ ap (λ n. value_start n ++ sent_from 8 widths value) is

octet_read : (at : ℕ) (value : List ℕ) → number_at at 1 value ≡ slice_index value at
octet_read at value =
    let none_more : at + 0 ≡ at = omega arith in
    let octet : slice_index (drop at value) 0 ≡ slice_index value at = get_or-drop at value 0 0 ∙ ap (λ n. slice_index value n) none_more in
    omega (arith, octet)

octets_read : (value : List ℕ) → value_start 0x1003 ++ sent_from 8 (1 ∷ 1 ∷ 4 ∷ []) value ≡ wr_value (calibrate_at value)
octets_read value = ap₂ (λ pattern retry. wr_value (Calibrate pattern retry (number_at 10 4 value))) (octet_read 8 value) (octet_read 9 value)

-- the table's rows in turn
by_id : (value : List ℕ) → AreOctets value → number_at 0 6 value ≡ 0x0800_30DE_AD01 → (id : ℕ) → number_at 6 2 value ≡ id → IsSentAs value (read_by_id id value)
unfolding read_by_id
by_id value octets white id at_6 =
    let is = λ (own : ℕ) (widths : List ℕ) (same : id ≡ own) (long : length value ≡ 8 + width_of widths). value_is value own widths octets white (at_6 ∙ same) long in
    row value id 0x1000 8 (Wr Present) _ (is 0x1000 [])
    (row value id 0x1001 8 (Wr Lock) _ (is 0x1001 [])
    (row value id 0x1002 8 (Wr Locked) _ (is 0x1002 [])
    (row value id 0x1003 14 (Wr (calibrate_at value)) _ (λ same long. is 0x1003 (1 ∷ 1 ∷ 4 ∷ []) same long ∙ octets_read value)
    (row value id 0x1004 24 (Wr (calibrated_at value)) _ (is 0x1004 (8 ∷ 8 ∷ []))
    (row value id 0x1005 8 (Wr ModeOn) _ (is 0x1005 [])
    (row value id 0x2000 10 (Suffix (number_at 8 2 value)) Other (is 0x2000 (2 ∷ [])) tt))))))

-- a value is the one as which what it says is sent
sent_as : (value : List ℕ) → AreOctets value → IsSentAs value (wr_read value)
unfolding wr_read
sent_as value octets =
    either value (is_white_rabbit value) _ Other
    (λ white. either value (nat_lt (length value) 8) BadWr _ (λ short. tt)
    (by_id value octets (eqb-true _ _ (and_second (nat_le 6 (length value)) (number_at 0 6 value == 0x0800_30DE_AD01) white)) (number_at 6 2 value) refl))
    tt

pub have_one_value : HaveOneValue
have_one_value = record {
  message = λ value message octets is. subst (IsSentAs value) is (sent_as value octets);
  suffix = λ value flags octets is. subst (IsSentAs value) is (sent_as value octets);
}
