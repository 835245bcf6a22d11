-- Lists of TLVs that fill octets: the octets determine them, one TLV after another.
use Rattle.std.proofs.Common.{◌≡◌, ◌≤◌, ◌+◌, ℕ, List, [], ◌∷◌, ◌++◌, length, take, drop, refl, sym, ap, ◌∙◌, subst, arith, length-append, length-drop}
use Rattle.std.proofs.Math.Seq.{take-append_seam, drop-append_seam, drop-append-add}
use Rattle.std.proofs.lemmas.List.{take-append-drop, drop-append-le, drop-drop, drop-take, length-take-le}
use Rattle.byteorder.specs.Endian.{big_number}
use Rattle.byteorder.specs.Numbers.{big_from-append, big_from-take}
use Rattle.wrp_tlv.specs.Octets.{number_at}
use Rattle.wrp_tlv.specs.TlvList.{TypedValue, IsTlvHeader, Fills}

-- the first TLV of the octets, and where it ends
abbrev pub first_tlv : List ℕ → TypedValue
first_tlv octets = record { kind = number_at 0 2 octets; value = take (number_at 2 2 octets) (drop 4 octets) }

abbrev pub first_end : List ℕ → ℕ
first_end octets = 4 + number_at 2 2 octets

-- lengthField reads the same in the header alone
length_in_header : (octets : List ℕ) → number_at 2 2 (take 4 octets) ≡ number_at 2 2 octets
length_in_header octets = ap (big_number 2) (drop-take 2 2 octets) ∙ big_from-take 0 2 2 (drop 2 octets) (omega arith)

-- if a whole TLV is there and a list fills the rest, that TLV and the list fill the octets
pub fills_on : (octets : List ℕ) (tlvs : List TypedValue) → 4 ≤ length octets → first_end octets ≤ length octets
    → Fills tlvs (drop (first_end octets) octets) → Fills (first_tlv octets ∷ tlvs) octets
fills_on octets tlvs whole within filled =
    let k = number_at 2 2 octets in
    let enough : k ≤ length (drop 4 octets) = omega (arith, length-drop 4 octets) in
    let value : drop 4 octets ≡ take k (drop 4 octets) ++ drop (4 + k) octets =
    sym (take-append-drop k (drop 4 octets)) ∙ ap (λ r. take k (drop 4 octets) ++ r) (drop-drop k 4 octets) in
    let split : octets ≡ take 4 octets ++ (take k (drop 4 octets) ++ drop (4 + k) octets) =
    sym (take-append-drop 4 octets) ∙ ap (λ r. take 4 octets ++ r) value in (
      take 4 octets,
      drop (4 + k) octets,
      split,
      record {
        whole = length-take-le 4 octets whole;
        kind = sym (big_from-take 0 2 4 octets (omega arith));
        long = length-take-le k (drop 4 octets) enough ∙ sym (length_in_header octets);
      },
      filled,
    )

-- what a list that fills the octets says of its first TLV
pub record BeginsWith (octets : List ℕ) (tlv : TypedValue) (tlvs : List TypedValue) : Type 0 where
  pub whole : 4 ≤ length octets
  pub within : first_end octets ≤ length octets
  pub first : tlv ≡ first_tlv octets
  pub rest : Fills tlvs (drop (first_end octets) octets)

begins_with : (head : List ℕ) (rest : List ℕ) (tlv : TypedValue) (tlvs : List TypedValue) → IsTlvHeader head tlv → Fills tlvs rest
    → BeginsWith (head ++ (tlv.value ++ rest)) tlv tlvs
begins_with head rest tlv tlvs header filled =
    let after = tlv.value ++ rest in
    let four = header.whole in
    let kind_is : number_at 0 2 (head ++ after) ≡ tlv.kind = big_from-append 2 head after (omega arith) ∙ sym header.kind in
    let long_is : number_at 2 2 (head ++ after) ≡ length tlv.value =
    ap (big_number 2) (drop-append-le 2 head after (omega arith))
    ∙ big_from-append 2 (drop 2 head) after (omega (arith, length-drop 2 head)) ∙ sym header.long in
    let behind : drop 4 (head ++ after) ≡ after = ap (λ n. drop n (head ++ after)) (sym four) ∙ drop-append_seam head after in
    let value_is : take (number_at 2 2 (head ++ after)) (drop 4 (head ++ after)) ≡ tlv.value =
    ap (λ n. take n (drop 4 (head ++ after))) long_is ∙ ap (take (length tlv.value)) behind ∙ take-append_seam tlv.value rest in
    let end_is : first_end (head ++ after) ≡ length head + length tlv.value = omega arith in
    let rest_is : drop (first_end (head ++ after)) (head ++ after) ≡ rest =
    ap (λ n. drop n (head ++ after)) end_is ∙ drop-append-add head after (length tlv.value) ∙ drop-append_seam tlv.value rest in
    record {
      whole = omega (arith, length-append head after);
      within = omega (arith, length-append head after, length-append tlv.value rest);
      first = ap (λ n. record { kind = n; value = tlv.value }) (sym kind_is) ∙ ap (λ v. record { kind = number_at 0 2 (head ++ after); value = v }) (sym value_is);
      rest = subst (Fills tlvs) (sym rest_is) filled;
    }

pub fills_begin : (octets : List ℕ) (tlv : TypedValue) (tlvs : List TypedValue) → Fills (tlv ∷ tlvs) octets → BeginsWith octets tlv tlvs
fills_begin octets tlv tlvs (head, rest, split, header, filled) =
    subst (λ o. BeginsWith o tlv tlvs) (sym split) (begins_with head rest tlv tlvs header filled)

-- no two lists fill the same octets
pub fills_one : (octets : List ℕ) (tlvs others : List TypedValue) → Fills tlvs octets → Fills others octets → tlvs ≡ others
fills_one octets [] [] a b = refl
fills_one octets [] (other ∷ others) a b =
    let begin = fills_begin octets other others b in
    let whole = begin.whole in absurd (omega (arith, ap length a))
fills_one octets (tlv ∷ tlvs) [] a b =
    let begin = fills_begin octets tlv tlvs a in
    let whole = begin.whole in absurd (omega (arith, ap length b))
fills_one octets (tlv ∷ tlvs) (other ∷ others) a b =
    let x = fills_begin octets tlv tlvs a in
    let y = fills_begin octets other others b in
    let rest = fills_one (drop (first_end octets) octets) tlvs others x.rest y.rest in
    ap (λ t. t ∷ tlvs) (x.first ∙ sym y.first) ∙ ap (λ ts. other ∷ ts) rest
