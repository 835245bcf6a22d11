-- The walk over the TLVs of a part: what is known at a place that it has reached.
use Rattle.std.proofs.Common.{◌≡◌, ◌<◌, ◌≤◌, ◌+◌, ◌-◌, ◌||◌, ℕ, List, [], ◌∷◌, length, take, drop, slice_range, false, Option, Some, None, refl, sym, ap, ◌∙◌, subst, arith, length-drop}
use Rattle.std.specs.Option.{option_or}
use Rattle.std.proofs.lemmas.List.{drop-drop, drop_all}
use Rattle.std.proofs.Math.Bool.{or-false}
use Rattle.byteorder.specs.Endian.{big_number}
use Rattle.wrp_frame.specs.declared.found.Found.{Found}
use Rattle.wrp_tlv.specs.declared.tlv.Tlv.{Tlv}
use Rattle.wrp_tlv.specs.Octets.{number_at}
use Rattle.wrp_tlv.specs.TlvAt.{StandsAt}
use Rattle.wrp_tlv.specs.TlvList.{TypedValue, Fills, IsFilledByNone}
use Rattle.wrp_tlv.specs.WhiteRabbitList.{read_of}
use Rattle.wrp_frame.specs.Found.{found_in, joined, with_first, IsFoundAmong}
use Rattle.wrp_frame.proofs.Filling.{first_tlv, first_end, fills_on, fills_begin}

-- The walk has reached this place and has found this: each list that fills the rest belongs to one that fills the part
-- and says both, and each list that fills the part leaves one for the rest.
pub record Walked (part : List ℕ) (at : ℕ) (found : Found) : Type 0 where
  pub within : at ≤ length part
  pub whole : (rest : List TypedValue) → Fills rest (drop at part)
      → (tlvs : List TypedValue) × Fills tlvs part × (found_in tlvs ≡ joined found (found_in rest))
  pub only : (tlvs : List TypedValue) → Fills tlvs part → (rest : List TypedValue) × Fills rest (drop at part)

abbrev pub nothing_found : Found
nothing_found = record { message = None; suffix = None; bad = false }

pub walk_starts : (part : List ℕ) → Walked part 0 nothing_found
walk_starts part = record {
  within = omega arith;
  whole = λ rest filled. (rest, filled, refl);
  only = λ tlvs filled. (tlvs, filled);
}

-- the TLV at a place, with its value
abbrev pub typed : List ℕ → Tlv → TypedValue
typed part tlv = record { kind = tlv.kind; value = slice_range part tlv.from tlv.to }

-- lengthField, read from the place or from the part's beginning
length_at : (part : List ℕ) (at : ℕ) → number_at 2 2 (drop at part) ≡ number_at (at + 2) 2 part
length_at part at = ap (big_number 2) (drop-drop 2 at part)

end_at : (part : List ℕ) (at : ℕ) (tlv : Tlv) → StandsAt part at tlv → tlv.to ≡ at + first_end (drop at part)
end_at part at tlv stands = let long = length_at part at in let to = stands.to in omega arith

rest_at : (part : List ℕ) (at : ℕ) (tlv : Tlv) → StandsAt part at tlv → drop (first_end (drop at part)) (drop at part) ≡ drop tlv.to part
rest_at part at tlv stands = drop-drop (first_end (drop at part)) at part ∙ ap (λ n. drop n part) (sym (end_at part at tlv stands))

typed_is_first : (part : List ℕ) (at : ℕ) (tlv : Tlv) → StandsAt part at tlv → typed part tlv ≡ first_tlv (drop at part)
typed_is_first part at tlv stands =
    let from = stands.from in
    let end = end_at part at tlv stands in
    let long : tlv.to - tlv.from ≡ number_at 2 2 (drop at part) = omega arith in
    let behind : drop tlv.from part ≡ drop 4 (drop at part) = ap (λ n. drop n part) from ∙ sym (drop-drop 4 at part) in
    let value : slice_range part tlv.from tlv.to ≡ take (number_at 2 2 (drop at part)) (drop 4 (drop at part)) =
    ap (λ n. take n (drop tlv.from part)) long ∙ ap (take (number_at 2 2 (drop at part))) behind in
    ap (λ n. record { kind = n; value = slice_range part tlv.from tlv.to }) stands.kind ∙ ap (λ v. record { kind = number_at at 2 part; value = v }) value

-- a list that fills what is left at a place goes on after the TLV that is there
walk_only : (part : List ℕ) (at : ℕ) (tlv : Tlv) → StandsAt part at tlv → at < length part
    → (rest : List TypedValue) → Fills rest (drop at part) → (rest : List TypedValue) × Fills rest (drop tlv.to part)
walk_only part at tlv stands left [] filled = absurd (omega (arith, length-drop at part, ap length filled))
walk_only part at tlv stands left (first ∷ rest) filled =
    let begin = fills_begin (drop at part) first rest filled in
    (rest, subst (Fills rest) (rest_at part at tlv stands) begin.rest)

pub or_none : {A : Type 0} (o : Option A) → option_or o None ≡ o
or_none None = refl
or_none (Some value) = refl

-- nothing more is said by no more TLVs
joined_nothing : (found : Found) → joined found nothing_found ≡ found
joined_nothing found =
    ap (λ m. record { message = m; suffix = option_or found.suffix None; bad = found.bad || false }) (or_none found.message)
    ∙ ap (λ s. record { message = found.message; suffix = s; bad = found.bad || false }) (or_none found.suffix)
    ∙ ap (λ b. record { message = found.message; suffix = found.suffix; bad = b }) (or-false found.bad)

pub walk_on : (part : List ℕ) (at : ℕ) (tlv : Tlv) (found next : Found) → Walked part at found → at < length part → StandsAt part at tlv
    → ((later : Found) → joined next later ≡ joined found (with_first (read_of (typed part tlv)) later)) → Walked part tlv.to next
walk_on part at tlv found next walked left stands follows =
    let octets = drop at part in
    let end = end_at part at tlv stands in
    let bound = stands.within in
    let four = stands.whole in
    let whole : 4 ≤ length octets = omega (arith, length-drop at part) in
    let within : first_end octets ≤ length octets = omega (arith, length-drop at part) in
    let first = typed_is_first part at tlv stands in
    record {
      within = bound;
      whole = λ rest filled.
          let on = fills_on octets rest whole within (subst (Fills rest) (sym (rest_at part at tlv stands)) filled) in
          let (tlvs, all, says) = walked.whole (first_tlv octets ∷ rest) on in
          (tlvs, all, says ∙ sym (follows (found_in rest) ∙ ap (λ t. joined found (with_first (read_of t) (found_in rest))) first));
      only = λ tlvs filled. let (rest, after) = walked.only tlvs filled in walk_only part at tlv stands left rest after;
    }

nothing_stands : (part : List ℕ) (at : ℕ) → at < length part → ((tlv : Tlv) → StandsAt part at tlv → ⊥)
    → (rest : List TypedValue) → Fills rest (drop at part) → ⊥
nothing_stands part at left none [] filled = absurd (omega (arith, length-drop at part, ap length filled))
nothing_stands part at left none (first ∷ rest) filled =
    let begin = fills_begin (drop at part) first rest filled in
    let whole = begin.whole in
    let within = begin.within in
    let long = length_at part at in
    none (record { kind = number_at at 2 part; from = at + 4; to = at + 4 + number_at (at + 2) 2 part }) (record {
      kind = refl;
      from = refl;
      to = refl;
      whole = omega (arith, length-drop at part);
      within = omega (arith, length-drop at part);
    })

-- the walk's end: all of the part is read
pub walk_ends : (part : List ℕ) (at : ℕ) (found : Found) → Walked part at found → length part ≤ at → IsFoundAmong part found
walk_ends part at found walked done =
    let nothing_left : drop at part ≡ [] = drop_all at part done in
    let (tlvs, all, says) = walked.whole [] nothing_left in
    record { tlvs = tlvs; filled = all; is = sym (says ∙ joined_nothing found) }

-- if no whole TLV is at a place before the end, no list fills the part
pub walk_fails : (part : List ℕ) (at : ℕ) (found : Found) → Walked part at found → at < length part
    → ((tlv : Tlv) → StandsAt part at tlv → ⊥) → IsFilledByNone part
walk_fails part at found walked left none tlvs filled =
    let (rest, after) = walked.only tlvs filled in nothing_stands part at left none rest after

pub ruleset walks = (walk_starts, walk_on, walk_ends, walk_fails)
