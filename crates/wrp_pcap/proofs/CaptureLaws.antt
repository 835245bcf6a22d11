-- The laws of captures: what a file's octets hold as functions of them, and what stays.
use Rattle.std.proofs.Common.{◌≡◌, ◌<◌, ◌≤◌, ◌+◌, ◌-◌, ◌&&◌, ◌==◌, ℕ, zero, suc, Bool, true, false, if◌then◌else◌, nat_lt, nat_le, List, [], ◌∷◌, ◌++◌, length, take, drop, Option, Some, None, Result, Ok, Err, inl, inr, refl, sym, ap, ◌∙◌, subst, arith, length-append, length-drop}
use Rattle.std.specs.Prelude.{slice_range}
use Rattle.std.proofs.lemmas.Bool.{ltb-true, ltb-false, leb-true, le-leb, eqb-true, eqb-false, and_parts, and_from, cases_lt, both_ways}
use Rattle.std.proofs.lemmas.List.{take-append-drop, drop-append-le, take-append-le, drop-drop, append_assoc, append-nil}
use Rattle.byteorder.specs.Endian.{big_number, little_number}
use Rattle.byteorder.specs.Numbers.{big_from-append, little_from-append}
use Rattle.wrp_pcap.specs.declared.capture.CaptureFault.{CaptureFault}
use Rattle.wrp_pcap.specs.declared.capture.CaptureFault.TheVariants.{Magic, LinkType, Header, Packet, Long}
use Rattle.wrp_pcap.specs.declared.capture.Order.{Order}
use Rattle.wrp_pcap.specs.declared.capture.Order.TheVariants.{Big, Little}
use Rattle.wrp_pcap.specs.Capture.{order_by, order_of, number_at, captured, StoredPacket, HasHeader, HasHeaderFault, IsWhole, first_packet, behind_first, Begins, HasPacketFault, IsEnd, IsFile, IsReadAs}
use Rattle.wrp_pcap.specs.CaptureReading.{header_by, header_of, is_whole, first_packets, left_behind, fault_left, packets_behind, packets_of, refusal_at, refusal_behind, refusal_of, FilesHaveOneReading, stored, CapturesAreTheirPackets, StayWhateverComes, ReadingsGoOn}
use Rattle.wrp_pcap.proofs.CaptureExact.{read_once}

-- what holds of both branches of an if holds of the if
either : {A : Type 0} → (P : A → Type 0) (b : Bool) (x y : A) → (b ≡ true → P x) → (b ≡ false → P y) → P (if b then x else y)
either P true x y one other = one refl
either P false x y one other = other refl

-- the test of a whole packet is exact
whole_if : (order : Order) (octets : List ℕ) → is_whole order octets ≡ true → IsWhole order octets
whole_if order octets is =
    let numbers = nat_le 16 (length octets) in
    let short = nat_le (captured order octets) 262_144 in
    let own = nat_le (16 + captured order octets) (length octets) in
    let (first, others) = and_parts numbers (short && own) is in
    let (second, third) = and_parts short own others in
    record {
      numbers = leb-true 16 (length octets) first;
      short = leb-true (captured order octets) 262_144 second;
      own = leb-true (16 + captured order octets) (length octets) third;
    }

whole_only : (order : Order) (octets : List ℕ) → IsWhole order octets → is_whole order octets ≡ true
whole_only order octets whole =
    and_from (nat_le 16 (length octets)) _ (le-leb 16 (length octets) whole.numbers)
    (and_from (nat_le (captured order octets) 262_144) _ (le-leb (captured order octets) 262_144 whole.short)
    (le-leb (16 + captured order octets) (length octets) whole.own))

not_whole : (order : Order) (octets : List ℕ) → is_whole order octets ≡ false → IsWhole order octets → ⊥
not_whole order octets is whole = both_ways (is_whole order octets) is (whole_only order octets whole)

some_or_none : (n : ℕ) → (n ≡ 0 → ⊥) → 1 ≤ n
some_or_none zero not = absurd (not refl)
some_or_none (suc n) not = omega arith

none_left : (octets : List ℕ) → length octets ≡ 0 → octets ≡ []
none_left [] is = refl
none_left (octet ∷ octets) is = absurd (omega (arith, is))

-- if the rest does not begin with a whole packet, the end is the one that is reported
end_is : (order : Order) (rest : List ℕ) → (IsWhole order rest → ⊥) → IsEnd order (fault_left order rest) rest
end_is order rest none =
    let long = nat_lt 262_144 (captured order rest) in
    let cut : 16 ≤ length rest → captured order rest ≤ 262_144 → length rest < 16 + captured order rest = λ enough short.
    elim (cases_lt (length rest) (16 + captured order rest)) [
      | inl less ↦ less
      | inr own ↦ absurd (none (record { numbers = enough; short = short; own = own }))
    ] in
    either (λ f. IsEnd order f rest) (length rest == 0) None _
    (λ nothing. none_left rest (eqb-true (length rest) 0 nothing))
    (λ some. either (λ f. IsEnd order f rest) (nat_lt (length rest) 16) (Some Header) _
    (λ few. (some_or_none (length rest) (eqb-false (length rest) 0 some), ltb-true (length rest) 16 few))
    (λ enough. let numbers = ltb-false (length rest) 16 enough in
    either (λ f. IsEnd order f rest) long (Some Long) (Some Packet)
    (λ is. (numbers, ltb-true 262_144 (captured order rest) is))
    (λ is. let short = ltb-false 262_144 (captured order rest) is in (numbers, short, cut numbers short))))

-- the octets begin with the first packets
begin_by : (n : ℕ) (order : Order) (octets : List ℕ) (b : Bool) → is_whole order octets ≡ b
    → Begins order (first_packets n order (behind_first order octets)) (left_behind n order (behind_first order octets)) (behind_first order octets)
    → Begins order (if b then first_packet order octets ∷ first_packets n order (behind_first order octets) else [])
    (if b then left_behind n order (behind_first order octets) else octets) octets
begin_by n order octets true is behind = (whole_if order octets is, refl, behind)
begin_by n order octets false is behind = refl

first_begin : (n : ℕ) (order : Order) (octets : List ℕ) → Begins order (first_packets n order octets) (left_behind n order octets) octets
first_begin zero order octets = refl
first_begin (suc n) order octets =
    begin_by n order octets (is_whole order octets) refl (first_begin n order (behind_first order octets))

-- after as many packets as there are octets, no whole packet follows
left_by : (n : ℕ) (order : Order) (octets : List ℕ) → length octets ≤ suc n → (b : Bool) → is_whole order octets ≡ b
    → (length (behind_first order octets) ≤ n → IsWhole order (left_behind n order (behind_first order octets)) → ⊥)
    → IsWhole order (if b then left_behind n order (behind_first order octets) else octets) → ⊥
left_by n order octets few true is behind whole =
    let numbers = (whole_if order octets is).numbers in
    behind (omega (arith, length-drop (16 + captured order octets) octets)) whole
left_by n order octets few false is behind whole = not_whole order octets is whole

left_not_whole : (n : ℕ) (order : Order) (octets : List ℕ) → length octets ≤ n → IsWhole order (left_behind n order octets) → ⊥
left_not_whole zero order octets few whole = let numbers = whole.numbers in omega arith
left_not_whole (suc n) order octets few whole =
    left_by n order octets few (is_whole order octets) refl (left_not_whole n order (behind_first order octets)) whole

-- a header, or its fault
abbrev pub HeaderIs : List ℕ → Result Order CaptureFault → Type 0
HeaderIs octets (Ok order) = HasHeader order octets
HeaderIs octets (Err fault) = HasHeaderFault fault octets

header_by_is : (octets : List ℕ) (order : Option Order) → 24 ≤ length octets → order_of octets ≡ order → HeaderIs octets (header_by order octets)
header_by_is octets None whole magic = inr magic
header_by_is octets (Some order) whole magic =
    either (HeaderIs octets) (number_at order 20 octets == 1) (Ok order) (Err LinkType)
    (λ is. record { whole = whole; magic = magic; link_type = eqb-true (number_at order 20 octets) 1 is })
    (λ is. record { order = order; whole = whole; magic = magic; other = eqb-false (number_at order 20 octets) 1 is })

header_is : (octets : List ℕ) → HeaderIs octets (header_of octets)
header_is octets =
    either (HeaderIs octets) (nat_lt (length octets) 24) (Err Magic) _
    (λ few. inl (ltb-true (length octets) 24 few))
    (λ whole. header_by_is octets (order_of octets) (ltb-false (length octets) 24 whole) refl)

read_at : (packets : List StoredPacket) (fault : Option CaptureFault) (octets : List ℕ) → IsFile packets fault octets
    → IsReadAs packets (refusal_at (length packets) fault) octets
read_at packets None octets file = file
read_at packets (Some fault) octets file = inr (refl, file)

read_behind : (octets : List ℕ) (read : Result Order CaptureFault) → HeaderIs octets read
    → IsReadAs (packets_behind read (drop 24 octets)) (refusal_behind read (drop 24 octets)) octets
read_behind octets (Err fault) has = inl (refl, refl, has)
read_behind octets (Ok order) header =
    let behind = drop 24 octets in
    let n = length behind in
    let left = left_behind n order behind in
    let ends = end_is order left (left_not_whole n order behind (omega arith)) in
    read_at (first_packets n order behind) (fault_left order left) octets
    (record { order = order; header = header; reading = record { rest = left; begins = first_begin n order behind; ends = ends } })

pub one_reading : FilesHaveOneReading
one_reading octets =
    let is = read_behind octets (header_of octets) (header_is octets) in
    record {
      is = is;
      one = λ packets refusal read.
          let agree = read_once packets (packets_of octets) refusal (refusal_of octets) octets read is in
          (agree.packets_are, agree.refusals_are);
    }

-- the octets of a whole packet, and the octets after it
split_first : (order : Order) (octets : List ℕ) → octets ≡ (first_packet order octets).numbers ++ ((first_packet order octets).octets ++ behind_first order octets)
split_first order octets =
    let n = captured order octets in
    let k = 16 + n - 16 in
    let all : 16 + k ≡ 16 + n = omega arith in
    let own : drop 16 octets ≡ take k (drop 16 octets) ++ behind_first order octets =
    sym (take-append-drop k (drop 16 octets)) ∙ ap (λ r. take k (drop 16 octets) ++ r) (drop-drop k 16 octets ∙ ap (λ i. drop i octets) all) in
    sym (take-append-drop 16 octets) ∙ ap (λ r. take 16 octets ++ r) own

pub begins_stored : (order : Order) (packets : List StoredPacket) (rest octets : List ℕ) → Begins order packets rest octets → octets ≡ stored packets ++ rest
begins_stored order [] rest octets is = is
begins_stored order (packet ∷ packets) rest octets (whole, is, begins) =
    let first = first_packet order octets in
    let on = begins_stored order packets rest (behind_first order octets) begins in
    split_first order octets
    ∙ ap (λ r. first.numbers ++ (first.octets ++ r)) on
    ∙ ap (λ r. first.numbers ++ r) (sym (append_assoc first.octets (stored packets) rest))
    ∙ sym (append_assoc first.numbers (first.octets ++ stored packets) rest)
    ∙ ap (λ (p : StoredPacket). (p.numbers ++ (p.octets ++ stored packets)) ++ rest) (sym is)

pub are_their_packets : CapturesAreTheirPackets
are_their_packets packets octets file =
    let behind = begins_stored file.order packets file.reading.rest (drop 24 octets) file.reading.begins in
    let none = ap (λ r. stored packets ++ r) file.reading.ends in
    sym (take-append-drop 24 octets) ∙ ap (λ r. take 24 octets ++ r) (behind ∙ none ∙ append-nil (stored packets))

-- a number stays
pub number_stays : (order : Order) (at : ℕ) (octets later : List ℕ) → at + 4 ≤ length octets → number_at order at (octets ++ later) ≡ number_at order at octets
number_stays Big at octets later within =
    ap (big_number 4) (drop-append-le at octets later (omega arith)) ∙ big_from-append 4 (drop at octets) later (omega (arith, length-drop at octets))
number_stays Little at octets later within =
    ap (little_number 4) (drop-append-le at octets later (omega arith)) ∙ little_from-append 4 (drop at octets) later (omega (arith, length-drop at octets))

pub order_stays : (octets later : List ℕ) → 4 ≤ length octets → order_of (octets ++ later) ≡ order_of octets
order_stays octets later within = ap order_by (big_from-append 4 octets later within)

header_stays : (order : Order) (octets later : List ℕ) → HasHeader order octets → HasHeader order (octets ++ later)
header_stays order octets later header =
    let whole = header.whole in
    record {
      whole = omega (arith, length-append octets later);
      magic = order_stays octets later (omega arith) ∙ header.magic;
      link_type = number_stays order 20 octets later (omega arith) ∙ header.link_type;
    }

pub header_fault_stays : (fault : CaptureFault) (octets later : List ℕ) → 24 ≤ length octets → HasHeaderFault fault octets → HasHeaderFault fault (octets ++ later)
header_fault_stays Magic octets later whole (inl few) = absurd (omega arith)
header_fault_stays Magic octets later whole (inr none) = inr (order_stays octets later (omega arith) ∙ none)
header_fault_stays LinkType octets later whole has = record {
  order = has.order;
  whole = omega (arith, length-append octets later);
  magic = order_stays octets later (omega arith) ∙ has.magic;
  other = λ is. has.other (sym (number_stays has.order 20 octets later (omega arith)) ∙ is);
}
header_fault_stays Header octets later whole has = has
header_fault_stays Packet octets later whole has = has
header_fault_stays Long octets later whole has = has

whole_stays : (order : Order) (octets later : List ℕ) → IsWhole order octets → IsWhole order (octets ++ later)
whole_stays order octets later whole =
    let numbers = whole.numbers in
    let short = whole.short in
    let own = whole.own in
    let same = number_stays order 8 octets later (omega arith) in
    record {
      numbers = omega (arith, length-append octets later);
      short = omega arith;
      own = omega (arith, length-append octets later);
    }

pub first_stays : (order : Order) (octets later : List ℕ) → IsWhole order octets → first_packet order (octets ++ later) ≡ first_packet order octets
first_stays order octets later whole =
    let numbers = whole.numbers in
    let own = whole.own in
    let n = captured order octets in
    let same = number_stays order 8 octets later (omega arith) in
    let octets_are : take (16 + n - 16) (drop 16 (octets ++ later)) ≡ take (16 + n - 16) (drop 16 octets) =
    ap (take (16 + n - 16)) (drop-append-le 16 octets later numbers) ∙ take-append-le (16 + n - 16) (drop 16 octets) later (omega (arith, length-drop 16 octets)) in
    ap (λ m. record { numbers = take 16 (octets ++ later); octets = slice_range (octets ++ later) 16 (16 + m) }) same
    ∙ ap (λ ns. record { numbers = ns; octets = slice_range (octets ++ later) 16 (16 + n) }) (take-append-le 16 octets later numbers)
    ∙ ap (λ os. record { numbers = take 16 octets; octets = os }) octets_are

pub behind_stays : (order : Order) (octets later : List ℕ) → IsWhole order octets → behind_first order (octets ++ later) ≡ behind_first order octets ++ later
behind_stays order octets later whole =
    let numbers = whole.numbers in
    ap (λ n. drop (16 + n) (octets ++ later)) (number_stays order 8 octets later (omega arith))
    ∙ drop-append-le (16 + captured order octets) octets later whole.own

packets_stay : (order : Order) (packets : List StoredPacket) (rest octets later : List ℕ) → Begins order packets rest octets
    → Begins order packets (rest ++ later) (octets ++ later)
packets_stay order [] rest octets later is = ap (λ o. o ++ later) is
packets_stay order (packet ∷ packets) rest octets later (whole, is, begins) = (
  whole_stays order octets later whole,
  is ∙ sym (first_stays order octets later whole),
  subst (Begins order packets (rest ++ later)) (sym (behind_stays order octets later whole)) (packets_stay order packets rest (behind_first order octets) later begins),
)

long_stays : (order : Order) (octets later : List ℕ) → HasPacketFault Long order octets → HasPacketFault Long order (octets ++ later)
long_stays order octets later (enough, long) =
    let same = number_stays order 8 octets later (omega arith) in (omega (arith, length-append octets later), omega arith)

pub stay : StayWhateverComes
stay = record { header = header_stays; header_fault = header_fault_stays; packets = packets_stay; long = long_stays }

packets_go_on : (order : Order) (packets more : List StoredPacket) (left rest octets : List ℕ) → Begins order packets rest octets → Begins order more left rest
    → Begins order (packets ++ more) left octets
packets_go_on order [] more left rest octets is on = subst (Begins order more left) (sym is) on
packets_go_on order (packet ∷ packets) more left rest octets (whole, is, begins) on =
    (whole, is, packets_go_on order packets more left rest (behind_first order octets) begins on)

pub go_on : ReadingsGoOn
go_on = record {
  packets = packets_go_on;
  reading = λ order packets more fault rest octets begins reading. record {
    rest = reading.rest;
    begins = packets_go_on order packets more reading.rest rest octets begins reading.begins;
    ends = reading.ends;
  };
}
