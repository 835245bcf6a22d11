-- A file is a capture of one number of packets, or is refused in one way, and never both.
use Rattle.std.proofs.Common.{◌≡◌, ◌+◌, ℕ, List, length, drop, Option, Some, None, inl, inr, refl, sym, ap, ap₂, ◌∙◌, subst, arith}
use Rattle.wrp_pcap.specs.declared.capture.CaptureFault.{CaptureFault}
use Rattle.wrp_pcap.specs.declared.capture.CaptureFault.TheVariants.{Magic, LinkType, Header, Packet, Long}
use Rattle.wrp_pcap.specs.declared.capture.Order.{Order}
use Rattle.wrp_pcap.specs.declared.capture.Refusal.{Refusal}
use Rattle.wrp_pcap.specs.Capture.{order_of, number_at, HasHeader, HasHeaderFault, StoredPacket, HasReading, IsFile, IsRefused, IsReadAs}
use Rattle.wrp_pcap.proofs.CaptureReading.{AreOne, readings_are_one}

-- a header has one order
pub one_order : (octets : List ℕ) (one other : Order) → order_of octets ≡ Some one → order_of octets ≡ Some other → one ≡ other
one_order octets one other a b = cc

-- what has a header has no fault of one
pub header_has_no_fault : (octets : List ℕ) (order : Order) (fault : CaptureFault) → HasHeader order octets → HasHeaderFault fault octets → ⊥
header_has_no_fault octets order Magic header (inl few) = let whole = header.whole in omega arith
header_has_no_fault octets order Magic header (inr none) = let magic = header.magic in cc
header_has_no_fault octets order LinkType header has =
    let same = one_order octets order has.order header.magic has.magic in
    has.other (subst (λ o. number_at o 20 octets ≡ 1) same header.link_type)
header_has_no_fault octets order Header header has = has
header_has_no_fault octets order Packet header has = has
header_has_no_fault octets order Long header has = has

-- a header has one fault
one_header_fault : (octets : List ℕ) (one other : CaptureFault) → HasHeaderFault one octets → HasHeaderFault other octets → one ≡ other
one_header_fault octets Magic Magic a b = refl
one_header_fault octets LinkType LinkType a b = refl
one_header_fault octets Magic LinkType (inl few) b = let whole = b.whole in absurd (omega arith)
one_header_fault octets Magic LinkType (inr none) b = let magic = b.magic in absurd (cc)
one_header_fault octets LinkType Magic a (inl few) = let whole = a.whole in absurd (omega arith)
one_header_fault octets LinkType Magic a (inr none) = let magic = a.magic in absurd (cc)
one_header_fault octets Header other a b = absurd a
one_header_fault octets Packet other a b = absurd a
one_header_fault octets Long other a b = absurd a
one_header_fault octets one Header a b = absurd b
one_header_fault octets one Packet a b = absurd b
one_header_fault octets one Long a b = absurd b

-- a file has one reading
pub files_are_one : (packets others : List StoredPacket) (one other : Option CaptureFault) (octets : List ℕ)
    → IsFile packets one octets → IsFile others other octets → AreOne packets others one other
files_are_one packets others one other octets a b =
    let same = one_order octets b.order a.order b.header.magic a.header.magic in
    readings_are_one a.order packets others one other (drop 24 octets) a.reading
    (subst (λ o. HasReading o others other (drop 24 octets)) same b.reading)

-- two readings of a file agree
pub record Agree (packets others : List StoredPacket) (one other : Option Refusal) : Type 0 where
  pub packets_are : packets ≡ others
  pub refusals_are : one ≡ other

-- a capture is not refused
pub capture_not_refused : (packets others : List StoredPacket) (refusal : Refusal) (octets : List ℕ) → IsFile packets None octets → IsRefused others refusal octets → ⊥
capture_not_refused packets others refusal octets a (inl (at, none, has)) = header_has_no_fault octets a.order refusal.fault a.header has
capture_not_refused packets others refusal octets a (inr (at, b)) =
    let one = files_are_one packets others None (Some refusal.fault) octets a b in let is = one.faults_are in cc

pub refusals_agree : (packets others : List StoredPacket) (one other : Refusal) (octets : List ℕ) → IsRefused packets one octets → IsRefused others other octets
    → Agree packets others (Some one) (Some other)
refusals_agree packets others one other octets (inl (at, none, has)) (inl (same, empty, also)) = record {
  packets_are = none ∙ sym empty;
  refusals_are = ap₂ (λ n f. Some (record { packet = n; fault = f })) (at ∙ sym same) (one_header_fault octets one.fault other.fault has also);
}
refusals_agree packets others one other octets (inl (at, none, has)) (inr (same, b)) =
    absurd (header_has_no_fault octets b.order one.fault b.header has)
refusals_agree packets others one other octets (inr (at, a)) (inl (same, empty, also)) =
    absurd (header_has_no_fault octets a.order other.fault a.header also)
refusals_agree packets others one other octets (inr (at, a)) (inr (same, b)) =
    let agree = files_are_one packets others (Some one.fault) (Some other.fault) octets a b in
    let packets_are = agree.packets_are in
    let faults_are = agree.faults_are in
    let fault_is : one.fault ≡ other.fault = cc in
    record {
      packets_are = packets_are;
      refusals_are =
          ap₂ (λ n f. Some (record { packet = n; fault = f })) (at ∙ ap (λ ps. length ps + 1) packets_are ∙ sym same) fault_is;
    }

-- octets are read in one way
pub read_once : (packets others : List StoredPacket) (one other : Option Refusal) (octets : List ℕ) → IsReadAs packets one octets → IsReadAs others other octets
    → Agree packets others one other
read_once packets others None None octets a b =
    record { packets_are = (files_are_one packets others None None octets a b).packets_are; refusals_are = refl }
read_once packets others None (Some other) octets a b = absurd (capture_not_refused packets others other octets a b)
read_once packets others (Some one) None octets a b = absurd (capture_not_refused others packets one octets b a)
read_once packets others (Some one) (Some other) octets a b = refusals_agree packets others one other octets a b
