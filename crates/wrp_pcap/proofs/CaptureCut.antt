-- The octets of a capture up to a place after its whole packets.
use Rattle.std.proofs.Common.{◌≡◌, ◌≤◌, ◌+◌, ℕ, List, [], ◌∷◌, ◌++◌, length, take, drop, inl, inr, refl, sym, ap, ◌∙◌, subst, arith, append_assoc, length-append}
use Rattle.std.proofs.Math.Seq.{drop-append_seam}
use Rattle.std.proofs.lemmas.List.{take-append-drop, length-take}
use Rattle.wrp_pcap.specs.declared.capture.CaptureFault.{CaptureFault}
use Rattle.wrp_pcap.specs.declared.capture.CaptureFault.TheVariants.{Magic, LinkType, Header, Packet, Long}
use Rattle.wrp_pcap.specs.declared.capture.Order.{Order}
use Rattle.wrp_pcap.specs.Capture.{captured, StoredPacket, HasHeader, HasHeaderFault, IsWhole, first_packet, behind_first, Begins}
use Rattle.wrp_pcap.proofs.CaptureLaws.{number_stays, order_stays, first_stays}

-- a packet that is whole without the last octets
whole_before : (order : Order) (octets later : List ℕ) → IsWhole order (octets ++ later) → 16 + captured order (octets ++ later) ≤ length octets → IsWhole order octets
whole_before order octets later whole within =
    let same = number_stays order 8 octets later (omega (arith, within)) in
    let short = whole.short in
    record { numbers = omega (arith, within); short = omega (arith, short, same); own = omega (arith, within, same) }

-- the octets in front of the last ones
pub record Front (order : Order) (packets : List StoredPacket) (rest later octets : List ℕ) : Type 0 where
  pub front : List ℕ
  pub all : octets ≡ front ++ later
  pub begins : Begins order packets rest front

-- without the last octets after the packets, the octets still begin with these packets
pub begins_before : (order : Order) (packets : List StoredPacket) (rest later octets : List ℕ) → Begins order packets (rest ++ later) octets
    → Front order packets rest later octets
begins_before order [] rest later octets is = record { front = rest; all = is; begins = refl }
begins_before order (packet ∷ packets) rest later octets (whole, is, begins) =
    let size = 16 + captured order octets in
    let behind = begins_before order packets rest later (behind_first order octets) begins in
    let own = take size octets in
    let front = own ++ behind.front in
    let all : octets ≡ front ++ later =
    sym (take-append-drop size octets) ∙ ap (λ l. own ++ l) behind.all ∙ sym (append_assoc own behind.front later) in
    let sized : length own ≡ size = let least = length-take size octets in let enough = whole.own in omega (arith, least, enough) in
    let here = subst (IsWhole order) all whole in
    let same = ap (captured order) all in
    let parts = length-append own behind.front in
    let whole_front = whole_before order front later here (omega (arith, sized, parts, same)) in
    let first : packet ≡ first_packet order front = is ∙ ap (first_packet order) all ∙ first_stays order front later whole_front in
    let stays = number_stays order 8 front later (let numbers = whole_front.numbers in omega (arith, numbers)) in
    let behind_is : behind_first order front ≡ behind.front =
    ap (λ n. drop n front) (omega (arith, sized, same, stays)) ∙ drop-append_seam own behind.front in
    record {
      front = front;
      all = all;
      begins = (whole_front, first, subst (λ (o : List ℕ). Begins order packets rest o) (sym behind_is) behind.begins);
    }

-- a header without the octets after it
pub header_before : (order : Order) (octets later : List ℕ) → 24 ≤ length octets → HasHeader order (octets ++ later) → HasHeader order octets
header_before order octets later enough header = record {
  whole = enough;
  magic = sym (order_stays octets later (omega (arith, enough))) ∙ header.magic;
  link_type = sym (number_stays order 20 octets later (omega (arith, enough))) ∙ header.link_type;
}

-- and its fault
pub header_fault_before : (fault : CaptureFault) (octets later : List ℕ) → 24 ≤ length octets → HasHeaderFault fault (octets ++ later) → HasHeaderFault fault octets
header_fault_before Magic octets later enough (inl few) = let all = length-append octets later in absurd (omega (arith, enough, few, all))
header_fault_before Magic octets later enough (inr none) = inr (sym (order_stays octets later (omega (arith, enough))) ∙ none)
header_fault_before LinkType octets later enough has = record {
  order = has.order;
  whole = enough;
  magic = sym (order_stays octets later (omega (arith, enough))) ∙ has.magic;
  other = λ is. has.other (number_stays has.order 20 octets later (omega (arith, enough)) ∙ is);
}
header_fault_before Header octets later enough has = has
header_fault_before Packet octets later enough has = has
header_fault_before Long octets later enough has = has
