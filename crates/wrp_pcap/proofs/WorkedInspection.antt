-- A capture of one packet, inspected.
use Rattle.std.proofs.Common.{◌≡◌, ◌⊎◌, ◌<◌, true, ℕ, zero, suc, Some, List, [], ◌∷◌, ◌++◌, take, drop, ap, inl, inr, refl, sym, ◌∙◌, subst, arith, append_assoc}
use Rattle.std.proofs.lemmas.List.{take-append-drop}
use Rattle.std.proofs.lemmas.Option.{same_Some}
use Rattle.std.specs.Fmt.{digits}
use Rattle.wrp_base.specs.declared.message.Body.{Body}
use Rattle.wrp_base.specs.declared.message.Body.TheVariants.{Signal}
use Rattle.wrp_base.specs.declared.message.PortIdentity.{PortIdentity}
use Rattle.wrp_base.specs.declared.message.WrMsg.TheVariants.{ModeOn as WR_MODE_ON}
use Rattle.wrp_frame.specs.declared.fault.FrameFault.{FrameFault}
use Rattle.wrp_frame.specs.declared.fault.FrameFault.TheVariants.{Short, Version, Kind, Length, Time, Tlv, BadWr, OneStep}
use Rattle.wrp_frame.specs.Faults.{fault_number}
use Rattle.wrp_records.specs.declared.status.Status.TheVariants.{Done}
use Rattle.wrp_pcap.specs.declared.capture.Order.{Order}
use Rattle.wrp_pcap.specs.declared.capture.Order.TheVariants.{Little}
use Rattle.wrp_pcap.specs.declared.content.Content.{Content}
use Rattle.wrp_pcap.specs.declared.content.Content.TheVariants.{Fault}
use Rattle.wrp_pcap.specs.declared.verdict.Verdict8.TheVariants.{Missing}
use Rattle.wrp_pcap.specs.Capture.{Begins, HasHeader, IsWhole, StoredPacket}
use Rattle.wrp_pcap.specs.CaptureRows.{worked_packet}
use Rattle.wrp_pcap.specs.Certificate.{carries, verdict_on}
use Rattle.wrp_pcap.specs.Ethernet.{CarriesFault}
use Rattle.wrp_pcap.specs.Handshakes.{is_mode_on}
use Rattle.wrp_pcap.specs.InspectAim.{InspectPart}
use Rattle.wrp_pcap.specs.Inspected.{Carry, InspectFirst, IsInspected}
use Rattle.wrp_pcap.specs.PacketLines.{text_of}
use Rattle.wrp_pcap.specs.WorkedInspection.{WorkedInspection, one_line, one_packet, one_sum, short_numbers}
use Rattle.wrp_pcap.proofs.ContentExact.{one_contents}
use Rattle.wrp_pcap.proofs.InspectAim.{cuts_are_first}
use Rattle.wrp_pcap.proofs.OneInspection.{one_answer}

abbrev the_packet : StoredPacket
the_packet = record { numbers = short_numbers; octets = worked_packet [] }

abbrev behind_header : List ℕ
behind_header = short_numbers ++ worked_packet []

header : HasHeader Little one_packet
header = record { whole = omega arith; magic = refl; link_type = refl }

whole : IsWhole Little behind_header
whole = record { numbers = omega arith; short = omega arith; own = omega arith }

begins : Begins Little (the_packet ∷ []) [] behind_header
begins = (whole, refl, refl)

no_fault_before : (other : FrameFault) → fault_number other < 1 → ⊥
no_fault_before Short less = omega (arith, less)
no_fault_before Version less = omega (arith, less)
no_fault_before Kind less = omega (arith, less)
no_fault_before Length less = omega (arith, less)
no_fault_before Time less = omega (arith, less)
no_fault_before Tlv less = omega (arith, less)
no_fault_before BadWr less = omega (arith, less)
no_fault_before OneStep less = omega (arith, less)

is_short : CarriesFault (worked_packet []) Short
is_short = record {
  frame = [];
  carries = record { whole = omega arith; ptp = refl; behind = refl };
  first = record { has = omega arith; none_before = λ other less has. no_fault_before other less };
}

carry : Carry (the_packet ∷ []) (Fault Short ∷ [])
carry = (is_short, tt)

line_is : text_of (Fault Short ∷ []) ≡ one_line
unfolding digits
line_is = refl

done : IsInspected one_packet (one_line ++ one_sum)
unfolding digits
done = record {
  packets = the_packet ∷ [];
  contents = Fault Short ∷ [];
  file = record { order = Little; header = header; reading = record { rest = []; begins = begins; ends = refl } };
  few = omega arith;
  carry = carry;
  is = refl;
}

-- the lines of packets that carry the same
lines_of_one : (packets : List StoredPacket) (contents : List Content) (text : List ℕ) → packets ≡ the_packet ∷ [] → Carry packets contents → text ≡ text_of contents
    → text ≡ one_line
lines_of_one packets contents text are has is =
    let same = one_contents (worked_packet [] ∷ []) contents (Fault Short ∷ []) (subst (λ (ps : List StoredPacket). Carry ps contents) are has) carry in
    is ∙ ap text_of same ∙ line_is

no_lines : (contents : List Content) (text : List ℕ) → Carry [] contents → text ≡ text_of contents → text ≡ []
no_lines [] text has is = is
no_lines (content ∷ contents) text has is = absurd has

lines_by : (packets : List StoredPacket) (contents : List Content) (rest text : List ℕ) → Begins Little packets rest behind_header → Carry packets contents → text ≡ text_of contents
    → (text ≡ []) ⊎ (text ≡ one_line)
lines_by [] contents rest text begin has is = inl (no_lines contents text has is)
lines_by (packet ∷ []) contents rest text begin has is =
    inr (lines_of_one (packet ∷ []) contents text (ap (λ p. p ∷ []) begin.1) has is)
lines_by (packet ∷ other ∷ packets) contents rest text begin has is =
    let numbers = begin.2.0.numbers in absurd (omega (arith, numbers))

first_of_one : (text : List ℕ) → InspectFirst one_packet text → (text ≡ []) ⊎ (text ≡ one_line)
first_of_one text (inl none) = inl none
first_of_one text (inr first) =
    let order : Little ≡ first.order = same_Some Little first.order first.header.magic in
    lines_by first.packets first.contents first.rest text (subst (λ (o : Order). Begins o first.packets first.rest behind_header) (sym order) first.begins)
    first.carry first.is

abbrev nothing : List ℕ
nothing = []

take_none : (n : ℕ) → take n nothing ≡ nothing
take_none zero = refl
take_none (suc n) = refl

part_of_one : (text : List ℕ) → InspectPart one_packet text → (rest : List ℕ) × (text ++ rest ≡ one_line ++ one_sum)
part_of_one text (all, count, is, inl (status, due)) =
    let same : one_line ++ one_sum ≡ all = (one_answer one_packet [] Done status (one_line ++ one_sum) all (refl, done) (refl, due)).1 in
    (drop count all, ap (λ t. t ++ drop count all) is ∙ take-append-drop count all ∙ sym same)
part_of_one text (all, count, is, inr first) = elim (first_of_one all first) [
  | inl none ↦
      let empty : text ≡ [] = is ∙ ap (take count) none ∙ take_none count in
      (one_line ++ one_sum, ap (λ t. t ++ (one_line ++ one_sum)) empty)
  | inr line ↦
      let front : text ≡ take count one_line = is ∙ ap (take count) line in (
        drop count one_line ++ one_sum,
        ap (λ t. t ++ (drop count one_line ++ one_sum)) front
            ∙ sym (append_assoc (take count one_line) (drop count one_line) one_sum) ∙ ap (λ t. t ++ one_sum) (take-append-drop count one_line),
      )
]

told_alone : (source slave : PortIdentity) (body : Body) → carries source is_mode_on source slave body ≡ true → verdict_on source 1 [] body ≡ Some (Missing 7)
told_alone source slave (Signal to (Some WR_MODE_ON)) is = refl
told_alone source slave _ is = absurd cc

pub worked_inspection : WorkedInspection
worked_inspection = record {
  done = done;
  unread = ([], one_packet, refl, inl (omega arith, refl));
  read = (
    one_packet,
    [],
    refl,
    inr (record {
      order = Little;
      packets = the_packet ∷ [];
      contents = Fault Short ∷ [];
      rest = [];
      header = header;
      begins = begins;
      cut = inl (omega arith);
      few = omega arith;
      next = λ some. absurd (omega (arith, some));
      carry = carry;
      is = sym line_is;
    }),
  );
  read_only = λ text has.
      let first = subst (λ (o : List ℕ). InspectFirst o text) (sym has.2) (cuts_are_first has.0 has.1 text has.3) in first_of_one text first;
  memory_only = λ text has. first_of_one text has;
  write_only = λ text has. part_of_one text has;
  alone = λ message slave is. told_alone message.head.source slave message.body is;
}
