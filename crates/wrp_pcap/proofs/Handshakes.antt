-- What a `complete` names is in the packets of the capture.
use Rattle.std.proofs.Common.{◌≡◌, ℕ, ◌+◌, ◌==◌, ◌&&◌, Bool, true, List, [], ◌∷◌, ◌++◌, length, map, reverse, Some, refl, sym, ap, ap₂, ◌∙◌, subst, arith, length-append}
use Rattle.std.proofs.lemmas.List.{append_assoc, map-append, reverse-append, reverse-reverse}
use Rattle.wrp_base.specs.Message.{is_port}
use Rattle.wrp_base.specs.declared.message.Body.{Body}
use Rattle.wrp_base.specs.declared.message.Body.TheVariants.{Signal}
use Rattle.wrp_base.specs.declared.message.PortIdentity.{PortIdentity}
use Rattle.wrp_base.specs.declared.message.PtpMsg.{PtpMsg}
use Rattle.wrp_base.specs.declared.message.WrMsg.TheVariants.{ModeOn as WR_MODE_ON}
use Rattle.wrp_pcap.specs.declared.content.Content.{Content}
use Rattle.wrp_pcap.specs.declared.content.Content.TheVariants.{Other, Message, Fault}
use Rattle.wrp_pcap.specs.declared.verdict.Verdict8.{Verdict8}
use Rattle.wrp_pcap.specs.declared.verdict.Verdict8.TheVariants.{Complete}
use Rattle.wrp_pcap.specs.Capture.{StoredPacket}
use Rattle.wrp_pcap.specs.Certificate.{Captured, carries, certificate, is_sent, to_slave_calibrated, verdict_on}
use Rattle.wrp_pcap.specs.Content.{HasContent, HaveContents, messages_of}
use Rattle.wrp_pcap.specs.Handshakes.{AreIn, CompleteNamesHandshake, IsIn, is_mode_on}
use Rattle.wrp_pcap.specs.Inspected.{Carry}
use Rattle.wrp_pcap.specs.Laws.{AreLast, IsComplete, IsDue}
use Rattle.wrp_pcap.proofs.CompleteJudged.{complete_is_judged}
use Rattle.wrp_pcap.proofs.Due.{certificate_is_due}

-- ---- the packet of a content

abbrev octets_of : StoredPacket → List ℕ
octets_of packet = packet.octets

-- a packet with this content, and as many before it as there are contents before
pub record Place (packets : List StoredPacket) (before : List Content) (content : Content) : Type 0 where
  pub earlier : List StoredPacket
  pub packet : StoredPacket
  pub later : List StoredPacket
  pub splits : packets ≡ earlier ++ packet ∷ later
  pub counted : length earlier ≡ length before
  pub has : HasContent packet.octets content

as_many : (packets : List StoredPacket) (contents : List Content) → HaveContents (map octets_of packets) contents → length packets ≡ length contents
as_many [] [] have = refl
as_many [] (content ∷ contents) have = absurd have
as_many (packet ∷ packets) [] have = absurd have
as_many (packet ∷ packets) (content ∷ contents) have = let rest = as_many packets contents have.1 in omega (arith, rest)

-- the newest packet first
pub record Split (packets : List StoredPacket) (before : List Content) (content : Content) : Type 0 where
  pub newer : List StoredPacket
  pub packet : StoredPacket
  pub older : List StoredPacket
  pub splits : packets ≡ newer ++ packet ∷ older
  pub counted : length older ≡ length before
  pub has : HasContent packet.octets content

split : (packets : List StoredPacket) (newer before : List Content) (content : Content) → HaveContents (map octets_of packets) (newer ++ content ∷ before) →
    Split packets before content
split [] [] before content have = absurd have
split [] (newest ∷ newer) before content have = absurd have
split (packet ∷ packets) [] before content have =
    record { newer = []; packet = packet; older = packets; splits = refl; counted = as_many packets before have.1; has = have.0 }
split (packet ∷ packets) (newest ∷ newer) before content have =
    let rest = split packets newer before content have.1 in
    record {
      newer = packet ∷ rest.newer;
      packet = rest.packet;
      older = rest.older;
      splits = ap (λ ps. packet ∷ ps) rest.splits;
      counted = rest.counted;
      has = rest.has;
    }

map-reverse : (packets : List StoredPacket) → reverse (map octets_of packets) ≡ map octets_of (reverse packets)
map-reverse [] = refl
map-reverse (packet ∷ packets) =
    reverse-append (packet.octets ∷ []) (map octets_of packets)
    ∙ ap (λ os. os ++ packet.octets ∷ []) (map-reverse packets)
    ∙ sym (ap (map octets_of) (reverse-append (packet ∷ []) packets) ∙ map-append octets_of (reverse packets) (packet ∷ []))

length-reverse : (packets : List StoredPacket) → length (reverse packets) ≡ length packets
length-reverse [] = refl
length-reverse (packet ∷ packets) =
    let turned : length (reverse (packet ∷ packets)) ≡ length (reverse packets ++ packet ∷ []) = ap length (reverse-append (packet ∷ []) packets) in
    let one = length-append (reverse packets) (packet ∷ []) in
    let rest = length-reverse packets in
    omega (arith, turned, one, rest)

place : (packets : List StoredPacket) (newer before : List Content) (content : Content) → Carry packets (newer ++ content ∷ before) →
    Place packets before content
place packets newer before content carry =
    let Have : List (List ℕ) → Type 0 = λ os. HaveContents os (newer ++ content ∷ before) in
    let found = split (reverse packets) newer before content (subst Have (map-reverse packets) carry) in
    record {
      earlier = reverse found.older;
      packet = found.packet;
      later = reverse found.newer;
      splits = sym (reverse-reverse packets) ∙ ap reverse found.splits ∙ reverse-append found.newer (found.packet ∷ found.older)
          ∙ ap (λ ps. ps ++ reverse found.newer) (reverse-append (found.packet ∷ []) found.older)
          ∙ append_assoc (reverse found.older) (found.packet ∷ []) (reverse found.newer);
      counted = length-reverse found.older ∙ found.counted;
      has = found.has;
    }

-- ---- the content of a message

-- a message of some contents: these are before it
pub record FromContent (contents : List Content) (captured : Captured) (rest : List Captured) : Type 0 where
  pub newer : List Content
  pub before : List Content
  pub splits : contents ≡ newer ++ Message captured.message ∷ before
  pub counted : captured.number ≡ length before + 1
  pub rest_is : rest ≡ messages_of before

same_head : (a b : Captured) (xs ys : List Captured) → a ∷ xs ≡ b ∷ ys → a ≡ b
same_head a b xs ys e = cc

same_tail : (a b : Captured) (xs ys : List Captured) → a ∷ xs ≡ b ∷ ys → xs ≡ ys
same_tail a b xs ys e = cc

further : (newest : Content) (contents : List Content) (captured : Captured) (rest : List Captured) → FromContent contents captured rest →
    FromContent (newest ∷ contents) captured rest
further newest contents captured rest from =
    record { newer = newest ∷ from.newer; before = from.before; splits = ap (λ cs. newest ∷ cs) from.splits; counted = from.counted; rest_is = from.rest_is }

from_content : (contents : List Content) (later : List Captured) (captured : Captured) (rest : List Captured) → messages_of contents ≡ later ++ captured ∷ rest →
    FromContent contents captured rest
from_content [] [] captured rest e = absurd cc
from_content [] (c ∷ later) captured rest e = absurd cc
from_content (Other ∷ before) later captured rest e = further Other before captured rest (from_content before later captured rest e)
from_content (Fault fault ∷ before) later captured rest e = further (Fault fault) before captured rest (from_content before later captured rest e)
from_content (Message message ∷ before) [] captured rest e =
    let newest : Captured = record { number = length before + 1; message = message } in
    let is : newest ≡ captured = same_head newest captured (messages_of before) rest e in
    record {
      newer = [];
      before = before;
      splits = ap (λ (c : Captured). Message c.message ∷ before) is;
      counted = sym (ap (λ (c : Captured). c.number) is);
      rest_is = sym (same_tail newest captured (messages_of before) rest e);
    }
from_content (Message message ∷ before) (c ∷ later) captured rest e =
    let newest : Captured = record { number = length before + 1; message = message } in
    further (Message message) before captured rest (from_content before later captured rest (same_tail newest c (messages_of before) (later ++ captured ∷ rest) e))

-- ---- the eight messages

is_in : (packets : List StoredPacket) (before : List Content) (message : PtpMsg) (test : Captured → Bool) (number : ℕ) → Place packets before (Message message) →
    number ≡ length before + 1 → test (record { number = number; message = message }) ≡ true → IsIn packets test number
is_in packets before message test number at is holds =
    record {
      earlier = at.earlier;
      packet = at.packet;
      later = at.later;
      message = message;
      splits = at.splits;
      counted = is ∙ ap (λ n. n + 1) (sym at.counted);
      carries = at.has;
      holds = holds;
    }

-- messages of which each is the last before the next are in the packets
are_in : (packets : List StoredPacket) (newer : List Content) (tests : List (Captured → Bool)) (contents : List Content) (captured : List Captured) (numbers : List ℕ) →
    Carry packets (newer ++ contents) → captured ≡ messages_of contents → AreLast tests captured numbers → AreIn packets tests numbers
are_in packets newer [] contents captured numbers carry are last = last
are_in packets newer (test ∷ tests) contents captured numbers carry are (earlier, number, rest, numbers_are, last, others) =
    let from = from_content contents last.later last.last rest (sym are ∙ last.splits) in
    let Carries : List Content → Type 0 = λ cs. Carry packets cs in
    let message : PtpMsg = last.last.message in
    let parts : newer ++ contents ≡ (newer ++ from.newer) ++ Message message ∷ from.before =
    ap (λ cs. newer ++ cs) from.splits ∙ sym (append_assoc newer from.newer (Message message ∷ from.before)) in
    let on : newer ++ contents ≡ ((newer ++ from.newer) ++ Message message ∷ []) ++ from.before =
    parts ∙ sym (append_assoc (newer ++ from.newer) (Message message ∷ []) from.before) in (
      earlier,
      number,
      numbers_are,
      is_in packets from.before message test number (place packets (newer ++ from.newer) from.before (Message message) (subst Carries parts carry))
          (sym last.number_is ∙ from.counted)
          (ap (λ (n : ℕ). test (record { number = n; message = message })) (sym last.number_is) ∙ last.holds),
      are_in packets ((newer ++ from.newer) ++ Message message ∷ []) tests from.before rest earlier (subst Carries on carry) from.rest_is others,
    )

-- ---- the WR_MODE_ON

same_number : (n : ℕ) → (n == n) ≡ true
same_number n = grind (arith)

same_self : (port : PortIdentity) → is_port port port ≡ true
same_self port = ap₂ (λ (a b : Bool). a && b) (same_number port.clock) (same_number port.port)

pub is_sent_on : (source target : PortIdentity) (body : Body) → body ≡ Signal target (Some WR_MODE_ON) →
    carries source is_mode_on source target body ≡ true
is_sent_on source target body is =
    ap (carries source is_mode_on source target) is ∙ ap₂ (λ (a b : Bool). a && b) (same_self source) (same_self target)

told_mode_on : (source : PortIdentity) (number : ℕ) (before : List Captured) (body : Body) (numbers : List ℕ)
    → verdict_on source number before body ≡ Some (Complete numbers)
    → (target : PortIdentity) × (body ≡ Signal target (Some WR_MODE_ON)) × (certificate source target number before ≡ Complete numbers)
told_mode_on source number before (Signal target (Some WR_MODE_ON)) numbers e = (target, refl, cc)
told_mode_on source number before _ numbers e = absurd cc

pub complete_names_handshake : CompleteNamesHandshake
complete_names_handshake packets newer before (Message message) numbers carry e =
    let master = message.head.source in
    let number = length before + 1 in
    let told = told_mode_on master number (messages_of before) message.body numbers e in
    let slave = told.0 in
    let Due : Verdict8 → Type 0 = λ verdict. IsDue master slave number (messages_of before) verdict in
    let due : IsComplete master slave number (messages_of before) numbers = subst Due told.2 (certificate_is_due master slave number (messages_of before)) in
    let Carries : List Content → Type 0 = λ cs. Carry packets cs in
    let on : newer ++ Message message ∷ before ≡ (newer ++ Message message ∷ []) ++ before = sym (append_assoc newer (Message message ∷ []) before) in
    record {
      master = master;
      slave = slave;
      rises = (complete_is_judged (Message message) before numbers e).0;
      carried = (
        due.numbers,
        number,
        due.all_are,
        is_in packets before message (is_sent is_mode_on master slave) number (place packets newer before (Message message) carry) refl
            (is_sent_on master slave message.body told.1),
        are_in packets (newer ++ Message message ∷ []) (to_slave_calibrated master slave) before (messages_of before) due.numbers (subst Carries on carry) refl due.last,
      );
    }
complete_names_handshake packets newer before Other numbers carry e = absurd cc
complete_names_handshake packets newer before (Fault fault) numbers carry e = absurd cc
