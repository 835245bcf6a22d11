-- The steps of the inspection of a capture: one more packet, one more piece, and what waited is written.
use Rattle.std.proofs.Common.{◌≡◌, ◌<◌, ◌≤◌, ◌+◌, ◌^◌, ℕ, List, [], ◌∷◌, ◌++◌, length, map, drop, reverse, inl, inr, refl, sym, ap, ◌∙◌, subst, arith, append_assoc, append-nil, length-append, length-drop}
use Rattle.std.specs.Prelude.{slice_range, Option}
use Rattle.std.specs.Io.KnownBytes.{Appends, Consumes}
use Rattle.std.proofs.KnownBytes.{Appends-nil, Appends-trans, Consumes-nil, Consumes-trans}
use Rattle.std.proofs.lemmas.Bool.{cases_lt}
use Rattle.std.proofs.lemmas.List.{map-append, reverse-append, length-reverse, drop-append-le}
use Rattle.wrp_base.proofs.Lists.{length_map}
use Rattle.wrp_pcap.specs.declared.capture.Order.{Order}
use Rattle.wrp_pcap.specs.declared.content.Content.{Content}
use Rattle.wrp_pcap.specs.declared.inspection.Inspection.{Inspection}
use Rattle.wrp_pcap.specs.declared.pieces.Refilled.TheVariants.{Piece, End}
use Rattle.wrp_pcap.specs.Capture.{captured, StoredPacket, IsWhole, first_packet, behind_first, Begins, IsCut}
use Rattle.wrp_pcap.specs.Content.{HasContent, HaveContents, messages_of}
use Rattle.wrp_pcap.specs.InspectionAt.{HasTaken, Took, packets_taken}
use Rattle.wrp_pcap.specs.Inspected.{Carry}
use Rattle.wrp_pcap.specs.Inspecting.{Goes, IsNear, IsBehindHeader, Reached, Refills, piece_limit}
use Rattle.wrp_pcap.specs.PacketLines.{packet_lines}
use Rattle.wrp_pcap.proofs.CaptureLaws.{stay, number_stays}
use Rattle.wrp_pcap.proofs.CaptureReading.{begins_on}

-- ---- what packets carry

have_length : (packets : List (List ℕ)) (contents : List Content) → HaveContents packets contents → length packets ≡ length contents
have_length [] [] have = refl
have_length (packet ∷ packets) (content ∷ contents) have = let more = have_length packets contents have.1 in omega (arith, more)
have_length [] (content ∷ contents) have = absurd have
have_length (packet ∷ packets) [] have = absurd have

own : StoredPacket → List ℕ
own packet = packet.octets

pub carry_length : (packets : List StoredPacket) (contents : List Content) → Carry packets contents → length packets ≡ length contents
unfolding own
carry_length packets contents carry =
    sym (length_map own packets) ∙ sym (length-reverse (map own packets)) ∙ have_length (reverse (map own packets)) contents carry

carry_more : (packets : List StoredPacket) (contents : List Content) (packet : StoredPacket) (content : Content) → Carry packets contents
    → HasContent packet.octets content → Carry (packets ++ packet ∷ []) (content ∷ contents)
unfolding own
carry_more packets contents packet content carry has =
    let last : reverse (map own (packets ++ packet ∷ [])) ≡ packet.octets ∷ reverse (map own packets) =
    ap reverse (map-append own packets (packet ∷ [])) ∙ reverse-append (map own packets) (packet.octets ∷ []) in
    subst (λ (ps : List (List ℕ)). HaveContents ps (content ∷ contents)) (sym last) (has, carry)

-- ---- how much is held

near_within : (order : Order) (rest : List ℕ) → length rest ≤ piece_limit → IsNear order rest
near_within order rest few = record { whole = λ whole. omega (arith, few); long = λ long. omega (arith, few) }

near_behind : (order : Order) (rest : List ℕ) → IsNear order rest → IsWhole order rest → IsNear order (behind_first order rest)
near_behind order rest near whole =
    let most = near.whole whole in
    let left = length-drop (16 + captured order rest) rest in
    near_within order (behind_first order rest) (omega (arith, most, left))

-- if the numbers of a packet were cut
near_few : (order : Order) (rest given : List ℕ) → length rest < 16 → length given ≤ piece_limit → IsNear order (rest ++ given)
near_few order rest given few piece =
    let all = length-append rest given in
    record { whole = λ whole. omega (arith, few, piece, all); long = λ long. omega (arith, few, piece, all) }

-- if a packet was cut after its numbers
near_cut : (order : Order) (rest given : List ℕ) → 16 ≤ length rest → captured order rest ≤ 262_144 → length rest < 16 + captured order rest
    → length given ≤ piece_limit → IsNear order (rest ++ given)
near_cut order rest given enough short cut piece =
    let all = length-append rest given in
    let same = number_stays order 8 rest given (omega (arith, enough)) in
    record { whole = λ whole. omega (arith, cut, piece, all, same); long = λ long. absurd (omega (arith, short, same, long.1)) }

near_refilled : (order : Order) (rest given : List ℕ) → IsCut order rest → length given ≤ piece_limit → IsNear order (rest ++ given)
near_refilled order rest given (inl few) piece = near_few order rest given few piece
near_refilled order rest given (inr cut) piece = elim (cases_lt (length rest) 16) [
  | inl few ↦ near_few order rest given few piece
  | inr enough ↦ near_cut order rest given enough cut.0 cut.1 piece
]

-- ---- steps

-- after the header
pub reached_first : (order : Order) (start rest waiting : List ℕ) (inspection : Inspection) → IsBehindHeader order start rest → HasTaken inspection [] → waiting ≡ []
    → Reached order (start ++ []) [] inspection rest waiting
reached_first order start rest waiting inspection behind has none =
    subst (λ (s : List ℕ). Reached order s [] inspection rest waiting) (sym (append-nil start))
    (record {
      packets = [];
      contents = [];
      header = behind.header;
      begins = sym behind.rest_is;
      few = omega arith;
      near = near_within order rest behind.piece;
      carry = tt;
      has = has;
      waits = sym none;
    })

-- after one more packet
pub reached_more : (order : Order) (taken out rest octets waiting now : List ℕ) (old new : Inspection) → IsWhole order rest
    → octets ≡ (first_packet order rest).octets → packets_taken old + 1 < 2 ^ 32 → Took octets old new waiting now
    → Reached order taken out old rest waiting → Reached order taken out new (behind_first order rest) now
reached_more order taken out rest octets waiting now old new whole same room took reached =
    let lines = packet_lines (length reached.contents + 1) (messages_of reached.contents) took.content in
    let count = reached.has.counts.packets in
    let counted = carry_length reached.packets reached.contents reached.carry in
    let more = length-append reached.packets (first_packet order rest ∷ []) in
    record {
      packets = reached.packets ++ first_packet order rest ∷ [];
      contents = took.content ∷ reached.contents;
      header = reached.header;
      begins = begins_on order reached.packets rest (drop 24 taken) reached.begins whole;
      few = omega (arith, count, counted, more, room);
      near = near_behind order rest reached.near whole;
      carry = carry_more reached.packets reached.contents (first_packet order rest) took.content reached.carry
          (subst (λ (o : List ℕ). HasContent o took.content) same took.has);
      has = took.stands reached.contents reached.has;
      waits = ap (λ l. l ++ lines) reached.waits ∙ append_assoc out waiting lines ∙ ap (λ l. out ++ l) (sym (took.written reached.contents reached.has));
    }

-- one more piece
pub reached_refilled : (order : Order) (taken out rest given waiting : List ℕ) (inspection : Inspection) → IsCut order rest → length given ≤ piece_limit
    → Reached order taken out inspection rest waiting → Reached order (taken ++ given) out inspection (rest ++ given) waiting
reached_refilled order taken out rest given waiting inspection cut piece reached = record {
  packets = reached.packets;
  contents = reached.contents;
  header = stay.header order taken given reached.header;
  begins = subst (λ (o : List ℕ). Begins order reached.packets (rest ++ given) o) (sym (drop-append-le 24 taken given reached.header.whole))
      (stay.packets order reached.packets rest (drop 24 taken) given reached.begins);
  few = reached.few;
  near = near_refilled order rest given cut piece;
  carry = reached.carry;
  has = reached.has;
  waits = reached.waits;
}

-- what waited is written
pub reached_written : (order : Order) (taken out rest waiting now : List ℕ) (inspection : Inspection) → now ≡ []
    → Reached order taken out inspection rest waiting → Reached order taken (out ++ waiting) inspection rest now
reached_written order taken out rest waiting now inspection none reached = record {
  packets = reached.packets;
  contents = reached.contents;
  header = reached.header;
  begins = reached.begins;
  few = reached.few;
  near = reached.near;
  carry = reached.carry;
  has = reached.has;
  waits = reached.waits ∙ sym (append-nil (out ++ waiting)) ∙ ap (λ l. (out ++ waiting) ++ l) (sym none);
}

-- the same, with the octets that are taken and passed
pub reached_passed : (order : Order) (taken out rest behind octets waiting now : List ℕ) (size : ℕ) (old new : Inspection) → IsWhole order rest
    → size ≡ captured order rest → octets ≡ slice_range rest 16 (16 + size) → behind ≡ drop (16 + size) rest
    → packets_taken old + 1 < 2 ^ 32 → Took octets old new waiting now
    → Reached order taken out old rest waiting → Reached order taken out new behind now
reached_passed order taken out rest behind octets waiting now size old new whole is same passed room took reached =
    subst (λ (r : List ℕ). Reached order taken out new r now) (ap (λ n. drop (16 + n) rest) (sym is) ∙ sym passed)
    (reached_more order taken out rest octets waiting now old new whole (same ∙ ap (λ n. slice_range rest 16 (16 + n)) is) room took reached)

-- ---- from the source to the sink

pub goes_first : (order : Order) (start rest waiting : List ℕ) (left held : Option (List ℕ)) (inspection : Inspection) → IsBehindHeader order start rest
    → HasTaken inspection [] → waiting ≡ [] → Goes order start left left held held inspection rest waiting
goes_first order start rest waiting left held inspection behind has none = record {
  given = [];
  out = [];
  taken = Consumes-nil left;
  wrote = Appends-nil held;
  reached = reached_first order start rest waiting inspection behind has none;
}

-- more packets
pub goes_on : (order : Order) (start rest behind waiting now : List ℕ) (left left_now held held_now : Option (List ℕ)) (old new : Inspection)
    → ((taken out : List ℕ) → Reached order taken out old rest waiting → Reached order taken out new behind now)
    → Goes order start left left_now held held_now old rest waiting → Goes order start left left_now held held_now new behind now
goes_on order start rest behind waiting now left left_now held held_now old new steps goes = record {
  given = goes.given;
  out = goes.out;
  taken = goes.taken;
  wrote = goes.wrote;
  reached = steps (start ++ goes.given) goes.out goes.reached;
}

-- what waited is written
pub goes_written : (order : Order) (start rest waiting text now : List ℕ) (left left_now held held_now held_then : Option (List ℕ)) (inspection : Inspection)
    → Goes order start left left_now held held_now inspection rest waiting → text ≡ waiting → Appends held_now held_then text → now ≡ []
    → Goes order start left left_now held held_then inspection rest now
goes_written order start rest waiting text now left left_now held held_now held_then inspection goes same written none = record {
  given = goes.given;
  out = goes.out ++ waiting;
  taken = goes.taken;
  wrote = Appends-trans held held_now held_then goes.out waiting goes.wrote (subst (λ (t : List ℕ). Appends held_now held_then t) same written);
  reached = reached_written order (start ++ goes.given) goes.out rest waiting now inspection none goes.reached;
}

-- one more piece
pub goes_refilled : (order : Order) (start rest more waiting : List ℕ) (left left_now further held held_now : Option (List ℕ)) (inspection : Inspection)
    → Goes order start left left_now held held_now inspection rest waiting → IsCut order rest → Refills left_now further rest more Piece
    → Goes order start left further held held_now inspection more waiting
goes_refilled order start rest more waiting left left_now further held held_now inspection goes cut (given, taken, is, some, piece) = record {
  given = goes.given ++ given;
  out = goes.out;
  taken = Consumes-trans left left_now further goes.given given goes.taken taken;
  wrote = goes.wrote;
  reached = subst (λ (r : List ℕ). Reached order (start ++ (goes.given ++ given)) goes.out inspection r waiting) (sym is)
      (subst (λ (t : List ℕ). Reached order t goes.out inspection (rest ++ given) waiting) (append_assoc start goes.given given)
      (reached_refilled order (start ++ goes.given) goes.out rest given waiting inspection cut piece goes.reached));
}

-- the end
pub goes_ended : (order : Order) (start rest same waiting : List ℕ) (left left_now further held held_now : Option (List ℕ)) (inspection : Inspection)
    → Goes order start left left_now held held_now inspection rest waiting → Refills left_now further rest same End
    → Goes order start left further held held_now inspection same waiting
goes_ended order start rest same waiting left left_now further held held_now inspection goes (nothing, end, is) = record {
  given = goes.given ++ [];
  out = goes.out;
  taken = Consumes-trans left left_now further goes.given [] goes.taken nothing;
  wrote = goes.wrote;
  reached = subst (λ (r : List ℕ). Reached order (start ++ (goes.given ++ [])) goes.out inspection r waiting) (sym is)
      (subst (λ (g : List ℕ). Reached order (start ++ g) goes.out inspection rest waiting) (sym (append-nil goes.given)) goes.reached);
}

-- the octets of a header, if no more came
pub filled : (before middle now : Option (List ℕ)) (held same : List ℕ) → Consumes before middle held → Consumes middle now [] → same ≡ held → Consumes before now same
filled before middle now held same taken nothing is =
    subst (λ (h : List ℕ). Consumes before now h) (append-nil held ∙ sym is) (Consumes-trans before middle now held [] taken nothing)

-- the same, if some came for which there was no memory
pub filled_all : (before middle now : Option (List ℕ)) (held given : List ℕ) → Consumes before middle held → Consumes middle now given
    → (all : List ℕ) × Consumes before now all
filled_all before middle now held given taken more = (held ++ given, Consumes-trans before middle now held given taken more)
