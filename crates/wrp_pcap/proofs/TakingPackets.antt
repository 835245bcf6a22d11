-- An inspection that represents its packets: its verdict on one more, and what it represents then.
use Rattle.std.proofs.Common.{◌≡◌, ◌+◌, ◌-◌, ◌<◌, ◌≤◌, ◌^◌, ℕ, Bool, true, false, min, if◌then◌else◌, List, [], ◌∷◌, ◌++◌, length, Option, sym, ap, ◌∙◌, subst, arith}
use Rattle.std.specs.List.{count_by}
use Rattle.std.proofs.lemmas.List.Sums.{count_by-le-length, sum_by-cons}
use Rattle.wrp_base.specs.declared.message.PtpMsg.{PtpMsg}
use Rattle.wrp_pcap.specs.declared.counts.Counts.{Counts}
use Rattle.wrp_pcap.specs.declared.inspection.Inspection.{Inspection}
use Rattle.wrp_pcap.specs.declared.pairs.Pairs.{Pairs}
use Rattle.wrp_pcap.specs.declared.verdict.Verdict8.{Verdict8}
use Rattle.wrp_pcap.specs.Certificate.{Captured, IsAbove}
use Rattle.wrp_pcap.specs.declared.content.Content.{Content}
use Rattle.wrp_pcap.specs.declared.content.Content.TheVariants.{Other, Message, Fault}
use Rattle.wrp_pcap.specs.Content.{messages_of, onto}
use Rattle.wrp_pcap.specs.InspectionAt.{AreCounts, HasTaken, KeepsContent}
use Rattle.wrp_pcap.specs.PacketLines.{told_of, lines_with, packet_lines, is_message, is_other, is_faulty, is_complete, complete_count}
use Rattle.wrp_pcap.specs.StandsFor.{StandsFor, told_at}
use Rattle.wrp_pcap.proofs.Standing.{told_is, stands_for_more}

-- the verdict on a message
pub told_message : (inspection : Inspection) (before : List Content) (number : ℕ) (content : Content) (message : PtpMsg) (told : Option Verdict8)
    → HasTaken inspection before → told ≡ told_at inspection.pairs number message.head.source message.body → content ≡ Message message
    → told ≡ told_of number (messages_of before) content
told_message inspection before number content message told taken is carried =
    is ∙ told_is inspection.pairs (messages_of before) message.head.source number message.body taken.stands
    ∙ ap (told_of number (messages_of before)) (sym carried)

-- ---- counts

more_if : (b : Bool) (count total with : ℕ) → count ≡ total → total < 2 ^ 32 - 1 → with ≡ (if b then min (count + 1) (2 ^ 32 - 1) else count)
    → with ≡ (if b then 1 else 0) + total
more_if true count total with is few more = omega (arith, is, few, more)
more_if false count total with is few more = omega (arith, is, more)

-- one more packet is counted
count_more : (test : Content → Bool) (before : List Content) (content : Content) (count with : ℕ) → count ≡ count_by test before
    → length before < 2 ^ 32 - 1 → with ≡ (if test content then min (count + 1) (2 ^ 32 - 1) else count) → with ≡ count_by test (content ∷ before)
count_more test before content count with is few more =
    more_if (test content) count (count_by test before) with is (let most = count_by-le-length test before in omega arith) more
    ∙ sym (sum_by-cons (λ c. if test c then 1 else 0) content before)

at_most_one : (b : Bool) → (if b then 1 else 0) ≤ 1
at_most_one true = omega arith
at_most_one false = omega arith

-- no more packets have the verdict `complete` than there are packets
complete_few : (contents : List Content) → complete_count contents ≤ length contents
complete_few [] = omega arith
complete_few (newest ∷ before) =
    let one = at_most_one (is_complete (told_of (length before + 1) (messages_of before) newest)) in
    let few = complete_few before in
    omega arith

-- counts with one more packet
pub counted : (counts with : Counts) (before : List Content) (content : Content) (told : Option Verdict8)
    → counts.packets + 1 < 2 ^ 32 → AreCounts counts before → told ≡ told_of (length before + 1) (messages_of before) content
    → with.packets ≡ counts.packets + 1
    → with.messages ≡ (if is_message content then min (counts.messages + 1) (2 ^ 32 - 1) else counts.messages)
    → with.others ≡ (if is_other content then min (counts.others + 1) (2 ^ 32 - 1) else counts.others)
    → with.faults ≡ (if is_faulty content then min (counts.faults + 1) (2 ^ 32 - 1) else counts.faults)
    → with.complete ≡ (if is_complete told then min (counts.complete + 1) (2 ^ 32 - 1) else counts.complete)
    → AreCounts with (content ∷ before)
counted counts with before content told room are due packets messages others faults complete =
    let length_is = are.packets in
    let few : length before < 2 ^ 32 - 1 = omega arith in
    record {
      packets = omega (arith, packets, length_is);
      messages = count_more is_message before content counts.messages with.messages are.messages few messages;
      others = count_more is_other before content counts.others with.others are.others few others;
      faults = count_more is_faulty before content counts.faults with.faults are.faults few faults;
      complete =
          more_if (is_complete (told_of (length before + 1) (messages_of before) content)) counts.complete (complete_count before) with.complete are.complete
          (let most = complete_few before in omega arith)
          (subst (λ (v : Option Verdict8). with.complete ≡ (if is_complete v then min (counts.complete + 1) (2 ^ 32 - 1) else counts.complete)) due complete);
    }

-- ---- messages

above_onto : (content : Content) (at number : ℕ) (captured : List Captured) → at < number → IsAbove number captured → IsAbove number (onto at content captured)
above_onto (Message message) at number captured below above = (below, above)
above_onto Other at number captured below above = above
above_onto (Fault fault) at number captured below above = above

-- the numbers of messages are the numbers of their packets
pub number_above : (before : List Content) (number : ℕ) → length before < number → IsAbove number (messages_of before)
number_above [] number below = tt
number_above (newest ∷ before) number below =
    above_onto newest (length before + 1) number (messages_of before) (omega (arith, below)) (number_above before number (omega (arith, below)))

-- one more packet is kept
kept_more : (old new : Pairs) (before : List Content) (content : Content) → KeepsContent (length before + 1) content old new
    → StandsFor old (messages_of before) → StandsFor new (messages_of (content ∷ before))
kept_more old new before (Message message) keeps stands =
    stands_for_more old new (messages_of before) (record { number = length before + 1; message = message }) keeps stands
    (number_above before (length before + 1) (omega arith))
kept_more old new before Other keeps stands = subst (λ (p : Pairs). StandsFor p (messages_of before)) (sym keeps) stands
kept_more old new before (Fault fault) keeps stands = subst (λ (p : Pairs). StandsFor p (messages_of before)) (sym keeps) stands

pub taken_more : (old : Inspection) (pairs : Pairs) (counts : Counts) (number : ℕ) (before : List Content) (content : Content)
    → number ≡ old.counts.packets + 1 → HasTaken old before → KeepsContent number content old.pairs pairs → AreCounts counts (content ∷ before)
    → StandsFor pairs (messages_of (content ∷ before)) × AreCounts counts (content ∷ before)
taken_more old pairs counts number before content number_is taken keeps are =
    let same : number ≡ length before + 1 = number_is ∙ ap (λ n. n + 1) taken.counts.packets in
    (kept_more old.pairs pairs before content (subst (λ n. KeepsContent n content old.pairs pairs) same keeps) taken.stands, are)

-- the verdict on the next packet
pub told_next : (counts : Counts) (before : List Content) (content : Content) (told : Option Verdict8) → AreCounts counts before
    → told ≡ told_of (counts.packets + 1) (messages_of before) content → told ≡ told_of (length before + 1) (messages_of before) content
told_next counts before content told are is = is ∙ ap (λ n. told_of (n + 1) (messages_of before) content) are.packets

-- the lines of the next packet after a text
pub written_next : (counts : Counts) (before : List Content) (content : Content) (told : Option Verdict8) (none lines was now : List ℕ)
    → AreCounts counts before → told ≡ told_of (counts.packets + 1) (messages_of before) content
    → none ≡ [] → lines ≡ none ++ lines_with (counts.packets + 1) content told → now ≡ was ++ lines
    → now ≡ was ++ packet_lines (length before + 1) (messages_of before) content
written_next counts before content told none lines was now are due nothing lines_are written =
    written ∙ ap (λ l. was ++ l)
    (lines_are ∙ ap (λ l. l ++ lines_with (counts.packets + 1) content told) nothing
    ∙ ap (λ n. lines_with (n + 1) content told) are.packets
    ∙ ap (lines_with (length before + 1) content) (told_next counts before content told are due))
