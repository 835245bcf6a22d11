-- The command `inspect`.
use Rattle.std.proofs.Common.{inl, inr, refl, ℕ, List, [], arith}
use Rattle.wrp_pcap.proofs.EachInspected.{each_is_inspected}
use Rattle.wrp_pcap.proofs.InspectAim.{judges}
use Rattle.wrp_pcap.proofs.OneInspection.{one_answer}
use Rattle.wrp_pcap.specs.InspectAim.{InspectLeaves, InspectPart, InspectsSo}
use Rattle.wrp_pcap.specs.Inspected.{InspectFirst, capture}
use Rattle.wrp_records.specs.declared.status.Status.{Status}
use Rattle.wrp_records.specs.declared.status.Status.TheVariants.{Done, Usage, BadNetwork, BadTrace, Broken, ReadFault, WriteFault, LinkFault, TooLarge, OutOfMemory, BadCapture, BadCalib}
use Rattle.wrp_commands.specs.declared.alone.Alone.TheVariants.{Inspect}
use Rattle.wrp_asked.specs.Alone.{MayAnswer}
use Rattle.wrp_asked.proofs.AloneCommand.{IsAloneCommand, IsFirstOf, IsPartOf, Leaves}

may : (input : List ℕ) (status : Status) (octets : List ℕ) → capture.answers input [] status octets → MayAnswer Inspect status
may input Done octets at = (0, omega arith, refl)
may input BadCapture octets at = (1, omega arith, refl)
may input TooLarge octets at = (2, omega arith, refl)
may input _ octets at = absurd at.1

first_lines : (input octets : List ℕ) → IsFirstOf capture input octets → InspectFirst input octets
first_lines input octets (inl none) = inl none
first_lines input octets (inr (calls, first)) = first.1

part_of : (input octets : List ℕ) → IsPartOf capture input octets → InspectPart input octets
part_of input octets (whole, count, is, inl (status, due)) = (whole, count, is, inl (status, due.1))
part_of input octets (whole, count, is, inr first) = (whole, count, is, inr (first_lines input whole first))

leaves : (input : List ℕ) (status : Status) (octets : List ℕ) → Leaves capture input status octets → InspectLeaves input status octets
leaves input ReadFault octets at = at.cut refl
leaves input OutOfMemory octets at = first_lines input octets (at.first refl)
leaves input WriteFault octets at = part_of input octets (at.part refl)
leaves input LinkFault octets at = absurd (at.linked refl)
leaves input Done octets at = (at.answer refl).1
leaves input Usage octets at = (at.answer refl).1
leaves input BadNetwork octets at = (at.answer refl).1
leaves input BadTrace octets at = (at.answer refl).1
leaves input Broken octets at = (at.answer refl).1
leaves input TooLarge octets at = (at.answer refl).1
leaves input BadCapture octets at = (at.answer refl).1
leaves input BadCalib octets at = (at.answer refl).1

aim : (input : List ℕ) (status : Status) (octets : List ℕ) → Leaves capture input status octets → InspectsSo input status octets
aim input status octets at = (leaves input status octets at, judges input)

pub facts : IsAloneCommand Inspect
facts = record {
  one = one_answer;
  uncalled = λ input calls status octets at. at.0;
  unlinked = λ input octets at. at;
  no_usage = λ input octets at. at.1;
  answered = each_is_inspected;
  may = may;
  aim = aim;
}
