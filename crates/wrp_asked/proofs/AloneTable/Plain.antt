-- The command `plain`.
use Rattle.std.proofs.Common.{refl, sym, subst, inl, inr, ℕ, List, [], arith}
use Rattle.wrp_records.proofs.LinesAnswered.{IsTotal, lines_answered}
use Rattle.wrp_plain.proofs.LinesDecided.{decided}
use Rattle.wrp_plain.proofs.LinesExact.{exact}
use Rattle.wrp_plain.proofs.LinesTrue.{records_tell_truth_holds}
use Rattle.wrp_plain.proofs.OutputTrue.{output_tells_truth_holds}
use Rattle.wrp_plain.proofs.SaidOutput.{output_holds_until_tick_holds}
use Rattle.wrp_plain.proofs.Steering.{reports_hold_until_tick_holds}
use Rattle.wrp_plain.specs.LineCourse.{plain_meaning}
use Rattle.wrp_plain.specs.LineTruth.{AllAreWithin}
use Rattle.wrp_plain.specs.Said.{WritesBy, WritesFront}
use Rattle.wrp_records.proofs.Unique.{one_records_answer}
use Rattle.wrp_records.specs.ByLines.{of_lines}
use Rattle.wrp_records.specs.Lines.{lines_of}
use Rattle.wrp_records.specs.declared.status.Status.{Status}
use Rattle.wrp_records.specs.declared.status.Status.TheVariants.{Done, BadTrace, Broken, TooLarge, ReadFault, OutOfMemory, BadCalib}
use Rattle.wrp_commands.specs.declared.alone.Alone.TheVariants.{Plain}
use Rattle.wrp_asked.specs.Alone.{MayAnswer}
use Rattle.wrp_asked.specs.AloneAims.{BoundsSo, TellsTruly}
use Rattle.wrp_asked.proofs.AloneCommand.{IsAloneCommand, Leaves, by_lines}

may : (input : List ℕ) (status : Status) (octets : List ℕ) → (of_lines plain_meaning).answers input [] status octets → MayAnswer Plain status
may input Done octets at = (0, omega arith, refl)
may input BadTrace octets at = (1, omega arith, refl)
may input Broken octets at = (2, omega arith, refl)
may input TooLarge octets at = (3, omega arith, refl)
may input BadCalib octets at = absurd at.1.broken
may input _ octets at = absurd at.1

-- whatever an input has, a plain servo reports the truth
tells_truly : (input : List ℕ) → TellsTruly input
tells_truly input first lines rest divided start events course =
    (records_tell_truth_holds first lines start events course, reports_hold_until_tick_holds first lines start events course)

-- an answer, as its lines read
answered : (input : List ℕ) (status : Status) (octets : List ℕ) → (of_lines plain_meaning).answers input [] status octets →
    AllAreWithin octets × WritesBy status input octets × TellsTruly input
answered input status octets due = (
  output_tells_truth_holds.0 input [] status octets due,
  output_holds_until_tick_holds.answers input [] status octets due,
  tells_truly input,
)

aim : (input : List ℕ) (status : Status) (octets : List ℕ) → Leaves (of_lines plain_meaning) input status octets → BoundsSo input status octets
aim input ReadFault octets at =
    let cut = at.cut refl in (
      output_tells_truth_holds.2 cut.0 octets cut.3,
      (cut.0, cut.1, cut.2, output_holds_until_tick_holds.cut cut.0 octets cut.3),
      tells_truly input,
    )
aim input OutOfMemory octets at = elim (at.first refl) [
  | inl none ↦
      (subst AllAreWithin (sym none) tt, subst (WritesFront input) (sym none) (output_holds_until_tick_holds.none input), tells_truly input)
  | inr own ↦ (
    output_tells_truth_holds.1 input own.0 octets own.1,
    output_holds_until_tick_holds.first input own.0 octets own.1,
    tells_truly input,
  )
]
aim input Done octets at = answered input Done octets (at.answer refl)
aim input BadTrace octets at = answered input BadTrace octets (at.answer refl)
aim input Broken octets at = answered input Broken octets (at.answer refl)
aim input TooLarge octets at = answered input TooLarge octets (at.answer refl)
aim input _ octets at = tells_truly input

total : IsTotal plain_meaning
total = record {
  starts = refl;
  decides = λ lines line text accepted. decided lines line text accepted;
  ends = λ lines text accepted. (Done, [], refl);
}

pub facts : IsAloneCommand Plain
facts = record {
  one = λ input calls s t o u p q. one_records_answer plain_meaning exact (lines_of input) s t o u p.1 q.1;
  uncalled = λ input calls status octets at. at.0;
  unlinked = λ input octets at. at;
  no_usage = λ input octets at. at.1;
  answered = λ input. by_lines plain_meaning input (lines_answered plain_meaning total (lines_of input));
  may = may;
  aim = aim;
}
