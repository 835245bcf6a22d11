-- The command `l1sync`.
use Rattle.std.proofs.Common.{refl, sym, subst, inl, inr, ℕ, List, [], arith}
use Rattle.wrp_records.proofs.LinesAnswered.{IsTotal, lines_answered}
use Rattle.wrp_l1sync.proofs.LineDecided.{decided}
use Rattle.wrp_l1sync.proofs.LineAnswerLaws.{answers_show_the_pair, what_stands_shows_the_pair}
use Rattle.wrp_l1sync.proofs.LineExact.{exact}
use Rattle.wrp_l1sync.specs.LineAnswers.{ShowsFront}
use Rattle.wrp_l1sync.specs.LineRecords.{meaning as synchronisation}
use Rattle.wrp_records.proofs.Unique.{one_records_answer}
use Rattle.wrp_records.specs.ByLines.{of_lines}
use Rattle.wrp_records.specs.Lines.{lines_of}
use Rattle.wrp_records.specs.declared.status.Status.{Status}
use Rattle.wrp_records.specs.declared.status.Status.TheVariants.{Done, BadTrace, Broken, TooLarge, ReadFault, OutOfMemory, BadCalib}
use Rattle.wrp_commands.specs.declared.alone.Alone.TheVariants.{L1Sync}
use Rattle.wrp_asked.specs.Alone.{MayAnswer}
use Rattle.wrp_asked.specs.AloneAims.{SynchronisesSo}
use Rattle.wrp_asked.proofs.AloneCommand.{IsAloneCommand, Leaves, by_lines}

may : (input : List ℕ) (status : Status) (octets : List ℕ) → (of_lines synchronisation).answers input [] status octets → MayAnswer L1Sync status
may input Done octets at = (0, omega arith, refl)
may input BadTrace octets at = (1, omega arith, refl)
may input Broken octets at = (2, omega arith, refl)
may input TooLarge octets at = (3, omega arith, refl)
may input BadCalib octets at = absurd at.1.broken
may input _ octets at = absurd at.1

-- a pair of ends is shown
aim : (input : List ℕ) (status : Status) (octets : List ℕ) → Leaves (of_lines synchronisation) input status octets → SynchronisesSo input status octets
aim input Done octets at = answers_show_the_pair input Done octets (at.answer refl)
aim input BadTrace octets at = answers_show_the_pair input BadTrace octets (at.answer refl)
aim input Broken octets at = answers_show_the_pair input Broken octets (at.answer refl)
aim input TooLarge octets at = answers_show_the_pair input TooLarge octets (at.answer refl)
aim input ReadFault octets at = let cut = at.cut refl in (cut.0, cut.1, cut.2, what_stands_shows_the_pair.cut cut.0 octets cut.3)
aim input OutOfMemory octets at = elim (at.first refl) [
  | inl none ↦ subst (ShowsFront input) (sym none) (what_stands_shows_the_pair.none input)
  | inr own ↦ what_stands_shows_the_pair.first input own.0 octets own.1
]
aim input _ octets at = tt

total : IsTotal synchronisation
total = record {
  starts = refl;
  decides = λ lines line text accepted. decided lines text line accepted;
  ends = λ lines text accepted. (Done, [], refl);
}

pub facts : IsAloneCommand L1Sync
facts = record {
  one = λ input calls s t o u p q. one_records_answer synchronisation exact (lines_of input) s t o u p.1 q.1;
  uncalled = λ input calls status octets at. at.0;
  unlinked = λ input octets at. at;
  no_usage = λ input octets at. at.1;
  answered = λ input. by_lines synchronisation input (lines_answered synchronisation total (lines_of input));
  may = may;
  aim = aim;
}
