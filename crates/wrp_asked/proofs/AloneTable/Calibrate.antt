-- The command `calibrate`.
use Rattle.std.proofs.Common.{refl, ℕ, List, [], arith}
use Rattle.wrp_calib.proofs.InputsAnswered.{each_input_has_answer}
use Rattle.wrp_calib.proofs.InputsTelling.{inputs_tell_truth}
use Rattle.wrp_calib.proofs.LinesExact.{exact}
use Rattle.wrp_calib.specs.LinesMeaning.{calibration}
use Rattle.wrp_records.proofs.Unique.{one_records_answer}
use Rattle.wrp_records.specs.ByLines.{of_lines}
use Rattle.wrp_records.specs.Lines.{lines_of}
use Rattle.wrp_records.specs.declared.status.Status.{Status}
use Rattle.wrp_records.specs.declared.status.Status.TheVariants.{Done, BadTrace, Broken, TooLarge, BadCalib}
use Rattle.wrp_commands.specs.declared.alone.Alone.TheVariants.{Calibrate}
use Rattle.wrp_asked.specs.Alone.{MayAnswer}
use Rattle.wrp_asked.specs.AloneAims.{CalibratesSo}
use Rattle.wrp_asked.proofs.AloneCommand.{IsAloneCommand, Leaves, by_lines}

may : (input : List ℕ) (status : Status) (octets : List ℕ) → (of_lines calibration).answers input [] status octets → MayAnswer Calibrate status
may input Done octets at = (0, omega arith, refl)
may input BadTrace octets at = (1, omega arith, refl)
may input BadCalib octets at = (2, omega arith, refl)
may input TooLarge octets at = (3, omega arith, refl)
may input Broken octets at = absurd at.1.refused
may input _ octets at = absurd at.1

-- a calibration reports the truth
aim : (input : List ℕ) (status : Status) (octets : List ℕ) → Leaves (of_lines calibration) input status octets → CalibratesSo input status octets
aim input Done octets at = λ true say. inputs_tell_truth input true say Done octets (at.answer refl).1
aim input BadCalib octets at = λ true say. inputs_tell_truth input true say BadCalib octets (at.answer refl).1
aim input BadTrace octets at = λ true say. inputs_tell_truth input true say BadTrace octets (at.answer refl).1
aim input Broken octets at = λ true say. inputs_tell_truth input true say Broken octets (at.answer refl).1
aim input _ octets at = λ true say. tt

pub facts : IsAloneCommand Calibrate
facts = record {
  one = λ input calls s t o u p q. one_records_answer calibration exact (lines_of input) s t o u p.1 q.1;
  uncalled = λ input calls status octets at. at.0;
  unlinked = λ input octets at. at;
  no_usage = λ input octets at. at.1;
  answered = λ input. by_lines calibration input (each_input_has_answer input);
  may = may;
  aim = aim;
}
