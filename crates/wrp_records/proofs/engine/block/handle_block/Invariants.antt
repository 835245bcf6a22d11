use Rattle.std.proofs.Common.{◌≡◌, ◌-◌, ◌≤◌, ℕ, Bool, List, Option, Some, true, length, drop}
use Rattle.wrp_records.specs.Lines.{IsPlainText}
use Rattle.wrp_records.specs.Reached.{Reached}
use Rattle.wrp_records.specs.Stream.{Handles}
use Rattle.wrp_records.proofs.engine.block.handle_block.Given as goal

abbrev pub invariant-lines : goal.invariant-lines
invariant-lines g l =
    record {
      text : l.text_is_plain ≡ true → IsPlainText l.octets;
      at : l.at ≤ length l.octets;
      block : l.block ≡ Some (drop l.at l.octets);
      reached : (ended : Bool) (start : List ℕ) (left rest held now : Option (List ℕ))
          → Reached (Handles (g.M.Machine.accepts (g.M.Machine.setting l.fn.machine))) (g.M.Machine.has_taken l.fn.machine) start (record { rest = l.octets; ended = ended }) left rest held now l.fn.waiting.items l.fn.number
          → Reached (Handles (g.M.Machine.accepts (g.M.Machine.setting l.fn.machine))) (g.M.Machine.has_taken l.machine) start (record { rest = drop l.at l.octets; ended = ended }) left rest held now l.waiting.items l.number;
      setting : g.M.Machine.setting l.machine ≡ g.M.Machine.setting l.fn.machine;
      ready : g.M.Machine.is_ready l.machine;
      count : g.M.Machine.count l.machine ≤ l.number;
      more : l.fn.number ≤ l.number;
    }

abbrev pub decreases-lines : goal.decreases-lines
decreases-lines g l = length l.octets - l.at
