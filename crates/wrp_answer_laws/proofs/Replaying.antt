-- An answer is expected for the lines of each replay.
use Rattle.std.proofs.Common.{◌≡◌, ◌⊎◌, inl, inr, refl, ℕ, ◌+◌, List, [], ◌∷◌, length, Result, Ok, Err}
use Rattle.wrp_base.specs.declared.fault.TraceFault.{TraceFault}
use Rattle.wrp_base.specs.declared.message.PtpMsg.{PtpMsg}
use Rattle.wrp_frame.specs.declared.fault.FrameFault.{FrameFault}
use Rattle.wrp_frame.specs.declared.fault.FrameFault.TheVariants.{Short}
use Rattle.wrp_node.specs.declared.interface.Input.{Input}
use Rattle.wrp_node.specs.declared.interface.Input.TheVariants.{Tick, Sample, Frame, Sent, Carrier, Reset}
use Rattle.wrp_node.specs.declared.interface.Output.{Output}
use Rattle.wrp_node.specs.NodeAt.{NodeSetting, Taken}
use Rattle.wrp_node.specs.NodeRun.{IsSaid, NodeRun, node_after, outputs_at}
use Rattle.wrp_node.specs.OneRun.{IsRun, answers_by}
use Rattle.wrp_records.specs.declared.machine.Refusal.TheVariants as refusals
use Rattle.wrp_records.specs.declared.status.Status.TheVariants.{Done}
use Rattle.wrp_records.specs.Refusals.{bad_trace_line}
use Rattle.wrp_trace.specs.Inputs.{read_of}
use Rattle.wrp_trace.specs.LineSetting.{LineSetting}
use Rattle.wrp_replay.specs.DownLaw.{law_at, node_setting_at}
use Rattle.wrp_replay.specs.NodeText.{Writes, node_counts, output_lines}
use Rattle.wrp_replay.specs.Replays.{Accepts, meaning_of}
use Rattle.wrp_replay.proofs.OneReplay.{one_more}
use Rattle.wrp_records.proofs.LinesAnswered.{Ends, GoesOn, IsTotal, Refused, lines_answered}
use Rattle.wrp_due_laws.proofs.Measuring.{step_answered}
use Rattle.wrp_frame.proofs.Saying.{each_says}
use Rattle.wrp_answer_laws.specs.EachAnswer.{EachReplayHasAnswer}

-- what an input says, if it is a frame
input_said : (input : Input) → (says : Result PtpMsg FrameFault) × IsSaid input says
input_said (Frame p octets raw sample) = each_says octets.items
input_said Tick = (Err Short, tt)
input_said (Sample n base bits) = (Err Short, tt)
input_said (Sent p seq delay stamp) = (Err Short, tt)
input_said (Carrier p up own_module) = (Err Short, tt)
input_said Reset = (Err Short, tt)

-- what a run wrote belongs to a run
written_run : (site : LineSetting) (inputs : List Taken) (text : List ℕ) → Writes site inputs text → IsRun (law_at site) (node_setting_at site) inputs
written_run site [] text wrote = record { said = tt; answered = tt }
written_run site (t ∷ before) text wrote = record { said = wrote.3.said; answered = wrote.3.answered }

-- one more input
goes_on : (site : LineSetting) (lines : List (List ℕ)) (line text : List ℕ) (input : Input) → Accepts site lines text → read_of site line ≡ Ok input
    → GoesOn (meaning_of site) lines line text
goes_on site lines line text input accepted reads =
    let fixed : NodeSetting = node_setting_at site in
    let before : List Taken = accepted.0 in
    let run : IsRun (law_at site) fixed before = written_run site before text accepted.2 in
    let said = input_said input in
    let due = step_answered (law_at site) fixed input said.0 (node_after fixed before) run.answered in
    let t : Taken = record { input = input; says = said.0; answer = due.0 } in
    let outs : List Output = outputs_at fixed before t in
    let taken : NodeRun (answers_by (law_at site)) fixed before t outs = record { said = (said.1, run.said); answered = due.1; outputs = refl } in (
      output_lines site (node_after fixed (t ∷ before)).ticks outs,
      (t ∷ before, one_more site lines before line t accepted.1 reads, (text, outs, accepted.2, taken, refl)),
    )

decided : (site : LineSetting) (lines : List (List ℕ)) (line text : List ℕ) (read : Result Input TraceFault) → Accepts site lines text
    → read_of site line ≡ read
    → GoesOn (meaning_of site) lines line text ⊎ Refused (meaning_of site) lines line
decided site lines line text (Ok input) accepted reads = inl (goes_on site lines line text input accepted reads)
decided site lines line text (Err fault) accepted reads = inr (refusals.BadTrace, bad_trace_line (length lines + 1) fault, (fault, reads, refl))

ended : (site : LineSetting) (lines : List (List ℕ)) (text : List ℕ) → Accepts site lines text → Ends (meaning_of site) lines
ended site lines text accepted = (
  Done,
  node_counts site (node_after (node_setting_at site) accepted.0),
  (accepted.0, accepted.1, written_run site accepted.0 text accepted.2, refl),
)

pub replay_total : (site : LineSetting) → IsTotal (meaning_of site)
replay_total site = record {
  starts = ([], refl, refl);
  decides = λ lines line text accepted. decided site lines line text (read_of site line) accepted refl;
  ends = λ lines text accepted. ended site lines text accepted;
}

pub each_replay_has_answer : EachReplayHasAnswer
each_replay_has_answer site lines = lines_answered (meaning_of site) (replay_total site) lines
