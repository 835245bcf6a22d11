-- The line of an input is one word, so no line that an emission prints of events says an output.
use Rattle.std.proofs.Common.{◌≡◌, subst, append-nil, ℕ, ◌==◌, not, false, List, [], ◌∷◌, ◌++◌}
use Rattle.std.specs.List.{AllByRecursion, list_all}
use Rattle.std.proofs.lemmas.Bool.{and_parts, not-true, true≢false}
use Rattle.wrp_network_text.specs.SameAnswer.{ReadingIsAccepted}
use Rattle.wrp_records.specs.Lines.{lines_of}
use Rattle.wrp_records.specs.Words.{line_of, IsWord, is_word_octet}
use Rattle.wrp_audit.specs.AuditText.{given_lines}
use Rattle.wrp_asked.specs.Input.{network_text}
use Rattle.wrp_asked.proofs.InputLines.{pass_events}
use Rattle.wrp_answer_laws.proofs.AcceptedLines.{of_text}
use Rattle.wrp_answer_laws.specs.NoOutput.{EmissionTellsNoOutput, TellsNoOutput}

no_space : (c : ℕ) (cs : List ℕ) → IsWord (c ∷ cs) → c ≡ 32 → ⊥
no_space c cs h same =
    let both = and_parts (is_word_octet c) (list_all is_word_octet cs) h in
    let other : (c == 32) ≡ false = not-true (c == 32) (and_parts (not (c == 32)) (not (c == 10)) both.0).0 in
    true≢false (subst (λ (d : ℕ). (d == 32) ≡ false) same other)

no_gap : (w node more : List ℕ) → IsWord w → w ++ 10 ∷ [] ≡ node ++ 32 ∷ more → ⊥
no_gap [] [] more h e = cc
no_gap [] (d ∷ []) more h e = cc
no_gap [] (d ∷ x ∷ ds) more h e = cc
no_gap (c ∷ cs) [] more h e = no_space c cs h cc
no_gap (c ∷ cs) (d ∷ ds) more h e = no_gap cs ds more (and_parts (is_word_octet c) (list_all is_word_octet cs) h).1 cc

tells_none : (w : List ℕ) → IsWord w → TellsNoOutput (w ++ 10 ∷ [])
tells_none w h node tick kind more e = no_gap w node (line_of (tick ∷ kind ∷ more)) h e

pub tells_no_output : ReadingIsAccepted → EmissionTellsNoOutput
tells_no_output accepted asked input status octets inputs =
    let net = of_text accepted (network_text input) inputs.setting inputs.asks.2.0 in
    subst (λ (l : List ℕ). AllByRecursion TellsNoOutput (lines_of l)) (append-nil (given_lines inputs.setting inputs.node inputs.events))
    (pass_events TellsNoOutput tells_none inputs.setting inputs.node inputs.events net.accepted.database [] tt)
