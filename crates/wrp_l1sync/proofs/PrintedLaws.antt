-- The message by which an end is up is printed in a line, after what the events before it write.
use Rattle.std.proofs.Common.{◌≡◌, ◌∙◌, ap, ap₂, sym, subst, append_assoc, ℕ, ◌+◌, List, [], ◌∷◌, ◌++◌, length, length-append, Option, None, Some}
use Rattle.std.specs.Option.{option_map}
use Rattle.std.proofs.lemmas.Option.{same_Some}
use Rattle.wrp_l1sync.specs.declared.event.L1Event.{L1Event}
use Rattle.wrp_l1sync.specs.declared.event.L1Event.TheVariants.{Tick}
use Rattle.wrp_l1sync.specs.declared.event.Limits.{Limits}
use Rattle.wrp_l1sync.specs.declared.event.Sent.{Sent}
use Rattle.wrp_l1sync.specs.declared.event.Side.{Side}
use Rattle.wrp_l1sync.specs.declared.interface.L1In.TheVariants as given
use Rattle.wrp_l1sync.specs.declared.interface.L1Out.{L1Out}
use Rattle.wrp_l1sync.specs.declared.message.L1Msg.{L1Msg}
use Rattle.wrp_l1sync.specs.Agreement.{IsUpBy, inputs_to}
use Rattle.wrp_l1sync.specs.Inputs.{send_of, ticks_of}
use Rattle.wrp_l1sync.specs.LineText.{event_text, out_text, send_line, send_text, state_text, text_of}
use Rattle.wrp_l1sync.specs.LineTheorem.{ShowsUp}
use Rattle.wrp_l1sync.specs.Pair.{History, answer_of, history, new_sent, sent_by, side_of, with_sent}
use Rattle.wrp_l1sync.proofs.LineExact.{text_front}

-- the line of an answer that sends a message
sent_text : (side : Side) (tick number k : ℕ) (out : L1Out) (message : L1Msg) → out.send ≡ Some message → number ≡ k →
    out_text side tick number out ≡ send_line side tick k message ++ state_text side tick out.moved
sent_text side tick number k out message e n =
    ap₂ (λ (o : Option L1Msg) (m : ℕ). send_text side tick m o ++ state_text side tick out.moved) e n

says : (side : Side) (now : ℕ) (o : Option L1Msg) (message : Sent) → option_map (sent_by side now) o ≡ Some message → o ≡ Some message.msg
says side now None message e = absurd cc
says side now (Some own) message e = ap (λ (s : Sent). Some s.msg) (same_Some (sent_by side now own) message e)

longer : (sent : List Sent) (o : Option Sent) (message : Sent) (k : ℕ) → o ≡ Some message → k ≡ length sent + 1 → length (with_sent sent o) ≡ k
longer sent None message k e n = absurd cc
longer sent (Some one) message k e n = length-append sent (one ∷ []) ∙ sym n

order : (text line state more : List ℕ) → (text ++ (line ++ state)) ++ more ≡ text ++ (line ++ (state ++ more))
order text line state more = append_assoc text (line ++ state) more ∙ ap (λ (l : List ℕ). text ++ l) (append_assoc line state more)

-- a text of these events has the line of the message
pub shows_up : (limits : Limits) (events : List L1Event) (text : List ℕ) (side : Side) → text ≡ text_of limits events → IsUpBy limits events side →
    ShowsUp limits events text side
shows_up limits events text side wrote by =
    let older : List L1Event = by.sent.older in
    let number : ℕ = by.sent.number in
    let h : History = history limits.interval older in
    let out : L1Out = answer_of limits h (Tick number) in
    let tick : ℕ = ticks_of (inputs_to limits.interval (Tick number ∷ older) (side_of number)) in
    let line : List ℕ = send_line (side_of number) tick by.k by.message.msg in
    let state : List ℕ = state_text (side_of number) tick out.moved in
    let front = text_front limits by.since (Tick number ∷ older) in
    let one : event_text limits older (Tick number) ≡ line ++ state =
    sent_text (side_of number) tick (length (history limits.interval (Tick number ∷ older)).sent) by.k out by.message.msg
    (says (side_of number) h.time (send_of limits.interval (inputs_to limits.interval older (side_of number)) given.Tick) by.message by.sent.is)
    (longer h.sent (new_sent limits.interval h (Tick number)) by.message by.k by.sent.is by.sent.numbered) in
    record {
      by = by;
      tick = tick;
      back = state ++ front.0;
      printed =
          subst (λ (s : Side). text ≡ text_of limits older ++ (send_line s tick by.k by.message.msg ++ (state ++ front.0))) by.sent.by
          (wrote ∙ ap (text_of limits) by.sent.all ∙ front.1
          ∙ ap (λ (l : List ℕ). (text_of limits older ++ l) ++ front.0) one
          ∙ order (text_of limits older) line state front.0);
    }
