-- A frame that is dropped whatever its kind leaves a count, and nothing else.
use Rattle.std.proofs.Common.{◌≡◌, ◌∙◌, refl, ap, ap₂, sym, ℕ, ℤ, List, [], ◌∷◌, ◌++◌, flat_map, Option, None, Some, Result, Ok, Err, arith}
use Rattle.std.specs.Option.{option_map}
use Rattle.std.proofs.lemmas.Option.{same_Some}
use Rattle.wrp_base.specs.declared.link.LinkWord.{LinkWord}
use Rattle.wrp_base.specs.declared.link.ServoState.{ServoState}
use Rattle.wrp_base.specs.declared.message.PtpMsg.{PtpMsg}
use Rattle.wrp_base.specs.declared.time.Raw.{Raw}
use Rattle.wrp_base.proofs.Naturals.{eq_self}
use Rattle.wrp_data.specs.declared.reason.Reason.{Reason}
use Rattle.wrp_data.specs.Reason.{number_of}
use Rattle.wrp_frame.specs.declared.fault.FrameFault.{FrameFault}
use Rattle.wrp_frame.specs.Faults.{fault_number}
use Rattle.wrp_link.specs.Table.{word_of}
use Rattle.wrp_node.specs.declared.interface.Input.{Input}
use Rattle.wrp_node.specs.declared.interface.Input.TheVariants.{Frame}
use Rattle.wrp_node.specs.declared.interface.Output.{Output}
use Rattle.wrp_node.specs.Laws.{IsSettled, reason_of, DroppedLeavesACount}
use Rattle.wrp_node.specs.NodeAt.{NodeSetting, NodeAt, numbers_of, slave_of, state_of, setting_of, link_at}
use Rattle.wrp_node.specs.NodeRun.{rank_of, servo_out, word_out, port_out, outputs_of}
use Rattle.wrp_node.specs.NodeStep.{dropped, heard, heard_unless, message_of, stepped, node_step}
use Rattle.wrp_node.specs.Telling.{Step, tell, settled, with_lease, link_change}
use Rattle.wrp_node.proofs.Telling.{told_none, counted_none}
use Rattle.wrp_port.specs.declared.interface.PortIn.{PortIn}
use Rattle.wrp_port.specs.Hearing.{early_reason}
use Rattle.wrp_port.specs.Outputs.{rank_of as rank_of_word}
use Rattle.wrp_servo.specs.Call.{Call}

tell_nothing : (fixed : NodeSetting) (s : Step) → tell fixed None s ≡ s
tell_nothing fixed s = λ i. record {
  node = record {
    ticks = s.node.ticks;
    told = λ q. sym (told_none (slave_of fixed.set) 0 s.node.told q) i;
    calls = s.node.calls;
    counters = λ q. sym (counted_none (slave_of fixed.set) s.node.counters q) i;
  };
  cycles = s.cycles;
  dac = s.dac;
  sends = s.sends;
}

settled_same : (fixed : NodeSetting) (s : Step) → IsSettled fixed s.node → settled fixed s ≡ s
settled_same fixed s h =
    let lease : with_lease fixed s ≡ s = ap (λ (c : Option Call). tell fixed c s) h.lease ∙ tell_nothing fixed s in
    ap (λ (x : Step). tell fixed (link_change fixed x.node) x) lease ∙ ap (λ (c : Option Call). tell fixed c s) h.link ∙ tell_nothing fixed s

unless_dropped : (fixed : NodeSetting) (p : ℕ) (input : PortIn) (y : ℤ) (n : NodeAt) (o : Option Reason) (reason : ℕ) → option_map number_of o ≡ Some reason → heard_unless o fixed p input y n ≡ dropped p reason n
unless_dropped fixed p input y n None reason e = absurd (grind arith)
unless_dropped fixed p input y n (Some r) reason e = ap (λ (k : ℕ). dropped p k n) (same_Some (number_of r) reason e)

heard_dropped : (fixed : NodeSetting) (p : ℕ) (says : Result PtpMsg FrameFault) (raw : Raw) (sample : ℕ) (y : ℤ) (n : NodeAt) (reason : ℕ) → reason_of fixed n p says ≡ Some reason →
    heard fixed p says raw sample y n ≡ dropped p reason n
heard_dropped fixed p (Err fault) raw sample y n reason e = ap (λ (k : ℕ). dropped p k n) (same_Some (fault_number fault) reason e)
heard_dropped fixed p (Ok m) raw sample y n reason e =
    unless_dropped fixed p (message_of fixed n p m raw sample) y n (early_reason (setting_of fixed.set p) (link_at fixed.set n p) m) reason e

no_servo_out : (s : ServoState) → servo_out s s ≡ []
no_servo_out s = rw (eq_self (rank_of s)) refl

no_word_out : (q : ℕ) (w : LinkWord) → word_out q w w ≡ []
no_word_out q w = rw (eq_self (rank_of_word w)) refl

no_port_out : (fixed : NodeSetting) (n : NodeAt) (p reason : ℕ) (numbers : List ℕ) → flat_map (port_out fixed n (dropped p reason n)) numbers ≡ []
no_port_out fixed n p reason [] = refl
no_port_out fixed n p reason (q ∷ qs) =
    ap₂ (λ (a b : List Output). (a ++ []) ++ b) (no_word_out q (word_of (link_at fixed.set n q))) (no_port_out fixed n p reason qs)

silent : (fixed : NodeSetting) (p reason : ℕ) (octets : List ℕ) (raw : Raw) (sample : ℕ) (n : NodeAt) → outputs_of fixed (Frame p (record { items = octets }) raw sample) n (dropped p reason n) ≡ []
silent fixed p reason octets raw sample n =
    ap₂ (λ (a b : List Output). (a ++ b) ++ []) (no_servo_out (state_of fixed n)) (no_port_out fixed n p reason (numbers_of fixed.set))

pub drop_law : DroppedLeavesACount
drop_law fixed t n p octets raw sample reason is h e =
    let step : node_step fixed t n ≡ dropped p reason n =
    ap (λ (x : Input). settled fixed (stepped fixed x t.says t.answer n)) is
    ∙ ap (settled fixed) (heard_dropped fixed p t.says raw sample t.answer n reason e)
    ∙ settled_same fixed (dropped p reason n) (record { lease = h.lease; link = h.link }) in
    record {
      node = step;
      silent = ap₂ (λ (x : Input) (s : Step). outputs_of fixed x n s) is step ∙ silent fixed p reason octets raw sample n;
    }
