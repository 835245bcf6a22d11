-- Whether octets say a message of a port.
use Rattle.std.proofs.Common.{◌≡◌, ◌↔◌, ◌∙◌, ap, sym, ℕ, Bool, true, false, List, Result, Ok, Err}
use Rattle.wrp_base.specs.declared.message.PortIdentity.{PortIdentity}
use Rattle.wrp_base.specs.declared.message.PtpMsg.{PtpMsg}
use Rattle.wrp_base.specs.Message.{is_port}
use Rattle.wrp_frame.specs.declared.fault.FrameFault.{FrameFault}
use Rattle.wrp_frame.specs.Grammar.{Spells}
use Rattle.wrp_loop.specs.Datagrams.{IsBy}

same_message : (a b : PtpMsg) (r : Result PtpMsg FrameFault) → r ≡ Ok a → r ≡ Ok b → a ≡ b
same_message a b (Ok m) e f = cc
same_message a b (Err fault) e f = cc

not_both : (a : PtpMsg) (fault : FrameFault) (r : Result PtpMsg FrameFault) → r ≡ Err fault → r ≡ Ok a → ⊥
not_both a fault (Ok m) e f = cc
not_both a fault (Err other) e f = cc

not_true : false ≡ true → ⊥
not_true e = cc

-- what is read says whose message it is
pub by_message : (port : PortIdentity) (octets : List ℕ) (read : Result PtpMsg FrameFault) (message : PtpMsg) (b : Bool) → read ≡ Ok message → ((m : PtpMsg) → (read ≡ Ok m) ↔ Spells octets m) →
    b ≡ is_port message.head.source port → (b ≡ true) ↔ IsBy port octets
by_message port octets read message b is spelled same = (
  λ e. (message, (spelled message).0 is, sym same ∙ e),
  λ h. same ∙ (ap (λ (m : PtpMsg). is_port m.head.source port) (same_message message h.0 read is ((spelled h.0).1 h.1)) ∙ h.2),
)

-- nothing is read
pub by_none : (port : PortIdentity) (octets : List ℕ) (read : Result PtpMsg FrameFault) (fault : FrameFault) → read ≡ Err fault → ((m : PtpMsg) → (read ≡ Ok m) ↔ Spells octets m) → (false ≡ true) ↔ IsBy port octets
by_none port octets read fault is spelled = (λ e. absurd (not_true e), λ h. absurd (not_both h.0 fault read is ((spelled h.0).1 h.1)))
