-- What a packet carries is what its one frame is.
use Rattle.std.proofs.Common.{◌≡◌, ◌↔◌, List, ℕ, Option, Some, None, Result, Ok, Err, sym, ap, ◌∙◌, subst}
use Rattle.wrp_base.specs.declared.message.PtpMsg.{PtpMsg}
use Rattle.wrp_frame.specs.declared.fault.FrameFault.{FrameFault}
use Rattle.wrp_frame.specs.Faults.{IsFirstFault}
use Rattle.wrp_frame.specs.Grammar.{Spells}
use Rattle.wrp_pcap.specs.Ethernet.{Carries, CarriesMessage, CarriesFault, CarriesNone}

-- a packet carries one frame
one_frame : (packet one other : List ℕ) → Carries packet one → Carries packet other → one ≡ other
one_frame packet one other a b = a.behind ∙ sym b.behind

same_read : (one other : Result PtpMsg FrameFault) → Some one ≡ Some other → one ≡ other
same_read one other is = cc

pub carried_message : (packet frame : List ℕ) (read : Result PtpMsg FrameFault) → Carries packet frame
    → ((message : PtpMsg) → (read ≡ Ok message) ↔ Spells frame message)
    → (message : PtpMsg) → (Some read ≡ Some (Ok message)) ↔ CarriesMessage packet message
carried_message packet frame read carries exact message = (
  λ is. record { frame = frame; carries = carries; spells = (exact message).0 (same_read read (Ok message) is) },
  λ has. ap Some ((exact message).1 (subst (λ f. Spells f message) (one_frame packet has.frame frame has.carries carries) has.spells)),
)

pub carried_fault : (packet frame : List ℕ) (read : Result PtpMsg FrameFault) → Carries packet frame
    → ((fault : FrameFault) → (read ≡ Err fault) ↔ IsFirstFault fault frame)
    → (fault : FrameFault) → (Some read ≡ Some (Err fault)) ↔ CarriesFault packet fault
carried_fault packet frame read carries exact fault = (
  λ is. record { frame = frame; carries = carries; first = (exact fault).0 (same_read read (Err fault) is) },
  λ has. ap Some ((exact fault).1 (subst (λ f. IsFirstFault fault f) (one_frame packet has.frame frame has.carries carries) has.first)),
)

-- no frame is carried if none is answered
pub none_carried : (packet : List ℕ) → ((frame : List ℕ) → (None ≡ Some frame) ↔ Carries packet frame) → CarriesNone packet
none_carried packet none frame carries = let is = (none frame).1 carries in cc

pub no_message : (packet : List ℕ) → CarriesNone packet → (message : PtpMsg) → ◌≡◌ {A = Option (Result PtpMsg FrameFault)} None (Some (Ok message)) ↔ CarriesMessage packet message
no_message packet none message = (λ is. absurd (cc), λ has. absurd (none has.frame has.carries))

pub no_fault : (packet : List ℕ) → CarriesNone packet → (fault : FrameFault) → ◌≡◌ {A = Option (Result PtpMsg FrameFault)} None (Some (Err fault)) ↔ CarriesFault packet fault
no_fault packet none fault = (λ is. absurd (cc), λ has. absurd (none has.frame has.carries))
