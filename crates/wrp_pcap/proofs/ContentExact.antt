-- What a packet carries is one thing.
use Rattle.std.proofs.Common.{◌≡◌, ℕ, List, [], ◌∷◌, Result, Ok, Err, refl, sym, ap, ap₂, ◌∙◌, subst}
use Rattle.wrp_base.specs.declared.message.PtpMsg.{PtpMsg}
use Rattle.wrp_frame.specs.declared.fault.FrameFault.{FrameFault}
use Rattle.wrp_frame.specs.Faults.{IsFirstFault}
use Rattle.wrp_frame.specs.Grammar.{Spells}
use Rattle.wrp_frame.proofs.Exact.{exactly_refused, spells_one}
use Rattle.wrp_pcap.specs.declared.content.Content.{Content}
use Rattle.wrp_pcap.specs.declared.content.Content.TheVariants.{Other, Message, Fault}
use Rattle.wrp_pcap.specs.Content.{HasContent, HaveContents}
use Rattle.wrp_pcap.specs.Ethernet.{Carries}

same_frame : (packet one other : List ℕ) → Carries packet one → Carries packet other → one ≡ other
same_frame packet one other a b = a.behind ∙ sym b.behind

-- a frame that spells a message has no fault
not_both : (frame : List ℕ) (message : PtpMsg) (fault : FrameFault) → Spells frame message → IsFirstFault fault frame → ⊥
not_both frame message fault spells first =
    let read : Result PtpMsg FrameFault = Ok message in
    let is = (exactly_refused frame read spells tt fault).1 first in cc

same_fault : (frame : List ℕ) (one other : FrameFault) → IsFirstFault one frame → IsFirstFault other frame → one ≡ other
same_fault frame one other a b =
    let read : Result PtpMsg FrameFault = Err one in
    let is = (exactly_refused frame read tt a other).1 b in cc

-- a packet carries one thing
pub one_content : (packet : List ℕ) (one other : Content) → HasContent packet one → HasContent packet other → one ≡ other
one_content packet Other Other a b = refl
one_content packet Other (Message message) a b = absurd (a b.frame b.carries)
one_content packet Other (Fault fault) a b = absurd (a b.frame b.carries)
one_content packet (Message message) Other a b = absurd (b a.frame a.carries)
one_content packet (Fault fault) Other a b = absurd (b a.frame a.carries)
one_content packet (Message one) (Message other) a b =
    ap Message (spells_one a.frame one other a.spells (subst (λ (f : List ℕ). Spells f other) (same_frame packet b.frame a.frame b.carries a.carries) b.spells))
one_content packet (Fault one) (Fault other) a b =
    ap Fault (same_fault a.frame one other a.first (subst (IsFirstFault other) (same_frame packet b.frame a.frame b.carries a.carries) b.first))
one_content packet (Message message) (Fault fault) a b =
    absurd (not_both a.frame message fault a.spells (subst (IsFirstFault fault) (same_frame packet b.frame a.frame b.carries a.carries) b.first))
one_content packet (Fault fault) (Message message) a b =
    absurd (not_both b.frame message fault b.spells (subst (IsFirstFault fault) (same_frame packet a.frame b.frame a.carries b.carries) a.first))

pub one_contents : (packets : List (List ℕ)) (ones others : List Content) → HaveContents packets ones → HaveContents packets others → ones ≡ others
one_contents [] [] [] a b = refl
one_contents (packet ∷ packets) (one ∷ ones) (second ∷ others) a b =
    ap₂ (λ c cs. c ∷ cs) (one_content packet one second a.0 b.0) (one_contents packets ones others a.1 b.1)
one_contents [] (one ∷ ones) others a b = absurd a
one_contents [] [] (second ∷ others) a b = absurd b
one_contents (packet ∷ packets) [] others a b = absurd a
one_contents (packet ∷ packets) (one ∷ ones) [] a b = absurd b
