-- What an inspection shows: each verdict is the expected one, and each `complete` names a handshake of the capture.
use Rattle.std.proofs.Common.{◌≡◌, ◌+◌, true, ℕ, Some, List, ◌∷◌, ◌++◌, length, inl, inr, refl, subst}
use Rattle.std.proofs.lemmas.Option.{same_Some}
use Rattle.std.specs.Prelude.{IsSome}
use Rattle.wrp_base.specs.declared.message.Body.{Body}
use Rattle.wrp_base.specs.declared.message.Body.TheVariants.{Signal}
use Rattle.wrp_base.specs.declared.message.PortIdentity.{PortIdentity}
use Rattle.wrp_base.specs.declared.message.WrMsg.TheVariants.{ModeOn as WR_MODE_ON}
use Rattle.wrp_pcap.specs.declared.content.Content.{Content}
use Rattle.wrp_pcap.specs.declared.content.Content.TheVariants.{Other, Message, Fault}
use Rattle.wrp_pcap.specs.declared.verdict.Verdict8.{Verdict8}
use Rattle.wrp_pcap.specs.declared.verdict.Verdict8.TheVariants.{Complete, Restarted, Missing}
use Rattle.wrp_pcap.specs.Capture.{StoredPacket}
use Rattle.wrp_pcap.specs.Certificate.{Captured, carries, certificate, verdict_on}
use Rattle.wrp_pcap.specs.Content.{messages_of}
use Rattle.wrp_pcap.specs.Handshakes.{is_mode_on}
use Rattle.wrp_pcap.specs.InspectAim.{CutsAreFirst, HasDue, JudgesHandshakes, NamesHandshake, VerdictsAreDue}
use Rattle.wrp_pcap.specs.Inspected.{Carry}
use Rattle.wrp_pcap.specs.Laws.{IsDue}
use Rattle.wrp_pcap.specs.PacketLines.{told_of}
use Rattle.wrp_pcap.proofs.CaptureLaws.{stay}
use Rattle.wrp_pcap.proofs.CaptureStands.{begins_stay}
use Rattle.wrp_pcap.proofs.CompleteJudged.{complete_is_judged}
use Rattle.wrp_pcap.proofs.Due.{certificate_is_due}
use Rattle.wrp_pcap.proofs.Handshakes.{complete_names_handshake, is_sent_on}

-- only a WR_MODE_ON has a verdict
told_mode_on : (source : PortIdentity) (number : ℕ) (before : List Captured) (body : Body) (verdict : Verdict8)
    → verdict_on source number before body ≡ Some verdict
    → (target : PortIdentity) × (body ≡ Signal target (Some WR_MODE_ON)) × (certificate source target number before ≡ verdict)
told_mode_on source number before (Signal target (Some WR_MODE_ON)) verdict e =
    (target, refl, same_Some (certificate source target number before) verdict e)
told_mode_on source number before _ verdict e = absurd cc

is_due : (content : Content) (before : List Content) (verdict : Verdict8)
    → told_of (length before + 1) (messages_of before) content ≡ Some verdict
    → HasDue (length before + 1) (messages_of before) content verdict
is_due (Message message) before verdict e =
    let number = length before + 1 in
    let master = message.head.source in
    let told = told_mode_on master number (messages_of before) message.body verdict e in
    record {
      message = message;
      slave = told.0;
      carried = refl;
      asks = is_sent_on master told.0 message.body told.1;
      due = subst (λ (v : Verdict8). IsDue master told.0 number (messages_of before) v) told.2
          (certificate_is_due master told.0 number (messages_of before));
    }
is_due Other before verdict e = absurd cc
is_due (Fault fault) before verdict e = absurd cc

-- a WR_MODE_ON has a verdict
told_on : (source target : PortIdentity) (number : ℕ) (before : List Captured) (body : Body)
    → carries source is_mode_on source target body ≡ true → IsSome (verdict_on source number before body)
told_on source target number before (Signal to (Some WR_MODE_ON)) is = refl
told_on source target number before _ is = absurd cc

pub verdicts_are_due : VerdictsAreDue
verdicts_are_due = record {
  due = is_due;
  each = λ message slave before is. told_on message.head.source slave (length before + 1) (messages_of before) message.body is;
}

names : (packets : List StoredPacket) (newer before : List Content) (content : Content) (verdict : Verdict8) → Carry packets (newer ++ content ∷ before)
    → told_of (length before + 1) (messages_of before) content ≡ Some verdict → NamesHandshake packets verdict
names packets newer before content (Complete numbers) carry told =
    (complete_is_judged content before numbers told, complete_names_handshake packets newer before content numbers carry told)
names packets newer before content (Restarted number) carry told = tt
names packets newer before content (Missing place) carry told = tt

-- whatever an input has, an inspection judges its handshakes
pub judges : (input : List ℕ) → JudgesHandshakes input
judges input order packets rest header begins newer before content verdict carry told =
    (is_due content before verdict told, names packets newer before content verdict carry told)

pub cuts_are_first : CutsAreFirst
cuts_are_first taken left text (inl none) = inl none.1
cuts_are_first taken left text (inr cut) = inr (record {
  order = cut.order;
  packets = cut.packets;
  contents = cut.contents;
  rest = cut.rest ++ left;
  header = stay.header cut.order taken left cut.header;
  begins = begins_stay cut.order cut.packets cut.rest taken left cut.header.whole cut.begins;
  few = cut.few;
  carry = cut.carry;
  is = cut.is;
})
