-- The reader is exact: octets spell one message or have one first fault, and never both.
use Rattle.std.proofs.Common.{◌≡◌, ℕ, List, Result, Ok, Err, IfOk, IfErr, ◌↔◌, inl, inr, sym, ap, ◌∙◌, subst}
use Rattle.std.proofs.lemmas.Bool.{cases_lt}
use Rattle.std.proofs.Math.Nat.{eq-or-lt_of_le}
use Rattle.wrp_base.specs.declared.message.PtpMsg.{PtpMsg}
use Rattle.wrp_base.specs.declared.message.Head.{Head}
use Rattle.wrp_base.specs.declared.message.Body.{Body}
use Rattle.wrp_frame.specs.declared.fault.FrameFault.{FrameFault}
use Rattle.wrp_frame.specs.declared.found.Found.{Found}
use Rattle.wrp_frame.specs.declared.message_type.MessageType.{MessageType}
use Rattle.wrp_frame.specs.declared.message_type.MessageType.TheVariants.{Sync}
use Rattle.wrp_tlv.specs.TlvList.{TypedValue}
use Rattle.wrp_frame.specs.Header.{HasHeader, head_at}
use Rattle.wrp_frame.specs.Body.{body_at, message_at}
use Rattle.wrp_frame.specs.Grammar.{HasLength, HasTime, HasTlvs, IsTwoStep, tlv_part, Spells, SpellOneMessage}
use Rattle.wrp_frame.specs.Faults.{HasFault, IsFirstFault, fault_number}
use Rattle.wrp_frame.specs.Found.{HasFound, found_in}
use Rattle.wrp_frame.proofs.Filling.{fills_one}
use Rattle.wrp_frame.proofs.FirstFaults.{kind_is_one, no_fault, one_numbered}

-- what the reader has read and tested spells its message
pub spelled : (octets : List ℕ) (kind : MessageType) (found : Found) (head : Head) (body : Body)
    → HasHeader kind octets → HasLength kind octets → HasTime kind octets → HasFound kind octets found → (kind ≡ Sync → IsTwoStep octets)
    → head ≡ head_at octets → ((tlvs : List TypedValue) → found ≡ found_in tlvs → body ≡ body_at kind tlvs octets)
    → Spells octets (record { head = head; body = body })
spelled octets kind found head body header sized time says two_step head_is body_is = record {
  kind = kind;
  header = header;
  sized = sized;
  time = time;
  tlvs = says.tlvs;
  listed = says.listed;
  two_step = two_step;
  is = ap (λ h. record { head = h; body = body }) head_is ∙ ap (λ b. record { head = head_at octets; body = b }) (body_is says.tlvs says.is);
}

pub spells_one : SpellOneMessage
spells_one octets one other a b =
    let same_kind = kind_is_one octets a.kind b.kind a.header b.header.kind_is in
    let filled = subst (λ k. HasTlvs k b.tlvs octets) same_kind b.listed in
    let same_tlvs = fills_one (tlv_part a.kind octets) a.tlvs b.tlvs a.listed.filled filled.filled in
    a.is ∙ ap (λ ts. message_at a.kind ts octets) same_tlvs ∙ ap (λ k. message_at k b.tlvs octets) (sym same_kind) ∙ sym b.is

spelled_has_no_fault : (octets : List ℕ) (message : PtpMsg) → Spells octets message → (fault : FrameFault) → HasFault fault octets → ⊥
spelled_has_no_fault octets message s fault has = no_fault octets s.kind s.tlvs s.header s.sized s.time s.listed s.two_step fault has

-- of two first faults neither is before the other
one_fault : (octets : List ℕ) (one other : FrameFault) → IsFirstFault one octets → IsFirstFault other octets → one ≡ other
one_fault octets one other a b = elim (cases_lt (fault_number one) (fault_number other)) [
  | inl before ↦ absurd (b.none_before one before a.has)
  | inr after ↦ elim (eq-or-lt_of_le after) [
    | inl same ↦ one_numbered one other (sym same)
    | inr before ↦ absurd (a.none_before other before b.has)
  ]
]

ok_exactly : (octets : List ℕ) (result : Result PtpMsg FrameFault) → IfOk result (Spells octets) → IfErr result (λ fault. IsFirstFault fault octets)
    → (message : PtpMsg) → Spells octets message → result ≡ Ok message
ok_exactly octets (Ok read) ok err message s = ap Ok (spells_one octets read message ok s)
ok_exactly octets (Err fault) ok err message s = absurd (spelled_has_no_fault octets message s fault err.has)

err_exactly : (octets : List ℕ) (result : Result PtpMsg FrameFault) → IfOk result (Spells octets) → IfErr result (λ fault. IsFirstFault fault octets)
    → (fault : FrameFault) → IsFirstFault fault octets → result ≡ Err fault
err_exactly octets (Ok read) ok err fault first = absurd (spelled_has_no_fault octets read ok fault first.has)
err_exactly octets (Err told) ok err fault first = ap Err (one_fault octets told fault err first)

-- from what the reader ensures of each answer, when each comes
pub exactly_spelled : (octets : List ℕ) (result : Result PtpMsg FrameFault) → IfOk result (Spells octets) → IfErr result (λ fault. IsFirstFault fault octets)
    → (message : PtpMsg) → (result ≡ Ok message) ↔ Spells octets message
exactly_spelled octets result ok err message =
    (λ is. subst (λ r. IfOk r (Spells octets)) is ok, ok_exactly octets result ok err message)

pub exactly_refused : (octets : List ℕ) (result : Result PtpMsg FrameFault) → IfOk result (Spells octets) → IfErr result (λ fault. IsFirstFault fault octets)
    → (fault : FrameFault) → (result ≡ Err fault) ↔ IsFirstFault fault octets
exactly_refused octets result ok err fault =
    (λ is. subst (λ r. IfErr r (λ f. IsFirstFault f octets)) is err, err_exactly octets result ok err fault)
