-- The White Rabbit message of a frame: its octets spell one, and only a Signaling has one.
use Rattle.std.proofs.Common.{◌≡◌, ◌∙◌, refl, ap, sym, subst, ℕ, ◌%◌, ◌==◌, ℤ, Bool, true, false, if◌then◌else◌, List, [], ◌∷◌, None, Some, Result, Ok, Err, arith}
use Rattle.wrp_base.specs.declared.message.PtpMsg.{PtpMsg}
use Rattle.wrp_base.proofs.Booleans.{not_both}
use Rattle.wrp_frame.specs.Body.{body_at}
use Rattle.wrp_frame.specs.declared.fault.FrameFault.{FrameFault}
use Rattle.wrp_frame.specs.declared.message_type.MessageType.{MessageType}
use Rattle.wrp_frame.specs.declared.message_type.MessageType.TheVariants.{Sync, DelayReq, FollowUp, DelayResp, Announce, Signaling}
use Rattle.wrp_frame.specs.Grammar.{Spells}
use Rattle.wrp_frame.specs.Header.{kind_of}
use Rattle.wrp_frame.specs.MessageTypes.{kind_numbered}
use Rattle.wrp_frame.specs.Saying.{Says}
use Rattle.wrp_course.specs.Given.{in_body, in_frame}
use Rattle.wrp_world.specs.Taking.{is_signaling}

sync_not : Some Sync ≡ Some Signaling → ⊥
sync_not e = cc

request_not : Some DelayReq ≡ Some Signaling → ⊥
request_not e = cc

follow_up_not : Some FollowUp ≡ Some Signaling → ⊥
follow_up_not e = cc

response_not : Some DelayResp ≡ Some Signaling → ⊥
response_not e = cc

announce_not : Some Announce ≡ Some Signaling → ⊥
announce_not e = cc

none_not : None ≡ Some Signaling → ⊥
none_not e = cc

last_of_six : (a b c d e f : Bool) →
    (if a then Some Sync else if b then Some DelayReq else if c then Some FollowUp else if d then Some DelayResp else if e then Some Announce else if f then Some Signaling else None) ≡ Some Signaling →
    f ≡ true
last_of_six true b c d e f h = absurd (sync_not h)
last_of_six false true c d e f h = absurd (request_not h)
last_of_six false false true d e f h = absurd (follow_up_not h)
last_of_six false false false true e f h = absurd (response_not h)
last_of_six false false false false true f h = absurd (announce_not h)
last_of_six false false false false false true h = refl
last_of_six false false false false false false h = absurd (none_not h)

signaling_number : (x : ℕ) → kind_numbered x ≡ Some Signaling → (x == 0xC) ≡ true
signaling_number x h = last_of_six (x == 0x0) (x == 0x1) (x == 0x8) (x == 0x9) (x == 0xB) (x == 0xC) h

-- a message of another kind has none
no_message : (kind : MessageType) (tlvs : _) (octets : List ℕ) (put : ℤ) → (kind ≡ Signaling → ⊥) → in_body (body_at kind tlvs octets) put ≡ None
no_message Sync tlvs octets put h = refl
no_message DelayReq tlvs octets put h = refl
no_message FollowUp tlvs octets put h = refl
no_message DelayResp tlvs octets put h = refl
no_message Announce tlvs octets put h = refl
no_message Signaling tlvs octets put h = absurd (h refl)

silent : (octets : List ℕ) (m : PtpMsg) (put : ℤ) → Spells octets m → is_signaling octets ≡ false → in_body m.body put ≡ None
silent [] m put h e = absurd (omega (arith, h.header.whole))
silent (first ∷ rest) m put h e =
    ap (λ (x : PtpMsg). in_body x.body put) h.is
    ∙ no_message h.kind h.tlvs (first ∷ rest) put
    (λ same. not_both (first % 16 == 0xC) (signaling_number (first % 16) (subst (λ k. kind_of (first ∷ rest) ≡ Some k) same h.header.kind_is)) e)

-- octets of another messageType have none
pub none_read : (octets : List ℕ) (put : ℤ) (says : Result PtpMsg FrameFault) → Says octets says → is_signaling octets ≡ false → None ≡ in_frame says put
none_read octets put (Ok m) h e = sym (silent octets m put h e)
none_read octets put (Err f) h e = refl
