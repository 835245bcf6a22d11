-- Only the sending of a Sync and of a Delay_Req is reported: octets of another messageType are neither.
use Rattle.std.proofs.Common.{◌≡◌, ◌∙◌, refl, ap, sym, ℕ, ◌%◌, ◌==◌, ◌||◌, Bool, true, false, if◌then◌else◌, List, [], ◌∷◌, Option, None, Some, arith}
use Rattle.std.proofs.lemmas.Bool.{true≢false}
use Rattle.wrp_base.specs.declared.message.PtpMsg.{PtpMsg}
use Rattle.wrp_base.specs.declared.time.Stamp.{Stamp}
use Rattle.wrp_frame.specs.Body.{body_at}
use Rattle.wrp_frame.specs.declared.message_type.MessageType.{MessageType}
use Rattle.wrp_frame.specs.declared.message_type.MessageType.TheVariants.{Sync, DelayReq, FollowUp, DelayResp, Announce, Signaling}
use Rattle.wrp_frame.specs.Grammar.{Spells}
use Rattle.wrp_changes.specs.Giving.{is_told, sent_by, sent_in}

-- the kinds of messages whose sending is reported
abbrev told : Option MessageType → Bool
told (Some Sync) = true
told (Some DelayReq) = true
told _ = false

told_six : (a b c d e f : Bool) →
    told (if a then Some Sync else if b then Some DelayReq else if c then Some FollowUp else if d then Some DelayResp else if e then Some Announce else if f then Some Signaling else None)
    ≡ (a || b)
told_six true b c d e f = refl
told_six false true c d e f = refl
told_six false false true d e f = refl
told_six false false false true e f = refl
told_six false false false false true f = refl
told_six false false false false false true = refl
told_six false false false false false false = refl

untold : (kind : MessageType) (tlvs : _) (octets : List ℕ) (p seq : ℕ) (stamp : Stamp) → told (Some kind) ≡ false → sent_in p seq stamp (body_at kind tlvs octets) ≡ None
untold Sync tlvs octets p seq stamp e = absurd (true≢false e)
untold DelayReq tlvs octets p seq stamp e = absurd (true≢false e)
untold FollowUp tlvs octets p seq stamp e = refl
untold DelayResp tlvs octets p seq stamp e = refl
untold Announce tlvs octets p seq stamp e = refl
untold Signaling tlvs octets p seq stamp e = refl

pub none_told : (octets : List ℕ) (m : PtpMsg) (p : ℕ) (stamp : Stamp) → Spells octets m → is_told octets ≡ false → None ≡ sent_by p stamp m
none_told [] m p stamp h e = absurd (omega (arith, h.header.whole))
none_told (first ∷ rest) m p stamp h e =
    let x : ℕ = first % 16 in
    let kinds : told (Some h.kind) ≡ false =
    sym (ap told h.header.kind_is) ∙ told_six (x == 0x0) (x == 0x1) (x == 0x8) (x == 0x9) (x == 0xB) (x == 0xC) ∙ e in
    sym (ap (sent_by p stamp) h.is ∙ untold h.kind h.tlvs (first ∷ rest) p _ stamp kinds)
