-- Each verdict `complete` is judged.
use Rattle.std.proofs.Common.{◌≡◌, ◌+◌, ℕ, List, [], ◌∷◌, ◌++◌, length, Some, sym, ap, ◌∙◌, arith, length-append}
use Rattle.wrp_base.specs.declared.message.Body.{Body}
use Rattle.wrp_base.specs.declared.message.Body.TheVariants.{Signal}
use Rattle.wrp_base.specs.declared.message.PortIdentity.{PortIdentity}
use Rattle.wrp_base.specs.declared.message.WrMsg.TheVariants.{ModeOn as WR_MODE_ON}
use Rattle.wrp_pcap.specs.declared.content.Content.{Content}
use Rattle.wrp_pcap.specs.declared.content.Content.TheVariants.{Other, Message, Fault}
use Rattle.wrp_pcap.specs.declared.verdict.Verdict8.TheVariants.{Complete}
use Rattle.wrp_pcap.specs.Certificate.{Captured, Back, lacks, finds, look_back, first_above, lock_of, is_present, is_sent, to_slave_calibrated, told_by, certificate, verdict_on, IsAbove, Falls}
use Rattle.wrp_pcap.specs.Content.{messages_of, onto}
use Rattle.wrp_pcap.specs.InspectLaws.{CompleteIsJudged}
use Rattle.wrp_pcap.proofs.Judging.{judged_slave, judged_master}
use Rattle.wrp_pcap.proofs.LookingBack.{HasCount, count_is}
use Rattle.wrp_pcap.proofs.Rising.{complete_only, complete_rises}
use Rattle.wrp_pcap.proofs.TakingPackets.{number_above}

falls_onto : (content : Content) (at : ℕ) (captured : List Captured) → IsAbove at captured → Falls captured → Falls (onto at content captured)
falls_onto (Message message) at captured above falls = (above, falls)
falls_onto Other at captured above falls = falls
falls_onto (Fault fault) at captured above falls = falls

-- the numbers of the messages fall, the newest first
messages_fall : (contents : List Content) → Falls (messages_of contents)
messages_fall [] = tt
messages_fall (newest ∷ before) =
    falls_onto newest (length before + 1) (messages_of before) (number_above before (length before + 1) (omega arith)) (messages_fall before)

-- a complete certificate has eight numbers
told_eight : (master slave : PortIdentity) (number : ℕ) (before : List Captured) (back : Back) (numbers : List ℕ) → HasCount 7 back
    → told_by master slave number before back ≡ Complete numbers → length numbers ≡ 8
told_eight master slave number before (lacks place) numbers seven e = absurd cc
told_eight master slave number before (finds found) numbers seven e =
    ap length (sym (complete_only (first_above (is_sent is_present slave master) (lock_of found) before) (found ++ number ∷ []) numbers e))
    ∙ length-append found (number ∷ []) ∙ ap (λ n. n + 1) seven

-- the verdict on a body is the verdict on a WR_MODE_ON
told_certificate : (source : PortIdentity) (number : ℕ) (before : List Captured) (body : Body) (numbers : List ℕ)
    → verdict_on source number before body ≡ Some (Complete numbers)
    → (target : PortIdentity) × (certificate source target number before ≡ Complete numbers)
told_certificate source number before (Signal target (Some WR_MODE_ON)) numbers e = (target, cc)
told_certificate source number before _ numbers e = absurd cc

pub complete_is_judged : CompleteIsJudged
complete_is_judged (Message message) before numbers e =
    let number = length before + 1 in
    let captured = messages_of before in
    let told = told_certificate message.head.source number captured message.body numbers e in
    let rises = complete_rises message.head.source told.0 number captured numbers (messages_fall before) (number_above before number (omega arith)) told.1 in
    let eight = told_eight message.head.source told.0 number captured (look_back (to_slave_calibrated message.head.source told.0) captured) numbers
    (count_is (to_slave_calibrated message.head.source told.0) captured) told.1 in
    (rises, judged_slave numbers eight rises, judged_master numbers eight rises)
complete_is_judged Other before numbers e = absurd cc
complete_is_judged (Fault fault) before numbers e = absurd cc
