-- What octets spell is a sound message.
use Rattle.std.proofs.Common.{◌≡◌, ◌<◌, ◌+◌, ℕ, List, drop, refl, sym, subst, Result, Ok, Err, IfOk}
use Rattle.std.proofs.lemmas.List.{get_or-drop}
use Rattle.byteorder.specs.Numbers.{big_from-lt}
use Rattle.wrp_base.specs.declared.message.PtpMsg.{PtpMsg}
use Rattle.wrp_base.specs.Octets.{AreOctets}
use Rattle.wrp_base.specs.Message.{IsSound, FitsTimestamp}
use Rattle.wrp_frame.specs.declared.fault.FrameFault.{FrameFault}
use Rattle.wrp_frame.specs.declared.message_type.MessageType.{MessageType}
use Rattle.wrp_frame.specs.declared.message_type.MessageType.TheVariants.{Sync, DelayReq, FollowUp, DelayResp, Announce, Signaling}
use Rattle.wrp_tlv.specs.TlvList.{TypedValue}
use Rattle.wrp_frame.specs.Fields.{timestamp_at}
use Rattle.wrp_frame.specs.Body.{message_at}
use Rattle.wrp_frame.specs.Grammar.{Spells, HasTime, IsTwoStep}

fits_time : (octets : List ℕ) → AreOctets octets → (timestamp_at 34 octets).nanos < 1_000_000_000 → FitsTimestamp (timestamp_at 34 octets)
fits_time octets small nanos = (big_from-lt 0 6 (drop 34 octets) (λ k. let octet = small (34 + k) in rw (get_or-drop 34 octets k 0) octet), nanos)

sound_at : (kind : MessageType) (tlvs : List TypedValue) (octets : List ℕ) → AreOctets octets → HasTime kind octets → (kind ≡ Sync → IsTwoStep octets) → IsSound (message_at kind tlvs octets)
sound_at Sync tlvs octets small time two_step = record { times = fits_time octets small (time refl); two_step = two_step refl }
sound_at DelayReq tlvs octets small time two_step = record { times = fits_time octets small (time refl); two_step = tt }
sound_at FollowUp tlvs octets small time two_step = record { times = fits_time octets small (time refl); two_step = tt }
sound_at DelayResp tlvs octets small time two_step = record { times = fits_time octets small (time refl); two_step = tt }
sound_at Announce tlvs octets small time two_step = record { times = fits_time octets small (time refl); two_step = tt }
sound_at Signaling tlvs octets small time two_step = record { times = tt; two_step = tt }

pub spelled_is_sound : (octets : List ℕ) (result : Result PtpMsg FrameFault) → AreOctets octets → IfOk result (Spells octets) → IfOk result IsSound
spelled_is_sound octets (Ok message) small s = subst IsSound (sym s.is) (sound_at s.kind s.tlvs octets small s.time s.two_step)
spelled_is_sound octets (Err fault) small s = tt
