-- Octets spell a message, or have a first fault.
use Rattle.std.proofs.Common.{◌≡◌, ◌⊎◌, inl, inr, refl, sym, ◌∙◌, ℕ, zero, suc, ◌≤◌, ◌==◌, List, [], ◌∷◌, length, drop, length-drop, Option, None, Some, Result, Ok, Err, arith}
use Rattle.std.specs.Prelude.{bit_and}
use Rattle.std.specs.List.{list_any}
use Rattle.std.proofs.lemmas.Bool.{cases_Bool, cases_lt, eqb-false, eqb-true, true≢false}
use Rattle.wrp_base.specs.declared.message.PtpMsg.{PtpMsg}
use Rattle.wrp_frame.specs.declared.fault.FrameFault.{FrameFault}
use Rattle.wrp_frame.specs.declared.fault.FrameFault.TheVariants.{Short, Version, Kind, Length, Time, Tlv, BadWr, OneStep}
use Rattle.wrp_frame.specs.declared.message_type.MessageType.{MessageType}
use Rattle.wrp_frame.specs.declared.message_type.MessageType.TheVariants.{Sync, DelayReq, FollowUp, DelayResp, Announce, Signaling}
use Rattle.wrp_frame.specs.Body.{message_at}
use Rattle.wrp_frame.specs.Faults.{IsFirstFault}
use Rattle.wrp_frame.specs.Fields.{timestamp_at}
use Rattle.wrp_frame.specs.Grammar.{HasLength, HasTime, HasTlvs, IsTwoStep, tlv_part}
use Rattle.wrp_frame.specs.Header.{HasHeader, kind_of, message_length, version_of}
use Rattle.wrp_frame.specs.MessageTypes.{has_timestamp, least_length, reads_white_rabbit}
use Rattle.wrp_frame.proofs.Filling.{BeginsWith, fills_begin, fills_on, first_end, first_tlv}
use Rattle.wrp_frame.proofs.FirstFaults.{first_bad, first_high, first_kind, first_low, first_one_step, first_short, first_time, first_tlv as first_unfilled, first_version}
use Rattle.wrp_frame.specs.Saying.{Says}
use Rattle.wrp_tlv.specs.Octets.{number_at}
use Rattle.wrp_tlv.specs.TlvList.{Fills, IsFilledByNone, TypedValue}
use Rattle.wrp_tlv.specs.WhiteRabbitList.{is_bad, read_of}

-- Lists of TLVs: one fills the octets, or none does

abbrev Filled : List ℕ → Type 0
Filled octets = ((tlvs : List TypedValue) × Fills tlvs octets) ⊎ IsFilledByNone octets

unfilled : (octets : List ℕ) → (octets ≡ [] → ⊥) → ((tlv : TypedValue) (tlvs : List TypedValue) → BeginsWith octets tlv tlvs → ⊥) → (tlvs : List TypedValue) → Fills tlvs octets → ⊥
unfilled octets some never [] fills = some fills
unfilled octets some never (tlv ∷ tlvs) fills = never tlv tlvs (fills_begin octets tlv tlvs fills)

-- after a whole TLV
filled_on : (octets : List ℕ) → (octets ≡ [] → ⊥) → 4 ≤ length octets → first_end octets ≤ length octets → Filled (drop (first_end octets) octets) → Filled octets
filled_on octets some whole within (inl rest) = inl (first_tlv octets ∷ rest.0, fills_on octets rest.0 whole within rest.1)
filled_on octets some whole within (inr none) = inr (unfilled octets some (λ tlv tlvs begins. none tlvs begins.rest))

filled_by : (most : ℕ) (octets : List ℕ) → (octets ≡ [] → ⊥) → length octets ≤ suc most → ((rest : List ℕ) → length rest ≤ most → Filled rest) → Filled octets
filled_by most octets some few shorter =
    elim (cases_lt (length octets) 4) [
      | inl short ↦ inr (unfilled octets some (λ tlv tlvs begins. let whole = begins.whole in omega (arith, short, whole)))
      | inr whole ↦ elim (cases_lt (length octets) (first_end octets)) [
        | inl past ↦ inr (unfilled octets some (λ tlv tlvs begins. let within = begins.within in omega (arith, past, within)))
        | inr within ↦ filled_on octets some whole within (shorter (drop (first_end octets) octets) (omega (arith, few, length-drop (first_end octets) octets)))
      ]
    ]

filled : (most : ℕ) (octets : List ℕ) → length octets ≤ most → Filled octets
filled most [] few = inl ([], refl)
filled zero (octet ∷ octets) few = absurd (omega (arith, few))
filled (suc most) (octet ∷ octets) few = filled_by most (octet ∷ octets) (λ e. cc) few (λ rest fewer. filled most rest fewer)

-- What the octets say

abbrev Said : List ℕ → Type 0
Said octets = (says : Result PtpMsg FrameFault) × Says octets says

faulty : (octets : List ℕ) (fault : FrameFault) → IsFirstFault fault octets → Said octets
faulty octets fault first = (Err fault, first)

spelled : (octets : List ℕ) (kind : MessageType) (tlvs : List TypedValue) → HasHeader kind octets → HasLength kind octets → HasTime kind octets → HasTlvs kind tlvs octets
    → (kind ≡ Sync → IsTwoStep octets) → Said octets
spelled octets kind tlvs header sized time listed two_step =
    (Ok (message_at kind tlvs octets), record { kind = kind; header = header; sized = sized; time = time; tlvs = tlvs; listed = listed; two_step = two_step; is = refl })

-- for a Sync twoStepFlag is tested
of_kind : (octets : List ℕ) (kind : MessageType) (tlvs : List TypedValue) → HasHeader kind octets → HasLength kind octets → HasTime kind octets → HasTlvs kind tlvs octets → Said octets
of_kind octets Sync tlvs header sized time listed =
    elim (cases_Bool (bit_and (number_at 6 2 octets) 0x0200 == 0)) [
      | inl none ↦ faulty octets OneStep (first_one_step octets Sync tlvs header sized time listed (refl, λ two. two (eqb-true (bit_and (number_at 6 2 octets) 0x0200) 0 none)))
      | inr some ↦ spelled octets Sync tlvs header sized time listed (λ e. eqb-false (bit_and (number_at 6 2 octets) 0x0200) 0 some)
    ]
of_kind octets DelayReq tlvs header sized time listed = spelled octets DelayReq tlvs header sized time listed (λ e. cc)
of_kind octets FollowUp tlvs header sized time listed = spelled octets FollowUp tlvs header sized time listed (λ e. cc)
of_kind octets DelayResp tlvs header sized time listed = spelled octets DelayResp tlvs header sized time listed (λ e. cc)
of_kind octets Announce tlvs header sized time listed = spelled octets Announce tlvs header sized time listed (λ e. cc)
of_kind octets Signaling tlvs header sized time listed = spelled octets Signaling tlvs header sized time listed (λ e. cc)

with_tlvs : (octets : List ℕ) (kind : MessageType) (tlvs : List TypedValue) → HasHeader kind octets → HasLength kind octets → HasTime kind octets → Fills tlvs (tlv_part kind octets) → Said octets
with_tlvs octets kind tlvs header sized time fills =
    elim (cases_Bool (list_any (λ tlv. is_bad (read_of tlv)) tlvs)) [
      | inr sound ↦ of_kind octets kind tlvs header sized time (record { filled = fills; sound = λ reads. sound })
      | inl bad ↦ elim (cases_Bool (reads_white_rabbit kind)) [
        | inl reads ↦ faulty octets BadWr (first_bad octets kind header sized time (reads, (tlvs, fills, bad)))
        | inr other ↦ of_kind octets kind tlvs header sized time (record { filled = fills; sound = λ reads. absurd (true≢false (sym reads ∙ other)) })
      ]
    ]

with_time : (octets : List ℕ) (kind : MessageType) → HasHeader kind octets → HasLength kind octets → HasTime kind octets → Said octets
with_time octets kind header sized time =
    elim (filled (length (tlv_part kind octets)) (tlv_part kind octets) (omega arith)) [
      | inl tlvs ↦ with_tlvs octets kind tlvs.0 header sized time tlvs.1
      | inr none ↦ faulty octets Tlv (first_unfilled octets kind header sized time none)
    ]

with_length : (octets : List ℕ) (kind : MessageType) → HasHeader kind octets → HasLength kind octets → Said octets
with_length octets kind header sized =
    elim (cases_Bool (has_timestamp kind)) [
      | inr none ↦ with_time octets kind header sized (λ stamped. absurd (true≢false (sym stamped ∙ none)))
      | inl stamped ↦ elim (cases_lt (timestamp_at 34 octets).nanos 1_000_000_000) [
        | inl early ↦ with_time octets kind header sized (λ s. early)
        | inr late ↦ faulty octets Time (first_time octets kind header sized stamped late)
      ]
    ]

with_header : (octets : List ℕ) (kind : MessageType) → HasHeader kind octets → Said octets
with_header octets kind header =
    elim (cases_lt (message_length octets) (least_length kind)) [
      | inl low ↦ faulty octets Length (first_low octets kind header low)
      | inr least ↦ elim (cases_lt (length octets) (message_length octets)) [
        | inl high ↦ faulty octets Length (first_high octets kind header high)
        | inr most ↦ with_length octets kind header (record { least = least; most = most })
      ]
    ]

with_kind : (octets : List ℕ) → 34 ≤ length octets → version_of octets ≡ 2 → (kind : Option MessageType) → kind_of octets ≡ kind → Said octets
with_kind octets whole version None is = faulty octets Kind (first_kind octets whole version is)
with_kind octets whole version (Some kind) is = with_header octets kind (record { whole = whole; version = version; kind_is = is })

-- each octets say something
pub each_says : (octets : List ℕ) → (says : Result PtpMsg FrameFault) × Says octets says
each_says octets =
    elim (cases_lt (length octets) 34) [
      | inl short ↦ faulty octets Short (first_short octets short)
      | inr whole ↦ elim (cases_Bool (version_of octets == 2)) [
        | inl version ↦ with_kind octets whole (eqb-true (version_of octets) 2 version) (kind_of octets) refl
        | inr other ↦ faulty octets Version (first_version octets whole (eqb-false (version_of octets) 2 other))
      ]
    ]
