-- Which fault is the first: each comes if the octets pass the tests before it and fail its own.
use Rattle.std.proofs.Common.{◌≡◌, ◌≢◌, ◌<◌, ◌≤◌, ℕ, suc, List, length, Some, None, inl, inr, ◌==◌, if◌then◌else◌, refl, sym, ap, ◌∙◌, subst, arith, Bool, true, false}
use Rattle.std.proofs.Math.Nat.{eq-or-lt_of_le}
use Rattle.std.specs.List.{list_any}
use Rattle.wrp_frame.specs.declared.fault.FrameFault.{FrameFault}
use Rattle.wrp_frame.specs.declared.fault.FrameFault.TheVariants.{Short, Version, Kind, Length, Time, Tlv, BadWr, OneStep}
use Rattle.wrp_frame.specs.declared.message_type.MessageType.{MessageType}
use Rattle.wrp_frame.specs.declared.message_type.MessageType.TheVariants.{Sync}
use Rattle.wrp_frame.specs.Fields.{timestamp_at}
use Rattle.wrp_frame.specs.MessageTypes.{has_timestamp, least_length}
use Rattle.wrp_frame.specs.Header.{HasHeader, version_of, kind_of, message_length}
use Rattle.wrp_tlv.specs.TlvList.{TypedValue, Fills}
use Rattle.wrp_tlv.specs.WhiteRabbitList.{read_of, is_bad}
use Rattle.wrp_frame.specs.Grammar.{HasLength, HasTime, HasTlvs, tlv_part, IsTwoStep}
use Rattle.wrp_frame.proofs.Filling.{fills_one}
use Rattle.wrp_frame.specs.Faults.{HasFault, HasFaultOf, IsFirstFault, fault_number}

-- the fault of a number
fault_numbered : ℕ → FrameFault
fault_numbered n =
    if n == 1 then Short
    else if n == 2 then Version
    else if n == 3 then Kind
    else if n == 4 then Length
    else if n == 5 then Time
    else if n == 6 then Tlv
    else if n == 7 then BadWr
    else OneStep

numbered_back : (fault : FrameFault) → fault_numbered (fault_number fault) ≡ fault
unfolding fault_numbered
numbered_back Short = refl
numbered_back Version = refl
numbered_back Kind = refl
numbered_back Length = refl
numbered_back Time = refl
numbered_back Tlv = refl
numbered_back BadWr = refl
numbered_back OneStep = refl

-- two faults of one number are one
pub one_numbered : (a b : FrameFault) → fault_number a ≡ fault_number b → a ≡ b
one_numbered a b same = sym (numbered_back a) ∙ ap fault_numbered same ∙ numbered_back b

positive : (fault : FrameFault) → 1 ≤ fault_number fault
positive Short = omega arith
positive Version = omega arith
positive Kind = omega arith
positive Length = omega arith
positive Time = omega arith
positive Tlv = omega arith
positive BadWr = omega arith
positive OneStep = omega arith

at_most : (fault : FrameFault) → fault_number fault < 9
at_most Short = omega arith
at_most Version = omega arith
at_most Kind = omega arith
at_most Length = omega arith
at_most Time = omega arith
at_most Tlv = omega arith
at_most BadWr = omega arith
at_most OneStep = omega arith

-- the octets have no fault of a number below n
abbrev pub HasNoneBelow : ℕ → List ℕ → Type 0
HasNoneBelow n octets = (other : FrameFault) → fault_number other < n → HasFault other octets → ⊥

-- no fault has a number below 1
none_below_first : (octets : List ℕ) → HasNoneBelow 1 octets
none_below_first octets other low has = let least = positive other in omega arith

-- one more fault that the octets do not have
one_more : (octets : List ℕ) (fault : FrameFault) (n : ℕ) → fault_number fault ≡ n → HasNoneBelow n octets → (HasFault fault octets → ⊥) → HasNoneBelow (suc n) octets
one_more octets fault n is below not other low has =
    let at_most : fault_number other ≤ n = omega arith in
    elim (eq-or-lt_of_le at_most) [
      | inl same ↦ not (subst (λ f. HasFault f octets) (one_numbered other fault (same ∙ sym is)) has)
      | inr less ↦ below other less has
    ]

-- the kind of a header is one
pub kind_is_one : (octets : List ℕ) (kind other : MessageType) → HasHeader kind octets → kind_of octets ≡ Some other → other ≡ kind
kind_is_one octets kind other header is = let own = header.kind_is in cc

not_short : (octets : List ℕ) → 34 ≤ length octets → HasNoneBelow 2 octets
not_short octets long = one_more octets Short 1 refl (none_below_first octets) (λ (short : length octets < 34). omega arith)

not_version : (octets : List ℕ) → 34 ≤ length octets → version_of octets ≡ 2 → HasNoneBelow 3 octets
not_version octets long version = one_more octets Version 2 refl (not_short octets long) (λ other. other version)

not_kind : (octets : List ℕ) (kind : MessageType) → HasHeader kind octets → HasNoneBelow 4 octets
not_kind octets kind header =
    one_more octets Kind 3 refl (not_version octets header.whole header.version)
    (λ (none : kind_of octets ≡ None). let own = header.kind_is in cc)

-- a fault of the kind's own, if the kind is known
own_fault : (octets : List ℕ) (kind : MessageType) (fault : FrameFault) → HasHeader kind octets
    → ((kind : MessageType) × (kind_of octets ≡ Some kind) × HasFaultOf fault kind octets) → HasFaultOf fault kind octets
own_fault octets kind fault header (other, is, has) =
    subst (λ k. HasFaultOf fault k octets) (kind_is_one octets kind other header is) has

not_length : (octets : List ℕ) (kind : MessageType) → HasHeader kind octets → HasLength kind octets → HasNoneBelow 5 octets
not_length octets kind header sized =
    one_more octets Length 4 refl (not_kind octets kind header)
    (λ has. elim (own_fault octets kind Length header has) [ inl low ↦ let l = sized.least in omega arith | inr high ↦ let m = sized.most in omega arith ])

not_time : (octets : List ℕ) (kind : MessageType) → HasHeader kind octets → HasLength kind octets → HasTime kind octets → HasNoneBelow 6 octets
not_time octets kind header sized time =
    one_more octets Time 5 refl (not_length octets kind header sized)
    (λ has. let (stamped, late) = own_fault octets kind Time header has in let early = time stamped in omega arith)

not_tlv : (octets : List ℕ) (kind : MessageType) (tlvs : List TypedValue) → HasHeader kind octets → HasLength kind octets → HasTime kind octets
    → Fills tlvs (tlv_part kind octets) → HasNoneBelow 7 octets
not_tlv octets kind tlvs header sized time filled =
    one_more octets Tlv 6 refl (not_time octets kind header sized time)
    (λ has. own_fault octets kind Tlv header has tlvs filled)

not_bad : (octets : List ℕ) (kind : MessageType) (tlvs : List TypedValue) → HasHeader kind octets → HasLength kind octets → HasTime kind octets
    → HasTlvs kind tlvs octets → HasNoneBelow 8 octets
not_bad octets kind tlvs header sized time listed =
    one_more octets BadWr 7 refl (not_tlv octets kind tlvs header sized time listed.filled)
    (λ has. let (reads, (others, filled, bad)) = own_fault octets kind BadWr header has in
    let sound = listed.sound reads in
    let same = fills_one (tlv_part kind octets) tlvs others listed.filled filled in
    let any_bad : List TypedValue → Bool = λ ts. list_any (λ tlv. is_bad (read_of tlv)) ts in
    let clash : true ≡ false = sym bad ∙ sym (ap any_bad same) ∙ sound in cc)

-- what spells a message has no fault
pub no_fault : (octets : List ℕ) (kind : MessageType) (tlvs : List TypedValue) → HasHeader kind octets → HasLength kind octets → HasTime kind octets
    → HasTlvs kind tlvs octets → (kind ≡ Sync → IsTwoStep octets) → (fault : FrameFault) → HasFault fault octets → ⊥
no_fault octets kind tlvs header sized time listed two_step fault has =
    one_more octets OneStep 8 refl (not_bad octets kind tlvs header sized time listed)
    (λ has. let (sync, one_step) = own_fault octets kind OneStep header has in one_step (two_step sync))
    fault (at_most fault) has

pub first_short : (octets : List ℕ) → length octets < 34 → IsFirstFault Short octets
first_short octets short = record { has = short; none_before = none_below_first octets }

pub first_version : (octets : List ℕ) → 34 ≤ length octets → version_of octets ≢ 2 → IsFirstFault Version octets
first_version octets long version = record { has = version; none_before = not_short octets long }

pub first_kind : (octets : List ℕ) → 34 ≤ length octets → version_of octets ≡ 2 → kind_of octets ≡ None → IsFirstFault Kind octets
first_kind octets long version none = record { has = none; none_before = not_version octets long version }

pub first_low : (octets : List ℕ) (kind : MessageType) → HasHeader kind octets → message_length octets < least_length kind → IsFirstFault Length octets
first_low octets kind header low =
    record { has = (kind, header.kind_is, inl low); none_before = not_kind octets kind header }

pub first_high : (octets : List ℕ) (kind : MessageType) → HasHeader kind octets → length octets < message_length octets → IsFirstFault Length octets
first_high octets kind header high =
    record { has = (kind, header.kind_is, inr high); none_before = not_kind octets kind header }

pub first_time : (octets : List ℕ) (kind : MessageType) → HasHeader kind octets → HasLength kind octets
    → has_timestamp kind ≡ true → 1_000_000_000 ≤ (timestamp_at 34 octets).nanos → IsFirstFault Time octets
first_time octets kind header sized stamped late =
    record { has = (kind, header.kind_is, (stamped, late)); none_before = not_length octets kind header sized }

pub first_tlv : (octets : List ℕ) (kind : MessageType) → HasHeader kind octets → HasLength kind octets → HasTime kind octets
    → HasFaultOf Tlv kind octets → IsFirstFault Tlv octets
first_tlv octets kind header sized time has =
    record { has = (kind, header.kind_is, has); none_before = not_time octets kind header sized time }

pub first_bad : (octets : List ℕ) (kind : MessageType) → HasHeader kind octets → HasLength kind octets → HasTime kind octets
    → HasFaultOf BadWr kind octets → IsFirstFault BadWr octets
first_bad octets kind header sized time has =
    record {
      has = (kind, header.kind_is, has);
      none_before = not_tlv octets kind has.1.0 header sized time has.1.1;
    }

pub first_one_step : (octets : List ℕ) (kind : MessageType) (tlvs : List TypedValue) → HasHeader kind octets → HasLength kind octets → HasTime kind octets
    → HasTlvs kind tlvs octets → HasFaultOf OneStep kind octets → IsFirstFault OneStep octets
first_one_step octets kind tlvs header sized time listed has =
    record { has = (kind, header.kind_is, has); none_before = not_bad octets kind tlvs header sized time listed }

pub ruleset header_faults = (first_short, first_version, first_kind, first_low, first_high)

pub ruleset tlv_faults = (first_tlv, first_bad)
