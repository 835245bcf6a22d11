-- What is reported when the inspection of a capture ends, and what comes next in the octets that are held.
use Rattle.std.proofs.Common.{◌≡◌, ◌⊎◌, ◌<◌, ◌+◌, ◌^◌, ℕ, Bool, true, false, List, [], ◌∷◌, ◌++◌, length, Result, inl, inr, refl, sym, ap, ◌∙◌, subst, arith, append-nil}
use Rattle.std.specs.Prelude.{codes, OnOk}
use Rattle.std.specs.Fmt.{decimal}
use Rattle.wrp_records.specs.declared.status.Status.{Status}
use Rattle.wrp_records.specs.declared.status.Status.TheVariants.{Done, TooLarge, BadCapture, OutOfMemory}
use Rattle.wrp_records.specs.Stream.{large_line}
use Rattle.wrp_records.specs.Words.{line_of}
use Rattle.wrp_pcap.specs.declared.capture.CaptureFault.{CaptureFault}
use Rattle.wrp_pcap.specs.declared.capture.CaptureFault.TheVariants.{Long}
use Rattle.wrp_pcap.specs.declared.capture.Front.TheVariants.{End, Refused, More}
use Rattle.wrp_pcap.specs.declared.capture.Order.{Order}
use Rattle.wrp_pcap.specs.declared.content.Content.{Content}
use Rattle.wrp_pcap.specs.Capture.{IsWhole, HasPacketFault, IsFront, IsCut, number_of, name_of}
use Rattle.wrp_pcap.specs.Inspected.{bad_capture_line}
use Rattle.wrp_pcap.specs.Inspecting.{TellsBehind}
use Rattle.wrp_pcap.specs.PacketLines.{sum_line}

-- ---- what comes next

never : false ≡ true → ⊥
never e = cc

-- before the end only a packet that is too long is refused
pub long_only : (order : Order) (octets : List ℕ) (fault : CaptureFault) → IsFront order false octets (Refused fault) → HasPacketFault Long order octets
long_only order octets fault (has, inl ended) = absurd (never ended)
long_only order octets fault (has, inr is) = subst (λ (f : CaptureFault). HasPacketFault f order octets) is has

pub more_only : (order : Order) (octets : List ℕ) → IsFront order false octets More → IsCut order octets
more_only order octets front = front.1

pub no_end : (order : Order) (octets : List ℕ) → IsFront order false octets End → ⊥
no_end order octets front = never front.0

pub ended_not_more : (order : Order) (octets : List ℕ) → IsFront order true octets More → ⊥
ended_not_more order octets front = never (sym front.0)

pub cut_not_whole : (order : Order) (octets : List ℕ) → IsCut order octets → IsWhole order octets → ⊥
cut_not_whole order octets (inl few) whole = let numbers = whole.numbers in omega arith
cut_not_whole order octets (inr (short, cut)) whole = let own = whole.own in omega arith

-- ---- what is reported

pub refusal_named : {T E : Type 0} (result : Result T E) (was now : List ℕ) (packet number : ℕ) (name : List ℕ) (fault : CaptureFault)
    → number ≡ number_of fault → name ≡ name_of fault
    → OnOk result (now ≡ was ++ line_of (codes "bad-capture" ∷ decimal packet ∷ decimal number ∷ name ∷ []))
    → OnOk result (now ≡ was ++ bad_capture_line (record { packet = packet; fault = fault }))
refusal_named result was now packet number name fault number_is name_is appended =
    subst (λ (n : ℕ). OnOk result (now ≡ was ++ line_of (codes "bad-capture" ∷ decimal packet ∷ decimal n ∷ name_of fault ∷ []))) number_is
    (subst (λ (m : List ℕ). OnOk result (now ≡ was ++ line_of (codes "bad-capture" ∷ decimal packet ∷ decimal number ∷ m ∷ []))) name_is appended)

-- nothing is reported if memory ran out
pub none_told : (order : Order) (contents : List Content) (rest was now : List ℕ) (ended : Bool) (status : Status) → status ≡ OutOfMemory → now ≡ was
    → TellsBehind order contents rest ended status was now
none_told order contents rest was now ended status is same =
    subst (λ (s : Status). TellsBehind order contents rest ended s was now) (sym is) ([], refl, same ∙ sym (append-nil was))

-- a fault
pub fault_told : (order : Order) (contents : List Content) (rest was now : List ℕ) (ended : Bool) (status : Status) (packets : ℕ) (fault : CaptureFault)
    → packets ≡ length contents → HasPacketFault fault order rest → (ended ≡ true) ⊎ (fault ≡ Long) → packets + 1 < 2 ^ 32
    → (status ≡ BadCapture → now ≡ was ++ bad_capture_line (record { packet = packets + 1; fault = fault }))
    → (status ≡ OutOfMemory → now ≡ was) → (status ≡ BadCapture) ⊎ (status ≡ OutOfMemory)
    → TellsBehind order contents rest ended status was now
fault_told order contents rest was now ended status packets fault count has how room told memory (inr none) =
    none_told order contents rest was now ended status none (memory none)
fault_told order contents rest was now ended status packets fault count has how room told memory (inl bad) =
    let line = bad_capture_line (record { packet = length contents + 1; fault = fault }) in
    let written : now ≡ was ++ line = told bad ∙ ap (λ n. was ++ bad_capture_line (record { packet = n + 1; fault = fault })) count in
    subst (λ (s : Status). TellsBehind order contents rest ended s was now) (sym bad)
    (line, (fault, has, how, omega (arith, count, room), refl), written)

-- a packet with too great a number
pub large_told : (order : Order) (contents : List Content) (rest was now : List ℕ) (ended : Bool) (status : Status) (packets : ℕ)
    → packets ≡ length contents → (0 < length rest) × (packets + 1 ≡ 2 ^ 32)
    → (status ≡ TooLarge → now ≡ was ++ large_line (2 ^ 32)) → (status ≡ OutOfMemory → now ≡ was) → (status ≡ TooLarge) ⊎ (status ≡ OutOfMemory)
    → TellsBehind order contents rest ended status was now
large_told order contents rest was now ended status packets count last told memory (inr none) =
    none_told order contents rest was now ended status none (memory none)
large_told order contents rest was now ended status packets count last told memory (inl large) =
    subst (λ (s : Status). TellsBehind order contents rest ended s was now) (sym large)
    (large_line (2 ^ 32), (last.0, ap (λ n. n + 1) (sym count) ∙ last.1, refl), told large)

-- the counts
pub sum_told : (order : Order) (contents : List Content) (rest was now : List ℕ) (status : Status) → rest ≡ []
    → (status ≡ Done → now ≡ was ++ sum_line contents) → (status ≡ OutOfMemory → now ≡ was) → (status ≡ Done) ⊎ (status ≡ OutOfMemory)
    → TellsBehind order contents rest true status was now
sum_told order contents rest was now status none told memory (inr full) =
    none_told order contents rest was now true status full (memory full)
sum_told order contents rest was now status none told memory (inl done) =
    subst (λ (s : Status). TellsBehind order contents rest true s was now) (sym done)
    (sum_line contents, (refl, none, refl), told done)
