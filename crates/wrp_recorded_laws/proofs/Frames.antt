-- The octets of a message, as it is sent, are octets, and fit a frame.
use Rattle.std.proofs.Common.{◌≡◌, ℕ, zero, suc, ◌+◌, ◌<◌, ◌≤◌, List, [], ◌∷◌, ◌++◌, length, length-append, None, Some, arith}
use Rattle.std.specs.List.{AllByRecursion}
use Rattle.std.specs.Int.{bytes_high_first, cast_unsigned, w16, w64}
use Rattle.byteorder.specs.Endian.{big_bytes}
use Rattle.byteorder.specs.Numbers.{length-bytes_high_first}
use Rattle.wrp_base.specs.declared.message.Body.{Body}
use Rattle.wrp_base.specs.declared.message.Body.TheVariants.{Sync, DelayReq, FollowUp, DelayResp, Announce, Signal}
use Rattle.wrp_base.specs.declared.message.Head.{Head}
use Rattle.wrp_base.specs.declared.message.PortIdentity.{PortIdentity}
use Rattle.wrp_base.specs.declared.message.PtpMsg.{PtpMsg}
use Rattle.wrp_base.specs.declared.message.WrMsg.{WrMsg}
use Rattle.wrp_base.specs.declared.message.WrMsg.TheVariants.{Present, Lock, Locked, Calibrate, Calibrated, ModeOn}
use Rattle.wrp_base.specs.declared.time.Ts.{Ts}
use Rattle.wrp_base.specs.Octets.{AreOctets}
use Rattle.wrp_frame.specs.declared.message_type.MessageType.{MessageType}
use Rattle.wrp_frame.specs.MessageTypes.{control_of, kind_of_body, number_of}
use Rattle.wrp_frame.specs.SentOctets.{body_octets, head_octets, identity_octets, octets_of, octets_of_tlvs, size_of, timestamp_octets, tlvs_of}
use Rattle.wrp_tlv.specs.TlvList.{extension, tlv_octets}
use Rattle.wrp_tlv.specs.WhiteRabbit.{data_of, id_of, suffix_value, value_start, wr_value}
use Rattle.wrp_trace.proofs.DigitLemmas.{octet_small}
use Rattle.wrp_recorded_laws.specs.Ranges.{FitsFrame}

abbrev Small : List ℕ → Type 0
Small octets = AllByRecursion (λ n. n < 256) octets

both : (xs ys : List ℕ) → Small xs → Small ys → Small (xs ++ ys)
both [] ys h k = k
both (x ∷ xs) ys h k = (h.0, both xs ys h.1 k)

number_small : (n x : ℕ) → Small (bytes_high_first n x)
number_small zero x = tt
number_small (suc n) x = (octet_small n x, number_small n x)

are_octets : (octets : List ℕ) → Small octets → AreOctets octets
are_octets [] h i = omega arith
are_octets (x ∷ xs) h zero = h.0
are_octets (x ∷ xs) h (suc i) = are_octets xs h.1 i

-- octets, at most this many
record Short (most : ℕ) (octets : List ℕ) : Type 0 where
  small : Small octets
  few : length octets ≤ most

nothing : Short 0 []
nothing = record { small = tt; few = omega arith }

number : (n x : ℕ) → Short n (big_bytes n x)
number n x = let size : length (bytes_high_first n x) ≡ n = length-bytes_high_first n x in record { small = number_small n x; few = omega (arith, size) }

join : (a b : ℕ) (xs ys : List ℕ) → Short a xs → Short b ys → Short (a + b) (xs ++ ys)
join a b xs ys h k =
    let all : length (xs ++ ys) ≡ length xs + length ys = length-append xs ys in
    let one = h.few in
    let two = k.few in
    record { small = both xs ys h.small k.small; few = omega (arith, all, one, two) }

weaker : (a b : ℕ) (xs : List ℕ) → Short a xs → a ≤ b → Short b xs
weaker a b xs h e = let one = h.few in record { small = h.small; few = omega (arith, one, e) }

time_short : (t : Ts) → Short 10 (timestamp_octets t)
time_short t = join 6 4 (big_bytes 6 t.seconds) (big_bytes 4 t.nanos) (number 6 t.seconds) (number 4 t.nanos)

identity_short : (i : PortIdentity) → Short 10 (identity_octets i)
identity_short i = join 8 2 (big_bytes 8 i.clock) (big_bytes 2 i.port) (number 8 i.clock) (number 2 i.port)

head_short : (kind : MessageType) (size : ℕ) (head : Head) → Short 34 (head_octets kind size head)
head_short kind size head =
    join 1 33 _ _ (number 1 (number_of kind))
    (join 1 32 _ _ (number 1 2)
    (join 2 30 _ _ (number 2 size)
    (join 1 29 _ _ (number 1 head.domain)
    (join 1 28 _ _ (number 1 0)
    (join 2 26 _ _ (number 2 head.flags)
    (join 8 18 _ _ (number 8 (cast_unsigned w64 head.correction))
    (join 4 14 _ _ (number 4 0)
    (join 10 4 _ _ (identity_short head.source)
    (join 2 2 _ _ (number 2 head.seq)
    (join 1 1 _ _ (number 1 (control_of kind)) (number 1 head.interval)))))))))))

body_short : (body : Body) → Short 40 (body_octets body)
body_short (Sync origin) = weaker 10 40 _ (time_short origin) (omega arith)
body_short (DelayReq origin) = weaker 10 40 _ (time_short origin) (omega arith)
body_short (FollowUp precise) = weaker 10 40 _ (time_short precise) (omega arith)
body_short (DelayResp receive requesting) = weaker 20 40 _ (join 10 10 _ _ (time_short receive) (identity_short requesting)) (omega arith)
body_short (Announce origin utc p1 quality p2 gm steps source suffix) =
    weaker 30 40 _
    (join 10 20 _ _ (time_short origin)
    (join 2 18 _ _ (number 2 (cast_unsigned w16 utc))
    (join 1 17 _ _ (number 1 0)
    (join 1 16 _ _ (number 1 p1)
    (join 4 12 _ _ (number 4 quality)
    (join 1 11 _ _ (number 1 p2)
    (join 8 3 _ _ (number 8 gm)
    (join 2 1 _ _ (number 2 steps) (number 1 source))))))))) (omega arith)
body_short (Signal target wr) = weaker 10 40 _ (identity_short target) (omega arith)

start_short : (id : ℕ) → Short 8 (value_start id)
start_short id = join 6 2 _ _ (number 6 0x0800_30DE_AD01) (number 2 id)

data_short : (message : WrMsg) → Short 16 (data_of message)
data_short Present = weaker 0 16 [] nothing (omega arith)
data_short Lock = weaker 0 16 [] nothing (omega arith)
data_short Locked = weaker 0 16 [] nothing (omega arith)
data_short (Calibrate pattern retry period) = weaker 6 16 _ (join 1 5 _ _ (number 1 pattern) (join 1 4 _ _ (number 1 retry) (number 4 period))) (omega arith)
data_short (Calibrated tx rx) = join 8 8 _ _ (number 8 tx) (number 8 rx)
data_short ModeOn = weaker 0 16 [] nothing (omega arith)

value_short : (message : WrMsg) → Short 24 (wr_value message)
value_short message = join 8 16 _ _ (start_short (id_of message)) (data_short message)

suffix_short : (flags : ℕ) → Short 24 (suffix_value flags)
suffix_short flags = weaker 10 24 _ (join 8 2 _ _ (start_short 0x2000) (number 2 flags)) (omega arith)

tlv_short : (value : List ℕ) → Short 24 value → Short 28 (octets_of_tlvs (extension value ∷ []))
tlv_short value h = join 28 0 (tlv_octets (extension value)) [] (join 2 26 _ _ (number 2 0x0003) (join 2 24 _ _ (number 2 (length value)) h)) nothing

tlvs_short : (body : Body) → Short 28 (octets_of_tlvs (tlvs_of body))
tlvs_short (Sync origin) = weaker 0 28 [] nothing (omega arith)
tlvs_short (DelayReq origin) = weaker 0 28 [] nothing (omega arith)
tlvs_short (FollowUp precise) = weaker 0 28 [] nothing (omega arith)
tlvs_short (DelayResp receive requesting) = weaker 0 28 [] nothing (omega arith)
tlvs_short (Announce origin utc p1 quality p2 gm steps source None) = weaker 0 28 [] nothing (omega arith)
tlvs_short (Announce origin utc p1 quality p2 gm steps source (Some flags)) = tlv_short (suffix_value flags) (suffix_short flags)
tlvs_short (Signal target None) = weaker 0 28 [] nothing (omega arith)
tlvs_short (Signal target (Some message)) = tlv_short (wr_value message) (value_short message)

pub frame_fits : (message : PtpMsg) → FitsFrame (octets_of message)
frame_fits message =
    let all : Short 102 (octets_of message) =
    join 34 68 _ _ (head_short (kind_of_body message.body) (size_of message.body) message.head)
    (join 40 28 _ _ (body_short message.body) (tlvs_short message.body)) in
    let few = all.few in
    record { each = are_octets (octets_of message) all.small; few = omega (arith, few) }
