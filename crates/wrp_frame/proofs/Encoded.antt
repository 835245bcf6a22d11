-- The octets of a sound message spell it, and are its frame as it is sent.
use Rattle.std.proofs.Common.{◌≡◌, ◌≢◌, ◌<◌, ◌+◌, ◌-◌, ◌^◌, ◌%◌, ◌||◌, ℕ, List, [], ◌∷◌, ◌++◌, length, take, drop, false, Option, Some, None, refl, sym, ap, ap₂, ◌∙◌, subst, arith}
use Rattle.std.specs.List.{list_any}
use Rattle.std.specs.Prelude.{bit_and, slice_index}
use Rattle.std.proofs.Math.Seq.{take-length}
use Rattle.std.proofs.lemmas.List.{append-nil}
use Rattle.wrp_base.specs.declared.message.Head.{Head}
use Rattle.wrp_base.specs.declared.message.WrMsg.{WrMsg}
use Rattle.wrp_base.specs.declared.message.Body.{Body}
use Rattle.wrp_base.specs.declared.message.Body.TheVariants.{Sync, DelayReq, FollowUp, DelayResp, Announce, Signal}
use Rattle.wrp_base.specs.declared.message.PtpMsg.{PtpMsg}
use Rattle.wrp_base.specs.Message.{IsSound, HasFittingTimes, HasTwoStepFlag}
use Rattle.byteorder.specs.Endian.{big_bytes}
use Rattle.wrp_tlv.specs.TlvList.{TypedValue, Fills, extension}
use Rattle.wrp_tlv.specs.WhiteRabbit.{wr_read, wr_value, suffix_value}
use Rattle.wrp_tlv.specs.WhiteRabbitList.{read_of, is_bad, message_or, suffix_or, first_message, first_suffix}
use Rattle.wrp_frame.specs.declared.message_type.MessageType.{MessageType}
use Rattle.wrp_frame.specs.declared.message_type.MessageType.TheVariants as kinds
use Rattle.wrp_frame.specs.MessageTypes.{number_of, kind_numbered, control_of, least_length, kind_of_body}
use Rattle.wrp_frame.specs.Header.{head_at, message_length}
use Rattle.wrp_frame.specs.Body.{body_at}
use Rattle.wrp_frame.specs.Grammar.{HasTime, tlv_part, Spells}
use Rattle.wrp_frame.specs.Fitting.{FitsHead, FitsBody, IsReadBack, IsSuffixReadBack, IsMessageReadBack}
use Rattle.wrp_frame.specs.SentOctets.{head_octets, body_octets, octets_of_tlvs, suffix_tlvs, message_tlvs, tlvs_of, size_of, octets_of}
use Rattle.wrp_frame.specs.Sent.{IsFrameOf}
use Rattle.wrp_frame.proofs.Numbers.{same, time_same, identity_same, head_same, announce_same}

-- TLVs that are sent and are short enough for messageLength fill their octets, and none is a bad one
pub record AreSent (tlvs : List TypedValue) : Type 0 where
  pub fill : length (octets_of_tlvs tlvs) < 256 ^ 2 → Fills tlvs (octets_of_tlvs tlvs)
  pub sound : list_any (λ tlv. is_bad (read_of tlv)) tlvs ≡ false

none_sent : AreSent []
none_sent = record { fill = λ short. refl; sound = refl }

one_sent : (value : List ℕ) → is_bad (wr_read value) || false ≡ false → AreSent (extension value ∷ [])
one_sent value sound = record {
  fill = λ short.
      let long = same 2 (length value) (omega (arith, ap length (append-nil value))) in
      (big_bytes 2 0x0003 ++ big_bytes 2 (length value), [], refl, record { whole = refl; kind = refl; long = sym long }, refl);
  sound = sound;
}

suffix_sent : (suffix : Option ℕ) → IsSuffixReadBack suffix → AreSent (suffix_tlvs suffix)
suffix_sent None back = none_sent
suffix_sent (Some flags) back = one_sent (suffix_value flags) (ap (λ read. is_bad read || false) back)

suffix_read : (suffix : Option ℕ) → IsSuffixReadBack suffix → first_suffix (suffix_tlvs suffix) ≡ suffix
suffix_read None back = refl
suffix_read (Some flags) back = ap (λ read. suffix_or read None) back

message_sent : (wr : Option WrMsg) → IsMessageReadBack wr → AreSent (message_tlvs wr)
message_sent None back = none_sent
message_sent (Some message) back = one_sent (wr_value message) (ap (λ read. is_bad read || false) back)

message_read : (wr : Option WrMsg) → IsMessageReadBack wr → first_message (message_tlvs wr) ≡ wr
message_read None back = refl
message_read (Some message) back = ap (λ read. message_or read None) back

-- what is read of a kind's own numbers, and of its time
pub record IsOwn (kind : MessageType) : Type 0 where
  pub kind_is : kind_numbered (number_of kind % 256 % 16) ≡ Some kind
  pub number : number_of kind % 256 ≡ number_of kind
  pub control : control_of kind % 256 ≡ control_of kind
  pub time : (tlvs : List TypedValue) (octets : List ℕ) → HasFittingTimes (body_at kind tlvs octets) → HasTime kind octets

own : (kind : MessageType) → IsOwn kind
own kinds.Sync = record { kind_is = refl; number = refl; control = refl; time = λ tlvs octets fits stamped. fits.1 }
own kinds.DelayReq = record { kind_is = refl; number = refl; control = refl; time = λ tlvs octets fits stamped. fits.1 }
own kinds.FollowUp = record { kind_is = refl; number = refl; control = refl; time = λ tlvs octets fits stamped. fits.1 }
own kinds.DelayResp = record { kind_is = refl; number = refl; control = refl; time = λ tlvs octets fits stamped. fits.1 }
own kinds.Announce = record { kind_is = refl; number = refl; control = refl; time = λ tlvs octets fits stamped. fits.1 }
own kinds.Signaling = record { kind_is = refl; number = refl; control = refl; time = λ tlvs octets fits stamped. cc }

-- the octets of a header and a body, with others after them
abbrev pub framed : ℕ → Head → Body → List ℕ → List ℕ
framed size head body rest = head_octets (kind_of_body body) size head ++ body_octets body ++ rest

-- what is read of a body that is sent
pub record IsRead (flags : ℕ) (body : Body) (rest octets : List ℕ) : Type 0 where
  pub is : body_at (kind_of_body body) (tlvs_of body) octets ≡ body
  pub long : length octets ≡ least_length (kind_of_body body) + length rest
  pub behind : drop (least_length (kind_of_body body)) octets ≡ rest
  pub reserved : kind_of_body body ≡ kinds.Announce → slice_index octets 46 ≡ 0
  pub two_step : kind_of_body body ≡ kinds.Sync → bit_and flags 0x0200 ≢ 0
  pub tlvs : AreSent (tlvs_of body)

-- the six bodies
body_read : (size : ℕ) (head : Head) (body : Body) (rest : List ℕ) → FitsBody body → IsReadBack body → HasTwoStepFlag head.flags body
    → IsRead head.flags body rest (framed size head body rest)
body_read size head (Sync origin) rest fits back flag =
    record { is = ap Sync (time_same origin fits); long = omega arith; behind = refl; reserved = λ n. cc; two_step = λ n. flag; tlvs = none_sent }
body_read size head (DelayReq origin) rest fits back flag =
    record { is = ap DelayReq (time_same origin fits); long = omega arith; behind = refl; reserved = λ n. cc; two_step = λ n. cc; tlvs = none_sent }
body_read size head (FollowUp precise) rest fits back flag =
    record { is = ap FollowUp (time_same precise fits); long = omega arith; behind = refl; reserved = λ n. cc; two_step = λ n. cc; tlvs = none_sent }
body_read size head (DelayResp receive requesting) rest (time, identity) back flag =
    let is = ap₂ DelayResp (time_same receive time) (identity_same requesting identity) in
    record { is = is; long = omega arith; behind = refl; reserved = λ n. cc; two_step = λ n. cc; tlvs = none_sent }
body_read size head (Announce origin utc p1 quality p2 gm steps source suffix) rest fits back flag =
    let is = announce_same origin utc p1 quality p2 gm steps source (first_suffix (suffix_tlvs suffix)) fits
    ∙ ap (Announce origin utc p1 quality p2 gm steps source) (suffix_read suffix back) in
    record { is = is; long = omega arith; behind = refl; reserved = λ n. refl; two_step = λ n. cc; tlvs = suffix_sent suffix back }
body_read size head (Signal target wr) rest fits back flag =
    let is = ap₂ Signal (identity_same target fits) (message_read wr back) in
    record { is = is; long = omega arith; behind = refl; reserved = λ n. cc; two_step = λ n. cc; tlvs = message_sent wr back }

-- a sound message, whose numbers fit their octets
pub record IsSendable (message : PtpMsg) : Type 0 where
  pub sound : IsSound message
  pub size : size_of message.body < 256 ^ 2
  pub head : FitsHead message.head
  pub body : FitsBody message.body
  pub back : IsReadBack message.body

-- what is read of the whole message
pub record IsWhole (message : PtpMsg) (octets : List ℕ) : Type 0 where
  pub body : IsRead message.head.flags message.body (octets_of_tlvs (tlvs_of message.body)) octets
  pub head : head_at octets ≡ message.head
  pub long : message_length octets ≡ length octets
  pub fill : Fills (tlvs_of message.body) (tlv_part (kind_of_body message.body) octets)

whole : (message : PtpMsg) → IsSendable message → IsWhole message (octets_of message)
whole message can =
    let octets = octets_of message in
    let rest = octets_of_tlvs (tlvs_of message.body) in
    let known = body_read (size_of message.body) message.head message.body rest can.body can.back can.sound.two_step in
    let size = same 2 (size_of message.body) can.size in
    let left = message_length octets - least_length (kind_of_body message.body) in
    let all : left ≡ length rest = omega (arith, size) in
    let part : take left (drop (least_length (kind_of_body message.body)) octets) ≡ rest =
    ap (take left) known.behind ∙ ap (λ n. take n rest) all ∙ take-length rest in
    let few = can.size in
    record {
      body = known;
      head = head_same message.head can.head;
      long = size ∙ sym known.long;
      fill = subst (Fills (tlvs_of message.body)) (sym part) (known.tlvs.fill (omega arith));
    }

-- the octets of a sound message spell it
pub octets_spell : (message : PtpMsg) → IsSendable message → Spells (octets_of message) message
octets_spell message can =
    let read = whole message can in
    let kind = kind_of_body message.body in
    let tlvs = tlvs_of message.body in
    let long = read.long in
    let length_is = read.body.long in
    record {
      kind = kind;
      header = record { whole = omega arith; version = refl; kind_is = (own kind).kind_is };
      sized = record { least = omega arith; most = omega arith };
      time = (own kind).time tlvs (octets_of message) (subst HasFittingTimes (sym read.body.is) can.sound.times);
      tlvs = tlvs;
      listed = record { filled = read.fill; sound = λ reads. read.body.tlvs.sound };
      two_step = λ sync none. read.body.two_step sync (ap (λ h. bit_and h.flags 0x0200) (sym read.head) ∙ none);
      is = sym (ap₂ (λ h b. record { head = h; body = b }) read.head read.body.is);
    }

-- they are its frame as it is sent
pub octets_are_frame : (message : PtpMsg) → IsSendable message → IsFrameOf message (octets_of message)
octets_are_frame message can =
    let read = whole message can in
    let kind = own (kind_of_body message.body) in
    record {
      sent = record {
        number = kind.number;
        version = refl;
        sdo_id = refl;
        specific = refl;
        reserved = read.body.reserved;
        control = kind.control;
        whole = read.long;
      };
      tlvs = read.fill;
    }
