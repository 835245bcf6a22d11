-- What a node sends is spelled by its octets: each number of it fits the octets that carry it.
use Rattle.std.proofs.Common.{◌≡◌, refl, sym, subst, ℕ, ℤ, pos, negsuc, ◌+◌, ◌-◌, ◌*◌, ◌%◌, ◌<◌, ◌≤◌, ◌^◌, ◌-ℤ◌, ◌==◌, ◌&&◌, lit<, nat_lt, min, unsigned_abs, Bool, true, false, if◌then◌else◌, List, [], ◌∷◌, ◌++◌, drop, length, length-append, Option, None, Some, IfSome, is_some, Result, Ok, Err, arith}
use Rattle.std.specs.Int.{w64, cast_unsigned, saturate_signed}
use Rattle.std.specs.List.{AllByRecursion}
use Rattle.std.specs.Prelude.{FitsSigned}
use Rattle.std.proofs.lemmas.Int.{ints, to_z-of_z}
use Rattle.std.proofs.lemmas.List.{get_or-drop}
use Rattle.byteorder.specs.Numbers.{big_from-lt}
use Rattle.wrp_base.proofs.Lists.{all_append}
use Rattle.wrp_base.specs.declared.link.LinkState.TheVariants.{LinkOn}
use Rattle.wrp_base.specs.declared.link.Role.{Role}
use Rattle.wrp_base.specs.declared.link.Role.TheVariants.{Master, Slave}
use Rattle.wrp_base.specs.declared.message.Body.{Body}
use Rattle.wrp_base.specs.declared.message.Body.TheVariants.{Sync, DelayReq, FollowUp, DelayResp, Announce, Signal}
use Rattle.wrp_base.specs.declared.message.Head.{Head}
use Rattle.wrp_base.specs.declared.message.PtpMsg.{PtpMsg}
use Rattle.wrp_base.specs.declared.message.WrMsg.{WrMsg}
use Rattle.wrp_base.specs.declared.time.Clock.{Clock}
use Rattle.wrp_base.specs.declared.time.Clock.TheVariants.{Mhz125, Mhz62}
use Rattle.wrp_base.specs.Clock.{steps_of_period}
use Rattle.wrp_base.specs.declared.time.Raw.{Raw}
use Rattle.wrp_base.specs.declared.time.Stamp.{Stamp}
use Rattle.wrp_base.specs.declared.time.Ts.{Ts}
use Rattle.wrp_base.specs.Message.{FitsTimestamp, HasFittingTimes, IsSound}
use Rattle.wrp_base.specs.Octets.{AreOctets}
use Rattle.wrp_course.specs.EventAt.{IsRaw}
use Rattle.wrp_data.specs.Announce.{bit_where, suffix_flags}
use Rattle.wrp_data.specs.declared.datasets.WrPortDs.{WrPortDs}
use Rattle.wrp_data.specs.declared.reason.Reason.{Reason}
use Rattle.wrp_frame.specs.declared.fault.FrameFault.{FrameFault}
use Rattle.wrp_frame.specs.declared.message_type.MessageType.{MessageType}
use Rattle.wrp_frame.specs.declared.message_type.MessageType.TheVariants as kinds
use Rattle.wrp_frame.specs.Fitting.{FitsAnnounce, FitsBody, FitsHead, FitsIdentity, FitsTime, IsMessageReadBack, IsReadBack, IsSuffixReadBack}
use Rattle.wrp_frame.specs.Grammar.{Spells}
use Rattle.wrp_frame.specs.MessageTypes.{kind_of_body, least_length}
use Rattle.wrp_frame.specs.SentOctets.{body_octets, head_octets, octets_of_tlvs, size_of, tlvs_of}
use Rattle.wrp_frame.proofs.Encoded.{IsSendable}
use Rattle.wrp_frame.proofs.SoundMessages.{spelled_is_sound}
use Rattle.wrp_link.specs.declared.interface.LinkIn.TheVariants as link_in
use Rattle.wrp_link.specs.LinkAt.{LinkAt}
use Rattle.wrp_link.specs.Table.{is_same, sends_of as link_sends_of}
use Rattle.wrp_node.proofs.Links.{before_ports}
use Rattle.wrp_node.proofs.Sound.{AllSound, sends_sound}
use Rattle.wrp_node.specs.declared.interface.Input.{Input}
use Rattle.wrp_node.specs.declared.interface.Input.TheVariants as inputs
use Rattle.wrp_node.specs.NodeAt.{NodeAt, NodeSetting, Taken, line_at, link_at, setting_of}
use Rattle.wrp_frame.specs.Saying.{Says}
use Rattle.wrp_node.specs.NodeStep.{heard_unless, message_of, node_step, servo_ticked, stepped, tick_of}
use Rattle.wrp_stamp.specs.Merge.{transition_of, merged, periods_at, place_of, quarter_of}
use Rattle.wrp_port.specs.declared.interface.PortIn.{PortIn}
use Rattle.wrp_port.specs.declared.interface.PortIn.TheVariants.{Msg, Lease, Tick, Sent, Carrier, Sample, Chain, Reset}
use Rattle.wrp_port.specs.declared.line.Rest.{Rest}
use Rattle.wrp_port.specs.declared.setting.Setting.{Setting}
use Rattle.wrp_port.specs.Hearing.{early_reason, is_open, link_input}
use Rattle.wrp_port.specs.History.{rest_after, link_of}
use Rattle.wrp_port.specs.LineAfter.{announces_on, requests_on, syncs_on, ticked}
use Rattle.wrp_port.specs.Messages.{announce_flags, announce_of, follow_up_of, head_of, next_id, request_of, response_of, signals_of, sync_of}
use Rattle.wrp_port.specs.Outputs.{is_newest, link_sends, response_to, scheduled_sends, sends_of, sends_unless, where_due}
use Rattle.wrp_port.specs.PortAt.{IsFit, IsStamp}
use Rattle.wrp_port.specs.Wire.{corrected_by, rest_of}
use Rattle.wrp_tlv.specs.Octets.{number_at}
use Rattle.wrp_tlv.proofs.ReadBack.{message_read_back, suffix_read_back}
use Rattle.wrp_tlv.specs.WhiteRabbit.{FitsOctets}
use Rattle.wrp_recorded_laws.proofs.Frames.{frame_fits}
use Rattle.wrp_due_laws.proofs.LinkFitting.{CarrierFits, LinkFits, heard_fits, ticked_fits}
use Rattle.wrp_due_laws.proofs.SetFitting.{FitsPort}

-- What a message has apart from its times

abbrev FitsOthers : Body → Type 0
FitsOthers (Sync origin) = Unit {0}
FitsOthers (DelayReq origin) = Unit {0}
FitsOthers (FollowUp precise) = Unit {0}
FitsOthers (DelayResp receive requesting) = FitsIdentity requesting
FitsOthers (Announce origin utc p1 quality p2 gm steps source suffix) = FitsAnnounce origin utc p1 quality p2 gm steps source × IfSome suffix (λ flags. flags < 256 ^ 2)
FitsOthers (Signal target wr) = FitsIdentity target × IfSome wr FitsOctets

abbrev FitsRest : PtpMsg → Type 0
FitsRest m = FitsHead m.head × FitsOthers m.body

abbrev AllRest : List PtpMsg → Type 0
AllRest ms = AllByRecursion FitsRest ms

-- each message is spelled by its octets
abbrev pub AllSendable : List PtpMsg → Type 0
AllSendable ms = AllByRecursion IsSendable ms

time_fits : (t : Ts) → FitsTimestamp t → FitsTime t
time_fits t h = let nanos = h.1 in record { seconds = h.0; nanos = omega (arith, nanos) }

body_fits : (body : Body) → HasFittingTimes body → FitsOthers body → FitsBody body
body_fits (Sync origin) times others = time_fits origin times
body_fits (DelayReq origin) times others = time_fits origin times
body_fits (FollowUp precise) times others = time_fits precise times
body_fits (DelayResp receive requesting) times others = (time_fits receive times, others)
body_fits (Announce origin utc p1 quality p2 gm steps source suffix) times others = others.0
body_fits (Signal target wr) times others = others.0

suffix_back : (suffix : Option ℕ) → IfSome suffix (λ flags. flags < 256 ^ 2) → IsSuffixReadBack suffix
suffix_back None h = tt
suffix_back (Some flags) h = suffix_read_back flags h

message_back : (wr : Option WrMsg) → IfSome wr FitsOctets → IsMessageReadBack wr
message_back None h = tt
message_back (Some m) h = message_read_back m h

body_back : (body : Body) → FitsOthers body → IsReadBack body
body_back (Sync origin) others = tt
body_back (DelayReq origin) others = tt
body_back (FollowUp precise) others = tt
body_back (DelayResp receive requesting) others = tt
body_back (Announce origin utc p1 quality p2 gm steps source suffix) others = suffix_back suffix others.1
body_back (Signal target wr) others = message_back wr others.1

least_few : (kind : MessageType) → least_length kind ≤ 64
least_few kinds.Sync = omega arith
least_few kinds.DelayReq = omega arith
least_few kinds.FollowUp = omega arith
least_few kinds.DelayResp = omega arith
least_few kinds.Announce = omega arith
least_few kinds.Signaling = omega arith

-- it has few octets
size_few : (m : PtpMsg) → size_of m.body < 256 ^ 2
size_few m =
    let few = (frame_fits m).few in
    let least = least_few (kind_of_body m.body) in
    let head : List ℕ = head_octets (kind_of_body m.body) (size_of m.body) m.head in
    let tlvs : List ℕ = octets_of_tlvs (tlvs_of m.body) in
    let all : length (head ++ (body_octets m.body ++ tlvs)) ≡ length head + length (body_octets m.body ++ tlvs) = length-append head (body_octets m.body ++ tlvs) in
    let back : length (body_octets m.body ++ tlvs) ≡ length (body_octets m.body) + length tlvs = length-append (body_octets m.body) tlvs in
    omega (arith, few, least, all, back)

sendable : (m : PtpMsg) → IsSound m → FitsRest m → IsSendable m
sendable m sound rest =
    record { sound = sound; size = size_few m; head = rest.0; body = body_fits m.body sound.times rest.1; back = body_back m.body rest.1 }

all_sendable : (ms : List PtpMsg) → AllSound ms → AllRest ms → AllSendable ms
all_sendable [] sound rest = tt
all_sendable (m ∷ ms) sound rest = (sendable m sound.0 rest.0, all_sendable ms sound.1 rest.1)

-- Numbers

below_word : (c : ℤ) → FitsSigned w64 c → cast_unsigned w64 c < 256 ^ 8
below_word (pos n) fits = let small : n < 2 ^ 63 = fits.sfits in omega (arith, small)
below_word (negsuc n) fits = omega arith

small_signed : (n : ℕ) → n < 2 ^ 63 → FitsSigned w64 (pos n)
small_signed n h = record { sfits = h }

rest_small : (r : ℕ) → rest_of r < 2 ^ 63
rest_small r = omega arith

saturated : (z : ℤ) → FitsSigned w64 (saturate_signed w64 z)
saturated (pos n) = let small : min n (2 ^ 63 - 1) < 2 ^ 63 = omega arith in record { sfits = small }
saturated (negsuc n) = let small : min n (2 ^ 63 - 1) < 2 ^ 63 = omega arith in record { sfits = small }

round_small : (n : ℕ) → n % 65536 < 256 ^ 2
round_small n = omega arith

where_small : (b : Bool) (x y most : ℕ) → x < most → y < most → (if b then x else y) < most
where_small true x y most h k = h
where_small false x y most h k = k

head_fits : (set : Setting) → FitsPort set → (flags : ℕ) (c : ℤ) (seq interval : ℕ) → flags < 256 ^ 2 → FitsSigned w64 c → seq < 256 ^ 2 → interval < 256 ^ 1
    → FitsHead (head_of set flags c seq interval)
head_fits set fits flags c seq interval f g h i =
    record { domain = fits.domain; flags = f; correction = below_word c g; signed = to_z-of_z w64 c g; source = fits.own; seq = h; interval = i }

-- The messages of a port

where_rest : (b : Bool) (m : PtpMsg) → FitsRest m → AllRest (where_due b m)
where_rest true m h = (h, tt)
where_rest false m h = tt

signals_rest : (set : Setting) → FitsPort set → (seq : ℕ) → seq < 256 ^ 2 → (ms : List WrMsg) → AllByRecursion FitsOctets ms → AllRest (signals_of set seq ms)
signals_rest set fits seq small [] h = tt
signals_rest set fits seq small (m ∷ ms) h =
    ((head_fits set fits 0 (pos 0) seq 0x7F (lit< tt) (small_signed 0 (lit< tt)) small (lit< tt), (fits.peer, h.0)), signals_rest set fits (next_id seq) (round_small (seq + 1)) ms h.1)

bit_small : (k most : ℕ) (b : Bool) → 2 ^ k ≤ most → bit_where k b ≤ most
bit_small k most true h = h
bit_small k most false h = omega arith

flags_small : (port : WrPortDs) → suffix_flags port < 256 ^ 2
flags_small port = let two = bit_small 2 4 port.known (omega arith) in let three = bit_small 3 8 port.on (omega arith) in omega (arith, two, three)

suffix_small : (set : Setting) (l : LinkAt) (b : Bool) (port : WrPortDs) → IfSome (if b then Some (suffix_flags port) else None) (λ flags. flags < 256 ^ 2)
suffix_small set l true port = flags_small port
suffix_small set l false port = tt

announce_rest : (set : Setting) → FitsPort set → (l : LinkAt) (certain : Bool) (seq : ℕ) → seq < 256 ^ 2 → FitsRest (announce_of set l certain seq)
announce_rest set fits l certain seq small = (
  head_fits set fits (announce_flags certain) (pos 0) seq 0 (where_small certain 0 0x0040 (256 ^ 2) (lit< tt) (lit< tt)) (small_signed 0 (lit< tt)) small (lit< tt),
  (
    record {
      origin = record { seconds = lit< tt; nanos = lit< tt };
      utc = lit< tt;
      signed = refl;
      p1 = lit< tt;
      quality = lit< tt;
      p2 = lit< tt;
      gm = fits.gm;
      steps = fits.steps;
      source = lit< tt;
    },
    suffix_small set l set.ds.wr (record { known = is_some l.own_module; on = is_same l.state LinkOn }),
  ),
)

sync_rest : (set : Setting) → FitsPort set → (seq : ℕ) → seq < 256 ^ 2 → FitsRest (sync_of set seq)
sync_rest set fits seq small = (head_fits set fits 0x0200 (pos 0) seq 0 (lit< tt) (small_signed 0 (lit< tt)) small (lit< tt), tt)

request_rest : (set : Setting) → FitsPort set → (seq : ℕ) → seq < 256 ^ 2 → FitsRest (request_of set seq)
request_rest set fits seq small = (head_fits set fits 0 (pos 0) seq 0x7F (lit< tt) (small_signed 0 (lit< tt)) small (lit< tt), tt)

follow_up_rest : (set : Setting) → FitsPort set → (seq : ℕ) (stamp : Stamp) → seq < 256 ^ 2 → FitsRest (follow_up_of set seq stamp)
follow_up_rest set fits seq stamp small =
    let r : ℕ = rest_of (unsigned_abs stamp.value) in
    (head_fits set fits 0 (pos r) seq 0 (lit< tt) (small_signed r (rest_small (unsigned_abs stamp.value))) small (lit< tt), tt)

-- what is taken of a header for an answer fits
pub record FitsReply (head : Head) : Type 0 where
  pub seq : head.seq < 256 ^ 2
  pub source : FitsIdentity head.source

answer_rest : (set : Setting) → FitsPort set → (head : Head) (stamp : Stamp) → FitsReply head → FitsRest (response_of set head stamp)
answer_rest set fits head stamp reply = (
  head_fits set fits 0 (corrected_by head.correction (unsigned_abs stamp.value)) head.seq 0 (lit< tt)
      (saturated (head.correction -ℤ pos (rest_of (unsigned_abs stamp.value)))) reply.seq (lit< tt),
  reply.source,
)

response_rest : (set : Setting) → FitsPort set → (role : Role) (head : Head) (body : Body) (stamp : Stamp) → FitsReply head → AllRest (response_to set role head body stamp)
response_rest set fits Slave head body stamp reply = tt
response_rest set fits Master head (DelayReq origin) stamp reply = (answer_rest set fits head stamp reply, tt)
response_rest set fits Master head (Sync origin) stamp reply = tt
response_rest set fits Master head (FollowUp precise) stamp reply = tt
response_rest set fits Master head (DelayResp receive requesting) stamp reply = tt
response_rest set fits Master head (Announce origin utc p1 quality p2 gm steps source suffix) stamp reply = tt
response_rest set fits Master head (Signal target message) stamp reply = tt

scheduled_rest : (set : Setting) → FitsPort set → (told : List PortIn) (role : Role) (locked certain : Bool) → AllRest (scheduled_sends set role (ticked set (rest_after set told) locked) certain)
scheduled_rest set fits told Master locked certain =
    let line : Rest = ticked set (rest_after set told) locked in
    all_append FitsRest (where_due (announces_on line) (announce_of set line.link certain line.ids.announce)) (where_due (syncs_on line) (sync_of set line.ids.sync))
    (where_rest (announces_on line) (announce_of set line.link certain line.ids.announce) (announce_rest set fits line.link certain line.ids.announce (round_small _)))
    (where_rest (syncs_on line) (sync_of set line.ids.sync) (sync_rest set fits line.ids.sync (round_small _)))
scheduled_rest set fits told Slave locked certain =
    let line : Rest = ticked set (rest_after set told) locked in
    where_rest (requests_on line) (request_of set line.ids.request) (request_rest set fits line.ids.request (round_small _))

heard_rest : (set : Setting) → FitsPort set → (told : List PortIn) → LinkFits (link_of set told) → (m : PtpMsg) (stamp : Stamp) → FitsReply m.head → (o : Option Reason)
    → AllRest (sends_unless o set (rest_after set told) m stamp)
heard_rest set fits told linked m stamp reply (Some reason) = tt
heard_rest set fits told linked m stamp reply None =
    let line : Rest = rest_after set told in
    all_append FitsRest (signals_of set line.ids.signal (link_sends line.link (link_input set.ds.role m.body))) (response_to set set.ds.role m.head m.body stamp)
    (signals_rest set fits line.ids.signal (round_small _) (link_sends line.link (link_input set.ds.role m.body)) (heard_fits line.link linked set.ds.role m.body))
    (response_rest set fits set.ds.role m.head m.body stamp reply)

-- an input of a port fits
abbrev PortFits : PortIn → Type 0
PortFits (Msg m stamp tick) = IsSound m × IsStamp stamp × FitsReply m.head
PortFits (Sent delay seq stamp tick) = IsStamp stamp × (seq < 256 ^ 2)
PortFits _ = Unit {0}

is_fit : (input : PortIn) → PortFits input → IsFit input
is_fit (Msg m stamp tick) h = (h.0, h.1)
is_fit (Sent delay seq stamp tick) h = h.0
is_fit Lease h = tt
is_fit (Tick locked certain) h = tt
is_fit (Carrier up own_module) h = tt
is_fit (Sample n u) h = tt
is_fit (Chain news) h = tt
is_fit Reset h = tt

sends_rest : (set : Setting) → FitsPort set → (told : List PortIn) → LinkFits (link_of set told) → (input : PortIn) → PortFits input → AllRest (sends_of set (rest_after set told) input)
sends_rest set fits told linked (Msg m stamp tick) h = heard_rest set fits told linked m stamp h.2 (early_reason set (rest_after set told).link m)
sends_rest set fits told linked (Tick locked certain) h =
    let line : Rest = rest_after set told in
    all_append FitsRest (signals_of set line.ids.signal (link_sends_of line.link (link_in.Tick locked))) (scheduled_sends set set.ds.role (ticked set line locked) certain)
    (signals_rest set fits line.ids.signal (round_small _) (link_sends_of line.link (link_in.Tick locked)) (ticked_fits line.link linked locked))
    (scheduled_rest set fits told set.ds.role locked certain)
sends_rest set fits told linked (Sent false seq stamp tick) h =
    let line : Rest = rest_after set told in
    where_rest (is_newest line.ids.newest_sync seq && is_open line.link) (follow_up_of set seq stamp) (follow_up_rest set fits seq stamp h.1)
sends_rest set fits told linked (Sent true seq stamp tick) h = tt
sends_rest set fits told linked Lease h = tt
sends_rest set fits told linked (Carrier up own_module) h = tt
sends_rest set fits told linked (Sample n u) h = tt
sends_rest set fits told linked (Chain news) h = tt
sends_rest set fits told linked Reset h = tt

port_sendable : (set : Setting) → FitsPort set → (told : List PortIn) → LinkFits (link_of set told) → (input : PortIn) → PortFits input → AllSendable (sends_of set (rest_after set told) input)
port_sendable set fits told linked input h =
    all_sendable (sends_of set (rest_after set told) input) (sends_sound set (rest_after set told) input (is_fit input h)) (sends_rest set fits told linked input h)

-- What octets say

two_small : (at : ℕ) (octets : List ℕ) → AreOctets octets → number_at at 2 octets < 256 ^ 2
two_small at octets small = big_from-lt 0 2 (drop at octets) (λ k. let octet = small (at + k) in rw (get_or-drop at octets k 0) octet)

eight_small : (at : ℕ) (octets : List ℕ) → AreOctets octets → number_at at 8 octets < 256 ^ 8
eight_small at octets small = big_from-lt 0 8 (drop at octets) (λ k. let octet = small (at + k) in rw (get_or-drop at octets k 0) octet)

spelled_reply : (octets : List ℕ) (m : PtpMsg) → AreOctets octets → Spells octets m → FitsReply m.head
spelled_reply octets m small spells =
    subst (λ (k : PtpMsg). FitsReply k.head) (sym spells.is)
    (record { seq = two_small 30 octets small; source = record { clock = eight_small 20 octets small; port = two_small 28 octets small } })

-- Stamps

falling_small : (a b : Bool) (x y most : ℕ) → x ≤ most → y ≤ most → (if a then x else (if b then y else x - 1)) ≤ most
falling_small true b x y most h k = h
falling_small false true x y most h k = k
falling_small false false x y most h k = omega (arith, h)

periods_small : (clock : Clock) (raw : Raw) (place : ℕ) → IsRaw raw → periods_at clock raw place ≤ 9_223_372_036_854_775_807
periods_small clock raw place h =
    falling_small (nat_lt place (quarter_of clock)) (nat_lt place (3 * quarter_of clock)) raw.falling raw.rising 9_223_372_036_854_775_807 h.falling.1 h.rising.1

merged_small : (clock : Clock) (raw : Raw) (transition : ℕ) → IsRaw raw → merged clock raw transition ≤ 2 ^ 93
merged_small Mhz125 raw transition h = let most = periods_small Mhz125 raw (place_of Mhz125 raw.tag transition) h in omega (arith, most)
merged_small Mhz62 raw transition h = let most = periods_small Mhz62 raw (place_of Mhz62 raw.tag transition) h in omega (arith, most)

natural_stamp : (n sample : ℕ) → n ≤ 2 ^ 93 → IsStamp (record { value = pos n; sample = sample })
natural_stamp n sample h = (omega (arith, ints), omega (arith, ints, h))

-- A node

-- an input of a node fits
abbrev pub InputFits : Input → Result PtpMsg FrameFault → Type 0
InputFits (inputs.Frame p octets raw sample) says = Says octets.items says × AreOctets octets.items × IsRaw raw
InputFits (inputs.Sent p seq delay stamp) says = IsStamp stamp × (seq < 256 ^ 2)
InputFits input says = CarrierFits input

only_sendable : (b : Bool) (ms : List PtpMsg) → AllSendable ms → AllSendable (if b then ms else [])
only_sendable true ms h = h
only_sendable false ms h = tt

none_sendable : (b : Bool) → AllSendable (if b then [] else [])
none_sendable true = tt
none_sendable false = tt

message_fits : (fixed : NodeSetting) (n : NodeAt) (p : ℕ) (octets : List ℕ) (m : PtpMsg) (raw : Raw) (sample : ℕ) → Spells octets m → AreOctets octets → IsRaw raw
    → PortFits (message_of fixed n p m raw sample)
message_fits fixed n p octets m raw sample spells small is = (
  spelled_is_sound octets (Ok m) small spells,
  natural_stamp (merged fixed.set.servo.clock raw (transition_of (link_at fixed.set n p).own_module % steps_of_period)) sample
      (merged_small fixed.set.servo.clock raw (transition_of (link_at fixed.set n p).own_module % steps_of_period) is),
  spelled_reply octets m small spells,
)

unless_sendable : (fixed : NodeSetting) (n : NodeAt) (q p : ℕ) (input : PortIn) (y : ℤ) (o : Option Reason) → AllSendable (sends_of (setting_of fixed.set q) (line_at fixed.set n q) input)
    → AllSendable ((heard_unless o fixed q input y n).sends p)
unless_sendable fixed n q p input y None h = only_sendable (p == q) (sends_of (setting_of fixed.set q) (line_at fixed.set n q) input) h
unless_sendable fixed n q p input y (Some reason) h = tt

stepped_sendable : (fixed : NodeSetting) (n : NodeAt) (input : Input) (says : Result PtpMsg FrameFault) (y : ℤ) (p : ℕ) → ((q : ℕ) → FitsPort (setting_of fixed.set q))
    → ((q : ℕ) → LinkFits (link_at fixed.set n q)) → InputFits input says → AllSendable ((stepped fixed input says y n).sends p)
stepped_sendable fixed n inputs.Tick says y p fits linked h =
    let s : NodeAt = (servo_ticked fixed n).node in
    port_sendable (setting_of fixed.set p) (fits p) (s.told p) (subst LinkFits (sym (before_ports fixed n p)) (linked p)) (tick_of fixed s) tt
stepped_sendable fixed n (inputs.Sample number base bits) says y p fits linked h = tt
stepped_sendable fixed n (inputs.Frame q octets raw sample) (Err fault) y p fits linked h = tt
stepped_sendable fixed n (inputs.Frame q octets raw sample) (Ok m) y p fits linked h =
    let input : PortIn = message_of fixed n q m raw sample in
    unless_sendable fixed n q p input y (early_reason (setting_of fixed.set q) (link_at fixed.set n q) m)
    (port_sendable (setting_of fixed.set q) (fits q) (n.told q) (linked q) input (message_fits fixed n q octets.items m raw sample h.0 h.1 h.2))
stepped_sendable fixed n (inputs.Sent q seq delay stamp) says y p fits linked h =
    let input : PortIn = Sent delay seq stamp n.ticks in
    only_sendable (p == q) (sends_of (setting_of fixed.set q) (line_at fixed.set n q) input) (port_sendable (setting_of fixed.set q) (fits q) (n.told q) (linked q) input h)
stepped_sendable fixed n (inputs.Carrier q up own_module) says y p fits linked h = none_sendable (p == q)
stepped_sendable fixed n inputs.Reset says y p fits linked h = tt

-- what a node sends at an input that fits
pub node_sendable : (fixed : NodeSetting) (n : NodeAt) (t : Taken) (p : ℕ) → ((q : ℕ) → FitsPort (setting_of fixed.set q)) → ((q : ℕ) → LinkFits (link_at fixed.set n q))
    → InputFits t.input t.says → AllSendable ((node_step fixed t n).sends p)
node_sendable fixed n t p fits linked h = stepped_sendable fixed n t.input t.says t.answer p fits linked h
