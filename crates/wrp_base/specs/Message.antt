-- Messages: which ones can be sent (IEEE 1588-2019, and this project's profile for the Sync).
use Rattle.std.specs.Prelude.{ℕ, ◌<◌, ◌^◌, ◌≢◌, ◌==◌, ◌&&◌, Bool, bit_and}
use Rattle.wrp_base.specs.declared.time.Ts.{Ts}
use Rattle.wrp_base.specs.declared.message.PortIdentity.{PortIdentity}
use Rattle.wrp_base.specs.declared.message.Body.{Body}
use Rattle.wrp_base.specs.declared.message.Body.TheVariants.{Sync, DelayReq, FollowUp, DelayResp, Announce, Signal}
use Rattle.wrp_base.specs.declared.message.PtpMsg.{PtpMsg}

-- a timestamp that fits its 48 bits of seconds and has less than a second of nanoseconds
abbrev pub FitsTimestamp : Ts → Type 0
FitsTimestamp t = (t.seconds < 2 ^ 48) × (t.nanos < 1_000_000_000)

-- each timestamp of the body fits
abbrev pub HasFittingTimes : Body → Type 0
HasFittingTimes (Sync origin) = FitsTimestamp origin
HasFittingTimes (DelayReq origin) = FitsTimestamp origin
HasFittingTimes (FollowUp precise) = FitsTimestamp precise
HasFittingTimes (DelayResp receive requesting) = FitsTimestamp receive
HasFittingTimes (Announce origin utc p1 quality p2 gm steps source suffix) = FitsTimestamp origin
HasFittingTimes (Signal target wr) = Unit {0}

-- a Sync has twoStepFlag among its flags
abbrev pub HasTwoStepFlag : ℕ → Body → Type 0
HasTwoStepFlag flags (Sync origin) = bit_and flags 0x0200 ≢ 0
HasTwoStepFlag flags (DelayReq origin) = Unit {0}
HasTwoStepFlag flags (FollowUp precise) = Unit {0}
HasTwoStepFlag flags (DelayResp receive requesting) = Unit {0}
HasTwoStepFlag flags (Announce origin utc p1 quality p2 gm steps source suffix) = Unit {0}
HasTwoStepFlag flags (Signal target wr) = Unit {0}

-- a message that can be sent
pub record IsSound (message : PtpMsg) : Type 0 where
  pub times : HasFittingTimes message.body
  pub two_step : HasTwoStepFlag message.head.flags message.body

-- the body in an unused place
abbrev pub empty_body : Body
empty_body = Sync (record { seconds = 0; nanos = 0 })

-- the portIdentity of all ones, which means every port of every clock
abbrev pub every_port : PortIdentity
every_port = record { clock = 0xffff_ffff_ffff_ffff; port = 0xffff }

-- whether two port identities are the same
abbrev pub is_port : PortIdentity → PortIdentity → Bool
is_port a b = (a.clock == b.clock) && (a.port == b.port)
