-- What is true of the delay half of an exchange, over the list of its calls, the newest first: the open request's
-- sending and the delay pair give the chain's constant and both ways (this project's profile).
use Rattle.std.specs.Prelude.{ℕ, ℤ, ◌≡◌, ◌≤◌, ◌+ℤ◌, ◌-ℤ◌, List, ◌∷◌, IfSome}
use Rattle.wrp_base.specs.declared.time.Stamp.{Stamp}
use Rattle.wrp_base.specs.declared.measurement.Four.{Four}
use Rattle.wrp_base.specs.Closeness.{IsWithin}
use Rattle.wrp_exch.specs.declared.delay.Sent.{Sent}
use Rattle.wrp_exch.specs.declared.delay.DelayPair.{DelayPair}
use Rattle.wrp_exch.specs.Call.{Call, CallSync, CallFollowUp, CallSample, CallStart, CallClear, CallReqOut, CallReqSent, CallResp}
use Rattle.wrp_exch.specs.DelayPair.{delay_pair, kept_sent}
use Rattle.wrp_exch.specs.DelayHalf.{open_request}
use Rattle.wrp_exch.specs.Exchange.{four_of}
use Rattle.wrp_bounds.specs.declared.numbers.HopNumbers.{HopNumbers}
use Rattle.wrp_bounds.specs.Hop.{down_error, up_error}
use Rattle.wrp_tracking_laws.specs.Moment.{Moment, ways_at}
use Rattle.wrp_tracking_laws.specs.History.{Was}
use Rattle.wrp_tracking_laws.specs.ErrorSum.{sync_sum, delay_sum}
use Rattle.wrp_tracking_laws.specs.SyncPieces.{Told, Among, SyncHolds}

-- a Delay_Resp with a sending gives the constant and both ways as they were at the departure
abbrev pub TellsWays : HopNumbers → (constant : ℤ) → (t4 : ℤ) → Sent → Moment → Type 0
TellsWays hop constant t4 s sent =
    IsWithin (up_error hop) ((t4 -ℤ s.t3) +ℤ s.u3) (constant +ℤ ways_at sent)

-- a Delay_Req's sending was at a moment of the history, and each Delay_Resp of its id that may still come gives the
-- constant and both ways
pub record SentTrue (hop : HopNumbers) (constant : ℤ) (past : List Moment) (from : ℕ)
    (may : List Told) (seq : ℕ) (s : Sent) : Type 0 where
  pub at : ℕ
  pub sent : Moment
  pub was : Was past at sent
  pub since : from ≤ at
  pub tick : s.tick ≡ sent.ticks
  pub own :
      (told : Told) → Among told may → told.seq ≡ seq → TellsWays hop constant told.time s sent

-- a delay pair gives the constant and both ways as they were at a moment of the history
pub record PairTrue (hop : HopNumbers) (constant : ℤ) (past : List Moment) (from : ℕ)
    (p : DelayPair) : Type 0 where
  pub at : ℕ
  pub sent : Moment
  pub was : Was past at sent
  pub since : from ≤ at
  pub tick : p.tick ≡ sent.ticks
  pub tells : IsWithin (up_error hop) ((p.t4 -ℤ p.t3) +ℤ p.u3) (constant +ℤ ways_at sent)

-- the open request's sending and the pair give the constant and both ways
pub record DelayHolds (hop : HopNumbers) (constant : ℤ) (past : List Moment) (from : ℕ)
    (may : List Told) (ring : ℕ) (calls : List Call) : Type 0 where
  pub request :
      IfSome (open_request ring calls)
      (λ r. IfSome r.sent (SentTrue hop constant past from may r.seq))
  pub pair : IfSome (delay_pair ring calls) (PairTrue hop constant past from)

-- a new request keeps this
abbrev pub RequestKeeps : Type 0
RequestKeeps =
    (hop : HopNumbers) (constant : ℤ) (past : List Moment) (from : ℕ) (may : List Told) (ring : ℕ) →
    (calls : List Call) (seq : ℕ) →
    DelayHolds hop constant past from may ring calls →
    DelayHolds hop constant past from may ring (CallReqOut seq ∷ calls)

-- a sending keeps it, if it is true when it is kept
abbrev pub SendingKeeps : Type 0
SendingKeeps =
    (hop : HopNumbers) (constant : ℤ) (past : List Moment) (from : ℕ) (may : List Told) (ring : ℕ) →
    (calls : List Call) (seq : ℕ) (t3 : Stamp) (tick : ℕ) →
    IfSome (kept_sent ring calls seq t3 tick) (SentTrue hop constant past from may seq) →
    DelayHolds hop constant past from may ring calls →
    DelayHolds hop constant past from may ring (CallReqSent seq t3 tick ∷ calls)

-- a Delay_Resp that may come keeps it
abbrev pub RespKeeps : Type 0
RespKeeps =
    (hop : HopNumbers) (constant : ℤ) (past : List Moment) (from : ℕ) (may : List Told) (ring : ℕ) →
    (calls : List Call) (seq : ℕ) (t4 : ℤ) →
    Among (record { seq = seq; time = t4 }) may →
    DelayHolds hop constant past from may ring calls →
    DelayHolds hop constant past from may ring (CallResp seq t4 ∷ calls)

-- all other calls keep it
abbrev pub OthersKeepDelay : Type 0
OthersKeepDelay =
    (hop : HopNumbers) (constant : ℤ) (past : List Moment) (from : ℕ) (may : List Told) (ring : ℕ) →
    (calls : List Call) (number seq tick : ℕ) (phase precise correction : ℤ) (t2 : Stamp) →
    DelayHolds hop constant past from may ring calls →
    DelayHolds hop constant past from may ring (CallFollowUp seq precise ∷ calls)
    × DelayHolds hop constant past from may ring (CallSync seq correction t2 tick ∷ calls)
    × DelayHolds hop constant past from may ring (CallSample number phase ∷ calls)
    × DelayHolds hop constant past from may ring (CallClear ∷ calls)
    × DelayHolds hop constant past from may ring (CallStart number ∷ calls)

-- the Sync of a four gives the constant, and its Delay_Req both ways as they were at a moment
abbrev pub FourTells : HopNumbers → ℤ → List Moment → ℕ → Four → Type 0
FourTells hop constant past from f =
    IsWithin (down_error hop) (sync_sum f) constant
    × ((at : ℕ) × (sent : Moment) × Was past at sent × (from ≤ at) × (f.tick ≤ sent.ticks)
    × IsWithin (up_error hop) (delay_sum f) (constant +ℤ ways_at sent))

-- the four after these calls: its Sync gives the constant, its Delay_Req both ways as they were at a moment of the
-- history, whose ticks are not before the four's
abbrev pub FourOfPieces : Type 0
FourOfPieces =
    (hop : HopNumbers) (constant : ℤ) (past : List Moment) (from : ℕ) (said may : List Told) →
    (ring : ℕ) (calls : List Call) →
    SyncHolds hop constant said ring calls →
    DelayHolds hop constant past from may ring calls →
    IfSome (four_of ring calls) (FourTells hop constant past from)
