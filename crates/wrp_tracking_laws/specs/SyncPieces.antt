-- What is true of the Sync half of an exchange, over the list of its calls, the newest first: the pending Sync and the
-- Sync pair give the chain's constant (this project's profile).
use Rattle.std.specs.Prelude.{ℕ, ℤ, pos, true, ◌≡◌, ◌<◌, ◌⊎◌, ◌+ℤ◌, ◌-ℤ◌, ◌*ℤ◌, List, [], ◌∷◌, IfSome}
use Rattle.std.specs.Option.{is_some}
use Rattle.wrp_base.specs.declared.time.Stamp.{Stamp}
use Rattle.wrp_base.specs.Closeness.{IsWithin}
use Rattle.wrp_exch.specs.declared.sync.HeldSync.{HeldSync}
use Rattle.wrp_exch.specs.Call.{Call, CallSync, CallFollowUp, CallSample, CallStart, CallClear, CallReqOut, CallReqSent, CallResp}
use Rattle.wrp_exch.specs.Samples.{phase_in, last_samples}
use Rattle.wrp_exch.specs.SyncPair.{sync_pair, kept_sync}
use Rattle.wrp_exch.specs.SyncHalf.{pending_sync}
use Rattle.wrp_bounds.specs.declared.numbers.HopNumbers.{HopNumbers}
use Rattle.wrp_bounds.specs.Hop.{down_error}

-- a message that may still come: its sequenceId and the time that it carries
pub record Told : Type 0 where
  pub seq : ℕ
  pub time : ℤ

-- x is among these
abbrev pub Among : {A : Type 0} → A → List A → Type 0
Among x [] = ⊥
Among x (y ∷ ys) = (x ≡ y) ⊎ Among x ys

-- a Follow_Up with the correction of its Sync gives this departure
abbrev pub TellsDeparture : Told → HeldSync → (t1 : ℤ) → Type 0
TellsDeparture told s t1 = told.time +ℤ (pos 1000 *ℤ s.correction) ≡ t1

-- a held Sync gives the constant with its own departure, and each Follow_Up of its id that may still come gives that
-- departure
pub record HeldTrue (hop : HopNumbers) (constant : ℤ) (may : List Told) (s : HeldSync)
    : Type 0 where
  pub t1 : ℤ
  pub tells : IsWithin (down_error hop) ((t1 -ℤ s.t2) +ℤ s.u2) constant
  pub own : (told : Told) → Among told may → told.seq ≡ s.seq → TellsDeparture told s t1

-- the sample of a held Sync is still in the ring
abbrev pub IsInRing : (ring : ℕ) → List Call → HeldSync → Type 0
IsInRing ring calls s = is_some (phase_in (last_samples ring calls) s.sample) ≡ true

-- the pending Sync, while its sample is in the ring, and the pair give the constant
pub record SyncHolds (hop : HopNumbers) (constant : ℤ) (may : List Told) (ring : ℕ)
    (calls : List Call) : Type 0 where
  pub pending :
      IfSome (pending_sync ring calls) (λ s. IsInRing ring calls s → HeldTrue hop constant may s)
  pub pair :
      IfSome (sync_pair ring calls)
      (λ p. IsWithin (down_error hop) ((p.t1 -ℤ p.t2) +ℤ p.u2) constant)

-- a Sync keeps this, if it is true when it is kept
abbrev pub SyncKeeps : Type 0
SyncKeeps =
    (hop : HopNumbers) (constant : ℤ) (may : List Told) (ring : ℕ) (calls : List Call) (seq : ℕ) →
    (correction : ℤ) (t2 : Stamp) (tick : ℕ) →
    IfSome (kept_sync ring calls seq correction t2 tick) (HeldTrue hop constant may) →
    SyncHolds hop constant may ring calls →
    SyncHolds hop constant may ring (CallSync seq correction t2 tick ∷ calls)

-- a Follow_Up that may come keeps it
abbrev pub FollowUpKeeps : Type 0
FollowUpKeeps =
    (hop : HopNumbers) (constant : ℤ) (may : List Told) (ring : ℕ) (calls : List Call) (seq : ℕ) →
    (precise : ℤ) →
    Among (record { seq = seq; time = precise }) may →
    SyncHolds hop constant may ring calls →
    SyncHolds hop constant may ring (CallFollowUp seq precise ∷ calls)

-- a good sample keeps it, if its number is above the number of the pending Sync's sample
abbrev pub SampleKeepsSync : Type 0
SampleKeepsSync =
    (hop : HopNumbers) (constant : ℤ) (may : List Told) (ring : ℕ) (calls : List Call) →
    (number : ℕ) (u : ℤ) →
    IfSome (pending_sync ring calls) (λ s. s.sample < number) →
    SyncHolds hop constant may ring calls →
    SyncHolds hop constant may ring (CallSample number u ∷ calls)

-- all other calls keep it
abbrev pub OthersKeepSync : Type 0
OthersKeepSync =
    (hop : HopNumbers) (constant : ℤ) (may : List Told) (ring : ℕ) (calls : List Call) →
    (number seq tick : ℕ) (t4 : ℤ) (t3 : Stamp) →
    SyncHolds hop constant may ring calls →
    SyncHolds hop constant may ring (CallReqOut seq ∷ calls)
    × SyncHolds hop constant may ring (CallReqSent seq t3 tick ∷ calls)
    × SyncHolds hop constant may ring (CallResp seq t4 ∷ calls)
    × SyncHolds hop constant may ring (CallClear ∷ calls)
    × SyncHolds hop constant may ring (CallStart number ∷ calls)
