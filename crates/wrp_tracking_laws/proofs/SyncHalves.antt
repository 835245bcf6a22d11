-- The pieces of the Sync half, call by call.
use Rattle.std.proofs.Common.{◌≡◌, ℕ, ℤ, zero, suc, ◌<◌, List, [], ◌∷◌, take, refl, arith, Some, None}
use Rattle.std.proofs.lemmas.Grind.{common_steps}
use Rattle.std.specs.Prelude.{true, false, Bool, Option, IfSome, ◌==◌}
use Rattle.std.specs.Option.{is_some}
use Rattle.wrp_exch.specs.declared.ring.GoodSample.{GoodSample}
use Rattle.wrp_exch.specs.declared.sync.HeldSync.{HeldSync}
use Rattle.wrp_exch.specs.Samples.{samples, phase_in}
use Rattle.wrp_exch.specs.SyncHalf.{pending_sync}
use Rattle.wrp_bounds.specs.declared.numbers.HopNumbers.{HopNumbers}
use Rattle.wrp_tracking_laws.specs.SyncPieces.{Told, HeldTrue, SyncKeeps, FollowUpKeeps, SampleKeepsSync, OthersKeepSync}

pub sync-keeps : SyncKeeps
sync-keeps hop constant may ring calls seq correction t2 tick true_if holds = grind (arith, common_steps)

pub follow_up-keeps : FollowUpKeeps
follow_up-keeps hop constant may ring calls seq precise comes holds = grind (arith, common_steps)

pub others-keep_sync : OthersKeepSync
others-keep_sync hop constant may ring calls number seq tick t4 t3 holds = grind (arith, common_steps)

-- what the shorter list has, the longer one has
some_here : (x : GoodSample) (xs : List GoodSample) (q : ℕ) → (x.number == q) ≡ true → is_some (phase_in (x ∷ xs) q) ≡ true
some_here x xs q e = grind (arith, common_steps)

some_rest : (x : GoodSample) (xs ys : List GoodSample) (q : ℕ) → (x.number == q) ≡ false → (is_some (phase_in xs q) ≡ true → is_some (phase_in ys q) ≡ true) → is_some (phase_in (x ∷ xs) q) ≡ true → is_some (phase_in (x ∷ ys) q) ≡ true
some_rest x xs ys q e rest is = grind (arith, common_steps)

found_more : (n q : ℕ) (xs : List GoodSample) → is_some (phase_in (take n xs) q) ≡ true → is_some (phase_in (take (suc n) xs) q) ≡ true
found_more zero q xs is = absurd (cc)
found_more (suc n) q [] is = is
found_more (suc n) q (x ∷ xs) is = more_by n q x xs (found_more n q xs) (x.number == q) refl is
  where
    more_by : (n q : ℕ) (x : GoodSample) (xs : List GoodSample) → (is_some (phase_in (take n xs) q) ≡ true → is_some (phase_in (take (suc n) xs) q) ≡ true) → (t : Bool) → (x.number == q) ≡ t → is_some (phase_in (x ∷ take n xs) q) ≡ true → is_some (phase_in (x ∷ take (suc n) xs) q) ≡ true
    more_by n q x xs rest true e is = some_here x (take (suc n) xs) q e
    more_by n q x xs rest false e is = some_rest x (take n xs) (take (suc n) xs) q e rest is

-- a newer sample of another number does not bring one back
not_back : (ring number q : ℕ) (u : ℤ) (xs : List GoodSample) → q < number → is_some (phase_in (take ring (record { number = number; phase = u } ∷ xs)) q) ≡ true → is_some (phase_in (take ring xs) q) ≡ true
not_back zero number q u xs less is = absurd (cc)
not_back (suc n) number q u xs less is = found_more n q xs (past_head number u q (take n xs) less is)
  where
    past_head : (number : ℕ) (u : ℤ) (q : ℕ) (ys : List GoodSample) → q < number → is_some (phase_in (record { number = number; phase = u } ∷ ys) q) ≡ true → is_some (phase_in ys q) ≡ true
    past_head number u q ys less is = grind (arith, common_steps)

held_stays : (hop : HopNumbers) (constant : ℤ) (may : List Told) (ring number : ℕ) (u : ℤ) (xs : List GoodSample) (o : Option HeldSync) → IfSome o (λ s. s.sample < number) →
    IfSome o (λ s. is_some (phase_in (take ring xs) s.sample) ≡ true → HeldTrue hop constant may s) →
    IfSome o (λ s. is_some (phase_in (take ring (record { number = number; phase = u } ∷ xs)) s.sample) ≡ true → HeldTrue hop constant may s)
held_stays hop constant may ring number u xs None above holds = tt
held_stays hop constant may ring number u xs (Some s) above holds = λ is. holds (not_back ring number s.sample u xs above is)

pub sample-keeps_sync : SampleKeepsSync
sample-keeps_sync hop constant may ring calls number u above holds = record {
  pending = held_stays hop constant may ring number u (samples calls) (pending_sync ring calls) above holds.pending;
  pair = holds.pair;
}
