-- Without a chain, nothing is pending and nothing is paired.
use Rattle.std.proofs.Common.{◌≡◌, ℕ, List, [], ◌∷◌, Option, Some, None, IsNone, refl}
use Rattle.std.specs.Option.{option_map}
use Rattle.wrp_exch.specs.Call.{Call, CallStart, CallClear, CallSync, CallReqOut}
use Rattle.wrp_exch.specs.Chain.{first_sample, phase_since, latched_phase}
use Rattle.wrp_exch.specs.Samples.{last_samples}
use Rattle.wrp_exch.specs.SyncPair.{last_sync}
use Rattle.wrp_exch.specs.DelayPair.{last_request}

-- no stamp can be used
phase_since-no_chain : (ring : ℕ) (calls : List Call) (first : Option ℕ) (number : ℕ) → IsNone first → phase_since first (last_samples ring calls) number ≡ None
phase_since-no_chain ring calls None number h = refl
phase_since-no_chain ring calls (Some first) number h = cc

option_map-no_chain : (seq : ℕ) (first : Option ℕ) → IsNone first → option_map (λ _. seq) first ≡ None
option_map-no_chain seq None h = refl
option_map-no_chain seq (Some first) h = cc

-- no Sync was kept
pub last_sync-no_chain : (ring : ℕ) (calls : List Call) → IsNone (first_sample calls) → last_sync ring calls ≡ None
last_sync-no_chain ring [] h = refl
last_sync-no_chain ring (CallStart first ∷ calls) h = refl
last_sync-no_chain ring (CallClear ∷ calls) h = refl
last_sync-no_chain ring (CallSync seq correction t2 tick ∷ calls) h =
    let e : latched_phase ring calls t2.sample ≡ None = phase_since-no_chain ring calls (first_sample calls) t2.sample h in
    rw (e, last_sync-no_chain ring calls h)
last_sync-no_chain ring (_ ∷ calls) h = last_sync-no_chain ring calls h

-- no request was put out
pub last_request-no_chain : (calls : List Call) → IsNone (first_sample calls) → last_request calls ≡ None
last_request-no_chain [] h = refl
last_request-no_chain (CallStart first ∷ calls) h = refl
last_request-no_chain (CallClear ∷ calls) h = refl
last_request-no_chain (CallReqOut seq ∷ calls) h = option_map-no_chain seq (first_sample calls) h
last_request-no_chain (_ ∷ calls) h = last_request-no_chain calls h
