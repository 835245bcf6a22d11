-- The lease is fresh if and only if a call gave a fresh lease and no later call ended it.
use Rattle.std.proofs.Common.{◌≡◌, ◌↔◌, refl, ap, ◌∙◌, sym, Bool, true, false, cond, not, List, ◌∷◌}
use Rattle.wrp_servo.specs.Call.{Call, CallLease, CallReset, run}
use Rattle.wrp_servo.specs.Laws.{LeaseSince}
use Rattle.wrp_servo.specs.Since.{Since}
use Rattle.wrp_servo.specs.Told.{lease_told, lease_starts, lease_ends}
use Rattle.wrp_servo.proofs.SinceLaws.{stands_since}
use Rattle.wrp_servo.proofs.ToldLaws.{last_told}

told_anew : (b fresh : Bool) → fresh ≡ cond b (not (not fresh)) fresh
told_anew true true = refl
told_anew true false = refl
told_anew false fresh = refl

told_off : (b : Bool) → false ≡ cond b false false
told_off true = refl
told_off false = refl

told_before : (b : Bool) → b ≡ cond b true false
told_before true = refl
told_before false = refl

next : (call : Call) (calls : List Call) → lease_told (call ∷ calls) ≡ cond (lease_told calls) (not (lease_ends calls call)) (lease_starts calls call)
next (CallLease fresh) calls = told_anew (lease_told calls) fresh
next CallReset calls = told_off (lease_told calls)
next _ calls = told_before (lease_told calls)

apart : (call : Call) (calls : List Call) → lease_told calls ≡ true → lease_starts calls call ≡ true → lease_ends calls call ≡ false
apart (CallLease fresh) calls h e = ap not e
apart _ calls h e = absurd cc

pub lease_is_fresh_since : LeaseSince
lease_is_fresh_since x calls =
    let since : (lease_told calls ≡ true) ↔ Since lease_starts lease_ends calls =
    stands_since lease_starts lease_ends lease_told (record { first = refl; next = next; apart = apart }) calls in
    let told : (run x calls).signals.lease ≡ lease_told calls = (last_told x calls).lease in
    (λ h. since.0 (sym told ∙ h), λ s. told ∙ since.1 s)
