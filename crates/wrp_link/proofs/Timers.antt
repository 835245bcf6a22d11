-- A waiting state that is given only ticks: it waits on, takes a retry, or fails.
use Rattle.std.proofs.Common.{◌≡◌, ◌≢◌, ◌⊎◌, inl, inr, refl, ap, ◌∙◌, ℕ, zero, suc, ◌+◌, ◌-◌, ◌*◌, ◌<◌, ◌≤◌, true, false, eqb, ltb, replicate, Some, arith}
use Rattle.std.proofs.lemmas.Bool.Decides.{nat_tests}
use Rattle.wrp_base.specs.declared.link.LinkState.{LinkState}
use Rattle.wrp_base.specs.declared.link.LinkState.TheVariants.{Idle, Calibration, LinkOn}
use Rattle.wrp_link.specs.declared.interface.LinkIn.{LinkIn}
use Rattle.wrp_link.specs.declared.interface.LinkIn.TheVariants.{Tick}
use Rattle.wrp_link.specs.declared.interface.LinkSet.{LinkSet}
use Rattle.wrp_link.specs.Laws.{UnheardFails, patience_of}
use Rattle.wrp_link.specs.LinkAt.{LinkAt, Waiting, wait_of, failed}
use Rattle.wrp_link.specs.Rows.{timer_row, tick_row}
use Rattle.wrp_link.specs.Table.{by_row, after, run_of}

-- an unlocked tick in a waiting state is its timer's
timer_ticks :
    (l : LinkAt) (set : LinkSet) (state : LinkState) (wait : ℕ) →
    wait_of set state ≡ Some wait → tick_row l state false ≡ timer_row l l.waiting
timer_ticks l set Idle wait e = cc
timer_ticks l set LinkOn wait e = cc
timer_ticks l set Calibration wait e = cc
timer_ticks l set _ wait e = refl

-- a port in a waiting state, with its timer
record IsWaiting (l : LinkAt) (wait : ℕ) (w : Waiting) : Type 0 where
  lit : l.carrier ≡ true
  length : wait_of l.set l.state ≡ Some wait
  timer : l.waiting ≡ Some w

waiting_row : (l : LinkAt) (wait : ℕ) (w : Waiting) → IsWaiting l wait w → after l (Tick false) ≡ by_row l (timer_row l (Some w))
waiting_row l wait w h =
    rw (h.lit, timer_ticks l l.set l.state wait h.length, h.timer) refl

-- the timer runs on
runs_on :
    (l : LinkAt) (wait : ℕ) (w : Waiting) →
    IsWaiting l wait w → w.ticks ≢ 1 → after l (Tick false) ≡ record l { waiting = Some (record w { ticks = w.ticks - 1 }) }
runs_on l wait w h more =
    let runs : eqb w.ticks 1 ≡ false = grind (arith, nat_tests) in
    waiting_row l wait w h ∙ rw (runs, h.timer) refl

-- it ends with a retry left
tries_again :
    (l : LinkAt) (wait : ℕ) (w : Waiting) →
    IsWaiting l wait w → w.ticks ≡ 1 → 1 ≤ w.retries →
    after l (Tick false) ≡ record l { waiting = Some (record { ticks = wait; retries = w.retries - 1 }) }
tries_again l wait w h last left =
    let ends : eqb w.ticks 1 ≡ true = grind (arith, nat_tests) in
    let retry : ltb 0 w.retries ≡ true = grind (arith, nat_tests) in
    waiting_row l wait w h ∙ rw (ends, retry, h.timer, h.length) refl

-- it ends without a retry left
fails_then :
    (l : LinkAt) (wait : ℕ) (w : Waiting) →
    IsWaiting l wait w → w.ticks ≡ 1 → w.retries ≡ 0 → after l (Tick false) ≡ failed l
fails_then l wait w h last none =
    let ends : eqb w.ticks 1 ≡ true = grind (arith, nat_tests) in
    let retry : ltb 0 w.retries ≡ false = grind (arith, nat_tests) in
    waiting_row l wait w h ∙ rw (ends, retry) refl

-- of equal inputs one may be taken before the others
first_of : (n : ℕ) (l : LinkAt) (input : LinkIn) → run_of l (replicate (suc n) input) ≡ run_of (after l input) (replicate n input)
first_of zero l input = refl
first_of (suc n) l input = ap (λ k. after k input) (first_of n l input)

one_or_more : (t : ℕ) → (t ≡ 1) ⊎ (t ≢ 1)
one_or_more zero = inr (λ e. absurd (omega arith))
one_or_more (suc zero) = inl refl
one_or_more (suc (suc t)) = inr (λ e. absurd (omega arith))

none_or_some : (r : ℕ) → (r ≡ 0) ⊎ (1 ≤ r)
none_or_some zero = inl refl
none_or_some (suc r) = inr (omega arith)

-- a retry is a whole wait
retry_waits : (wait r : ℕ) → 1 ≤ r → wait + wait * (r - 1) ≡ wait * r
retry_waits wait zero h = absurd (omega arith)
retry_waits wait (suc r) h =
    let pred : suc r - 1 ≡ r = omega arith in
    let grows : wait + wait * r ≡ wait * suc r = omega arith in
    ap (λ k. wait + wait * k) pred ∙ grows

no_retry : (wait r : ℕ) → r ≡ 0 → wait * r ≡ 0
no_retry wait r e = omega (arith, ap (λ k. wait * k) e)

-- a port in a waiting state, given only ticks: it is there before its last tick, and in IDLE at it
record FailsAt (l : LinkAt) (wait : ℕ) (w : Waiting) (ticks : ℕ) : Type 0 where
  before : ticks < patience_of wait w → (run_of l (replicate ticks (Tick false))).state ≡ l.state
  at : ticks ≡ patience_of wait w → (run_of l (replicate ticks (Tick false))).state ≡ Idle

unheard :
    (ticks : ℕ) (l : LinkAt) (wait : ℕ) (w : Waiting) →
    IsWaiting l wait w → 1 ≤ wait → 1 ≤ w.ticks → FailsAt l wait w ticks
unheard zero l wait w h long left = record { before = λ _. refl; at = λ e. absurd (omega arith) }
unheard (suc n) l wait w h long left =
    let first : (run_of l (replicate (suc n) (Tick false))).state ≡ (run_of (after l (Tick false)) (replicate n (Tick false))).state =
    ap (λ k. k.state) (first_of n l (Tick false)) in
    elim (one_or_more w.ticks) [
      | inr more ↦
          let w' : Waiting = record w { ticks = w.ticks - 1 } in
          let l' : LinkAt = record l { waiting = Some w' } in
          let e : after l (Tick false) ≡ l' = runs_on l wait w h more in
          let left' : 1 ≤ w'.ticks = omega arith in
          let then : FailsAt l' wait w' n =
          unheard n l' wait w' (record { lit = h.lit; length = h.length; timer = refl }) long left' in
          record {
            before = λ lt. first ∙ ap (λ k. (run_of k (replicate n (Tick false))).state) e ∙ then.before (omega arith);
            at = λ is. first ∙ ap (λ k. (run_of k (replicate n (Tick false))).state) e ∙ then.at (omega arith);
          }
      | inl last ↦
          elim (none_or_some w.retries) [
            | inr some ↦
                let w' : Waiting = record { ticks = wait; retries = w.retries - 1 } in
                let l' : LinkAt = record l { waiting = Some w' } in
                let e : after l (Tick false) ≡ l' = tries_again l wait w h last some in
                let whole : wait + wait * (w.retries - 1) ≡ wait * w.retries = retry_waits wait w.retries some in
                let then : FailsAt l' wait w' n =
                unheard n l' wait w' (record { lit = h.lit; length = h.length; timer = refl }) long long in
                record {
                  before = λ lt. first ∙ ap (λ k. (run_of k (replicate n (Tick false))).state) e ∙ then.before (omega arith);
                  at = λ is. first ∙ ap (λ k. (run_of k (replicate n (Tick false))).state) e ∙ then.at (omega arith);
                }
            | inl none ↦
                let e : after l (Tick false) ≡ failed l = fails_then l wait w h last none in
                let nothing : wait * w.retries ≡ 0 = no_retry wait w.retries none in
                record {
                  before = λ lt. absurd (omega arith);
                  at = λ is.
                      let now : n ≡ 0 = omega arith in
                      first ∙ ap (λ k. (run_of (after l (Tick false)) (replicate k (Tick false))).state) now ∙ ap (λ k. k.state) e;
                }
          ]
    ]

pub unheard_fails : UnheardFails
unheard_fails l w wait ticks lit length timer long left =
    let f : FailsAt l wait w ticks = unheard ticks l wait w (record { lit = lit; length = length; timer = timer }) long left in
    (f.before, f.at)
