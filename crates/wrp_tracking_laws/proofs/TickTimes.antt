-- Ticks and time.
use Rattle.std.proofs.Common.{◌≡◌, ℕ, ℤ, pos, zero, suc, ◌+◌, ◌-◌, ◌*◌, ◌<◌, ◌≤◌, ◌+ℤ◌, ◌≤ℤ◌, List, [], ◌∷◌, subst, ◌∙◌, arith, inl, inr}
use Rattle.std.proofs.lemmas.Int.{ints}
use Rattle.std.proofs.Math.Nat.{mul-le-mul_right}
use Rattle.wrp_base.proofs.Integers.{int_le_trans}
use Rattle.wrp_tracking_laws.specs.History.{Was, EachStep}
use Rattle.wrp_tracking_laws.specs.Ticks.{TickMoment, TimePasses, TickComes, TickStep, IsOnTime, TicksAtMost, TicksAtLeast, WithinTicks}
use Rattle.wrp_tracking_laws.proofs.Histories.{was_before}

-- what is known between a moment and a later one, d ticks on
pub record Between (dmin dmax d : ℕ) (x now : TickMoment) : Type 0 where
  pub ticks : now.ticks ≡ x.ticks + d
  pub last : now.last ≤ℤ (x.time +ℤ pos (d * dmax))
  pub near : now.time ≤ℤ (now.last +ℤ pos dmax)
  pub early : 0 < d → (x.time +ℤ pos ((d - 1) * dmin)) ≤ℤ now.last
  pub past : now.last ≤ℤ now.time
  pub later : x.time ≤ℤ now.time

pub between_refl : (dmin dmax : ℕ) (x : TickMoment) → IsOnTime dmax x → Between dmin dmax 0 x x
between_refl dmin dmax x timely = record {
  ticks = omega arith;
  last = omega (arith, ints, timely.past);
  near = timely.near;
  early = λ h. absurd (omega arith);
  past = timely.past;
  later = omega (arith, ints);
}

pub between_pass : (dmin dmax d : ℕ) (x a b : TickMoment) → Between dmin dmax d x a → TimePasses dmax a b → Between dmin dmax d x b
between_pass dmin dmax d x a b known pass = record {
  ticks = pass.ticks ∙ known.ticks;
  last = rw pass.last known.last;
  near = rw pass.last pass.near;
  early = rw pass.last known.early;
  past = omega (arith, ints, pass.last, pass.order, known.past);
  later = omega (arith, ints, known.later, pass.order);
}

tick_last : (x a_last b_last b_time : ℤ) (d dmax : ℕ) → a_last ≤ℤ (x +ℤ pos (d * dmax)) → b_last ≡ b_time → b_time ≤ℤ (a_last +ℤ pos dmax) → b_last ≤ℤ (x +ℤ pos ((d + 1) * dmax))
tick_last x a_last b_last b_time d dmax before is near = omega (arith, ints)

tick_early_first : (x b_last a_time b_time : ℤ) (dmin : ℕ) → x ≤ℤ a_time → b_last ≡ b_time → b_time ≡ a_time → (x +ℤ pos ((0 + 1 - 1) * dmin)) ≤ℤ b_last
tick_early_first x b_last a_time b_time dmin later is same = omega (arith, ints)

tick_early_next : (x a_last b_last b_time : ℤ) (d dmin : ℕ) → (x +ℤ pos ((suc d - 1) * dmin)) ≤ℤ a_last → b_last ≡ b_time → (a_last +ℤ pos dmin) ≤ℤ b_time → (x +ℤ pos ((suc d + 1 - 1) * dmin)) ≤ℤ b_last
tick_early_next x a_last b_last b_time d dmin before is late =
    let e : suc d - 1 ≡ d = omega arith in
    let f : suc d + 1 - 1 ≡ d + 1 = omega arith in
    let sooner : (x +ℤ pos (d * dmin)) ≤ℤ a_last = rw e at before in
    rw f (omega (arith, ints))

pub between_tick : (dmin dmax d : ℕ) (x a b : TickMoment) → Between dmin dmax d x a → TickComes dmin a b → Between dmin dmax (d + 1) x b
between_tick dmin dmax d x a b known tick = record {
  ticks = omega (arith, known.ticks, tick.ticks);
  last = tick_last x.time a.last b.last b.time d dmax known.last tick.last (rw tick.now known.near);
  near = omega (arith, ints, tick.last);
  early = λ _. early d known.early;
  past = omega (arith, ints, tick.last);
  later = omega (arith, ints, known.later, tick.now);
}
  where
    early : (d : ℕ) → (0 < d → (x.time +ℤ pos ((d - 1) * dmin)) ≤ℤ a.last) → (x.time +ℤ pos ((d + 1 - 1) * dmin)) ≤ℤ b.last
    early zero before = tick_early_first x.time b.last a.time b.time dmin known.later tick.last tick.now
    early (suc d) before = tick_early_next x.time a.last b.last b.time d dmin (before (omega arith)) tick.last tick.late

between : (dmin dmax k : ℕ) (x now : TickMoment) (past : List TickMoment) → Was (now ∷ past) k x → EachStep (TickStep dmin dmax) k (now ∷ past) → IsOnTime dmax x →
    (d : ℕ) × Between dmin dmax d x now
between dmin dmax k x now [] (inl is) each timely = let P : TickMoment → Type 0 = λ m. (d : ℕ) × Between dmin dmax d x m in subst P is.1 (0, between_refl dmin dmax x timely)
between dmin dmax k x now [] (inr none) each timely = absurd none
between dmin dmax k x now (b ∷ past) (inl is) each timely = let P : TickMoment → Type 0 = λ m. (d : ℕ) × Between dmin dmax d x m in subst P is.1 (0, between_refl dmin dmax x timely)
between dmin dmax k x now (b ∷ past) (inr was) each timely =
    let (d, known) = between dmin dmax k x b past was each.1 timely in
    elim (each.0 (was_before k x b past was)) [
      | inl pass ↦ (d, between_pass dmin dmax d x b now known pass)
      | inr tick ↦ (d + 1, between_tick dmin dmax d x b now known tick)
    ]

at_most : (x last time : ℤ) (d dmax : ℕ) → last ≤ℤ (x +ℤ pos (d * dmax)) → time ≤ℤ (last +ℤ pos dmax) → time ≤ℤ (x +ℤ pos ((d + 1) * dmax))
at_most x last time d dmax before near = omega (arith, ints)

pub ticks-at_most : TicksAtMost
ticks-at_most dmin dmax k x now past since =
    let (d, known) = between dmin dmax k x now past since.was since.steps since.on_time in
    (d, known.ticks, at_most x.time now.last now.time d dmax known.last known.near)

pub ticks-at_least : TicksAtLeast
ticks-at_least dmin dmax k d x now past since counted some =
    let (e, known) = between dmin dmax k x now past since.was since.steps since.on_time in
    let same : e ≡ d = omega (arith, known.ticks) in
    let P : ℕ → Type 0 = λ n. (x.time +ℤ pos ((n - 1) * dmin)) ≤ℤ now.last in
    int_le_trans (x.time +ℤ pos ((d - 1) * dmin)) now.last now.time (subst P same (known.early (omega arith))) known.past

longer : (x time : ℤ) (d g dmax : ℕ) → time ≤ℤ (x +ℤ pos ((d + 1) * dmax)) → (d + 1) * dmax ≤ (g + 1) * dmax → time ≤ℤ (x +ℤ pos ((g + 1) * dmax))
longer x time d g dmax near more = omega (arith, ints)

pub within-ticks : WithinTicks
within-ticks dmin dmax k most x now past since few =
    let (d, counted, near) = ticks-at_most dmin dmax k x now past since in
    let less : d + 1 ≤ most + 1 = omega arith in
    longer x.time now.time d most dmax near (mul-le-mul_right dmax less)
