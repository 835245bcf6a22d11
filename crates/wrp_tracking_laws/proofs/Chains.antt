-- What is true of a chain, kept as moments and samples come.
use Rattle.std.proofs.Common.{◌≡◌, ℕ, ℤ, pos, ◌≤◌, ◌+ℤ◌, ◌-ℤ◌, ◌≤ℤ◌, List, [], ◌∷◌, length, refl, subst, arith, inl, inr}
use Rattle.std.proofs.lemmas.Int.{ints}
use Rattle.std.specs.Prelude.{unsigned_abs}
use Rattle.std.specs.List.{AllByRecursion}
use Rattle.wrp_base.specs.Closeness.{IsWithin}
use Rattle.wrp_bounds.specs.declared.numbers.HopNumbers.{HopNumbers}
use Rattle.wrp_bounds.specs.Hop.{detector_error, gap_motion}
use Rattle.wrp_tracking_laws.specs.Moment.{Moment, MovesSlowly, phase_at}
use Rattle.wrp_tracking_laws.specs.History.{Was, EachStep}
use Rattle.wrp_tracking_laws.specs.Rates.{KeepsRates, KeepsParentRate}
use Rattle.wrp_tracking_laws.specs.ChainPhase.{KeepsConstant, unwrapped_by}
use Rattle.wrp_tracking_laws.specs.Chain.{Good, GoodTells, KeepsLimits, KeepsLimitsAbove, FlewAt, LatchedAt, MomentKeepsChain, SampleKeepsChain, ChainStarts, SyncTellsConstant, DelayTellsWays}
use Rattle.wrp_tracking_laws.proofs.Histories.{no_steps, slow_between, was_one, was_before, each_since}
use Rattle.wrp_tracking_laws.proofs.Sides.{Latched, Flown, sync-side, delay-side, phase_moved}
use Rattle.wrp_tracking_laws.proofs.ChainPhases.{constant-kept, constant-starts}
use Rattle.wrp_tracking_laws.proofs.Trees.{span}

goods_stay : (hop : HopNumbers) (now : Moment) (past : List Moment) (start : ℕ) (constant : ℤ) (goods : List Good) →
    AllByRecursion (GoodTells hop past start constant) goods → AllByRecursion (GoodTells hop (now ∷ past) start constant) goods
goods_stay hop now past start constant [] all = tt
goods_stay hop now past start constant (g ∷ gs) all =
    (record { since = all.0.since; moment = all.0.moment; was = inr all.0.was; near = all.0.near }, goods_stay hop now past start constant gs all.1)

pub moment-keeps_chain : MomentKeepsChain
moment-keeps_chain hop now before past from start constant newest earlier passes holds = record {
  limits = record {
    order = holds.limits.order;
    own = (λ _. passes.own, holds.limits.own);
    above = record {
      parent = (λ _. passes.parent, holds.limits.above.parent);
      down = (λ _. passes.down, holds.limits.above.down);
      up = (λ _. passes.up, holds.limits.above.up);
    };
  };
  goods = goods_stay hop now (before ∷ past) start constant (newest ∷ earlier) holds.goods;
  moment = holds.moment;
  was = inr holds.was;
  keeps = holds.keeps;
}

-- the time between two moments
span_of : (a b : ℤ) → a ≤ℤ b → b ≡ a +ℤ pos (unsigned_abs (b -ℤ a))
span_of a b later = omega (arith, ints)

-- what moves slowly in each step from an earlier moment on moves slowly between two
moves_between : (rate : ℕ) (quantity : Moment → ℤ) (past : List Moment) (from i j : ℕ) (x y : Moment) → EachStep (MovesSlowly rate quantity) from past → Was past i x → Was past j y → from ≤ i → i ≤ j → MovesSlowly rate quantity x y
moves_between rate quantity past from i j x y steps a b since order =
    slow_between (λ m. m.time) rate quantity i j x y past a b order (each_since (MovesSlowly rate quantity) from i past since steps)

pub parent_between : (hop : HopNumbers) (past : List Moment) (from i j : ℕ) (x y : Moment) → KeepsLimitsAbove hop past from → Was past i x → Was past j y → from ≤ i → i ≤ j →
    KeepsParentRate hop x y (unsigned_abs (y.time -ℤ x.time))
parent_between hop past from i j x y limits a b since order =
    let parent : MovesSlowly hop.parent.rate (λ m. m.parent) x y = moves_between hop.parent.rate (λ m. m.parent) past from i j x y limits.parent a b since order in
    let down : MovesSlowly 2 (λ m. m.down) x y = moves_between 2 (λ m. m.down) past from i j x y limits.down a b since order in
    let up : MovesSlowly 2 (λ m. m.up) x y = moves_between 2 (λ m. m.up) past from i j x y limits.up a b since order in
    record { later = span_of x.time y.time parent.order; parent = parent.limit; down = down.limit; up = up.limit }

pub rates_between : (hop : HopNumbers) (past : List Moment) (from start i j : ℕ) (x y : Moment) → KeepsLimits hop past from start → Was past i x → Was past j y → start ≤ i → i ≤ j →
    KeepsRates hop x y (unsigned_abs (y.time -ℤ x.time))
rates_between hop past from start i j x y limits a b since order =
    let own : MovesSlowly hop.own.rate (λ m. m.own) x y = moves_between hop.own.rate (λ m. m.own) past start i j x y limits.own a b since order in
    record { above = parent_between hop past from i j x y limits.above a b (omega (arith, limits.order)) order; own = own.limit }

flight_within : (a b d : ℤ) (g : ℕ) → a ≤ℤ b → b ≡ a +ℤ d → d ≤ℤ pos g → unsigned_abs (b -ℤ a) ≤ g
flight_within a b d g later flown short = omega (arith, ints)

-- the order of the times, from the limits
pub parent_time_between : (hop : HopNumbers) (x y : Moment) (t : ℕ) → KeepsParentRate hop x y t → x.time ≤ℤ y.time
parent_time_between hop x y t rates = omega (arith, ints, rates.later)

pub time_between : (hop : HopNumbers) (x y : Moment) (t : ℕ) → KeepsRates hop x y t → x.time ≤ℤ y.time
time_between hop x y t rates = parent_time_between hop x y t rates.above

pub good_at : (hop : HopNumbers) (past : List Moment) (start : ℕ) (constant : ℤ) (g : Good) (sample : Moment) → GoodTells hop past start constant g → Was past g.at sample →
    IsWithin (detector_error hop) (g.u -ℤ phase_at sample) constant
good_at hop past start constant g sample tells was =
    let same : tells.moment ≡ sample = was_one g.at tells.moment sample past tells.was was in
    let P : Moment → Type 0 = λ m. IsWithin (detector_error hop) (g.u -ℤ phase_at m) constant in
    subst P same tells.near

-- a stamp of the chain with the phase that it latched
latched : (hop : HopNumbers) (past : List Moment) (from start : ℕ) (constant : ℤ) (good : Good) (at : ℕ) (sample stamped : Moment) →
    KeepsLimits hop past from start → GoodTells hop past start constant good → LatchedAt hop past good at sample stamped → Was past at stamped →
    Latched hop constant good.u sample stamped (unsigned_abs (stamped.time -ℤ sample.time))
latched hop past from start constant good at sample stamped limits tells latch was =
    let rates : KeepsRates hop sample stamped (unsigned_abs (stamped.time -ℤ sample.time)) = rates_between hop past from start good.at at sample stamped limits latch.was was tells.since latch.order in
    record {
      since = rates;
      near = span sample.time stamped.time hop.gap_time (time_between hop sample stamped (unsigned_abs (stamped.time -ℤ sample.time)) rates) latch.near;
      phase = good_at hop past start constant good sample tells latch.was;
    }

-- a frame on the fibre
flown : (hop : HopNumbers) (past : List Moment) (from sent_at came_at : ℕ) (sent came : Moment) (way : ℤ) → KeepsLimitsAbove hop past from → from ≤ sent_at → FlewAt hop past sent_at came_at sent came way →
    Flown hop sent came way (unsigned_abs (came.time -ℤ sent.time))
flown hop past from sent_at came_at sent came way limits since flew =
    let rates : KeepsParentRate hop sent came (unsigned_abs (came.time -ℤ sent.time)) = parent_between hop past from sent_at came_at sent came limits flew.was_sent flew.was_come since flew.order in
    record {
      time = flew.time;
      rates = rates;
      short = flight_within sent.time came.time way hop.reach (parent_time_between hop sent came (unsigned_abs (came.time -ℤ sent.time)) rates) flew.time flew.short;
    }

pub sync-tells_constant : SyncTellsConstant
sync-tells_constant hop past from start constant t1 t2 good sent_at came_at sent sample came limits tells after flew latch departure arrival =
    sync-side hop constant t1 t2 good.u sent sample came (unsigned_abs (came.time -ℤ sent.time)) (unsigned_abs (came.time -ℤ sample.time)) (record {
      departure = departure;
      flown = flown hop past from sent_at came_at sent came sent.down limits.above after flew;
      arrival = arrival;
      latched = latched hop past from start constant good came_at sample came limits tells latch flew.was_come;
    })

pub delay-tells_ways : DelayTellsWays
delay-tells_ways hop past from start constant t3 t4 good sent_at came_at sample sent came limits tells flew latch departure arrival =
    delay-side hop constant t3 t4 good.u sample sent came (unsigned_abs (sent.time -ℤ sample.time)) (unsigned_abs (came.time -ℤ sent.time)) (record {
      departure = departure;
      flown = flown hop past from sent_at came_at sent came sent.up limits.above (omega (arith, limits.order, tells.since, latch.order)) flew;
      arrival = arrival;
      latched = latched hop past from start constant good sent_at sample sent limits tells latch flew.was_sent;
    })

pub sample-keeps_chain : SampleKeepsChain
sample-keeps_chain hop now past from start constant newest earlier number tag room holds recent heard =
    let x : Moment = holds.moment in
    let order : newest.at ≤ length past = was_before newest.at x now past holds.was in
    let rates : KeepsRates hop x now (unsigned_abs (now.time -ℤ x.time)) = rates_between hop (now ∷ past) from start newest.at (length past) x now holds.limits holds.was (inl (refl, refl)) holds.goods.0.since order in
    let same : recent.moment ≡ x = was_one newest.at recent.moment x (now ∷ past) recent.was holds.was in
    let P : Moment → Type 0 = λ m. now.time ≤ℤ (m.time +ℤ pos hop.gap_time) in
    let soon : now.time ≤ℤ (x.time +ℤ pos hop.gap_time) = subst P same recent.near in
    let moved : IsWithin (gap_motion hop) (phase_at now) (phase_at x) =
    phase_moved hop x now (unsigned_abs (now.time -ℤ x.time)) rates (span x.time now.time hop.gap_time (time_between hop x now (unsigned_abs (now.time -ℤ x.time)) rates) soon) in
    let keeps : KeepsConstant hop.clock (detector_error hop) constant (unwrapped_by hop.clock newest.u newest.tag tag) tag (phase_at now) =
    constant-kept hop.clock (detector_error hop) (gap_motion hop) constant newest.u (record { tag = newest.tag; phase = phase_at x }) (record { tag = tag; phase = phase_at now }) room holds.keeps (record { tag = heard; moved = moved }) in
    record {
      limits = holds.limits;
      goods = (record { since = omega (arith, holds.goods.0.since, order); moment = now; was = inl (refl, refl); near = keeps.near }, holds.goods);
      moment = now;
      was = inl (refl, refl);
      keeps = keeps;
    }

pub chain-starts : ChainStarts
chain-starts hop now past from number tag u before above heard =
    let (constant, keeps) = constant-starts hop.clock (detector_error hop) u (record { tag = tag; phase = phase_at now }) heard in (
      constant,
      record {
        limits = record {
          order = before;
          own = no_steps (MovesSlowly hop.own.rate (λ m. m.own)) (length past) (now ∷ past) (omega arith);
          above = above;
        };
        goods = (record { since = omega arith; moment = now; was = inl (refl, refl); near = keeps.near }, tt);
        moment = now;
        was = inl (refl, refl);
        keeps = keeps;
      },
    )
