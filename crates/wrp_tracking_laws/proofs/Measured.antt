-- The four of an exchange is true of the chain.
use Rattle.std.proofs.Common.{ℕ, ℤ, pos, ◌+◌, ◌*◌, ◌≤◌, ◌+ℤ◌, ◌≤ℤ◌, List, ◌∷◌, map, subst, arith}
use Rattle.std.proofs.lemmas.Int.{ints}
use Rattle.std.specs.Prelude.{Option, IfSome}
use Rattle.wrp_base.specs.declared.measurement.Four.{Four}
use Rattle.wrp_bounds.specs.declared.numbers.HopNumbers.{HopNumbers}
use Rattle.wrp_tracking_laws.specs.Moment.{Moment}
use Rattle.wrp_tracking_laws.specs.History.{Was}
use Rattle.wrp_tracking_laws.specs.Ticks.{TickStep}
use Rattle.wrp_tracking_laws.specs.DelayPieces.{FourTells}
use Rattle.wrp_tracking_laws.specs.Measured.{tick_of, TicksOnTime, FourIsTrue}
use Rattle.wrp_tracking_laws.proofs.Histories.{was_seen, each_since}
use Rattle.wrp_tracking_laws.proofs.TickTimes.{within-ticks}
use Rattle.wrp_tracking_laws.proofs.DelayHalves.{four-of_pieces}

longer : (x now : ℤ) (a b : ℕ) → now ≤ℤ (x +ℤ pos a) → a ≤ b → now ≤ℤ (x +ℤ pos b)
longer x now a b near more = omega (arith, ints)

young_enough : (hop : HopNumbers) (now : Moment) (past : List Moment) (from at age dmin dmax tick : ℕ) (m : Moment) (last : Moment → ℤ) → Was (now ∷ past) at m → from ≤ at → tick ≤ m.ticks → now.ticks ≤ tick + age → (age + 1) * dmax ≤ hop.age_time →
    TicksOnTime dmin dmax last from (now ∷ past) → now.time ≤ℤ (m.time +ℤ pos hop.age_time)
young_enough hop now past from at age dmin dmax tick m last was since told young fits ticks =
    longer m.time now.time ((age + 1) * dmax) hop.age_time
    (within-ticks dmin dmax at age (tick_of last m) (tick_of last now) (map (tick_of last) past) (record {
      was = was_seen (tick_of last) at m (now ∷ past) was;
      steps = each_since (TickStep dmin dmax) from at (map (tick_of last) (now ∷ past)) since ticks.steps;
      on_time = ticks.on_time at m was since;
    }) (omega arith)) fits

pub four-is_true : FourIsTrue
four-is_true hop now past from constant said may ring calls four last dmin dmax age sync delay is young fits ticks =
    let P : Option Four → Type 0 = λ o. IfSome o (FourTells hop constant (now ∷ past) from) in
    let known = subst P is (four-of_pieces hop constant (now ∷ past) from said may ring calls sync delay) in
    record {
      sync = known.0;
      delay = record { at = known.1.0; sent = known.1.1; was = known.1.2; since = known.1.3; tells = known.1.5 };
      young = young_enough hop now past from known.1.0 age dmin dmax four.tick known.1.1 last known.1.2 known.1.3 known.1.4 young fits ticks;
    }
