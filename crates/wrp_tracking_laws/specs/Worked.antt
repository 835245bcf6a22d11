-- A worked hop: the error sum's premises are not empty (this project's profile).
use Rattle.std.specs.Prelude.{ℤ, pos, neg_ℤ, ◌≡◌}
use Rattle.wrp_base.specs.declared.measurement.Four.{Four}
use Rattle.wrp_base.specs.declared.link.Deltas.{Deltas}
use Rattle.wrp_tracking_laws.specs.Moment.{Moment}
use Rattle.wrp_tracking_laws.specs.ErrorSum.{HopFacts, TrackFacts, estimate_of}
use Rattle.wrp_tracking_laws.specs.Reference.{switch_hop}

-- the link of the switch: both ways of the fibre are 2^40 tau, of which the way down has its exact share,
-- and each port takes 10^9 tau; the switch is 10^6 tau ahead of the grandmaster
abbrev pub worked_moment : Moment
worked_moment = record {
  time = pos 3_000_000_000_000_000;
  ticks = 4;
  own = pos 1_000_000;
  parent = pos 0;
  down = pos 551_829_436_064;
  up = pos 551_682_191_712;
}

-- its ports, as the database gives them
abbrev pub worked_deltas : Deltas
worked_deltas =
    record { txm = 1_000_000_000; rxm = 1_000_000_000; txs = 1_000_000_000; rxs = 1_000_000_000 }

-- the four exact stamps of an exchange, with the phase of 500,000 tau
abbrev pub worked_four : Four
worked_four = record {
  t1 = pos 1_000_000_000_000_000;
  t2 = pos 1_000_551_830_436_064;
  t3 = pos 2_000_000_001_000_000;
  t4 = pos 2_000_551_682_191_712;
  u2 = pos 500_000;
  u3 = pos 500_000;
  tick = 3;
}

-- the law's answer
abbrev pub worked_answer : ℤ
worked_answer = pos 549_829_436_064

-- the premises hold of it, in TRACK too, and the estimate is the true offset
pub record WorkedHop : Type 0 where
  pub facts :
      HopFacts switch_hop (neg_ℤ (pos 551_829_936_064)) worked_four worked_deltas worked_answer
      (pos 500_000) worked_moment worked_moment
  pub track :
      TrackFacts switch_hop
      (estimate_of worked_deltas worked_four worked_answer (pos 500_000)) (pos 500_000)
  pub estimate :
      estimate_of worked_deltas worked_four worked_answer (pos 500_000) ≡ worked_moment.own
