use Rattle.std.proofs.Common.{◌<◌, length, arith}
use Rattle.std.proofs.lemmas.Option.{slice_get_within}
use Rattle.wrp_sim.proofs.ticks.soonest_from.Goals as goal

pub returns-clause-soonest : goal.returns-clause-soonest
returns-clause-soonest c = record {
  least = λ n t e.
      let within : n < length c.args.times.now = slice_get_within c.args.times.now n t e in
      c.first_in-first.ensures.first n t (omega arith) (omega (arith, within)) e;
}
