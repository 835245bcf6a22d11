-- The first check that fails among the remaining moves is the first among all.
use Rattle.std.proofs.Common.{◌≡◌, flat_map, drop}
use Rattle.wrp_course.specs.Checks.{told_of}
use Rattle.wrp_course.specs.Premises.{rate_of_fibre}
use Rattle.wrp_premises.proofs.premises.rates.fibre_rates.Given as goal

abbrev pub invariant-loop-by : goal.invariant-loop-by
invariant-loop-by l =
    told_of (flat_map (rate_of_fibre l.fn.dt) (drop l.by-index l.fn.moves)) ≡ told_of (flat_map (rate_of_fibre l.fn.dt) l.fn.moves)
