-- The bound fits its type, because it is below 2 ^ 100.
use Rattle.std.proofs.Common.{pos, FitsSigned, arith}
use Rattle.std.proofs.lemmas.Int.{ints, to_z-of_z}
use Rattle.std.specs.Int.{w128}
use Rattle.wrp_bounds.specs.Bounds.{path_of}
use Rattle.wrp_lines.proofs.outputs.append_output_line.Goals as goal

pub returns-clause-ok : goal.returns-clause-ok
returns-clause-ok c =
    let bound = pos (path_of c.args.net.now.cfg c.args.node) in
    let range = rw c.bound_of-bound.ensures.value at c.bound_of-bound.ensures.range in
    let fits : FitsSigned w128 bound = omega (arith, ints) in
    rw (c.name_of_node-name.ensures, c.bound_of-bound.ensures.value, to_z-of_z w128 bound fits) at c.append_line.ensures.ok
