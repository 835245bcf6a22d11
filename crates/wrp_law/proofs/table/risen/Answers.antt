-- A segment rises no further than to its second point.
use Rattle.std.proofs.Common.{arith}
use Rattle.std.proofs.lemmas.Int.{to_z-of_z}
use Rattle.wrp_law.proofs.Segments.{rise-most}
use Rattle.wrp_law.proofs.table.risen.Goals as goal

pub returns-clause-size : goal.returns-clause-size
returns-clause-size c =
    let most = rise-most c.args.along c.args.whole c.args.rise c.requires.along c.requires.end c.requires.whole c.requires.stays in
    grind (arith, to_z-of_z, most)
