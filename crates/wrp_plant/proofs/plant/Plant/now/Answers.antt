use Rattle.std.proofs.Common.{sym, subst, arith}
use Rattle.wrp_plant.specs.Sizes.{IsTime}
use Rattle.wrp_plant.proofs.SignedReads.{read}
use Rattle.wrp_plant.proofs.Sizing.{time_size}
use Rattle.wrp_plant.proofs.plant.Plant.now.Goals as goal

pub returns-clause-size : goal.returns-clause-size
returns-clause-size c =
    let size : IsTime c.args.self.now.time = time_size c.args.self.now.events c.args.self.now.time c.requires.events c.requires.time in
    subst IsTime (sym (read c.args.self.now.time (omega (arith, size)))) size
