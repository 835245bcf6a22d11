use Rattle.std.proofs.Common.{◌≡◌, sym, subst, ◌≤◌, unsigned_abs, arith}
use Rattle.std.proofs.lemmas.Int.{ints}
use Rattle.wrp_scene.specs.Scenario.{free_of}
use Rattle.wrp_sim.proofs.Cells.{small_free}
use Rattle.wrp_sim.proofs.sim.state.State.free.Goals as goal

pub returns-clause-size : goal.returns-clause-size
returns-clause-size c =
    let is : c.free.result ≡ free_of c.args.self.now.scene c.args.n = c.free.ensures in
    let small : unsigned_abs c.free.result ≤ 100_000 = subst (λ z. unsigned_abs z ≤ 100_000) (sym is) (small_free c.args.self.now.scene.frees c.args.n c.requires.small) in
    omega (arith, ints, small)
