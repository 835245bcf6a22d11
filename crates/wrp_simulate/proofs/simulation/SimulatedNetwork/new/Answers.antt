-- The world is new, and its laws are the laws of the links.
use Rattle.wrp_simulate.proofs.NewSim.{new_runs}
use Rattle.wrp_network_world.proofs.NewWorld.{new_stands}
use Rattle.wrp_simulate.proofs.simulation.SimulatedNetwork.new.Goals as goal

pub returns-clause-ready : goal.returns-clause-ready
returns-clause-ready g c =
    new_runs c.args.net c.args.laws.items _ c.requires.laws c.in_ok-world.ensures.valid c.in_ok-world.ensures.laws c.in_ok-world.ensures.net c.in_ok-bounds.ensures

pub returns-clause-stands : goal.returns-clause-stands
returns-clause-stands g c = new_stands c.args.net c.args.laws.items _ c.requires.laws c.requires.accepted.tree c.in_ok-world.ensures.stands

pub new-requires-clause-laws : goal.new-requires-clause-laws
new-requires-clause-laws g c = λ n law is. (c.requires.laws.each n law is).fits
