use Rattle.std.proofs.Common.{◌∙◌, refl, ap, sym}
use Rattle.wrp_network.specs.Network.{node_count}
use Rattle.wrp_config.specs.declared.network.Network.{Network}
use Rattle.wrp_world.specs.New.{setting_of}
use Rattle.wrp_world.proofs.KeptFibres.{new_keeps}
use Rattle.wrp_world.proofs.NewWorlds.{IsNewWorld, new_stands, new_valid}
use Rattle.wrp_world.proofs.TrueRuns.{begins}
use Rattle.wrp_world.proofs.world.World.new.Goals as goal

-- what was made
made : (g : _) (c : goal.In_ok-plant g) → IsNewWorld (λ f x. g.F.Fn.pre f (x, tt)) (λ f x y. g.F.Fn.post f (x, tt) y) c.args.net.cfg c.args.net.db c.args.laws.items (record { plant = c.in_ok-plant.plant; nodes = c.in_ok-nodes.nodes.items })
made g c = record {
  plant = c.in_ok-plant.ensures.stands (setting_of c.args.net.cfg c.args.net.db c.args.laws.items) refl refl;
  fits = c.in_ok-plant.ensures.fits;
  count = c.in_ok-nodes.ensures.count ∙ sym (ap (λ (net : Network). node_count net.cfg) c.in_ok-plant.ensures.net);
  nodes = c.in_ok-nodes.ensures.each;
}

pub returns-clause-stands : goal.returns-clause-stands
returns-clause-stands g c = new_stands _ _ c.args.net.cfg c.args.net.db c.args.laws.items (record { plant = c.in_ok-plant.plant; nodes = c.in_ok-nodes.nodes.items }) (made g c)

pub returns-clause-valid : goal.returns-clause-valid
returns-clause-valid g c = new_valid _ _ c.args.net.cfg c.args.net.db c.args.laws.items (record { plant = c.in_ok-plant.plant; nodes = c.in_ok-nodes.nodes.items }) (made g c)

pub returns-clause-laws : goal.returns-clause-laws
returns-clause-laws g c = λ n node e. (c.in_ok-nodes.ensures.each n node e).law

pub returns-clause-begins : goal.returns-clause-begins
returns-clause-begins g c =
    begins _ _ c.args.net.cfg c.args.net.db c.args.laws.items (record { plant = c.in_ok-plant.plant; nodes = c.in_ok-nodes.nodes.items }) c.requires.net (returns-clause-stands g c)
    c.in_ok-nodes.ensures.count c.requires.count (returns-clause-laws g c) c.requires.laws

pub invariant_of-result : goal.invariant_of-result
invariant_of-result g c =
    new_keeps c.in_ok-plant.plant (setting_of c.args.net.cfg c.args.net.db c.args.laws.items) c.in_ok-plant.ensures.fits.span_count
    (c.in_ok-plant.ensures.stands (setting_of c.args.net.cfg c.args.net.db c.args.laws.items) refl refl)
