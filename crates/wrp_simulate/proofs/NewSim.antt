-- A network that is simulated: before its first event, and after each event that it took.
use Rattle.std.proofs.Common.{◌≡◌, ◌∙◌, ap, sym, subst, ℤ, List, Option, map}
use Rattle.wrp_network.specs.Network.{node_count}
use Rattle.wrp_config.specs.declared.network.Network.{Network}
use Rattle.wrp_law.specs.Law.{LawOf}
use Rattle.wrp_node.specs.Control.{law_in}
use Rattle.wrp_node.specs.StandsFor.{NodeOf}
use Rattle.wrp_world.specs.HasLaws.{HasLaws}
use Rattle.wrp_world.specs.StandsFor.{IsValid}
use Rattle.wrp_simulate.specs.declared.simulation.SimulatedNetwork.{SimulatedNetwork}
use Rattle.wrp_network_world.specs.NetworkSetting.{setting_in}
use Rattle.wrp_network_world.specs.LawsFit.{LawsFit, HasLawOf}
use Rattle.wrp_network_world.specs.Bounds.{AreBounds}
use Rattle.wrp_simulate.specs.SimStands.{CanRun}
use Rattle.wrp_network_world.proofs.WorldRuns.{laws_stay}
use Rattle.wrp_network_world.proofs.NewWorld.{laws_are}

pub new_runs : {F : Type 0} {pre : F → ℤ → Type 0} {post : F → ℤ → ℤ → Type 0} (net : Network) (laws : List (Option (LawOf F))) (network : SimulatedNetwork F)
    → LawsFit pre post net laws → IsValid pre post network.world → HasLaws laws network.world
    → network.world.plant.net ≡ net → AreBounds net.cfg network.bounds.items → CanRun pre post network
new_runs {pre = pre} {post = post} net laws network fit valid has is bounds = record {
  valid = valid;
  laws = subst (λ (k : Network). HasLawOf post (setting_in k) network.world) (sym is)
      (laws_are {pre = pre} {post = post} net laws network.world fit has (valid.node_count ∙ ap (λ (k : Network). node_count k.cfg) is));
  bounds = subst (λ (k : Network). AreBounds k.cfg network.bounds.items) (sym is) bounds;
}

-- after an event it can take another
pub run_stays : {F : Type 0} {pre : F → ℤ → Type 0} {post : F → ℤ → ℤ → Type 0} (held now : SimulatedNetwork F) → CanRun pre post held
    → IsValid pre post now.world → now.world.plant.net ≡ held.world.plant.net
    → now.bounds.items ≡ held.bounds.items
    → map (λ (node : NodeOf F). law_in node.control) now.world.nodes ≡ map (λ (node : NodeOf F). law_in node.control) held.world.nodes → CanRun pre post now
run_stays {F} {pre} {post} held now can valid net bounds laws = record {
  valid = valid;
  laws =
      subst (λ (k : Network). HasLawOf post (setting_in k) now.world) (sym net)
      (laws_stay post (setting_in held.world.plant.net) held.world now.world laws can.laws);
  bounds = subst (λ (items : List ℤ). AreBounds now.world.plant.net.cfg items) (sym bounds)
      (subst (λ (k : Network). AreBounds k.cfg held.bounds.items) (sym net) can.bounds);
}
