-- The delay laws that the nodes of a world have (this project's profile).
use Rattle.std.specs.Prelude.{◌≡◌, List, Option}
use Rattle.wrp_law.specs.Law.{LawOf}
use Rattle.wrp_node.specs.Control.{law_in}
use Rattle.wrp_world.specs.New.{law_at}
use Rattle.wrp_plant.specs.Plant.{Each}
use Rattle.wrp_world.specs.StandsFor.{WorldOf}

-- each node has the law at its place in the list, or none if there is none there
abbrev pub HasLaws : {F : Type 0} → List (Option (LawOf F)) → WorldOf F → Type 0
HasLaws laws world = Each (λ n node. law_in node.control ≡ law_at laws n) world.nodes
