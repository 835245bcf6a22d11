-- The node or the link with a number is what its name stands for, if a search for each name finds its own.
use Rattle.std.proofs.Common.{◌≡◌, ◌∙◌, ◌⊎◌, inl, inr, ℕ, ◌+◌, ◌<◌, ◌≤◌, List, true, Some, length, get_or, slice_get, ap, arith, subst, sym}
use Rattle.std.proofs.lemmas.Bool.{cases_lt}
use Rattle.std.proofs.lemmas.Option.{same_Some, slice_get-get_or}
use Rattle.std.proofs.lemmas.Slice.Eq.{bytes_eq-Decides}
use Rattle.wrp_network.specs.declared.configuration.NetCfg.{NetCfg}
use Rattle.wrp_network.specs.declared.network.LinkCfg.{LinkCfg}
use Rattle.wrp_network.specs.declared.network.NodeCfg.{NodeCfg}
use Rattle.wrp_caldb.specs.Name.{same_name}
use Rattle.wrp_trace.specs.declared.events.marks.Named.TheVariants.{Link, Node}
use Rattle.wrp_trace.specs.Places.{FindsEach, StandsFor}

-- the name of the node with this number is this
pub next_node_is : (cfg : NetCfg) (at : ℕ) (node : NodeCfg) (name : List ℕ) → FindsEach cfg → at < length cfg.nodes.items → node ≡ get_or cfg.nodes.items at node
    → same_name node.name.bytes name ≡ true → StandsFor cfg name (Node at)
next_node_is cfg at node name finds below is same =
    subst (λ text. StandsFor cfg text (Node at)) ((bytes_eq-Decides node.name.bytes name).0 same)
    (finds.nodes at node (slice_get-get_or cfg.nodes.items at node below ∙ ap (λ n. Some n) (sym is)))

-- the name of the link with this number is this
pub next_link_is : (cfg : NetCfg) (at : ℕ) (link : LinkCfg) (name : List ℕ) → FindsEach cfg → at < length cfg.links.items → link ≡ get_or cfg.links.items at link
    → same_name link.name.bytes name ≡ true → StandsFor cfg name (Link at)
next_link_is cfg at link name finds below is same =
    subst (λ text. StandsFor cfg text (Link at)) ((bytes_eq-Decides link.name.bytes name).0 same)
    (finds.links at link (slice_get-get_or cfg.links.items at link below ∙ ap (λ l. Some l) (sym is)))

holds_by : {X : Type 0} (P : ℕ → X → Type 0) (xs : List X) (at : ℕ) (x : X) → slice_get xs at ≡ Some x → P at x
    → ((n : ℕ) (y : X) → n < at → slice_get xs n ≡ Some y → P n y) → (n : ℕ) (y : X) → n < at + 1 → slice_get xs n ≡ Some y → (n < at) ⊎ (at ≤ n) → P n y
holds_by P xs at x there is before n y below here (inl less) = before n y less here
holds_by P xs at x there is before n y below here (inr most) =
    let same : n ≡ at = omega (arith, below, most) in
    subst (λ k. P k y) (sym same) (subst (P at) (same_Some x y (sym there ∙ ap (slice_get xs) (sym same) ∙ here)) is)

-- what holds for each element before a place and for the element there holds for each element
-- before the next place
pub holds_of_more : {X : Type 0} (P : ℕ → X → Type 0) (xs : List X) (at : ℕ) (x : X) → slice_get xs at ≡ Some x → P at x
    → ((n : ℕ) (y : X) → n < at → slice_get xs n ≡ Some y → P n y) → (n : ℕ) (y : X) → n < at + 1 → slice_get xs n ≡ Some y → P n y
holds_of_more P xs at x there is before n y below here = holds_by P xs at x there is before n y below here (cases_lt n at)
