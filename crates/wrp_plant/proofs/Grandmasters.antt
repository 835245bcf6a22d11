-- A tree has one node with no link above it.
use Rattle.std.proofs.Common.{◌≡◌, ◌∙◌, refl, ap, sym, subst, ℕ, zero, suc, ◌<◌, ◌≤◌, ◌⊎◌, inl, inr, Bool, true, false, List, [], ◌∷◌, Option, None, Some, not, nat_le, find, true≢false, arith}
use Rattle.std.proofs.lemmas.Bool.{cases_lt, eqb-true}
use Rattle.std.proofs.lemmas.Option.{none-some, same_Some}
use Rattle.std.specs.Prelude.{◌==◌}
use Rattle.std.specs.Option.{is_some}
use Rattle.wrp_base.proofs.Lists.{found_at}
use Rattle.wrp_network.specs.declared.configuration.NetCfg.{NetCfg}
use Rattle.wrp_network.specs.declared.network.LinkCfg.{LinkCfg}
use Rattle.wrp_network.specs.Network.{HasDepth, IsGrandmaster, IsLink, IsTree, link_above, node_count}

pub some_there : {A : Type 0} (o : Option A) → not (is_some o) ≡ false → is_some o ≡ true
some_there None e = absurd (true≢false e)
some_there (Some x) e = refl

pub none_there : {A : Type 0} (o : Option A) → not (is_some o) ≡ true → o ≡ None
none_there None e = refl
none_there (Some x) e = absurd (true≢false (sym e))

-- from each node the links lead upwards, to one with no link above it
leads_up : (cfg : NetCfg) (depth n : ℕ) → IsTree cfg → n < node_count cfg → HasDepth cfg depth n → (m : ℕ) × (m < node_count cfg) × (link_above cfg m ≡ None)
leads_up cfg zero n tree within top = (n, within, top)
leads_up cfg (suc depth) n tree within up =
    let at : (l : ℕ) × IsLink cfg l up.0 = found_at (λ link. link.lower == n) cfg.links.items up.0 up.1 in
    leads_up cfg depth up.0.upper tree (tree.ends at.0 up.0 at.1).0 up.2

-- so not every node has a link above it
pub top_there : (cfg : NetCfg) → IsTree cfg → ((m : ℕ) → m < node_count cfg → is_some (link_above cfg m) ≡ true) → ⊥
top_there cfg tree all =
    let first : (depth : ℕ) × (depth ≤ 8) × HasDepth cfg depth 0 = tree.shallow 0 tree.some_node in
    let top : (m : ℕ) × (m < node_count cfg) × (link_above cfg m ≡ None) = leads_up cfg first.0 0 tree tree.some_node first.2 in
    true≢false (sym (all top.0 top.1) ∙ ap is_some top.2)

-- Every other node has one

found_passes : {X : Type 0} (p : X → Bool) (xs : List X) (x : X) → find p xs ≡ Some x → p x ≡ true
found_passes p [] x found = absurd (none-some x found)
found_passes p (y ∷ ys) x found =
    elim (p y) as (λ b. p y ≡ b → p x ≡ true) [
      | true ↦ λ is. let same : Some y ≡ Some x = rw is at found in subst (λ z. p z ≡ true) (same_Some y x same) is
      | false ↦ λ is. found_passes p ys x (rw is at found)
    ] refl

past_nodes : (cfg : NetCfg) (n : ℕ) (o : Option LinkCfg) → IsTree cfg → link_above cfg n ≡ o → node_count cfg ≤ n → true ≡ not (is_some o)
past_nodes cfg n None tree e past = refl
past_nodes cfg n (Some link) tree e past =
    let at : (l : ℕ) × IsLink cfg l link = found_at (λ k. k.lower == n) cfg.links.items link e in
    let same : link.lower ≡ n = eqb-true link.lower n (found_passes (λ k. k.lower == n) cfg.links.items link e) in
    absurd (omega (arith, same, past, (tree.ends at.0 link at.1).1))

other_node : (cfg : NetCfg) (top n : ℕ) (o : Option LinkCfg) → IsTree cfg → IsGrandmaster cfg top → (n ≡ top → ⊥) → link_above cfg n ≡ o → n < node_count cfg → false ≡ not (is_some o)
other_node cfg top n None tree is other e within = absurd (other (tree.one_grandmaster n top (within, e) is))
other_node cfg top n (Some link) tree is other e within = refl

by_number : (cfg : NetCfg) (top n : ℕ) → IsTree cfg → IsGrandmaster cfg top → (n ≡ top → ⊥) → (n < node_count cfg) ⊎ (node_count cfg ≤ n) → nat_le (node_count cfg) n ≡ not (is_some (link_above cfg n))
by_number cfg top n tree is other (inl within) = let no : nat_le (node_count cfg) n ≡ false = grind arith in no ∙ other_node cfg top n (link_above cfg n) tree is other refl within
by_number cfg top n tree is other (inr past) = let yes : nat_le (node_count cfg) n ≡ true = grind arith in yes ∙ past_nodes cfg n (link_above cfg n) tree refl past

-- a number that is not the grandmaster's has no link above it only past all nodes
pub only_top : (cfg : NetCfg) (top n : ℕ) → IsTree cfg → IsGrandmaster cfg top → (n ≡ top → ⊥) → nat_le (node_count cfg) n ≡ not (is_some (link_above cfg n))
only_top cfg top n tree is other = by_number cfg top n tree is other (cases_lt n (node_count cfg))
