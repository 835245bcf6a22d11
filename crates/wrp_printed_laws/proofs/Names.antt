-- Nodes are distinguished by their names, and a number of a range is the number that the text
-- writes.
use Rattle.std.proofs.Common.{◌≡◌, inl, inr, ◌∙◌, refl, ap, sym, subst, ℕ, ◌<◌, ◌==◌, ℤ, true, List, [], Option, None, Some}
use Rattle.std.specs.Prelude.{int_le, option_and_then, slice_get}
use Rattle.std.specs.Option.{option_map_or}
use Rattle.std.proofs.lemmas.Bool.{false_from_ne_true}
use Rattle.std.proofs.lemmas.Bool.Decides.{eqb_tells}
use Rattle.std.proofs.lemmas.Option.{same_Some}
use Rattle.wrp_network.specs.declared.configuration.NetCfg.{NetCfg}
use Rattle.wrp_network.specs.declared.network.NodeCfg.{NodeCfg}
use Rattle.wrp_network.specs.Network.{IsNode, name_at, node_count}
use Rattle.wrp_base.proofs.Lists.{has_item}
use Rattle.wrp_caldb.specs.Name.{is_name, same_name}
use Rattle.wrp_config.specs.Accepted.{HasNames}
use Rattle.wrp_config.specs.Names.{node_named}
use Rattle.wrp_config.proofs.Lists.{same_is, same_refl}
use Rattle.wrp_fields.specs.Numbers.{kept_in, number_in, number_of}
use Rattle.wrp_trace.proofs.EventsFit.{in_range}
use Rattle.wrp_trace.proofs.NamesFound.{node_found}

-- Numbers

number_from : (least greatest : ℤ) (o : Option ℤ) (z : ℤ) → option_and_then (kept_in least greatest) o ≡ Some z → o ≡ Some z
number_from least greatest None z e = absurd (let f : None ≡ Some z = e in cc)
number_from least greatest (Some y) z e = ap (λ (x : ℤ). Some x) (in_range (int_le least y) (int_le y greatest) y z e).2

pub number_is : (least greatest : ℤ) (text : List ℕ) (z : ℤ) → number_in least greatest text ≡ Some z → number_of text ≡ Some z
number_is least greatest text z e = number_from least greatest (number_of text) z e

-- Names

-- the name of a node finds it
pub finds : (cfg : NetCfg) → HasNames cfg → (n : ℕ) → n < node_count cfg → node_named cfg (name_at cfg n) ≡ Some n
finds cfg names n below =
    let it : (node : NodeCfg) × IsNode cfg n node = has_item cfg.nodes.items n below in
    ap (λ (o : Option NodeCfg). node_named cfg (option_map_or (λ (node : NodeCfg). node.name.bytes) o [])) it.1
    ∙ node_found cfg names n it.0 it.1

no_empty_name : is_name [] ≡ true → ⊥
no_empty_name e = cc e

-- a node of the network has a name, which no other number has
there_by : (cfg : NetCfg) → HasNames cfg → (m n : ℕ) (o : Option NodeCfg) → slice_get cfg.nodes.items m ≡ o → n < node_count cfg
    → option_map_or (λ (node : NodeCfg). node.name.bytes) o [] ≡ name_at cfg n → m ≡ n
there_by cfg names m n (Some other) is below same =
    same_Some m n (sym (node_found cfg names m other is) ∙ ap (node_named cfg) same ∙ finds cfg names n below)
there_by cfg names m n None is below same =
    let it : (node : NodeCfg) × IsNode cfg n node = has_item cfg.nodes.items n below in
    let named : [] ≡ it.0.name.bytes = same ∙ ap (λ (o : Option NodeCfg). option_map_or (λ (node : NodeCfg). node.name.bytes) o []) it.1 in
    absurd (no_empty_name (subst (λ (text : List ℕ). is_name text ≡ true) (sym named) (names.node n it.0 it.1)))

pub same_node : (cfg : NetCfg) → HasNames cfg → (m n : ℕ) → n < node_count cfg → name_at cfg m ≡ name_at cfg n → m ≡ n
same_node cfg names m n below same = there_by cfg names m n (slice_get cfg.nodes.items m) refl below same

pub same_names : (cfg : NetCfg) → HasNames cfg → (m n : ℕ) → n < node_count cfg → same_name (name_at cfg m) (name_at cfg n) ≡ (n == m)
same_names cfg names m n below = elim (eqb_tells n m) [
  | inl x ↦ ap (λ (i : ℕ). same_name (name_at cfg m) (name_at cfg i)) x.1 ∙ same_refl (name_at cfg m) ∙ sym x.0
  | inr x ↦
      false_from_ne_true (same_name (name_at cfg m) (name_at cfg n))
      (λ is. absurd (x.1 (sym (same_node cfg names m n below (same_is (name_at cfg m) (name_at cfg n) is)))))
      ∙ sym x.0
]
