-- The laws of a world's nodes, taken one after another.
use Rattle.std.proofs.Common.{◌≡◌, ◌∙◌, ap, sym, subst, ℕ, zero, suc, ◌+◌, ◌<◌, ◌≤◌, ℤ, List, [], ◌∷◌, length, drop, Option, Some, slice_get, option_and_then, arith}
use Rattle.std.proofs.lemmas.List.{length-drop}
use Rattle.wrp_network.specs.declared.configuration.NetCfg.{NetCfg}
use Rattle.wrp_base.proofs.Lists.{head_and_tail}
use Rattle.wrp_law.specs.Law.{LawOf}
use Rattle.wrp_node.specs.Control.{law_in}
use Rattle.wrp_node.specs.New.{node_setting_of}
use Rattle.wrp_node.specs.Node.{IsValid as NodeIsValid}
use Rattle.wrp_node.specs.Set.{set_of}
use Rattle.wrp_node.specs.StandsFor.{NodeOf, StandsFor as NodeStandsFor}
use Rattle.wrp_world.specs.New.{IsNewNode}

-- the element that is taken from the rest of a list is the one at its place, and leaves what follows it
pub record Taken {A : Type 0} (xs rest : List A) (n : ℕ) (x : A) : Type 0 where
  pub at : slice_get xs n ≡ Some x
  pub left : rest ≡ drop (suc n) xs
  pub within : n < length xs

not_empty : {A : Type 0} (x : A) (xs : List A) → [] ≡ x ∷ xs → ⊥
not_empty x xs e = cc

more : {A : Type 0} (x y : A) (xs rest : List A) (n : ℕ) → Taken xs rest n x → Taken (y ∷ xs) rest (suc n) x
more x y xs rest n h = record { at = h.at; left = h.left; within = omega (arith, h.within) }

pub taken : {A : Type 0} (xs left rest : List A) (n : ℕ) (x : A) → left ≡ drop n xs → left ≡ x ∷ rest → Taken xs rest n x
taken [] left rest zero x e f = absurd (not_empty x rest (sym e ∙ f))
taken [] left rest (suc n) x e f = absurd (not_empty x rest (sym e ∙ f))
taken (y ∷ xs) left rest zero x e f =
    let h : (y ≡ x) × (xs ≡ rest) = head_and_tail y x xs rest (sym e ∙ f) in
    record { at = ap Some h.0; left = sym h.1; within = omega arith }
taken (y ∷ xs) left rest (suc n) x e f = more x y xs rest n (taken xs left rest n x e f)

pub left_on : {A : Type 0} (xs rest : List A) (n : ℕ) (x : A) → Taken xs rest n x → rest ≡ drop (n + 1) xs
left_on xs rest n x t = let next : suc n ≡ n + 1 = omega arith in t.left ∙ ap (λ k. drop k xs) next

-- if none is left, all were taken
pub all_taken : {A : Type 0} (xs left : List A) (n : ℕ) → left ≡ drop n xs → length left ≡ 0 → n ≤ length xs → n ≡ length xs
all_taken xs left n e f h = omega (arith, length-drop n xs, ap length e)

-- a node with the law at its place
pub new_node : {F : Type 0} (pre : F → ℤ → Type 0) (post : F → ℤ → ℤ → Type 0) (cfg : NetCfg) (laws rest : List (Option (LawOf F))) (n m : ℕ) (law : Option (LawOf F)) (node : NodeOf F) →
    Taken laws rest n law → m ≡ n → NodeStandsFor post (node_setting_of (set_of cfg n) law) node [] → NodeIsValid pre post node → law_in node.control ≡ law → IsNewNode pre post cfg laws m node
new_node pre post cfg laws rest n m law node t e h v k =
    subst (λ k. IsNewNode pre post cfg laws k node) (sym e) (record {
      stands = subst (λ l. NodeStandsFor post (node_setting_of (set_of cfg n) l) node []) (sym (ap (option_and_then (λ law. law)) t.at)) h;
      valid = v;
      law = k ∙ sym (ap (option_and_then (λ law. law)) t.at);
    })
