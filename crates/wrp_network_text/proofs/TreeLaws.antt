-- Links without a fault make a tree.
use Rattle.std.proofs.Common.{◌≡◌, ◌≢◌, ◌-◌, ◌<◌, ◌≤◌, ◌+◌, ◌&&◌, ◌==◌, not, ℕ, zero, suc, List, [], ◌∷◌, Bool, true, false, Option, None, Some, cond, length, option_map, refl, sym, ap, subst, ◌∙◌, inl, inr, arith}
use Rattle.std.proofs.lemmas.Bool.{cases_lt, false≢true, not-false, or_parts}
use Rattle.std.proofs.lemmas.Bool.Decides.{nat_tests}
use Rattle.std.proofs.lemmas.List.Sums.{length-filter}
use Rattle.std.specs.Prelude.{slice_get, count_by}
use Rattle.std.specs.List.{filter}
use Rattle.std.specs.Option.{is_some}
use Rattle.wrp_network.specs.declared.configuration.NetCfg.{NetCfg}
use Rattle.wrp_network.specs.declared.network.LinkCfg.{LinkCfg}
use Rattle.wrp_network.specs.Network.{IsTree, IsLink, HasDepth, link_above, node_count}
use Rattle.wrp_config.proofs.Reached.{or_true}
use Rattle.wrp_network_text.specs.Tree.{is_root, some_below, ended, one_above, depth_within, depth_of, stands_apart, is_over_8, HasNoFault}

-- a test that one of the first numbers passes
pub below_at : (test : ℕ → Bool) (n m : ℕ) → m < n → test m ≡ true → some_below test n ≡ true
below_at test zero m h is = absurd (omega (arith, h))
below_at test (suc n) m h is =
    elim (cases_lt m n) [
      | inl before ↦ rw (below_at test n m before is) refl
      | inr last ↦
          let same : m ≡ n = omega (arith, h, last) in
          let here : test n ≡ true = subst (λ k. test k ≡ true) same is in
          rw here (or_true (some_below test n))
    ]

-- a walk that ends has the depth of its links
no_depth : (cfg : NetCfg) (n depth : ℕ) → link_above cfg n ≡ None → Some 0 ≡ Some depth → HasDepth cfg depth n
no_depth cfg n depth root is = let same : 0 ≡ depth = cc is in subst (λ d. HasDepth cfg d n) same root

ended_depth : (cfg : NetCfg) (n : ℕ) (above : Option LinkCfg) → link_above cfg n ≡ above → (depth : ℕ) → ended above ≡ Some depth → HasDepth cfg depth n
ended_depth cfg n None e depth is = no_depth cfg n depth e is
ended_depth cfg n (Some link) e depth is = cc is

one_less : (walk : Option ℕ) (depth : ℕ) → option_map (λ d. d + 1) walk ≡ Some depth → (d : ℕ) × (walk ≡ Some d) × (suc d ≡ depth)
one_less None depth is = cc is
one_less (Some d) depth is = let same : d + 1 ≡ depth = cc is in (d, refl, omega (arith, same))

above_depth : (cfg : NetCfg) (walk : ℕ → Option ℕ) → ((m d : ℕ) → walk m ≡ Some d → HasDepth cfg d m)
    → (n : ℕ) (above : Option LinkCfg) → link_above cfg n ≡ above → (depth : ℕ) → one_above walk above ≡ Some depth → HasDepth cfg depth n
above_depth cfg walk each n None e depth is = no_depth cfg n depth e is
above_depth cfg walk each n (Some link) e depth is =
    let less = one_less (walk link.upper) depth is in
    subst (λ d. HasDepth cfg d n) less.2 (link, e, each link.upper less.0 less.1)

pub depth_ends : (most : ℕ) (cfg : NetCfg) (n depth : ℕ) → depth_within most cfg n ≡ Some depth → HasDepth cfg depth n
unfolding depth_within
depth_ends zero cfg n depth is = ended_depth cfg n (link_above cfg n) refl depth is
depth_ends (suc most) cfg n depth is =
    above_depth cfg (depth_within most cfg) (λ m d. depth_ends most cfg m d) n (link_above cfg n) refl depth is

-- one step of the walk
pub depth_root : (most : ℕ) (cfg : NetCfg) (n : ℕ) → link_above cfg n ≡ None → depth_within most cfg n ≡ Some 0
unfolding depth_within
depth_root zero cfg n e = rw e refl
depth_root (suc most) cfg n e = rw e refl

pub depth_over : (most : ℕ) (cfg : NetCfg) (n : ℕ) (link : LinkCfg) → link_above cfg n ≡ Some link → most ≡ 0 → depth_within most cfg n ≡ None
unfolding depth_within
depth_over zero cfg n link e last = rw e refl
depth_over (suc most) cfg n link e last = absurd (omega (arith, last))

pub depth_next : (most : ℕ) (cfg : NetCfg) (n : ℕ) (link : LinkCfg) → link_above cfg n ≡ Some link → most ≢ 0
    → depth_within most cfg n ≡ option_map (λ depth. depth + 1) (depth_within (most - 1) cfg link.upper)
unfolding depth_within
depth_next zero cfg n link e more = absurd (more refl)
depth_next (suc most) cfg n link e more =
    let less : suc most - 1 ≡ most = omega arith in
    rw (e, less) refl

shallow_of : (depth : Option ℕ) → is_some depth ≡ true → is_over_8 depth ≡ false → (d : ℕ) × (depth ≡ Some d) × (d ≤ 8)
shallow_of None some few = absurd (false≢true some)
shallow_of (Some d) some few = (d, refl, grind (arith, nat_tests, few))

-- two that pass are more than one
fewer : {X : Type 0} (b : Bool) (x : X) (xs : List X) → length (cond b (x ∷ xs) xs) ≤ 1 → length xs ≤ 1
fewer true x xs h = omega (arith, h)
fewer false x xs h = h

some_more : {X : Type 0} (b : Bool) (x : X) (xs : List X) → 0 < length xs → 0 < length (cond b (x ∷ xs) xs)
some_more true x xs h = omega arith
some_more false x xs h = h

one_at : {X : Type 0} (p : X → Bool) (xs : List X) (k : ℕ) (a : X) → slice_get xs k ≡ Some a → p a ≡ true → 0 < length (filter p xs)
one_at p [] k a ka pa = cc ka
one_at p (x ∷ xs) zero a ka pa =
    let same : x ≡ a = cc ka in
    let here : p x ≡ true = rw same pa in
    rw here (omega arith)
one_at p (x ∷ xs) (suc k) a ka pa = some_more (p x) x (filter p xs) (one_at p xs k a ka pa)

filter_once : {X : Type 0} (p : X → Bool) (xs : List X) → length (filter p xs) ≤ 1
    → (k l : ℕ) (a b : X) → slice_get xs k ≡ Some a → slice_get xs l ≡ Some b → p a ≡ true → p b ≡ true → k ≡ l
filter_once p [] few k l a b ka lb pa pb = cc ka
filter_once p (x ∷ xs) few zero zero a b ka lb pa pb = refl
filter_once p (x ∷ xs) few zero (suc l) a b ka lb pa pb =
    let same : x ≡ a = cc ka in
    let here : p x ≡ true = rw same pa in
    let other : 0 < length (filter p xs) = one_at p xs l b lb pb in
    let two : length (x ∷ filter p xs) ≤ 1 = rw here at few in
    absurd (omega (arith, two, other))
filter_once p (x ∷ xs) few (suc k) zero a b ka lb pa pb =
    let same : x ≡ b = cc lb in
    let here : p x ≡ true = rw same pb in
    let other : 0 < length (filter p xs) = one_at p xs k a ka pa in
    let two : length (x ∷ filter p xs) ≤ 1 = rw here at few in
    absurd (omega (arith, two, other))
filter_once p (x ∷ xs) few (suc k) (suc l) a b ka lb pa pb =
    ap suc (filter_once p xs (fewer (p x) x (filter p xs) few) k l a b ka lb pa pb)

count_once : {X : Type 0} (p : X → Bool) (xs : List X) → count_by p xs ≤ 1
    → (k l : ℕ) (a b : X) → slice_get xs k ≡ Some a → slice_get xs l ≡ Some b → p a ≡ true → p b ≡ true → k ≡ l
count_once p xs few = filter_once p xs (let same = length-filter p xs in omega (arith, same, few))

-- the greater of two roots is apart
second_root : (cfg : NetCfg) (m n : ℕ) → m < n → link_above cfg m ≡ None → link_above cfg n ≡ None → stands_apart cfg n ≡ true
second_root cfg m n h first second =
    let root : is_root cfg m ≡ true = rw first refl in
    let below = below_at (is_root cfg) n m h root in
    rw (second, below) refl

pub tree_of : (cfg : NetCfg) → 0 < node_count cfg
    → ((l : ℕ) (link : LinkCfg) → IsLink cfg l link → (link.upper < node_count cfg) × (link.lower < node_count cfg))
    → HasNoFault cfg → IsTree cfg
tree_of cfg some ends none = record {
  some_node = some;
  ends = ends;
  one_parent = λ k l a b ka lb same.
      let few : count_by (λ link. link.lower == a.lower) cfg.links.items ≤ 1 =
      let told = none.1 a.lower (ends k a ka).1 in grind (arith, nat_tests, told) in
      count_once (λ link. link.lower == a.lower) cfg.links.items few k l a b ka lb
      (grind (arith, nat_tests)) (grind (arith, nat_tests, same));
  one_grandmaster = λ m n gm gn.
      elim (cases_lt m n) [
        | inl before ↦ absurd (false≢true (sym (none.0 n gn.0) ∙ second_root cfg m n before gm.1 gn.1))
        | inr rest ↦ elim (cases_lt n m) [
          | inl behind ↦ absurd (false≢true (sym (none.0 m gm.0) ∙ second_root cfg n m behind gn.1 gm.1))
          | inr still ↦ omega (arith, rest, still)
        ]
      ];
  shallow = λ n h.
      let ends_here = not-false (is_some (depth_of cfg n)) (or_parts (is_root cfg n && some_below (is_root cfg) n) (not (is_some (depth_of cfg n))) (none.0 n h)).1 in
      let few = shallow_of (depth_of cfg n) ends_here (none.2 n h) in
      (few.0, few.2, depth_ends 64 cfg n few.0 few.1);
}
