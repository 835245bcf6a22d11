-- The link above a node is the one of which the node is the lower end.
use Rattle.std.proofs.Common.{◌≡◌, ◌∙◌, refl, ap, sym, ℕ, zero, suc, ◌==◌, Bool, true, false, List, [], ◌∷◌, Some}
use Rattle.std.proofs.lemmas.Bool.{eqb-true}
use Rattle.std.specs.List.{find}
use Rattle.std.specs.Prelude.{slice_get}
use Rattle.std.proofs.lemmas.Option.{none-some, same_Some}
use Rattle.wrp_network.specs.declared.network.LinkCfg.{LinkCfg}
use Rattle.wrp_network.specs.Network.{IsTree, link_above}
use Rattle.wrp_base.proofs.Booleans.{not_both}
use Rattle.wrp_base.proofs.Naturals.{eq_self}
use Rattle.wrp_course.specs.Runs.{IsNetwork}
use Rattle.wrp_course.specs.Setting.{Setting, link_of}

record Found {A : Type 0} (test : A → Bool) (xs : List A) : Type 0 where
  what : A
  place : ℕ
  is : find test xs ≡ Some what
  there : slice_get xs place ≡ Some what
  passes : test what ≡ true

found_later : {A : Type 0} (test : A → Bool) (x : A) (xs : List A) (b : Bool) → test x ≡ b → (b ≡ false → Found test xs) → Found test (x ∷ xs)
found_later test x xs true e h = record { what = x; place = 0; is = rw e refl; there = refl; passes = e }
found_later test x xs false e h =
    let f : Found test xs = h refl in
    record { what = f.what; place = suc f.place; is = rw e f.is; there = f.there; passes = f.passes }

-- if one passes, the first that does is found
found_at : {A : Type 0} (test : A → Bool) (xs : List A) (k : ℕ) (x : A) → slice_get xs k ≡ Some x → test x ≡ true → Found test xs
found_at test [] k x e t = absurd (none-some x e)
found_at test (y ∷ xs) zero x e t = found_later test y xs (test y) refl (λ f. absurd (not_both (test x) t (ap test (sym (same_Some y x e)) ∙ f)))
found_at test (y ∷ xs) (suc k) x e t = found_later test y xs (test y) refl (λ f. found_at test xs k x e t)

-- what is found is at some place
found_where : {A : Type 0} (test : A → Bool) (x : A) (xs : List A) (b : Bool) (y : A) → test x ≡ b → find test (x ∷ xs) ≡ Some y → (find test xs ≡ Some y → (k : ℕ) × (slice_get xs k ≡ Some y) × (test y ≡ true)) →
    (k : ℕ) × (slice_get (x ∷ xs) k ≡ Some y) × (test y ≡ true)
found_where test x xs true y e f h =
    let is : x ≡ y = same_Some x y (sym (rw e refl) ∙ f) in
    (0, ap Some is, ap test (sym is) ∙ e)
found_where test x xs false y e f h =
    let rest : (k : ℕ) × (slice_get xs k ≡ Some y) × (test y ≡ true) = h (sym (rw e refl) ∙ f) in
    (suc rest.0, rest.1, rest.2)

pub place_found : {A : Type 0} (test : A → Bool) (xs : List A) (y : A) → find test xs ≡ Some y → (k : ℕ) × (slice_get xs k ≡ Some y) × (test y ≡ true)
place_found test [] y e = absurd (none-some y e)
place_found test (x ∷ xs) y e = found_where test x xs (test x) y refl e (place_found test xs y)

pub above_is : (s : Setting) → IsNetwork s → (k : ℕ) (link : LinkCfg) → link_of s k ≡ Some link → link_above s.cfg link.lower ≡ Some link
above_is s net k link is =
    let tree : IsTree s.cfg = net.accepted.tree in
    let f : Found (λ l. l.lower == link.lower) s.cfg.links.items = found_at (λ (l : LinkCfg). l.lower == link.lower) s.cfg.links.items k link is (eq_self link.lower) in
    let place : f.place ≡ k = tree.one_parent f.place k f.what link f.there is (eqb-true f.what.lower link.lower f.passes) in
    f.is ∙ sym f.there ∙ ap (slice_get s.cfg.links.items) place ∙ is

-- and it has a number
pub above_at : (s : Setting) (n : ℕ) (link : LinkCfg) → link_above s.cfg n ≡ Some link → (k : ℕ) × (link_of s k ≡ Some link) × (link.lower ≡ n)
above_at s n link e =
    let it : (k : ℕ) × (slice_get s.cfg.links.items k ≡ Some link) × ((link.lower == n) ≡ true) = place_found (λ (l : LinkCfg). l.lower == n) s.cfg.links.items link e in
    (it.0, it.1, eqb-true link.lower n it.2)
