-- The laws of the second and the third node fit there, and the first has none.
use Rattle.std.proofs.Common.{◌≡◌, ◌∙◌, sym, ap, subst, ℕ, zero, suc, ℤ, ◌≤◌, [], ◌∷◌, None, Some}
use Rattle.std.specs.Option.{is_some}
use Rattle.wrp_network.specs.declared.configuration.NetCfg.{NetCfg}
use Rattle.wrp_network.specs.declared.network.LinkCfg.{LinkCfg}
use Rattle.wrp_network.specs.Network.{link_above}
use Rattle.wrp_law.specs.declared.delay.LawKind.TheVariants.{Linear}
use Rattle.wrp_law.specs.Law.{LawOf, KeepsFact}
use Rattle.wrp_world.specs.New.{FitsLaw}
use Rattle.wrp_plant.specs.Plant.{Each}

none_some : {A : Type 0} (x : A) → None ≡ Some x → ⊥
none_some x e = cc

same : {A : Type 0} (x y : A) → Some x ≡ Some y → x ≡ y
same x y e = cc

top_fits : {F : Type 0} (pre : F → ℤ → Type 0) (post : F → ℤ → ℤ → Type 0) (cfg : NetCfg) → link_above cfg 0 ≡ None → FitsLaw pre post cfg 0 None
top_fits pre post cfg top = record {
  place = sym (ap is_some top);
  fact = tt;
  kind = λ link e. tt;
  err = λ link e. tt;
}

below_fits : {F : Type 0} (pre : F → ℤ → Type 0) (post : F → ℤ → ℤ → Type 0) (cfg : NetCfg) (n : ℕ) (law : LawOf F) (link : LinkCfg) → link_above cfg n ≡ Some link →
    law.kind ≡ Linear link.kappa → law.err ≤ link.law_err → KeepsFact pre post law → FitsLaw pre post cfg n (Some law)
below_fits pre post cfg n law link below kind err fact = record {
  place = sym (ap is_some below);
  fact = fact;
  kind = λ other e. subst (λ l. law.kind ≡ Linear l.kappa) (same link other (sym below ∙ e)) kind;
  err = λ other e. subst (λ l. law.err ≤ l.law_err) (same link other (sym below ∙ e)) err;
}

three_fit : {F : Type 0} (pre : F → ℤ → Type 0) (post : F → ℤ → ℤ → Type 0) (cfg : NetCfg) (law other : LawOf F) → FitsLaw pre post cfg 0 None → FitsLaw pre post cfg 1 (Some law) →
    FitsLaw pre post cfg 2 (Some other) → Each (FitsLaw pre post cfg) (None ∷ (Some law ∷ (Some other ∷ [])))
three_fit pre post cfg law other top first second zero x e = subst (FitsLaw pre post cfg 0) (same None x e) top
three_fit pre post cfg law other top first second (suc zero) x e = subst (FitsLaw pre post cfg 1) (same (Some law) x e) first
three_fit pre post cfg law other top first second (suc (suc zero)) x e = subst (FitsLaw pre post cfg 2) (same (Some other) x e) second
three_fit pre post cfg law other top first second (suc (suc (suc n))) x e = absurd (none_some x e)
