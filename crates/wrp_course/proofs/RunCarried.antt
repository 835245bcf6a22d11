-- Carriers that go from, and come to, all links of a node's ports.
use Rattle.std.proofs.Common.{◌≡◌, ◌⊎◌, inl, inr, ◌∙◌, refl, ap, sym, subst, ℕ, ℤ, Bool, true, false, if◌then◌else◌, List, [], ◌∷◌, ◌++◌, flat_map, Option, None, Some}
use Rattle.std.proofs.lemmas.Bool.Decides.{eqb_tells}
use Rattle.wrp_base.specs.declared.link.Module.{Module}
use Rattle.wrp_base.specs.declared.link.Role.{Role}
use Rattle.wrp_base.proofs.Booleans.{not_both}
use Rattle.wrp_course.specs.declared.place.Place.{Place}
use Rattle.wrp_course.specs.Given.{Given, comes_from, gives, gives_all, goes_from, if_carried}
use Rattle.wrp_course.specs.LinkEnds.{in_place}
use Rattle.wrp_course.specs.Runs.{IsNetwork}
use Rattle.wrp_course.specs.Setting.{Setting, place_of}
use Rattle.wrp_course.specs.WorldAt.{WorldAt, has_carrier}
use Rattle.wrp_course.proofs.RunKept.{Laws, RunKeeps, comes_keep, goes_keep, weaker}

pub gives_append : (s : Setting) (y : ℤ) (xs ys : List Given) (v : WorldAt) → gives_all s y v (xs ++ ys) ≡ gives_all s y (gives_all s y v xs) ys
gives_append s y [] ys v = refl
gives_append s y (x ∷ xs) ys v = gives_append s y xs ys (gives s y v x)

-- a link is the link of one of these ports, which are still to come

abbrev pub IsLinkOf : ℕ → Option Place → Type 0
IsLinkOf k None = ⊥
IsLinkOf k (Some place) = place.link ≡ k

abbrev pub IsLeft : Setting → (n k : ℕ) → List ℕ → Type 0
IsLeft s n k [] = ⊥
IsLeft s n k (p ∷ ps) = IsLinkOf k (place_of s n p) ⊎ IsLeft s n k ps

-- it is none of the ports that are left, nor of the next
pub not_next : (s : Setting) (n k p : ℕ) (ps : List ℕ) (o : Option Place) → place_of s n p ≡ o → (IsLinkOf k o → ⊥) → (IsLeft s n k ps → ⊥) → IsLeft s n k (p ∷ ps) → ⊥
not_next s n k p ps o e h u t = elim t [ inl x ↦ h (subst (IsLinkOf k) e x) | inr x ↦ u x ]

-- Carriers that come, in the world v, if they were in the world w or come at a port

abbrev pub CameBut : Setting → (w v : WorldAt) → (n : ℕ) → List ℕ → ℕ → (Role → Option Module) → Type 0
CameBut s w v n ps k placed = has_carrier s v k ≡ true → (has_carrier s w k ≡ true) ⊎ (IsLeft s n k ps → ⊥) → (q : Role) → placed q ≡ in_place s v k q

abbrev pub Uncarried : Setting → WorldAt → ℕ → Type 0
Uncarried s v k = has_carrier s v k ≡ false

came_next : (s : Setting) (w v : WorldAt) (n p : ℕ) (ps : List ℕ) (o : Option Place) → place_of s n p ≡ o → (k : ℕ) (placed : Role → Option Module) → (has_carrier s v k ≡ true → IsLinkOf k o → ⊥) →
    CameBut s w v n (p ∷ ps) k placed → CameBut s w v n ps k placed
came_next s w v n p ps o e k placed h f c t = f c (elim t [ inl x ↦ inl x | inr u ↦ inr (not_next s n k p ps o e (h c) u) ])

come_one : Laws → (s : Setting) → IsNetwork s → (y : ℤ) (w v : WorldAt) (n p : ℕ) (ps : List ℕ) (x : WorldAt) (place : Place) (b : Bool) → place_of s n p ≡ Some place → has_carrier s v place.link ≡ b →
    RunKeeps s (CameBut s w v n (p ∷ ps)) (Uncarried s v) x → RunKeeps s (CameBut s w v n ps) (Uncarried s v) (gives_all s y x (if b then comes_from s v place.link place.role else []))
come_one laws s net y w v n p ps x place true e c h =
    comes_keep laws s (CameBut s w v n (p ∷ ps)) (CameBut s w v n ps) (Uncarried s v) net y v x place.link place.role (λ d. not_both (has_carrier s v place.link) c d)
    (λ placed f i t q. f q)
    (λ k placed out f. came_next s w v n p ps (Some place) e k placed (λ i same. out (sym same)) f) h
come_one laws s net y w v n p ps x place false e c h =
    weaker s (CameBut s w v n (p ∷ ps)) (CameBut s w v n ps) (Uncarried s v) (Uncarried s v) x
    (λ k placed f. came_next s w v n p ps (Some place) e k placed (λ i same. not_both (has_carrier s v k) i (ap (has_carrier s v) (sym same) ∙ c)) f) (λ k d. d) h

come_next : Laws → (s : Setting) → IsNetwork s → (y : ℤ) (w v : WorldAt) (n p : ℕ) (ps : List ℕ) (x : WorldAt) (o : Option Place) → place_of s n p ≡ o →
    RunKeeps s (CameBut s w v n (p ∷ ps)) (Uncarried s v) x → RunKeeps s (CameBut s w v n ps) (Uncarried s v) (gives_all s y x (if_carried s v (comes_from s v) o))
come_next laws s net y w v n p ps x None e h =
    weaker s (CameBut s w v n (p ∷ ps)) (CameBut s w v n ps) (Uncarried s v) (Uncarried s v) x
    (λ k placed f. came_next s w v n p ps None e k placed (λ i t. t) f) (λ k d. d) h
come_next laws s net y w v n p ps x (Some place) e h = come_one laws s net y w v n p ps x place (has_carrier s v place.link) e refl h

pub ports_come : Laws → (s : Setting) → IsNetwork s → (y : ℤ) (w v : WorldAt) (n : ℕ) (ps : List ℕ) (x : WorldAt) → RunKeeps s (CameBut s w v n ps) (Uncarried s v) x →
    RunKeeps s (CameBut s w v n []) (Uncarried s v) (gives_all s y x (flat_map (λ p. if_carried s v (comes_from s v) (place_of s n p)) ps))
ports_come laws s net y w v n [] x h = h
ports_come laws s net y w v n (p ∷ ps) x h =
    let here : List Given = if_carried s v (comes_from s v) (place_of s n p) in
    let rest : List Given = flat_map (λ q. if_carried s v (comes_from s v) (place_of s n q)) ps in
    subst (RunKeeps s (CameBut s w v n []) (Uncarried s v)) (sym (gives_append s y here rest x))
    (ports_come laws s net y w v n ps (gives_all s y x here) (come_next laws s net y w v n p ps x (place_of s n p) refl h))

-- Carriers that go, if they were in the world w, at each port

abbrev pub GoneBut : Setting → WorldAt → (n : ℕ) → (all ps : List ℕ) → ℕ → Type 0
GoneBut s w n all ps k = (has_carrier s w k ≡ false) ⊎ (IsLeft s n k all × (IsLeft s n k ps → ⊥))

gone_next : (s : Setting) (w : WorldAt) (n p : ℕ) (all ps : List ℕ) (o : Option Place) → place_of s n p ≡ o → (k : ℕ) → (IsLinkOf k o → ⊥) → GoneBut s w n all ps k → GoneBut s w n all (p ∷ ps) k
gone_next s w n p all ps o e k h d = elim d [ inl x ↦ inl x | inr x ↦ inr (x.0, not_next s n k p ps o e h x.1) ]

gone_or : (s : Setting) (w : WorldAt) (n p : ℕ) (all ps : List ℕ) (place : Place) → place_of s n p ≡ Some place → (k : ℕ) → GoneBut s w n all ps k → GoneBut s w n all (p ∷ ps) k ⊎ (k ≡ place.link)
gone_or s w n p all ps place e k d = elim (eqb_tells k place.link) [
  | inl x ↦ inr x.1
  | inr x ↦ inl (gone_next s w n p all ps (Some place) e k (λ same. x.1 (sym same)) d)
]

gone_dark : (s : Setting) (w : WorldAt) (n p : ℕ) (all ps : List ℕ) (place : Place) → place_of s n p ≡ Some place → has_carrier s w place.link ≡ false → (k : ℕ) → GoneBut s w n all ps k → GoneBut s w n all (p ∷ ps) k
gone_dark s w n p all ps place e c k d = elim (gone_or s w n p all ps place e k d) [ inl x ↦ x | inr x ↦ inl (ap (has_carrier s w) x ∙ c) ]

go_one : Laws → (s : Setting) (R : ℕ → (Role → Option Module) → Type 0) → IsNetwork s → (y : ℤ) (w : WorldAt) (n p : ℕ) (all ps : List ℕ) (x : WorldAt) (place : Place) (b : Bool) → place_of s n p ≡ Some place →
    has_carrier s w place.link ≡ b → RunKeeps s R (GoneBut s w n all (p ∷ ps)) x → RunKeeps s R (GoneBut s w n all ps) (gives_all s y x (if b then goes_from s place.link place.role else []))
go_one laws s R net y w n p all ps x place true e c h =
    weaker s R R (λ k. GoneBut s w n all (p ∷ ps) k ⊎ (k ≡ place.link)) (GoneBut s w n all ps) (gives_all s y x (goes_from s place.link place.role)) (λ k placed f. f) (gone_or s w n p all ps place e)
    (goes_keep laws s R (GoneBut s w n all (p ∷ ps)) net y x place.link place.role h)
go_one laws s R net y w n p all ps x place false e c h =
    weaker s R R (GoneBut s w n all (p ∷ ps)) (GoneBut s w n all ps) x (λ k placed f. f) (gone_dark s w n p all ps place e c) h

go_next : Laws → (s : Setting) (R : ℕ → (Role → Option Module) → Type 0) → IsNetwork s → (y : ℤ) (w : WorldAt) (n p : ℕ) (all ps : List ℕ) (x : WorldAt) (o : Option Place) → place_of s n p ≡ o →
    RunKeeps s R (GoneBut s w n all (p ∷ ps)) x → RunKeeps s R (GoneBut s w n all ps) (gives_all s y x (if_carried s w (goes_from s) o))
go_next laws s R net y w n p all ps x None e h =
    weaker s R R (GoneBut s w n all (p ∷ ps)) (GoneBut s w n all ps) x (λ k placed f. f) (λ k d. gone_next s w n p all ps None e k (λ t. t) d) h
go_next laws s R net y w n p all ps x (Some place) e h = go_one laws s R net y w n p all ps x place (has_carrier s w place.link) e refl h

pub ports_go : Laws → (s : Setting) (R : ℕ → (Role → Option Module) → Type 0) → IsNetwork s → (y : ℤ) (w : WorldAt) (n : ℕ) (all ps : List ℕ) (x : WorldAt) → RunKeeps s R (GoneBut s w n all ps) x →
    RunKeeps s R (GoneBut s w n all []) (gives_all s y x (flat_map (λ p. if_carried s w (goes_from s) (place_of s n p)) ps))
ports_go laws s R net y w n all [] x h = h
ports_go laws s R net y w n all (p ∷ ps) x h =
    let here : List Given = if_carried s w (goes_from s) (place_of s n p) in
    let rest : List Given = flat_map (λ q. if_carried s w (goes_from s) (place_of s n q)) ps in
    subst (RunKeeps s R (GoneBut s w n all [])) (sym (gives_append s y here rest x))
    (ports_go laws s R net y w n all ps (gives_all s y x here) (go_next laws s R net y w n p all ps x (place_of s n p) refl h))
