-- Each port at an end of a link is among the ports that its node is set to.
use Rattle.std.proofs.Common.{◌≡◌, ◌⊎◌, inl, inr, ◌∙◌, refl, ap, sym, subst, ℕ, zero, suc, ◌+◌, ◌==◌, ◌&&◌, Bool, true, false, if◌then◌else◌, List, [], ◌∷◌, ◌++◌, map, flat_map, Option, None, Some, slice_get}
use Rattle.std.proofs.lemmas.Option.{none-some, same_Some}
use Rattle.wrp_network.specs.declared.configuration.NetCfg.{NetCfg}
use Rattle.wrp_base.specs.declared.link.Role.{Role}
use Rattle.wrp_base.specs.declared.link.Role.TheVariants.{Master, Slave}
use Rattle.wrp_network.specs.declared.network.LinkCfg.{LinkCfg}
use Rattle.wrp_network.specs.Network.{End}
use Rattle.wrp_base.proofs.Naturals.{eq_self}
use Rattle.wrp_config.specs.Names.{is_lower_end, is_upper_end}
use Rattle.wrp_data.specs.declared.datasets.PortDs.{PortDs}
use Rattle.wrp_node.specs.declared.interface.NodeSet.{NodeSet}
use Rattle.wrp_node.specs.NodeAt.{in_order, is_before, numbers_of, placed}
use Rattle.wrp_node.specs.Set.{master_at, ports_at, ports_of, set_of, slave_at}
use Rattle.wrp_course.specs.declared.place.Place.{Place}
use Rattle.wrp_course.specs.Runs.{IsNetwork}
use Rattle.wrp_course.specs.Setting.{Setting, end_of, link_of, place_among, place_of}
use Rattle.wrp_course.proofs.RunCarried.{IsLeft, IsLinkOf}
use Rattle.wrp_course.proofs.LinkPorts.{ds_at}
use Rattle.wrp_course.proofs.RunGiven.{end_is}
use Rattle.wrp_course.proofs.RunNetwork.{LinkEnd, are_apart, end_with, place_end}

-- Among

abbrev pub In : {A : Type 0} → A → List A → Type 0
In x [] = ⊥
In x (y ∷ ys) = (x ≡ y) ⊎ In x ys

pub in_left : {A : Type 0} (x : A) (xs ys : List A) → In x xs → In x (xs ++ ys)
in_left x [] ys h = absurd h
in_left x (z ∷ xs) ys h = elim h [ inl e ↦ inl e | inr t ↦ inr (in_left x xs ys t) ]

pub in_right : {A : Type 0} (x : A) (xs ys : List A) → In x ys → In x (xs ++ ys)
in_right x [] ys h = h
in_right x (z ∷ xs) ys h = inr (in_right x xs ys h)

in_map : {A B : Type 0} (f : A → B) (x : A) (xs : List A) → In x xs → In (f x) (map f xs)
in_map f x [] h = absurd h
in_map f x (z ∷ xs) h = elim h [ inl e ↦ inl (ap f e) | inr t ↦ inr (in_map f x xs t) ]

in_flat : {A B : Type 0} (f : A → List B) (xs : List A) (k : ℕ) (a : A) (x : B) → slice_get xs k ≡ Some a → In x (f a) → In x (flat_map f xs)
in_flat f [] k a x e h = absurd (none-some a e)
in_flat f (z ∷ xs) zero a x e h = in_left x (f z) (flat_map f xs) (subst (λ t. In x (f t)) (sym (same_Some z a e)) h)
in_flat f (z ∷ xs) (suc k) a x e h = in_right x (f z) (flat_map f xs) (in_flat f xs k a x e h)

-- In order

put_before : (x ds other : PortDs) (ports : List PortDs) (b : Bool) → (In x (ds ∷ ports) → In x (placed ds ports)) → In x (ds ∷ (other ∷ ports)) → In x (if b then other ∷ placed ds ports else ds ∷ other ∷ ports)
put_before x ds other ports true h i = elim i [
  | inl e ↦ inr (h (inl e))
  | inr t ↦ elim t [ inl e ↦ inl e | inr u ↦ inr (h (inr u)) ]
]
put_before x ds other ports false h i = i

put : (x ds : PortDs) (ports : List PortDs) → In x (ds ∷ ports) → In x (placed ds ports)
put x ds [] i = i
put x ds (other ∷ ports) i = put_before x ds other ports (is_before other ds) (put x ds ports) i

ordered : (x : PortDs) (ports : List PortDs) → In x ports → In x (in_order ports)
ordered x [] i = absurd i
ordered x (ds ∷ ports) i = elim i [
  | inl e ↦ put x ds (in_order ports) (inl e)
  | inr t ↦ put x ds (in_order ports) (inr (ordered x ports t))
]

-- The port at an end

at_link : (net : NetCfg) (r : Role) (link : LinkCfg) → In (ds_at net r link) (ports_at net (end_of r link).node link)
at_link net Master link =
    in_left (master_at net link) (if link.upper == link.upper then master_at net link ∷ [] else []) (if link.lower == link.upper then slave_at net link ∷ [] else [])
    (subst (λ b. In (master_at net link) (if b then master_at net link ∷ [] else [])) (sym (eq_self link.upper)) (inl refl))
at_link net Slave link =
    in_right (slave_at net link) (if link.upper == link.lower then master_at net link ∷ [] else []) (if link.lower == link.lower then slave_at net link ∷ [] else [])
    (subst (λ b. In (slave_at net link) (if b then slave_at net link ∷ [] else [])) (sym (eq_self link.lower)) (inl refl))

number_at : (net : NetCfg) (r : Role) (link : LinkCfg) → (ds_at net r link).own.port ≡ (end_of r link).port
number_at net Master link = refl
number_at net Slave link = refl

pub is_listed : (s : Setting) → IsNetwork s → (k : ℕ) (r : Role) (link : LinkCfg) → link_of s k ≡ Some link → In (end_of r link).port (numbers_of (s.set (end_of r link).node))
is_listed s net k r link is =
    subst (λ (x : NodeSet). In (end_of r link).port (numbers_of x)) (sym (net.set (end_of r link).node))
    (subst (λ p. In p (numbers_of (set_of s.cfg (end_of r link).node))) (number_at s.cfg r link)
    (in_map (λ ds. ds.own.port) (ds_at s.cfg r link) (in_order (ports_of s.cfg (end_of r link).node))
    (ordered (ds_at s.cfg r link) (ports_of s.cfg (end_of r link).node)
    (in_flat (ports_at s.cfg (end_of r link).node) s.cfg.links.items k link (ds_at s.cfg r link) is (at_link s.cfg r link)))))

-- Its place

either_some : (a : Bool) (x y : Place) → (if a then Some x else Some y) ≡ None → ⊥
either_some true x y e = none-some x (sym e)
either_some false x y e = none-some y (sym e)

rest_none : (a b : Bool) (x y : Place) (o : Option Place) → (if a then Some x else (if b then Some y else o)) ≡ None → o ≡ None
rest_none true b x y o e = absurd (none-some x (sym e))
rest_none false true x y o e = absurd (none-some y (sym e))
rest_none false false x y o e = e

abbrev placed_by : Bool → Bool → ℕ → Option Place → Option Place
placed_by a b k o = if a then Some (record { link = k; role = Master }) else (if b then Some (record { link = k; role = Slave }) else o)

here : (n p : ℕ) (end : End) → end ≡ end_with n p → ((end.node == n) && (end.port == p)) ≡ true
here n p end e = ap (λ (x : End). (x.node == n) && (x.port == p)) e ∙ ap (λ b. b && (p == p)) (eq_self n) ∙ eq_self p

found_here : (r : Role) (n p k : ℕ) (l : LinkCfg) (links : List LinkCfg) → end_of r l ≡ end_with n p → place_among n p k (l ∷ links) ≡ None → ⊥
found_here Master n p k l links e f =
    none-some (record { link = k; role = Master })
    (sym f ∙ ap (λ b. placed_by b (is_lower_end n p l) k (place_among n p (k + 1) links)) (here n p (end_of Master l) e))
found_here Slave n p k l links e f =
    either_some (is_upper_end n p l) (record { link = k; role = Master }) (record { link = k; role = Slave })
    (sym (ap (λ b. placed_by (is_upper_end n p l) b k (place_among n p (k + 1) links)) (here n p (end_of Slave l) e)) ∙ f)

found : (r : Role) (n p k : ℕ) (links : List LinkCfg) (i : ℕ) (link : LinkCfg) → slice_get links i ≡ Some link → end_of r link ≡ end_with n p → place_among n p k links ≡ None → ⊥
found r n p k [] i link is e f = none-some link is
found r n p k (l ∷ links) zero link is e f = found_here r n p k l links (ap (end_of r) (same_Some l link is) ∙ e) f
found r n p k (l ∷ links) (suc i) link is e f =
    found r n p (k + 1) links i link is e
    (rest_none (is_upper_end n p l) (is_lower_end n p l) (record { link = k; role = Master }) (record { link = k; role = Slave }) (place_among n p (k + 1) links) f)

link_here : (s : Setting) → IsNetwork s → (k : ℕ) (r : Role) (link : LinkCfg) → link_of s k ≡ Some link → (o : Option Place) → place_of s (end_of r link).node (end_of r link).port ≡ o → IsLinkOf k o
link_here s net k r link is None e = absurd (found r (end_of r link).node (end_of r link).port 0 s.cfg.links.items k link is refl e)
link_here s net k r link is (Some place) e =
    let it : LinkEnd s place.link place.role (end_of r link) = place_end s (end_of r link).node (end_of r link).port place e in
    (are_apart s net place.link k place.role r (end_of r link) (end_is s place.link place.role it.link it.there ∙ ap Some it.end_is) (end_is s k r link is)).0

left_in : (s : Setting) (n k p : ℕ) (ps : List ℕ) → IsLinkOf k (place_of s n p) → In p ps → IsLeft s n k ps
left_in s n k p [] h i = absurd i
left_in s n k p (q ∷ ps) h i = elim i [
  | inl e ↦ inl (subst (λ x. IsLinkOf k (place_of s n x)) e h)
  | inr t ↦ inr (left_in s n k p ps h t)
]

-- a link of a node is the link of one of its ports
pub link_is_left : (s : Setting) → IsNetwork s → (n k : ℕ) (r : Role) (link : LinkCfg) → link_of s k ≡ Some link → (end_of r link).node ≡ n → IsLeft s n k (numbers_of (s.set n))
link_is_left s net n k r link is e =
    subst (λ m. IsLeft s m k (numbers_of (s.set m))) e
    (left_in s (end_of r link).node k (end_of r link).port (numbers_of (s.set (end_of r link).node)) (link_here s net k r link is (place_of s (end_of r link).node (end_of r link).port) refl) (is_listed s net k r link is))
