-- The walks up the parents of an accepted network, and its ports.
use Rattle.std.proofs.Common.{◌≡◌, ◌<◌, ◌≤◌, ◌+◌, ◌&&◌, ◌||◌, ◌==◌, ℕ, zero, suc, List, [], ◌∷◌, Bool, true, false, Option, None, Some, cond, option_map, refl, sym, ap, ap₂, subst, ◌∙◌, arith, eq-eqb}
use Rattle.std.proofs.lemmas.Bool.{and_parts, false≢true, eqb-true}
use Rattle.std.specs.Prelude.{slice_get}
use Rattle.std.specs.List.{find, flat_map}
use Rattle.std.proofs.lemmas.Option.{same_Some}
use Rattle.wrp_network.specs.declared.configuration.NetCfg.{NetCfg}
use Rattle.wrp_network.specs.declared.network.LinkCfg.{LinkCfg}
use Rattle.wrp_network.specs.Network.{End, ends_of, IsLink, IsGrandmaster, IsTree, HasDepth, link_above, node_count}
use Rattle.wrp_base.proofs.Lists.{first_passed, found_at}
use Rattle.wrp_caldb.specs.Database.{Database}
use Rattle.wrp_config.specs.Accepted.{HasNoRepeat, IsAccepted}
use Rattle.wrp_config.specs.Laws.{IsAbove, OneGrandmaster, ChildIsDeeper, PortIsOfOneLink, ModulesAreListed}
use Rattle.wrp_config.specs.Names.{is_upper_end, is_lower_end, has_port, link_at, pair_of}
use Rattle.wrp_config.proofs.Ports.{upper_of, lower_of}

pub or_true : (b : Bool) → (b || true) ≡ true
or_true true = refl
or_true false = refl

-- Walks

upper_is_node : (cfg : NetCfg) (n : ℕ) (link : LinkCfg) → IsTree cfg → link_above cfg n ≡ Some link → link.upper < node_count cfg
upper_is_node cfg n link tree above =
    let at = found_at (λ (x : LinkCfg). x.lower == n) cfg.links.items link above in
    (tree.ends at.0 link at.1).0

-- the node at the end of a walk
top_of : (cfg : NetCfg) → IsTree cfg → (depth n : ℕ) → n < node_count cfg → HasDepth cfg depth n
    → (top : ℕ) × IsGrandmaster cfg top × IsAbove cfg depth n top
top_of cfg tree zero n h has = (n, (h, has), refl)
top_of cfg tree (suc depth) n h has =
    let above = top_of cfg tree depth has.0.upper (upper_is_node cfg n has.0 tree has.1) has.2 in
    (above.0, above.1, (has.0, has.1, above.2))

pub one_grandmaster : OneGrandmaster
one_grandmaster cfg db accepted =
    let tree = accepted.tree in
    let first = tree.shallow 0 tree.some_node in
    let top = top_of cfg tree first.0 0 tree.some_node first.2 in (
      top.0,
      top.1,
      λ n is. tree.one_grandmaster n top.0 is top.1,
      λ n h.
          let walk = tree.shallow n h in
          let own = top_of cfg tree walk.0 n h walk.2 in
          let same : own.0 ≡ top.0 = tree.one_grandmaster own.0 top.0 own.1 top.1 in
          (walk.0, walk.1, walk.2, subst (λ t. IsAbove cfg walk.0 n t) same own.2),
    )

same_depth : (cfg : NetCfg) (a b n : ℕ) → HasDepth cfg a n → HasDepth cfg b n → a ≡ b
same_depth cfg zero zero n ha hb = refl
same_depth cfg zero (suc b) n ha hb = let never : None ≡ Some hb.0 = sym ha ∙ hb.1 in cc never
same_depth cfg (suc a) zero n ha hb = let never : None ≡ Some ha.0 = sym hb ∙ ha.1 in cc never
same_depth cfg (suc a) (suc b) n ha hb =
    let same : hb.0 ≡ ha.0 = same_Some hb.0 ha.0 (sym hb.1 ∙ ha.1) in
    let below = subst (λ (link : LinkCfg). HasDepth cfg b link.upper) same hb.2 in
    ap suc (same_depth cfg a b ha.0.upper ha.2 below)

pub child_is_deeper : ChildIsDeeper
child_is_deeper cfg n depth other link above has own =
    let whole : HasDepth cfg (suc depth) n = (link, above, has) in
    same_depth cfg other (suc depth) n own whole

-- Ports

-- the places of a link's ends among all ends
upper_at : (links : List LinkCfg) (l : ℕ) (link : LinkCfg) → slice_get links l ≡ Some link → slice_get (flat_map ends_of links) (l + l) ≡ Some (upper_of link)
upper_at [] l link e = cc e
upper_at (x ∷ xs) zero link e = ap (λ (y : LinkCfg). Some (upper_of y)) (same_Some x link e)
upper_at (x ∷ xs) (suc l) link e =
    let at : suc l + suc l ≡ suc (suc (l + l)) = omega arith in
    rw at (upper_at xs l link e)

lower_at : (links : List LinkCfg) (l : ℕ) (link : LinkCfg) → slice_get links l ≡ Some link → slice_get (flat_map ends_of links) (suc (l + l)) ≡ Some (lower_of link)
lower_at [] l link e = cc e
lower_at (x ∷ xs) zero link e = ap (λ (y : LinkCfg). Some (lower_of y)) (same_Some x link e)
lower_at (x ∷ xs) (suc l) link e =
    let at : suc (suc l + suc l) ≡ suc (suc (suc (l + l))) = omega arith in
    rw at (lower_at xs l link e)

end_is : (node port : ℕ) (n p : ℕ) → ((n == node) && (p == port)) ≡ true → (n ≡ node) × (p ≡ port)
end_is node port n p e =
    let parts = and_parts (n == node) (p == port) e in
    (eqb-true n node parts.0, eqb-true p port parts.1)

abbrev end_with : ℕ → ℕ → End
end_with node port = record { node = node; port = port }

-- a link with a port has one of its ends there
port_place : (links : List LinkCfg) (k node port : ℕ) (x : LinkCfg) (upper : Bool) → slice_get links k ≡ Some x
    → is_upper_end node port x ≡ upper → (upper || is_lower_end node port x) ≡ true
    → (i : ℕ) × (slice_get (flat_map ends_of links) i ≡ Some (end_with node port)) × (k + k ≤ i) × (i ≤ suc (k + k))
port_place links k node port x true at is has =
    let same = end_is node port x.upper x.upper_port is in
    (k + k, upper_at links k x at ∙ ap Some (ap₂ end_with same.0 same.1), omega arith, omega arith)
port_place links k node port x false at is has =
    let same = end_is node port x.lower x.lower_port has in
    (suc (k + k), lower_at links k x at ∙ ap Some (ap₂ end_with same.0 same.1), omega arith, omega arith)

-- what is not found does not pass, and what is found does
missed : {X : Type 0} (p : X → Bool) (xs : List X) → find p xs ≡ None → (i : ℕ) (x : X) → slice_get xs i ≡ Some x → p x ≡ false
missed p [] e i x at = cc at
missed p (y ∷ ys) e zero x at =
    let same : y ≡ x = same_Some y x at in subst (λ z. p z ≡ false) same (first_passed p y ys e).0
missed p (y ∷ ys) e (suc i) x at = missed p ys (first_passed p y ys e).1 i x at

passes_if : {X : Type 0} (p : X → Bool) (b : Bool) (y : X) (rest : Option X) (x : X) → p y ≡ b → (rest ≡ Some x → p x ≡ true)
    → cond b (Some y) rest ≡ Some x → p x ≡ true
passes_if p true y rest x here later e = let same : y ≡ x = same_Some y x e in subst (λ z. p z ≡ true) same here
passes_if p false y rest x here later e = later e

found_passes : {X : Type 0} (p : X → Bool) (xs : List X) (x : X) → find p xs ≡ Some x → p x ≡ true
found_passes p [] x e = cc e
found_passes p (y ∷ ys) x e = passes_if p (p y) y (find p ys) x refl (found_passes p ys x) e

-- so it is the link at whose end that port is
found_is : (links : List LinkCfg) → HasNoRepeat (flat_map ends_of links) → (l node port i : ℕ) (link : LinkCfg) → slice_get links l ≡ Some link
    → slice_get (flat_map ends_of links) i ≡ Some (end_with node port) → l + l ≤ i → i ≤ suc (l + l)
    → (found : Option LinkCfg) → find (has_port node port) links ≡ found → has_port node port link ≡ true → found ≡ Some link
found_is links once l node port i link at place low high None e has = absurd (false≢true (sym (missed (has_port node port) links e l link at) ∙ has))
found_is links once l node port i link at place low high (Some x) e has =
    let k = found_at (has_port node port) links x e in
    let passes = found_passes (has_port node port) links x e in
    let other = port_place links k.0 node port x (is_upper_end node port x) k.1 refl passes in
    let same : other.0 ≡ i = once other.0 i (end_with node port) other.1 place in
    let index : k.0 ≡ l = omega (arith, same, other.2, other.3, low, high) in
    sym k.1 ∙ ap (slice_get links) index ∙ at

pub upper_has : (link : LinkCfg) → is_upper_end link.upper link.upper_port link ≡ true
upper_has link = rw (eq-eqb link.upper link.upper refl, eq-eqb link.upper_port link.upper_port refl) refl

pub lower_has : (link : LinkCfg) → is_lower_end link.lower link.lower_port link ≡ true
lower_has link = rw (eq-eqb link.lower link.lower refl, eq-eqb link.lower_port link.lower_port refl) refl

link_of_upper : (cfg : NetCfg) (db : Database) (l : ℕ) (link : LinkCfg) → IsAccepted cfg db → IsLink cfg l link → link_at cfg link.upper link.upper_port ≡ Some link
link_of_upper cfg db l link accepted at =
    let has : has_port link.upper link.upper_port link ≡ true = rw (upper_has link) refl in
    found_is cfg.links.items accepted.ports l link.upper link.upper_port (l + l) link at (upper_at cfg.links.items l link at) (omega arith) (omega arith)
    (link_at cfg link.upper link.upper_port) refl has

link_of_lower : (cfg : NetCfg) (db : Database) (l : ℕ) (link : LinkCfg) → IsAccepted cfg db → IsLink cfg l link → link_at cfg link.lower link.lower_port ≡ Some link
link_of_lower cfg db l link accepted at =
    let has : has_port link.lower link.lower_port link ≡ true = rw (lower_has link) (or_true (is_upper_end link.lower link.lower_port link)) in
    found_is cfg.links.items accepted.ports l link.lower link.lower_port (suc (l + l)) link at (lower_at cfg.links.items l link at) (omega arith) (omega arith)
    (link_at cfg link.lower link.lower_port) refl has

-- the lower end is not the upper one
not_upper : (cfg : NetCfg) (db : Database) (l : ℕ) (link : LinkCfg) → IsAccepted cfg db → IsLink cfg l link
    → (b : Bool) → is_upper_end link.lower link.lower_port link ≡ b → b ≡ false
not_upper cfg db l link accepted at false is = refl
not_upper cfg db l link accepted at true is =
    let same = end_is link.lower link.lower_port link.upper link.upper_port is in
    let upper = upper_at cfg.links.items l link at ∙ ap Some (ap₂ end_with same.0 same.1) in
    let index : l + l ≡ suc (l + l) = accepted.ports (l + l) (suc (l + l)) (lower_of link) upper (lower_at cfg.links.items l link at) in
    absurd (omega (arith, index))

pub port_is_of_one_link : PortIsOfOneLink
port_is_of_one_link cfg db l link accepted at =
    let upper = link_of_upper cfg db l link accepted at in
    let lower = link_of_lower cfg db l link accepted at in
    let other = not_upper cfg db l link accepted at (is_upper_end link.lower link.lower_port link) refl in (
      upper,
      lower,
      ap (option_map (pair_of link.upper link.upper_port)) upper ∙ ap (λ b. Some (cond b (link.down_nm, link.up_nm) (link.up_nm, link.down_nm))) (upper_has link),
      ap (option_map (pair_of link.lower link.lower_port)) lower ∙ ap (λ b. Some (cond b (link.down_nm, link.up_nm) (link.up_nm, link.down_nm))) other,
    )

pub modules_are_listed : ModulesAreListed
modules_are_listed cfg db l link accepted at =
    let ports = port_is_of_one_link cfg db l link accepted at in
    let fits = accepted.links l link at in
    (rw ports.2 fits.upper_module, rw ports.3 fits.lower_module)
