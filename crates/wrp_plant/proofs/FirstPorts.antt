-- The first port at which a waiting frame was put out now: the first among the ends of links is the first of all ports.
use Rattle.std.proofs.Common.{◌≡◌, ◌∙◌, ◌⊎◌, inl, inr, refl, ap, ap₂, sym, subst, ℕ, zero, suc, ◌+◌, ◌<◌, ◌≤◌, nat_lt, Bool, true, false, cond, if◌then◌else◌, List, [], ◌∷◌, ◌++◌, find, flat_map, map, length, Option, None, Some, option_map, is_some, slice_get, arith}
use Rattle.std.proofs.lemmas.Bool.{cases_lt, ltb-false, ltb-true, true≢false}
use Rattle.std.proofs.lemmas.Option.{none-some, same_Some}
use Rattle.std.specs.Option.{option_or}
use Rattle.wrp_network.specs.declared.configuration.NetCfg.{NetCfg}
use Rattle.wrp_base.specs.declared.link.Role.{Role}
use Rattle.wrp_base.specs.declared.link.Role.TheVariants.{Master, Slave}
use Rattle.wrp_network.specs.declared.network.LinkCfg.{LinkCfg}
use Rattle.wrp_network.specs.Network.{End, HasLinkRanges, node_count}
use Rattle.wrp_base.proofs.Lists.{has_item}
use Rattle.wrp_caldb.specs.Database.{Database}
use Rattle.wrp_config.specs.Accepted.{IsAccepted}
use Rattle.wrp_course.specs.declared.place.Place.{Place}
use Rattle.wrp_course.specs.Moved.{waiting_at}
use Rattle.wrp_course.specs.Setting.{Setting, end_at, end_of, from_on, place_of}
use Rattle.wrp_course.specs.Views.{oldest_of, waiting_of}
use Rattle.wrp_course.specs.WorldAt.{WorldAt}
use Rattle.wrp_node.specs.Set.{set_of}
use Rattle.wrp_plant.specs.declared.plant.Plant.{Plant}
use Rattle.wrp_plant.specs.FirstPort.{first_among, rank, sooner, with_end, with_port}
use Rattle.wrp_plant.specs.Plant.{FitsPlant, PlantIs}
use Rattle.wrp_plant.specs.PutOut.{first_put_out, is_now, puts_out_at}
use Rattle.wrp_course.proofs.PortNumbers.{has-place}
use Rattle.wrp_course.proofs.RunNetwork.{LinkEnd, are_apart, end_with, link_end, place_end}
use Rattle.wrp_plant.proofs.OwnPorts.{own_port}
use Rattle.wrp_plant.proofs.PutOuts.{place_within}

no_both : (b : Bool) → b ≡ true → b ≡ false → ⊥
no_both b e f = true≢false (sym e ∙ f)

-- Ends of links

-- a port at an end at which the oldest waiting frame was put out now
record AtEnd (s : Setting) (w : WorldAt) (port : ℕ × ℕ) : Type 0 where
  pub link : ℕ
  pub role : Role
  pub end_is : end_at s link role ≡ Some (end_with port.0 port.1)
  pub puts : puts_out_at w link role ≡ true

-- the first such port among these ends
abbrev Foremost : Setting → WorldAt → (ℕ → Role → Type 0) → Option (ℕ × ℕ) → Type 0
Foremost s w D None = (k : ℕ) (r : Role) → D k r → puts_out_at w k r ≡ false
Foremost s w D (Some port) =
    AtEnd s w port
    × ((k : ℕ) (r : Role) (n p : ℕ) → D k r → end_at s k r ≡ Some (end_with n p) → puts_out_at w k r ≡ true → rank port ≤ rank (n, p))

-- these ends and one more
abbrev More : (ℕ → Role → Type 0) → ℕ → Role → ℕ → Role → Type 0
More D k r j q = D j q ⊎ ((j ≡ k) × (q ≡ r))

fewer : (s : Setting) (w : WorldAt) (D E : ℕ → Role → Type 0) (o : Option (ℕ × ℕ)) → ((k : ℕ) (r : Role) → E k r → D k r) → Foremost s w D o → Foremost s w E o
fewer s w D E None f h = λ k r e. h k r (f k r e)
fewer s w D E (Some port) f h = (h.0, λ k r n p e at puts. h.1 k r n p (f k r e) at puts)

unchanged : (s : Setting) (w : WorldAt) (D : ℕ → Role → Type 0) (k : ℕ) (r : Role) (o : Option (ℕ × ℕ)) → puts_out_at w k r ≡ false → Foremost s w D o →
    Foremost s w (More D k r) o
unchanged s w D k r None e h = λ j q d. elim d [
  | inl old ↦ h j q old
  | inr here ↦ ap₂ (λ a b. puts_out_at w a b) here.0 here.1 ∙ e
]
unchanged s w D k r (Some port) e h = (
  h.0,
  λ j q n p d at puts. elim d [
    | inl old ↦ h.1 j q n p old at puts
    | inr here ↦ absurd (no_both (puts_out_at w j q) puts (ap₂ (λ a b. puts_out_at w a b) here.0 here.1 ∙ e))
  ],
)

-- the port at the added end
rank_here : (s : Setting) (k j : ℕ) (r q : Role) (end : End) (n p : ℕ) → end_at s k r ≡ Some end → end_at s j q ≡ Some (end_with n p) → j ≡ k → q ≡ r →
    rank (n, p) ≡ rank (end.node, end.port)
rank_here s k j r q end n p at there e f =
    let same : end_with n p ≡ end = same_Some (end_with n p) end (sym there ∙ ap₂ (λ a b. end_at s a b) e f ∙ at) in
    ap (λ (x : End). rank (x.node, x.port)) same

at_end : (s : Setting) (w : WorldAt) (k : ℕ) (r : Role) (end : End) → end_at s k r ≡ Some end → puts_out_at w k r ≡ true → AtEnd s w (end.node, end.port)
at_end s w k r end at puts = record { link = k; role = r; end_is = at; puts = puts }

chosen : (s : Setting) (w : WorldAt) (D : ℕ → Role → Type 0) (k : ℕ) (r : Role) (end : End) (first : ℕ × ℕ) (b : Bool) → nat_lt (rank first) (rank (end.node, end.port)) ≡ b →
    end_at s k r ≡ Some end → puts_out_at w k r ≡ true → Foremost s w D (Some first) → Foremost s w (More D k r) (Some (if b then first else (end.node, end.port)))
chosen s w D k r end first true less at puts h = (
  h.0,
  λ j q n p d there so. elim d [
    | inl old ↦ h.1 j q n p old there so
    | inr here ↦ (let e : rank (n, p) ≡ rank (end.node, end.port) = rank_here s k j r q end n p at there here.0 here.1 in let below : rank first < rank (end.node, end.port) = ltb-true (rank first) (rank (end.node, end.port)) less in omega (arith, below, e))
  ],
)
chosen s w D k r end first false less at puts h = (
  at_end s w k r end at puts,
  λ j q n p d there so. elim d [
    | inl old ↦ (let e : rank first ≤ rank (n, p) = h.1 j q n p old there so in let more : rank (end.node, end.port) ≤ rank first = ltb-false (rank first) (rank (end.node, end.port)) less in omega (arith, more, e))
    | inr here ↦ (let e : rank (n, p) ≡ rank (end.node, end.port) = rank_here s k j r q end n p at there here.0 here.1 in omega (arith, e))
  ],
)

changed : (s : Setting) (w : WorldAt) (D : ℕ → Role → Type 0) (k : ℕ) (r : Role) (end : End) (o : Option (ℕ × ℕ)) → end_at s k r ≡ Some end → puts_out_at w k r ≡ true →
    Foremost s w D o → Foremost s w (More D k r) (Some (sooner o (end.node, end.port)))
changed s w D k r end None at puts h = (
  at_end s w k r end at puts,
  λ j q n p d there so. elim d [
    | inl old ↦ absurd (no_both (puts_out_at w j q) so (h j q old))
    | inr here ↦ (let e : rank (n, p) ≡ rank (end.node, end.port) = rank_here s k j r q end n p at there here.0 here.1 in omega (arith, e))
  ],
)
changed s w D k r end (Some first) at puts h = chosen s w D k r end first (nat_lt (rank first) (rank (end.node, end.port))) refl at puts h

with_one : (s : Setting) (w : WorldAt) (D : ℕ → Role → Type 0) (k : ℕ) (r : Role) (end : End) (o : Option (ℕ × ℕ)) (b : Bool) → puts_out_at w k r ≡ b →
    end_at s k r ≡ Some end → Foremost s w D o → Foremost s w (More D k r) (if b then with_port o (end_at s k r) else o)
with_one s w D k r end o true puts at h =
    subst (λ e. Foremost s w (More D k r) (with_port o e)) (sym at) (changed s w D k r end o at puts h)
with_one s w D k r end o false puts at h = unchanged s w D k r o puts h

abbrev Below : ℕ → ℕ → Role → Type 0
Below k j q = j < k

one_more : (k j : ℕ) (q : Role) → j ≡ k → More (More (Below k) k Master) k Slave j q
one_more k j Master e = inl (inr (e, refl))
one_more k j Slave e = inr (e, refl)

covered : (k j : ℕ) (q : Role) → Below (suc k) j q → More (More (Below k) k Master) k Slave j q
covered k j q h = elim (cases_lt j k) [
  | inl less ↦ inl (inl less)
  | inr more ↦ one_more k j q (omega (arith, h, more))
]

-- it is the first among the ends of the first k links
among : (s : Setting) (w : WorldAt) (k : ℕ) → k ≤ length s.cfg.links.items → Foremost s w (Below k) (first_among s w k)
among s w zero h = λ j q below. absurd (omega (arith, below))
among s w (suc k) h =
    let at : (link : LinkCfg) × (slice_get s.cfg.links.items k ≡ Some link) = has_item s.cfg.links.items k (omega (arith, h)) in
    let upper : Option (ℕ × ℕ) = with_end s w (first_among s w k) k Master in
    fewer s w (More (More (Below k) k Master) k Slave) (Below (suc k)) (first_among s w (suc k)) (covered k)
    (with_one s w (More (Below k) k Master) k Slave (end_of Slave at.0) upper (puts_out_at w k Slave) refl (ap (option_map (end_of Slave)) at.1)
    (with_one s w (Below k) k Master (end_of Master at.0) (first_among s w k) (puts_out_at w k Master) refl (ap (option_map (end_of Master)) at.1)
    (among s w k (omega (arith, h)))))

-- All ports, in their order

find_append : {A : Type 0} (p : A → Bool) (xs ys : List A) → find p (xs ++ ys) ≡ option_or (find p xs) (find p ys)
find_append p [] ys = refl
find_append p (x ∷ xs) ys =
    elim (p x) as (λ b. cond b (Some x) (find p (xs ++ ys)) ≡ option_or (cond b (Some x) (find p xs)) (find p ys)) [
      | true ↦ refl
      | false ↦ find_append p xs ys
    ]

abbrev row : (n count first : ℕ) → List (ℕ × ℕ)
row n count first = map (λ p. (n, p)) (from_on count first)

none_in_row : (Q : ℕ × ℕ → Bool) (n count first : ℕ) → ((p : ℕ) → first ≤ p → p < first + count → Q (n, p) ≡ false) → find Q (row n count first) ≡ None
none_in_row Q n zero first h = refl
none_in_row Q n (suc count) first h =
    ap (λ b. cond b (Some (n, first)) (find Q (row n count (first + 1)))) (h first (omega arith) (omega arith))
    ∙ none_in_row Q n count (first + 1) (λ p more less. h p (omega (arith, more)) (omega (arith, less)))

row_from : (Q : ℕ × ℕ → Bool) (n p count first : ℕ) → p < first + suc count → Q (n, p) ≡ true → ((q : ℕ) → first ≤ q → q < p → Q (n, q) ≡ false) → first ≤ p →
    (first < p → find Q (row n count (first + 1)) ≡ Some (n, p)) → (first < p) ⊎ (p ≤ first) → find Q (row n (suc count) first) ≡ Some (n, p)
row_from Q n p count first less e h more rest (inl before) =
    ap (λ b. cond b (Some (n, first)) (find Q (row n count (first + 1)))) (h first (omega arith) before) ∙ rest before
row_from Q n p count first less e h more rest (inr after) =
    let same : first ≡ p = omega (arith, more, after) in
    ap (λ b. cond b (Some (n, first)) (find Q (row n count (first + 1)))) (ap (λ x. Q (n, x)) same ∙ e) ∙ ap (λ x. Some (n, x)) same

found_in_row : (Q : ℕ × ℕ → Bool) (n p count first : ℕ) → first ≤ p → p < first + count → Q (n, p) ≡ true → ((q : ℕ) → first ≤ q → q < p → Q (n, q) ≡ false) →
    find Q (row n count first) ≡ Some (n, p)
found_in_row Q n p zero first more less e h = absurd (omega (arith, more, less))
found_in_row Q n p (suc count) first more less e h =
    row_from Q n p count first less e h more
    (λ before. found_in_row Q n p count (first + 1) (omega (arith, before)) (omega (arith, less)) e (λ q low high. h q (omega (arith, low)) high)) (cases_lt first p)

none_found : (Q : ℕ × ℕ → Bool) (count first : ℕ) → ((n p : ℕ) → Q (n, p) ≡ false) → find Q (flat_map (λ n. row n 18 1) (from_on count first)) ≡ None
none_found Q zero first h = refl
none_found Q (suc count) first h =
    find_append Q (row first 18 1) (flat_map (λ n. row n 18 1) (from_on count (first + 1)))
    ∙ ap₂ option_or (none_in_row Q first 18 1 (λ p more less. h first p)) (none_found Q count (first + 1) h)

found_here : (Q : ℕ × ℕ → Bool) (n p first : ℕ) (rest : Option (ℕ × ℕ)) → first ≡ n → 1 ≤ p → p ≤ 18 → Q (n, p) ≡ true →
    ((m q : ℕ) → rank (m, q) < rank (n, p) → Q (m, q) ≡ false) → option_or (find Q (row first 18 1)) rest ≡ Some (n, p)
found_here Q n p first rest same low high e h =
    ap (λ m. option_or (find Q (row m 18 1)) rest) same
    ∙ ap (λ o. option_or o rest) (found_in_row Q n p 18 1 low (omega (arith, high)) e (λ q a b. h n q (omega (arith, b))))

found_later : (Q : ℕ × ℕ → Bool) (n p first : ℕ) (rest : Option (ℕ × ℕ)) → first < n → 1 ≤ p →
    ((m q : ℕ) → rank (m, q) < rank (n, p) → Q (m, q) ≡ false) → option_or (find Q (row first 18 1)) rest ≡ rest
found_later Q n p first rest before low h =
    ap (λ o. option_or o rest) (none_in_row Q first 18 1 (λ q a b. h first q (omega (arith, before, a, b, low))))

rows_from : (Q : ℕ × ℕ → Bool) (n p count first : ℕ) → first ≤ n → 1 ≤ p → p ≤ 18 → Q (n, p) ≡ true →
    ((m q : ℕ) → rank (m, q) < rank (n, p) → Q (m, q) ≡ false) → (first < n → find Q (flat_map (λ m. row m 18 1) (from_on count (first + 1))) ≡ Some (n, p)) →
    (first < n) ⊎ (n ≤ first) → option_or (find Q (row first 18 1)) (find Q (flat_map (λ m. row m 18 1) (from_on count (first + 1)))) ≡ Some (n, p)
rows_from Q n p count first more low high e h rest (inl before) =
    found_later Q n p first (find Q (flat_map (λ m. row m 18 1) (from_on count (first + 1)))) before low h ∙ rest before
rows_from Q n p count first more low high e h rest (inr after) =
    found_here Q n p first (find Q (flat_map (λ m. row m 18 1) (from_on count (first + 1)))) (omega (arith, more, after)) low high e h

one_found : (Q : ℕ × ℕ → Bool) (n p count first : ℕ) → first ≤ n → n < first + count → 1 ≤ p → p ≤ 18 → Q (n, p) ≡ true →
    ((m q : ℕ) → rank (m, q) < rank (n, p) → Q (m, q) ≡ false) → find Q (flat_map (λ m. row m 18 1) (from_on count first)) ≡ Some (n, p)
one_found Q n p zero first more less low high e h = absurd (omega (arith, more, less))
one_found Q n p (suc count) first more less low high e h =
    find_append Q (row first 18 1) (flat_map (λ m. row m 18 1) (from_on count (first + 1)))
    ∙ rows_from Q n p count first more low high e h
    (λ before. one_found Q n p count (first + 1) (omega (arith, before)) (omega (arith, less)) low high e h) (cases_lt first n)

-- Ports and ends

placed_some : (o : Option Place) → is_some o ≡ true → (place : Place) × (o ≡ Some place)
placed_some None e = absurd (true≢false (sym e))
placed_some (Some place) e = (place, refl)

abbrev in_net : Setting → Setting
in_net s = record s { set = set_of s.cfg }

end_pair : (link : LinkCfg) (r : Role) (port : ℕ × ℕ) → end_of r link ≡ end_with port.0 port.1 → port ≡ ((end_of r link).node, (end_of r link).port)
end_pair link r port e = sym (ap (λ (end : End). (end.node, end.port)) e)

port_range : (r : Role) (link : LinkCfg) (port : ℕ × ℕ) → HasLinkRanges link → end_of r link ≡ end_with port.0 port.1 → (1 ≤ port.1) × (port.1 ≤ 18)
port_range Master link port h e = subst (λ (end : End). (1 ≤ end.port) × (end.port ≤ 18)) e h.upper_port
port_range Slave link port h e = subst (λ (end : End). (1 ≤ end.port) × (end.port ≤ 18)) e h.lower_port

node_within : (r : Role) (link : LinkCfg) (port : ℕ × ℕ) (count : ℕ) → (link.upper < count) × (link.lower < count) → end_of r link ≡ end_with port.0 port.1 → port.0 < count
node_within Master link port count h e = subst (λ (end : End). end.node < count) e h.0
node_within Slave link port count h e = subst (λ (end : End). end.node < count) e h.1

end_of_place : (s : Setting) (n p : ℕ) (place : Place) → place_of s n p ≡ Some place → end_at s place.link place.role ≡ Some (end_with n p)
end_of_place s n p place e =
    let it : LinkEnd s place.link place.role (end_with n p) = place_end s n p place e in
    ap (option_map (end_of place.role)) it.there ∙ ap Some it.end_is

-- a port at an end is at that end
port_puts : (s : Setting) (w : WorldAt) (port : ℕ × ℕ) → IsAccepted s.cfg s.db → AtEnd s w port → is_now w (waiting_of s w port.0 port.1) ≡ true
port_puts s w port accepted h =
    let end : LinkEnd s h.link h.role (end_with port.0 port.1) = link_end s h.link h.role (end_with port.0 port.1) h.end_is in
    let has : is_some (place_of s port.0 port.1) ≡ true = sym (has-place s.cfg port.0 port.1) ∙ own_port s.cfg h.link h.role end.link port end.there (end_pair end.link h.role port end.end_is) in
    let at : (place : Place) × (place_of s port.0 port.1 ≡ Some place) = placed_some (place_of s port.0 port.1) has in
    let same : (at.0.link ≡ h.link) × (at.0.role ≡ h.role) =
    are_apart (in_net s) (record { accepted = accepted; set = λ n. refl }) at.0.link h.link at.0.role h.role (end_with port.0 port.1)
    (end_of_place s port.0 port.1 at.0 at.1) h.end_is in
    ap (λ o. is_now w (oldest_of (waiting_at w o))) at.1 ∙ ap₂ (λ a b. puts_out_at w a b) same.0 same.1 ∙ h.puts

-- if the oldest frame at a port's end was not put out now, or the port is at no end, the same is true at the port
port_silent : (s : Setting) (w : WorldAt) (n p : ℕ) (o : Option Place) → place_of s n p ≡ o →
    ((place : Place) → place_of s n p ≡ Some place → puts_out_at w place.link place.role ≡ false) → is_now w (oldest_of (waiting_at w o)) ≡ false
port_silent s w n p None e h = refl
port_silent s w n p (Some place) e h = h place e

sooner_false : (b : Bool) (x y : ℕ) → x < y → (b ≡ true → y ≤ x) → b ≡ false
sooner_false false x y less h = refl
sooner_false true x y less h = let more : y ≤ x = h refl in absurd (omega (arith, less, more))

foremost_is : (s : Setting) (w : WorldAt) (o : Option (ℕ × ℕ)) → IsAccepted s.cfg s.db → Foremost s w (Below (length s.cfg.links.items)) o → o ≡ first_put_out s w
foremost_is s w None accepted h =
    sym (none_found (λ port. is_now w (waiting_of s w port.0 port.1)) (node_count s.cfg) 0 (λ n p.
    port_silent s w n p (place_of s n p) refl (λ place at. h place.link place.role (place_within s n p place at))))
foremost_is s w (Some port) accepted h =
    let end : LinkEnd s h.0.link h.0.role (end_with port.0 port.1) = link_end s h.0.link h.0.role (end_with port.0 port.1) h.0.end_is in
    let ranges : (1 ≤ port.1) × (port.1 ≤ 18) = port_range h.0.role end.link port (accepted.ranges.links h.0.link end.link end.there) end.end_is in
    let node : port.0 < node_count s.cfg = node_within h.0.role end.link port (node_count s.cfg) (accepted.tree.ends h.0.link end.link end.there) end.end_is in
    sym (one_found (λ x. is_now w (waiting_of s w x.0 x.1)) port.0 port.1 (node_count s.cfg) 0 (omega arith) (omega (arith, node)) ranges.0 ranges.1 (port_puts s w port accepted h.0) (λ m q less.
    port_silent s w m q (place_of s m q) refl (λ place at.
    sooner_false (puts_out_at w place.link place.role) (rank (m, q)) (rank port) less
    (h.1 place.link place.role m q (place_within s m q place at) (end_of_place s m q place at)))))

pub first_is : (s : Setting) (w : WorldAt) → IsAccepted s.cfg s.db → first_among s w (length s.cfg.links.items) ≡ first_put_out s w
first_is s w accepted = foremost_is s w (first_among s w (length s.cfg.links.items)) accepted (among s w (length s.cfg.links.items) (omega arith))

pub accepted_in : (s : Setting) (w : WorldAt) (plant : Plant) → FitsPlant plant → PlantIs s w plant → IsAccepted s.cfg s.db
accepted_in s w plant fits h =
    subst (λ (cfg : NetCfg). IsAccepted cfg s.db) h.cfg (subst (λ (db : Database). IsAccepted plant.net.cfg db) h.db fits.accepted)

-- the node of the first port is a node of the network
row_node_by : (b : Bool) (n first : ℕ) (rest : Option (ℕ × ℕ)) (port : ℕ × ℕ) → cond b (Some (n, first)) rest ≡ Some port → (rest ≡ Some port → port.0 ≡ n) → port.0 ≡ n
row_node_by true n first rest port e h = ap (λ (x : ℕ × ℕ). x.0) (sym (same_Some (n, first) port e))
row_node_by false n first rest port e h = h e

row_node : (Q : ℕ × ℕ → Bool) (n count first : ℕ) (port : ℕ × ℕ) → find Q (row n count first) ≡ Some port → port.0 ≡ n
row_node Q n zero first port e = absurd (none-some port e)
row_node Q n (suc count) first port e =
    row_node_by (Q (n, first)) n first (find Q (row n count (first + 1))) port e (λ f. row_node Q n count (first + 1) port f)

either_node : (o rest : Option (ℕ × ℕ)) (port : ℕ × ℕ) (first count : ℕ) → option_or o rest ≡ Some port → ((x : ℕ × ℕ) → o ≡ Some x → x.0 ≡ first) →
    (rest ≡ Some port → port.0 < (first + 1) + count) → port.0 < first + suc count
either_node None rest port first count e here there = let less : port.0 < (first + 1) + count = there e in omega (arith, less)
either_node (Some x) rest port first count e here there = let is : port.0 ≡ first = here port e in omega (arith, is)

node_of_first : (Q : ℕ × ℕ → Bool) (count first : ℕ) (port : ℕ × ℕ) → find Q (flat_map (λ m. row m 18 1) (from_on count first)) ≡ Some port → port.0 < first + count
node_of_first Q zero first port e = absurd (none-some port e)
node_of_first Q (suc count) first port e =
    either_node (find Q (row first 18 1)) (find Q (flat_map (λ m. row m 18 1) (from_on count (first + 1)))) port first count
    (sym (find_append Q (row first 18 1) (flat_map (λ m. row m 18 1) (from_on count (first + 1)))) ∙ e)
    (λ x f. row_node Q first 18 1 x f) (λ f. node_of_first Q count (first + 1) port f)

pub first_within : (s : Setting) (w : WorldAt) (port : ℕ × ℕ) → first_put_out s w ≡ Some port → port.0 < node_count s.cfg
first_within s w port e =
    let less : port.0 < 0 + node_count s.cfg = node_of_first (λ x. is_now w (waiting_of s w x.0 x.1)) (node_count s.cfg) 0 port e in
    omega (arith, less)
