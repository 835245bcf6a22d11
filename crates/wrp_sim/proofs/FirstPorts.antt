-- The search over the ends of links finds the same first port as the search over all ports.
use Rattle.std.proofs.Common.{◌≡◌, ◌⊎◌, inl, inr, ◌∙◌, refl, ap, ap₂, sym, subst, ℕ, zero, suc, ◌+◌, ◌*◌, ◌<◌, ◌≤◌, ◌&&◌, nat_lt, Bool, true, false, cond, if◌then◌else◌, List, map, find, fold, flat_map, length, Option, None, Some, option_map, option_and_then, arith}
use Rattle.std.specs.Option.{option_or}
use Rattle.std.proofs.lemmas.Bool.Decides.{eqb_tells, nat_tests}
use Rattle.std.proofs.lemmas.Option.{none-some, same_Some}
use Rattle.wrp_base.specs.declared.link.Role.{Role}
use Rattle.wrp_base.specs.declared.link.Role.TheVariants.{Master, Slave}
use Rattle.wrp_network.specs.declared.network.LinkCfg.{LinkCfg}
use Rattle.wrp_network.specs.Network.{End, HasLinkRanges, node_count}
use Rattle.wrp_base.proofs.Booleans.{not_both}
use Rattle.wrp_course.specs.declared.place.Place.{Place}
use Rattle.wrp_course.specs.Runs.{IsNetwork}
use Rattle.wrp_course.specs.Setting.{Setting, end_at, end_of, from_on, links_of, place_of}
use Rattle.wrp_course.specs.Views.{oldest_of, waiting_of}
use Rattle.wrp_course.specs.Moved.{waiting_at}
use Rattle.wrp_course.specs.WorldAt.{WorldAt, reading}
use Rattle.wrp_course.proofs.RunNetwork.{LinkEnd, end_with, link_end, place_end}
use Rattle.wrp_plant.proofs.EachLists.{at_place}
use Rattle.wrp_sim.specs.declared.sim.departing.Departure.{Departure}
use Rattle.wrp_sim.specs.Departures.{departing_at, departing_over, departure_from, first_of_two, standing, told_end}
use Rattle.wrp_plant.specs.PutOut.{is_now}
use Rattle.wrp_sim.specs.Rules.{departs_now, is_tellable, ports_of}
use Rattle.wrp_sim.proofs.Ends.{end_found}
use Rattle.std.proofs.lemmas.List.Folds.{find-append}
use Rattle.wrp_sim.proofs.SimLists.{find_map}

-- Numbers one after another

first_or : (first k : ℕ) → first ≤ k → (k ≡ first) ⊎ (first + 1 ≤ k)
first_or first k h = elim (eqb_tells k first) [ inl x ↦ inl x.1 | inr x ↦ inr (let out : k ≡ first → ⊥ = x.1 in omega (arith, h, out)) ]

none_in : (q : ℕ → Bool) (count first : ℕ) → ((p : ℕ) → first ≤ p → p < first + count → q p ≡ false) → find q (from_on count first) ≡ None
none_in q zero first h = refl
none_in q (suc count) first h =
    ap (λ b. cond b (Some first) (find q (from_on count (first + 1)))) (h first (omega arith) (omega arith))
    ∙ none_in q count (first + 1) (λ p a b. h p (omega (arith, a)) (omega (arith, b)))

first_in : (q : ℕ → Bool) (count first p : ℕ) → first ≤ p → p < first + count → q p ≡ true → ((x : ℕ) → first ≤ x → x < p → q x ≡ false) → find q (from_on count first) ≡ Some p
first_in q zero first p a b e h = absurd (omega (arith, a, b))
first_in q (suc count) first p a b e h = elim (first_or first p a) [
  | inl same ↦ ap (λ x. cond x (Some first) (find q (from_on count (first + 1)))) (ap q (sym same) ∙ e) ∙ ap Some (sym same)
  | inr more ↦
      ap (λ x. cond x (Some first) (find q (from_on count (first + 1)))) (h first (omega arith) (omega (arith, more)))
      ∙ first_in q count (first + 1) p more (omega (arith, b)) e (λ x c d. h x (omega (arith, c)) d)
]

flat_none : {A : Type 0} (p : A → Bool) (f : ℕ → List A) (count first : ℕ) → ((n : ℕ) → first ≤ n → n < first + count → find p (f n) ≡ None) →
    find p (flat_map f (from_on count first)) ≡ None
flat_none p f zero first h = refl
flat_none p f (suc count) first h =
    find-append p (f first) (flat_map f (from_on count (first + 1)))
    ∙ ap₂ (λ a b. option_or a b) (h first (omega arith) (omega arith)) (flat_none p f count (first + 1) (λ n a b. h n (omega (arith, a)) (omega (arith, b))))

flat_first : {A : Type 0} (p : A → Bool) (f : ℕ → List A) (count first n : ℕ) (x : A) → first ≤ n → n < first + count → find p (f n) ≡ Some x →
    ((m : ℕ) → first ≤ m → m < n → find p (f m) ≡ None) → find p (flat_map f (from_on count first)) ≡ Some x
flat_first p f zero first n x a b e h = absurd (omega (arith, a, b))
flat_first p f (suc count) first n x a b e h =
    find-append p (f first) (flat_map f (from_on count (first + 1)))
    ∙ elim (first_or first n a) [
      | inl same ↦ ap (λ u. option_or u (find p (flat_map f (from_on count (first + 1))))) (ap (λ m. find p (f m)) (sym same) ∙ e)
      | inr more ↦
          ap₂ (λ u v. option_or u v) (h first (omega arith) (omega (arith, more)))
          (flat_first p f count (first + 1) n x more (omega (arith, b)) e (λ m c d. h m (omega (arith, c)) d))
    ]

-- An end of a link

both_tests : (a b : Bool) (x : Option Departure) → (if a then (if b then x else None) else None) ≡ (if (a && b) then x else None)
both_tests true true x = refl
both_tests true false x = refl
both_tests false true x = refl
both_tests false false x = refl

-- the test of a port at an end of a link
departs_there : (s : Setting) → IsNetwork s → (w : WorldAt) (k : ℕ) (r : Role) (end : End) → end_at s k r ≡ Some end →
    departs_now s w (end.node, end.port) ≡ (is_now w (oldest_of (w.end_at k r).waiting) && is_tellable s (reading w end.node))
departs_there s net w k r end e =
    ap (λ (o : Option Place). is_now w (oldest_of (waiting_at w o)) && is_tellable s (reading w end.node)) (end_found s net k r end e)

departing_is : (s : Setting) → IsNetwork s → (w : WorldAt) (k : ℕ) (r : Role) (end : End) → end_at s k r ≡ Some end →
    departing_at s w k r ≡ (if departs_now s w (end.node, end.port) then Some (departure_from w (end.node, end.port)) else None)
departing_is s net w k r end e =
    ap (λ (o : Option End). if is_now w (oldest_of (w.end_at k r).waiting) then option_and_then (told_end s w) o else None) e
    ∙ both_tests (is_now w (oldest_of (w.end_at k r).waiting)) (is_tellable s (reading w end.node)) (Some (departure_from w (end.node, end.port)))
    ∙ sym (ap (λ (b : Bool). if b then Some (departure_from w (end.node, end.port)) else None) (departs_there s net w k r end e))

same_both : (a : Bool) (o : Option Departure) → (if a then o else o) ≡ o
same_both true o = refl
same_both false o = refl

departing_nowhere : (s : Setting) (w : WorldAt) (k : ℕ) (r : Role) → end_at s k r ≡ None → departing_at s w k r ≡ None
departing_nowhere s w k r e =
    ap (λ (o : Option End). if is_now w (oldest_of (w.end_at k r).waiting) then option_and_then (told_end s w) o else None) e
    ∙ same_both (is_now w (oldest_of (w.end_at k r).waiting)) None

-- The first of some ends

abbrev NoneOf : Setting → WorldAt → (ℕ → Role → Type 0) → Type 0
NoneOf s w of = (k : ℕ) (r : Role) (end : End) → of k r → end_at s k r ≡ Some end → departs_now s w (end.node, end.port) ≡ false

record FirstIs (s : Setting) (w : WorldAt) (of : ℕ → Role → Type 0) (d : Departure) : Type 0 where
  pub link : ℕ
  pub role : Role
  pub end : End
  pub there : end_at s link role ≡ Some end
  pub is : d ≡ departure_from w (end.node, end.port)
  pub departs : departs_now s w (end.node, end.port) ≡ true
  pub first :
      (k : ℕ) (r : Role) (other : End) → of k r → end_at s k r ≡ Some other → departs_now s w (other.node, other.port) ≡ true →
      standing d ≤ standing (departure_from w (other.node, other.port))

abbrev FirstOf : Setting → WorldAt → (ℕ → Role → Type 0) → Option Departure → Type 0
FirstOf s w of None = NoneOf s w of
FirstOf s w of (Some d) = FirstIs s w of d

-- one more end
abbrev Or : (ℕ → Role → Type 0) → ℕ → Role → ℕ → Role → Type 0
Or of k r = λ j q. of j q ⊎ ((j ≡ k) × (q ≡ r))

widened : (s : Setting) (w : WorldAt) (of less : ℕ → Role → Type 0) (o : Option Departure) → ((k : ℕ) (r : Role) → less k r → of k r) → FirstOf s w of o → FirstOf s w less o
widened s w of less None f h = λ k r end m e. h k r end (f k r m) e
widened s w of less (Some d) f h = record {
  link = h.link;
  role = h.role;
  end = h.end;
  there = h.there;
  is = h.is;
  departs = h.departs;
  first = λ k r other m e g. h.first k r other (f k r m) e g;
}

-- it is this same end
the_end : (s : Setting) (k j : ℕ) (r q : Role) (end other : End) → j ≡ k → q ≡ r → end_at s k r ≡ Some end → end_at s j q ≡ Some other → other ≡ end
the_end s k j r q end other a b e f = same_Some other end (sym f ∙ ap₂ (end_at s) a b ∙ e)

-- nothing departs there
not_there : (s : Setting) (w : WorldAt) (of : ℕ → Role → Type 0) (k : ℕ) (r : Role) (o : Option Departure) → FirstOf s w of o →
    ((end : End) → end_at s k r ≡ Some end → departs_now s w (end.node, end.port) ≡ false) → FirstOf s w (Or of k r) o
not_there s w of k r None h f = λ j q end m e.
    elim m [
      | inl before ↦ h j q end before e
      | inr same ↦ f end (ap₂ (end_at s) (sym same.0) (sym same.1) ∙ e)
    ]
not_there s w of k r (Some d) h f = record {
  link = h.link;
  role = h.role;
  end = h.end;
  there = h.there;
  is = h.is;
  departs = h.departs;
  first = λ j q other m e g.
      elim m [
        | inl before ↦ h.first j q other before e g
        | inr same ↦ absurd (not_both (departs_now s w (other.node, other.port)) g (f other (ap₂ (end_at s) (sym same.0) (sym same.1) ∙ e)))
      ];
}

-- its port comes no later than itself
no_later : (w : WorldAt) (d : Departure) (end other : End) → d ≡ departure_from w (end.node, end.port) → other ≡ end →
    standing d ≤ standing (departure_from w (other.node, other.port))
no_later w d end other e f =
    let same : standing d ≡ standing (departure_from w (other.node, other.port)) =
    ap standing e ∙ sym (ap (λ (x : End). standing (departure_from w (x.node, x.port))) f) in
    omega (arith, same)

-- a frame departs there
alone : (s : Setting) (w : WorldAt) (of : ℕ → Role → Type 0) (k : ℕ) (r : Role) (d : Departure) (end : End) → end_at s k r ≡ Some end →
    d ≡ departure_from w (end.node, end.port) → departs_now s w (end.node, end.port) ≡ true →
    ((j : ℕ) (q : Role) (other : End) → of j q → end_at s j q ≡ Some other → departs_now s w (other.node, other.port) ≡ true →
    standing d ≤ standing (departure_from w (other.node, other.port))) →
    FirstIs s w (Or of k r) d
alone s w of k r d end e is departs before = record {
  link = k;
  role = r;
  end = end;
  there = e;
  is = is;
  departs = departs;
  first = λ j q other m f g.
      elim m [
        | inl of_before ↦ before j q other of_before f g
        | inr same ↦ no_later w d end other is (the_end s k j r q end other same.0 same.1 e f)
      ];
}

of_two : (s : Setting) (w : WorldAt) (of : ℕ → Role → Type 0) (k : ℕ) (r : Role) (f d : Departure) (end : End) (b : Bool) → nat_lt (standing d) (standing f) ≡ b →
    FirstIs s w of f → end_at s k r ≡ Some end → d ≡ departure_from w (end.node, end.port) → departs_now s w (end.node, end.port) ≡ true →
    FirstOf s w (Or of k r) (if b then Some d else Some f)
of_two s w of k r f d end true less h e is departs =
    let before : standing d < standing f = grind (arith, nat_tests, less) in
    alone s w of k r d end e is departs
    (λ j q other m g t.
    let there : standing f ≤ standing (departure_from w (other.node, other.port)) = h.first j q other m g t in
    omega (arith, before, there))
of_two s w of k r f d end false less h e is departs =
    let after : standing f ≤ standing d = grind (arith, nat_tests, less) in
    record {
      link = h.link;
      role = h.role;
      end = h.end;
      there = h.there;
      is = h.is;
      departs = h.departs;
      first = λ j q other m g t.
          elim m [
            | inl before ↦ h.first j q other before g t
            | inr same ↦
                let there : standing d ≤ standing (departure_from w (other.node, other.port)) =
                no_later w d end other is (the_end s k j r q end other same.0 same.1 e g) in
                omega (arith, after, there)
          ];
    }

is_there : (s : Setting) (w : WorldAt) (of : ℕ → Role → Type 0) (k : ℕ) (r : Role) (o : Option Departure) (d : Departure) (end : End) → FirstOf s w of o →
    end_at s k r ≡ Some end → d ≡ departure_from w (end.node, end.port) → departs_now s w (end.node, end.port) ≡ true →
    FirstOf s w (Or of k r) (first_of_two o (Some d))
is_there s w of k r None d end h e is departs =
    alone s w of k r d end e is departs
    (λ j q other m g t. absurd (not_both (departs_now s w (other.node, other.port)) t (h j q other m g)))
is_there s w of k r (Some f) d end h e is departs = of_two s w of k r f d end (nat_lt (standing d) (standing f)) refl h e is departs

kept : (o : Option Departure) → first_of_two o None ≡ o
kept None = refl
kept (Some d) = refl

by_test : (s : Setting) (w : WorldAt) (of : ℕ → Role → Type 0) (k : ℕ) (r : Role) (o : Option Departure) (end : End) (b : Bool) → departs_now s w (end.node, end.port) ≡ b →
    FirstOf s w of o → end_at s k r ≡ Some end →
    FirstOf s w (Or of k r) (first_of_two o (if b then Some (departure_from w (end.node, end.port)) else None))
by_test s w of k r o end true t h e = is_there s w of k r o (departure_from w (end.node, end.port)) end h e refl t
by_test s w of k r o end false t h e =
    subst (FirstOf s w (Or of k r)) (sym (kept o))
    (not_there s w of k r o h (λ other f. ap (λ (x : End). departs_now s w (x.node, x.port)) (same_Some other end (sym f ∙ e)) ∙ t))

by_end : (s : Setting) → IsNetwork s → (w : WorldAt) (of : ℕ → Role → Type 0) (k : ℕ) (r : Role) (o : Option Departure) (end : Option End) → end_at s k r ≡ end →
    FirstOf s w of o → FirstOf s w (Or of k r) (first_of_two o (departing_at s w k r))
by_end s net w of k r o None e h =
    subst (λ x. FirstOf s w (Or of k r) (first_of_two o x)) (sym (departing_nowhere s w k r e))
    (subst (FirstOf s w (Or of k r)) (sym (kept o)) (not_there s w of k r o h (λ end f. absurd (none-some end (sym e ∙ f)))))
by_end s net w of k r o (Some end) e h =
    subst (λ x. FirstOf s w (Or of k r) (first_of_two o x)) (sym (departing_is s net w k r end e))
    (by_test s w of k r o end (departs_now s w (end.node, end.port)) refl h e)

one_end : (s : Setting) → IsNetwork s → (w : WorldAt) (of : ℕ → Role → Type 0) (k : ℕ) (r : Role) (o : Option Departure) →
    FirstOf s w of o → FirstOf s w (Or of k r) (first_of_two o (departing_at s w k r))
one_end s net w of k r o h = by_end s net w of k r o (end_at s k r) refl h

-- All ends

-- the ends of the links before one
abbrev Before : ℕ → ℕ → Role → Type 0
Before k = λ j r. j < k

of_link : (k j : ℕ) (r : Role) → j ≡ k → Or (Or (Before k) k Master) k Slave j r
of_link k j Master e = inl (inr (e, refl))
of_link k j Slave e = inr (e, refl)

one_link : (k j : ℕ) (r : Role) → j < k + 1 → Or (Or (Before k) k Master) k Slave j r
one_link k j r h = elim (eqb_tells j k) [
  | inl same ↦ of_link k j r same.1
  | inr other ↦ inl (inl (let out : j ≡ k → ⊥ = other.1 in omega (arith, h, out)))
]

over_links : (s : Setting) → IsNetwork s → (w : WorldAt) (count k : ℕ) (o : Option Departure) → FirstOf s w (Before k) o →
    FirstOf s w (Before (k + count)) (fold (departing_over s w) o (from_on count k))
over_links s net w zero k o h = widened s w (Before k) (Before (k + 0)) o (λ j r m. omega (arith, m)) h
over_links s net w (suc count) k o h =
    let next : FirstOf s w (Before (k + 1)) (departing_over s w o k) =
    widened s w (Or (Or (Before k) k Master) k Slave) (Before (k + 1)) (departing_over s w o k) (one_link k)
    (one_end s net w (Or (Before k) k Master) k Slave (first_of_two o (departing_at s w k Master)) (one_end s net w (Before k) k Master o h)) in
    widened s w (Before ((k + 1) + count)) (Before (k + suc count)) (fold (departing_over s w) (departing_over s w o k) (from_on count (k + 1)))
    (λ j r m. omega (arith, m)) (over_links s net w count (k + 1) (departing_over s w o k) next)

all_links : (s : Setting) → IsNetwork s → (w : WorldAt) → FirstOf s w (Before (length s.cfg.links.items)) (fold (departing_over s w) None (links_of s))
all_links s net w =
    widened s w (Before (0 + length s.cfg.links.items)) (Before (length s.cfg.links.items)) (fold (departing_over s w) None (links_of s)) (λ j r m. omega (arith, m))
    (over_links s net w (length s.cfg.links.items) 0 None (λ k r end m e. absurd (omega (arith, m))))

-- A port is an end of a link, or nothing departs there

by_place : (s : Setting) (w : WorldAt) (n p : ℕ) (o : Option Place) → place_of s n p ≡ o →
    ((k : ℕ) (r : Role) → k < length s.cfg.links.items → end_at s k r ≡ Some (end_with n p) → departs_now s w (n, p) ≡ false) → departs_now s w (n, p) ≡ false
by_place s w n p None e h = ap (λ (o : Option Place). is_now w (oldest_of (waiting_at w o)) && is_tellable s (reading w n)) e
by_place s w n p (Some place) e h =
    let it : LinkEnd s place.link place.role (end_with n p) = place_end s n p place e in
    h place.link place.role (at_place s.cfg.links.items place.link it.link it.there) (ap (option_map (end_of place.role)) it.there ∙ ap Some it.end_is)

no_port : (s : Setting) (w : WorldAt) (n p : ℕ) →
    ((k : ℕ) (r : Role) → k < length s.cfg.links.items → end_at s k r ≡ Some (end_with n p) → departs_now s w (n, p) ≡ false) → departs_now s w (n, p) ≡ false
no_port s w n p h = by_place s w n p (place_of s n p) refl h

-- The ports of nodes

abbrev of_port : ℕ → List (ℕ × ℕ)
of_port n = map (λ p. (n, p)) (from_on 18 1)

none_of_node : (s : Setting) (w : WorldAt) (n : ℕ) → ((p : ℕ) → 1 ≤ p → p ≤ 18 → departs_now s w (n, p) ≡ false) → find (departs_now s w) (of_port n) ≡ None
none_of_node s w n h =
    find_map (departs_now s w) (λ p. (n, p)) (from_on 18 1)
    ∙ ap (option_map (λ p. (n, p))) (none_in (λ p. departs_now s w (n, p)) 18 1 (λ p a b. h p a (omega (arith, b))))

first_of_node : (s : Setting) (w : WorldAt) (n p : ℕ) → 1 ≤ p → p ≤ 18 → departs_now s w (n, p) ≡ true → ((q : ℕ) → q < p → departs_now s w (n, q) ≡ false) →
    find (departs_now s w) (of_port n) ≡ Some (n, p)
first_of_node s w n p a b e h =
    find_map (departs_now s w) (λ q. (n, q)) (from_on 18 1)
    ∙ ap (option_map (λ q. (n, q))) (first_in (λ q. departs_now s w (n, q)) 18 1 p a (omega (arith, b)) e (λ q c d. h q d))

pub none_departs : (s : Setting) (w : WorldAt) → ((n p : ℕ) → departs_now s w (n, p) ≡ false) → find (departs_now s w) (ports_of s) ≡ None
none_departs s w h = flat_none (departs_now s w) of_port (node_count s.cfg) 0 (λ n a b. none_of_node s w n (λ p c d. h n p))

first_departs : (s : Setting) (w : WorldAt) (n p : ℕ) → n < node_count s.cfg → 1 ≤ p → p ≤ 18 → departs_now s w (n, p) ≡ true →
    ((m q : ℕ) → m * 32 + q < n * 32 + p → departs_now s w (m, q) ≡ false) → find (departs_now s w) (ports_of s) ≡ Some (n, p)
first_departs s w n p few a b e h =
    flat_first (departs_now s w) of_port (node_count s.cfg) 0 n (n, p) (omega arith) (omega (arith, few))
    (first_of_node s w n p a b e (λ q c. h n q (omega (arith, c))))
    (λ m c d. none_of_node s w m (λ q x y. h m q (omega (arith, d, y))))

-- an end is a port of a node
record IsPort (s : Setting) (end : End) : Type 0 where
  pub node : end.node < node_count s.cfg
  pub least : 1 ≤ end.port
  pub most : end.port ≤ 18

port_of : (s : Setting) (r : Role) (link : LinkCfg) → HasLinkRanges link → (link.upper < node_count s.cfg) × (link.lower < node_count s.cfg) → IsPort s (end_of r link)
port_of s Master link ranges within = record { node = within.0; least = ranges.upper_port.0; most = ranges.upper_port.1 }
port_of s Slave link ranges within = record { node = within.1; least = ranges.lower_port.0; most = ranges.lower_port.1 }

is_port : (s : Setting) → IsNetwork s → (k : ℕ) (r : Role) (end : End) → end_at s k r ≡ Some end → IsPort s end
is_port s net k r end e =
    let it : LinkEnd s k r end = link_end s k r end e in
    subst (IsPort s) it.end_is (port_of s r it.link (net.accepted.ranges.links k it.link it.there) (net.accepted.tree.ends k it.link it.there))

-- a port that comes before the first has nothing to send
lesser : (s : Setting) (w : WorldAt) (d : Departure) (m q : ℕ) (b : Bool) → FirstIs s w (Before (length s.cfg.links.items)) d → m * 32 + q < standing d → departs_now s w (m, q) ≡ b →
    (k : ℕ) (r : Role) → k < length s.cfg.links.items → end_at s k r ≡ Some (end_with m q) → departs_now s w (m, q) ≡ false
lesser s w d m q false h less t k r few e = t
lesser s w d m q true h less t k r few e =
    let first : standing d ≤ m * 32 + q = h.first k r (end_with m q) few e t in
    absurd (omega (arith, first, less))

found : (s : Setting) → IsNetwork s → (w : WorldAt) (o : Option Departure) → FirstOf s w (Before (length s.cfg.links.items)) o →
    o ≡ option_map (departure_from w) (find (departs_now s w) (ports_of s))
found s net w None h =
    sym (ap (option_map (departure_from w)) (none_departs s w (λ n p. no_port s w n p (λ k r few e. h k r (end_with n p) few e))))
found s net w (Some d) h =
    let at : IsPort s h.end = is_port s net h.link h.role h.end h.there in
    let same : standing d ≡ h.end.node * 32 + h.end.port = ap standing h.is in
    ap Some h.is
    ∙ sym (ap (option_map (departure_from w))
    (first_departs s w h.end.node h.end.port at.node at.least at.most h.departs
    (λ m q less. no_port s w m q (lesser s w d m q (departs_now s w (m, q)) h (omega (arith, less, same)) refl))))

-- the ends of links, tried one after another, give the first port of all
pub first_port : (s : Setting) → IsNetwork s → (w : WorldAt) →
    fold (departing_over s w) None (links_of s) ≡ option_map (departure_from w) (find (departs_now s w) (ports_of s))
first_port s net w = found s net w (fold (departing_over s w) None (links_of s)) (all_links s net w)

-- if nothing was put out now, no frame departs

put_out_not : (a b : Bool) → a ≡ false → (a && b) ≡ false
put_out_not false b e = refl
put_out_not true b e = absurd (not_both true refl e)

pub none_put_out : (s : Setting) (w : WorldAt) → ((n p : ℕ) → is_now w (waiting_of s w n p) ≡ false) → None ≡ option_map (departure_from w) (find (departs_now s w) (ports_of s))
none_put_out s w h =
    sym (ap (option_map (departure_from w)) (none_departs s w (λ n p. put_out_not (is_now w (waiting_of s w n p)) (is_tellable s (reading w n)) (h n p))))
