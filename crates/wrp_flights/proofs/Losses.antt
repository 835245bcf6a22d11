-- Frames that are lost one after the other.
use Rattle.std.proofs.Common.{◌≡◌, ◌∙◌, refl, ap, sym, subst, ℕ, ◌+◌, ◌<◌, ◌≤◌, ◌==◌, ◌||◌, ◌&&◌, ◌⊎◌, not, inl, inr, ℤ, Bool, true, false, cond, if◌then◌else◌, List, [], ◌∷◌, length, drop, filter, Option, None, Some, option_map, slice_index_or}
use Rattle.std.proofs.Math.ListN.{drop_of_length-le}
use Rattle.std.proofs.lemmas.List.{drop_more}
use Rattle.std.specs.BTreeMap.{is_at}
use Rattle.std.specs.Option.{is_some, option_map_or}
use Rattle.std.specs.Ordering.{nat_cmp}
use Rattle.wrp_base.specs.declared.link.Role.{Role}
use Rattle.wrp_network.specs.declared.network.LinkCfg.{LinkCfg}
use Rattle.wrp_flights.specs.declared.departed.Departed.{Departed}
use Rattle.wrp_flights.specs.declared.departed.OnFibre.{OnFibre}
use Rattle.wrp_flights.specs.declared.departed.Reception.{Reception}
use Rattle.wrp_flights.specs.declared.losing.Loss.{Loss}
use Rattle.wrp_flights.specs.declared.losing.Loss.TheVariants.{Link, Node, Older}
use Rattle.wrp_flights.specs.Departed.{is_kept, is_on, is_young, kept_in, lost, receive, turn_in}
use Rattle.wrp_flights.specs.Frames.{at, on_at}
use Rattle.wrp_flights.specs.Listing.{IsAmong, Lists, Settled, entry_of, is_other}
use Rattle.wrp_flights.specs.Losing.{arrives_by, hits, is_older, lost_by, meets}
use Rattle.wrp_flights.proofs.Passing.{same_number}
use Rattle.wrp_flights.proofs.Putting.{at_itself, equal_numbers}
use Rattle.wrp_flights.proofs.Staying.{CameFrom, Stills, came_from, kept_is_it, kept_young}

-- a frame with this number is as it was, on a fibre, and among those that are still to come
pub record Waits (q : ℕ) (before now : Option Departed) (left : List OnFibre) : Type 0 where
  pub frame : Departed
  pub was : before ≡ Some frame
  pub same : now ≡ before
  pub on : is_on frame ≡ true
  pub among : IsAmong (entry_of q frame) left

-- each frame is lost already, or is still to come
pub record Losing (h : ℤ) (change : ℕ → Departed → Departed) (before now : List (ℕ × Departed)) (left : List OnFibre) : Type 0 where
  pub each : (q : ℕ) → (at q now ≡ turn_in h (change q) (at q before)) ⊎ Waits q (at q before) (at q now) left

-- losing a frame twice is the same as losing it once, and only frames on a fibre are lost
pub record Loses (change : ℕ → Departed → Departed) : Type 0 where
  pub again : (q : ℕ) (d : Departed) → change q (change q d) ≡ change q d
  pub off : (q : ℕ) (d : Departed) → is_on d ≡ false → change q d ≡ d

-- A frame that is lost twice

on_by : (g l : Bool) → Bool
on_by g l = if g then false else (if l then false else true)

twice : (g l b : Bool) → (g || (b && (if g then false else (if l then false else true)))) || (b && (if g || (b && (if g then false else (if l then false else true))) then false else (if l then false else true)))
    ≡ g || (b && (if g then false else (if l then false else true)))
twice true l true = refl
twice true l false = refl
twice false true true = refl
twice false true false = refl
twice false false true = refl
twice false false false = refl

lost_twice : (b : Bool) (d : Departed) → lost b (lost b d) ≡ lost b d
lost_twice b d = ap (λ g. record d { gone = g }) (twice d.gone (is_some d.arrival) b)

off_stays : (g l b : Bool) → (if g then false else (if l then false else true)) ≡ false → g || (b && (if g then false else (if l then false else true))) ≡ g
off_stays true l b e = refl
off_stays false true true e = refl
off_stays false true false e = refl
off_stays false false b e = absurd cc

pub lost_off : (b : Bool) (d : Departed) → is_on d ≡ false → lost b d ≡ d
lost_off b d e = ap (λ g. record d { gone = g }) (off_stays d.gone (is_some d.arrival) b e)

on_was : (g l b : Bool) → (if g || (b && (if g then false else (if l then false else true))) then false else (if l then false else true)) ≡ true →
    (if g then false else (if l then false else true)) ≡ true
on_was true l b e = e
on_was false true b e = absurd (no b e) where
  no : (b : Bool) → (if b && false then false else false) ≡ true → ⊥
  no true e = cc
  no false e = cc
on_was false false b e = refl

lost_on : (b : Bool) (d : Departed) → is_on (lost b d) ≡ true → is_on d ≡ true
lost_on b d e = on_was d.gone (is_some d.arrival) b e

meets_still : (links : List LinkCfg) (loss : Loss) (q : ℕ) (b : Bool) (d : Departed) → meets links loss q (lost b d) ≡ meets links loss q d
meets_still links (Link k) q b d = refl
meets_still links (Node n) q b d = refl
meets_still links (Older j link by) q b d = refl

pub lost_loses : (links : List LinkCfg) (loss : Loss) → Loses (lost_by links loss)
lost_loses links loss = record {
  again = λ q d. ap (λ b. lost b (lost_by links loss q d)) (meets_still links loss q (meets links loss q d) d) ∙ lost_twice (meets links loss q d) d;
  off = λ q d e. lost_off (meets links loss q d) d e;
}

kept_some : (h : ℤ) (d : Departed) → is_kept h d ≡ true → kept_in h (Some d) ≡ Some d
kept_some h d k = ap (λ b. if b then Some d else None) k

kept_none : (h : ℤ) (d : Departed) → is_kept h d ≡ false → kept_in h (Some d) ≡ None
kept_none h d k = ap (λ b. if b then Some d else None) k

in_again : (h : ℤ) (change : Departed → Departed) → ((d : Departed) → change (change d) ≡ change d) → (o : Option Departed) → turn_in h change (turn_in h change o) ≡ turn_in h change o
in_again h change again None = refl
in_again h change again (Some d) = by_test (is_kept h (change d)) refl where
  by_test : (b : Bool) → is_kept h (change d) ≡ b → turn_in h change (turn_in h change (Some d)) ≡ turn_in h change (Some d)
  by_test true k = ap (turn_in h change) (kept_some h (change d) k) ∙ ap (λ x. kept_in h (Some x)) (again d)
  by_test false k = ap (turn_in h change) (kept_none h (change d) k) ∙ sym (kept_none h (change d) k)

-- The loop

no : false ≡ true → ⊥
no e = cc

young_kept : (h : ℤ) (d : Departed) → is_on d ≡ false → is_young h d ≡ true → is_kept h d ≡ true
young_kept h d off y = ap (λ b. if b then true else is_young h d) off ∙ y

on_is_kept : (h : ℤ) (d : Departed) → is_on d ≡ true → is_kept h d ≡ true
on_is_kept h d on = ap (λ b. if b then true else is_young h d) on

settled_one : (h : ℤ) (change : Departed → Departed) → ((d : Departed) → is_on d ≡ false → change d ≡ d) → (q : ℕ) (o : Option Departed) (listed : List OnFibre) →
    ((d : Departed) → o ≡ Some d → ((is_on d ≡ true) × IsAmong (entry_of q d) listed) ⊎ ((is_on d ≡ false) × (is_young h d ≡ true))) →
    (o ≡ turn_in h change o) ⊎ Waits q o o listed
settled_one h change off q None listed s = inl refl
settled_one h change off q (Some d) listed s = elim (s d refl) [
  | inl it ↦ inr (record { frame = d; was = refl; same = refl; on = it.0; among = it.1 })
  | inr it ↦ inl (sym (ap (λ x. kept_in h (Some x)) (off d it.0) ∙ kept_some h d (young_kept h d it.0 it.1)))
]

pub losing_none : (h : ℤ) (change : ℕ → Departed → Departed) (kept : List (ℕ × Departed)) (listed : List OnFibre) → Loses change → Settled h kept listed → Losing h change kept kept listed
losing_none h change kept listed c s = record { each = λ q. settled_one h (change q) (c.off q) q (at q kept) listed (s q) }

-- a listed frame is one of those that are lost
hit : (h : ℤ) (change : ℕ → Departed → Departed) (before now after : List (ℕ × Departed)) (it : OnFibre) (left : List OnFibre) → Loses change →
    ((q : ℕ) → at q after ≡ cond (is_at (nat_cmp it.number) q) (turn_in h (change it.number) (at q now)) (at q now)) →
    Losing h change before now (it ∷ left) → Losing h change before after left
hit h change before now after it left c e p = record { each = λ q. by_test q (is_at (nat_cmp it.number) q) refl (e q) } where
  other : (q : ℕ) (d : Departed) → is_at (nat_cmp it.number) q ≡ false → it ≡ entry_of q d → ⊥
  other q d x is = no (sym x ∙ at_itself it.number q (ap (λ (y : OnFibre). y.number) is))

  by_place : (q : ℕ) → is_at (nat_cmp it.number) q ≡ false → at q after ≡ at q now → (w : Waits q (at q before) (at q now) (it ∷ left)) →
      (it ≡ entry_of q w.frame) ⊎ IsAmong (entry_of q w.frame) left → Waits q (at q before) (at q after) left
  by_place q x g w (inl is) = absurd (other q w.frame x is)
  by_place q x g w (inr more) = record { frame = w.frame; was = w.was; same = g ∙ w.same; on = w.on; among = more }

  by_test : (q : ℕ) (b : Bool) → is_at (nat_cmp it.number) q ≡ b → at q after ≡ cond b (turn_in h (change it.number) (at q now)) (at q now) →
      (at q after ≡ turn_in h (change q) (at q before)) ⊎ Waits q (at q before) (at q after) left
  by_test q true x g =
      let same : at q after ≡ turn_in h (change q) (at q now) = g ∙ ap (λ m. turn_in h (change m) (at q now)) (same_number it.number q x) in
      elim (p.each q) [
        | inl done ↦ inl (same ∙ ap (turn_in h (change q)) done ∙ in_again h (change q) (c.again q) (at q before))
        | inr w ↦ inl (same ∙ ap (turn_in h (change q)) w.same)
      ]
  by_test q false x g = elim (p.each q) [
    | inl done ↦ inl (g ∙ done)
    | inr w ↦ inr (by_place q x g w w.among)
  ]

pub losing_hit : (h : ℤ) (change : ℕ → Departed → Departed) (before now after : List (ℕ × Departed)) (listed : List OnFibre) (i : ℕ) (d : OnFibre) → Loses change → i < length listed →
    ((q : ℕ) → at q after ≡ cond (is_at (nat_cmp (slice_index_or listed i d).number) q) (turn_in h (change (slice_index_or listed i d).number) (at q now)) (at q now)) →
    Losing h change before now (drop i listed) → Losing h change before after (drop (i + 1) listed)
losing_hit h change before now after listed i d c l e p =
    hit h change before now after (slice_index_or listed i d) (drop (i + 1) listed) c e (subst (Losing h change before now) (drop_more listed i d l) p)

-- a listed frame is none of them

hits_meets : (links : List LinkCfg) (loss : Loss) (q : ℕ) (d : Departed) → hits links loss (entry_of q d) ≡ meets links loss q d
hits_meets links (Link k) q d = refl
hits_meets links (Node n) q d = refl
hits_meets links (Older j link by) q d = refl

or_false : (g b : Bool) → b ≡ false → g || b ≡ g
or_false true b e = refl
or_false false b e = e

spared : (h : ℤ) (b : Bool) (d : Departed) → b ≡ false → is_on d ≡ true → kept_in h (Some (lost b d)) ≡ Some d
spared h b d e on =
    ap (λ x. kept_in h (Some (lost x d))) e ∙ ap (λ g. kept_in h (Some (record d { gone = g }))) (or_false d.gone (false && is_on d) refl)
    ∙ kept_some h d (on_is_kept h d on)

miss : (h : ℤ) (links : List LinkCfg) (loss : Loss) (before now : List (ℕ × Departed)) (it : OnFibre) (left : List OnFibre) → hits links loss it ≡ false →
    Losing h (lost_by links loss) before now (it ∷ left) → Losing h (lost_by links loss) before now left
miss h links loss before now it left e p = record { each = λ q. by_each q (p.each q) } where
  unmet : (q : ℕ) (d : Departed) → it ≡ entry_of q d → meets links loss q d ≡ false
  unmet q d is = sym (hits_meets links loss q d) ∙ ap (hits links loss) (sym is) ∙ e

  by_place : (q : ℕ) → (w : Waits q (at q before) (at q now) (it ∷ left)) → (it ≡ entry_of q w.frame) ⊎ IsAmong (entry_of q w.frame) left →
      (at q now ≡ turn_in h (lost_by links loss q) (at q before)) ⊎ Waits q (at q before) (at q now) left
  by_place q w (inl is) =
      inl (w.same ∙ w.was ∙ sym (ap (turn_in h (lost_by links loss q)) w.was ∙ spared h (meets links loss q w.frame) w.frame (unmet q w.frame is) w.on))
  by_place q w (inr more) = inr (record { frame = w.frame; was = w.was; same = w.same; on = w.on; among = more })

  by_each : (q : ℕ) → (at q now ≡ turn_in h (lost_by links loss q) (at q before)) ⊎ Waits q (at q before) (at q now) (it ∷ left) →
      (at q now ≡ turn_in h (lost_by links loss q) (at q before)) ⊎ Waits q (at q before) (at q now) left
  by_each q (inl done) = inl done
  by_each q (inr w) = by_place q w w.among

pub losing_miss : (h : ℤ) (links : List LinkCfg) (loss : Loss) (before now : List (ℕ × Departed)) (listed : List OnFibre) (i : ℕ) (d : OnFibre) → i < length listed →
    hits links loss (slice_index_or listed i d) ≡ false → Losing h (lost_by links loss) before now (drop i listed) → Losing h (lost_by links loss) before now (drop (i + 1) listed)
losing_miss h links loss before now listed i d l e p =
    miss h links loss before now (slice_index_or listed i d) (drop (i + 1) listed) e (subst (Losing h (lost_by links loss) before now) (drop_more listed i d l) p)

pub losing_all : (h : ℤ) (change : ℕ → Departed → Departed) (before now : List (ℕ × Departed)) (listed : List OnFibre) (i : ℕ) → length listed ≤ i →
    Losing h change before now (drop i listed) → (q : ℕ) → at q now ≡ turn_in h (change q) (at q before)
losing_all h change before now listed i l p q =
    let none : Losing h change before now [] = subst (Losing h change before now) (drop_of_length-le listed l) p in
    elim (none.each q) [ inl done ↦ done | inr w ↦ absurd w.among ]

-- a frame that is on a fibre afterwards was on it before
pub lost_lists : (h : ℤ) (links : List LinkCfg) (loss : Loss) (kept after : List (ℕ × Departed)) (listed : List OnFibre) → Settled h kept listed →
    ((q : ℕ) → at q after ≡ turn_in h (lost_by links loss q) (at q kept)) → Lists after listed
lost_lists h links loss kept after listed s e k d i on =
    let it : CameFrom h (lost_by links loss k) (at k kept) d = came_from h (lost_by links loss k) (at k kept) d (sym (e k) ∙ i) in
    let was : is_on it.from ≡ true = lost_on (meets links loss k it.from) it.from (ap is_on it.same ∙ on) in
    elim (s k it.from it.was) [
      | inl there ↦ subst (λ x. IsAmong x listed) (ap (entry_of k) it.same) there.1
      | inr off ↦ absurd (no (sym off.0 ∙ was))
    ]

-- Frames are left out of the list

among_filtered : (test : OnFibre → Bool) (listed : List OnFibre) (it : OnFibre) → test it ≡ true → IsAmong it listed → IsAmong it (filter test listed)
among_filtered test [] it t a = a
among_filtered test (first ∷ listed) it t (inl is) =
    subst (IsAmong it) (sym (ap (λ b. cond b (first ∷ filter test listed) (filter test listed)) (ap test is ∙ t))) (inl is)
among_filtered test (first ∷ listed) it t (inr more) = by_test (test first) (among_filtered test listed it t more) where
  by_test : (b : Bool) → IsAmong it (filter test listed) → IsAmong it (cond b (first ∷ filter test listed) (filter test listed))
  by_test true a = inr a
  by_test false a = a

pub lists_left : (kept : List (ℕ × Departed)) (old new : List OnFibre) → new ≡ filter (λ (it : OnFibre). on_at kept it.number) old → Lists kept old → Lists kept new
lists_left kept old new e l k d i on =
    subst (IsAmong (entry_of k d)) (sym e)
    (among_filtered (λ (it : OnFibre). on_at kept it.number) old (entry_of k d) (ap (λ o. option_map_or is_on o false) i ∙ on) (l k d i on))

-- A frame arrives

arrived_off : (reception : Reception) (d : Departed) → is_on (receive reception d) ≡ false
arrived_off reception d = off d.gone where
  off : (g : Bool) → (if g then false else false) ≡ false
  off true = refl
  off false = refl

landed_off : (reception : Reception) (o : Option Departed) (d : Departed) → option_map (receive reception) o ≡ Some d → is_on d ≡ false
landed_off reception None d e = absurd (none e) where
  none : None ≡ Some d → ⊥
  none e = cc
landed_off reception (Some x) d e = subst (λ y. is_on y ≡ false) (same e) (arrived_off reception x) where
  same : Some (receive reception x) ≡ Some d → receive reception x ≡ d
  same e = cc

-- a frame arrives, is forgotten if it is old, and leaves the list
pub landed_settled :
    (h : ℤ) (reception : Reception) (j : ℕ) (kept between after : List (ℕ × Departed)) (listed left : List OnFibre) → Settled h kept listed →
    ((q : ℕ) → at q between ≡ cond (is_at (nat_cmp j) q) (option_map (receive reception) (at q kept)) (at q kept)) →
    ((q : ℕ) → at q after ≡ cond (is_at (nat_cmp j) q) (kept_in h (at q between)) (at q between)) →
    left ≡ filter (is_other j) listed → Settled h after left
landed_settled h reception j kept between after listed left s e f g k d i = by_test (is_at (nat_cmp j) k) refl (e k) (sym (f k) ∙ i) where
  by_test : (b : Bool) → is_at (nat_cmp j) k ≡ b → at k between ≡ cond b (option_map (receive reception) (at k kept)) (at k kept) →
      cond b (kept_in h (at k between)) (at k between) ≡ Some d →
      ((is_on d ≡ true) × IsAmong (entry_of k d) left) ⊎ ((is_on d ≡ false) × (is_young h d ≡ true))
  by_test true x came stays =
      let it = kept_is_it h (at k between) d stays in
      let off : is_on d ≡ false = landed_off reception (at k kept) d (sym came ∙ it.0) in
      inr (off, kept_young h d it.1 off)
  by_test false x came same = elim (s k d (sym came ∙ same)) [
    | inl it ↦ inl (it.0, subst (IsAmong (entry_of k d)) (sym g) (among_filtered (is_other j) listed (entry_of k d) (ap not (sym (equal_numbers j k) ∙ x)) it.1))
    | inr it ↦ inr it
  ]

not_kept_off : (h : ℤ) (d : Departed) → is_kept h d ≡ false → is_on d ≡ false
not_kept_off h d k = by_test (is_on d) refl where
  by_test : (b : Bool) → is_on d ≡ b → is_on d ≡ false
  by_test true on = absurd (no (sym k ∙ on_is_kept h d on))
  by_test false off = off

-- a frame that is forgotten first is forgotten all the same
turn_forgotten : (h : ℤ) (change : Departed → Departed) → ((d : Departed) → is_on d ≡ false → change d ≡ d) → (b : Bool) (o : Option Departed) →
    turn_in h change (cond b (kept_in h o) o) ≡ turn_in h change o
turn_forgotten h change off false o = refl
turn_forgotten h change off true None = refl
turn_forgotten h change off true (Some d) = by_test (is_kept h d) refl where
  by_test : (b : Bool) → is_kept h d ≡ b → turn_in h change (kept_in h (Some d)) ≡ turn_in h change (Some d)
  by_test true k = ap (turn_in h change) (kept_some h d k)
  by_test false k =
      ap (turn_in h change) (kept_none h d k)
      ∙ sym (ap (λ x. kept_in h (Some x)) (off d (not_kept_off h d k)) ∙ kept_none h d k)

arrives_one : (h : ℤ) (reception : Reception) (j link : ℕ) (by : Role) (q : ℕ) (o : Option Departed) (a b : Bool) → a ≡ b →
    turn_in h (λ d. lost (is_older j link by q d) d) (cond a (option_map (receive reception) o) o) ≡ turn_in h (λ d. lost (is_older j link by q d) (if b then receive reception d else d)) o
arrives_one h reception j link by q None true b e = refl
arrives_one h reception j link by q None false b e = refl
arrives_one h reception j link by q (Some d) true true e = refl
arrives_one h reception j link by q (Some d) false false e = refl
arrives_one h reception j link by q (Some d) true false e = absurd cc
arrives_one h reception j link by q (Some d) false true e = absurd cc

pub arrives_kept : (h : ℤ) (reception : Reception) (j link : ℕ) (by : Role) (links : List LinkCfg) (kept between forgotten after : List (ℕ × Departed)) →
    ((q : ℕ) → at q between ≡ cond (is_at (nat_cmp j) q) (option_map (receive reception) (at q kept)) (at q kept)) →
    ((q : ℕ) → at q forgotten ≡ cond (is_at (nat_cmp j) q) (kept_in h (at q between)) (at q between)) →
    ((q : ℕ) → at q after ≡ turn_in h (lost_by links (Older j link by) q) (at q forgotten)) → (q : ℕ) → at q after ≡ turn_in h (arrives_by j reception link by q) (at q kept)
arrives_kept h reception j link by links kept between forgotten after e m f q =
    f q ∙ ap (turn_in h (lost_by links (Older j link by) q)) (m q)
    ∙ turn_forgotten h (lost_by links (Older j link by) q) ((lost_loses links (Older j link by)).off q) (is_at (nat_cmp j) q) (at q between)
    ∙ ap (turn_in h (lost_by links (Older j link by) q)) (e q)
    ∙ arrives_one h reception j link by q (at q kept) (is_at (nat_cmp j) q) (q == j) (equal_numbers j q)

-- frames that are lost are due when they were due before, and none comes to be on a fibre
pub lost_stills : (links : List LinkCfg) (loss : Loss) → Stills (lost_by links loss)
lost_stills links loss = record { due = λ q d. refl; on = λ q d e. on_was d.gone (is_some d.arrival) (meets links loss q d) e }

pub arrives_stills : (j : ℕ) (reception : Reception) (link : ℕ) (by : Role) → Stills (arrives_by j reception link by)
arrives_stills j reception link by = record { due = λ q d. due_at (q == j) d; on = λ q d e. on_at_test (q == j) d (on_was _ _ (is_older j link by q d) e) } where
  due_at : (b : Bool) (d : Departed) → (if b then receive reception d else d).due ≡ d.due
  due_at true d = refl
  due_at false d = refl

  never_on : (g : Bool) → (if g then false else false) ≡ true → ⊥
  never_on true e = cc
  never_on false e = cc

  on_at_test : (b : Bool) (d : Departed) → is_on (if b then receive reception d else d) ≡ true → is_on d ≡ true
  on_at_test true d e = absurd (never_on d.gone e)
  on_at_test false d e = e

-- the time at which it was put out stays
pub arrives_sent : (j : ℕ) (reception : Reception) (link : ℕ) (by : Role) (q : ℕ) (d : Departed) → (arrives_by j reception link by q d).sent ≡ d.sent
arrives_sent j reception link by q d = still (q == j) where
  still : (b : Bool) → (if b then receive reception d else d).sent ≡ d.sent
  still true = refl
  still false = refl
