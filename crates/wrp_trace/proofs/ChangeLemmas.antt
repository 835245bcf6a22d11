-- What is said of one more node or link, and of none.
use Rattle.std.proofs.Common.{◌≡◌, ◌∙◌, ℕ, ℤ, zero, suc, ◌+◌, ◌-◌, ◌<◌, ◌≤◌, drop, get_or, sym, ap₂, Result, Ok, Err, List, [], ◌∷◌, Option, None, Some, false, length, map, refl, ap, arith}
use Rattle.std.specs.Prelude.{slice_set, slice_get, unwrap_or}
use Rattle.std.specs.List.{AllByRecursion}
use Rattle.std.proofs.lemmas.List.{length-set, length-map, drop_more}
use Rattle.std.proofs.lemmas.Option.{unwrap_or-slice_get}
use Rattle.wrp_base.specs.declared.fault.TraceFault.{TraceFault}
use Rattle.wrp_fields.specs.Reading.{field_of, ◌>>=◌}
use Rattle.wrp_network.specs.declared.configuration.NetCfg.{NetCfg}
use Rattle.wrp_trace.specs.Changes.{SaidAt, is_said, count_said, said_count, with_drift, with_move, nothing_said, change_said, changes_said}
use Rattle.wrp_trace.specs.EventAt.{Fits, IsSaid}
use Rattle.wrp_course.specs.EventAt.{IsChange, IsMove}

swapped : (n : ℕ) → 1 + n ≡ n + 1
swapped n = omega arith

both : (a b : ℕ) → a ≡ b + 1 → 1 + a ≡ (1 + b) + 1
both a b e = omega (arith, e)

-- if nothing was said of a node or link, and something is said of it now, something is said of one
-- more
pub one_more : {X : Type 0} (said : List (Option X)) (n : ℕ) (x : X) → n < length said → is_said said n ≡ false
    → count_said (slice_set said n (Some x)) ≡ count_said said + 1
one_more [] n x below new = absurd (omega arith)
one_more (None ∷ said) zero x below new = swapped (count_said said)
one_more (Some y ∷ said) zero x below new = cc new
one_more (None ∷ said) (suc n) x below new = one_more said n x (omega arith) new
one_more (Some y ∷ said) (suc n) x below new =
    both (count_said (slice_set said n (Some x))) (count_said said) (one_more said n x (omega arith) new)

-- if nothing is said, it fits
pub nothing_fits : {X Y : Type 0} (P : X → Type 0) (ys : List Y) → AllByRecursion (Fits P) (map (λ y. None) ys)
nothing_fits P [] = tt
nothing_fits P (y ∷ ys) = (tt, nothing_fits P ys)

-- if nothing is said of any, the count is 0
pub of_none : (X : Type 0) {Y : Type 0} (ys : List Y) → count_said {X = X} (map (λ y. None) ys) ≡ 0
of_none X [] = refl
of_none X (y ∷ ys) = of_none X ys

-- with a new drift or move, something is said of one more node or link
pub one_more_drift : (said : SaidAt) (n : ℕ) (drift : ℤ) → n < length said.drifts → is_said said.drifts n ≡ false
    → said_count (with_drift said n drift) ≡ said_count said + 1
one_more_drift said n drift below new = omega (arith, one_more said.drifts n drift below new)

pub one_more_move : (said : SaidAt) (l : ℕ) (move : ℤ × ℤ) → l < length said.moves → is_said said.moves l ≡ false
    → said_count (with_move said l move) ≡ said_count said + 1
one_more_move said l move below new = omega (arith, one_more said.moves l move below new)

set_fits : {X : Type 0} (P : X → Type 0) (said : List (Option X)) (n : ℕ) (x : X) → P x
    → AllByRecursion (Fits P) said → AllByRecursion (Fits P) (slice_set said n (Some x))
set_fits P [] n x is all = tt
set_fits P (o ∷ said) zero x is all = (is, all.1)
set_fits P (o ∷ said) (suc n) x is all = (all.0, set_fits P said n x is all.1)

-- a drift or a move in its range fits
pub drift_fits : (cfg : NetCfg) (said : SaidAt) (n : ℕ) (drift : ℤ) → IsChange drift → IsSaid cfg said → IsSaid cfg (with_drift said n drift)
drift_fits cfg said n drift is fits = record {
  nodes = length-set said.drifts n (Some drift) ∙ fits.nodes;
  links = fits.links;
  drift = set_fits IsChange said.drifts n drift is fits.drift;
  move = fits.move;
}

pub move_fits : (cfg : NetCfg) (said : SaidAt) (l : ℕ) (move : ℤ × ℤ) → IsMove move → IsSaid cfg said → IsSaid cfg (with_move said l move)
move_fits cfg said l move is fits = record {
  nodes = fits.nodes;
  links = length-set said.moves l (Some move) ∙ fits.links;
  drift = fits.drift;
  move = set_fits IsMove said.moves l move is fits.move;
}

-- saying nothing fits a network, and its count is 0
pub nothing_is_said : (cfg : NetCfg) → IsSaid cfg (nothing_said cfg)
nothing_is_said cfg = record {
  nodes = length-map cfg.nodes.items (λ node. None);
  links = length-map cfg.links.items (λ link. None);
  drift = nothing_fits IsChange cfg.nodes.items;
  move = nothing_fits IsMove cfg.links.items;
}

pub none_said : (cfg : NetCfg) → said_count (nothing_said cfg) ≡ 0
none_said cfg = omega (arith, of_none ℤ cfg.nodes.items, of_none (ℤ × ℤ) cfg.links.items)

-- something is said of no more than there are
few_said : {X : Type 0} (said : List (Option X)) → count_said said ≤ length said
few_said [] = omega arith
few_said (None ∷ said) = omega (arith, few_said said)
few_said (Some x ∷ said) = omega (arith, few_said said)

pub few : (said : SaidAt) → length said.drifts ≤ 64 → length said.moves ≤ 63 → said_count said ≤ 127
few said nodes links = omega (arith, nodes, links, few_said said.drifts, few_said said.moves)

-- Fields in turn

-- the field of a place, and the fields after it
pub field_here : (fields : List (List ℕ)) (at place : ℕ) (text : List ℕ) → place ≡ at + 1 → text ≡ field_of place fields
    → get_or fields at [] ≡ text
field_here fields at place text here is =
    let same : at ≡ place - 1 = omega arith in
    sym (unwrap_or-slice_get fields at []) ∙ ap (λ p. unwrap_or (slice_get fields p) []) same ∙ sym is

step : (cfg : NetCfg) (fields : List (List ℕ)) (at place : ℕ) (said : SaidAt) (text : List ℕ) (answer : Result SaidAt TraceFault)
    → at < length fields → place ≡ at + 1 → text ≡ field_of place fields → answer ≡ change_said cfg place said text
    → changes_said cfg (at + 1) said (drop at fields)
    ≡ (answer >>= (λ more. changes_said cfg (at + 1 + 1) more (drop (at + 1) fields)))
step cfg fields at place said text answer below here is e =
    ap (changes_said cfg (at + 1) said) (drop_more fields at [] below)
    ∙ ap (λ r. r >>= (λ more. changes_said cfg (at + 1 + 1) more (drop (at + 1) fields)))
    (ap₂ (λ p t. change_said cfg p said t) (sym here) (field_here fields at place text here is) ∙ sym e)

-- a field that says nothing is the fault of all fields
pub stops : (cfg : NetCfg) (fields : List (List ℕ)) (at place : ℕ) (said : SaidAt) (text : List ℕ) (fault : TraceFault)
    → at < length fields → place ≡ at + 1 → text ≡ field_of place fields → Err fault ≡ change_said cfg place said text
    → changes_said cfg (at + 1) said (drop at fields) ≡ Err fault
stops cfg fields at place said text fault below here is e = step cfg fields at place said text (Err fault) below here is e

-- after a field that says something, the other fields say the rest
pub goes : (cfg : NetCfg) (fields : List (List ℕ)) (at place : ℕ) (said more : SaidAt) (text : List ℕ)
    → at < length fields → place ≡ at + 1 → text ≡ field_of place fields → Ok more ≡ change_said cfg place said text
    → changes_said cfg (at + 1) said (drop at fields) ≡ changes_said cfg (at + 1 + 1) more (drop (at + 1) fields)
goes cfg fields at place said more text below here is e = step cfg fields at place said text (Ok more) below here is e
