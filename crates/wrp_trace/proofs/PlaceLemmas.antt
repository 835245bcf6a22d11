-- Marks and changes of nodes or links, and the `pass` that they make.
use Rattle.std.proofs.Common.{◌≡◌, ◌∙◌, ℕ, ℤ, pos, zero, suc, ◌+◌, ◌<◌, ◌≤◌, refl, sym, ap, ap₂, subst, Bool, true, false, if◌then◌else◌, Option, None, Some, Result, Ok, Err, List, [], ◌∷◌, length, map, drop, arith}
use Rattle.std.specs.Prelude.{slice_set, unwrap_or}
use Rattle.std.specs.Result.{OnOk}
use Rattle.std.proofs.lemmas.List.{length-map, length-set}
use Rattle.arrayvec.specs.ArrayVec.{ArrayVec as Items}
use Rattle.wrp_network.specs.declared.configuration.NetCfg.{NetCfg}
use Rattle.wrp_network.specs.declared.network.LinkCfg.{LinkCfg}
use Rattle.wrp_network.specs.declared.network.NodeCfg.{NodeCfg}
use Rattle.wrp_base.specs.declared.fault.TraceFault.{TraceFault}
use Rattle.wrp_base.specs.declared.fault.TraceFault.TheVariants.{Name, Number}
use Rattle.wrp_network.specs.Network.{node_count}
use Rattle.wrp_caldb.specs.Name.{same_name}
use Rattle.wrp_config.specs.Names.{link_named, node_named}
use Rattle.wrp_course.specs.declared.event.Event.{Event}
use Rattle.wrp_course.specs.declared.event.Event.TheVariants as events
use Rattle.wrp_course.specs.EventAt.{IsEventOf, link_count}
use Rattle.wrp_fields.specs.Reading.{◌>>=◌, number_or_fault}
use Rattle.wrp_trace.specs.declared.events.marks.Marks.{Marks}
use Rattle.wrp_trace.specs.Changes.{SaidAt, change_in, change_said, changes_said, drift_said, is_said, move_in, move_said, named_said, nothing_said, outcome, said_count, said_once, with_drift, with_move}
use Rattle.wrp_trace.specs.EventFields.{before, behind, span_at}
use Rattle.wrp_trace.specs.Events.{pass_of, pass_with, bare, told_in}
use Rattle.wrp_trace.specs.Places.{AreClocks, AreFibres, AsPass, FindsEach, Holds, IsPassing, NoneMarked, OnlyDrifts, OnlyMoves, RestsAt, drifts_in, is_marked, moves_in, said_also, said_by, said_in, said_then, span_in}
use Rattle.wrp_trace.proofs.ChangeLemmas.{few, one_more_drift, one_more_move}
use Rattle.wrp_trace.proofs.EventsFit.{both, ok_same, pass_fits, within}

-- One mark

-- something is said of the one that is marked, and nothing of the one that is not
pub is_said_in : {X : Type 0} (marks : List Bool) (changes : List X) (n : ℕ) → n < length marks → n < length changes
    → is_said (said_in marks changes) n ≡ is_marked marks n
is_said_in [] changes n below within = absurd (omega (arith, below))
is_said_in (mark ∷ marks) [] n below within = absurd (omega (arith, within))
is_said_in (true ∷ marks) (x ∷ changes) zero below within = refl
is_said_in (false ∷ marks) (x ∷ changes) zero below within = refl
is_said_in (mark ∷ marks) (x ∷ changes) (suc n) below within =
    is_said_in marks changes n (omega (arith, below)) (omega (arith, within))

-- with a mark and its change, this is also said
pub says_more : {X : Type 0} (marks : List Bool) (changes : List X) (n : ℕ) (x : X) → n < length marks → n < length changes
    → said_in (slice_set marks n true) (slice_set changes n x) ≡ slice_set (said_in marks changes) n (Some x)
says_more [] changes n x below within = absurd (omega (arith, below))
says_more (mark ∷ marks) [] n x below within = absurd (omega (arith, within))
says_more (mark ∷ marks) (y ∷ changes) zero x below within = refl
says_more (mark ∷ marks) (y ∷ changes) (suc n) x below within =
    ap (λ said. (if mark then Some y else None) ∷ said) (says_more marks changes n x (omega (arith, below)) (omega (arith, within)))

marked : {X : Type 0} (x rest : X) → true ≡ false → x ≡ rest
marked x rest e = absurd (cc)

-- and the others rest as before
pub rests_marked : {X : Type 0} (rest : X) (marks : List Bool) (changes : List X) (n : ℕ) (x : X) → RestsAt rest marks changes
    → RestsAt rest (slice_set marks n true) (slice_set changes n x)
rests_marked rest [] changes n x h = tt
rests_marked rest (mark ∷ marks) [] zero x h = tt
rests_marked rest (mark ∷ marks) [] (suc n) x h = tt
rests_marked rest (mark ∷ marks) (y ∷ changes) zero x h = (marked x rest, h.1)
rests_marked rest (mark ∷ marks) (y ∷ changes) (suc n) x h = (h.0, rests_marked rest marks changes n x h.1)

-- without a mark, and with the change of rest, the others also rest as before
pub rests_cleared : {X : Type 0} (rest : X) (marks : List Bool) (changes : List X) (n : ℕ) → RestsAt rest marks changes
    → RestsAt rest (slice_set marks n false) (slice_set changes n rest)
rests_cleared rest [] changes n h = tt
rests_cleared rest (mark ∷ marks) [] zero h = tt
rests_cleared rest (mark ∷ marks) [] (suc n) h = tt
rests_cleared rest (mark ∷ marks) (y ∷ changes) zero h = (λ e. refl, h.1)
rests_cleared rest (mark ∷ marks) (y ∷ changes) (suc n) h = (h.0, rests_cleared rest marks changes n h.1)

-- No mark

-- none is marked before this place
abbrev pub NoneBefore : ℕ → List Bool → Type 0
NoneBefore zero marks = Unit {0}
NoneBefore (suc n) [] = Unit {0}
NoneBefore (suc n) (mark ∷ marks) = (mark ≡ false) × NoneBefore n marks

none_one_more : (marks : List Bool) (n : ℕ) → NoneBefore n marks → NoneBefore (suc n) (slice_set marks n false)
none_one_more [] n h = tt
none_one_more (mark ∷ marks) zero h = (refl, tt)
none_one_more (mark ∷ marks) (suc n) h = (h.0, none_one_more marks n h.1)

pub none_more : (marks new : List Bool) (n : ℕ) → new ≡ slice_set marks n false → NoneBefore n marks → NoneBefore (n + 1) new
none_more marks new n e h =
    let next : suc n ≡ n + 1 = omega arith in
    subst (λ k. NoneBefore k new) next (subst (NoneBefore (suc n)) (sym e) (none_one_more marks n h))

pub none_at_all : (marks : List Bool) (n : ℕ) → length marks ≤ n → NoneBefore n marks → NoneMarked marks
none_at_all [] n all h = tt
none_at_all (mark ∷ marks) zero all h = absurd (omega (arith, all))
none_at_all (mark ∷ marks) (suc n) all h = (h.0, none_at_all marks n (omega (arith, all)) h.1)

-- if none is marked, nothing is said
pub nothing_in : {X Y : Type 0} (marks : List Bool) (changes : List X) (ys : List Y) → NoneMarked marks → length marks ≡ length ys → length changes ≡ length ys
    → said_in marks changes ≡ map (λ y. None) ys
nothing_in [] changes [] none e f = refl
nothing_in [] changes (y ∷ ys) none e f = absurd (omega (arith, e))
nothing_in (mark ∷ marks) changes [] none e f = absurd (omega (arith, e))
nothing_in (mark ∷ marks) [] (y ∷ ys) none e f = absurd (omega (arith, f))
nothing_in (mark ∷ marks) (x ∷ changes) (y ∷ ys) none e f =
    ap₂ (λ o said. o ∷ said) (ap (λ m. if m then Some x else None) none.0)
    (nothing_in marks changes ys none.1 (omega (arith, e)) (omega (arith, f)))

abbrev as_said : List (Option ℤ) → List (Option (ℤ × ℤ)) → SaidAt
as_said drifts moves = record { drifts = drifts; moves = moves }

-- no mark and no change
at_rest : {X Y : Type 0} (rest : X) (ys : List Y) → RestsAt rest (map (λ y. false) ys) (map (λ y. rest) ys)
at_rest rest [] = tt
at_rest rest (y ∷ ys) = (λ e. refl, at_rest rest ys)

new_holds : (cfg : NetCfg) (marks : Marks) (drifts : List ℤ) (moves : List (ℤ × ℤ))
    → marks.nodes.items ≡ map (λ node. false) cfg.nodes.items → marks.links.items ≡ map (λ link. false) cfg.links.items
    → drifts ≡ map (λ node. pos 0) cfg.nodes.items → moves ≡ map (λ link. (pos 0, pos 0)) cfg.links.items → Holds cfg marks drifts moves
new_holds cfg marks drifts moves e1 e2 e3 e4 = record {
  nodes = ap length e1 ∙ length-map cfg.nodes.items (λ node. false);
  links = ap length e2 ∙ length-map cfg.links.items (λ link. false);
  clocks = ap length e3 ∙ length-map cfg.nodes.items (λ node. pos 0);
  fibres = ap length e4 ∙ length-map cfg.links.items (λ link. (pos 0, pos 0));
  clocks_rest = rw (e1, e3) (at_rest (pos 0) cfg.nodes.items);
  fibres_rest = rw (e2, e4) (at_rest (pos 0, pos 0) cfg.links.items);
}

pub nothing_holds : (cfg : NetCfg) (marks : Marks) (dt : ℤ) (drifts : Items ℤ) (moves : Items (ℤ × ℤ)) → (marks.apart ≡ true → FindsEach cfg)
    → marks.nodes.items ≡ map (λ node. false) cfg.nodes.items → marks.links.items ≡ map (λ link. false) cfg.links.items
    → drifts.items ≡ map (λ node. pos 0) cfg.nodes.items → moves.items ≡ map (λ link. (pos 0, pos 0)) cfg.links.items
    → IsPassing cfg marks (events.Pass dt drifts moves)
nothing_holds cfg marks dt drifts moves finds e1 e2 e3 e4 = record { pass = tt; holds = new_holds cfg marks drifts.items moves.items e1 e2 e3 e4; found = finds }

-- One field

abbrev lift : {A B : Type 0} → (A → B) → Result A TraceFault → Result B TraceFault
lift f (Ok x) = Ok (f x)
lift f (Err fault) = Err fault

abbrev with_drifts : List (Option (ℤ × ℤ)) → List (Option ℤ) → SaidAt
with_drifts moves drifts = record { drifts = drifts; moves = moves }

abbrev with_moves : List (Option ℤ) → List (Option (ℤ × ℤ)) → SaidAt
with_moves drifts moves = record { drifts = drifts; moves = moves }

clocks_then : (moves : List (Option (ℤ × ℤ))) (answer : Result (Unit {0}) TraceFault) (drifts : List (Option ℤ))
    → outcome answer (with_drifts moves drifts) ≡ lift (with_drifts moves) (said_then answer drifts)
clocks_then moves (Ok done) drifts = refl
clocks_then moves (Err fault) drifts = refl

fibres_then : (drifts : List (Option ℤ)) (answer : Result (Unit {0}) TraceFault) (moves : List (Option (ℤ × ℤ)))
    → outcome answer (with_moves drifts moves) ≡ lift (with_moves drifts) (said_then answer moves)
fibres_then drifts (Ok done) moves = refl
fibres_then drifts (Err fault) moves = refl

clocks_also : (said : SaidAt) (n : ℕ) (read : Result ℤ TraceFault)
    → lift (with_drifts said.moves) (read >>= (λ x. Ok (slice_set said.drifts n (Some x)))) ≡ (read >>= (λ x. Ok (with_drift said n x)))
clocks_also said n (Ok x) = refl
clocks_also said n (Err fault) = refl

fibres_also : (said : SaidAt) (l : ℕ) (read : Result (ℤ × ℤ) TraceFault)
    → lift (with_moves said.drifts) (read >>= (λ x. Ok (slice_set said.moves l (Some x)))) ≡ (read >>= (λ x. Ok (with_move said l x)))
fibres_also said l (Ok x) = refl
fibres_also said l (Err fault) = refl

-- a field of a node's clock
pub drift_taken : (cfg : NetCfg) (place : ℕ) (marks new : Marks) (drifts more : List ℤ) (moves : List (ℤ × ℤ)) (n : ℕ) (name rest text : List ℕ) (answer : Result (Unit {0}) TraceFault)
    → name ≡ before 61 text → rest ≡ behind 61 text → node_named cfg name ≡ Some n → new.links ≡ marks.links
    → said_then answer (said_in new.nodes.items more) ≡ said_also place (said_in marks.nodes.items drifts) n (change_in rest)
    → outcome answer (said_by new more moves) ≡ change_said cfg place (said_by marks drifts moves) text
drift_taken cfg place marks new drifts more moves n name rest text answer e1 e2 named same e =
    let said : SaidAt = said_by marks drifts moves in
    ap (λ (links : Items Bool). outcome answer (with_drifts (said_in links.items moves) (said_in new.nodes.items more))) same
    ∙ clocks_then said.moves answer (said_in new.nodes.items more)
    ∙ ap (lift (with_drifts said.moves)) e
    ∙ clocks_also said n (said_once place said.drifts n (change_in rest))
    ∙ ap (λ t. drift_said place said n t) e2
    ∙ sym (ap (λ (o : Option ℕ). named_said place said o (link_named cfg (before 61 text)) (behind 61 text)) (ap (node_named cfg) (sym e1) ∙ named))

-- a field of a link's fibre
pub move_taken : (cfg : NetCfg) (place : ℕ) (marks new : Marks) (drifts : List ℤ) (moves more : List (ℤ × ℤ)) (l : ℕ) (name rest text : List ℕ) (answer : Result (Unit {0}) TraceFault)
    → name ≡ before 61 text → rest ≡ behind 61 text → node_named cfg name ≡ None → link_named cfg name ≡ Some l → new.nodes ≡ marks.nodes
    → said_then answer (said_in new.links.items more) ≡ said_also place (said_in marks.links.items moves) l (move_in rest)
    → outcome answer (said_by new drifts more) ≡ change_said cfg place (said_by marks drifts moves) text
move_taken cfg place marks new drifts moves more l name rest text answer e1 e2 other named same e =
    let said : SaidAt = said_by marks drifts moves in
    ap (λ (nodes : Items Bool). outcome answer (with_moves (said_in nodes.items drifts) (said_in new.links.items more))) same
    ∙ fibres_then said.drifts answer (said_in new.links.items more)
    ∙ ap (lift (with_moves said.drifts)) e
    ∙ fibres_also said l (said_once place said.moves l (move_in rest))
    ∙ ap (λ t. move_said place said l t) e2
    ∙ sym (ap₂ (λ (n k : Option ℕ). named_said place said n k (behind 61 text)) (ap (node_named cfg) (sym e1) ∙ other) (ap (link_named cfg) (sym e1) ∙ named))

-- a field that names neither
pub nothing_taken : (cfg : NetCfg) (place : ℕ) (said : SaidAt) (name text : List ℕ)
    → name ≡ before 61 text → node_named cfg name ≡ None → link_named cfg name ≡ None → Err (Name place) ≡ change_said cfg place said text
nothing_taken cfg place said name text e node link =
    sym (ap₂ (λ (n k : Option ℕ). named_said place said n k (behind 61 text)) (ap (node_named cfg) (sym e) ∙ node) (ap (link_named cfg) (sym e) ∙ link))

-- How much is said

new_in : {X : Type 0} (b : Bool) (place : ℕ) (o : Option X) (x : X) → (if b then Err (Name place) else number_or_fault place o) ≡ Ok x → b ≡ false
new_in true place o x e = absurd (let f : Err (Name place) ≡ Ok x = e in cc)
new_in false place o x e = refl

drift_counts : (place : ℕ) (said more : SaidAt) (n : ℕ) (text : List ℕ) → n < length said.drifts → drift_said place said n text ≡ Ok more → said_count more ≡ said_count said + 1
drift_counts place said more n text below e =
    let it = both (said_once place said.drifts n (change_in text)) (λ drift. Ok (with_drift said n drift)) more e in
    ap said_count (sym (ok_same (with_drift said n it.first) more it.rest))
    ∙ one_more_drift said n it.first below (new_in (is_said said.drifts n) place (change_in text) it.first it.is)

move_counts : (place : ℕ) (said more : SaidAt) (l : ℕ) (text : List ℕ) → l < length said.moves → move_said place said l text ≡ Ok more → said_count more ≡ said_count said + 1
move_counts place said more l text below e =
    let it = both (said_once place said.moves l (move_in text)) (λ move. Ok (with_move said l move)) more e in
    ap said_count (sym (ok_same (with_move said l it.first) more it.rest))
    ∙ one_more_move said l it.first below (new_in (is_said said.moves l) place (move_in text) it.first it.is)

named_counts : (place : ℕ) (said more : SaidAt) (n l : Option ℕ) (text : List ℕ) → ((k : ℕ) → n ≡ Some k → k < length said.drifts) → ((k : ℕ) → l ≡ Some k → k < length said.moves)
    → named_said place said n l text ≡ Ok more → said_count more ≡ said_count said + 1
named_counts place said more (Some n) l text nodes links e = drift_counts place said more n text (nodes n refl) e
named_counts place said more None (Some l) text nodes links e = move_counts place said more l text (links l refl) e
named_counts place said more None None text nodes links e = absurd (let f : Err (Name place) ≡ Ok more = e in cc)

length_in : {X : Type 0} (marks : List Bool) (changes : List X) → length marks ≡ length changes → length (said_in marks changes) ≡ length marks
length_in [] changes e = refl
length_in (mark ∷ marks) [] e = absurd (omega (arith, e))
length_in (mark ∷ marks) (x ∷ changes) e = ap suc (length_in marks changes (omega (arith, e)))

clocks_said : (cfg : NetCfg) (marks : Marks) (drifts : List ℤ) (moves : List (ℤ × ℤ)) → Holds cfg marks drifts moves → length (said_in marks.nodes.items drifts) ≡ node_count cfg
clocks_said cfg marks drifts moves h = length_in marks.nodes.items drifts (h.nodes ∙ sym h.clocks) ∙ h.nodes

fibres_said : (cfg : NetCfg) (marks : Marks) (drifts : List ℤ) (moves : List (ℤ × ℤ)) → Holds cfg marks drifts moves → length (said_in marks.links.items moves) ≡ link_count cfg
fibres_said cfg marks drifts moves h = length_in marks.links.items moves (h.links ∙ sym h.fibres) ∙ h.links

-- each field says something of one more
pub change_counts : (cfg : NetCfg) (place : ℕ) (marks : Marks) (drifts : List ℤ) (moves : List (ℤ × ℤ)) (more : SaidAt) (text : List ℕ) → Holds cfg marks drifts moves
    → Ok more ≡ change_said cfg place (said_by marks drifts moves) text → said_count more ≡ said_count (said_by marks drifts moves) + 1
change_counts cfg place marks drifts moves more text h e =
    named_counts place (said_by marks drifts moves) more (node_named cfg (before 61 text)) (link_named cfg (before 61 text)) (behind 61 text)
    (λ k is. subst (λ c. k < c) (sym (clocks_said cfg marks drifts moves h)) (within (λ (node : NodeCfg). same_name node.name.bytes (before 61 text)) cfg.nodes.items k is))
    (λ k is. subst (λ c. k < c) (sym (fibres_said cfg marks drifts moves h)) (within (λ (link : LinkCfg). same_name link.name.bytes (before 61 text)) cfg.links.items k is))
    (sym e)

-- and something is said of no more than there are
pub few_by : (cfg : NetCfg) (marks : Marks) (drifts : List ℤ) (moves : List (ℤ × ℤ)) → Holds cfg marks drifts moves → node_count cfg ≤ 64 → link_count cfg ≤ 63
    → said_count (said_by marks drifts moves) ≤ 127
few_by cfg marks drifts moves h nodes links =
    few (said_by marks drifts moves) (subst (λ c. c ≤ 64) (sym (clocks_said cfg marks drifts moves h)) nodes) (subst (λ c. c ≤ 63) (sym (fibres_said cfg marks drifts moves h)) links)

-- The `pass`

-- the changes are the changes of all that is said
all_in : {X : Type 0} (rest : X) (marks : List Bool) (changes : List X) → length marks ≡ length changes → RestsAt rest marks changes
    → changes ≡ map (λ o. unwrap_or o rest) (said_in marks changes)
all_in rest [] [] e h = refl
all_in rest [] (x ∷ changes) e h = absurd (omega (arith, e))
all_in rest (mark ∷ marks) [] e h = absurd (omega (arith, e))
all_in rest (true ∷ marks) (x ∷ changes) e h = ap (λ l. x ∷ l) (all_in rest marks changes (omega (arith, e)) h.1)
all_in rest (false ∷ marks) (x ∷ changes) e h = ap₂ (λ y l. y ∷ l) (h.0 refl) (all_in rest marks changes (omega (arith, e)) h.1)

abbrev as_read : Event → Result Event TraceFault
as_read e = Ok e

passes_in : (cfg : NetCfg) (fields : List (List ℕ)) (dt : ℤ) (marks : Marks) (drifts : Items ℤ) (moves : Items (ℤ × ℤ)) (answer : Result (Unit {0}) TraceFault)
    → Holds cfg marks drifts.items moves.items → Ok dt ≡ span_at 2 fields
    → outcome answer (said_by marks drifts.items moves.items) ≡ changes_said cfg 3 (nothing_said cfg) (drop 2 fields)
    → told_in answer (events.Pass dt drifts moves) ≡ pass_of cfg fields
passes_in cfg fields dt marks drifts moves (Ok done) h span e =
    ap₂ (λ (a : List ℤ) (b : List (ℤ × ℤ)). as_read (events.Pass dt (record { items = a }) (record { items = b })))
    (all_in (pos 0) marks.nodes.items drifts.items (h.nodes ∙ sym h.clocks) h.clocks_rest)
    (all_in (pos 0, pos 0) marks.links.items moves.items (h.links ∙ sym h.fibres) h.fibres_rest)
    ∙ ap (λ (r : Result SaidAt TraceFault). r >>= (λ said. as_read (pass_with dt said))) e
    ∙ ap (λ (r : Result ℤ TraceFault). r >>= (λ t. changes_said cfg 3 (nothing_said cfg) (drop 2 fields) >>= (λ said. as_read (pass_with t said)))) span
passes_in cfg fields dt marks drifts moves (Err fault) h span e =
    ap (λ (r : Result SaidAt TraceFault). r >>= (λ said. as_read (pass_with dt said))) e
    ∙ ap (λ (r : Result ℤ TraceFault). r >>= (λ t. changes_said cfg 3 (nothing_said cfg) (drop 2 fields) >>= (λ said. as_read (pass_with t said)))) span

-- a `pass` is its parts
as_pass : (e : Event) → AsPass e → e ≡ events.Pass (span_in e) (record { items = drifts_in e }) (record { items = moves_in e })
as_pass (events.Pass dt drifts moves) is = refl
as_pass (events.Tick node) is = absurd is
as_pass (events.Sample node base bits) is = absurd is
as_pass (events.Depart node port stamp) is = absurd is
as_pass (events.Arrive frame raw) is = absurd is
as_pass (events.Deliver frame) is = absurd is
as_pass (events.Noise node port octets raw) is = absurd is
as_pass (events.Down node) is = absurd is
as_pass (events.Up node off swaps) is = absurd is
as_pass (events.Cut link) is = absurd is
as_pass (events.Join link ms sm) is = absurd is

-- what a `pass` that was read in place says
pub pass_read : (cfg : NetCfg) (fields : List (List ℕ)) (marks : Marks) (e : Event) (answer : Result (Unit {0}) TraceFault)
    → IsPassing cfg marks e → Ok (span_in e) ≡ span_at 2 fields
    → outcome answer (said_by marks (drifts_in e) (moves_in e)) ≡ changes_said cfg 3 (nothing_said cfg) (drop 2 fields)
    → told_in answer e ≡ pass_of cfg fields
pass_read cfg fields marks e answer passing span said =
    ap (told_in answer) (as_pass e passing.pass)
    ∙ passes_in cfg fields (span_in e) marks (record { items = drifts_in e }) (record { items = moves_in e }) answer passing.holds span said

-- and it can happen in the network
pub pass_comes : (cfg : NetCfg) (fields : List (List ℕ)) (marks : Marks) (e : Event) (answer : Result (Unit {0}) TraceFault) (u : Unit {0})
    → IsPassing cfg marks e → told_in answer e ≡ pass_of cfg fields → answer ≡ Ok u → IsEventOf cfg e
pass_comes cfg fields marks e answer u passing told ok =
    let is = as_pass e passing.pass in
    let own : pass_of cfg fields ≡ as_read (events.Pass (span_in e) (record { items = drifts_in e }) (record { items = moves_in e })) =
    sym told ∙ ap (λ (r : Result (Unit {0}) TraceFault). told_in r e) ok ∙ ap (λ x. as_read (bare x)) is in
    subst (IsEventOf cfg) (sym is) (pass_fits cfg fields (events.Pass (span_in e) (record { items = drifts_in e }) (record { items = moves_in e })) own)

-- Only the drifts, or only the moves, changed

pub drifts_again : (a b c : Event) → OnlyDrifts a b → OnlyDrifts b c → OnlyDrifts a c
drifts_again a b c h k = record { moves = k.moves ∙ h.moves; span = k.span ∙ h.span; pass = λ is. k.pass (h.pass is) }

pub moves_again : (a b c : Event) → OnlyMoves a b → OnlyMoves b c → OnlyMoves a c
moves_again a b c h k = record { drifts = k.drifts ∙ h.drifts; span = k.span ∙ h.span; pass = λ is. k.pass (h.pass is) }

pub drifts_stay : (e : Event) → OnlyDrifts e e
drifts_stay e = record { moves = refl; span = refl; pass = λ is. is }

pub moves_stay : (e : Event) → OnlyMoves e e
moves_stay e = record { drifts = refl; span = refl; pass = λ is. is }

-- a drift and its mark
pub put_said : (old new : List Bool) (before after : List ℤ) (n k m : ℕ) (drift : ℤ) → k ≡ n → m ≡ n → n < length old → n < length before
    → new ≡ slice_set old m true → after ≡ slice_set before k drift → said_in new after ≡ slice_set (said_in old before) n (Some drift)
put_said old new before after n k m drift e f below within marks changes =
    ap₂ said_in (marks ∙ ap (λ i. slice_set old i true) f) (changes ∙ ap (λ i. slice_set before i drift) e) ∙ says_more old before n drift below within

pub put_clocks : (old new : Marks) (before after : Event) (n k m : ℕ) (drift : ℤ) → k ≡ n → m ≡ n → RestsAt (pos 0) old.nodes.items (drifts_in before) → OnlyDrifts before after → new.links ≡ old.links → new.apart ≡ old.apart
    → new.nodes.items ≡ slice_set old.nodes.items m true → drifts_in after ≡ slice_set (drifts_in before) k drift → AreClocks old new before after
put_clocks old new before after n k m drift e f rest only links apart marks changes = record {
  marks = ap length marks ∙ length-set old.nodes.items m true;
  count = ap length changes ∙ length-set (drifts_in before) k drift;
  rest = rw (marks ∙ ap (λ i. slice_set old.nodes.items i true) f, changes ∙ ap (λ i. slice_set (drifts_in before) i drift) e)
      (rests_marked (pos 0) old.nodes.items (drifts_in before) n drift rest);
  links = links;
  apart = apart;
  only = only;
}

-- a move and its mark
pub move_said_in : (old new : List Bool) (before after : List (ℤ × ℤ)) (l k m : ℕ) (move : ℤ × ℤ) → k ≡ l → m ≡ l → l < length old → l < length before
    → new ≡ slice_set old m true → after ≡ slice_set before k move → said_in new after ≡ slice_set (said_in old before) l (Some move)
move_said_in old new before after l k m move e f below within marks changes =
    ap₂ said_in (marks ∙ ap (λ i. slice_set old i true) f) (changes ∙ ap (λ i. slice_set before i move) e) ∙ says_more old before l move below within

pub put_fibres : (old new : Marks) (before after : Event) (l k m : ℕ) (move : ℤ × ℤ) → k ≡ l → m ≡ l → RestsAt (pos 0, pos 0) old.links.items (moves_in before) → OnlyMoves before after → new.nodes ≡ old.nodes → new.apart ≡ old.apart
    → new.links.items ≡ slice_set old.links.items m true → moves_in after ≡ slice_set (moves_in before) k move → AreFibres old new before after
put_fibres old new before after l k m move e f rest only nodes apart marks changes = record {
  marks = ap length marks ∙ length-set old.links.items m true;
  count = ap length changes ∙ length-set (moves_in before) k move;
  rest = rw (marks ∙ ap (λ i. slice_set old.links.items i true) f, changes ∙ ap (λ i. slice_set (moves_in before) i move) e)
      (rests_marked (pos 0, pos 0) old.links.items (moves_in before) l move rest);
  nodes = nodes;
  apart = apart;
  only = only;
}

-- Fields in place

-- what is said, with one change more, by whether something is already said of it
abbrev once_by : {X : Type 0} → ℕ → List (Option X) → ℕ → Bool → Option X → Result (List (Option X)) TraceFault
once_by place said n b change = (if b then Err (Name place) else number_or_fault place change) >>= (λ x. Ok (slice_set said n (Some x)))

abbrev as_list : {X : Type 0} → List (Option X) → Result (List (Option X)) TraceFault
as_list said = Ok said

abbrev as_fault : {X : Type 0} → TraceFault → Result (List (Option X)) TraceFault
as_fault fault = Err fault

-- a mark that is already set
pub twice_in : {X : Type 0} (marks lent : List Bool) (changes : List X) (place n : ℕ) (change : Option X) (b : Bool) (fault : TraceFault) → n < length marks → n < length changes
    → lent ≡ marks → b ≡ is_marked lent n → b ≡ true → fault ≡ Name place → Err fault ≡ said_also place (said_in marks changes) n change
twice_in marks lent changes place n change b fault below inside same is marked_so names =
    let there = is_said_in marks changes n below inside ∙ ap (λ l. is_marked l n) (sym same) ∙ sym is ∙ marked_so in
    ap as_fault names ∙ sym (ap (λ t. once_by place (said_in marks changes) n t change) there)

-- a mark that is not set, and a change
pub once_in : {X : Type 0} (marks lent : List Bool) (changes : List X) (new : List (Option X)) (place n : ℕ) (change : Option X) (x : X) (b : Bool) → n < length marks → n < length changes
    → lent ≡ marks → b ≡ is_marked lent n → b ≡ false → change ≡ Some x → new ≡ slice_set (said_in marks changes) n (Some x) → Ok new ≡ said_also place (said_in marks changes) n change
once_in marks lent changes new place n change x b below inside same is unmarked reads put =
    let there = is_said_in marks changes n below inside ∙ ap (λ l. is_marked l n) (sym same) ∙ sym is ∙ unmarked in
    ap as_list put ∙ sym (ap₂ (λ t o. once_by place (said_in marks changes) n t o) there reads)

-- a mark that is not set, and no change
pub none_in : {X : Type 0} (marks lent : List Bool) (changes : List X) (place n : ℕ) (change : Option X) (b : Bool) (fault : TraceFault) → n < length marks → n < length changes
    → lent ≡ marks → b ≡ is_marked lent n → b ≡ false → change ≡ None → fault ≡ Number place → Err fault ≡ said_also place (said_in marks changes) n change
none_in marks lent changes place n change b fault below inside same is unmarked reads names =
    let there = is_said_in marks changes n below inside ∙ ap (λ l. is_marked l n) (sym same) ∙ sym is ∙ unmarked in
    ap as_fault names ∙ sym (ap₂ (λ t o. once_by place (said_in marks changes) n t o) there reads)

-- if all was forgotten, nothing is said
pub forgot : (cfg : NetCfg) (old : Marks) (was middle now : Event) (nodes links : List Bool) → IsPassing cfg old was
    → NoneMarked nodes → length nodes ≡ length old.nodes.items → length (drifts_in middle) ≡ length (drifts_in was) → OnlyDrifts was middle
    → NoneMarked links → length links ≡ length old.links.items → length (moves_in now) ≡ length (moves_in middle) → OnlyMoves middle now
    → as_said (said_in nodes (drifts_in now)) (said_in links (moves_in now)) ≡ nothing_said cfg
forgot cfg old was middle now nodes links h no_node nodes_count drifts_count drifts no_link links_count moves_count moves =
    ap₂ as_said
    (nothing_in nodes (drifts_in now) cfg.nodes.items no_node (nodes_count ∙ h.holds.nodes) (ap length moves.drifts ∙ drifts_count ∙ h.holds.clocks))
    (nothing_in links (moves_in now) cfg.links.items no_link (links_count ∙ h.holds.links) (moves_count ∙ ap length drifts.moves ∙ h.holds.fibres))

-- a field of a node's clock, and of a link's fibre
pub clocks_taken : (cfg : NetCfg) (place : ℕ) (old new : Marks) (was now : Event) (n : ℕ) (name rest text : List ℕ) (answer : Result (Unit {0}) TraceFault)
    → name ≡ before 61 text → rest ≡ behind 61 text → node_named cfg name ≡ Some n → AreClocks old new was now
    → said_then answer (said_in new.nodes.items (drifts_in now)) ≡ said_also place (said_in old.nodes.items (drifts_in was)) n (change_in rest)
    → outcome answer (said_by new (drifts_in now) (moves_in now)) ≡ change_said cfg place (said_by old (drifts_in was) (moves_in was)) text
clocks_taken cfg place old new was now n name rest text answer e1 e2 named k e =
    ap (λ (moves : List (ℤ × ℤ)). outcome answer (said_by new (drifts_in now) moves)) k.only.moves
    ∙ drift_taken cfg place old new (drifts_in was) (drifts_in now) (moves_in was) n name rest text answer e1 e2 named k.links e

pub fibres_taken : (cfg : NetCfg) (place : ℕ) (old new : Marks) (was now : Event) (l : ℕ) (name rest text : List ℕ) (answer : Result (Unit {0}) TraceFault)
    → name ≡ before 61 text → rest ≡ behind 61 text → node_named cfg name ≡ None → link_named cfg name ≡ Some l → AreFibres old new was now
    → said_then answer (said_in new.links.items (moves_in now)) ≡ said_also place (said_in old.links.items (moves_in was)) l (move_in rest)
    → outcome answer (said_by new (drifts_in now) (moves_in now)) ≡ change_said cfg place (said_by old (drifts_in was) (moves_in was)) text
fibres_taken cfg place old new was now l name rest text answer e1 e2 other named k e =
    ap (λ (drifts : List ℤ). outcome answer (said_by new drifts (moves_in now))) k.only.drifts
    ∙ move_taken cfg place old new (drifts_in was) (moves_in was) (moves_in now) l name rest text answer e1 e2 other named k.nodes e

pub on_ok : (answer : Result (Unit {0}) TraceFault) (P : Type 0) → ((u : Unit {0}) → answer ≡ Ok u → P) → OnOk answer P
on_ok (Ok u) P h = h u refl
on_ok (Err fault) P h = tt
