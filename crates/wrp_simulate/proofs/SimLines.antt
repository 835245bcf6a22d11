-- The lines of a simulation as they are written, and what its track lines show.
use Rattle.std.proofs.Common.{◌≡◌, ◌∙◌, refl, ap, sym, subst, append_assoc, append-nil, ℕ, ℤ, pos, zero, suc, ◌==◌, ◌+◌, ◌-◌, ◌<◌, ◌≤◌, true, false, if◌then◌else◌, Some, List, [], ◌∷◌, ◌++◌, length, map, flat_map, take, get_or, arith}
use Rattle.std.specs.Prelude.{filter, fold, max, min, slice_get, slice_set, unsigned_abs}
use Rattle.std.proofs.lemmas.Bool.Decides.{nat_tests}
use Rattle.std.proofs.lemmas.List.{map-append, take_all, take_more}
use Rattle.std.specs.List.{AllByRecursion}
use Rattle.wrp_network.specs.Network.{name_at, node_count}
use Rattle.wrp_network.specs.declared.configuration.NetCfg.{NetCfg}
use Rattle.wrp_bounds.specs.Bounds.{path_of}
use Rattle.wrp_config.specs.Accepted.{greatest}
use Rattle.wrp_node.specs.NodeAt.{NodeSetting, NodeAt, Taken, state_of}
use Rattle.wrp_node.specs.NodeRun.{node_after}
use Rattle.wrp_node.specs.StandsFor.{NodeOf, StandsFor as NodeStandsFor}
use Rattle.wrp_node.specs.declared.interface.Output.{Output}
use Rattle.wrp_base.specs.declared.link.ServoState.{ServoState}
use Rattle.wrp_base.proofs.Naturals.{eq_self}
use Rattle.wrp_lines.specs.Lines.{sum_line_of}
use Rattle.wrp_course.specs.declared.node_out.NodeOut.{NodeOut}
use Rattle.wrp_course.specs.Given.{NodeStepAt}
use Rattle.wrp_plant.specs.Plant.{Each}
use Rattle.wrp_course.specs.Setting.{Setting, node_setting_of, from_on}
use Rattle.wrp_world.specs.StandsFor.{StandsFor, WorldOf}
use Rattle.wrp_world.specs.Step.{step_seen}
use Rattle.wrp_course.specs.WorldAt.{WorldAt}
use Rattle.wrp_simulate.specs.declared.totals.Total.{Total}
use Rattle.wrp_simulate.specs.SimStands.{AreTotals, IsTotal, printed_by, sums_by}
use Rattle.wrp_simulate.specs.SimText.{is_track, offsets_in, outs_of, printed_lines, sum_by}

-- Lines

pub printed_text : {F : Type 0} (post : F → ℤ → ℤ → Type 0) (s : Setting) (w : WorldAt) (world : WorldOf F) (out : NodeOut) (node : NodeOf F) (ticks : ℕ)
    (off : ℤ) (name : List ℕ) (bound : ℤ) (lent : List Output) (text old : List ℕ)
    → StandsFor post s w world
    → slice_get world.nodes out.node ≡ Some node
    → ((fixed : NodeSetting) (inputs : List Taken) → NodeStandsFor post fixed node inputs → ticks ≡ (node_after fixed inputs).ticks)
    → ((s : Setting) (w : WorldAt) → StandsFor post s w world → off ≡ (w.clock out.node).off) → name ≡ name_at world.plant.net.cfg out.node
    → bound ≡ pos (path_of world.plant.net.cfg out.node)
    → lent ≡ out.outs.items → text ≡ old ++ flat_map (λ o. printed_by name ticks bound off o) lent → text ≡ old ++ printed_lines s w (step_seen out)
printed_text post s w world out node ticks off name bound lent text old stands is ticked offs named bounded lends wrote =
    let ticks_are : ticks ≡ (w.node out.node).ticks =
    ticked (node_setting_of s out.node) (w.inputs out.node) (stands.nodes out.node node is).stands
    ∙ ap (λ (n : NodeAt). n.ticks) (sym (stands.nodes out.node node is).at) in
    let name_is : name ≡ name_at s.cfg out.node = named ∙ ap (λ (cfg : NetCfg). name_at cfg out.node) stands.plant.cfg in
    let bound_is : bound ≡ pos (path_of s.cfg out.node) = bounded ∙ ap (λ (cfg : NetCfg). pos (path_of cfg out.node)) stands.plant.cfg in
    wrote ∙ (λ i. old ++ flat_map (λ o. printed_by (name_is i) (ticks_are i) (bound_is i) (offs s w stands i) o) (lends i))

pub sum_text : {F : Type 0} (post : F → ℤ → ℤ → Type 0) (s : Setting) (w : WorldAt) (world : WorldOf F) (n : ℕ) (node : NodeOf F) (ticks : ℕ)
    (state : ServoState) (name : List ℕ) (bound : ℤ) (total : Total) (offs : List ℤ) (text old : List ℕ)
    → StandsFor post s w world
    → slice_get world.nodes n ≡ Some node
    → ((fixed : NodeSetting) (inputs : List Taken) → NodeStandsFor post fixed node inputs → ticks ≡ (node_after fixed inputs).ticks)
    → ((fixed : NodeSetting) (inputs : List Taken) → NodeStandsFor post fixed node inputs → state ≡ state_of fixed (node_after fixed inputs))
    → name ≡ name_at world.plant.net.cfg n → bound ≡ pos (path_of world.plant.net.cfg n)
    → IsTotal offs total → text ≡ old ++ sum_line_of name ticks total.tracks total.worst bound state → text ≡ old ++ sum_by s w n offs
sum_text post s w world n node ticks state name bound total offs text old stands is ticked stated named bounded tells wrote =
    let at = (stands.nodes n node is).at in
    let ticks_are : ticks ≡ (w.node n).ticks =
    ticked (node_setting_of s n) (w.inputs n) (stands.nodes n node is).stands ∙ ap (λ (k : NodeAt). k.ticks) (sym at) in
    let state_is : state ≡ state_of (node_setting_of s n) (w.node n) =
    stated (node_setting_of s n) (w.inputs n) (stands.nodes n node is).stands ∙ ap (state_of (node_setting_of s n)) (sym at) in
    let name_is : name ≡ name_at s.cfg n = named ∙ ap (λ (cfg : NetCfg). name_at cfg n) stands.plant.cfg in
    let bound_is : bound ≡ pos (path_of s.cfg n) = bounded ∙ ap (λ (cfg : NetCfg). pos (path_of cfg n)) stands.plant.cfg in
    wrote ∙ (λ i. old ++ sum_line_of (name_is i) (ticks_are i) (tells.tracks i) (tells.worst i) (bound_is i) (state_is i))

-- The sums of the nodes from one on are still missing

abbrev sum_at : Setting → WorldAt → (ℕ → List ℤ) → ℕ → List ℕ
sum_at s w offs n = sum_by s w n (offs n)

unfoldable pub LacksSums : Setting → WorldAt → (ℕ → List ℤ) → ℕ → ℕ → List ℕ → List ℕ → Type 0
LacksSums s w offs count node text old = text ++ flat_map (sum_at s w offs) (from_on (count - node) node) ≡ old ++ flat_map (sum_at s w offs) (from_on count 0)

pub all_sums : (s : Setting) (w : WorldAt) (offs : ℕ → List ℤ) (count : ℕ) (old : List ℕ) → LacksSums s w offs count 0 old old
unfolding LacksSums
all_sums s w offs count old =
    let all : count - 0 ≡ count = omega arith in
    ap (λ (k : ℕ). old ++ flat_map (sum_at s w offs) (from_on k 0)) all

pub sum_less : (s : Setting) (w : WorldAt) (offs : ℕ → List ℤ) (count node : ℕ) (text now old : List ℕ) → node < count → LacksSums s w offs count node text old
    → now ≡ text ++ sum_by s w node (offs node)
    → LacksSums s w offs count (node + 1) now old
unfolding LacksSums
sum_less s w offs count node text now old is h more =
    let one : count - node ≡ suc (count - (node + 1)) = omega (arith, is) in
    ap (λ (t : List ℕ). t ++ flat_map (sum_at s w offs) (from_on (count - (node + 1)) (node + 1))) more
    ∙ append_assoc text (sum_at s w offs node) (flat_map (sum_at s w offs) (from_on (count - (node + 1)) (node + 1)))
    ∙ ap (λ (k : ℕ). text ++ flat_map (sum_at s w offs) (from_on k node)) (sym one) ∙ h

pub no_sum_less : (s : Setting) (w : WorldAt) (offs : ℕ → List ℤ) (count node : ℕ) (text old : List ℕ) → count ≤ node → count ≡ node_count s.cfg
    → LacksSums s w offs count node text old → text ≡ old ++ sums_by s w offs
unfolding LacksSums
no_sum_less s w offs count node text old is counted h =
    let none : count - node ≡ 0 = omega (arith, is) in
    sym (append-nil text) ∙ ap (λ (k : ℕ). text ++ flat_map (sum_at s w offs) (from_on k node)) (sym none) ∙ h
    ∙ ap (λ (k : ℕ). old ++ flat_map (sum_at s w offs) (from_on k 0)) counted

-- Totals

max_of : (a b c : ℕ) → max (max a b) c ≡ max a (max b c)
max_of a b c = omega arith

fold_max : (ns : List ℕ) (a b : ℕ) → fold max (max a b) ns ≡ max a (fold max b ns)
fold_max [] a b = refl
fold_max (n ∷ ns) a b = ap (λ (k : ℕ). fold max k ns) (max_of a b n) ∙ fold_max ns a (max b n)

max_first : (n : ℕ) → max 0 n ≡ max n 0
max_first n = omega arith

-- one more track line
pub total_more : (offs : List ℤ) (off : ℤ) (total next : Total) → IsTotal offs total → next.tracks ≡ min (total.tracks + 1) 18_446_744_073_709_551_615
    → next.worst ≡ max total.worst (unsigned_abs off) → IsTotal (off ∷ offs) next
total_more offs off total next tells tracks worst =
    let counted = tells.tracks in
    record {
      tracks = (let size : length (off ∷ offs) ≡ length offs + 1 = omega arith in omega (arith, tracks, counted, size));
      worst = worst ∙ ap (λ (k : ℕ). max k (unsigned_abs off)) tells.worst
          ∙ (let greater : greatest (map unsigned_abs (off ∷ offs)) ≡ max (unsigned_abs off) (greatest (map unsigned_abs offs)) =
          ap (λ (k : ℕ). fold max k (map unsigned_abs offs)) (max_first (unsigned_abs off)) ∙ fold_max (map unsigned_abs offs) (unsigned_abs off) 0 in
          omega (arith, greater));
    }

-- the same offset at each of some outputs
pub same_back : (off : ℤ) (xs : List Output) (ys : List ℤ) → map (λ (o : Output). off) xs ++ off ∷ ys ≡ off ∷ (map (λ (o : Output). off) xs ++ ys)
same_back off [] ys = refl
same_back off (x ∷ xs) ys = ap (λ (zs : List ℤ). off ∷ zs) (same_back off xs ys)

same_swap : (off : ℤ) (xs ys : List Output)
    → map (λ (o : Output). off) xs ++ map (λ (o : Output). off) ys ≡ map (λ (o : Output). off) ys ++ map (λ (o : Output). off) xs
same_swap off [] ys = sym (append-nil (map (λ (o : Output). off) ys))
same_swap off (x ∷ xs) ys = ap (λ (zs : List ℤ). off ∷ zs) (same_swap off xs ys) ∙ sym (same_back off ys (map (λ (o : Output). off) xs))

filter-append : (xs ys : List Output) → filter is_track (xs ++ ys) ≡ filter is_track xs ++ filter is_track ys
filter-append [] ys = refl
filter-append (x ∷ xs) ys =
    elim (is_track x) as (λ b. is_track x ≡ b → filter is_track ((x ∷ xs) ++ ys) ≡ filter is_track (x ∷ xs) ++ filter is_track ys) [
      | true ↦ λ is. simp is (ap (λ (zs : List Output). x ∷ zs) (filter-append xs ys))
      | false ↦ λ is. simp is (filter-append xs ys)
    ] refl

-- the total over the first so many of some outputs, and over one more
abbrev pub Counted : ℤ → List Output → ℕ → Total → Total → Type 0
Counted off outs i before now = (offs : List ℤ) → IsTotal offs before → IsTotal (map (λ (o : Output). off) (filter is_track (take i outs)) ++ offs) now

taken_more : (outs : List Output) (i : ℕ) (d : Output) → i < length outs → take (i + 1) outs ≡ take i outs ++ get_or outs i d ∷ []
taken_more outs i d is = take_more outs i d is

pub counted_more : (off : ℤ) (outs : List Output) (i : ℕ) (d : Output) (before now next : Total) → i < length outs → Counted off outs i before now
    → is_track (get_or outs i d) ≡ true
    → ((offs : List ℤ) → IsTotal offs now → IsTotal (off ∷ offs) next) → Counted off outs (i + 1) before next
counted_more off outs i d before now next is so_far track more offs tells =
    let last : filter is_track (get_or outs i d ∷ []) ≡ get_or outs i d ∷ [] = simp track refl in
    let all : filter is_track (take (i + 1) outs) ≡ filter is_track (take i outs) ++ get_or outs i d ∷ [] =
    ap (filter is_track) (taken_more outs i d is) ∙ filter-append (take i outs) (get_or outs i d ∷ [])
    ∙ ap (λ (l : List Output). filter is_track (take i outs) ++ l) last in
    let list : map (λ (o : Output). off) (filter is_track (take (i + 1) outs)) ++ offs ≡ off ∷ (map (λ (o : Output). off) (filter is_track (take i outs)) ++ offs) =
    ap (λ (l : List Output). map (λ (o : Output). off) l ++ offs) all
    ∙ ap (λ (l : List ℤ). l ++ offs) (map-append (λ (o : Output). off) (filter is_track (take i outs)) (get_or outs i d ∷ []))
    ∙ append_assoc (map (λ (o : Output). off) (filter is_track (take i outs))) (off ∷ []) offs
    ∙ same_back off (filter is_track (take i outs)) offs in
    subst (λ (l : List ℤ). IsTotal l next) (sym list) (more (map (λ (o : Output). off) (filter is_track (take i outs)) ++ offs) (so_far offs tells))

pub counted_same : (off : ℤ) (outs : List Output) (i : ℕ) (d : Output) (before now : Total) → i < length outs → Counted off outs i before now
    → is_track (get_or outs i d) ≡ false
    → Counted off outs (i + 1) before now
counted_same off outs i d before now is so_far track offs tells =
    let last : filter is_track (get_or outs i d ∷ []) ≡ [] = simp track refl in
    let all : filter is_track (take (i + 1) outs) ≡ filter is_track (take i outs) =
    ap (filter is_track) (taken_more outs i d is) ∙ filter-append (take i outs) (get_or outs i d ∷ [])
    ∙ ap (λ (l : List Output). filter is_track (take i outs) ++ l) last ∙ append-nil (filter is_track (take i outs)) in
    subst (λ (l : List Output). IsTotal (map (λ (o : Output). off) l ++ offs) now) (sym all) (so_far offs tells)

pub counted_all : (off : ℤ) (outs : List Output) (i : ℕ) (before now : Total) → length outs ≤ i → Counted off outs i before now
    → (offs : List ℤ) → IsTotal offs before → IsTotal (map (λ (o : Output). off) (filter is_track outs) ++ offs) now
counted_all off outs i before now is so_far offs tells =
    subst (λ (l : List Output). IsTotal (map (λ (o : Output). off) (filter is_track l) ++ offs) now) (take_all i outs is) (so_far offs tells)

-- The totals of all nodes

-- what a step put out, if it is a step of this node
abbrev own_outs : ℕ → NodeStepAt → List Output
own_outs n step = if step.node == n then step.outs else []

outs_snoc : (n : ℕ) (steps : List NodeStepAt) (st : NodeStepAt) → outs_of n (steps ++ st ∷ []) ≡ outs_of n steps ++ own_outs n st
outs_snoc n [] st = append-nil (own_outs n st)
outs_snoc n (x ∷ steps) st =
    ap (λ (l : List Output). own_outs n x ++ l) (outs_snoc n steps st) ∙ sym (append_assoc (own_outs n x) (outs_of n steps) (own_outs n st))

offsets_snoc : (w : WorldAt) (n : ℕ) (steps : List NodeStepAt) (st : NodeStepAt) →
    offsets_in w n (steps ++ st ∷ []) ≡ map (λ (o : Output). (w.clock n).off) (filter is_track (own_outs n st)) ++ offsets_in w n steps
offsets_snoc w n steps st =
    ap (λ (l : List Output). map (λ (o : Output). (w.clock n).off) (filter is_track l)) (outs_snoc n steps st)
    ∙ ap (map (λ (o : Output). (w.clock n).off)) (filter-append (outs_of n steps) (own_outs n st))
    ∙ map-append (λ (o : Output). (w.clock n).off) (filter is_track (outs_of n steps)) (filter is_track (own_outs n st))
    ∙ same_swap (w.clock n).off (filter is_track (outs_of n steps)) (filter is_track (own_outs n st))

-- a list in which one place is written again
each_set : {A : Type 0} (P Q : ℕ → A → Type 0) (xs : List A) (i : ℕ) (v : A) → ((n : ℕ) (x : A) → P n x → (n ≡ i → ⊥) → Q n x) → Q i v → Each P xs
    → Each Q (slice_set xs i v)
each_set P Q [] i v keep here all n x is = absurd (cc)
each_set P Q (y ∷ ys) zero v keep here all zero x is = let same : v ≡ x = cc in subst (Q 0) same here
each_set P Q (y ∷ ys) zero v keep here all (suc n) x is = keep (suc n) x (all (suc n) x is) (λ e. omega (arith, e))
each_set P Q (y ∷ ys) (suc i) v keep here all zero x is = keep 0 x (all 0 x is) (λ e. omega (arith, e))
each_set P Q (y ∷ ys) (suc i) v keep here all (suc n) x is =
    each_set (λ m. P (suc m)) (λ m. Q (suc m)) ys i v (λ m z p other. keep (suc m) z p (λ e. other (omega (arith, e)))) here (λ m z e. all (suc m) z e) n x is

-- the totals with what the first so many steps add
abbrev pub AddsTo : WorldAt → List NodeOut → ℕ → List Total → List Total → Type 0
AddsTo w outs i before now = (offs : ℕ → List ℤ) → AreTotals offs before → AreTotals (λ n. offsets_in w n (map step_seen (take i outs)) ++ offs n) now

pub adds_none : (w : WorldAt) (outs : List NodeOut) (totals : List Total) → AddsTo w outs 0 totals totals
adds_none w outs totals offs all = all

other_node : (m n : ℕ) → (n ≡ m → ⊥) → (m == n) ≡ false
other_node m n other =
    elim (m == n) as (λ b. (m == n) ≡ b → b ≡ false) [
      | true ↦ λ is. absurd (other (grind (arith, nat_tests, is)))
      | false ↦ λ is. refl
    ] refl

seen_more : (outs : List NodeOut) (i : ℕ) (d : NodeOut) → i < length outs
    → map step_seen (take (i + 1) outs) ≡ map step_seen (take i outs) ++ step_seen (get_or outs i d) ∷ []
seen_more outs i d is = ap (map step_seen) (take_more outs i d is) ∙ map-append step_seen (take i outs) (get_or outs i d ∷ [])

pub adds_more : (w : WorldAt) (outs : List NodeOut) (i : ℕ) (d : NodeOut) (before now : List Total) (old total : Total) → i < length outs
    → AddsTo w outs i before now
    → slice_get now (get_or outs i d).node ≡ Some old
    → ((offs : List ℤ) → IsTotal offs old → IsTotal (map (λ (o : Output). (w.clock (get_or outs i d).node).off) (filter is_track (get_or outs i d).outs.items) ++ offs) total)
    → AddsTo w outs (i + 1) before (slice_set now (get_or outs i d).node total)
adds_more w outs i d before now old total is so_far found more offs all =
    let out : NodeOut = get_or outs i d in
    let steps : List NodeStepAt = map step_seen (take i outs) in
    let told : (n : ℕ) → offsets_in w n (map step_seen (take (i + 1) outs)) ≡ map (λ (o : Output). (w.clock n).off) (filter is_track (own_outs n (step_seen out))) ++ offsets_in w n steps =
    λ n. ap (offsets_in w n) (seen_more outs i d is) ∙ offsets_snoc w n steps (step_seen out) in
    let own : own_outs out.node (step_seen out) ≡ out.outs.items = (let same = eq_self out.node in simp same refl) in
    each_set (λ n. IsTotal (offsets_in w n steps ++ offs n)) (λ n. IsTotal (offsets_in w n (map step_seen (take (i + 1) outs)) ++ offs n)) now out.node total
    (λ n x p other.
    let none : own_outs n (step_seen out) ≡ [] = (let apart = other_node out.node n other in simp apart refl) in
    subst (λ (l : List ℤ). IsTotal (l ++ offs n) x) (sym (told n ∙ ap (λ (l : List Output). map (λ (o : Output). (w.clock n).off) (filter is_track l) ++ offsets_in w n steps) none)) p)
    (subst (λ (l : List ℤ). IsTotal l total)
    (sym (append_assoc (map (λ (o : Output). (w.clock out.node).off) (filter is_track out.outs.items)) (offsets_in w out.node steps) (offs out.node))
    ∙ ap (λ (l : List ℤ). l ++ offs out.node)
    (sym (told out.node ∙ ap (λ (l : List Output). map (λ (o : Output). (w.clock out.node).off) (filter is_track l) ++ offsets_in w out.node steps) own)))
    (more (offsets_in w out.node steps ++ offs out.node) (so_far offs all out.node old found)))
    (so_far offs all)

pub adds_all : (w : WorldAt) (outs : List NodeOut) (i : ℕ) (before now : List Total) → length outs ≤ i → AddsTo w outs i before now
    → (offs : ℕ → List ℤ) → AreTotals offs before → AreTotals (λ n. offsets_in w n (map step_seen outs) ++ offs n) now
adds_all w outs i before now is so_far offs all =
    subst (λ (l : List NodeOut). AreTotals (λ n. offsets_in w n (map step_seen l) ++ offs n) now) (take_all i outs is) (so_far offs all)

-- the same by what the code holds of the step
pub adds_at : (w : WorldAt) (outs : List NodeOut) (i : ℕ) (out : NodeOut) (k : ℕ) (off : ℤ) (lent : List Output) (before now : List Total) (old total : Total)
    → i < length outs → AddsTo w outs i before now
    → out ≡ get_or outs i out → k ≡ out.node → off ≡ (w.clock out.node).off → lent ≡ out.outs.items → slice_get now k ≡ Some old
    → ((offs : List ℤ) → IsTotal offs old → IsTotal (map (λ (o : Output). off) (filter is_track lent) ++ offs) total)
    → AddsTo w outs (i + 1) before (slice_set now k total)
adds_at w outs i out k off lent before now old total is so_far got place true_off lends found more =
    let here : k ≡ (get_or outs i out).node = place ∙ ap (λ (o : NodeOut). o.node) got in
    let own : off ≡ (w.clock (get_or outs i out).node).off = true_off ∙ ap (λ (o : NodeOut). (w.clock o.node).off) got in
    let all : lent ≡ (get_or outs i out).outs.items = lends ∙ ap (λ (o : NodeOut). o.outs.items) got in
    subst (λ (n : ℕ). AddsTo w outs (i + 1) before (slice_set now n total)) (sym here)
    (adds_more w outs i out before now old total is so_far (subst (λ (n : ℕ). slice_get now n ≡ Some old) here found)
    (λ offs tells. subst (λ (l : List ℤ). IsTotal l total) (λ j. map (λ (o : Output). own j) (filter is_track (all j)) ++ offs) (more offs tells)))

-- each of these steps belongs to a node
pub node_within : (count : ℕ) (outs : List NodeOut) (i : ℕ) (out : NodeOut) → AllByRecursion (λ (o : NodeOut). o.node < count) outs → i < length outs
    → out ≡ get_or outs i out → out.node < count
node_within count [] i out all is got = absurd (omega (arith, is))
node_within count (x ∷ xs) zero out all is got = subst (λ (o : NodeOut). o.node < count) (sym got) all.0
node_within count (x ∷ xs) (suc i) out all is got = node_within count xs i out all.1 (omega (arith, is)) got
