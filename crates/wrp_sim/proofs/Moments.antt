-- The next moment: the soonest of lists one after the other.
use Rattle.std.proofs.Common.{◌≡◌, ◌∙◌, refl, ap, ap₂, sym, subst, ℕ, suc, ◌+◌, ◌-◌, ◌<◌, ◌≤◌, Bool, true, false, if◌then◌else◌, filter, ℤ, pos, ◌+ℤ◌, ◌-ℤ◌, ◌^◌, unsigned_abs, List, [], ◌∷◌, ◌++◌, fold, map, drop, length, get_or, Option, arith}
use Rattle.std.proofs.Math.ListN.{drop_of_length-le}
use Rattle.std.proofs.Math.Seq.{drop-cons}
use Rattle.std.proofs.lemmas.Int.{ints}
use Rattle.std.proofs.lemmas.Option.{slice_get-get_or}
use Rattle.std.specs.List.{AllByRecursion}
use Rattle.wrp_network.specs.declared.configuration.NetCfg.{NetCfg}
use Rattle.wrp_course.specs.Setting.{Setting, from_on}
use Rattle.wrp_course.specs.WorldAt.{WorldAt}
use Rattle.wrp_world.proofs.AllTake.{all_at}
use Rattle.wrp_scene.specs.declared.scene.fault.Fault.{Fault}
use Rattle.wrp_sim.specs.Rules.{due_times, end_time, fault_time, moments, next_moment, sooner, tick_times}
use Rattle.wrp_scene.specs.Scenario.{IsFault, SceneAt}
use Rattle.wrp_sim.specs.SimAt.{SimAt}
use Rattle.wrp_sim.proofs.SimLists.{fold_append}

soonest_of_four : (g : ℤ → ℤ → ℤ) (best : ℤ) (xs ys zs : List ℤ) (e : ℤ) →
    fold g best (xs ++ (ys ++ (zs ++ (e ∷ [])))) ≡ g (fold g (fold g (fold g best xs) ys) zs) e
soonest_of_four g best xs ys zs e =
    fold_append g best xs (ys ++ (zs ++ (e ∷ [])))
    ∙ fold_append g (fold g best xs) ys (zs ++ (e ∷ []))
    ∙ fold_append g (fold g (fold g best xs) ys) zs (e ∷ [])

pub waited : (scene : SceneAt) (s : Setting) (w : WorldAt) (due : Option (ℕ × ℤ)) (at : SimAt) (now last ticks arrives fails end next r : ℤ) (faults : List Fault) →
    now ≡ w.time → last ≡ now +ℤ pos (2 ^ 62) → ticks ≡ fold (sooner now) last (tick_times s w at) → arrives ≡ fold (sooner now) ticks (due_times due) →
    fails ≡ fold (sooner now) arrives (map (fault_time s) faults) → faults ≡ at.faults → end ≡ end_time scene s → next ≡ sooner now fails end → r ≡ next -ℤ now →
    r ≡ next_moment w.time (moments scene s w due at) -ℤ w.time
waited scene s w due at now last ticks arrives fails end next r faults e l t a f q n x d =
    let whole : next ≡ next_moment now (moments scene s w due at) =
    x
    ∙ ap₂ (sooner now)
    (f ∙ ap₂ (λ b xs. fold (sooner now) b (map (fault_time s) xs)) (a ∙ ap (λ b. fold (sooner now) b (due_times due)) (t ∙ ap (λ b. fold (sooner now) b (tick_times s w at)) l)) q) n
    ∙ sym (soonest_of_four (sooner now) (now +ℤ pos (2 ^ 62)) (tick_times s w at) (due_times due) (map (fault_time s) at.faults) (end_time scene s)) in
    d ∙ ap (λ y. y -ℤ now) whole ∙ ap (λ (t : ℤ). next_moment t (moments scene s w due at) -ℤ t) e

-- the time of a fault that is left is small
pub small_fault : (cfg : NetCfg) (xs : List Fault) (k : ℕ) (d : Fault) → AllByRecursion (IsFault cfg) xs → k < length xs →
    unsigned_abs (get_or xs k d).at ≤ 655_360_000_000_000_000_000
small_fault cfg xs k d h less =
    let fault : IsFault cfg (get_or xs k d) = all_at (IsFault cfg) xs k (get_or xs k d) h (slice_get-get_or xs k d less) in
    omega (arith, ints, fault.at.0, fault.at.1)

-- one more of a list is tried
pub tried_one : (g : ℤ → ℤ → ℤ) (f : Fault → ℤ) (xs ys : List Fault) (k : ℕ) (d : Fault) (best next : ℤ) → xs ≡ ys → k < length xs →
    next ≡ g best (f (get_or xs k d)) → fold g next (map f (drop (k + 1) ys)) ≡ fold g best (map f (drop k ys))
tried_one g f xs ys k d best next same less e =
    let one : suc k ≡ k + 1 = omega arith in
    subst (λ (l : List Fault). fold g next (map f (drop (k + 1) l)) ≡ fold g best (map f (drop k l))) same
    (ap (λ (n : ℕ). fold g next (map f (drop n xs))) (sym one)
    ∙ ap (λ (b : ℤ). fold g b (map f (drop (suc k) xs))) e
    ∙ sym (ap (λ (l : List Fault). fold g best (map f l)) (drop-cons xs k d less)))

-- all of the list were tried
pub tried_all : (g : ℤ → ℤ → ℤ) (f : Fault → ℤ) (xs ys : List Fault) (k : ℕ) (best : ℤ) → xs ≡ ys → length xs ≤ k →
    best ≡ fold g best (map f (drop k ys))
tried_all g f xs ys k best same h =
    subst (λ (l : List Fault). best ≡ fold g best (map f (drop k l))) same
    (sym (ap (λ (l : List Fault). fold g best (map f l)) (drop_of_length-le xs h)))

-- a node's tick time is tried, if it is up
tried_tick : (g : ℤ → ℤ → ℤ) (f : ℕ → ℤ) (p : ℕ → Bool) (n : ℕ) (ns : List ℕ) (best : ℤ) →
    fold g (if p n then g best (f n) else best) (map f (filter p ns)) ≡ fold g best (map f (filter p (n ∷ ns)))
tried_tick g f p n ns best =
    elim (p n) as (λ (b : Bool). fold g (if b then g best (f n) else best) (map f (filter p ns)) ≡ fold g best (map f (if b then n ∷ filter p ns else filter p ns))) [
      | true ↦ refl
      | false ↦ refl
    ]

pub tried_node : (g : ℤ → ℤ → ℤ) (f : ℕ → ℤ) (p : ℕ → Bool) (count n : ℕ) (best next : ℤ) → n < count →
    next ≡ (if p n then g best (f n) else best) →
    fold g next (map f (filter p (from_on (count - (n + 1)) (n + 1)))) ≡ fold g best (map f (filter p (from_on (count - n) n)))
tried_node g f p count n best next less e =
    let more : count - n ≡ suc (count - (n + 1)) = omega arith in
    ap (λ (b : ℤ). fold g b (map f (filter p (from_on (count - (n + 1)) (n + 1))))) e
    ∙ tried_tick g f p n (from_on (count - (n + 1)) (n + 1)) best
    ∙ sym (ap (λ (k : ℕ). fold g best (map f (filter p (from_on k n)))) more)

pub tried_nodes : (g : ℤ → ℤ → ℤ) (f : ℕ → ℤ) (p : ℕ → Bool) (count n : ℕ) (best : ℤ) → count ≤ n → best ≡ fold g best (map f (filter p (from_on (count - n) n)))
tried_nodes g f p count n best h =
    let none : count - n ≡ 0 = omega arith in
    sym (ap (λ (k : ℕ). fold g best (map f (filter p (from_on k n)))) none)

pub untried_nodes : (g : ℤ → ℤ → ℤ) (f : ℕ → ℤ) (p : ℕ → Bool) (count : ℕ) (best : ℤ) →
    fold g best (map f (filter p (from_on (count - 0) 0))) ≡ fold g best (map f (filter p (from_on count 0)))
untried_nodes g f p count best =
    let all : count - 0 ≡ count = omega arith in
    ap (λ (k : ℕ). fold g best (map f (filter p (from_on k 0)))) all
