-- Lists of checks, numbers of nodes, and the checks of ticks and of samples, which hold.
use Rattle.std.proofs.Common.{◌≡◌, refl, ap, sym, subst, ℕ, zero, suc, ◌+◌, ◌≤◌, ◌&&◌, ℤ, pos, ◌+ℤ◌, ◌-ℤ◌, ◌≤ℤ◌, not, Bool, true, false, List, [], ◌∷◌, ◌++◌, map, flat_map, Option, None, Some, slice_get, unwrap_or, length, arith}
use Rattle.std.proofs.lemmas.Int.{ints}
use Rattle.std.specs.Int.Signed.{le_z}
use Rattle.std.specs.List.{AllByRecursion}
use Rattle.std.specs.Option.{option_map_or}
use Rattle.std.proofs.lemmas.Bool.{and_right}
use Rattle.wrp_network.specs.declared.network.NodeCfg.{NodeCfg}
use Rattle.wrp_base.specs.declared.time.Clock.{Clock}
use Rattle.wrp_phase.specs.BeatPattern.{true_step}
use Rattle.wrp_course.specs.declared.clocks.ClockState.{ClockState}
use Rattle.wrp_course.specs.Checks.{AllHold, Check, Holds, only_where, needs}
use Rattle.wrp_course.specs.Premises.{beat_by, bit_check, early_by, late_by}
use Rattle.wrp_course.specs.Setting.{Setting, from_on, of_node}
use Rattle.wrp_sim.specs.Numbers.{base_before, bits_behind}
use Rattle.wrp_sim.proofs.KeepsBeat.{bit_right, steps_are, true_step_small}

-- Lists of checks

pub not_over : (a b : ℤ) → a ≤ℤ b → not (le_z a b) ≡ false
not_over a b h = grind (arith, ints)

pub not_more : (a b : ℕ) → a ≤ b → not (le_z (pos a) (pos b)) ≡ false
not_more a b h = grind (arith, ints)

pub both_hold : (xs ys : List Check) → AllHold xs → AllHold ys → AllHold (xs ++ ys)
both_hold [] ys h k = k
both_hold (x ∷ xs) ys h k = (h.0, both_hold xs ys h.1 k)

pub nowhere : (cs : List Check) → AllHold (map (only_where false) cs)
nowhere [] = tt
nowhere (c ∷ cs) = (refl, nowhere cs)

pub where_hold : (b : Bool) (cs : List Check) → AllHold cs → AllHold (map (only_where b) cs)
where_hold b [] h = tt
where_hold b (c ∷ cs) h = (and_right b c.fails h.0, where_hold b cs h.1)

pub flat_hold : (f : ℕ → List Check) (ks : List ℕ) → ((k : ℕ) → AllHold (f k)) → AllHold (flat_map f ks)
flat_hold f [] h = tt
flat_hold f (k ∷ ks) h = both_hold (f k) (flat_map f ks) (h k) (flat_hold f ks h)

pub stands_holds : (b : Bool) → b ≡ true → Holds (needs b)
stands_holds b e = ap not e

-- Lists of numbers

pub listed_at : {A : Type 0} (P : A → Type 0) (xs : List A) (k : ℕ) (other : A) → P other → AllByRecursion P xs → P (unwrap_or (slice_get xs k) other)
listed_at P [] k other h all = h
listed_at P (x ∷ xs) zero other h all = all.0
listed_at P (x ∷ xs) (suc k) other h all = listed_at P xs k other h all.1

pub all_mapped : {A : Type 0} (P : A → Type 0) (f : ℕ → A) (ks : List ℕ) → ((k : ℕ) → P (f k)) → AllByRecursion P (map f ks)
all_mapped P f [] h = tt
all_mapped P f (k ∷ ks) h = (h k, all_mapped P f ks h)

pub mapped_length : {A : Type 0} (f : ℕ → A) (count first : ℕ) → length (map f (from_on count first)) ≡ count
mapped_length f zero first = refl
mapped_length f (suc count) first = let h : length (map f (from_on count (first + 1))) ≡ count = mapped_length f count (first + 1) in omega (arith, h)

-- Numbers of nodes

node_within : (P : ℕ → Type 0) (number : NodeCfg → ℕ) (o : Option NodeCfg) → P 0 → ((node : NodeCfg) → o ≡ Some node → P (number node)) → P (option_map_or number o 0)
node_within P number None h k = h
node_within P number (Some node) h k = k node refl

-- a node's number is in its range, or 0 if there is no such node
pub of_node_within : (P : ℕ → Type 0) (number : NodeCfg → ℕ) (s : Setting) (n : ℕ) → P 0 → ((node : NodeCfg) → slice_get s.cfg.nodes.items n ≡ Some node → P (number node)) → P (of_node number s n)
of_node_within P number s n h k = node_within P number (slice_get s.cfg.nodes.items n) h k

-- Ticks

after_least : (now past : ℤ) (least : ℕ) → (past +ℤ pos least) ≤ℤ now → pos least ≤ℤ (now -ℤ past)
after_least now past least h = omega (arith, ints, h)

pub not_early : (least : ℕ) (now : ℤ) (clock : ClockState) → (clock.ticked +ℤ pos least) ≤ℤ now → Holds (early_by (pos least) now clock)
not_early least now clock h = and_right clock.up (not (le_z (pos least) (now -ℤ clock.ticked))) (not_over (pos least) (now -ℤ clock.ticked) (after_least now clock.ticked least h))

before_most : (after past : ℤ) (most : ℕ) → after ≤ℤ (past +ℤ pos most) → (after -ℤ past) ≤ℤ pos most
before_most after past most h = omega (arith, ints, h)

and_where : (b c : Bool) → (b ≡ true → c ≡ false) → (b && c) ≡ false
and_where true c h = h refl
and_where false c h = refl

pub not_late : (most : ℕ) (after : ℤ) (clock : ClockState) → (clock.up ≡ true → after ≤ℤ (clock.ticked +ℤ pos most)) → Holds (late_by (pos most) after clock)
not_late most after clock h =
    and_where clock.up (not (le_z (after -ℤ clock.ticked) (pos most))) (λ up. not_over (after -ℤ clock.ticked) (pos most) (before_most after clock.ticked most (h up)))

-- Samples

beats_hold : (beat blanks : ℕ) (count first : ℕ) → first + count ≤ 64 → blanks ≤ 64 → 32 ≤ blanks + beat → blanks ≤ 32 + beat → AllHold (map (bit_check (pos 32) beat (bits_behind blanks)) (from_on count first))
beats_hold beat blanks zero first h fits least most = tt
beats_hold beat blanks (suc count) first h fits least most =
    (bit_right beat blanks first (omega (arith, h)) fits least most, beats_hold beat blanks count (first + 1) (omega (arith, h)) fits least most)

pub beat_holds : (clock : Clock) (beat blanks : ℕ) (phase : ℤ) → blanks ≤ 64 → 32 ≤ blanks + beat → blanks ≤ 32 + beat →
    AllHold (beat_by clock beat (base_before (true_step clock phase)) (bits_behind blanks) phase)
beat_holds clock beat blanks phase fits least most =
    subst (λ (steps : ℤ). AllHold (map (bit_check steps beat (bits_behind blanks)) (from_on 64 0)))
    (sym (steps_are (true_step clock phase) (base_before (true_step clock phase)) (true_step_small clock phase) refl))
    (beats_hold beat blanks 64 0 (omega arith) fits least most)
