-- Ticks, and time that passes to the next moment.
use Rattle.std.proofs.Common.{◌≡◌, ◌⊎◌, inl, inr, refl, sym, subst, ℕ, ◌+◌, ◌==◌, ◌&&◌, ◌≤◌, ◌<◌, ◌^◌, ℤ, pos, ◌+ℤ◌, ◌-ℤ◌, ◌≤ℤ◌, ◌<ℤ◌, unsigned_abs, Bool, true, false, cond, fold, List, [], ◌∷◌, ◌++◌, map, flat_map, Option, None, Some, Result, arith}
use Rattle.std.proofs.lemmas.Bool.{cases_lt, and_parts, cases_Bool}
use Rattle.std.proofs.lemmas.Int.{ints}
use Rattle.std.specs.List.{AllByRecursion, filter, find}
use Rattle.std.specs.Option.{option_map}
use Rattle.std.specs.Ordering.{int_eq}
use Rattle.std.proofs.lemmas.Option.{none-some, same_Some}
use Rattle.wrp_base.specs.declared.message.PtpMsg.{PtpMsg}
use Rattle.wrp_network.specs.Network.{node_count}
use Rattle.wrp_base.proofs.Booleans.{not_both}
use Rattle.wrp_base.proofs.Integers.{int_le_trans}
use Rattle.wrp_base.proofs.Naturals.{nat_le_self}
use Rattle.wrp_bounds.specs.Times.{longest_tick, shortest_tick}
use Rattle.wrp_frame.specs.declared.fault.FrameFault.{FrameFault}
use Rattle.wrp_config.proofs.Lists.{none_at}
use Rattle.wrp_course.specs.declared.event.Event.{Event}
use Rattle.wrp_course.specs.declared.event.Event.TheVariants.{Tick}
use Rattle.wrp_course.specs.Checks.{Holds}
use Rattle.wrp_course.specs.EventAt.{IsChange, IsEventOf, IsMove, link_count}
use Rattle.wrp_course.specs.Moved.{moved}
use Rattle.wrp_course.specs.Premises.{Accepts, fibre_kept, fibre_rate, rate_kept, tick_late}
use Rattle.wrp_course.specs.Setting.{Setting, links_of, nodes_of}
use Rattle.wrp_course.specs.WorldAt.{WorldAt}
use Rattle.wrp_sim.specs.Rules.{comes, drawn_tick, drift_over, due_times, end_time, fault_time, is_over, moments, next_moment, pass_of, passes, sooner, tick_of, tick_times, ticks, ticks_now, with_tick}
use Rattle.wrp_scene.specs.Scenario.{SceneAt}
use Rattle.wrp_sim.specs.SimAt.{SimAt}
use Rattle.wrp_sim.proofs.KeepsChecks.{all_mapped, both_hold, flat_hold, mapped_length, not_early, not_late, stands_holds}
use Rattle.wrp_sim.proofs.KeepsDrifts.{drift_small, fibres_hold, rate_holds, still_fibres}
use Rattle.wrp_sim.proofs.KeepsFibres.{fibre_holds}
use Rattle.wrp_sim.proofs.KeepsGood.{Good, GoodIf, Moment, all_numbers, differ_told, each_number, found, good, if_good, map_good, same_told, tick_is_drawn, tick_where}
use Rattle.wrp_sim.proofs.KeepsMoves.{moved_first, moved_scene}
use Rattle.wrp_sim.proofs.KeepsState.{Keeps, TicksBy}

-- Rule 7: ticks

at_tick : (a t now : ℤ) → a ≤ℤ t → t ≡ now → a ≤ℤ now
at_tick a t now h e = omega (arith, ints, h, e)

tick_holds : (scene : SceneAt) (s : Setting) (w : WorldAt) (at : SimAt) (n : ℕ) → Keeps scene s w at → (w.clock n).up ≡ true → at.tick_at n ≡ w.time → (says : Result PtpMsg FrameFault) → Accepts s w says (Tick n)
tick_holds scene s w at n h up now says =
    let it : TicksBy (shortest_tick s.cfg) (longest_tick s.cfg) (w.clock n).ticked w.time (at.tick_at n) = h.ticks n up in
    (not_early (shortest_tick s.cfg) w.time (w.clock n) (at_tick ((w.clock n).ticked +ℤ pos (shortest_tick s.cfg)) (at.tick_at n) w.time it.least_after now), (stands_holds (w.clock n).up up, tt))

tick_good : (scene : SceneAt) (s : Setting) (w : WorldAt) (at : SimAt) (n : ℕ) → Moment scene s w → Keeps scene s w at → (0 < at.arrived.times → ⊥) → n < node_count s.cfg → (w.clock n).up ≡ true → at.tick_at n ≡ w.time →
    Good scene s w (tick_of s w at n)
tick_good scene s w at n m h none below up now =
    let new : SimAt = record (with_tick s w.time n at) { ticked = Some n } in
    good scene s w (Tick n) at new h below (tick_holds scene s w at n h up now) (λ d. absurd d)
    (record {
      swaps = tt;
      fibres = tt;
      young = tt;
      ticks = λ j u.
          tick_where (j == n) (shortest_tick s.cfg) (longest_tick s.cfg) (w.clock j).ticked w.time (drawn_tick s w.time at.state) (at.tick_at j) (tick_is_drawn s m.net w.time at.state) (λ b. h.ticks j u);
      begun = nat_le_self at.begun;
      most = h.waits.most;
      turn = tt;
      faults = h.faults;
      ticked = λ j e. subst (λ k. k < node_count s.cfg) (same_Some n j e) below;
      handed = λ says y t. absurd (none t);
    })

pub ticks_good : (scene : SceneAt) (s : Setting) (w : WorldAt) (at : SimAt) → Moment scene s w → Keeps scene s w at → (0 < at.arrived.times → ⊥) → GoodIf scene s w (ticks s w at)
ticks_good scene s w at m h none =
    map_good scene s w (tick_of s w at) (find (ticks_now w at) (nodes_of s))
    (λ n e.
    let it : (ticks_now w at n ≡ true) × (n < node_count s.cfg) = found (λ k. k < node_count s.cfg) (ticks_now w at) (nodes_of s) n (all_numbers s (λ k. k < node_count s.cfg) (λ k b. b)) e in
    let both : ((w.clock n).up ≡ true) × (int_eq (at.tick_at n) w.time ≡ true) = and_parts (w.clock n).up (int_eq (at.tick_at n) w.time) it.0 in
    tick_good scene s w at n m h none it.1 both.0 (same_told (at.tick_at n) w.time both.1))

-- if no node ticks now, each that is up ticks later
no_map : {A B : Type 0} (f : A → B) (o : Option A) → option_map f o ≡ None → o ≡ None
no_map f None e = refl
no_map f (Some x) e = absurd (none-some (f x) (sym e))

same_or : (now t : ℤ) → now ≤ℤ t → (t ≡ now) ⊎ (now <ℤ t)
same_or now t h = elim (cases_Bool (int_eq t now)) [
  | inl e ↦ inl (same_told t now e)
  | inr e ↦ inr (let out : t ≡ now → ⊥ = differ_told t now e in grind (arith, ints, h, out))
]

later_than : (now t : ℤ) → now ≤ℤ t → (t ≡ now → ⊥) → now <ℤ t
later_than now t h out = elim (same_or now t h) [ inl e ↦ absurd (out e) | inr l ↦ l ]

not_now : (up now : Bool) → up ≡ true → (up && now) ≡ false → now ≡ false
not_now true now e h = h
not_now false now e h = absurd (not_both false e refl)

pub ticks_later : (scene : SceneAt) (s : Setting) (w : WorldAt) (at : SimAt) → Keeps scene s w at → ticks s w at ≡ None → (n : ℕ) → n < node_count s.cfg → (w.clock n).up ≡ true → w.time <ℤ at.tick_at n
ticks_later scene s w at h e n below up =
    let all : AllByRecursion (λ k. ticks_now w at k ≡ false) (nodes_of s) = none_at (ticks_now w at) (nodes_of s) (no_map (tick_of s w at) (find (ticks_now w at) (nodes_of s)) e) in
    let here : int_eq (at.tick_at n) w.time ≡ false = not_now (w.clock n).up (int_eq (at.tick_at n) w.time) up (each_number s (λ k. ticks_now w at k ≡ false) all n below) in
    later_than w.time (at.tick_at n) (h.ticks n up).later (differ_told (at.tick_at n) w.time here)

-- Rule 9: the next moment

begun_by : (b l c n : ℕ) → b ≤ l + c → c ≤ n → b ≤ l + n
begun_by b l c n h k = omega (arith, h, k)

sooner_than : (now best moment : ℤ) → now <ℤ best → now <ℤ moment → sooner now best moment ≤ℤ moment
sooner_than now best moment h k = grind (arith, ints)

-- the sooner of two is no later than either, and after now
record IsSooner (now best moment got : ℤ) : Type 0 where
  after : now <ℤ got
  no_later : got ≤ℤ best
  than_it : now <ℤ moment → got ≤ℤ moment

sooner_is : (now best moment : ℤ) → now <ℤ best → IsSooner now best moment (sooner now best moment)
sooner_is now best moment h = record { after = grind (arith, ints); no_later = grind (arith, ints); than_it = λ k. sooner_than now best moment h k }

fold_after : (now best : ℤ) (times : List ℤ) → now <ℤ best → now <ℤ fold (sooner now) best times
fold_after now best [] h = h
fold_after now best (t ∷ times) h = fold_after now (sooner now best t) times (sooner_is now best t h).after

pub fold_most : (now best : ℤ) (times : List ℤ) → now <ℤ best → fold (sooner now) best times ≤ℤ best
fold_most now best [] h = omega (arith, ints)
fold_most now best (t ∷ times) h =
    let it : IsSooner now best t (sooner now best t) = sooner_is now best t h in
    int_le_trans (fold (sooner now) (sooner now best t) times) (sooner now best t) best (fold_most now (sooner now best t) times it.after) it.no_later

pub fold_least : (now best : ℤ) (times : List ℤ) → now <ℤ best → AllByRecursion (λ t. now <ℤ t → fold (sooner now) best times ≤ℤ t) times
fold_least now best [] h = tt
fold_least now best (t ∷ times) h =
    let it : IsSooner now best t (sooner now best t) = sooner_is now best t h in (
      λ k. int_le_trans (fold (sooner now) (sooner now best t) times) (sooner now best t) t (fold_most now (sooner now best t) times it.after) (it.than_it k),
      fold_least now (sooner now best t) times it.after,
    )

far_on : (now : ℤ) → now <ℤ (now +ℤ pos (2 ^ 62))
far_on now = omega (arith, ints)

all_first : {A : Type 0} (P : A → Type 0) (xs ys : List A) → AllByRecursion P (xs ++ ys) → AllByRecursion P xs
all_first P [] ys h = tt
all_first P (x ∷ xs) ys h = (h.0, all_first P xs ys h.1)

-- what holds for each tick time of the nodes that are up
up_case : (P : ℤ → Type 0) (tick : ℕ → ℤ) (b : Bool) (k : ℕ) (rest : List ℕ) → AllByRecursion P (map tick (cond b (k ∷ rest) rest)) → (b ≡ true → P (tick k)) × AllByRecursion P (map tick rest)
up_case P tick true k rest h = (λ e. h.0, h.1)
up_case P tick false k rest h = (λ e. absurd (not_both false e refl), h)

each_tick : (P : ℤ → Type 0) (tick : ℕ → ℤ) (up : ℕ → Bool) (ks : List ℕ) → AllByRecursion P (map tick (filter up ks)) → AllByRecursion (λ k. up k ≡ true → P (tick k)) ks
each_tick P tick up [] h = tt
each_tick P tick up (k ∷ ks) h =
    let both : (up k ≡ true → P (tick k)) × AllByRecursion P (map tick (filter up ks)) = up_case P tick (up k) k (filter up ks) h in
    (both.0, each_tick P tick up ks both.1)

pub record IsMoment (s : Setting) (w : WorldAt) (at : SimAt) (next : ℤ) : Type 0 where
  pub after : w.time <ℤ next
  pub near : next ≤ℤ (w.time +ℤ pos (2 ^ 62))
  pub ticks : (n : ℕ) → n < node_count s.cfg → (w.clock n).up ≡ true → w.time <ℤ at.tick_at n → next ≤ℤ at.tick_at n

next_is : (scene : SceneAt) (s : Setting) (w : WorldAt) (due : Option (ℕ × ℤ)) (at : SimAt) → IsMoment s w at (next_moment w.time (moments scene s w due at))
next_is scene s w due at =
    let times : List ℤ = moments scene s w due at in
    let best : ℤ = w.time +ℤ pos (2 ^ 62) in
    let P : ℤ → Type 0 = λ t. w.time <ℤ t → next_moment w.time times ≤ℤ t in
    let all : AllByRecursion P (tick_times s w at) =
    all_first P (tick_times s w at) (due_times due ++ (map (fault_time s) at.faults ++ (end_time scene s ∷ []))) (fold_least w.time best times (far_on w.time)) in
    record {
      after = fold_after w.time best times (far_on w.time);
      near = fold_most w.time best times (far_on w.time);
      ticks = each_number s (λ n. (w.clock n).up ≡ true → P (at.tick_at n)) (each_tick P at.tick_at (λ n. (w.clock n).up) (nodes_of s) all);
    }

-- the time that passes
span_of : (now next : ℤ) → now +ℤ (next -ℤ now) ≡ next
span_of now next = omega (arith, ints)

span_in : (now next : ℤ) → now <ℤ next → next ≤ℤ (now +ℤ pos (2 ^ 62)) → (pos 1 ≤ℤ (next -ℤ now)) × ((next -ℤ now) ≤ℤ pos 9_223_372_036_854_775_807)
span_in now next h k = (omega (arith, ints, h), omega (arith, ints, k))

span_small : (dt : ℤ) → pos 1 ≤ℤ dt → dt ≤ℤ pos 9_223_372_036_854_775_807 → unsigned_abs dt ≤ 9_223_372_036_854_775_807
span_small dt h k = grind (arith, ints)

-- no node that is up ticks before the time to which it passes
up_below : (scene : SceneAt) (s : Setting) (w : WorldAt) (at : SimAt) (n : ℕ) → Keeps scene s w at → (w.clock n).up ≡ true → n < node_count s.cfg
up_below scene s w at n h up = elim (cases_lt n (node_count s.cfg)) [
  | inl below ↦ below
  | inr above ↦ absurd (not_both (w.clock n).up up (h.waits.nodes n (begun_by at.begun (link_count s.cfg) (node_count s.cfg) n h.waits.most above)))
]

ticks_by_then : (scene : SceneAt) (s : Setting) (w : WorldAt) (at : SimAt) (next : ℤ) (n : ℕ) → Keeps scene s w at → ticks s w at ≡ None → IsMoment s w at next → (w.clock n).up ≡ true → (w.time +ℤ (next -ℤ w.time)) ≤ℤ at.tick_at n
ticks_by_then scene s w at next n h none it up =
    let below : n < node_count s.cfg = up_below scene s w at n h up in
    subst (λ t. t ≤ℤ at.tick_at n) (sym (span_of w.time next)) (it.ticks n below up (ticks_later scene s w at h none n below up))

moved_tick : (least most : ℕ) (last now after tick : ℤ) → TicksBy least most last now tick → after ≤ℤ tick → TicksBy least most last after tick
moved_tick least most last now after tick h k = record { least_after = h.least_after; most_after = h.most_after; later = k }

pass_holds : (scene : SceneAt) (s : Setting) (w : WorldAt) (at : SimAt) (next : ℤ) → Moment scene s w → Keeps scene s w at → ticks s w at ≡ None → IsMoment s w at next → (says : Result PtpMsg FrameFault) →
    Accepts s w says (pass_of scene s w (next -ℤ w.time))
pass_holds scene s w at next m h none it says =
    let dt : ℤ = next -ℤ w.time in
    let e : Event = pass_of scene s w dt in
    let v : WorldAt = moved s w e in
    let drifts : List ℤ = map (drift_over scene s w dt) (nodes_of s) in
    let moves : List (ℤ × ℤ) = map (λ k. (pos 0, pos 0)) (links_of s) in
    let late : (n : ℕ) → Holds (tick_late s w dt n) =
    λ n. not_late (longest_tick s.cfg) (w.time +ℤ dt) (w.clock n)
    (λ up. int_le_trans (w.time +ℤ dt) (at.tick_at n) ((w.clock n).ticked +ℤ pos (longest_tick s.cfg)) (ticks_by_then scene s w at next n h none it up) (h.ticks n up).most_after) in
    both_hold (map (tick_late s w dt) (nodes_of s)) (flat_map (rate_kept s w dt drifts) (nodes_of s) ++ (flat_map (fibre_rate dt moves) (links_of s) ++ flat_map (fibre_kept s v) (links_of s)))
    (all_mapped Holds (tick_late s w dt) (nodes_of s) late)
    (both_hold (flat_map (rate_kept s w dt drifts) (nodes_of s)) (flat_map (fibre_rate dt moves) (links_of s) ++ flat_map (fibre_kept s v) (links_of s))
    (flat_hold (rate_kept s w dt drifts) (nodes_of s) (rate_holds scene s w dt))
    (both_hold (flat_map (fibre_rate dt moves) (links_of s)) (flat_map (fibre_kept s v) (links_of s)) (flat_hold (fibre_rate dt moves) (links_of s) (fibres_hold s dt))
    (flat_hold (fibre_kept s v) (links_of s) (fibre_holds scene s m.net m.fits v (moved_first s w e tt h.modules) (moved_scene scene s w e (still_fibres s) h.fibres)))))

no_moves : IsMove (pos 0, pos 0)
no_moves = (omega arith, omega arith)

pass_is_event : (scene : SceneAt) (s : Setting) (w : WorldAt) (at : SimAt) (next : ℤ) → Moment scene s w → IsMoment s w at next → IsEventOf s.cfg (pass_of scene s w (next -ℤ w.time))
pass_is_event scene s w at next m it =
    let dt : ℤ = next -ℤ w.time in
    let span : (pos 1 ≤ℤ dt) × (dt ≤ℤ pos 9_223_372_036_854_775_807) = span_in w.time next it.after it.near in
    record {
      span = span;
      nodes = mapped_length (drift_over scene s w dt) (node_count s.cfg) 0;
      links = mapped_length (λ k. (pos 0, pos 0)) (link_count s.cfg) 0;
      drift = all_mapped IsChange (drift_over scene s w dt) (nodes_of s) (drift_small scene s m.net m.fits w dt (span_small dt span.0 span.1));
      move = all_mapped IsMove (λ k. (pos 0, pos 0)) (links_of s) (λ k. no_moves);
    }

pub passes_good : (scene : SceneAt) (s : Setting) (w : WorldAt) (due : Option (ℕ × ℤ)) (at : SimAt) → Moment scene s w → Keeps scene s w at → (0 < at.arrived.times → ⊥) → ticks s w at ≡ None → GoodIf scene s w (passes scene s w due at)
passes_good scene s w due at m h none later =
    let next : ℤ = next_moment w.time (moments scene s w due at) in
    let dt : ℤ = next -ℤ w.time in
    let e : Event = pass_of scene s w dt in
    let it : IsMoment s w at next = next_is scene s w due at in
    let new : SimAt = record at { ticked = None } in
    if_good scene s w (is_over scene s w) None (comes e at) (λ b. tt)
    (λ b.
    good scene s w e at new h (pass_is_event scene s w at next m it) (pass_holds scene s w at next m h later it) (λ d. absurd d)
    (record {
      swaps = tt;
      fibres = still_fibres s;
      young = tt;
      ticks = λ n up.
          moved_tick (shortest_tick s.cfg) (longest_tick s.cfg) (w.clock n).ticked w.time (w.time +ℤ dt) (at.tick_at n) (h.ticks n up) (ticks_by_then scene s w at next n h later it up);
      begun = nat_le_self at.begun;
      most = h.waits.most;
      turn = tt;
      faults = h.faults;
      ticked = λ j i. absurd (none-some j i);
      handed = λ says y t. absurd (none t);
    }))
