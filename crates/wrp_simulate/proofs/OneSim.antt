-- A scenario and a seed give one run of a network: the same events come, and the same is written.
use Rattle.std.proofs.Common.{◌≡◌, ◌∙◌, refl, ap, ap₂, sym, subst, ℕ, ℤ, ◌+◌, ◌<◌, ◌≤◌, Bool, true, false, None, Some, List, [], ◌∷◌, ◌++◌, length, flat_map, arith}
use Rattle.std.proofs.lemmas.Bool.Decides.{nat_tests}
use Rattle.std.specs.Prelude.{nat_lt}
use Rattle.std.proofs.lemmas.Option.{none-some, same_Some}
use Rattle.wrp_lines.specs.Lines.{sum_line}
use Rattle.wrp_servo.specs.Told.{ToldLast}
use Rattle.wrp_sim.specs.Rules.{Next, comes}
use Rattle.wrp_scene.specs.Scenario.{SceneAt, new_scene}
use Rattle.wrp_sim.specs.SimAt.{SimAt}
use Rattle.wrp_sim.specs.SimRun.{Gives, GivesEvent, IsSimRun}
use Rattle.wrp_course.specs.Given.{NodeStepAt}
use Rattle.wrp_course.specs.Run.{AllSaid, Happened, IsAnswered, steps_at, world_after}
use Rattle.wrp_course.specs.Setting.{Setting, node_setting_of, nodes_of}
use Rattle.wrp_course.specs.WorldAt.{WorldAt}
use Rattle.wrp_records.specs.declared.machine.Refusal.TheVariants as refusals
use Rattle.wrp_records.specs.declared.status.Status.{Status}
use Rattle.wrp_records.specs.declared.status.Status.TheVariants.{Done, TooLarge}
use Rattle.wrp_network_world.specs.NetworkSetting.{answers_in, laws_in}
use Rattle.wrp_scene_records.proofs.OneScenario.{never_refused, one_refused, scenes_one}
use Rattle.wrp_simulate.specs.SimText.{count_of, node_sum, offsets_in, printed_lines, sim_lines, sum_by, sum_lines, tracked, worst_of}
use Rattle.wrp_simulate.specs.Simulates.{IsOver, IsSimulated, Overruns, Simulates, simulation_of}
use Rattle.wrp_records.specs.Stream.{large_line}
use Rattle.wrp_replay.proofs.BareSetting.{flat_map_same}
use Rattle.wrp_one_world_laws.specs.OneWorld.{Alike, SameEvents}
use Rattle.wrp_one_world_laws.proofs.OneWorld.{alike_after, before_newest, state_same, steps_after}
use Rattle.wrp_sim.proofs.OneRule.{gives_one}
use Rattle.wrp_records.proofs.Unique.{EndsWith, IsExact}

-- Runs

-- what is given for the events of a run
pub record Told (s : Setting) (events : List Happened) : Type 0 where
  pub said : AllSaid events
  pub answered : IsAnswered (answers_in s) s (world_after s events)

pub told_before : (s : Setting) (h : Happened) (before : List Happened) → Told s (h ∷ before) → Told s before
told_before s h before t = record { said = t.said.1; answered = before_newest (laws_in s) s h before t.answered }

pub alike_told : ToldLast → (s : Setting) (a b : List Happened) → SameEvents a b → Told s a → Told s b → Alike s (world_after s a) (world_after s b)
alike_told last s a b same t u = alike_after (laws_in s) last s a b same t.said u.said t.answered u.answered

record OneRun (a b : List Happened) (x y : SimAt) : Type 0 where
  same : SameEvents a b
  at : x ≡ y

one_run : ToldLast → (scene : SceneAt) (s : Setting) (seed : ℕ) (a b : List Happened) (x y : SimAt) → IsSimRun scene s seed a x → IsSimRun scene s seed b y
    → Told s a → Told s b → length a ≡ length b → OneRun a b x y
one_run last scene s seed [] [] x y p q t u size = record { same = tt; at = p ∙ sym q }
one_run last scene s seed [] (k ∷ b) x y p q t u size = absurd (omega (arith, size))
one_run last scene s seed (h ∷ a) [] x y p q t u size = absurd (omega (arith, size))
one_run last scene s seed (h ∷ a) (k ∷ b) x y p q t u size =
    let one : OneRun a b p.0 q.0 = one_run last scene s seed a b p.0 q.0 p.1 q.1 (told_before s h a t) (told_before s k b u) (omega (arith, size)) in
    let alike : Alike s (world_after s a) (world_after s b) = alike_told last s a b one.same (told_before s h a t) (told_before s k b u) in
    let next : record { event = h.event; at = x } ≡ record { event = k.event; at = y } =
    same_Some (record { event = h.event; at = x }) (record { event = k.event; at = y })
    (gives_one scene s (world_after s a) (world_after s b) p.0 (Some (record { event = h.event; at = x })) (Some (record { event = k.event; at = y })) alike p.2
    (subst (λ (o : SimAt). GivesEvent scene s (world_after s b) o k.event y) (sym one.at) q.2)) in
    record { same = (ap (λ (n : Next). n.event) next, one.same); at = ap (λ (n : Next). n.at) next }

-- What is written

printed_same : (s : Setting) (v w : WorldAt) (steps : List NodeStepAt) → Alike s v w → flat_map (printed_lines s v) steps ≡ flat_map (printed_lines s w) steps
printed_same s v w steps h = ap (λ (k : WorldAt). flat_map (printed_lines s k) steps) (sym h.is)

lines_one : ToldLast → (s : Setting) (a b : List Happened) → SameEvents a b → Told s a → Told s b → sim_lines s a ≡ sim_lines s b
lines_one last s [] [] same t u = refl
lines_one last s [] (k ∷ b) same t u = absurd same
lines_one last s (h ∷ a) [] same t u = absurd same
lines_one last s (h ∷ a) (k ∷ b) same t u =
    ap₂ (λ (earlier lines : List ℕ). earlier ++ lines)
    (lines_one last s a b same.1 (told_before s h a t) (told_before s k b u))
    (printed_same s (world_after s (h ∷ a)) (world_after s (k ∷ b)) (steps_at s a h) (alike_told last s (h ∷ a) (k ∷ b) same t u)
    ∙ ap (flat_map (printed_lines s (world_after s (k ∷ b)))) (steps_after (laws_in s) last s a b h k same t.said u.said t.answered u.answered))

tracked_one : ToldLast → (s : Setting) (n : ℕ) (a b : List Happened) → SameEvents a b → Told s a → Told s b → tracked s n a ≡ tracked s n b
tracked_one last s n [] [] same t u = refl
tracked_one last s n [] (k ∷ b) same t u = absurd same
tracked_one last s n (h ∷ a) [] same t u = absurd same
tracked_one last s n (h ∷ a) (k ∷ b) same t u =
    let alike : Alike s (world_after s (h ∷ a)) (world_after s (k ∷ b)) = alike_told last s (h ∷ a) (k ∷ b) same t u in
    ap₂ (λ (newest earlier : List ℤ). newest ++ earlier)
    (ap (λ (w : WorldAt). offsets_in w n (steps_at s a h)) (sym alike.is)
    ∙ ap (offsets_in (world_after s (k ∷ b)) n) (steps_after (laws_in s) last s a b h k same t.said u.said t.answered u.answered))
    (tracked_one last s n a b same.1 (told_before s h a t) (told_before s k b u))

sum_alike : (s : Setting) (n : ℕ) (v w : WorldAt) (offs : List ℤ) → Alike s v w → sum_by s w n offs ≡ sum_by s v n offs
sum_alike s n v w offs h =
    ap (λ (k : WorldAt). sum_by s k n offs) h.is
    ∙ ap (sum_line s.cfg n (v.node n).ticks (count_of offs) (worst_of offs)) (state_same (node_setting_of s n) (v.node n) (h.calls n) (h.servo n))

sums_one : ToldLast → (s : Setting) (a b : List Happened) → SameEvents a b → Told s a → Told s b → sum_lines s a ≡ sum_lines s b
sums_one last s a b same t u =
    flat_map_same (node_sum s a) (node_sum s b)
    (λ n. ap (sum_by s (world_after s a) n) (tracked_one last s n a b same t u)
    ∙ sym (sum_alike s n (world_after s a) (world_after s b) (tracked s n b) (alike_told last s a b same t u)))
    (nodes_of s)

-- How far a run goes

-- the first so many events of a longer run, and what comes after them
record Shorter (scene : SceneAt) (s : Setting) (seed size : ℕ) : Type 0 where
  events : List Happened
  at : SimAt
  run : IsSimRun scene s seed events at
  told : Told s events
  count : length events ≡ size
  next : Next
  comes : Gives scene s (world_after s events) at (Some next)

shorter : (scene : SceneAt) (s : Setting) (seed size : ℕ) (events : List Happened) (x : SimAt) → IsSimRun scene s seed events x → Told s events
    → size < length events → Shorter scene s seed size
shorter scene s seed size [] x p t less = absurd (omega (arith, less))
shorter scene s seed size (h ∷ events) x p t less =
    go (nat_lt size (length events)) refl (λ fewer. shorter scene s seed size events p.0 p.1 (told_before s h events t) fewer)
  where
    go : (b : Bool) → nat_lt size (length events) ≡ b → (size < length events → Shorter scene s seed size) → Shorter scene s seed size
    go true is earlier = earlier (grind (arith, nat_tests, is))
    go false is earlier = record {
      events = events;
      at = p.0;
      run = p.1;
      told = told_before s h events t;
      count = (let most : length events ≤ size = grind (arith, nat_tests, is) in omega (arith, most, less));
      next = record { event = h.event; at = x };
      comes = p.2;
    }

-- no run is longer than one that is over
not_longer : ToldLast → (scene : SceneAt) (s : Setting) (seed : ℕ) (a b : List Happened) (x y : SimAt) → IsSimRun scene s seed a x → Told s a
    → Gives scene s (world_after s a) x None →
    IsSimRun scene s seed b y → Told s b → length a < length b → ⊥
not_longer last scene s seed a b x y p t over q u less =
    let part : Shorter scene s seed (length a) = shorter scene s seed (length a) b y q u less in
    let one : OneRun a part.events x part.at = one_run last scene s seed a part.events x part.at p part.run t part.told (sym part.count) in
    let alike : Alike s (world_after s a) (world_after s part.events) = alike_told last s a part.events one.same t part.told in
    none-some part.next
    (gives_one scene s (world_after s a) (world_after s part.events) x None (Some part.next) alike over
    (subst (λ (o : SimAt). Gives scene s (world_after s part.events) o (Some part.next)) (sym one.at) part.comes))

-- neither of two runs is longer
same_size : (m n : ℕ) → (m < n → ⊥) → (n < m → ⊥) → m ≡ n
same_size m n p q = go (nat_lt m n) (nat_lt n m) refl refl
  where
    go : (b c : Bool) → nat_lt m n ≡ b → nat_lt n m ≡ c → m ≡ n
    go true c is also = absurd (p (grind (arith, nat_tests, is)))
    go false true is also = absurd (q (grind (arith, nat_tests, also)))
    go false false is also =
        let one : n ≤ m = grind (arith, nat_tests, is) in
        let other : m ≤ n = grind (arith, nat_tests, also) in
        omega (arith, one, other)

-- Ends

told_of : (s : Setting) (scene : SceneAt) (seed : ℕ) (events : List Happened) (at : SimAt) → IsSimulated s scene seed events at → Told s events
told_of s scene seed events at h = record { said = h.said; answered = h.answered }

-- a run of one scenario as a run of another scenario that is the same
moved_run : (s : Setting) (seed : ℕ) (lines : List (List ℕ)) (p q : Simulates s seed lines) → IsSimRun p.scene s seed q.events q.at
moved_run s seed lines p q =
    subst (λ (n : SceneAt). IsSimRun n s seed q.events q.at) (scenes_one s.cfg (new_scene s.cfg) lines q.scene p.scene q.said p.said) q.simulated.run

told_at : (s : Setting) (seed : ℕ) (lines : List (List ℕ)) (p : Simulates s seed lines) → Told s p.events
told_at s seed lines p = told_of s p.scene seed p.events p.at p.simulated

never_longer : ToldLast → (s : Setting) (seed : ℕ) (lines : List (List ℕ)) (p q : Simulates s seed lines) → IsOver s seed lines p
    → length p.events < length q.events → ⊥
never_longer last s seed lines p q over less =
    not_longer last p.scene s seed p.events q.events p.at q.at p.simulated.run (told_at s seed lines p) over (moved_run s seed lines p q)
    (told_at s seed lines q) less

-- runs of the same length
record Both (s : Setting) (seed : ℕ) (lines : List (List ℕ)) (p q : Simulates s seed lines) : Type 0 where
  text : sim_lines s p.events ≡ sim_lines s q.events
  sums : sum_lines s p.events ≡ sum_lines s q.events
  alike : Alike s (world_after s p.events) (world_after s q.events)
  at : p.at ≡ q.at

both_of : ToldLast → (s : Setting) (seed : ℕ) (lines : List (List ℕ)) (p q : Simulates s seed lines) → length p.events ≡ length q.events → Both s seed lines p q
both_of last s seed lines p q size =
    let one : OneRun p.events q.events p.at q.at =
    one_run last p.scene s seed p.events q.events p.at q.at p.simulated.run (moved_run s seed lines p q) (told_at s seed lines p)
    (told_at s seed lines q) size in
    record {
      text = lines_one last s p.events q.events one.same (told_at s seed lines p) (told_at s seed lines q);
      sums = sums_one last s p.events q.events one.same (told_at s seed lines p) (told_at s seed lines q);
      alike = alike_told last s p.events q.events one.same (told_at s seed lines p) (told_at s seed lines q);
      at = one.at;
    }

-- with one length it is not both over and overrun
not_both_ends : ToldLast → (s : Setting) (seed : ℕ) (lines : List (List ℕ)) (p q : Simulates s seed lines) → IsOver s seed lines p → Overruns s seed lines q → ⊥
not_both_ends last s seed lines p q over run = go (nat_lt (length p.events) (length q.events)) refl
  where
    go : (b : Bool) → nat_lt (length p.events) (length q.events) ≡ b → ⊥
    go true is = never_longer last s seed lines p q over (grind (arith, nat_tests, is))
    go false is =
        let least : length q.events ≤ length p.events = grind (arith, nat_tests, is) in
        let most = p.simulated.count in
        let number = run.number in
        let both : Both s seed lines p q = both_of last s seed lines p q (omega (arith, least, most, number)) in
        let scene : q.scene ≡ p.scene = scenes_one s.cfg (new_scene s.cfg) lines q.scene p.scene q.said p.said in
        none-some run.next
        (gives_one p.scene s (world_after s p.events) (world_after s q.events) p.at None (Some run.next) both.alike over
        (subst (λ (o : SimAt). Gives p.scene s (world_after s q.events) o (Some run.next)) (sym both.at)
        (subst (λ (n : SceneAt). Gives n s (world_after s q.events) q.at (Some run.next)) scene run.comes)))

ends_one : ToldLast → (s : Setting) (seed : ℕ) (lines : List (List ℕ)) (a b : Status) (t u : List ℕ) → EndsWith (simulation_of s seed) lines a t
    → EndsWith (simulation_of s seed) lines b u → (a ≡ b) × (t ≡ u)
ends_one last s seed lines Done Done t u p q =
    let both : Both s seed lines p.0 q.0 =
    both_of last s seed lines p.0 q.0
    (same_size (length p.0.events) (length q.0.events) (never_longer last s seed lines p.0 q.0 p.1) (never_longer last s seed lines q.0 p.0 q.1)) in
    (refl, p.2 ∙ ap₂ (λ (lines sums : List ℕ). lines ++ sums) both.text both.sums ∙ sym q.2)
ends_one last s seed lines Done TooLarge t u p q = absurd (not_both_ends last s seed lines p.0 q.0 p.1 q.1)
ends_one last s seed lines TooLarge Done t u p q = absurd (not_both_ends last s seed lines q.0 p.0 q.1 p.1)
ends_one last s seed lines TooLarge TooLarge t u p q =
    let one = p.1.number in
    let other = q.1.number in
    let size : length p.0.events ≡ length q.0.events = omega (arith, one, other) in
    let both : Both s seed lines p.0 q.0 = both_of last s seed lines p.0 q.0 size in
    (refl, p.2 ∙ ap₂ (λ (lines : List ℕ) (n : ℕ). lines ++ large_line (n + 1)) both.text size ∙ sym q.2)
ends_one last s seed lines Done _ t u p q = absurd q
ends_one last s seed lines TooLarge _ t u p q = absurd q
ends_one last s seed lines _ b t u p q = absurd p

-- what the relations of a simulation keep
pub exact_simulation : ToldLast → (s : Setting) (seed : ℕ) → IsExact (simulation_of s seed)
exact_simulation last s seed = record {
  one_text = λ lines t u p q. p.2 ∙ sym q.2;
  not_both = λ before behind line t end refusal p q. never_refused s before behind line t end refusal p q;
  one_refusal = one_refused s;
  one_end = ends_one last s seed;
}
