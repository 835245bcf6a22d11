-- A scenario, a seed and the calls of a link are one run of a network over it: it ends so, and writes this.
use Rattle.std.proofs.Common.{◌≡◌, ◌∙◌, inr, refl, ap, ap₂, sym, subst, ℕ, if◌then◌else◌, List, [], ◌∷◌, ◌++◌, flat_map}
use Rattle.std.specs.List.{concat}
use Rattle.wrp_network.specs.Network.{name_at}
use Rattle.wrp_course.specs.Run.{world_after}
use Rattle.wrp_course.specs.Setting.{Setting, nodes_of}
use Rattle.wrp_course.specs.WorldAt.{WorldAt}
use Rattle.wrp_io.specs.declared.link.LinkCall.{LinkCall}
use Rattle.wrp_io.specs.declared.link.LinkCall.TheVariants.{Start}
use Rattle.wrp_loop.specs.Laws.{Ending, EndsAs, Large, Over}
use Rattle.wrp_loop.specs.LoopRun.{LoopAt, events_at, place}
use Rattle.wrp_scene.specs.EventLimit.{event_limit}
use Rattle.wrp_loop.specs.LoopText.{forged_lines, loop_text}
use Rattle.wrp_loop.proofs.Told.{one_loop}
use Rattle.wrp_records.specs.declared.status.Status.{Status}
use Rattle.wrp_records.specs.declared.status.Status.TheVariants.{Done, TooLarge}
use Rattle.wrp_records.specs.RecordsAnswer.{RecordsAnswer}
use Rattle.wrp_records.specs.Stream.{large_line}
use Rattle.wrp_records.proofs.Unique.{EndsWith, IsExact, never_barred}
use Rattle.wrp_asked.specs.Answer.{LoopDue}
use Rattle.wrp_network_world.specs.Counts.{all_counts}
use Rattle.wrp_network_world.specs.NetworkSetting.{laws_in}
use Rattle.wrp_loop.specs.Loops.{LoopEnded, closing_lines, loop_of, plan_of}
use Rattle.wrp_replay.specs.NodeText.{port_counts, port_numbers}
use Rattle.wrp_scene_records.specs.Scenarios.{scenario_of}
use Rattle.wrp_network_world.proofs.Leads.{due_so}
use Rattle.wrp_scene_records.proofs.OneScenario.{never_refused, one_refused, scenes_one}
use Rattle.wrp_servo.specs.Told.{ToldLast}
use Rattle.wrp_scene.specs.Scenario.{SceneAt, new_scene}
use Rattle.wrp_trace.specs.LineSetting.{has_port, line_setting_in}

-- What is expected by the records, and by the calls

-- what is expected by the records alone is expected whatever calls are reported
pub scene_records : (s : Setting) (seed : ℕ) (calls : List LinkCall) (lines : List (List ℕ)) (status : Status) (octets : List ℕ)
    → RecordsAnswer (scenario_of s) lines status octets → RecordsAnswer (loop_of s seed calls) lines status octets
scene_records s seed calls = due_so (scenario_of s) (loop_of s seed calls) (record {
  accepts = λ lines text h. h;
  refuses = λ lines line last refusal h. h;
  closes = λ lines last h. absurd h;
  breaks_off = λ lines status last h. absurd (never_barred lines status last h);
})

pub loop_records : (s : Setting) (seed : ℕ) (calls : List LinkCall) (lines : List (List ℕ)) (status : Status) (octets : List ℕ)
    → LoopDue s seed lines calls status octets → RecordsAnswer (loop_of s seed calls) lines status octets
loop_records s seed calls lines Done octets h = h
loop_records s seed calls lines TooLarge octets h = inr h
loop_records s seed calls lines _ octets h = absurd h

none_started : (ends : ℕ) (later : List LinkCall) → [] ≡ Start ends ∷ later → ⊥
none_started ends later e = cc

-- a loop makes a call
pub told_calls : (s : Setting) (seed : ℕ) (lines : List (List ℕ)) (status : Status) (octets : List ℕ) → LoopDue s seed lines [] status octets → ⊥
told_calls s seed lines Done octets h = none_started _ h.closed.0.ends.0.later h.closed.0.ends.0.told
told_calls s seed lines TooLarge octets h = none_started _ h.broken.0.ends.0.later h.broken.0.ends.0.told
told_calls s seed lines _ octets h = h

-- One run

-- counters that are the same have the same lines
counts_one : (s : Setting) (v w : WorldAt) → ((n : ℕ) → (w.node n).counters ≡ (v.node n).counters) → all_counts s v ≡ all_counts s w
counts_one s v w same =
    sym
    (λ i. flat_map (λ n. flat_map (λ port. if has_port (line_setting_in s n) port then port_counts (name_at s.cfg n) port (same n i port) else []) port_numbers) (nodes_of s))

-- two loops that the same lines and calls give
record Both (s : Setting) (first second : Ending) (a b : LoopAt) : Type 0 where
  ending : first ≡ second
  text : loop_text s (events_at a) ≡ loop_text s (events_at b)
  closing : closing_lines s a ≡ closing_lines s b

both_of : ToldLast
    → (s : Setting) (seed : ℕ) (calls : List LinkCall) (lines : List (List ℕ)) (first second : Ending) (p : LoopEnded s seed lines calls first) (q : LoopEnded s seed lines calls second) →
    Both s first second (place p.last) (place q.last)
both_of last s seed calls lines first second p q =
    let scene : q.scene ≡ p.scene = scenes_one s.cfg (new_scene s.cfg) lines q.scene p.scene q.said p.said in
    let own : EndsAs (plan_of s p.scene seed) calls second q.last =
    subst (λ (scene : SceneAt). EndsAs (plan_of s scene seed) calls second q.last) scene q.ends in
    let one = one_loop last (laws_in s) (plan_of s p.scene seed) calls p.last q.last first second p.ends own p.answered q.answered in
    record {
      ending = one.0;
      text = one.1.text;
      closing = ap₂ (λ (counts : List ℕ) (forged : ℕ). counts ++ concat (forged_lines forged))
          (counts_one s (world_after s (events_at (place p.last))) (world_after s (events_at (place q.last))) one.1.counters) one.1.forged;
    }

over_large : Over ≡ Large → ⊥
over_large e = cc

large_over : Large ≡ Over → ⊥
large_over e = cc

ends_one : ToldLast → (s : Setting) (seed : ℕ) (calls : List LinkCall) (lines : List (List ℕ)) (a b : Status) (t u : List ℕ)
    → EndsWith (loop_of s seed calls) lines a t → EndsWith (loop_of s seed calls) lines b u → (a ≡ b) × (t ≡ u)
ends_one last s seed calls lines Done Done t u p q =
    let both = both_of last s seed calls lines Over Over p.0 q.0 in
    (refl, p.1 ∙ ap₂ (λ (text closing : List ℕ). text ++ closing) both.text both.closing ∙ sym q.1)
ends_one last s seed calls lines Done TooLarge t u p q = absurd (over_large (both_of last s seed calls lines Over Large p.0 q.0).ending)
ends_one last s seed calls lines TooLarge Done t u p q = absurd (large_over (both_of last s seed calls lines Large Over p.0 q.0).ending)
ends_one last s seed calls lines TooLarge TooLarge t u p q =
    let both = both_of last s seed calls lines Large Large p.0 q.0 in
    (refl, p.1 ∙ ap (λ (text : List ℕ). text ++ large_line event_limit) both.text ∙ sym q.1)
ends_one last s seed calls lines Done _ t u p q = absurd q
ends_one last s seed calls lines TooLarge _ t u p q = absurd q
ends_one last s seed calls lines _ b t u p q = absurd p

-- what the relations of a run over a link keep
pub exact_loop : ToldLast → (s : Setting) (seed : ℕ) (calls : List LinkCall) → IsExact (loop_of s seed calls)
exact_loop last s seed calls = record {
  one_text = λ lines t u p q. p.2 ∙ sym q.2;
  not_both = λ before behind line t end refusal p q. never_refused s before behind line t end refusal p q;
  one_refusal = one_refused s;
  one_end = ends_one last s seed calls;
}
