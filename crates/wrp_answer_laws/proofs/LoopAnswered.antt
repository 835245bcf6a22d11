-- An answer of the loop is expected for each scenario and each link.
use Rattle.std.proofs.Common.{◌≡◌, inl, inr, refl, sym, subst, ℕ, ◌*◌, ◌<◌, List, [], ◌∷◌, ◌++◌, length, map}
use Rattle.std.specs.List.{AllByRecursion}
use Rattle.wrp_base.proofs.Lists.{all_append}
use Rattle.wrp_course.specs.EventAt.{link_count}
use Rattle.wrp_course.specs.Setting.{Setting}
use Rattle.wrp_io.specs.declared.link.LinkCall.{LinkCall}
use Rattle.wrp_io.specs.declared.link.LinkCall.TheVariants.{Start}
use Rattle.wrp_loop.specs.Calls.{IsFrameCall}
use Rattle.wrp_loop.specs.Laws.{Ending, EndsAs, Large, Over}
use Rattle.wrp_loop.specs.LoopEnds.{IsOver, IsOverrun}
use Rattle.wrp_loop.specs.LoopRun.{Full, Going, LoopAt, Loops, On, Plan, events_at, loop_start, place}
use Rattle.wrp_loop.specs.Loops.{LoopEnded, LoopFailed, closing_lines, plan_of}
use Rattle.wrp_loop.specs.LoopText.{loop_text}
use Rattle.wrp_records.specs.declared.status.Status.TheVariants.{Done, LinkFault, TooLarge}
use Rattle.wrp_records.specs.Lines.{content_of, lines_of}
use Rattle.wrp_records.specs.Stream.{Handles, IsWithin, large_line, number_limit}
use Rattle.wrp_scene.specs.EventLimit.{event_limit}
use Rattle.wrp_scene.specs.Scenario.{SceneAt}
use Rattle.wrp_scene_records.specs.Scenarios.{IsScenario, SimAccepts}
use Rattle.wrp_commands.specs.Request.{CommandLine}
use Rattle.wrp_asked.specs.Input.{behind_separator, network_text}
use Rattle.wrp_asked.specs.Tasks.{AsksFor, Loop}
use Rattle.wrp_answer_laws.specs.LinkAnswers.{AnswersCall, Fails, Follows, GivesFrames, HasAnswerOver, LinkAnswers}
use Rattle.wrp_answer_laws.proofs.LinkFollowing.{fails_next, follows_on, number_after, number_later, starts_or_fails}
use Rattle.wrp_answer_laws.proofs.LoopRounds.{Breaks, EndsAt, GoesOn, IsKept, loop_ends}

-- a run over a link is asked for, and its records are those of a whole scenario
pub record IsAskedBy (asked : CommandLine) (input : List ℕ) (s : Setting) (seed : ℕ) (scene : SceneAt) : Type 0 where
  pub asks : AsksFor asked (network_text input) (Loop s seed)
  pub sizes : AllByRecursion IsWithin (behind_separator (lines_of input))
  pub count : length (behind_separator (lines_of input)) < number_limit
  pub said : IsScenario s (map content_of (behind_separator (lines_of input))) scene

handled : (asked : CommandLine) (input : List ℕ) (s : Setting) (seed : ℕ) (scene : SceneAt) → IsAskedBy asked input s seed scene →
    Handles (SimAccepts s) (behind_separator (lines_of input)) []
handled asked input s seed scene h = record { sizes = h.sizes; count = h.count; accepted = (scene, h.said, refl) }

-- the loop from its start to its end, over a link
record Ran (x : Plan) (link : LinkAnswers) (last : Going) : Type 0 where
  pub calls : List LinkCall
  pub loops : Loops x calls last
  pub kept : IsKept x (events_at (place last))
  pub follows : Follows link calls
  pub frames : AllByRecursion IsFrameCall calls
  pub ends : EndsAt x link (number_after 1 calls) last

ran : (x : Plan) (link : LinkAnswers) → AnswersCall (link 1) (Start (2 * link_count x.setting.cfg)) →
    (run : GoesOn x link 2 (On (loop_start x))) → Ran x link run.last
ran x link start run = record {
  calls = Start (2 * link_count x.setting.cfg) ∷ run.calls;
  loops = record { rounds = run.rounds; later = run.calls; told = refl; goes = run.goes; said = run.kept.said };
  kept = run.kept;
  follows = (start, run.follows);
  frames = (tt, run.frames);
  ends = run.ends;
}

-- the start fails
not_started : (asked : CommandLine) (input : List ℕ) (s : Setting) (seed : ℕ) (scene : SceneAt) (link : LinkAnswers) →
    IsAskedBy asked input s seed scene → link 1 ≡ Fails → HasAnswerOver link asked input
not_started asked input s seed scene link h fails = record {
  calls = [];
  status = LinkFault;
  octets = [];
  follows = tt;
  due = inr (record {
    is = refl;
    fails = fails;
    broken = (
      s,
      seed,
      h.asks,
      record {
        written = [];
        last = [];
        handled = handled asked input s seed scene h;
        broken = inl (refl, refl);
        is = refl;
      },
    );
  });
}

ended : (s : Setting) (seed : ℕ) (lines : List (List ℕ)) (scene : SceneAt) (link : LinkAnswers) (last : Going)
    (run : Ran (plan_of s scene seed) link last) (ending : Ending) → IsScenario s lines scene →
    EndsAs (plan_of s scene seed) run.calls ending last → LoopEnded s seed lines run.calls ending
ended s seed lines scene link last run ending said ends = record {
  scene = scene;
  said = said;
  last = last;
  ends = ends;
  frames = run.frames;
  answered = run.kept.answered;
}

-- no event comes any more
over : (asked : CommandLine) (input : List ℕ) (s : Setting) (seed : ℕ) (scene : SceneAt) (link : LinkAnswers) (last : Going) →
    IsAskedBy asked input s seed scene → Ran (plan_of s scene seed) link last → IsOver (plan_of s scene seed) last →
    HasAnswerOver link asked input
unfolding ended
over asked input s seed scene link last h run is =
    let lines : List (List ℕ) = map content_of (behind_separator (lines_of input)) in
    let it : LoopEnded s seed lines run.calls Over = ended s seed lines scene link last run Over h.said (run.loops, is) in
    record {
      calls = run.calls;
      status = Done;
      octets = loop_text s (events_at (place last)) ++ closing_lines s (place last);
      follows = run.follows;
      due = inl (inr (inr (
        s,
        seed,
        h.asks,
        record {
          written = [];
          last = loop_text s (events_at (place last)) ++ closing_lines s (place last);
          handled = handled asked input s seed scene h;
          closed = (it, refl);
          is = refl;
        },
      )));
    }

-- the number of the next event is too great
overrun : (asked : CommandLine) (input : List ℕ) (s : Setting) (seed : ℕ) (scene : SceneAt) (link : LinkAnswers) (last : Going) →
    IsAskedBy asked input s seed scene → Ran (plan_of s scene seed) link last → IsOverrun (plan_of s scene seed) last →
    HasAnswerOver link asked input
unfolding ended
overrun asked input s seed scene link last h run is =
    let lines : List (List ℕ) = map content_of (behind_separator (lines_of input)) in
    let it : LoopEnded s seed lines run.calls Large = ended s seed lines scene link last run Large h.said (run.loops, is) in
    record {
      calls = run.calls;
      status = TooLarge;
      octets = loop_text s (events_at (place last)) ++ large_line event_limit;
      follows = run.follows;
      due = inl (inr (inr (inr (
        s,
        seed,
        h.asks,
        record {
          written = [];
          last = loop_text s (events_at (place last)) ++ large_line event_limit;
          handled = handled asked input s seed scene h;
          broken = (it, refl);
          is = refl;
        },
      ))));
    }

-- a call at an arrival fails
failed : (s : Setting) (seed : ℕ) (lines : List (List ℕ)) (scene : SceneAt) (link : LinkAnswers) (l : LoopAt)
    (run : Ran (plan_of s scene seed) link (On l)) → IsScenario s lines scene →
    (breaks : Breaks (plan_of s scene seed) link (number_after 1 run.calls) l) → LoopFailed s seed lines (run.calls ++ breaks.off.calls)
failed s seed lines scene link l run said breaks = record {
  scene = scene;
  said = said;
  at = l;
  fails = record {
    before = run.calls;
    cut = breaks.off.calls;
    all = refl;
    loops = run.loops;
    number = breaks.frame;
    way = breaks.way;
    octets = breaks.octets;
    arrives = breaks.arrives;
    fails = breaks.off.cut;
  };
  frames = all_append IsFrameCall run.calls breaks.off.calls run.frames breaks.off.frames;
  answered = run.kept.answered;
}

broken : (asked : CommandLine) (input : List ℕ) (s : Setting) (seed : ℕ) (scene : SceneAt) (link : LinkAnswers) (l : LoopAt) →
    IsAskedBy asked input s seed scene → (run : Ran (plan_of s scene seed) link (On l)) →
    Breaks (plan_of s scene seed) link (number_after 1 run.calls) l → HasAnswerOver link asked input
unfolding failed
broken asked input s seed scene link l h run breaks =
    let lines : List (List ℕ) = map content_of (behind_separator (lines_of input)) in
    let calls : List LinkCall = run.calls ++ breaks.off.calls in
    let it : LoopFailed s seed lines calls = failed s seed lines scene link l run h.said breaks in
    record {
      calls = calls;
      status = LinkFault;
      octets = loop_text s (events_at l);
      follows = follows_on link 1 run.calls breaks.off.calls run.follows breaks.off.follows;
      due = inr (record {
        is = refl;
        fails = fails_next link calls
            (subst (λ (number : ℕ). link number ≡ Fails) (sym (number_later 1 run.calls breaks.off.calls)) breaks.off.fails);
        broken = (
          s,
          seed,
          h.asks,
          record {
            written = [];
            last = loop_text s (events_at l);
            handled = handled asked input s seed scene h;
            broken = inr (it, refl);
            is = refl;
          },
        );
      });
    }

-- however it ends
by_ending : (asked : CommandLine) (input : List ℕ) (s : Setting) (seed : ℕ) (scene : SceneAt) (link : LinkAnswers) (last : Going) →
    IsAskedBy asked input s seed scene → (run : Ran (plan_of s scene seed) link last) →
    EndsAt (plan_of s scene seed) link (number_after 1 run.calls) last → HasAnswerOver link asked input
by_ending asked input s seed scene link last h run (inl is) = over asked input s seed scene link last h run is
by_ending asked input s seed scene link last h run (inr (inl is)) = overrun asked input s seed scene link last h run is
by_ending asked input s seed scene link (On l) h run (inr (inr breaks)) = broken asked input s seed scene link l h run breaks
by_ending asked input s seed scene link (Full l) h run (inr (inr never)) = absurd never

-- so an answer is expected, whatever the link answers
pub loop_answered : (asked : CommandLine) (input : List ℕ) (s : Setting) (seed : ℕ) (scene : SceneAt) (link : LinkAnswers) →
    GivesFrames link → IsAskedBy asked input s seed scene → HasAnswerOver link asked input
loop_answered asked input s seed scene link given h =
    let x : Plan = plan_of s scene seed in
    elim (starts_or_fails link 1 (2 * link_count s.cfg)) [
      | inr fails ↦ not_started asked input s seed scene link h fails
      | inl start ↦
          let on : GoesOn x link 2 (On (loop_start x)) = loop_ends x link given 2 in
          let run : Ran x link on.last = ran x link start on in
          by_ending asked input s seed scene link on.last h run run.ends
    ]
