-- The run goes on event by event, until it ends.
use Rattle.std.proofs.Common.{◌≡◌, ◌∙◌, ◌∷◌, true, false, refl, subst, rules, ℕ}
use Rattle.wrp_io.specs.Faults.{Rose}
use Rattle.wrp_simulate.specs.SimStands.{Steps}
use Rattle.wrp_simulate.proofs.SimSteps.{begins_running, large_closed, over_closed, runs_on, unwritten, without_memory, writes_on}
use Rattle.wrp_simulate.proofs.simulating.run_events.Goals as goal

pub events-init : goal.events-init
events-init g c = record {
  ready = c.requires.ready;
  course = c.requires.course;
  run = c.requires.run;
  stands = λ seed s scene begins. begins_running seed s scene _ _ _ _ begins c.new-text.ensures.items;
  sink = refl;
}

pub events-preserved : goal.events-preserved
events-preserved g c =
    let r = c.events.invariant.run in
    let own = subst (Steps (λ f x y. g.F.Fn.post f (x, tt) y) r.0 r.1 r.2 c.step.new.network c.step.new.course c.events.text.items c.step.new.text.items r.3 r.4) c.in-Ok-Event.field-0-is
    (c.in-Ok-Event.ensures.steps r.0 r.1 r.2 r.3 r.4 r.5) in
    let all : c.flush.result ≡ true = search rules in
    record {
      ready = c.in-Ok-Event.ensures.ready;
      course = c.in-Ok-Event.ensures.course;
      run = (r.0, r.1, r.2, own.newest ∷ r.3, own.at, own.run);
      stands = λ seed s scene begins.
          let so_far = c.events.invariant.stands seed s scene begins in
          writes_on seed s scene c.step.new.network c.step.new.course _ _ _ _ _
          (runs_on seed s scene c.events.network c.step.new.network c.events.course c.step.new.course _ _ _ _ so_far
          (subst (Steps (λ f x y. g.F.Fn.post f (x, tt) y) seed s scene c.step.new.network c.step.new.course c.events.text.items c.step.new.text.items so_far.events so_far.at) c.in-Ok-Event.field-0-is
          (c.in-Ok-Event.ensures.steps seed s scene so_far.events so_far.at so_far.run)))
          (c.flush.ensures.whole all);
      sink = c.flush.ensures.kept all ∙ c.events.invariant.sink;
    }

pub returns-in-Ok-Over-clause-stands : goal.returns-in-Ok-Over-clause-stands
returns-in-Ok-Over-clause-stands g c = λ seed s scene begins.
    let so_far = c.events.invariant.stands seed s scene begins in
    let own = subst (Steps (λ f x y. g.F.Fn.post f (x, tt) y) seed s scene c.step.new.network c.step.new.course c.events.text.items c.step.new.text.items so_far.events so_far.at) c.in-Ok-Over.field-0-is
    (c.in-Ok-Over.ensures.steps seed s scene so_far.events so_far.at so_far.run) in
    over_closed seed s scene c.events.network c.events.course _ _ _ c.events.text.items c.close.result so_far own.1
    (rw own.0.none at (c.close.ensures.closes s _ _ own.0.stands own.0.totals))

pub returns-in-Ok-TooLarge-clause-stands : goal.returns-in-Ok-TooLarge-clause-stands
returns-in-Ok-TooLarge-clause-stands g c = λ seed s scene begins.
    let so_far = c.events.invariant.stands seed s scene begins in
    let own = subst (Steps (λ f x y. g.F.Fn.post f (x, tt) y) seed s scene c.step.new.network c.step.new.course c.events.text.items c.step.new.text.items so_far.events so_far.at) c.in-Ok-TooLarge.field-0-is
    (c.in-Ok-TooLarge.ensures.steps seed s scene so_far.events so_far.at so_far.run) in
    large_closed seed s scene c.events.network c.events.course _ _ _ c.events.text.items c.overrun.result so_far own.1 own.2 own.3
    (rw own.0.none at c.overrun.ensures.closes)

pub returns-in-Err-clause-stands : goal.returns-in-Err-clause-stands
returns-in-Err-clause-stands g c = λ seed s scene begins.
    without_memory seed s scene c.events.network c.events.course _ _ c.events.text.items (c.events.invariant.stands seed s scene begins)

pub returns-then-not-flush-clause-stands : goal.returns-then-not-flush-clause-stands
returns-then-not-flush-clause-stands g c = λ seed s scene begins.
    let so_far = c.events.invariant.stands seed s scene begins in
    let cut : c.flush.result ≡ false = search rules in
    unwritten seed s scene c.step.new.network c.step.new.course _ _ _ c.step.new.text.items
    (runs_on seed s scene c.events.network c.step.new.network c.events.course c.step.new.course _ _ _ _ so_far
    (subst (Steps (λ f x y. g.F.Fn.post f (x, tt) y) seed s scene c.step.new.network c.step.new.course c.events.text.items c.step.new.text.items so_far.events so_far.at) c.in-Ok-Event.field-0-is
    (c.in-Ok-Event.ensures.steps seed s scene so_far.events so_far.at so_far.run)))
    (c.flush.ensures.cut cut)

pub returns-in-Ok-Over-clause-rose : goal.returns-in-Ok-Over-clause-rose
returns-in-Ok-Over-clause-rose g c = λ is. subst (λ (n : ℕ). Rose n (g.K.Sink.faults c.close.new.sink)) c.events.invariant.sink (c.close.ensures.rose is)

pub returns-in-Ok-Over-clause-kept : goal.returns-in-Ok-Over-clause-kept
returns-in-Ok-Over-clause-kept g c = λ other. c.close.ensures.kept other ∙ c.events.invariant.sink

pub returns-in-Ok-Over-clause-never : goal.returns-in-Ok-Over-clause-never
returns-in-Ok-Over-clause-never g c = c.close.ensures.never

pub returns-in-Ok-TooLarge-clause-rose : goal.returns-in-Ok-TooLarge-clause-rose
returns-in-Ok-TooLarge-clause-rose g c =
    λ is. subst (λ (n : ℕ). Rose n (g.K.Sink.faults c.overrun.new.sink)) c.events.invariant.sink (c.overrun.ensures.rose is)

pub returns-in-Ok-TooLarge-clause-kept : goal.returns-in-Ok-TooLarge-clause-kept
returns-in-Ok-TooLarge-clause-kept g c = λ other. c.overrun.ensures.kept other ∙ c.events.invariant.sink

pub returns-in-Ok-TooLarge-clause-never : goal.returns-in-Ok-TooLarge-clause-never
returns-in-Ok-TooLarge-clause-never g c = c.overrun.ensures.never

pub returns-then-not-flush-clause-rose : goal.returns-then-not-flush-clause-rose
returns-then-not-flush-clause-rose g c = λ is.
    let cut : c.flush.result ≡ false = search rules in
    subst (λ (n : ℕ). Rose n (g.K.Sink.faults c.flush.new.sink)) c.events.invariant.sink (c.flush.ensures.rose cut)
