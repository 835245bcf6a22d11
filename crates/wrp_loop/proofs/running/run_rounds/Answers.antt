-- The loop goes on round by round, until it ends.
use Rattle.std.proofs.Common.{◌≡◌, ◌∙◌, ◌++◌, ap, true, false, refl, subst, rules, sym, ℕ, Ok, Err, Result}
use Rattle.std.proofs.KnownBytes.{Appends-trans}
use Rattle.wrp_io.specs.Faults.{Rose}
use Rattle.wrp_loop.specs.declared.outcome.LoopFault.{LoopFault}
use Rattle.wrp_loop.specs.declared.outcome.LoopFault.TheVariants as faults
use Rattle.wrp_records.specs.declared.status.Status.TheVariants.{LinkFault, OutOfMemory, WriteFault}
use Rattle.wrp_loop.specs.declared.outcome.Rounded.{Rounded}
use Rattle.wrp_loop.specs.LoopRun.{Plan, place}
use Rattle.wrp_loop.specs.SoFar.{Leads, Rounds}
use Rattle.wrp_network_world.specs.NetworkSetting.{setting_in}
use Rattle.wrp_loop.specs.Loops.{plan_of}
use Rattle.wrp_network_world.proofs.WorldRuns.{laws_stay}
use Rattle.wrp_loop.proofs.LoopSteps.{begins_rounding, came_by, large_ran, large_unlinked, lawful_here, over_ran, round_failed, round_lacks, unwritten, writes_all}
use Rattle.wrp_loop.proofs.running.run_rounds.Goals as goal

not_failed : (r : Result Rounded LoopFault) (k : Rounded) → r ≡ Ok k → r ≡ Err faults.Failed → ⊥
not_failed r k is bad = let both : Ok k ≡ Err faults.Failed = sym is ∙ bad in cc

pub rounds-init : goal.rounds-init
rounds-init g c = record {
  ready = c.requires.ready;
  net = refl;
  laws = c.requires.laws;
  waits = c.new-text.ensures.items;
  rounding = λ scene seed before came. begins_rounding _ _ _ before _ _ _ came c.new-text.ensures.items;
  sink = refl;
  link = refl;
}

pub rounds-preserved : goal.rounds-preserved
rounds-preserved g c =
    let inv = c.rounds.invariant in
    let all : c.write_waiting.result ≡ true = search rules in
    let went = c.in-Ok.is ∙ ap Ok c.in-GoesOn.is in
    record {
      ready = c.take_round.ensures.ready went;
      net = c.take_round.ensures.net ∙ inv.net;
      laws = laws_stay (λ f x y. g.F.Fn.post f (x, tt) y) (setting_in c.args.network.now.world.plant.net) c.rounds.network.world c.take_round.new.network.world c.take_round.ensures.laws inv.laws;
      waits = c.write_waiting.ensures.none all;
      rounding = λ scene seed before came.
          let so_far = inv.rounding scene seed before came in
          let x : Plan = plan_of (setting_in c.args.network.now.world.plant.net) scene seed in
          let led = subst (Leads _ x c.take_round.new.network c.take_round.new.course before (g.N.Link.told c.take_round.new.link) so_far.written c.rounds.text.items c.take_round.new.text.items) went
          (c.take_round.ensures.leads x before so_far.written so_far.came) in
          writes_all x _ _ before _ _ _ _ so_far.written _ _ so_far.wrote led (c.write_waiting.ensures.whole all) (c.write_waiting.ensures.none all);
      sink = c.write_waiting.ensures.kept all ∙ inv.sink;
      link = c.take_round.ensures.kept (not_failed c.take_round.result c.in-Ok.rounded c.in-Ok.is) ∙ inv.link;
    }

pub returns-in-Err-Failed-clause-ran : goal.returns-in-Err-Failed-clause-ran
returns-in-Err-Failed-clause-ran g c = λ scene seed before came.
    let inv = c.rounds.invariant in
    let so_far = inv.rounding scene seed before came in
    let s = setting_in c.args.network.now.world.plant.net in
    let x : Plan = plan_of s scene seed in
    let r = subst (Rounds _ x c.take_round.new.network c.take_round.new.course so_far.came.at (g.N.Link.told c.rounds.link) (g.N.Link.told c.take_round.new.link) c.rounds.text.items c.take_round.new.text.items)
    (c.in-Err-Failed.is ∙ ap Err c.in-Err-Failed.field-0-is) (c.take_round.ensures.rounds x so_far.came.at so_far.came.stands) in
    round_failed s scene seed _ _ before _ _ _ _ _ inv.waits so_far (lawful_here c.args.network.now.world.plant.net so_far.came.at c.rounds.network.world inv.ready.valid inv.net so_far.came.stands.0.stands inv.laws) r.1

pub returns-in-Err-Memory-clause-ran : goal.returns-in-Err-Memory-clause-ran
returns-in-Err-Memory-clause-ran g c = λ scene seed before came.
    let inv = c.rounds.invariant in
    let so_far = inv.rounding scene seed before came in
    let s = setting_in c.args.network.now.world.plant.net in
    let x : Plan = plan_of s scene seed in
    let r = subst (Rounds _ x c.take_round.new.network c.take_round.new.course so_far.came.at (g.N.Link.told c.rounds.link) (g.N.Link.told c.take_round.new.link) c.rounds.text.items c.take_round.new.text.items)
    (c.in-Err-Memory.is ∙ ap Err c.in-Err-Memory.field-0-is) (c.take_round.ensures.rounds x so_far.came.at so_far.came.stands) in
    round_lacks s scene seed _ _ before _ _ _ _ _ inv.waits so_far (lawful_here c.args.network.now.world.plant.net so_far.came.at c.rounds.network.world inv.ready.valid inv.net so_far.came.stands.0.stands inv.laws) r

pub returns-then-not-write_waiting-clause-ran : goal.returns-then-not-write_waiting-clause-ran
returns-then-not-write_waiting-clause-ran g c = λ scene seed before came.
    let inv = c.rounds.invariant in
    let so_far = inv.rounding scene seed before came in
    let cut : c.write_waiting.result ≡ false = search rules in
    let s = setting_in c.args.network.now.world.plant.net in
    let x : Plan = plan_of s scene seed in
    let led = subst (Leads _ x c.take_round.new.network c.take_round.new.course before (g.N.Link.told c.take_round.new.link) so_far.written c.rounds.text.items c.take_round.new.text.items) c.in-Ok.is
    (c.take_round.ensures.leads x before so_far.written so_far.came) in
    let now = came_by x c.take_round.new.network c.take_round.new.course before _ so_far.written _ c.take_round.new.text.items c.in-Ok.rounded led in
    unwritten s scene seed _ before _ _ _ _ so_far.written _ now
    (lawful_here c.args.network.now.world.plant.net (place now.last) c.take_round.new.network.world c.take_round.ensures.valid (c.take_round.ensures.net ∙ inv.net) now.stands (laws_stay (λ f x y. g.F.Fn.post f (x, tt) y) (setting_in c.args.network.now.world.plant.net) c.rounds.network.world c.take_round.new.network.world c.take_round.ensures.laws inv.laws))
    so_far.wrote (c.write_waiting.ensures.cut cut)

-- The link

memory_linked : OutOfMemory ≡ LinkFault → ⊥
memory_linked e = cc

write_linked : WriteFault ≡ LinkFault → ⊥
write_linked e = cc

memory_failed : (r : Result Rounded LoopFault) → r ≡ Err faults.Memory → r ≡ Err faults.Failed → ⊥
memory_failed r is bad = let both : Err faults.Memory ≡ Err faults.Failed = sym is ∙ bad in cc

pub returns-in-Err-Failed-clause-linked : goal.returns-in-Err-Failed-clause-linked
returns-in-Err-Failed-clause-linked g c = record {
  failed = λ is. subst (λ (n : ℕ). Rose n (g.N.Link.faults c.take_round.new.link)) c.rounds.invariant.link (c.take_round.ensures.rose (c.in-Err-Failed.is ∙ ap Err c.in-Err-Failed.field-0-is));
  sound = λ other. absurd (other refl);
}

pub returns-in-Err-Memory-clause-linked : goal.returns-in-Err-Memory-clause-linked
returns-in-Err-Memory-clause-linked g c = record {
  failed = λ is. absurd (memory_linked is);
  sound = λ other. c.take_round.ensures.kept (memory_failed c.take_round.result (c.in-Err-Memory.is ∙ ap Err c.in-Err-Memory.field-0-is)) ∙ c.rounds.invariant.link;
}

pub returns-then-not-write_waiting-clause-linked : goal.returns-then-not-write_waiting-clause-linked
returns-then-not-write_waiting-clause-linked g c = record {
  failed = λ is. absurd (write_linked is);
  sound = λ other. c.take_round.ensures.kept (not_failed c.take_round.result c.in-Ok.rounded c.in-Ok.is) ∙ c.rounds.invariant.link;
}

pub returns-in-Over-clause-linked : goal.returns-in-Over-clause-linked
returns-in-Over-clause-linked g c = record {
  failed = λ is. absurd (c.close.ensures.unlinked is);
  sound = λ other. c.take_round.ensures.kept (not_failed c.take_round.result c.in-Ok.rounded c.in-Ok.is) ∙ c.rounds.invariant.link;
}

pub returns-in-TooLarge-clause-linked : goal.returns-in-TooLarge-clause-linked
returns-in-TooLarge-clause-linked g c = record {
  failed = λ is. absurd (large_unlinked c.overrun.result _ _ _ c.overrun.ensures.closes is);
  sound = λ other. c.take_round.ensures.kept (not_failed c.take_round.result c.in-Ok.rounded c.in-Ok.is) ∙ c.rounds.invariant.link;
}

-- The sink

pub returns-then-not-write_waiting-clause-rose : goal.returns-then-not-write_waiting-clause-rose
returns-then-not-write_waiting-clause-rose g c = λ is.
    let cut : c.write_waiting.result ≡ false = search rules in
    subst (λ (n : ℕ). Rose n (g.K.Sink.faults c.write_waiting.new.sink)) c.rounds.invariant.sink (c.write_waiting.ensures.rose cut)

pub returns-in-Over-clause-rose : goal.returns-in-Over-clause-rose
returns-in-Over-clause-rose g c = λ is.
    let all : c.write_waiting.result ≡ true = search rules in
    subst (λ (n : ℕ). Rose n (g.K.Sink.faults c.close.new.sink)) (c.write_waiting.ensures.kept all ∙ c.rounds.invariant.sink) (c.close.ensures.rose is)

pub returns-in-Over-clause-kept : goal.returns-in-Over-clause-kept
returns-in-Over-clause-kept g c = λ other.
    let all : c.write_waiting.result ≡ true = search rules in
    c.close.ensures.kept other ∙ c.write_waiting.ensures.kept all ∙ c.rounds.invariant.sink

pub returns-in-TooLarge-clause-rose : goal.returns-in-TooLarge-clause-rose
returns-in-TooLarge-clause-rose g c = λ is.
    let all : c.write_waiting.result ≡ true = search rules in
    subst (λ (n : ℕ). Rose n (g.K.Sink.faults c.overrun.new.sink)) (c.write_waiting.ensures.kept all ∙ c.rounds.invariant.sink) (c.overrun.ensures.rose is)

pub returns-in-TooLarge-clause-kept : goal.returns-in-TooLarge-clause-kept
returns-in-TooLarge-clause-kept g c = λ other.
    let all : c.write_waiting.result ≡ true = search rules in
    c.overrun.ensures.kept other ∙ c.write_waiting.ensures.kept all ∙ c.rounds.invariant.sink

-- The ends

pub returns-in-Over-clause-ran : goal.returns-in-Over-clause-ran
returns-in-Over-clause-ran g c = λ scene seed before came.
    let inv = c.rounds.invariant in
    let all : c.write_waiting.result ≡ true = search rules in
    let so_far = inv.rounding scene seed before came in
    let s = setting_in c.args.network.now.world.plant.net in
    let x : Plan = plan_of s scene seed in
    let led = subst (Leads _ x c.take_round.new.network c.take_round.new.course before (g.N.Link.told c.take_round.new.link) so_far.written c.rounds.text.items c.take_round.new.text.items)
    (c.in-Ok.is ∙ ap Ok c.in-Over.is) (c.take_round.ensures.leads x before so_far.written so_far.came) in
    let law = lawful_here c.args.network.now.world.plant.net (place led.1.last) c.take_round.new.network.world c.take_round.ensures.valid (c.take_round.ensures.net ∙ inv.net) led.1.stands
    (laws_stay (λ f x y. g.F.Fn.post f (x, tt) y) s c.rounds.network.world c.take_round.new.network.world c.take_round.ensures.laws inv.laws) in
    over_ran s scene seed _ _ before _ _ _ _ (so_far.written ++ c.take_round.new.text.items) c.write_waiting.new.text.items c.close.result led.1 law
    (Appends-trans _ _ _ so_far.written c.take_round.new.text.items so_far.wrote (c.write_waiting.ensures.whole all)) (c.write_waiting.ensures.none all) (c.close.ensures.closes s (place led.1.last) led.1.stands led.1.forged)

pub returns-in-TooLarge-clause-ran : goal.returns-in-TooLarge-clause-ran
returns-in-TooLarge-clause-ran g c = λ scene seed before came.
    let inv = c.rounds.invariant in
    let all : c.write_waiting.result ≡ true = search rules in
    let so_far = inv.rounding scene seed before came in
    let s = setting_in c.args.network.now.world.plant.net in
    let x : Plan = plan_of s scene seed in
    let led = subst (Leads _ x c.take_round.new.network c.take_round.new.course before (g.N.Link.told c.take_round.new.link) so_far.written c.rounds.text.items c.take_round.new.text.items)
    (c.in-Ok.is ∙ ap Ok c.in-TooLarge.is) (c.take_round.ensures.leads x before so_far.written so_far.came) in
    let law = lawful_here c.args.network.now.world.plant.net (place led.last) c.take_round.new.network.world c.take_round.ensures.valid (c.take_round.ensures.net ∙ inv.net) led.stands
    (laws_stay (λ f x y. g.F.Fn.post f (x, tt) y) s c.rounds.network.world c.take_round.new.network.world c.take_round.ensures.laws inv.laws) in
    large_ran s scene seed _ _ before _ _ _ _ (so_far.written ++ c.take_round.new.text.items) c.write_waiting.new.text.items c.overrun.result led law
    (Appends-trans _ _ _ so_far.written c.take_round.new.text.items so_far.wrote (c.write_waiting.ensures.whole all)) (c.write_waiting.ensures.none all) c.overrun.ensures.closes
