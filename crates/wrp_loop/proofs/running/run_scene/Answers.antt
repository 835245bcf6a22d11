-- The network and its simulator are new, the sink takes an empty piece, and the link is started.
use Rattle.std.proofs.Common.{◌≡◌, ◌∙◌, ap, true, false, refl, rules, subst, sym, ℕ, Ok, Err, Result}
use Rattle.std.proofs.KnownBytes.{Appends-nil}
use Rattle.std.specs.Result.{OnErr}
use Rattle.wrp_config.specs.declared.network.Network.{Network}
use Rattle.wrp_io.specs.Faults.{Rose}
use Rattle.wrp_loop.specs.declared.outcome.LoopFault.{LoopFault}
use Rattle.wrp_loop.specs.declared.outcome.LoopFault.TheVariants as faults
use Rattle.wrp_loop.specs.SoFar.{Starts}
use Rattle.wrp_records.specs.declared.status.Status.TheVariants.{LinkFault, OutOfMemory}
use Rattle.wrp_network_world.specs.NetworkSetting.{setting_in}
use Rattle.wrp_loop.specs.LoopPasses.{Ran}
use Rattle.wrp_loop.specs.Loops.{plan_of}
use Rattle.wrp_loop.proofs.LoopSteps.{first_loop, no_calls, not_open, not_started, nothing_ran, own_laws, ran_open}
use Rattle.wrp_loop.proofs.running.run_scene.Goals as goal

pub returns-in-Err-clause-ran : goal.returns-in-Err-clause-ran
returns-in-Err-clause-ran g c = nothing_ran (setting_in c.args.net) c.args.scene c.args.seed _ _ _ _ (no_calls _) (Appends-nil _)

pub returns-in-Err-new-clause-ran : goal.returns-in-Err-new-clause-ran
returns-in-Err-new-clause-ran g c = nothing_ran (setting_in c.args.net) c.args.scene c.args.seed _ _ _ _ (no_calls _) (Appends-nil _)

pub new-requires-2-clause-laws : goal.new-requires-2-clause-laws
new-requires-2-clause-laws g c = λ n law is. (c.requires.laws.each n law is).fits

pub start_loop-requires-clause-begins : goal.start_loop-requires-clause-begins
start_loop-requires-clause-begins g c = (
  plan_of (setting_in c.in-Ok-new.network.world.plant.net) c.args.scene c.args.seed,
  first_loop c.args.net c.args.laws.items c.args.scene c.args.seed c.in-Ok-new.network c.in-Ok.course c.requires.laws c.requires.accepted.tree c.in-Ok-new.ensures.net c.in-Ok-new.ensures.stands c.requires.scene
      c.in-Ok.ensures.begins c.in-Ok.ensures.scene c.in-Ok.ensures.none c.in-Ok.ensures.forged c.in-Ok.ensures.came c.in-Ok.ensures.handed,
)

pub run_rounds-requires-clause-laws : goal.run_rounds-requires-clause-laws
run_rounds-requires-clause-laws g c = own_laws c.args.net c.args.laws.items c.in-Ok-new.network.world c.requires.laws c.in-Ok-new.ensures.laws c.in-Ok-new.ensures.ready c.in-Ok-new.ensures.net

-- If the sink failed

pub returns-then-not-is_open-clause-ran : goal.returns-then-not-is_open-clause-ran
returns-then-not-is_open-clause-ran g c = not_open (setting_in c.args.net) c.args.scene c.args.seed _ _ _ _ (no_calls _) c.is_open.ensures.none

-- If the link was started

started : (r : Result (Unit {0}) LoopFault) → (done : Unit {0}) → r ≡ Ok done → r ≡ Err faults.Failed → ⊥
started r done is bad = let both : Ok done ≡ Err faults.Failed = sym is ∙ bad in cc

pub returns-in-Ok-start_loop-clause-ran : goal.returns-in-Ok-start_loop-clause-ran
returns-in-Ok-start_loop-clause-ran g c =
    let x = plan_of (setting_in c.in-Ok-new.network.world.plant.net) c.args.scene c.args.seed in
    let begins = first_loop c.args.net c.args.laws.items c.args.scene c.args.seed c.in-Ok-new.network c.in-Ok.course c.requires.laws c.requires.accepted.tree c.in-Ok-new.ensures.net c.in-Ok-new.ensures.stands c.requires.scene
    c.in-Ok.ensures.begins c.in-Ok.ensures.scene c.in-Ok.ensures.none c.in-Ok.ensures.forged c.in-Ok.ensures.came c.in-Ok.ensures.handed in
    let came = subst (Starts _ x c.in-Ok-new.network c.in-Ok.course (g.N.Link.told c.args.link.now) (g.N.Link.told c.start_loop.new.link)) c.in-Ok-start_loop.is (c.start_loop.ensures.starts x begins) in
    ran_open (setting_in c.args.net) c.args.scene c.args.seed (g.N.Link.told c.args.link.now) (g.N.Link.told c.run_rounds.new.link) (g.K.Sink.held c.args.sink.now) (g.K.Sink.held c.is_open.new.sink)
    (g.K.Sink.held c.run_rounds.new.sink) c.run_rounds.result c.is_open.ensures.none
    (subst
    (λ (k : Network). Ran (setting_in k) c.args.scene c.args.seed (g.N.Link.told c.args.link.now) (g.N.Link.told c.run_rounds.new.link) (g.K.Sink.held c.is_open.new.sink) (g.K.Sink.held c.run_rounds.new.sink) c.run_rounds.result)
    c.in-Ok-new.ensures.net (c.run_rounds.ensures.ran c.args.scene c.args.seed (g.N.Link.told c.args.link.now) came))

pub returns-in-Ok-start_loop-clause-linked : goal.returns-in-Ok-start_loop-clause-linked
returns-in-Ok-start_loop-clause-linked g c =
    let kept = c.start_loop.ensures.kept (started c.start_loop.result _ c.in-Ok-start_loop.is) in
    record {
      failed = λ is. subst (λ (n : ℕ). Rose n (g.N.Link.faults c.run_rounds.new.link)) kept (c.run_rounds.ensures.linked.failed is);
      sound = λ other. c.run_rounds.ensures.linked.sound other ∙ kept;
    }

-- If the link was not started

err_told : (r : Result (Unit {0}) LoopFault) (fault : LoopFault) (P : Type 0) → r ≡ Err fault → OnErr r P → P
err_told r fault P is h = subst (λ (k : Result (Unit {0}) LoopFault). OnErr k P) is h

memory_linked : OutOfMemory ≡ LinkFault → ⊥
memory_linked e = cc

memory_failed : (r : Result (Unit {0}) LoopFault) → r ≡ Err faults.Memory → r ≡ Err faults.Failed → ⊥
memory_failed r is bad = let both : Err faults.Memory ≡ Err faults.Failed = sym is ∙ bad in cc

pub returns-in-Err-Failed-clause-ran : goal.returns-in-Err-Failed-clause-ran
returns-in-Err-Failed-clause-ran g c =
    let same = err_told c.start_loop.result _ _ (c.in-Err-Failed.is ∙ ap Err c.in-Err-Failed.field-0-is) c.start_loop.ensures.told in
    not_started (setting_in c.args.net) c.args.scene c.args.seed _ _ _ _ (same ∙ no_calls _) c.is_open.ensures.none

pub returns-in-Err-Failed-clause-linked : goal.returns-in-Err-Failed-clause-linked
returns-in-Err-Failed-clause-linked g c = record {
  failed = λ is. c.start_loop.ensures.rose (c.in-Err-Failed.is ∙ ap Err c.in-Err-Failed.field-0-is);
  sound = λ other. absurd (other refl);
}

pub returns-clause-ran : goal.returns-clause-ran
returns-clause-ran g c =
    let same = err_told c.start_loop.result _ _ (c.in-Err-Memory.is ∙ ap Err c.in-Err-Memory.field-0-is) c.start_loop.ensures.told in
    nothing_ran (setting_in c.args.net) c.args.scene c.args.seed _ _ _ _ (same ∙ no_calls _) c.is_open.ensures.none

pub returns-clause-linked : goal.returns-clause-linked
returns-clause-linked g c = record {
  failed = λ is. absurd (memory_linked is);
  sound = λ other. c.start_loop.ensures.kept (memory_failed c.start_loop.result (c.in-Err-Memory.is ∙ ap Err c.in-Err-Memory.field-0-is));
}

-- The faults of the sink

pub returns-then-not-is_open-clause-rose : goal.returns-then-not-is_open-clause-rose
returns-then-not-is_open-clause-rose g c = λ is. let closed : c.is_open.result ≡ false = search rules in c.is_open.ensures.rose closed

pub returns-in-Ok-start_loop-clause-rose : goal.returns-in-Ok-start_loop-clause-rose
returns-in-Ok-start_loop-clause-rose g c = λ is.
    let taken : c.is_open.result ≡ true = search rules in
    subst (λ (n : ℕ). Rose n (g.K.Sink.faults c.run_rounds.new.sink)) (c.is_open.ensures.kept taken) (c.run_rounds.ensures.rose is)

pub returns-in-Ok-start_loop-clause-kept : goal.returns-in-Ok-start_loop-clause-kept
returns-in-Ok-start_loop-clause-kept g c = λ other. let taken : c.is_open.result ≡ true = search rules in c.run_rounds.ensures.kept other ∙ c.is_open.ensures.kept taken

pub returns-in-Err-Failed-clause-kept : goal.returns-in-Err-Failed-clause-kept
returns-in-Err-Failed-clause-kept g c = λ other. let taken : c.is_open.result ≡ true = search rules in c.is_open.ensures.kept taken

pub returns-clause-kept : goal.returns-clause-kept
returns-clause-kept g c = λ other. let taken : c.is_open.result ≡ true = search rules in c.is_open.ensures.kept taken
