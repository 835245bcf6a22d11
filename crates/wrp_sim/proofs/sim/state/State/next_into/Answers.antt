use Rattle.std.proofs.Common.{◌∙◌, refl, subst, Some}
use Rattle.wrp_sim.specs.Rules.{begins, fails, first_of, later_rules, next_of, rest_of}
use Rattle.wrp_scene.specs.Scenario.{SceneAt}
use Rattle.wrp_sim.specs.Sim.{Gave, put}
use Rattle.wrp_sim.proofs.Ends.{due_on}
use Rattle.wrp_sim.proofs.Turns.{by_later, first_gave, passes_on, put_none, put_one, whatever_stays}
use Rattle.wrp_sim.proofs.sim.state.State.next_into.Goals as goal

pub later-requires-clause-due : goal.later-requires-clause-due
later-requires-clause-due g c = due_on _ c.args.world.now c.next_arrival-due.result c.next_arrival-due.ensures

pub returns-then-begin-clause-follows : goal.returns-then-begin-clause-follows
returns-then-begin-clause-follows g c s w at h i = record {
  next = next_of c.args.self.now.scene s w c.next_arrival-due.result at;
  gives = record { due = c.next_arrival-due.result; first = c.next_arrival-due.ensures s w h; next = refl };
  gave =
      whatever_stays at (rest_of s w at) (next_of c.args.self.now.scene s w c.next_arrival-due.result at) c.begin.new.event c.begin.new.self
      (first_gave at (begins c.args.self.now.scene s w at) _ (put c.begin.result c.begin.new.event) c.begin.new.event c.begin.new.self
      (put_one c.begin.result c.begin.new.event c.if-begin.true) (c.begin.ensures.follows s w at h i));
}

pub returns-then-fail-clause-follows : goal.returns-then-fail-clause-follows
returns-then-fail-clause-follows g c s w at h i =
    let begun = passes_on at (begins c.args.self.now.scene s w at) _ c.begin.new.self (put_none c.begin.result c.begin.new.event c.if-begin.false) (c.begin.ensures.follows s w at h i) in
    record {
      next = next_of c.args.self.now.scene s w c.next_arrival-due.result at;
      gives = record { due = c.next_arrival-due.result; first = c.next_arrival-due.ensures s w h; next = refl };
      gave =
          by_later (rest_of s w at) (begins c.args.self.now.scene s w at) _ (Some c.fail.new.event) c.fail.new.self begun.0
          (first_gave (rest_of s w at) (fails c.args.self.now.scene s w at) _ (put c.fail.result c.fail.new.event) c.fail.new.event c.fail.new.self
          (put_one c.fail.result c.fail.new.event c.if-fail.true)
          (subst (λ (x : SceneAt). Gave (rest_of s w at) (fails x s w at) (put c.fail.result c.fail.new.event) c.fail.new.self) c.begin.ensures.stays.scene
          (c.fail.ensures.follows s w at h begun.1)));
    }

pub returns-clause-follows : goal.returns-clause-follows
returns-clause-follows g c s w at h i =
    let begun = passes_on at (begins c.args.self.now.scene s w at) _ c.begin.new.self (put_none c.begin.result c.begin.new.event c.if-begin.false) (c.begin.ensures.follows s w at h i) in
    let failed =
    passes_on (rest_of s w at) (fails c.args.self.now.scene s w at) _ c.fail.new.self (put_none c.fail.result c.fail.new.event c.if-fail.false)
    (subst (λ (x : SceneAt). Gave (rest_of s w at) (fails x s w at) (put c.fail.result c.fail.new.event) c.fail.new.self) c.begin.ensures.stays.scene
    (c.fail.ensures.follows s w at h begun.1)) in
    record {
      next = next_of c.args.self.now.scene s w c.next_arrival-due.result at;
      gives = record { due = c.next_arrival-due.result; first = c.next_arrival-due.ensures s w h; next = refl };
      gave =
          by_later (rest_of s w at) (begins c.args.self.now.scene s w at) _ (put c.later.result c.later.new.event) c.later.new.self begun.0
          (by_later (rest_of s w at) (fails c.args.self.now.scene s w at) _ (put c.later.result c.later.new.event) c.later.new.self failed.0
          (subst (λ (x : SceneAt). Gave (rest_of s w at) (first_of (later_rules x s w c.next_arrival-due.result (rest_of s w at))) (put c.later.result c.later.new.event) c.later.new.self)
          (c.fail.ensures.stays.scene ∙ c.begin.ensures.stays.scene) (c.later.ensures.follows s w (rest_of s w at) h failed.1)));
    }
