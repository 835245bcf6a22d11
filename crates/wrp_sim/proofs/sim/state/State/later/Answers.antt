use Rattle.std.proofs.Common.{◌∙◌, subst, Some}
use Rattle.wrp_sim.specs.Rules.{arrives, delivers, departs, passes, samples, ticks}
use Rattle.wrp_scene.specs.Scenario.{SceneAt}
use Rattle.wrp_sim.specs.Sim.{Gave, put}
use Rattle.wrp_sim.proofs.Turns.{by_last, by_later, first_gave, passes_on, put_none, put_one}
use Rattle.wrp_sim.proofs.sim.state.State.later.Goals as goal

pub returns-then-sample-clause-follows : goal.returns-then-sample-clause-follows
returns-then-sample-clause-follows g c s w at h i =
    first_gave at (samples c.args.self.now.scene s w at) _ (put c.sample.result c.sample.new.event) c.sample.new.event c.sample.new.self (put_one c.sample.result c.sample.new.event c.if-sample.true) (c.sample.ensures.follows s w at h i)

pub returns-then-depart-clause-follows : goal.returns-then-depart-clause-follows
returns-then-depart-clause-follows g c s w at h i =
    let at0 = passes_on at (samples c.args.self.now.scene s w at) _ c.sample.new.self (put_none c.sample.result c.sample.new.event c.if-sample.false) (c.sample.ensures.follows s w at h i) in
    by_later at (samples c.args.self.now.scene s w at) _ (Some c.depart.new.event) c.depart.new.self at0.0
    (first_gave at (departs s w at) _ (put c.depart.result c.depart.new.event) c.depart.new.event c.depart.new.self (put_one c.depart.result c.depart.new.event c.if-depart.true) (c.depart.ensures.follows s w at h at0.1))

pub returns-then-deliver-clause-follows : goal.returns-then-deliver-clause-follows
returns-then-deliver-clause-follows g c s w at h i =
    let at0 = passes_on at (samples c.args.self.now.scene s w at) _ c.sample.new.self (put_none c.sample.result c.sample.new.event c.if-sample.false) (c.sample.ensures.follows s w at h i) in
    let at1 = passes_on at (departs s w at) _ c.depart.new.self (put_none c.depart.result c.depart.new.event c.if-depart.false) (c.depart.ensures.follows s w at h at0.1) in
    by_later at (samples c.args.self.now.scene s w at) _ (Some c.deliver.new.event) c.deliver.new.self at0.0
    (by_later at (departs s w at) _ (Some c.deliver.new.event) c.deliver.new.self at1.0
    (first_gave at (delivers at) _ (put c.deliver.result c.deliver.new.event) c.deliver.new.event c.deliver.new.self (put_one c.deliver.result c.deliver.new.event c.if-deliver.true) (c.deliver.ensures.follows at at1.1)))

pub returns-then-arrive-clause-follows : goal.returns-then-arrive-clause-follows
returns-then-arrive-clause-follows g c s w at h i =
    let at0 = passes_on at (samples c.args.self.now.scene s w at) _ c.sample.new.self (put_none c.sample.result c.sample.new.event c.if-sample.false) (c.sample.ensures.follows s w at h i) in
    let at1 = passes_on at (departs s w at) _ c.depart.new.self (put_none c.depart.result c.depart.new.event c.if-depart.false) (c.depart.ensures.follows s w at h at0.1) in
    let at2 = passes_on at (delivers at) _ c.deliver.new.self (put_none c.deliver.result c.deliver.new.event c.if-deliver.false) (c.deliver.ensures.follows at at1.1) in
    by_later at (samples c.args.self.now.scene s w at) _ (Some c.arrive.new.event) c.arrive.new.self at0.0
    (by_later at (departs s w at) _ (Some c.arrive.new.event) c.arrive.new.self at1.0
    (by_later at (delivers at) _ (Some c.arrive.new.event) c.arrive.new.self at2.0
    (first_gave at (arrives c.args.self.now.scene s w c.args.due at) _ (put c.arrive.result c.arrive.new.event) c.arrive.new.event c.arrive.new.self (put_one c.arrive.result c.arrive.new.event c.if-arrive.true) (subst (λ (x : SceneAt). Gave at (arrives x s w c.args.due at) (put c.arrive.result c.arrive.new.event) c.arrive.new.self) ((c.deliver.ensures.stays c.args.world.now.plant.net.cfg c.depart.ensures.stays.fits).scene ∙ c.depart.ensures.stays.scene ∙ c.sample.ensures.stays.scene) (c.arrive.ensures.follows s w at h at2.1)))))

pub returns-then-tick-clause-follows : goal.returns-then-tick-clause-follows
returns-then-tick-clause-follows g c s w at h i =
    let at0 = passes_on at (samples c.args.self.now.scene s w at) _ c.sample.new.self (put_none c.sample.result c.sample.new.event c.if-sample.false) (c.sample.ensures.follows s w at h i) in
    let at1 = passes_on at (departs s w at) _ c.depart.new.self (put_none c.depart.result c.depart.new.event c.if-depart.false) (c.depart.ensures.follows s w at h at0.1) in
    let at2 = passes_on at (delivers at) _ c.deliver.new.self (put_none c.deliver.result c.deliver.new.event c.if-deliver.false) (c.deliver.ensures.follows at at1.1) in
    let at3 = passes_on at (arrives c.args.self.now.scene s w c.args.due at) _ c.arrive.new.self (put_none c.arrive.result c.arrive.new.event c.if-arrive.false) (subst (λ (x : SceneAt). Gave at (arrives x s w c.args.due at) (put c.arrive.result c.arrive.new.event) c.arrive.new.self) ((c.deliver.ensures.stays c.args.world.now.plant.net.cfg c.depart.ensures.stays.fits).scene ∙ c.depart.ensures.stays.scene ∙ c.sample.ensures.stays.scene) (c.arrive.ensures.follows s w at h at2.1)) in
    by_later at (samples c.args.self.now.scene s w at) _ (Some c.tick.new.event) c.tick.new.self at0.0
    (by_later at (departs s w at) _ (Some c.tick.new.event) c.tick.new.self at1.0
    (by_later at (delivers at) _ (Some c.tick.new.event) c.tick.new.self at2.0
    (by_later at (arrives c.args.self.now.scene s w c.args.due at) _ (Some c.tick.new.event) c.tick.new.self at3.0
    (first_gave at (ticks s w at) _ (put c.tick.result c.tick.new.event) c.tick.new.event c.tick.new.self (put_one c.tick.result c.tick.new.event c.if-tick.true) (c.tick.ensures.follows s w at h at3.1)))))

pub returns-clause-follows : goal.returns-clause-follows
returns-clause-follows g c s w at h i =
    let at0 = passes_on at (samples c.args.self.now.scene s w at) _ c.sample.new.self (put_none c.sample.result c.sample.new.event c.if-sample.false) (c.sample.ensures.follows s w at h i) in
    let at1 = passes_on at (departs s w at) _ c.depart.new.self (put_none c.depart.result c.depart.new.event c.if-depart.false) (c.depart.ensures.follows s w at h at0.1) in
    let at2 = passes_on at (delivers at) _ c.deliver.new.self (put_none c.deliver.result c.deliver.new.event c.if-deliver.false) (c.deliver.ensures.follows at at1.1) in
    let at3 = passes_on at (arrives c.args.self.now.scene s w c.args.due at) _ c.arrive.new.self (put_none c.arrive.result c.arrive.new.event c.if-arrive.false) (subst (λ (x : SceneAt). Gave at (arrives x s w c.args.due at) (put c.arrive.result c.arrive.new.event) c.arrive.new.self) ((c.deliver.ensures.stays c.args.world.now.plant.net.cfg c.depart.ensures.stays.fits).scene ∙ c.depart.ensures.stays.scene ∙ c.sample.ensures.stays.scene) (c.arrive.ensures.follows s w at h at2.1)) in
    let at4 = passes_on at (ticks s w at) _ c.tick.new.self (put_none c.tick.result c.tick.new.event c.if-tick.false) (c.tick.ensures.follows s w at h at3.1) in
    by_later at (samples c.args.self.now.scene s w at) _ (put c.pass.result c.pass.new.event) c.pass.new.self at0.0
    (by_later at (departs s w at) _ (put c.pass.result c.pass.new.event) c.pass.new.self at1.0
    (by_later at (delivers at) _ (put c.pass.result c.pass.new.event) c.pass.new.self at2.0
    (by_later at (arrives c.args.self.now.scene s w c.args.due at) _ (put c.pass.result c.pass.new.event) c.pass.new.self at3.0
    (by_later at (ticks s w at) _ (put c.pass.result c.pass.new.event) c.pass.new.self at4.0
    (by_last at (passes c.args.self.now.scene s w c.args.due at) (put c.pass.result c.pass.new.event) c.pass.new.self (subst (λ (x : SceneAt). Gave at (passes x s w c.args.due at) (put c.pass.result c.pass.new.event) c.pass.new.self) (c.tick.ensures.stays.scene ∙ c.arrive.ensures.stays.scene ∙ (c.deliver.ensures.stays c.args.world.now.plant.net.cfg c.depart.ensures.stays.fits).scene ∙ c.depart.ensures.stays.scene ∙ c.sample.ensures.stays.scene) (c.pass.ensures.follows s w at h at4.1)))))))
