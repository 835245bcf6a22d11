use Rattle.std.proofs.Common.{◌≡◌, ◌∙◌, ap, ap₂, sym, Bool, if◌then◌else◌, None, Some, FitsSigned, true, false, arith}
use Rattle.std.proofs.lemmas.Int.{to_z-of_z}
use Rattle.std.specs.Int.{w128}
use Rattle.std.specs.Ordering.{int_eq}
use Rattle.wrp_sim.specs.Rules.{arrives, arrives_by}
use Rattle.wrp_sim.proofs.Turns.{gave_none, gives_same}
use Rattle.wrp_plant.proofs.SignedReads.{read}
use Rattle.wrp_sim.proofs.sim.state.State.arrive_at.Goals as goal

pub returns-then-is_at-clause-follows : goal.returns-then-is_at-clause-follows
returns-then-is_at-clause-follows g c s w at h i =
    let fits : FitsSigned w128 c.args.due = c.ranges.due in
    let now : int_eq c.args.due w.time ≡ true =
    sym (c.is_at.ensures ∙ ap₂ int_eq (to_z-of_z w128 c.args.due fits) (read c.time-now.result (omega (arith, c.time-now.ensures.size)) ∙ c.time-now.ensures.value s w h)) ∙ c.if-is_at.true in
    gives_same at (arrives_by c.args.self.now.scene s w at c.args.frame) (arrives c.args.self.now.scene s w (Some (c.args.frame, c.args.due)) at) _ c.arrive_now.new.self
    (sym (ap (λ (b : Bool). if b then arrives_by c.args.self.now.scene s w at c.args.frame else None) now)) (c.arrive_now.ensures.follows s w at h i)

pub returns-else-is_at-clause-follows : goal.returns-else-is_at-clause-follows
returns-else-is_at-clause-follows g c s w at h i =
    let fits : FitsSigned w128 c.args.due = c.ranges.due in
    let now : int_eq c.args.due w.time ≡ false =
    sym (c.is_at.ensures ∙ ap₂ int_eq (to_z-of_z w128 c.args.due fits) (read c.time-now.result (omega (arith, c.time-now.ensures.size)) ∙ c.time-now.ensures.value s w h)) ∙ c.if-is_at.false in
    gave_none at (arrives c.args.self.now.scene s w (Some (c.args.frame, c.args.due)) at) _
    (ap (λ (b : Bool). if b then arrives_by c.args.self.now.scene s w at c.args.frame else None) now) i
