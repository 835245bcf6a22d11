use Rattle.std.proofs.Common.{◌∙◌, ap, sym, Bool, if◌then◌else◌, None}
use Rattle.wrp_sim.specs.Departures.{told_at}
use Rattle.wrp_sim.proofs.sim.departing.departing_at.Goals as goal

pub returns-then-is_put_out_now-clause-value : goal.returns-then-is_put_out_now-clause-value
returns-then-is_put_out_now-clause-value g c s w h =
    c.told_at.ensures.value s w h
    ∙ sym (ap (λ (b : Bool). if b then told_at s w c.args.place.link c.args.place.role else None) (sym (c.is_put_out_now.ensures s w h) ∙ c.if-is_put_out_now.true))

pub returns-else-is_put_out_now-clause-value : goal.returns-else-is_put_out_now-clause-value
returns-else-is_put_out_now-clause-value g c s w h =
    sym (ap (λ (b : Bool). if b then told_at s w c.args.place.link c.args.place.role else None) (sym (c.is_put_out_now.ensures s w h) ∙ c.if-is_put_out_now.false))
