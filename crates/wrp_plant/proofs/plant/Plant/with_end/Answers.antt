use Rattle.std.proofs.Common.{◌∙◌, ap, ap₂, sym, Some, if◌then◌else◌}
use Rattle.wrp_course.specs.Setting.{end_at}
use Rattle.wrp_plant.specs.FirstPort.{with_port}
use Rattle.wrp_plant.proofs.plant.Plant.with_end.Goals as goal

pub returns-then-is_put_out : goal.returns-then-is_put_out
returns-then-is_put_out c s w h =
    ap Some c.sooner.ensures
    ∙ sym (ap₂ (λ b o. if b then with_port c.args.first o else c.args.first) (sym (c.is_put_out.ensures s w h) ∙ c.if-is_put_out.true) (c.own_at-port.ensures.value s w h))

pub returns-else-is_put_out : goal.returns-else-is_put_out
returns-else-is_put_out c s w h =
    sym (ap (λ b. if b then with_port c.args.first (end_at s c.args.place.link c.args.place.role) else c.args.first) (sym (c.is_put_out.ensures s w h) ∙ c.if-is_put_out.false))
