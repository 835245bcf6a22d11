use Rattle.wrp_changes.proofs.QuietSteps.{put_both, room_there, spare_there, told_both}
use Rattle.wrp_changes.proofs.telling.tell.Goals as goal

pub returns-clause-told : goal.returns-clause-told
returns-clause-told c =
    told_both c.args.news.now c.args.outs.now c.args.plant.now c.step_clock.new.plant c.tell_where.new.plant c.step_clock.ensures.same c.step_clock.ensures.clocks c.tell_where.ensures

pub returns-clause-room : goal.returns-clause-room
returns-clause-room c k h = c.tell_where.ensures.room k (room_there _ c.args.plant.now c.step_clock.new.plant c.step_clock.ensures.same h)

pub returns-clause-put : goal.returns-clause-put
returns-clause-put c =
    put_both c.args.news.now c.args.outs.now c.args.plant.now c.step_clock.new.plant c.tell_where.new.plant c.step_clock.ensures.same c.tell_where.ensures

pub returns-clause-spare : goal.returns-clause-spare
returns-clause-spare c h = c.tell_where.ensures.spare (spare_there c.args.plant.now c.step_clock.new.plant c.step_clock.ensures.same h)

pub tell_where-requires-clause-room : goal.tell_where-requires-clause-room
tell_where-requires-clause-room c = room_there _ c.args.plant.now c.step_clock.new.plant c.step_clock.ensures.same c.requires.room
