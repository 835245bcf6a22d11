-- It is also said, and the other fibres are as before.
use Rattle.std.proofs.Common.{refl}
use Rattle.wrp_trace.specs.Places.{moves_in}
use Rattle.wrp_trace.proofs.PlaceLemmas.{move_said_in, put_fibres}
use Rattle.wrp_trace.proofs.events.marks.Marks.put_move.Goals as goal

pub returns-clause-said : goal.returns-clause-said
returns-clause-said c =
    move_said_in c.args.self.now.links.items c.set_mark.new.marks.items (moves_in c.args.event.now) (moves_in c.write_move.new.event) c.args.l c.from.result c.from-2.result c.args.moving
    c.from.ensures c.from-2.ensures c.requires.marks c.requires.moves c.set_mark.ensures c.write_move.ensures.set

pub returns-clause-fibres : goal.returns-clause-fibres
returns-clause-fibres c =
    put_fibres c.args.self.now _ c.args.event.now c.write_move.new.event c.args.l c.from.result c.from-2.result c.args.moving
    c.from.ensures c.from-2.ensures c.requires.rest c.write_move.ensures.only refl refl c.set_mark.ensures c.write_move.ensures.set
