use Rattle.std.proofs.Common.{sym, subst, arith}
use Rattle.wrp_changes.specs.Moves.{EachBecame}
use Rattle.wrp_changes.specs.PlantTold.{TellsAt}
use Rattle.wrp_changes.specs.Room.{HasRoom}
use Rattle.wrp_plant.proofs.SignedReads.{read}
use Rattle.wrp_changes.proofs.telling.tell_ends.Goals as goal

pub returns-clause-spans : goal.returns-clause-spans
returns-clause-spans c =
    subst (λ p. EachBecame (TellsAt c.args.plant.now.time c.args.news.now c.args.outs.now c.args.plant.now.net.cfg.links.items) c.args.plant.now.spans.items p.spans.items) (sym c.note.ensures)
    (subst (λ t. EachBecame (TellsAt t c.args.news.now c.args.outs.now c.args.plant.now.net.cfg.links.items) c.args.plant.now.spans.items c.tell.new.spans.items)
    (read c.args.plant.now.time (omega (arith, c.requires.time))) c.tell.ensures.told)

pub returns-clause-room : goal.returns-clause-room
returns-clause-room c k h = subst (HasRoom k) (sym c.note.ensures) (c.tell.ensures.room k h)
