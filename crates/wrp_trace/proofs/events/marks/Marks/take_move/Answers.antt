-- What is said already, what is said once, and what is no number.
use Rattle.std.proofs.Common.{◌∙◌, sym}
use Rattle.wrp_trace.specs.Changes.{move_in}
use Rattle.wrp_trace.specs.Places.{moves_in}
use Rattle.wrp_trace.proofs.PlaceLemmas.{none_in, once_in, twice_in}
use Rattle.wrp_trace.proofs.events.marks.Marks.take_move.Goals as goal

pub returns-then-is_marked-clause-value : goal.returns-then-is_marked-clause-value
returns-then-is_marked-clause-value c =
    twice_in c.args.self.now.links.items c.deref.result.now (moves_in c.args.event.now) c.args.place c.args.l (move_in c.args.text.now) c.is_marked.result c.name_fault.result
    c.requires.marks c.requires.moves c.deref.ensures.0 c.is_marked.ensures c.if-is_marked.true c.name_fault.ensures

pub returns-in-Some-clause-value : goal.returns-in-Some-clause-value
returns-in-Some-clause-value c =
    once_in c.args.self.now.links.items c.deref.result.now (moves_in c.args.event.now) _ c.args.place c.args.l (move_in c.args.text.now) c.in-Some.moving c.is_marked.result
    c.requires.marks c.requires.moves c.deref.ensures.0 c.is_marked.ensures c.if-is_marked.false (sym c.move_in.ensures.value ∙ c.in-Some.is) c.put_move.ensures.said

pub returns-in-None-clause-value : goal.returns-in-None-clause-value
returns-in-None-clause-value c =
    none_in c.args.self.now.links.items c.deref.result.now (moves_in c.args.event.now) c.args.place c.args.l (move_in c.args.text.now) c.is_marked.result c.number_fault.result
    c.requires.marks c.requires.moves c.deref.ensures.0 c.is_marked.ensures c.if-is_marked.false (sym c.move_in.ensures.value ∙ c.in-None.is) c.number_fault.ensures
