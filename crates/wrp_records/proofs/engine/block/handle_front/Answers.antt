-- The line is handled, and then those that follow it; or one of them ends the handling.
use Rattle.std.proofs.Common.{◌+◌, ◌<◌, None, Some, drop, refl, sym, arith}
use Rattle.wrp_records.specs.declared.engine.Ended.TheVariants.{Memory}
use Rattle.wrp_records.specs.Reached.{Comes, Reached}
use Rattle.wrp_records.specs.Reader.{ReaderAt}
use Rattle.wrp_records.specs.Split.{HasParts}
use Rattle.wrp_records.specs.Stream.{Handles}
use Rattle.wrp_records.proofs.LineEnds.{starts_first}
use Rattle.wrp_records.proofs.Passing.{goes_next}
use Rattle.wrp_records.proofs.Reaching.{moved}
use Rattle.wrp_records.proofs.engine.block.handle_front.Goals as goal

pub split_first-requires-clause-block : goal.split_first-requires-clause-block
split_first-requires-clause-block g c = c.joined-block.ensures (starts_first c.args.line.now c.args.octets.now c.requires.next c.requires.plain)

pub handle_line-requires-clause-split : goal.handle_line-requires-clause-split
handle_line-requires-clause-split g c = moved (λ l. HasParts l c.split_first.new.row) _ _ (sym c.content-said.ensures) c.in-Ok.ensures.0

pub handle_line-requires-clause-room : goal.handle_line-requires-clause-room
handle_line-requires-clause-room g c =
    let below : c.args.number.now + 1 < 4_294_967_296 = c.requires.number in
    omega (arith, c.requires.count, below)

pub returns-in-Err-clause-stands : goal.returns-in-Err-clause-stands
returns-in-Err-clause-stands g c = λ ended start left rest held now next so_far.
    let s : ReaderAt = record { rest = c.args.octets.now; ended = ended } in
    goes_next _ (g.M.Machine.refuses (g.M.Machine.setting c.args.machine.now)) _ (g.M.Machine.has_taken c.args.machine.now) start c.args.line.now c.content-said.result.now s left rest held now c.args.waiting.now.items c.args.waiting.now.items c.args.number.now (Some Memory)
    so_far (next, c.requires.piece, c.requires.within, c.requires.number) c.content-said.ensures (λ lines before has accepts count. refl)

pub returns-in-Some-clause-stands : goal.returns-in-Some-clause-stands
returns-in-Some-clause-stands g c = λ ended start left rest held now next so_far.
    let s : ReaderAt = record { rest = c.args.octets.now; ended = ended } in
    goes_next _ (g.M.Machine.refuses (g.M.Machine.setting c.args.machine.now)) _ (g.M.Machine.has_taken c.handle_line.new.machine) start c.args.line.now c.content-said.result.now s left rest held now c.args.waiting.now.items c.handle_line.new.waiting.items c.args.number.now (Some c.in-Some.ended)
    so_far (next, c.requires.piece, c.requires.within, c.requires.number) c.content-said.ensures c.in-Some.ensures.stands

pub returns-clause-stands : goal.returns-clause-stands
returns-clause-stands g c = λ ended start left rest held now next so_far.
    let s : ReaderAt = record { rest = c.args.octets.now; ended = ended } in
    let mid = goes_next _ (g.M.Machine.refuses (g.M.Machine.setting c.args.machine.now)) _ (g.M.Machine.has_taken c.handle_line.new.machine) start c.args.line.now c.content-said.result.now s left rest held now c.args.waiting.now.items c.handle_line.new.waiting.items c.args.number.now None
    so_far (next, c.requires.piece, c.requires.within, c.requires.number) c.content-said.ensures c.in-None.ensures.stands in
    moved
    (λ x. Reached (Handles (g.M.Machine.accepts x)) (g.M.Machine.has_taken c.handle_line.new.machine) start s left rest held now c.handle_line.new.waiting.items (c.args.number.now + 1)
    → Comes (g.M.Machine.accepts x) (g.M.Machine.refuses x) (g.M.Machine.has_taken c.handle_block.new.machine) start (record { rest = drop c.handle_block.result.size c.args.octets.now; ended = ended }) left rest held now
    c.handle_block.new.waiting.items c.handle_block.new.number c.handle_block.result.ended)
    _ _ c.handle_line.ensures.setting (c.handle_block.ensures.stands ended start left rest held now) mid
