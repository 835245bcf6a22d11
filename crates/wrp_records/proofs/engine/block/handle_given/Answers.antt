-- The line is handled, with what follows it; what was handled of what the reader holds is passed.
use Rattle.std.proofs.Common.{◌≡◌, ◌∙◌, ◌++◌, inl, inr, Bool, List, ℕ, ap, drop, subst, sym}
use Rattle.wrp_records.specs.Reached.{Comes, Reached}
use Rattle.wrp_records.specs.Reader.{ReaderAt, IsNext}
use Rattle.wrp_records.specs.Stream.{Handles}
use Rattle.wrp_records.proofs.LineEnds.{IsFirst}
use Rattle.wrp_records.proofs.Passing.{goes_next}
use Rattle.wrp_records.proofs.engine.block.handle_given.Goals as goal

-- a line that may be the last one, before what is held
first_by : (line held : List ℕ) (r : ReaderAt) → held ≡ r.rest → IsNext line r → IsFirst line held
first_by line held r same (inl whole) = inl whole
first_by line held r same (inr end) = inr (end.plain, same ∙ end.last.none)

-- a reader by its parts
by_parts : (P : ReaderAt → Type 0) (s : ReaderAt) (rest : List ℕ) (ended : Bool) → s.rest ≡ rest → s.ended ≡ ended → P (record { rest = rest; ended = ended }) → P s
by_parts P s rest ended same end h =
    subst (λ (b : Bool). P (record { rest = s.rest; ended = b })) (sym end) (subst (λ (l : List ℕ). P (record { rest = l; ended = ended })) (sym same) h)

pub handle_front-handled-requires-clause-next : goal.handle_front-handled-requires-clause-next
handle_front-handled-requires-clause-next g c = first_by c.args.line.now c.held.result.now c.args.reader.now c.held.ensures.value c.requires.next

pub returns-clause-stands : goal.returns-clause-stands
returns-clause-stands g c = λ start left rest held now so_far.
    let r : ReaderAt = c.args.reader.now in
    let line = c.args.line.now in
    let next : IsNext line (record { rest = c.held.result.now; ended = r.ended }) =
    subst (λ (l : List ℕ). IsNext line (record { rest = l; ended = r.ended })) (sym c.held.ensures.value) c.requires.next in
    let before = subst
    (λ (l : List ℕ). Reached (Handles (g.M.Machine.accepts (g.M.Machine.setting c.args.machine.now))) (g.M.Machine.has_taken c.args.machine.now) start (record { rest = line ++ l; ended = r.ended }) left rest held now c.args.waiting.now.items c.args.number.now)
    (sym c.held.ensures.value) so_far in
    by_parts
    (λ s. Comes (g.M.Machine.accepts (g.M.Machine.setting c.args.machine.now)) (g.M.Machine.refuses (g.M.Machine.setting c.args.machine.now)) (g.M.Machine.has_taken c.handle_front-handled.new.machine) start s left rest held now c.handle_front-handled.new.waiting.items c.handle_front-handled.new.number
    c.handle_front-handled.result.ended)
    c.pass.new.self (drop c.handle_front-handled.result.size c.held.result.now) r.ended (c.pass.ensures.rest ∙ ap (drop c.handle_front-handled.result.size) (sym c.held.ensures.value)) c.pass.ensures.ended
    (c.handle_front-handled.ensures.stands r.ended start left rest held now next before)

pub returns-then-not-is_plain-clause-stands : goal.returns-then-not-is_plain-clause-stands
returns-then-not-is_plain-clause-stands g c = λ start left rest held now so_far.
    goes_next _ (g.M.Machine.refuses (g.M.Machine.setting c.args.machine.now)) _ (g.M.Machine.has_taken c.handle_line.new.machine) start c.args.line.now c.content-said.result.now c.args.reader.now left rest held now c.args.waiting.now.items c.handle_line.new.waiting.items c.args.number.now
    c.handle_line.result so_far (c.requires.next, c.requires.piece, c.requires.within, c.requires.number) c.content-said.ensures c.handle_line.ensures.stands
