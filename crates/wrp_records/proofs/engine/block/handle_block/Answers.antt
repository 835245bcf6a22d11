-- Each line of the block is handled, or ends the handling.
use Rattle.std.proofs.Common.{◌≡◌, ◌∙◌, ◌+◌, ◌++◌, ◌<◌, ◌≤◌, ℕ, List, None, Some, drop, length, refl, sym, ap, rules, arith}
use Rattle.std.proofs.lemmas.List.{length-drop}
use Rattle.wrp_records.specs.Reader.{ReaderAt, piece_limit}
use Rattle.wrp_records.specs.Split.{HasParts}
use Rattle.wrp_records.proofs.LineEnds.{left_behind, place_behind, whole_size}
use Rattle.wrp_records.proofs.Passing.{Gives, Fits, goes_by, short}
use Rattle.wrp_records.proofs.Reaching.{moved}
use Rattle.wrp_records.proofs.engine.block.handle_block.Goals as goal

-- what is left of a piece is no larger
within_piece : (at : ℕ) (octets : List ℕ) → length octets ≤ piece_limit → length (drop at octets) ≤ piece_limit
within_piece at octets fits = let size = length-drop at octets in omega (arith, fits, size)

-- a line before what is left after it
in_front : (octets left line : List ℕ) (at : ℕ) → left ≡ drop at octets → left ≡ line ++ drop (length line) left → drop at octets ≡ line ++ drop (at + length line) octets
in_front octets left line at behind front =
    sym behind ∙ front ∙ ap (λ (l : List ℕ). line ++ l) (left_behind octets left line at behind front)

pub lines-init : goal.lines-init
lines-init g c = record {
  at = search rules;
  text = c.is_plain_text-text_is_plain.ensures;
  block = c.requires.block;
  reached = λ ended start left rest held now so_far. so_far;
  setting = refl;
  ready = c.requires.ready;
  count = c.requires.count;
  more = omega arith;
}

pub returns-in_default-clause-stands : goal.returns-in_default-clause-stands
returns-in_default-clause-stands g c = λ ended start left rest held now so_far. c.lines.invariant.reached ended start left rest held now so_far

pub returns-in-Err-clause-stands : goal.returns-in-Err-clause-stands
returns-in-Err-clause-stands g c = λ ended start left rest held now so_far. short _ _ _ _ _ _ _ _ _ _ _ (c.lines.invariant.reached ended start left rest held now so_far)

pub handle_line-requires-clause-split : goal.handle_line-requires-clause-split
handle_line-requires-clause-split g c =
    let all = c.lines.invariant.block ∙ ap Some (sym c.behind-left.ensures ∙ c.in-Some.ensures.front) in
    moved (λ l. HasParts l c.split_next.new.row) _ _ (sym c.content-said.ensures) (c.in-Ok.ensures (drop (length c.in-Some.line.now) c.behind-left.result.now) all).0

pub handle_line-requires-clause-room : goal.handle_line-requires-clause-room
handle_line-requires-clause-room g c =
    let below : c.lines.number + 1 < 4_294_967_296 = c.in-Some.ensures.number in
    omega (arith, c.lines.invariant.count, below)

pub returns-in-Some-handle_line-clause-stands : goal.returns-in-Some-handle_line-clause-stands
returns-in-Some-handle_line-clause-stands g c = λ ended start left rest held now so_far.
    let line = c.in-Some.line.now in
    let octets = c.args.octets.now in
    let r : ReaderAt = record { rest = drop c.lines.at octets; ended = ended } in
    let s : ReaderAt = record { rest = drop (c.lines.at + length line) octets; ended = ended } in
    let same = in_front octets c.behind-left.result.now line c.lines.at c.behind-left.ensures c.in-Some.ensures.front in
    let fits : Fits line c.lines.number s = record { whole = c.in-Some.ensures.whole; within = c.in-Some.ensures.within; below = c.in-Some.ensures.number; piece = within_piece (c.lines.at + length line) octets c.requires.piece } in
    let gives = moved (λ x. Gives (g.M.Machine.accepts x) (g.M.Machine.refuses x) (g.M.Machine.has_taken c.lines.machine) (g.M.Machine.has_taken c.handle_line.new.machine)
    c.content-said.result.now c.lines.number c.lines.waiting.items c.handle_line.new.waiting.items (Some c.in-Some-handle_line.ended)) _ _ c.lines.invariant.setting c.in-Some-handle_line.ensures.stands in
    goes_by _ (g.M.Machine.refuses (g.M.Machine.setting c.args.machine.now)) _ (g.M.Machine.has_taken c.handle_line.new.machine) start line _ r s left rest held now _ c.handle_line.new.waiting.items _ (Some c.in-Some-handle_line.ended)
    (c.lines.invariant.reached ended start left rest held now so_far) same refl fits c.content-said.ensures gives

pub lines-preserved : goal.lines-preserved
lines-preserved g c =
    let line = c.in-Some.line.now in
    let octets = c.args.octets.now in
    let behind = left_behind octets c.behind-left.result.now line c.lines.at c.behind-left.ensures c.in-Some.ensures.front in
    let all = c.lines.invariant.block ∙ ap Some (sym c.behind-left.ensures ∙ c.in-Some.ensures.front) in
    let same = in_front octets c.behind-left.result.now line c.lines.at c.behind-left.ensures c.in-Some.ensures.front in
    let gives = moved (λ x. Gives (g.M.Machine.accepts x) (g.M.Machine.refuses x) (g.M.Machine.has_taken c.lines.machine) (g.M.Machine.has_taken c.handle_line.new.machine)
    c.content-said.result.now c.lines.number c.lines.waiting.items c.handle_line.new.waiting.items None) _ _ c.lines.invariant.setting c.in-None.ensures.stands in
    record {
      text = c.lines.invariant.text;
      at = place_behind octets c.behind-left.result.now line c.lines.at c.lines.invariant.at c.behind-left.ensures c.in-Some.ensures.front;
      block = (c.in-Ok.ensures (drop (length line) c.behind-left.result.now) all).1 ∙ ap Some behind;
      reached = λ ended start left rest held now so_far.
          let r : ReaderAt = record { rest = drop c.lines.at octets; ended = ended } in
          let s : ReaderAt = record { rest = drop (c.lines.at + length line) octets; ended = ended } in
          let fits : Fits line c.lines.number s = record { whole = c.in-Some.ensures.whole; within = c.in-Some.ensures.within; below = c.in-Some.ensures.number; piece = within_piece (c.lines.at + length line) octets c.requires.piece } in
          goes_by _ (g.M.Machine.refuses (g.M.Machine.setting c.args.machine.now)) _ _ start line _ r s left rest held now _ _ _ None (c.lines.invariant.reached ended start left rest held now so_far) same refl fits c.content-said.ensures gives;
      setting = c.handle_line.ensures.setting ∙ c.lines.invariant.setting;
      ready = c.handle_line.ensures.ready;
      count = omega (arith, c.handle_line.ensures.count, c.lines.invariant.count);
      more = omega (arith, c.lines.invariant.more);
    }

pub lines-smaller : goal.lines-smaller
lines-smaller g c =
    let line = c.in-Some.line.now in
    let some = whole_size line c.in-Some.ensures.whole in
    let within = place_behind c.args.octets.now c.behind-left.result.now line c.lines.at c.lines.invariant.at c.behind-left.ensures c.in-Some.ensures.front in
    omega (arith, some, within)
