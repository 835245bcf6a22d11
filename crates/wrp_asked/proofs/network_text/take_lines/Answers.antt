-- Each line belongs to the network text, or ends its reading.
use Rattle.std.proofs.Common.{◌≡◌, ◌⊎◌, inl, inr, ◌+◌, ◌<◌, ◌≤◌, true, false, length, refl, rules, arith}
use Rattle.wrp_asked.specs.Input.{network_limit, is_separator, BeginsSeparator}
use Rattle.wrp_asked.proofs.Networking.{begins_network, network_ends, network_divides, network_cut_long, network_line_long, network_fails, network_no_memory, network_goes_on}
use Rattle.wrp_asked.proofs.network_text.take_lines.Goals as goal

pub lines-init : goal.lines-init
lines-init g c = record {
  reached = begins_network c.args.reader.now _ c.args.text.now.items c.requires.fresh.0 c.requires.none;
  at_end = search rules;
  kept = refl;
  size = search rules;
}

pub returns-in-End-clause-taken : goal.returns-in-End-clause-taken
returns-in-End-clause-taken g c =
    let end = c.in-End.ensures.end refl in
    network_ends _ _ _ _ _ _ _ c.lines.invariant.reached c.next_line.ensures.taken end.0 end.1 c.lines.invariant.size

pub returns-in-TooLong-clause-taken : goal.returns-in-TooLong-clause-taken
returns-in-TooLong-clause-taken g c =
    let long = c.in-TooLong.ensures.too_long refl in
    let fits = c.lines.invariant.size in
    let size : network_limit < length c.lines.text.items + length c.next_line.new.line.items = omega (arith, long.1) in
    let some : 0 < length c.next_line.new.line.items = omega (arith, long.1) in
    network_cut_long c.next_line.new.line.items c.lines.text.items c.lines.text.items c.lines.reader c.next_line.new.reader _ _ _ c.lines.invariant.reached c.next_line.ensures.taken long.0 long.2 some size

pub returns-in-Failed-clause-taken : goal.returns-in-Failed-clause-taken
returns-in-Failed-clause-taken g c =
    let failed = c.in-Failed.ensures.failed refl in
    let fits = c.lines.invariant.size in
    let room : (length c.lines.text.items + length c.next_line.new.line.items ≤ network_limit) ⊎ BeginsSeparator c.next_line.new.line.items =
    elim failed.2 [ inl small ↦ inl (omega (arith, small)) | inr begun ↦ inr begun ] in
    network_fails c.next_line.new.line.items c.lines.text.items c.lines.text.items c.lines.reader c.next_line.new.reader _ _ _ c.lines.invariant.reached c.next_line.ensures.taken failed.0 failed.1 fits room

pub returns-in-Memory-clause-taken : goal.returns-in-Memory-clause-taken
returns-in-Memory-clause-taken g c = network_no_memory c.next_line.new.line.items c.lines.text.items c.lines.text.items c.lines.reader c.next_line.new.reader _ _ _ c.lines.invariant.reached c.next_line.ensures.taken

pub returns-then-is_err-clause-taken : goal.returns-then-is_err-clause-taken
returns-then-is_err-clause-taken g c = network_no_memory c.next_line.new.line.items c.lines.text.items c.extend_from_slice.new.self.items c.lines.reader c.next_line.new.reader _ _ _ c.lines.invariant.reached c.next_line.ensures.taken

pub returns-then-ends_network-clause-taken : goal.returns-then-ends_network-clause-taken
returns-then-ends_network-clause-taken g c =
    let is : is_separator c.next_line.new.line.items ≡ true = search rules in
    network_divides _ _ _ _ _ _ _ c.lines.invariant.reached c.next_line.ensures.taken (c.in-Line.ensures.line refl) is c.lines.invariant.size

pub returns-then-len-left-clause-taken : goal.returns-then-len-left-clause-taken
returns-then-len-left-clause-taken g c =
    let other : is_separator c.next_line.new.line.items ≡ false = search rules in
    let size : network_limit < length c.lines.text.items + length c.next_line.new.line.items = let fits = c.lines.invariant.size in omega arith in
    network_line_long c.next_line.new.line.items c.lines.text.items c.lines.text.items c.lines.reader c.next_line.new.reader _ _ _ c.lines.invariant.reached c.next_line.ensures.taken
    (c.in-Line.ensures.line refl) other size

pub lines-preserved : goal.lines-preserved
lines-preserved g c =
    let other : is_separator c.next_line.new.line.items ≡ false = search rules in
    record {
      reached = network_goes_on _ _ _ _ _ _ _ _ c.lines.invariant.reached c.next_line.ensures.taken (c.in-Line.ensures.line refl) other (search rules);
      at_end = search rules;
      kept = search rules;
      size = search rules;
    }
