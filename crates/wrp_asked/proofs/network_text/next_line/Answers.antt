-- The line is read on as long as it may still end the network text.
use Rattle.std.proofs.Common.{◌≡◌, ◌≤◌, length, refl, inr, subst, rules, arith}
use Rattle.wrp_asked.specs.Input.{BeginsSeparator}
use Rattle.wrp_asked.proofs.Networking.{begun_fails, begins_fits}
use Rattle.wrp_records.proofs.ReaderLemmas.{takes_on}
use Rattle.wrp_asked.proofs.network_text.next_line.Goals as goal

pub returns-in-Failed-clause-failed : goal.returns-in-Failed-clause-failed
returns-in-Failed-clause-failed g c _ =
    let failed = c.in-Failed.ensures.failed refl in
    (failed.0, failed.2, begun_fails c.args.left c.pieces.most c.pieces.line.items c.read_on.new.line.items c.pieces.reader c.read_on.new.self _ _ _ c.pieces.invariant.begun c.read_on.ensures.taken failed.0 failed.1)

pub returns-in-Failed-clause-taken : goal.returns-in-Failed-clause-taken
returns-in-Failed-clause-taken g c =
    takes_on _ _ _ c.args.reader.now.rest c.pieces.line.items c.read_on.new.line.items _ c.pieces.reader c.read_on.new.self c.pieces.invariant.taken c.read_on.ensures.taken

pub returns-then-not-may_end_network-clause-taken : goal.returns-then-not-may_end_network-clause-taken
returns-then-not-may_end_network-clause-taken g c =
    takes_on _ _ _ c.args.reader.now.rest c.pieces.line.items c.read_on.new.line.items _ c.pieces.reader c.read_on.new.self c.pieces.invariant.taken c.read_on.ensures.taken

pub pieces-preserved : goal.pieces-preserved
pieces-preserved g c =
    let long = c.in-TooLong.ensures.too_long refl in
    let begins : BeginsSeparator c.read_on.new.line.items = subst BeginsSeparator c.deref.ensures.value (c.may_end_network.ensures.0 (search rules)) in
    let size : c.len-most.result ≡ length c.read_on.new.line.items = search rules in
    let short : length c.read_on.new.line.items ≤ 4 = begins_fits _ begins in
    record {
      taken = takes_on _ _ _ c.args.reader.now.rest c.pieces.line.items c.read_on.new.line.items _ c.pieces.reader c.read_on.new.self c.pieces.invariant.taken c.read_on.ensures.taken;
      at_end = search rules;
      kept = search rules;
      plain = long.0.plain;
      begun = inr (size, long.0, begins);
      fits = omega (arith, size, short);
      most = omega (arith, size, long.1, c.pieces.invariant.most);
    }
