-- One more piece was taken.
use Rattle.std.proofs.Common.{◌≡◌, false, inl, rules}
use Rattle.wrp_records.specs.declared.reader.Next.TheVariants as next
use Rattle.wrp_records.proofs.ReaderLemmas.{given_on, more_taken}
use Rattle.wrp_records.proofs.reader.Reader.read_on.Goals as goal

pub pieces-preserved : goal.pieces-preserved
pieces-preserved g c =
    let cut = c.in-None.ensures.how.0 in
    let goes : c.pieces.self.ended ≡ false = search rules in
    record {
      taken = more_taken _ _ _ _ c.pieces.line.items c.pieces.self.rest _ _ c.refill.new.self.rest _ c.pieces.self.ended _ c.pieces.invariant.taken goes c.give_on.ensures.same cut.none c.refill.ensures.taken;
      at_end = search rules;
      kept = search rules;
      plain = cut.plain;
    }

pub returns-in-Some-clause-line : goal.returns-in-Some-clause-line
returns-in-Some-clause-line g c is = let how = given_on c.in-Some.next next.Line c.give_on.new.line.items c.give_on.new.self c.args.most c.in-Some.ensures.how is in (inl how.0, how.1)

pub returns-in-Some-clause-end : goal.returns-in-Some-clause-end
returns-in-Some-clause-end g c is = absurd (given_on c.in-Some.next next.End c.give_on.new.line.items c.give_on.new.self c.args.most c.in-Some.ensures.how is)

pub returns-in-Some-clause-too_long : goal.returns-in-Some-clause-too_long
returns-in-Some-clause-too_long g c is = given_on c.in-Some.next next.TooLong c.give_on.new.line.items c.give_on.new.self c.args.most c.in-Some.ensures.how is

pub returns-in-Some-clause-failed : goal.returns-in-Some-clause-failed
returns-in-Some-clause-failed g c is = absurd (given_on c.in-Some.next next.Failed c.give_on.new.line.items c.give_on.new.self c.args.most c.in-Some.ensures.how is)

pub returns-in-Some-clause-rose : goal.returns-in-Some-clause-rose
returns-in-Some-clause-rose g c is = absurd (given_on c.in-Some.next next.Failed c.give_on.new.line.items c.give_on.new.self c.args.most c.in-Some.ensures.how is)
