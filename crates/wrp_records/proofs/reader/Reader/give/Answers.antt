-- What was given and what is held are what was held.
use Rattle.std.proofs.Common.{ap, ◌∙◌, ◌++◌}
use Rattle.wrp_records.proofs.ReaderLemmas.{held_on}
use Rattle.wrp_records.proofs.reader.Reader.give.Goals as goal

pub returns-in-Some-clause-same : goal.returns-in-Some-clause-same
returns-in-Some-clause-same c =
    let all = rw c.in-Some.is at c.in_ok-size.ensures.all in
    held_on c.self.inside.piece c.args.line.now.items c.append_front.new.line.items c.self.inside.at c.in-Some.size c.self.inside.end all.0 all.2
    ∙ ap (λ r. c.args.line.now.items ++ r.rest) c.self.view_is
