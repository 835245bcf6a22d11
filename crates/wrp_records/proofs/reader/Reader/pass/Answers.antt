-- What is passed is no longer held.
use Rattle.std.proofs.Common.{◌∙◌, ◌≤◌, length, drop, sym, ap, subst}
use Rattle.wrp_records.specs.Reader.{ReaderAt}
use Rattle.wrp_records.proofs.ReaderLemmas.{passed_on}
use Rattle.wrp_records.proofs.reader.Reader.pass.Goals as goal

pub returns-clause-rest : goal.returns-clause-rest
returns-clause-rest c =
    let within = subst (λ (r : ReaderAt). c.args.size ≤ length r.rest) (sym c.self.view_is) c.requires in
    passed_on c.self.inside.piece c.self.inside.at c.args.size c.self.inside.end within ∙ ap (λ (r : ReaderAt). drop c.args.size r.rest) c.self.view_is
