-- Words that are no command ask for nothing.
use Rattle.std.proofs.lemmas.Result.{IfOk-weaker}
use Rattle.wrp_run.specs.Asked.{AsksSo}
use Rattle.wrp_words.specs.Requests.{AsksFor, asked_in}
use Rattle.wrp_run.proofs.AskingWork.{asks_so}
use Rattle.wrp_run.proofs.command.read_command.Goals as goal

pub returns : goal.returns
returns c =
    let asked = asked_in c.args.words.now in
    IfOk-weaker c.read_words.result (AsksFor c.args.words.now) (AsksSo asked) (asks_so asked) c.read_words.ensures
