-- The command has the option, and the command line the command.
use Rattle.std.proofs.Common.{rules, ap, ◌∙◌}
use Rattle.std.proofs.lemmas.Result.{IfOk-weaker}
use Rattle.clap.specs.Words.{App, app_of, rule_of, with_rule, with_subcommand}
use Rattle.wrp_words.proofs.parse.with_command.Goals as goal

pub returns : goal.returns
returns c =
    let top : App → _ = λ (a : App). a.top in
    let command_is = c.in_ok-command.ensures.shape c.requires ∙ ap (λ a. with_rule a (rule_of c.args.option)) c.new.ensures.app in
    IfOk-weaker c.subcommand.result _ _ (λ more h. h.shape (search rules) ∙ ap (λ s. with_subcommand (app_of c.args.parser) s) (ap top command_is)) c.subcommand.ensures
