-- The command line, a command at a time.
use Rattle.std.proofs.Common.{ap₂, codes, ℕ, List, ◌∙◌}
use Rattle.std.proofs.lemmas.Result.{IfOk-weaker}
use Rattle.clap.specs.Words.{App, Rule, new_app, with_rule, with_subcommand}
use Rattle.wrp_words.proofs.parse.parser.Goals as goal

pub returns : goal.returns
returns c =
    let more : List ℕ → App → Rule → App = λ name app rule. with_subcommand app (with_rule (new_app name) rule).top in
    let audit = c.in_ok-audit.ensures ∙ ap₂ (more (codes "audit")) c.bare_parser.ensures c.option-node.ensures.rule in
    let replay = c.in_ok-replay.ensures ∙ ap₂ (more (codes "replay")) audit c.option-node-2.ensures.rule in
    let simulate = c.in_ok-simulate.ensures ∙ ap₂ (more (codes "simulate")) replay c.option-seed.ensures.rule in
    IfOk-weaker c.with_command-4.result _ _ (λ parser h. h ∙ ap₂ (more (codes "loop")) simulate c.option-seed-2.ensures.rule) c.with_command-4.ensures
