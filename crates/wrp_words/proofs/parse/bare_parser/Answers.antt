-- A command line with no command, a setting at a time.
use Rattle.std.proofs.Common.{ap, true, ◌∙◌}
use Rattle.clap.specs.Simple.{App, app_of_fields, on_top}
use Rattle.wrp_words.proofs.parse.bare_parser.Goals as goal

pub returns : goal.returns
returns c =
    let unnamed : App → App = on_top (λ s. record s { no_binary_name = true }) in
    let no_flag : App → App = on_top (λ s. record s { disable_help_flag = true }) in
    let no_command : App → App = on_top (λ s. record s { disable_help_subcommand = true }) in
    let needed : App → App = on_top (λ s. record s { subcommand_required = true }) in
    let one = ap app_of_fields c.no_binary_name.ensures ∙ ap unnamed c.new.ensures.app in
    let two = ap app_of_fields c.disable_help_flag.ensures ∙ ap no_flag one in
    let three = ap app_of_fields c.disable_help_subcommand.ensures ∙ ap no_command two in
    ap app_of_fields c.subcommand_required.ensures ∙ ap needed three
