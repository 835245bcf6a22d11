-- The value of the option is the value in the rows of the command that was found.
use Rattle.std.proofs.Common.{ap, sym, ◌∙◌}
use Rattle.std.specs.Prelude.{option_and_then}
use Rattle.clap.proofs.WalkLemmas.{first_value-rows}
use Rattle.clap.specs.Words.{first_of, found_of, subcommand_rows_of}
use Rattle.wrp_words.proofs.ParsingLemmas.{value_of_rows}
use Rattle.wrp_words.proofs.parse.value_of.Goals as goal

pub returns-in-Some : goal.returns-in-Some
returns-in-Some c =
    let rows = ap (option_and_then (first_of c.args.option.now)) c.in-Some.ensures.rows in
    c.get_str.ensures ∙ first_value-rows (found_of c.in-Some.found.now) c.args.option.now ∙ rows ∙ sym (value_of_rows c.args.option.now (subcommand_rows_of c.args.matches.now))
