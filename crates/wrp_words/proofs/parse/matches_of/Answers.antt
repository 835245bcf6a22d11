-- clap takes the words, and its matches are the matches of the command line.
use Rattle.std.proofs.Common.{ap, ◌≡◌, ◌∙◌}
use Rattle.std.proofs.lemmas.Result.{IfErr-weaker, IfOk-weaker}
use Rattle.clap.specs.Words.{app_of, is_simple, subcommand_of, takes}
use Rattle.wrp_words.specs.Parsing.{wrnet}
use Rattle.wrp_words.specs.Words.{texts_of}
use Rattle.wrp_words.proofs.ParsingLemmas.{is_simple_line}
use Rattle.wrp_words.proofs.parse.matches_of.Goals as goal

pub returns : goal.returns
returns c =
    let words = texts_of c.args.words.now in
    let is : app_of c.in_ok-parser.parser ≡ wrnet = c.in_ok-parser.ensures in
    let parse = c.try_get_matches_from in
    record {
      ok = IfOk-weaker parse.result _ _ (λ m h. (h (ap is_simple is ∙ is_simple_line)).1 ∙ ap (λ app. subcommand_of app words) is) parse.ensures.matches;
      err = IfErr-weaker parse.result _ _ (λ e h. h (ap (λ app. takes app words) is ∙ c.requires)) parse.ensures.passes;
    }
