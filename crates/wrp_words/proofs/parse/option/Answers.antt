-- An option, a setting at a time.
use Rattle.std.proofs.Common.{rules, ap, Some, ◌∙◌}
use Rattle.clap.specs.Words.{Rule, rule_of}
use Rattle.wrp_words.proofs.parse.option.Goals as goal

pub returns : goal.returns
returns c =
    let named : Rule → Rule = λ (r : Rule). record r { long = Some c.args.name.now } in
    let needed : Rule → Rule = λ (r : Rule). record r { required = c.args.is_required } in
    record {
      rule = ap rule_of c.required.ensures ∙ ap needed (ap rule_of c.long.ensures ∙ ap named c.new.ensures.rule);
      local = search rules;
    }
