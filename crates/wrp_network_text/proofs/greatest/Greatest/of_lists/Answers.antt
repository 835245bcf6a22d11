use Rattle.std.proofs.Common.{refl, ap, ◌∙◌}
use Rattle.wrp_base.specs.declared.link.Module.{Module}
use Rattle.wrp_network_text.specs.declared.greatest.Greatest.{Greatest}
use Rattle.wrp_network_text.specs.Greatest.{over_modules}
use Rattle.wrp_network_text.proofs.GreatestOf.{of_modules}
use Rattle.wrp_network_text.proofs.greatest.Greatest.of_lists.Goals as goal

abbrev none : Greatest
none = record { err = 0; tx = 0; rx = 0 }

pub returns-clause-err : goal.returns-clause-err
returns-clause-err c =
    ap (λ (g : Greatest). g.err) (c.over_modules.ensures ∙ ap (over_modules none) c.modules.ensures)
    ∙ of_modules (λ g. g.err) (λ (d : Module). d.err) (record { more = λ g d. refl }) none c.args.lists.now.modules

pub returns-clause-tx : goal.returns-clause-tx
returns-clause-tx c =
    ap (λ (g : Greatest). g.tx) (c.over_modules.ensures ∙ ap (over_modules none) c.modules.ensures)
    ∙ of_modules (λ g. g.tx) (λ (d : Module). d.tx) (record { more = λ g d. refl }) none c.args.lists.now.modules

pub returns-clause-rx : goal.returns-clause-rx
returns-clause-rx c =
    ap (λ (g : Greatest). g.rx) (c.over_modules.ensures ∙ ap (over_modules none) c.modules.ensures)
    ∙ of_modules (λ g. g.rx) (λ (d : Module). d.rx) (record { more = λ g d. refl }) none c.args.lists.now.modules
