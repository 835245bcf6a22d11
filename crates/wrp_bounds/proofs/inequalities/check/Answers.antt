-- None is broken if and only if each is kept.
use Rattle.std.proofs.Common.{◌≡◌, refl, sym, ◌∙◌, Some, None}
use Rattle.wrp_bounds.proofs.Kept.{kept_of_none, none_of_kept}
use Rattle.wrp_bounds.proofs.inequalities.check.Goals as goal

pub returns-in-None-clause-kept : goal.returns-in-None-clause-kept
returns-in-None-clause-kept c = (λ ok. kept_of_none c.args.cfg.now (sym c.in-None.ensures), λ keeps. refl)

pub returns-in-Some-clause-kept : goal.returns-in-Some-clause-kept
returns-in-Some-clause-kept c = (
  λ ok. absurd (cc),
  λ keeps. let none : Some c.in-Some.inequality ≡ None = c.in-Some.ensures ∙ none_of_kept c.args.cfg.now keeps in absurd (cc),
)
