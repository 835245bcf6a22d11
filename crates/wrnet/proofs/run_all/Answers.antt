-- The words that are run are the collected ones.
use Rattle.std.proofs.Common.{◌≡◌, ◌∙◌, IfOk, List, drop, map, string_bytes, subst}
use Rattle.wrnet.specs.Ending.{MayEndOf}
use Rattle.wrnet.proofs.run_all.Goals as goal

pub returns : goal.returns
returns g c = subst (λ (l : List _). IfOk c.run_args.result (MayEndOf (drop 1 (map string_bytes l)))) (c.deref.ensures.value ∙ c.in_ok-args.ensures) c.run_args.ensures
