-- Small laws of options.
use Rattle.std.proofs.Common.{IfSome, None, Option, Some, refl, true, ℕ, ◌≡◌}
use Rattle.std.proofs.lemmas.Bool.{false≢true}
use Rattle.std.specs.Option.{is_some, option_or}

pub either_holds : {A : Type 0} (P : A → Type 0) (o p : Option A) → IfSome o P → IfSome p P → IfSome (option_or o p) P
either_holds P None p a b = b
either_holds P (Some x) p a b = a

pub pair_there : (o : Option (ℕ × ℕ)) → is_some o ≡ true → (e : ℕ × ℕ) × (o ≡ Some e)
pair_there None is = absurd (false≢true is)
pair_there (Some e) is = (e, refl)
