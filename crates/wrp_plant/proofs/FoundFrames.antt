-- A frame that is found by its number has this number.
use Rattle.std.proofs.Common.{◌≡◌, refl, subst, Option, None, Some}
use Rattle.std.proofs.lemmas.Option.{none-some, same_Some}
use Rattle.wrp_plant.specs.Plant.{MaybeIs}

-- the frame that was found, and what it stands for
pub record Found {A B : Type 0} (R : A → B → Type 0) (a : Option A) (y : B) : Type 0 where
  pub one : A
  pub is : a ≡ Some one
  pub holds : R one y

pub found : {A B : Type 0} (R : A → B → Type 0) (a : Option A) (b : Option B) (y : B) → MaybeIs R a b → b ≡ Some y → Found R a y
found R None None y h e = absurd (none-some y e)
found R None (Some z) y h e = absurd h
found R (Some x) None y h e = absurd h
found R (Some x) (Some z) y h e = record { one = x; is = refl; holds = subst (R x) (same_Some z y e) h }

pub some_no : {B : Type 0} (y : B) → Some y ≡ None → ⊥
some_no y e = cc

pub missing : {A B : Type 0} (R : A → B → Type 0) (a : Option A) (b : Option B) → MaybeIs R a b → b ≡ None → a ≡ None
missing R None b h e = refl
missing R (Some x) None h e = absurd h
missing R (Some x) (Some z) h e = absurd (some_no z e)
