-- What is known of a field that was read: its range, and that what it names is one of the network's.
use Rattle.std.proofs.Common.{◌≡◌, Bool, true, false, if◌then◌else◌, None, Some, Result, Ok, Err, refl}
use Rattle.std.proofs.lemmas.Option.{same_Some}
use Rattle.wrp_base.specs.declared.fault.TraceFault.{TraceFault}
use Rattle.wrp_fields.specs.Reading.{◌>>=◌}
use Rattle.wrp_trace.proofs.EventsFit.{read_as}

-- Readings

pub ok_same : {A : Type 0} (x y : A) → read_as x ≡ read_as y → x ≡ y
ok_same x y e = cc

-- a reading in two parts gave a value in each
pub record Both {A B : Type 0} (read : Result A TraceFault) (next : A → Result B TraceFault) (value : B) : Type 0 where
  pub first : A
  pub is : read ≡ Ok first
  pub rest : next first ≡ Ok value

pub both : {A B : Type 0} (read : Result A TraceFault) (next : A → Result B TraceFault) (value : B) → (read >>= next) ≡ Ok value → Both read next value
both (Ok x) next value e = record { first = x; is = refl; rest = e }
both (Err fault) next value e = absurd (cc)

-- what is read only if a test holds
pub read_if : {A : Type 0} (b : Bool) (fault : TraceFault) (read : Result A TraceFault) (x : A) → (if b then read else Err fault) ≡ Ok x
    → (b ≡ true) × (read ≡ Ok x)
read_if true fault read x e = (refl, e)
read_if false fault read x e = absurd (let f : Err fault ≡ Ok x = e in cc)

pub some_if : {A : Type 0} (b : Bool) (x y : A) → (if b then Some x else None) ≡ Some y → (b ≡ true) × (x ≡ y)
some_if true x y e = (refl, same_Some x y e)
some_if false x y e = absurd (let f : None ≡ Some y = e in cc)

pub none_if : {A : Type 0} (b : Bool) (x y : A) → (if b then None else Some x) ≡ Some y → (b ≡ false) × (x ≡ y)
none_if true x y e = absurd (let f : None ≡ Some y = e in cc)
none_if false x y e = (refl, same_Some x y e)

-- Numbers

-- Names
