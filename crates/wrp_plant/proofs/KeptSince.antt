-- The kept frames stand for the frames of the state that are on a fibre or young.
use Rattle.std.proofs.Common.{◌≡◌, ◌∙◌, refl, ap, ap₂, sym, subst, ◌||◌, ℤ, Bool, true, false, if◌then◌else◌, Option, None, Some}
use Rattle.std.proofs.lemmas.Bool.{true≢false}
use Rattle.std.proofs.lemmas.Option.{none-some}
use Rattle.std.specs.Int.Signed.{le_z}
use Rattle.std.specs.Option.{is_some}
use Rattle.wrp_flights.specs.declared.departed.Departed.{Departed}
use Rattle.wrp_flights.specs.declared.departed.Reception.{Reception}
use Rattle.wrp_flights.specs.Departed.{is_on}
use Rattle.wrp_course.specs.WorldAt.{FrameAt, Arrival, is_on_fibre}
use Rattle.wrp_plant.specs.Plant.{MaybeIs, DepartedIs, ReceptionIs, is_kept_since, kept_since}
use Rattle.wrp_plant.proofs.FoundFrames.{Found, found}

some_alike : (a : Option Arrival) (r : Option Reception) → MaybeIs ReceptionIs a r → is_some a ≡ is_some r
some_alike None None h = refl
some_alike None (Some r) h = absurd h
some_alike (Some a) None h = absurd h
some_alike (Some a) (Some r) h = refl

-- a frame is on a fibre in the state if it is on a fibre in the code
pub on_alike : (f : FrameAt) (d : Departed) → DepartedIs f d → is_on_fibre (Some f) ≡ is_on d
on_alike f d h =
    ap₂ (λ g a. if g then false else (if a then false else true)) (sym h.gone) (some_alike f.arrival d.arrival h.arrival)

pub since_some : (h : ℤ) (f : FrameAt) → is_kept_since h (Some f) ≡ true → kept_since h (Some f) ≡ Some f
since_some h f k = ap (λ b. if b then Some f else None) k

pub since_none : (h : ℤ) (f : FrameAt) → is_kept_since h (Some f) ≡ false → kept_since h (Some f) ≡ None
since_none h f k = ap (λ b. if b then Some f else None) k

pub none_or : (a b : Bool) → a || b ≡ false → (a ≡ false) × (b ≡ false)
none_or true b e = absurd (true≢false e)
none_or false b e = (refl, e)

since_is : (h : ℤ) (o : Option FrameAt) (f : FrameAt) → kept_since h o ≡ Some f → o ≡ Some f
since_is h None f e = e
since_is h (Some g) f e = by_test (is_kept_since h (Some g)) refl where
  by_test : (b : Bool) → is_kept_since h (Some g) ≡ b → Some g ≡ Some f
  by_test true k = sym (since_some h g k) ∙ e
  by_test false k = absurd (none-some f (sym (since_none h g k) ∙ e))

-- the frame of the state that a kept frame stands for
pub found_kept : (h : ℤ) (o : Option FrameAt) (q : Option Departed) (d : Departed) → MaybeIs DepartedIs (kept_since h o) q → q ≡ Some d → Found DepartedIs o d
found_kept h o q d m e =
    let it : Found DepartedIs (kept_since h o) d = found DepartedIs (kept_since h o) q d m e in
    record { one = it.one; is = since_is h o it.one it.is; holds = it.holds }

-- the frame that the code keeps for a frame of the state
pub record KeptFor (q : Option Departed) (f : FrameAt) : Type 0 where
  pub one : Departed
  pub is : q ≡ Some one
  pub holds : DepartedIs f one

kept_one : (f : FrameAt) (q : Option Departed) → MaybeIs DepartedIs (Some f) q → KeptFor q f
kept_one f None m = absurd m
kept_one f (Some d) m = record { one = d; is = refl; holds = m }

pub kept_for : (h : ℤ) (f : FrameAt) (q : Option Departed) → MaybeIs DepartedIs (kept_since h (Some f)) q → is_kept_since h (Some f) ≡ true → KeptFor q f
kept_for h f q m k = kept_one f q (subst (λ o. MaybeIs DepartedIs o q) (since_some h f k) m)

pub on_since : (h : ℤ) (f : FrameAt) → is_on_fibre (Some f) ≡ true → is_kept_since h (Some f) ≡ true
on_since h f e = ap (λ a. a || le_z h f.sending.at) e

-- if the code keeps none for a frame of the state, that frame is neither on a fibre nor young
pub none_kept : (h : ℤ) (f : FrameAt) (q : Option Departed) → MaybeIs DepartedIs (kept_since h (Some f)) q → q ≡ None → is_kept_since h (Some f) ≡ false
none_kept h f q m e = by_test (is_kept_since h (Some f)) refl where
  some_none : (d : Departed) → Some d ≡ None → ⊥
  some_none d n = cc

  by_test : (b : Bool) → is_kept_since h (Some f) ≡ b → is_kept_since h (Some f) ≡ false
  by_test true k = let it : KeptFor q f = kept_for h f q m k in absurd (some_none it.one (sym it.is ∙ e))
  by_test false k = k

pub none_on : (h : ℤ) (o : Option FrameAt) (q : Option Departed) → MaybeIs DepartedIs (kept_since h o) q → q ≡ None → is_on_fibre o ≡ false
none_on h None q m e = refl
none_on h (Some f) q m e = (none_or (is_on_fibre (Some f)) (le_z h f.sending.at) (none_kept h f q m e)).0
