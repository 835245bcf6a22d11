-- Inputs that are listed: one after another, and all inputs of an event.
use Rattle.std.proofs.Common.{◌≡◌, ◌∙◌, refl, ap, sym, subst, ℕ, ℤ, pos, ◌+◌, ◌≤◌, List, [], ◌∷◌, ◌++◌, append_assoc, length, length-append, OnOk, Option, None, Some, Result, Ok, Err, arith}
use Rattle.std.specs.List.{AllByRecursion, AllZip}
use Rattle.arrayvec.specs.ArrayVec.{ArrayVec}
use Rattle.wrp_base.specs.declared.message.PtpMsg.{PtpMsg}
use Rattle.wrp_base.proofs.Lists.{all_append}
use Rattle.wrp_frame.specs.declared.fault.FrameFault.{FrameFault}
use Rattle.wrp_node.specs.declared.interface.Output.{Output}
use Rattle.wrp_node.specs.Set.{set_of}
use Rattle.wrp_course.specs.declared.event.Event.{Event}
use Rattle.wrp_course.specs.declared.node_out.NodeOut.{NodeOut}
use Rattle.wrp_plant.specs.declared.plant.Plant.{Plant}
use Rattle.wrp_changes.specs.declared.giving.listing.Gift.{Gift}
use Rattle.wrp_changes.specs.FitsGifts.{FitsGift}
use Rattle.wrp_changes.specs.Gifts.{GiftIs}
use Rattle.wrp_course.specs.Given.{Given, given_by}
use Rattle.wrp_changes.specs.Giving.{Adds, Gives, IsListed, entries_of, listed, put_of}
use Rattle.wrp_course.specs.Moved.{moved}
use Rattle.wrp_plant.specs.Plant.{PlantIs}
use Rattle.wrp_course.specs.Setting.{Setting}
use Rattle.wrp_course.specs.WorldAt.{WorldAt}

pub zip_append : {A B : Type 0} (R : A → B → Type 0) (xs us : List A) (ys vs : List B) → AllZip R xs ys → AllZip R us vs → AllZip R (xs ++ us) (ys ++ vs)
zip_append R [] us [] vs h k = k
zip_append R [] us (y ∷ ys) vs h k = absurd h
zip_append R (x ∷ xs) us [] vs h k = absurd h
zip_append R (x ∷ xs) us (y ∷ ys) vs h k = (h.0, zip_append R xs us ys vs h.1 k)

pub no_more : {A : Type 0} (xs : List A) → xs ≡ xs ++ []
no_more [] = refl
no_more (x ∷ xs) = ap (λ l. x ∷ l) (no_more xs)

-- Inputs after others

pub adds_none : (plant : Plant) (most : ℕ) (f : Setting → WorldAt → List Given) (xs : List NodeOut) →
    ((s : Setting) (w : WorldAt) → PlantIs s w plant → [] ≡ f s w) → Adds plant most f xs xs
adds_none plant most f xs none = record {
  more = [];
  items = no_more xs;
  few = omega arith;
  fit = tt;
  gifts = λ s w h. subst (λ gs. AllZip (GiftIs (pos 0)) gs []) (none s w h) tt;
}

pub adds_one : (plant : Plant) (f : Setting → WorldAt → List Given) (gift : Gift) (xs ys : List NodeOut) → ys ≡ xs ++ (listed gift ∷ []) →
    FitsGift plant.net.cfg (listed gift) →
    ((s : Setting) (w : WorldAt) → PlantIs s w plant → AllZip (GiftIs (pos 0)) (f s w) (listed gift ∷ [])) → Adds plant 1 f xs ys
adds_one plant f gift xs ys e fits is = record {
  more = listed gift ∷ [];
  items = e;
  few = omega arith;
  fit = (fits, tt);
  gifts = is;
}

pub adds_then : (plant : Plant) (a b most : ℕ) (f g h : Setting → WorldAt → List Given) (xs ys zs : List NodeOut) → a + b ≤ most →
    ((s : Setting) (w : WorldAt) → PlantIs s w plant → f s w ++ g s w ≡ h s w) → Adds plant a f xs ys → Adds plant b g ys zs → Adds plant most h xs zs
adds_then plant a b most f g h xs ys zs few e one two = record {
  more = one.more ++ two.more;
  items = two.items ∙ ap (λ l. l ++ two.more) one.items ∙ append_assoc xs one.more two.more;
  few = let count : length (one.more ++ two.more) ≡ length one.more + length two.more = length-append one.more two.more in omega (arith, count, one.few, two.few, few);
  fit = all_append (FitsGift plant.net.cfg) one.more two.more one.fit two.fit;
  gifts = λ s w is.
      subst (λ gs. AllZip (GiftIs (pos 0)) gs (one.more ++ two.more)) (e s w is)
      (zip_append (GiftIs (pos 0)) (f s w) (g s w) one.more two.more (one.gifts s w is) (two.gifts s w is));
}

pub adds_as : (plant : Plant) (a most : ℕ) (f g : Setting → WorldAt → List Given) (xs ys : List NodeOut) → a ≤ most →
    ((s : Setting) (w : WorldAt) → PlantIs s w plant → f s w ≡ g s w) → Adds plant a f xs ys → Adds plant most g xs ys
adds_as plant a most f g xs ys few e h = record {
  more = h.more;
  items = h.items;
  few = omega (arith, few, h.few);
  fit = h.fit;
  gifts = λ s w is. subst (λ gs. AllZip (GiftIs (pos 0)) gs h.more) (e s w is) (h.gifts s w is);
}

-- All inputs of an event

pub gives_added : (plant : Plant) (e : Event) (most : ℕ) (f : Setting → WorldAt → List Given) (xs ys : List NodeOut) → xs ≡ [] → most ≤ 37 → put_of plant e ≡ pos 0 →
    ((s : Setting) (w : WorldAt) (says : Result PtpMsg FrameFault) → ((n : ℕ) → s.set n ≡ set_of s.cfg n) → PlantIs s w plant → f s w ≡ given_by s w (moved s w e) says e) →
    Adds plant most f xs ys → Gives plant e ys
gives_added plant e most f xs ys empty few put same h =
    let is : ys ≡ h.more = h.items ∙ ap (λ l. l ++ h.more) empty in record {
      gifts = λ s w says set stands said accepted.
          subst (λ l. AllZip (GiftIs (put_of plant e)) (given_by s w (moved s w e) says e) l) (sym is)
          (subst (λ z. AllZip (GiftIs z) (given_by s w (moved s w e) says e) h.more) (sym put)
          (subst (λ gs. AllZip (GiftIs (pos 0)) gs h.more) (same s w says set stands) (h.gifts s w stands)));
      inputs = subst (AllByRecursion (FitsGift plant.net.cfg)) (sym is) h.fit;
      few = let count : length ys ≡ length h.more = ap length is in omega (arith, count, h.few, few);
    }

-- At most one input

alone_zip : (put : ℤ) (gs : List Given) (gift : Gift) (o : ArrayVec Output) → AllZip (GiftIs put) gs (listed gift ∷ []) →
    AllZip (GiftIs put) gs (record { node = gift.node; input = gift.input; outs = o } ∷ [])
alone_zip put [] gift o h = absurd h
alone_zip put (g ∷ []) gift o h = (record { node = h.0.node; input = h.0.input; read = h.0.read }, tt)
alone_zip put (g ∷ (k ∷ gs)) gift o h = absurd h.1

gives_alone : (plant : Plant) (e : Event) (gift : Gift) (o : ArrayVec Output) → Gives plant e (listed gift ∷ []) →
    Gives plant e (record { node = gift.node; input = gift.input; outs = o } ∷ [])
gives_alone plant e gift o h = record {
  gifts = λ s w says set stands said accepted. alone_zip (put_of plant e) (given_by s w (moved s w e) says e) gift o (h.gifts s w says set stands said accepted);
  inputs = (record { node = h.inputs.0.node; input = h.inputs.0.input }, tt);
  few = omega arith;
}

pub gives_listed : (plant : Plant) (e : Event) (gift : Option Gift) (outs : List NodeOut) → IsListed gift outs → Gives plant e (entries_of gift) → Gives plant e outs
gives_listed plant e None outs is h = subst (Gives plant e) (sym is) h
gives_listed plant e (Some gift) outs is h = subst (Gives plant e) (sym is.items) (gives_alone plant e gift is.beside h)

-- An event, as it appears in a match arm

pub given_as : (plant : Plant) (e k : Event) (outs : List NodeOut) → e ≡ k → Gives plant k outs → Gives plant e outs
given_as plant e k outs is h = subst (λ (f : Event). Gives plant f outs) (sym is) h

pub given_listed : {E : Type 0} (plant : Plant) (e k : Event) (gift : Option Gift) (r : Result (Unit {0}) E) (outs : List NodeOut) → e ≡ k →
    OnOk r ((f : Event) → Gives plant f (entries_of gift) → Gives plant f outs) → Gives plant k (entries_of gift) → OnOk r (Gives plant e outs)
given_listed plant e k gift (Ok x) outs is listed h = given_as plant e k outs is (listed k h)
given_listed plant e k gift (Err x) outs is listed h = tt

pub none_given : (plant : Plant) (e : Event) → ((s : Setting) (w v : WorldAt) (says : Result PtpMsg FrameFault) → given_by s w v says e ≡ []) → Gives plant e []
none_given plant e none = record {
  gifts = λ s w says set stands said accepted. subst (λ gs. AllZip (GiftIs (put_of plant e)) gs []) (sym (none s w (moved s w e) says)) tt;
  inputs = tt;
  few = omega arith;
}
