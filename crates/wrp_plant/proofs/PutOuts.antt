-- Frames that wait at the ends of links and were put out now: by link number, and by port of each node.
use Rattle.std.proofs.Common.{◌≡◌, ◌∙◌, refl, ap, sym, ◌||◌, ℕ, zero, suc, ◌+◌, ◌-◌, ◌<◌, ◌≤◌, Bool, true, false, length, Option, None, Some, arith}
use Rattle.std.proofs.lemmas.Option.{slice_get_within}
use Rattle.std.specs.List.{list_any}
use Rattle.wrp_base.specs.declared.link.Role.{Role}
use Rattle.wrp_base.specs.declared.link.Role.TheVariants.{Master, Slave}
use Rattle.wrp_course.specs.declared.place.Place.{Place}
use Rattle.wrp_course.specs.Moved.{waiting_at}
use Rattle.wrp_course.specs.Setting.{Setting, from_on, place_of}
use Rattle.wrp_course.specs.Views.{oldest_of}
use Rattle.wrp_course.specs.WorldAt.{WorldAt}
use Rattle.wrp_plant.specs.PutOut.{NoneIsPutOut, is_now, puts_out, puts_out_at}
use Rattle.wrp_course.proofs.RunNetwork.{LinkEnd, end_with, place_end}

-- Consecutive numbers

pub any_more : (p : ℕ → Bool) (count i : ℕ) → i < count →
    list_any p (from_on (count - i) i) ≡ (p i || list_any p (from_on (count - (i + 1)) (i + 1)))
any_more p count i h =
    let e : count - i ≡ suc (count - (i + 1)) = omega arith in
    ap (λ k. list_any p (from_on k i)) e

pub any_end : (p : ℕ → Bool) (count i : ℕ) → count ≤ i → list_any p (from_on (count - i) i) ≡ false
any_end p count i h =
    let e : count - i ≡ 0 = omega arith in
    ap (λ k. list_any p (from_on k i)) e

left_false : (a b : Bool) → (a || b) ≡ false → a ≡ false
left_false false b e = refl
left_false true b e = e

right_false : (a b : Bool) → (a || b) ≡ false → b ≡ false
right_false false b e = e
right_false true false e = refl
right_false true true e = e

-- if none of them passes, each of them fails
none_passes : (p : ℕ → Bool) (count first i : ℕ) → list_any p (from_on count first) ≡ false → i < count → p (first + i) ≡ false
none_passes p zero first i e h = absurd (omega (arith, h))
none_passes p (suc count) first zero e h =
    let here : first + 0 ≡ first = omega arith in
    ap p here ∙ left_false (p first) (list_any p (from_on count (first + 1))) e
none_passes p (suc count) first (suc i) e h =
    let there : first + suc i ≡ (first + 1) + i = omega arith in
    ap p there ∙ none_passes p count (first + 1) i (right_false (p first) (list_any p (from_on count (first + 1))) e) (omega (arith, h))

-- Ports

at_role : (w : WorldAt) (k : ℕ) (r : Role) → (puts_out_at w k Master || puts_out_at w k Slave) ≡ false → puts_out_at w k r ≡ false
at_role w k Master e = left_false (puts_out_at w k Master) (puts_out_at w k Slave) e
at_role w k Slave e = right_false (puts_out_at w k Master) (puts_out_at w k Slave) e

pub port_waits : (s : Setting) (w : WorldAt) (o : Option Place) → puts_out s w ≡ false → ((place : Place) → o ≡ Some place → place.link < length s.cfg.links.items) →
    is_now w (oldest_of (waiting_at w o)) ≡ false
port_waits s w None e within = refl
port_waits s w (Some place) e within =
    let plain : 0 + place.link ≡ place.link = omega arith in
    at_role w place.link place.role
    (sym (ap (λ k. puts_out_at w k Master || puts_out_at w k Slave) plain)
    ∙ none_passes (λ k. puts_out_at w k Master || puts_out_at w k Slave) (length s.cfg.links.items) 0 place.link e (within place refl))

pub place_within : (s : Setting) (n p : ℕ) (place : Place) → place_of s n p ≡ Some place → place.link < length s.cfg.links.items
place_within s n p place e =
    let end : LinkEnd s place.link place.role (end_with n p) = place_end s n p place e in
    slice_get_within s.cfg.links.items place.link end.link end.there

-- if it is true at no end of a link, it is true at no port
pub none_put_out : (s : Setting) (w : WorldAt) → puts_out s w ≡ false → NoneIsPutOut s w
none_put_out s w e n p = port_waits s w (place_of s n p) e (λ place at. place_within s n p place at)
