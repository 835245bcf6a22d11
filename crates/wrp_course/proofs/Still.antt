-- Before any event nothing happens.
use Rattle.std.proofs.Common.{◌≡◌, refl, [], Option, None, Some}
use Rattle.wrp_course.specs.Laws.{NewWorldIsStill}
use Rattle.wrp_course.specs.Moved.{waiting_at}
use Rattle.wrp_course.specs.declared.place.Place.{Place}
use Rattle.wrp_course.specs.Setting.{Setting, place_of}
use Rattle.wrp_course.specs.Views.{history_of, oldest_of}
use Rattle.wrp_course.specs.WorldAt.{new_world}

no_history : (s : Setting) (place : Option Place) → history_of (new_world s) place ≡ []
no_history s None = refl
no_history s (Some place) = refl

none_waits : (s : Setting) (place : Option Place) → oldest_of (waiting_at (new_world s) place) ≡ None
none_waits s None = refl
none_waits s (Some place) = refl

pub new_world_is_still : NewWorldIsStill
new_world_is_still s = record {
  ticks = λ n. refl;
  histories = λ n p. no_history s (place_of s n p);
  waiting = λ n p. none_waits s (place_of s n p);
  arrivals = λ i. refl;
  frames = λ i. refl;
  kept = refl;
  octets = λ i. refl;
  senders = λ i. refl;
}
