-- Frames that wait at the ends of links and were put out now (this project's profile).
use Rattle.std.specs.Prelude.{◌≡◌, ◌||◌, ℕ, ℤ, Bool, false, List, Option, find, flat_map, map}
use Rattle.std.specs.List.{list_any}
use Rattle.std.specs.Option.{option_map_or}
use Rattle.std.specs.Ordering.{int_eq}
use Rattle.wrp_base.specs.declared.link.Role.{Role}
use Rattle.wrp_base.specs.declared.link.Role.TheVariants.{Master, Slave}
use Rattle.wrp_course.specs.Setting.{Setting, from_on, links_of, nodes_of}
use Rattle.wrp_course.specs.Views.{oldest_of, waiting_of}
use Rattle.wrp_course.specs.WorldAt.{WorldAt}

-- there is a time, and it is now
abbrev pub is_now : WorldAt → Option ℤ → Bool
is_now w at = option_map_or (λ t. int_eq t w.time) at false

-- the oldest frame that waits at an end of a link was put out now
abbrev pub puts_out_at : WorldAt → ℕ → Role → Bool
puts_out_at w k r = is_now w (oldest_of (w.end_at k r).waiting)

-- this is true at an end of some link
abbrev pub puts_out : Setting → WorldAt → Bool
puts_out s w = list_any (λ k. puts_out_at w k Master || puts_out_at w k Slave) (links_of s)

-- this is true at no port of any node
abbrev pub NoneIsPutOut : Setting → WorldAt → Type 0
NoneIsPutOut s w = (n p : ℕ) → is_now w (waiting_of s w n p) ≡ false

-- the ports by node in file order, then by number: the numbers are 1 to 18
abbrev pub ports_in_order : Setting → List (ℕ × ℕ)
ports_in_order s = flat_map (λ n. map (λ p. (n, p)) (from_on 18 1)) (nodes_of s)

-- the first port at which the oldest waiting frame was put out now
abbrev pub first_put_out : Setting → WorldAt → Option (ℕ × ℕ)
first_put_out s w = find (λ port. is_now w (waiting_of s w port.0 port.1)) (ports_in_order s)
