-- An event, and the same event without the unused room of its names, make the same world of each world,
-- and are tried in the same way.
use Rattle.std.proofs.Common.{◌≡◌, ◌∙◌, refl, ap, ap₂, not, ℕ, ℤ, Bool, true, false, cond, ◌==◌, ◌++◌, if◌then◌else◌, List, [], ◌∷◌, map, flat_map, Option, None, Some, option_map, Result}
use Rattle.wrp_base.specs.declared.link.Role.{Role}
use Rattle.wrp_base.specs.declared.message.PtpMsg.{PtpMsg}
use Rattle.wrp_frame.specs.declared.fault.FrameFault.{FrameFault}
use Rattle.wrp_trace.specs.Events.{bare}
use Rattle.wrp_trace.specs.Swaps.{bare_swap}
use Rattle.wrp_course.specs.Checks.{Check, needs}
use Rattle.wrp_course.specs.declared.event.Event.{Event}
use Rattle.wrp_course.specs.declared.event.Event.TheVariants.{Pass, Tick, Sample, Depart, Arrive, Deliver, Noise, Down, Up, Cut, Join}
use Rattle.wrp_course.specs.declared.event.Swap.{Swap}
use Rattle.wrp_course.specs.Given.{at_ports, comes_from, event_steps, given_plain, gives_all, steps_of, world_step}
use Rattle.wrp_node.specs.declared.interface.Input.TheVariants.{Reset}
use Rattle.wrp_course.specs.Moved.{moved, port_number, swap_at, with_swap}
use Rattle.wrp_course.specs.Premises.{checks_of, fibre_kept, module_kept, swap_is_placed, true_at_top}
use Rattle.wrp_course.specs.Run.{IsSaid}
use Rattle.wrp_course.specs.Setting.{Setting, end_at, is_of, links_of}
use Rattle.wrp_course.specs.WorldAt.{EndAt, WorldAt}

-- The module that a swap puts in place

found_if : (b : Bool) (swap : Swap) (rest other : Option Swap) → rest ≡ option_map bare_swap other
    → cond b (Some (bare_swap swap)) rest ≡ option_map bare_swap (cond b (Some swap) other)
found_if true swap rest other e = refl
found_if false swap rest other e = e

swap_found : (p : ℕ) (swaps : List Swap) → swap_at p (map bare_swap swaps) ≡ option_map bare_swap (swap_at p swaps)
swap_found p [] = refl
swap_found p (swap ∷ swaps) = found_if (swap.port == p) swap (swap_at p (map bare_swap swaps)) (swap_at p swaps) (swap_found p swaps)

swapped : (swap : Option Swap) (e : EndAt) → with_swap (option_map bare_swap swap) e ≡ with_swap swap e
swapped None e = refl
swapped (Some swap) e = refl

end_same : (s : Setting) (w : WorldAt) (n : ℕ) (swaps : List Swap) (k : ℕ) (r : Role) →
    (if is_of n (end_at s k r) then with_swap (swap_at (port_number s k r) (map bare_swap swaps)) (w.end_at k r) else w.end_at k r)
    ≡ (if is_of n (end_at s k r) then with_swap (swap_at (port_number s k r) swaps) (w.end_at k r) else w.end_at k r)
end_same s w n swaps k r =
    ap (λ (e : EndAt). if is_of n (end_at s k r) then e else w.end_at k r)
    (ap (λ (o : Option Swap). with_swap o (w.end_at k r)) (swap_found (port_number s k r) swaps) ∙ swapped (swap_at (port_number s k r) swaps) (w.end_at k r))

-- the same event by its parts
abbrev plain_up : (n : ℕ) (off : ℤ) → List Swap → Event
plain_up n off swaps = Up n off (record { items = map bare_swap swaps })

moved_up : (s : Setting) (w : WorldAt) (n : ℕ) (off : ℤ) (swaps : List Swap)
    → moved s w (plain_up n off swaps) ≡ moved s w (Up n off (record { items = swaps }))
moved_up s w n off swaps =
    ap (λ (ends : ℕ → Role → EndAt). record (moved s w (Up n off (record { items = swaps }))) { end_at = ends }) (λ i k r. end_same s w n swaps k r i)

-- The world after it, and the steps

pub same_world : (s : Setting) (says : Result PtpMsg FrameFault) (y : ℤ) (w : WorldAt) (e : Event) → world_step s says y w (bare e) ≡ world_step s says y w e
same_world s says y w (Pass dt drifts fibres) = refl
same_world s says y w (Tick n) = refl
same_world s says y w (Sample n base bits) = refl
same_world s says y w (Depart n p stamp) = refl
same_world s says y w (Arrive i raw) = refl
same_world s says y w (Deliver i) = refl
same_world s says y w (Noise n p octets raw) = refl
same_world s says y w (Down n) = refl
same_world s says y w (Up n off swaps) =
    ap (λ (v : WorldAt). gives_all s y v (given_plain n Reset ∷ at_ports s v (comes_from s v) n)) (moved_up s w n off swaps.items)
same_world s says y w (Cut k) = refl
same_world s says y w (Join k ms sm) = refl

pub same_steps : (s : Setting) (says : Result PtpMsg FrameFault) (y : ℤ) (w : WorldAt) (e : Event) → event_steps s says y w (bare e) ≡ event_steps s says y w e
same_steps s says y w (Pass dt drifts fibres) = refl
same_steps s says y w (Tick n) = refl
same_steps s says y w (Sample n base bits) = refl
same_steps s says y w (Depart n p stamp) = refl
same_steps s says y w (Arrive i raw) = refl
same_steps s says y w (Deliver i) = refl
same_steps s says y w (Noise n p octets raw) = refl
same_steps s says y w (Down n) = refl
same_steps s says y w (Up n off swaps) =
    ap (λ (v : WorldAt). steps_of s y v (given_plain n Reset ∷ at_ports s v (comes_from s v) n)) (moved_up s w n off swaps.items)
same_steps s says y w (Cut k) = refl
same_steps s says y w (Join k ms sm) = refl

-- Premises

swap_checks : (s : Setting) (n : ℕ) (swaps : List Swap) → map (swap_is_placed s n) (map bare_swap swaps) ≡ map (swap_is_placed s n) swaps
swap_checks s n [] = refl
swap_checks s n (swap ∷ swaps) = ap (λ (rest : List Check). swap_is_placed s n swap ∷ rest) (swap_checks s n swaps)

module_checks_same : (s : Setting) (n : ℕ) (swaps : List Swap) → flat_map (module_kept s n) (map bare_swap swaps) ≡ flat_map (module_kept s n) swaps
module_checks_same s n [] = refl
module_checks_same s n (swap ∷ swaps) = ap (λ (rest : List Check). module_kept s n swap ++ rest) (module_checks_same s n swaps)

up_same : (s : Setting) (w : WorldAt) (says : Result PtpMsg FrameFault) (n : ℕ) (off : ℤ) (swaps : List Swap)
    → checks_of s w says (plain_up n off swaps) ≡ checks_of s w says (Up n off (record { items = swaps }))
up_same s w says n off swaps =
    ap₂ (λ (v : WorldAt) (rest : List Check). true_at_top s n off ∷ (flat_map (fibre_kept s v) (links_of s) ++ rest)) (moved_up s w n off swaps)
    (ap₂ (λ (modules ports : List Check). modules ++ (ports ++ (needs (not (w.clock n).up) ∷ []))) (module_checks_same s n swaps) (swap_checks s n swaps))

pub same_checks : (s : Setting) (w : WorldAt) (says : Result PtpMsg FrameFault) (e : Event) → checks_of s w says (bare e) ≡ checks_of s w says e
same_checks s w says (Pass dt drifts fibres) = refl
same_checks s w says (Tick n) = refl
same_checks s w says (Sample n base bits) = refl
same_checks s w says (Depart n p stamp) = refl
same_checks s w says (Arrive i raw) = refl
same_checks s w says (Deliver i) = refl
same_checks s w says (Noise n p octets raw) = refl
same_checks s w says (Down n) = refl
same_checks s w says (Up n off swaps) = up_same s w says n off swaps.items
same_checks s w says (Cut k) = refl
same_checks s w says (Join k ms sm) = refl

pub same_said : (e : Event) (says : Result PtpMsg FrameFault) → IsSaid e says → IsSaid (bare e) says
same_said (Pass dt drifts fibres) says h = h
same_said (Tick n) says h = h
same_said (Sample n base bits) says h = h
same_said (Depart n p stamp) says h = h
same_said (Arrive i raw) says h = h
same_said (Deliver i) says h = h
same_said (Noise n p octets raw) says h = h
same_said (Down n) says h = h
same_said (Up n off swaps) says h = h
same_said (Cut k) says h = h
same_said (Join k ms sm) says h = h
