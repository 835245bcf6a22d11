-- The true delays of the module in place at an end of a link are within the error of its entry, if it is listed, in
-- every run.
use Rattle.std.proofs.Common.{◌≡◌, ◌∙◌, refl, ap, ap₂, sym, subst, ℕ, ◌≤◌, ◌==◌, ℤ, pos, ◌-ℤ◌, unsigned_abs, not, Bool, true, false, cond, if◌then◌else◌, is_some, List, [], ◌∷◌, ◌++◌, map, flat_map, Option, None, Some, IfSome, option_map, Result, arith}
use Rattle.arrayvec.specs.ArrayVec.{ArrayVec as Items}
use Rattle.std.proofs.lemmas.Bool.{eqb-true, true≢false}
use Rattle.std.proofs.lemmas.Int.{ints}
use Rattle.std.specs.Option.{option_map_or}
use Rattle.std.proofs.lemmas.Option.{none-some, same_Some}
use Rattle.wrp_base.specs.declared.link.Module.{Module}
use Rattle.wrp_base.specs.declared.link.Role.{Role}
use Rattle.wrp_base.specs.declared.message.PtpMsg.{PtpMsg}
use Rattle.wrp_network.specs.declared.network.LinkCfg.{LinkCfg}
use Rattle.wrp_network.specs.Network.{End}
use Rattle.wrp_base.specs.Closeness.{IsWithin}
use Rattle.wrp_frame.specs.declared.fault.FrameFault.{FrameFault}
use Rattle.wrp_course.specs.Checks.{AllHold, Check, Holds, needs}
use Rattle.wrp_course.specs.declared.event.Event.{Event}
use Rattle.wrp_course.specs.declared.event.Event.TheVariants.{Depart, Down, Up, Cut}
use Rattle.wrp_course.specs.declared.event.Swap.{Swap}
use Rattle.wrp_course.specs.declared.place.Place.{Place}
use Rattle.wrp_course.specs.Given.{given_by}
use Rattle.wrp_course.specs.Moved.{behind_first, end_after, is_place, loses, moved, swap_at, with_swap}
use Rattle.wrp_course.specs.Premises.{Accepts, entry_for, fibre_kept, module_checks, module_kept, swap_is_placed}
use Rattle.wrp_course.specs.Run.{Happened, world_after}
use Rattle.wrp_course.specs.RunLaws.{SameModule}
use Rattle.wrp_course.specs.Runs.{IsNetwork, IsRun}
use Rattle.wrp_course.specs.Setting.{Setting, end_at, end_of, entry_at, is_of, link_of, links_of, place_of}
use Rattle.wrp_course.specs.WorldAt.{EndAt, Sending, WorldAt, first_name}
use Rattle.wrp_course.proofs.RunNetwork.{LinkEnd, are_apart, end_with, place_end}
use Rattle.wrp_course.proofs.RunTimes.{all_given_module, all_right}
use Rattle.wrp_bound_laws.proofs.Motion.OnTime.{first_part}
use Rattle.wrp_bound_laws.proofs.Motion.Slow.{check_says}
use Rattle.wrp_bound_laws.proofs.Runs.Suffixes.{run_before}

-- true delays are within the error of an entry
pub record HasDelays (entry : Module) (tx rx : ℕ) : Type 0 where
  pub sends : IsWithin entry.err (pos tx) (pos entry.tx)
  pub receives : IsWithin entry.err (pos rx) (pos entry.rx)

-- and the true delays of the module at an end of a link, if it is listed there
abbrev pub IsNear : Setting → ℕ → Role → EndAt → Type 0
IsNear s k r e = IfSome (entry_at s k r e.name) (λ m. HasDelays m e.tx e.rx)

-- A new world, and what leaves the module as it is

no_distance : (n most : ℕ) → unsigned_abs (pos n -ℤ pos n) ≤ most
no_distance n most = omega (arith, ints)

new_near : (o : Option Module) → IfSome o (λ m. HasDelays m (option_map_or (λ (x : Module). x.tx) o 0) (option_map_or (λ (x : Module). x.rx) o 0))
new_near None = tt
new_near (Some entry) = record { sends = no_distance entry.tx entry.err; receives = no_distance entry.rx entry.err }

same_near : (s : Setting) (k : ℕ) (r : Role) (e f : EndAt) → SameModule e f → IsNear s k r e → IsNear s k r f
same_near s k r e f m h =
    subst (λ name. IfSome (entry_at s k r name) (λ x. HasDelays x f.tx f.rx)) (sym m.name)
    (subst (λ t. IfSome (entry_at s k r e.name) (λ x. HasDelays x t f.rx)) (sym m.tx)
    (subst (λ t. IfSome (entry_at s k r e.name) (λ x. HasDelays x e.tx t)) (sym m.rx) h))

waiting_near : (s : Setting) (k : ℕ) (r : Role) (e : EndAt) (b : Bool) (waiting : List Sending) → IsNear s k r e → IsNear s k r (if b then record e { waiting = waiting } else e)
waiting_near s k r e true waiting h = h
waiting_near s k r e false waiting h = h

-- Modules that are put in place

-- what was checked of the module that is put in place at a port
record IsChecked (s : Setting) (n p : ℕ) (swap : Swap) : Type 0 where
  port : swap.port ≡ p
  near : AllHold (module_kept s n swap)
  placed : Holds (swap_is_placed s n swap)

checked_where : (s : Setting) (n p : ℕ) (x : Swap) (o : Option Swap) (swap : Swap) (b : Bool) → (x.port == p) ≡ b → AllHold (module_kept s n x) → Holds (swap_is_placed s n x) → (o ≡ Some swap → IsChecked s n p swap) →
    cond b (Some x) o ≡ Some swap → IsChecked s n p swap
checked_where s n p x o swap true e near placed later is = subst (IsChecked s n p) (same_Some x swap is) (record { port = eqb-true x.port p e; near = near; placed = placed })
checked_where s n p x o swap false e near placed later is = later is

swap_checked : (s : Setting) (n p : ℕ) (swaps : List Swap) (swap : Swap) → AllHold (flat_map (module_kept s n) swaps) → AllHold (map (swap_is_placed s n) swaps) → swap_at p swaps ≡ Some swap → IsChecked s n p swap
swap_checked s n p [] swap near placed is = absurd (none-some swap is)
swap_checked s n p (x ∷ swaps) swap near placed is =
    checked_where s n p x (swap_at p swaps) swap (x.port == p) refl (first_part (module_kept s n x) (flat_map (module_kept s n) swaps) near) placed.0
    (swap_checked s n p swaps swap (all_right Holds (module_kept s n x) (flat_map (module_kept s n) swaps) near) placed.1) is

-- the true delays of a module that is put in place at an end of a link
abbrev SwapIsNear : Setting → ℕ → Role → Swap → Type 0
SwapIsNear s k r swap = IfSome (entry_at s k r swap.name.bytes) (λ m. HasDelays m swap.tx swap.rx)

near_entry : (swap : Swap) (o : Option Module) → AllHold (module_checks swap o) → IfSome o (λ m. HasDelays m swap.tx swap.rx)
near_entry swap None h = tt
near_entry swap (Some entry) h = record {
  sends = check_says (unsigned_abs (pos swap.tx -ℤ pos entry.tx)) entry.err h.0;
  receives = check_says (unsigned_abs (pos swap.rx -ℤ pos entry.rx)) entry.err h.1.0;
}

-- its port is only at that end
near_place : (s : Setting) → IsNetwork s → (n k : ℕ) (r : Role) (swap : Swap) (o : Option Place) → end_at s k r ≡ Some (end_with n swap.port) → place_of s n swap.port ≡ o → not (is_some o) ≡ false →
    AllHold (module_checks swap (entry_for s swap o)) → SwapIsNear s k r swap
near_place s net n k r swap None there at is h = absurd (true≢false is)
near_place s net n k r swap (Some place) there at is h =
    let it : LinkEnd s place.link place.role (end_with n swap.port) = place_end s n swap.port place at in
    let same : (place.link ≡ k) × (place.role ≡ r) =
    are_apart s net place.link k place.role r (end_with n swap.port) (ap (option_map (end_of place.role)) it.there ∙ ap Some it.end_is) there in
    near_entry swap (entry_at s k r swap.name.bytes)
    (subst (λ q. AllHold (module_checks swap (entry_at s k q swap.name.bytes))) same.1
    (subst (λ l. AllHold (module_checks swap (entry_at s l place.role swap.name.bytes))) same.0 h))

near_checked : (s : Setting) → IsNetwork s → (n k : ℕ) (r : Role) (end : End) (swap : Swap) → end_at s k r ≡ Some end → end.node ≡ n → IsChecked s n end.port swap → SwapIsNear s k r swap
near_checked s net n k r end swap there node c =
    near_place s net n k r swap (place_of s n swap.port) (there ∙ ap Some (ap₂ end_with node (sym c.port))) refl c.placed c.near

swapped_near : (s : Setting) (k : ℕ) (r : Role) (e : EndAt) (o : Option Swap) → IsNear s k r e → ((swap : Swap) → o ≡ Some swap → SwapIsNear s k r swap) → IsNear s k r (with_swap o e)
swapped_near s k r e None h near = h
swapped_near s k r e (Some swap) h near = near swap refl

-- when a node comes up, whether the end is the node's or not
up_near : (s : Setting) (k p : ℕ) (r : Role) (swaps : List Swap) (e : EndAt) (b : Bool) → IsNear s k r e → ((swap : Swap) → b ≡ true → swap_at p swaps ≡ Some swap → SwapIsNear s k r swap) →
    IsNear s k r (if b then with_swap (swap_at p swaps) e else e)
up_near s k p r swaps e true h near = swapped_near s k r e (swap_at p swaps) h (λ swap is. near swap refl is)
up_near s k p r swaps e false h near = h

-- what was checked of all of them
record AreChecked (s : Setting) (n : ℕ) (swaps : List Swap) : Type 0 where
  near : AllHold (flat_map (module_kept s n) swaps)
  placed : AllHold (map (swap_is_placed s n) swaps)

up_checked : (s : Setting) (w : WorldAt) (says : Result PtpMsg FrameFault) (n : ℕ) (off : ℤ) (swaps : Items Swap) → Accepts s w says (Up n off swaps) → AreChecked s n swaps.items
up_checked s w says n off swaps a =
    let v : WorldAt = moved s w (Up n off swaps) in
    let last : List Check = needs (not (w.clock n).up) ∷ [] in
    let rest : AllHold (flat_map (module_kept s n) swaps.items ++ (map (swap_is_placed s n) swaps.items ++ last)) =
    all_right Holds (flat_map (fibre_kept s v) (links_of s)) (flat_map (module_kept s n) swaps.items ++ (map (swap_is_placed s n) swaps.items ++ last)) a.1 in
    record {
      near = first_part (flat_map (module_kept s n) swaps.items) (map (swap_is_placed s n) swaps.items ++ last) rest;
      placed = first_part (map (swap_is_placed s n) swaps.items) last (all_right Holds (flat_map (module_kept s n) swaps.items) (map (swap_is_placed s n) swaps.items ++ last) rest);
    }

-- Each event

-- what an Up does to an end, if the end is known
abbrev end_up : (n : ℕ) (swaps : List Swap) (e : EndAt) → Option End → EndAt
end_up n swaps e o = if is_of n o then with_swap (swap_at (option_map_or (λ (x : End). x.port) o 0) swaps) e else e

moved_near : (s : Setting) → IsNetwork s → (w : WorldAt) (says : Result PtpMsg FrameFault) (e : Event) (k : ℕ) (r : Role) (link : LinkCfg) → link_of s k ≡ Some link → Accepts s w says e → IsNear s k r (w.end_at k r) →
    IsNear s k r (end_after s w e k r)
moved_near s net w says (Depart n p stamp) k r link is a h = waiting_near s k r (w.end_at k r) (is_place (place_of s n p) k r) (behind_first (w.end_at k r).waiting) h
moved_near s net w says (Up n off swaps) k r link is a h =
    let there : end_at s k r ≡ Some (end_of r link) = ap (option_map (end_of r)) is in
    let c : AreChecked s n swaps.items = up_checked s w says n off swaps a in
    subst (λ o. IsNear s k r (end_up n swaps.items (w.end_at k r) o)) (sym there)
    (up_near s k (end_of r link).port r swaps.items (w.end_at k r) ((end_of r link).node == n) h
    (λ swap mine found. near_checked s net n k r (end_of r link) swap there (eqb-true (end_of r link).node n mine)
    (swap_checked s n (end_of r link).port swaps.items swap c.near c.placed found)))
moved_near s net w says (Down n) k r link is a h = waiting_near s k r (w.end_at k r) (loses s (Down n) k) [] h
moved_near s net w says (Cut l) k r link is a h = waiting_near s k r (w.end_at k r) (loses s (Cut l) k) [] h
moved_near s net w says _ k r link is a h = h

pub modules_near : (s : Setting) (events : List Happened) (k : ℕ) (r : Role) (link : LinkCfg) → link_of s k ≡ Some link → IsRun s events → IsNear s k r ((world_after s events).end_at k r)
modules_near s [] k r link is run = new_near (entry_at s k r (first_name s k r))
modules_near s (h ∷ before) k r link is run =
    let w : WorldAt = world_after s before in
    let v : WorldAt = moved s w h.event in
    same_near s k r (v.end_at k r) ((world_after s (h ∷ before)).end_at k r) (all_given_module s h.answer (given_by s w v h.says h.event) v k r)
    (moved_near s run.network w h.says h.event k r link is run.accepted.0 (modules_near s before k r link is (run_before s h before run)))
