-- Carriers that are lost and that come: what the code lists at the ends of a link is what is given there.
use Rattle.std.proofs.Common.{◌≡◌, ◌∙◌, refl, ap, ap₂, sym, subst, ℕ, ℤ, pos, ◌==◌, ◌&&◌, ◌||◌, Bool, true, false, if◌then◌else◌, List, [], ◌∷◌, ◌++◌, slice_get, Option, None, Some, option_and_then}
use Rattle.std.specs.List.{AllZip}
use Rattle.std.specs.Option.{option_map_or}
use Rattle.arrayvec.specs.ArrayVec.{ArrayVec}
use Rattle.wrp_network.specs.declared.configuration.NetCfg.{NetCfg}
use Rattle.wrp_base.specs.declared.link.Module.{Module}
use Rattle.wrp_base.specs.declared.link.Role.{Role}
use Rattle.wrp_network.specs.declared.network.LinkCfg.{LinkCfg}
use Rattle.wrp_network.specs.Network.{End}
use Rattle.wrp_base.specs.Link.{other_of}
use Rattle.wrp_base.proofs.Naturals.{eq_self}
use Rattle.wrp_caldb.specs.Database.{Database, module_at}
use Rattle.wrp_node.specs.declared.interface.Input.TheVariants.{Carrier}
use Rattle.wrp_course.specs.declared.event.Event.TheVariants.{Join}
use Rattle.wrp_course.specs.declared.event.Swap.{Swap}
use Rattle.wrp_course.specs.declared.place.Place.{Place}
use Rattle.wrp_plant.specs.declared.plant.Plant.{Plant}
use Rattle.wrp_course.specs.Setting.{Setting, end_at, entry_at, is_of, link_of, place_among, place_of, sends_nm}
use Rattle.wrp_changes.specs.Gifts.{GiftIs}
use Rattle.wrp_course.specs.Given.{Given, comes_from, given_plain, goes_at, if_carried}
use Rattle.wrp_changes.specs.Giving.{comes_over, comes_over_both, listed, name_with, up_of}
use Rattle.wrp_course.specs.Moved.{moved, swap_at, with_swap}
use Rattle.wrp_plant.specs.Plant.{PlantIs}
use Rattle.wrp_course.specs.WorldAt.{EndAt, WorldAt, ends_are_up, has_carrier}

-- An end of a link

abbrev entry_by : Database → Role → List ℕ → LinkCfg → Option Module
entry_by db r name link = module_at db name (sends_nm r link) (sends_nm (other_of r) link)

pub entry_told : (s : Setting) (w : WorldAt) (plant : Plant) (k : ℕ) (r : Role) (link : LinkCfg) (name : List ℕ) (a b : ℕ) (entry : Option Module) → PlantIs s w plant →
    slice_get plant.net.cfg.links.items k ≡ Some link → a ≡ sends_nm r link → b ≡ sends_nm (other_of r) link →
    entry ≡ module_at plant.net.db name a b → entry ≡ entry_at s k r name
entry_told s w plant k r link name a b entry h e f g is =
    is ∙ ap₂ (λ x y. module_at plant.net.db name x y) f g
    ∙ ap (λ (db : Database). entry_by db r name link) h.db
    ∙ sym (ap (option_and_then (entry_by s.db r name)) (ap (λ (cfg : NetCfg). slice_get cfg.links.items k) (sym h.cfg) ∙ e))

-- One input there

pub goes_told : (s : Setting) (k : ℕ) (r : Role) (end : End) → end_at s k r ≡ Some end →
    AllZip (GiftIs (pos 0)) (goes_at s k r) (listed (record { node = end.node; input = Carrier end.port false None }) ∷ [])
goes_told s k r end e =
    subst (λ (o : Option End). AllZip (GiftIs (pos 0)) (option_map_or (λ it. given_plain it.node (Carrier it.port false None) ∷ []) o []) (listed (record { node = end.node; input = Carrier end.port false None }) ∷ [])) (sym e)
    (record { node = refl; input = refl; read = tt }, tt)

pub comes_told : (s : Setting) (k : ℕ) (r : Role) (name : List ℕ) (end : End) (entry : Option Module) → end_at s k r ≡ Some end → entry ≡ entry_at s k r name →
    AllZip (GiftIs (pos 0)) (comes_over s k r name) (listed (record { node = end.node; input = Carrier end.port true entry }) ∷ [])
comes_told s k r name end entry e f =
    subst (λ (o : Option End). AllZip (GiftIs (pos 0)) (option_map_or (λ it. given_plain it.node (Carrier it.port true (entry_at s k r name)) ∷ []) o []) (listed (record { node = end.node; input = Carrier end.port true entry }) ∷ [])) (sym e)
    (record { node = refl; input = ap (λ m. Carrier end.port true m) f; read = tt }, tt)

-- Both ends

pub comes_both : (s : Setting) (w : WorldAt) (k : ℕ) (r : Role) (own other : List ℕ) → own ≡ (w.end_at k r).name → other ≡ (w.end_at k (other_of r)).name →
    comes_over_both s k r own other ≡ comes_from s w k r
comes_both s w k r own other e f = ap₂ (λ a b. comes_over s k r a ++ comes_over s k (other_of r) b) e f

-- If the link has its carrier

pub where_so : {A : Type 0} (b c : Bool) (x : A) (y : A) → c ≡ b → c ≡ true → x ≡ (if b then x else y)
where_so b c x y e is = rw (sym e ∙ is) refl

pub where_not : {A : Type 0} (b c : Bool) (x : A) (y : A) → c ≡ b → c ≡ false → y ≡ (if b then x else y)
where_not b c x y e is = rw (sym e ∙ is) refl

pub at_place : (s : Setting) (w v : WorldAt) (plant : Plant) (n p : ℕ) (place : Place) (gives : ℕ → Role → List Given) → PlantIs s w plant →
    place_among n p 0 plant.net.cfg.links.items ≡ Some place →
    (if has_carrier s v place.link then gives place.link place.role else []) ≡ if_carried s v gives (place_of s n p)
at_place s w v plant n p place gives h e =
    sym (ap (if_carried s v gives) (ap (λ (cfg : NetCfg). place_among n p 0 cfg.links.items) (sym h.cfg) ∙ e))

pub at_no_place : (s : Setting) (w v : WorldAt) (plant : Plant) (n p : ℕ) (gives : ℕ → Role → List Given) → PlantIs s w plant →
    place_among n p 0 plant.net.cfg.links.items ≡ None → [] ≡ if_carried s v gives (place_of s n p)
at_no_place s w v plant n p gives h e =
    sym (ap (if_carried s v gives) (ap (λ (cfg : NetCfg). place_among n p 0 cfg.links.items) (sym h.cfg) ∙ e))

-- A link that is joined

pub joined_carrier : (s : Setting) (w : WorldAt) (k : ℕ) (ms sm : ℤ) → ends_are_up w.clock (link_of s k) ≡ has_carrier s (moved s w (Join k ms sm)) k
joined_carrier s w k ms sm = rw (eq_self k) refl

-- A node that comes up

pub up_with : (w : WorldAt) (s : Setting) (n other : ℕ) (off : ℤ) (swaps : ArrayVec Swap) (b up : Bool) → b ≡ ((other == n) || up) → up ≡ (w.clock other).up →
    b ≡ ((up_of s w n off swaps).clock other).up
up_with w s n other off swaps b up e f =
    e ∙ ap (λ x. (other == n) || x) f
    ∙ elim (other == n) as (λ c. (c || (w.clock other).up) ≡ (if c then record { up = true; off = off; ticked = w.time; samples = 0 } else w.clock other).up) [
      | true ↦ refl
      | false ↦ refl
    ]

pub carrier_with : (s : Setting) (w : WorldAt) (plant : Plant) (n k : ℕ) (off : ℤ) (swaps : ArrayVec Swap) (link : LinkCfg) (b joined upper lower : Bool) → PlantIs s w plant →
    slice_get plant.net.cfg.links.items k ≡ Some link → b ≡ (joined && (upper && lower)) → joined ≡ (w.fibre k).joined →
    upper ≡ ((up_of s w n off swaps).clock link.upper).up → lower ≡ ((up_of s w n off swaps).clock link.lower).up →
    b ≡ has_carrier s (up_of s w n off swaps) k
carrier_with s w plant n k off swaps link b joined upper lower h e is f g i =
    is ∙ ap₂ (λ x y. x && y) f (ap₂ (λ x y. x && y) g i)
    ∙ ap (λ o. (w.fibre k).joined && ends_are_up (up_of s w n off swaps).clock o) (sym (ap (λ (cfg : NetCfg). slice_get cfg.links.items k) (sym h.cfg) ∙ e))

-- the module that is then installed at an end

swapped_name : (o : Option Swap) (e : EndAt) → option_map_or (λ swap. swap.name.bytes) o e.name ≡ (with_swap o e).name
swapped_name None e = refl
swapped_name (Some swap) e = refl

swapped_where : (b : Bool) (p : ℕ) (swaps : List Swap) (e : EndAt) → name_with b p swaps e.name ≡ (if b then with_swap (swap_at p swaps) e else e).name
swapped_where true p swaps e = swapped_name (swap_at p swaps) e
swapped_where false p swaps e = refl

pub name_told : (s : Setting) (w : WorldAt) (n k : ℕ) (r : Role) (off : ℤ) (swaps : ArrayVec Swap) (list : List Swap) (end : End) (name result : List ℕ) → list ≡ swaps.items →
    end_at s k r ≡ Some end → result ≡ name_with (end.node == n) end.port list name → name ≡ (w.end_at k r).name →
    result ≡ ((up_of s w n off swaps).end_at k r).name
name_told s w n k r off swaps list end name result same e is f =
    is ∙ ap (λ (l : List Swap). name_with (end.node == n) end.port l name) same
    ∙ ap (name_with (end.node == n) end.port swaps.items) f
    ∙ swapped_where (end.node == n) end.port swaps.items (w.end_at k r)
    ∙ sym (ap (λ (o : Option End). (if is_of n o then with_swap (swap_at (option_map_or (λ it. it.port) o 0) swaps.items) (w.end_at k r) else w.end_at k r).name) e)
