-- The end of a link that a port is, and the one that a frame comes to.
use Rattle.std.proofs.Common.{◌≡◌, ◌∙◌, refl, ap, ap₂, sym, subst, ℕ, zero, suc, ◌+◌, ◌==◌, ◌&&◌, ℤ, Bool, true, false, if◌then◌else◌, List, [], ◌∷◌, Option, None, Some, option_map, option_and_then, slice_get, eq-eqb}
use Rattle.std.proofs.lemmas.Option.{none-some, same_Some}
use Rattle.wrp_network.specs.declared.configuration.NetCfg.{NetCfg}
use Rattle.wrp_base.specs.declared.link.Role.{Role}
use Rattle.wrp_base.specs.declared.link.Role.TheVariants.{Master, Slave}
use Rattle.wrp_network.specs.declared.network.LinkCfg.{LinkCfg}
use Rattle.wrp_network.specs.Network.{End}
use Rattle.wrp_base.specs.Link.{other_of}
use Rattle.wrp_caldb.specs.Database.{Database}
use Rattle.wrp_config.specs.Accepted.{IsAccepted}
use Rattle.wrp_config.specs.Names.{is_upper_end, is_lower_end}
use Rattle.wrp_course.specs.declared.place.Place.{Place}
use Rattle.wrp_course.specs.Runs.{IsNetwork}
use Rattle.wrp_course.specs.Setting.{Setting, end_at, end_of, place_among, place_of}
use Rattle.wrp_world.specs.StandsFor.{IsValid, StandsFor, WorldOf}
use Rattle.wrp_course.specs.Views.{IsNextArrival, kept_frame}
use Rattle.wrp_course.specs.WorldAt.{WorldAt, FrameAt, is_on_fibre}
use Rattle.wrp_plant.specs.Plant.{end_to}
use Rattle.wrp_plant.proofs.KeptFrames.{kept_on_fibre}
use Rattle.wrp_course.proofs.RunNetwork.{LinkEnd as EndThere, are_apart, link_end, place_end}
use Rattle.wrp_sim.specs.Rules.{raw_of, raw_to}
use Rattle.wrp_sim.specs.Sim.{IsDue}

-- a world that is valid stands for states of an accepted network
pub network_of : {F : Type 0} (pre : F → ℤ → Type 0) (post : F → ℤ → ℤ → Type 0) (s : Setting) (w : WorldAt) (world : WorldOf F) →
    IsValid pre post world → StandsFor post s w world → IsNetwork s
network_of pre post s w world v h = record {
  accepted = subst (λ (cfg : NetCfg). IsAccepted cfg s.db) h.plant.cfg (subst (λ (db : Database). IsAccepted world.plant.net.cfg db) h.plant.db v.plant.accepted);
  set = h.set;
}

-- no end of these links is the port
found_none : (a b : Bool) (x y : Place) (rest : Option Place) → (if a then Some x else (if b then Some y else rest)) ≡ None → (a ≡ false) × (b ≡ false) × (rest ≡ None)
found_none true b x y rest e = absurd (none-some x (sym e))
found_none false true x y rest e = absurd (none-some y (sym e))
found_none false false x y rest e = (refl, refl, e)

both_are : (a b : Bool) → a ≡ true → b ≡ true → (a && b) ≡ false → ⊥
both_are true true e f g = cc
both_are true false e f g = cc
both_are false b e f g = cc

not_end : (r : Role) (n p : ℕ) (link : LinkCfg) (end : End) → end_of r link ≡ end → end.node ≡ n → end.port ≡ p →
    is_upper_end n p link ≡ false → is_lower_end n p link ≡ false → ⊥
not_end Master n p link end e f g upper lower =
    both_are (link.upper == n) (link.upper_port == p) (eq-eqb link.upper n (ap (λ (x : End). x.node) e ∙ f)) (eq-eqb link.upper_port p (ap (λ (x : End). x.port) e ∙ g)) upper
not_end Slave n p link end e f g upper lower =
    both_are (link.lower == n) (link.lower_port == p) (eq-eqb link.lower n (ap (λ (x : End). x.node) e ∙ f)) (eq-eqb link.lower_port p (ap (λ (x : End). x.port) e ∙ g)) lower

some_place : (n p k : ℕ) (links : List LinkCfg) (i : ℕ) (link : LinkCfg) (r : Role) (end : End) → slice_get links i ≡ Some link → end_of r link ≡ end →
    end.node ≡ n → end.port ≡ p → place_among n p k links ≡ None → ⊥
some_place n p k [] i link r end e f g h none = none-some link e
some_place n p k (l ∷ links) zero link r end e f g h none =
    let no = found_none (is_upper_end n p l) (is_lower_end n p l) (record { link = k; role = Master }) (record { link = k; role = Slave }) (place_among n p (k + 1) links) none in
    not_end r n p l end (ap (end_of r) (same_Some l link e) ∙ f) g h no.0 no.1
some_place n p k (l ∷ links) (suc i) link r end e f g h none =
    let no = found_none (is_upper_end n p l) (is_lower_end n p l) (record { link = k; role = Master }) (record { link = k; role = Slave }) (place_among n p (k + 1) links) none in
    some_place n p (k + 1) links i link r end e f g h no.2

-- an end of a link is found by its port
found : (s : Setting) → IsNetwork s → (k : ℕ) (r : Role) (end : End) → end_at s k r ≡ Some end → (o : Option Place) → place_of s end.node end.port ≡ o →
    o ≡ Some (record { link = k; role = r })
found s net k r end e None f =
    let x : EndThere s k r end = link_end s k r end e in
    absurd (some_place end.node end.port 0 s.cfg.links.items k x.link r end x.there x.end_is refl refl f)
found s net k r end e (Some place) f =
    let x : EndThere s place.link place.role end = place_end s end.node end.port place f in
    let y : EndThere s k r end = link_end s k r end e in
    let there : end_at s place.link place.role ≡ Some end = ap (option_map (end_of place.role)) x.there ∙ ap Some x.end_is in
    let one = are_apart s net place.link k place.role r end there e in
    ap₂ (λ l q. Some (record { link = l; role = q })) one.0 one.1

pub end_found : (s : Setting) → IsNetwork s → (k : ℕ) (r : Role) (end : End) → end_at s k r ≡ Some end → place_of s end.node end.port ≡ Some (record { link = k; role = r })
end_found s net k r end e = found s net k r end e (place_of s end.node end.port) refl

-- The raw stamp of a frame

-- the frame that is due first is on a fibre
pub due_on : {F : Type 0} (post : F → ℤ → ℤ → Type 0) (world : WorldOf F) (due : Option (ℕ × ℤ)) →
    ((s : Setting) (w : WorldAt) → StandsFor post s w world → IsNextArrival w due) → IsDue post world due
due_on post world None h = tt
due_on post world (Some next) h = λ s w k. (h s w k).2

-- the raw stamp of a frame is the one at the end that it comes to
to_end : (s : Setting) (w : WorldAt) (o : Option FrameAt) (to : Option Place) → to ≡ option_map end_to o →
    option_and_then (λ (p : Place). raw_to s w p.link p.role) to ≡ option_and_then (λ f. raw_to s w f.link (other_of f.by)) o
to_end s w None to e = ap (option_and_then (λ (p : Place). raw_to s w p.link p.role)) e
to_end s w (Some f) to e = ap (option_and_then (λ (p : Place). raw_to s w p.link p.role)) e

pub comes_there : (s : Setting) (w : WorldAt) (i : ℕ) (to : Option Place) → is_on_fibre (w.frame i) ≡ true →
    to ≡ option_map end_to (kept_frame s w i) → option_and_then (λ (p : Place). raw_to s w p.link p.role) to ≡ raw_of s w i
comes_there s w i to on e =
    to_end s w (w.frame i) to
    (e ∙ ap (option_map end_to) (kept_on_fibre s w i on))
