use Rattle.std.proofs.Common.{◌∙◌, sym, ap, map, flat_map}
use Rattle.std.proofs.lemmas.Int.{to_z-of_z}
use Rattle.std.specs.Int.{w64}
use Rattle.wrp_course.specs.Checks.{told_of}
use Rattle.wrp_plant.specs.Plant.{PlantIs}
use Rattle.wrp_course.specs.Premises.{fibre_rate, rate_kept, tick_late}
use Rattle.wrp_course.specs.Setting.{links_of, nodes_of}
use Rattle.wrp_premises.proofs.Counting.{told_first, told_later}
use Rattle.wrp_world.proofs.Inside.{plant_is}
use Rattle.wrp_world.proofs.world.World.pass_broken.Goals as goal

pub returns-in-Some : goal.returns-in-Some
returns-in-Some g c s w says h =
    let p : PlantIs s w c.self.inside.plant = plant_is _ s w c.args.self.now c.self.inside.plant c.self.inside.nodes.items c.self.view_is h in
    let dt = to_z-of_z w64 c.args.dt c.ranges.dt in
    told_first (map (tick_late s w c.args.dt) (nodes_of s)) _ c.in-Some.breach (sym c.in-Some.is ∙ c.late_broken.ensures s w p ∙ ap (λ t. told_of (map (tick_late s w t) (nodes_of s))) dt)

pub returns-in-Some-rates_broken : goal.returns-in-Some-rates_broken
returns-in-Some-rates_broken g c s w says h =
    let p : PlantIs s w c.self.inside.plant = plant_is _ s w c.args.self.now c.self.inside.plant c.self.inside.nodes.items c.self.view_is h in
    let dt = to_z-of_z w64 c.args.dt c.ranges.dt in
    told_later (map (tick_late s w c.args.dt) (nodes_of s)) _ _ (sym c.in_default.is ∙ c.late_broken.ensures s w p ∙ ap (λ t. told_of (map (tick_late s w t) (nodes_of s))) dt)
    (told_first (flat_map (rate_kept s w c.args.dt c.args.drifts.now.items) (nodes_of s)) _ c.in-Some-rates_broken.breach (sym c.in-Some-rates_broken.is ∙ c.rates_broken.ensures s w h ∙ ap (λ t. told_of (flat_map (rate_kept s w t c.args.drifts.now.items) (nodes_of s))) dt))

pub returns-in-Some-rates_of_fibres_broken : goal.returns-in-Some-rates_of_fibres_broken
returns-in-Some-rates_of_fibres_broken g c s w says h =
    let p : PlantIs s w c.self.inside.plant = plant_is _ s w c.args.self.now c.self.inside.plant c.self.inside.nodes.items c.self.view_is h in
    let dt = to_z-of_z w64 c.args.dt c.ranges.dt in
    told_later (map (tick_late s w c.args.dt) (nodes_of s)) _ _ (sym c.in_default.is ∙ c.late_broken.ensures s w p ∙ ap (λ t. told_of (map (tick_late s w t) (nodes_of s))) dt)
    (told_later (flat_map (rate_kept s w c.args.dt c.args.drifts.now.items) (nodes_of s)) _ _ (sym c.in_default-rates_broken.is ∙ c.rates_broken.ensures s w h ∙ ap (λ t. told_of (flat_map (rate_kept s w t c.args.drifts.now.items) (nodes_of s))) dt)
    (told_first (flat_map (fibre_rate c.args.dt c.args.moves.now.items) (links_of s)) _ c.in-Some-rates_of_fibres_broken.breach (sym c.in-Some-rates_of_fibres_broken.is ∙ c.rates_of_fibres_broken.ensures s w p ∙ ap (λ t. told_of (flat_map (fibre_rate t c.args.moves.now.items) (links_of s))) dt)))

pub returns : goal.returns
returns g c s w says h =
    let p : PlantIs s w c.self.inside.plant = plant_is _ s w c.args.self.now c.self.inside.plant c.self.inside.nodes.items c.self.view_is h in
    let dt = to_z-of_z w64 c.args.dt c.ranges.dt in
    told_later (map (tick_late s w c.args.dt) (nodes_of s)) _ _ (sym c.in_default.is ∙ c.late_broken.ensures s w p ∙ ap (λ t. told_of (map (tick_late s w t) (nodes_of s))) dt)
    (told_later (flat_map (rate_kept s w c.args.dt c.args.drifts.now.items) (nodes_of s)) _ _ (sym c.in_default-rates_broken.is ∙ c.rates_broken.ensures s w h ∙ ap (λ t. told_of (flat_map (rate_kept s w t c.args.drifts.now.items) (nodes_of s))) dt)
    (told_later (flat_map (fibre_rate c.args.dt c.args.moves.now.items) (links_of s)) _ _ (sym c.in_default-rates_of_fibres_broken.is ∙ c.rates_of_fibres_broken.ensures s w p ∙ ap (λ t. told_of (flat_map (fibre_rate t c.args.moves.now.items) (links_of s))) dt)
    (c.fibres_broken.ensures s w c.args.dt c.args.drifts.now h)))
