-- The first inequality that is broken, part by part of their list.
use Rattle.std.proofs.Common.{◌≡◌, ap, sym, ◌∙◌, List, [], ◌∷◌, ◌++◌, Option}
use Rattle.std.proofs.lemmas.List.Folds.{find-append}
use Rattle.std.specs.Prelude.{find}
use Rattle.std.specs.Option.{option_or}
use Rattle.wrp_network.specs.declared.configuration.NetCfg.{NetCfg}
use Rattle.wrp_bounds.specs.declared.inequality.Inequality.{Inequality}
use Rattle.wrp_bounds.specs.Inequalities.{is_broken, quiet_time, holdover_time, phase_rooms, tick_times, holdoff_time, flight_time, lock_counts, id_reuse, port_delays, inequalities}

-- the inequalities before the third
abbrev pub before_rooms : NetCfg → List Inequality
before_rooms net = quiet_time net ∷ (holdover_time net ∷ [])

-- the inequalities after it
abbrev pub behind_rooms : NetCfg → List Inequality
behind_rooms net =
    tick_times net ∷ (holdoff_time net ∷ (flight_time net ∷ (lock_counts net ∷ (id_reuse net ∷ (port_delays net ∷ [])))))

-- the first that is broken is the first of the parts' own
pub first_in_parts : (net : NetCfg) →
    option_or (option_or (find is_broken (before_rooms net)) (find is_broken (phase_rooms net))) (find is_broken (behind_rooms net))
    ≡ find is_broken (inequalities net)
unfolding inequalities
first_in_parts net =
    ap (λ (o : Option Inequality). option_or o (find is_broken (behind_rooms net))) (sym (find-append is_broken (before_rooms net) (phase_rooms net)))
    ∙ sym (find-append is_broken (before_rooms net ++ phase_rooms net) (behind_rooms net))
