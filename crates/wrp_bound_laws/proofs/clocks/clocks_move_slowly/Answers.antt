use Rattle.wrp_bound_laws.proofs.Motion.Moving.{source_moves_slowly, top_is_true, ways_move_slowly}
use Rattle.wrp_bound_laws.proofs.clocks.clocks_move_slowly.Goals as goal

pub returns-clause-top : goal.returns-clause-top
returns-clause-top c = top_is_true c.commands_are_held.ensures

pub returns-clause-source : goal.returns-clause-source
returns-clause-source c =
    source_moves_slowly (record {
      locked = c.chain_is_unbroken.ensures.locked;
      commands = c.commands_are_held.ensures;
      track = c.no_step_in_track.ensures;
      chain = c.track_is_near.ensures.chain;
    })

pub returns-clause-ways : goal.returns-clause-ways
returns-clause-ways c = ways_move_slowly c.modules_stay.ensures
