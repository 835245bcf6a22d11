use Rattle.wrp_clock_laws.proofs.Forward as proof
use Rattle.wrp_clock_laws.proofs.Forward.{ClockLaws}
use Rattle.wrp_clock_laws.proofs.clocks_run_forward.Goals as goal

pub returns-clause-forward : goal.returns-clause-forward
returns-clause-forward c = proof.clocks_run_forward (record {
  locked = c.chain_is_unbroken.ensures.locked;
  commands = c.commands_are_held.ensures;
  still = c.no_step_in_track.ensures;
  holds = record { held = c.holdover_since.ensures; track = c.track_since.ensures; chain = c.track_is_near.ensures.chain };
})

pub returns-clause-slew : goal.returns-clause-slew
returns-clause-slew c = proof.track_keeps_slew (record {
  locked = c.chain_is_unbroken.ensures.locked;
  commands = c.commands_are_held.ensures;
  still = c.no_step_in_track.ensures;
  holds = record { held = c.holdover_since.ensures; track = c.track_since.ensures; chain = c.track_is_near.ensures.chain };
})

pub returns-clause-held : goal.returns-clause-held
returns-clause-held c = proof.holdover_keeps_held (record {
  locked = c.chain_is_unbroken.ensures.locked;
  commands = c.commands_are_held.ensures;
  still = c.no_step_in_track.ensures;
  holds = record { held = c.holdover_since.ensures; track = c.track_since.ensures; chain = c.track_is_near.ensures.chain };
})

pub returns-clause-rate : goal.returns-clause-rate
returns-clause-rate c = proof.steady_keeps_rate (record {
  locked = c.chain_is_unbroken.ensures.locked;
  commands = c.commands_are_held.ensures;
  still = c.no_step_in_track.ensures;
  holds = record { held = c.holdover_since.ensures; track = c.track_since.ensures; chain = c.track_is_near.ensures.chain };
})
