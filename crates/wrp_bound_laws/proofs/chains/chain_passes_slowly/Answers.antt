use Rattle.wrp_bound_laws.proofs.Samples.ChainMoves.{chain_passes_slowly}
use Rattle.wrp_bound_laws.proofs.chains.chain_passes_slowly.Goals as goal

pub returns : goal.returns
returns c = chain_passes_slowly (record {
  chains = record {
    lease = record {
      quiet = record {
        links = c.step_gives_links.ensures;
        ends = c.ends_are_set.ensures;
        apart = c.ticks_are_apart.ensures;
        carriers = c.link_on_in_the_same_handshake.ensures.carriers;
      };
      put = c.frames_were_put_out.ensures;
      track = c.track_since.ensures;
      held = c.holdover_since.ensures;
    };
    settles = c.step_settles.ensures;
    signals = c.chain_has_signals.ensures;
    chain = c.track_is_near.ensures.chain;
  };
  rates = record {
    locked = c.chain_is_unbroken.ensures.locked;
    commands = c.commands_are_held.ensures;
    track = c.no_step_in_track.ensures;
    chain = c.track_is_near.ensures.chain;
  };
  modules = c.modules_stay.ensures;
})
