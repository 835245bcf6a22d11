use Rattle.wrp_bound_laws.proofs.Samples.ChainRuns.{chain_has_constant}
use Rattle.wrp_bound_laws.proofs.chains.chain_has_constant.Goals as goal

pub returns : goal.returns
returns c = chain_has_constant (record {
  moves = record {
    chains = record {
      lease = record {
        quiet = record {
          links = c.step_gives_links.ensures;
          ends = c.ends_are_set.ensures;
          apart = c.ticks_are_apart.ensures;
          carriers = c.link_on_in_the_same_handshake.ensures.carriers;
        };
        put = c.frames_were_put_out.ensures;
        track = c.track_since.ensures;
        held = c.holdover_since.ensures;
      };
      settles = c.step_settles.ensures;
      signals = c.chain_has_signals.ensures;
      chain = c.track_is_near.ensures.chain;
    };
    rates = record {
      locked = c.chain_is_unbroken.ensures.locked;
      commands = c.commands_are_held.ensures;
      track = c.no_step_in_track.ensures;
      chain = c.track_is_near.ensures.chain;
    };
    modules = c.modules_stay.ensures;
  };
  unbroken = c.chain_is_unbroken.ensures.since;
  since = c.chain_since.ensures;
  sum = c.phase_is_sum.ensures.sum;
  gap = c.chain_keeps_gap.ensures;
  beat = c.sample_keeps_beat_pattern.ensures;
  tag = c.tag_within_detector_error.ensures;
  starts = c.chain_is_kept.ensures.starts;
  moment = c.chain_is_kept.ensures.moment;
  sample = c.chain_is_kept.ensures.sample;
})
