use Rattle.wrp_bound_laws.proofs.Samples.ChainSources.{ChainLaws, chain_has_source, track_has_source}
use Rattle.wrp_bound_laws.proofs.Sources.LeaseSources.{lease_has_source}
use Rattle.wrp_bound_laws.proofs.leases.lease_has_source.Goals as goal

laws : goal.After-chain_has_signals → ChainLaws
laws c = record {
  lease = record {
    quiet = record {
      links = c.step_gives_links.ensures;
      ends = c.ends_are_set.ensures;
      apart = c.ticks_are_apart.ensures;
      carriers = c.link_on_in_the_same_handshake.ensures.carriers;
    };
    put = c.frames_were_put_out.ensures;
    track = c.track_since.ensures;
    held = c.holdover_since.ensures;
  };
  settles = c.step_settles.ensures;
  signals = c.chain_has_signals.ensures;
  chain = c.track_is_near.ensures.chain;
}

pub returns-clause-lease : goal.returns-clause-lease
returns-clause-lease c = lease_has_source (laws c).lease

pub returns-clause-chain : goal.returns-clause-chain
returns-clause-chain c = chain_has_source (laws c)

pub returns-clause-track : goal.returns-clause-track
returns-clause-track c = track_has_source (laws c)
