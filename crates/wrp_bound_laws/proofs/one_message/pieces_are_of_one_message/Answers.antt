use Rattle.wrp_bound_laws.proofs.Samples.ChainSources.{ChainLaws}
use Rattle.wrp_bound_laws.proofs.DelayPairs.DelayPieces.{DelayLaws}
use Rattle.wrp_bound_laws.proofs.DelayPairs.DelaySamples.{lit_in_chain}
use Rattle.wrp_bound_laws.proofs.DelayPairs.OneRequest.{of_one_request}
use Rattle.wrp_bound_laws.proofs.SyncPairs.OneSync.{of_one_sync}
use Rattle.wrp_bound_laws.proofs.Schedules.OpenPorts.{QuietLaws}
use Rattle.wrp_bound_laws.proofs.Frames.StillToCome.{only_such}
use Rattle.wrp_bound_laws.proofs.SyncPairs.SyncRuns.{SyncLaws}
use Rattle.wrp_bound_laws.proofs.one_message.pieces_are_of_one_message.Goals as goal

quiet : goal.After-ticks_are_apart → QuietLaws
quiet c = record {
  links = c.step_gives_links.ensures;
  ends = c.ends_are_set.ensures;
  apart = c.ticks_are_apart.ensures;
  carriers = c.link_on_in_the_same_handshake.ensures.carriers;
}

chains : goal.After-ticks_are_apart → ChainLaws
chains c = record {
  lease = record { quiet = quiet c; put = c.frames_were_put_out.ensures; track = c.track_since.ensures; held = c.holdover_since.ensures };
  settles = c.step_settles.ensures;
  signals = c.chain_has_signals.ensures;
  chain = c.track_is_near.ensures.chain;
}

syncs : goal.After-ticks_are_apart → SyncLaws
syncs c = record {
  held = record {
    chain = record {
      given = record { since = c.chain_since.ensures; phase = c.phase_is_sum.ensures.moves };
      chains = chains c;
      constant = c.chain_has_constant.ensures;
    };
    flight = record { quiet = quiet c; stamped = c.frames_are_stamped.ensures; times = c.frames_have_times.ensures };
    stamp = record {
      merged = c.merged_within_tag.ensures;
      stays = c.modules_stay.ensures;
      carriers = c.link_on_in_the_same_handshake.ensures.carriers;
      modules = c.link_on_in_the_same_handshake.ensures.modules;
    };
    follow = c.frames_follow_the_source.ensures;
    fibres = c.fibres_keep_their_share.ensures;
    sync = c.stamps_tell_constant.ensures.sync;
  };
  same = record {
    master = record { chains = chains c; links = c.link_on_in_the_same_handshake.ensures.links; together = c.slave_on_with_its_master.ensures };
    one = c.one_timed_an_event.ensures;
    late = c.ids_come_again_late.ensures;
  };
  put = c.frames_were_put_out.ensures;
}

requests : goal.After-ticks_are_apart → DelayLaws
requests c = record {
  opens = record { quiet = quiet c; settles = c.step_settles.ensures; signals = c.chain_has_signals.ensures };
  stamps = record {
    merged = c.merged_within_tag.ensures;
    stays = c.modules_stay.ensures;
    carriers = c.link_on_in_the_same_handshake.ensures.carriers;
    modules = c.link_on_in_the_same_handshake.ensures.modules;
  };
  samples = record {
    since = c.chain_since.ensures;
    moves = c.phase_is_sum.ensures.moves;
    lit = lit_in_chain c.lease_has_source.ensures.chain;
  };
  put = c.frames_were_put_out.ensures;
  times = c.frames_have_times.ensures;
  stamped = c.frames_are_stamped.ensures;
  fibres = c.fibres_keep_their_share.ensures;
  constant = c.chain_has_constant.ensures;
  once = c.one_timed_an_event.ensures;
  late = c.ids_come_again_late.ensures;
  tells = c.stamps_tell_constant.ensures.delay;
}

pub returns-clause-one : goal.returns-clause-one
returns-clause-one c = λ s events k link run fit is. record {
  sync = of_one_sync (syncs c) s events k link run fit is;
  request = of_one_request (requests c) s events k link run fit is;
}

pub returns-clause-come : goal.returns-clause-come
returns-clause-come c = only_such c.frames_were_put_out.ensures
