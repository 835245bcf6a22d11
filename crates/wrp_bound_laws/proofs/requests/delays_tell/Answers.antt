use Rattle.wrp_bound_laws.proofs.DelayPairs.DelayRuns.{delays_tell}
use Rattle.wrp_bound_laws.proofs.DelayPairs.DelaySamples.{lit_in_chain}
use Rattle.wrp_bound_laws.proofs.Schedules.OpenPorts.{QuietLaws}
use Rattle.wrp_bound_laws.proofs.requests.delays_tell.Goals as goal

quiet : goal.After-stamps_tell_constant → QuietLaws
quiet c = record {
  links = c.step_gives_links.ensures;
  ends = c.ends_are_set.ensures;
  apart = c.ticks_are_apart.ensures;
  carriers = c.link_on_in_the_same_handshake.ensures.carriers;
}

pub returns : goal.returns
returns c = delays_tell (record {
  opens = record { quiet = quiet c; settles = c.step_settles.ensures; signals = c.chain_has_signals.ensures };
  stamps = record {
    merged = c.merged_within_tag.ensures;
    stays = c.modules_stay.ensures;
    carriers = c.link_on_in_the_same_handshake.ensures.carriers;
    modules = c.link_on_in_the_same_handshake.ensures.modules;
  };
  samples = record {
    since = c.chain_since.ensures;
    moves = c.phase_is_sum.ensures.moves;
    lit = lit_in_chain c.lease_has_source.ensures.chain;
  };
  put = c.frames_were_put_out.ensures;
  times = c.frames_have_times.ensures;
  stamped = c.frames_are_stamped.ensures;
  fibres = c.fibres_keep_their_share.ensures;
  constant = c.chain_has_constant.ensures;
  once = c.one_timed_an_event.ensures;
  late = c.ids_come_again_late.ensures;
  tells = c.stamps_tell_constant.ensures.delay;
})
