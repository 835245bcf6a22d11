use Rattle.wrp_bound_laws.proofs.exchanges.syncs_tell.Goals as goal
use Rattle.wrp_bound_laws.proofs.Schedules.OpenPorts.{QuietLaws}
use Rattle.wrp_bound_laws.proofs.Samples.ChainSources.{ChainLaws}
use Rattle.wrp_bound_laws.proofs.SyncPairs.SyncRuns.{syncs_tell}

pub returns : goal.returns
returns c =
    let quiet : QuietLaws = record {
      links = c.step_gives_links.ensures;
      ends = c.ends_are_set.ensures;
      apart = c.ticks_are_apart.ensures;
      carriers = c.link_on_in_the_same_handshake.ensures.carriers;
    } in
    let chains : ChainLaws = record {
      lease = record { quiet = quiet; put = c.frames_were_put_out.ensures; track = c.track_since.ensures; held = c.holdover_since.ensures };
      settles = c.step_settles.ensures;
      signals = c.chain_has_signals.ensures;
      chain = c.track_is_near.ensures.chain;
    } in
    syncs_tell (record {
      held = record {
        chain = record {
          given = record { since = c.chain_since.ensures; phase = c.phase_is_sum.ensures.moves };
          chains = chains;
          constant = c.chain_has_constant.ensures;
        };
        flight = record { quiet = quiet; stamped = c.frames_are_stamped.ensures; times = c.frames_have_times.ensures };
        stamp = record {
          merged = c.merged_within_tag.ensures;
          stays = c.modules_stay.ensures;
          carriers = c.link_on_in_the_same_handshake.ensures.carriers;
          modules = c.link_on_in_the_same_handshake.ensures.modules;
        };
        follow = c.frames_follow_the_source.ensures;
        fibres = c.fibres_keep_their_share.ensures;
        sync = c.stamps_tell_constant.ensures.sync;
      };
      same = record {
        master = record { chains = chains; links = c.link_on_in_the_same_handshake.ensures.links; together = c.slave_on_with_its_master.ensures };
        one = c.one_timed_an_event.ensures;
        late = c.ids_come_again_late.ensures;
      };
      put = c.frames_were_put_out.ensures;
    })
