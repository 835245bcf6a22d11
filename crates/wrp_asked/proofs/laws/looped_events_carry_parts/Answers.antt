-- By the laws of every run, of which each run over a link is one.
use Rattle.wrp_asked.proofs.LoopedParts.{looped_events_carry_parts}
use Rattle.wrp_asked.proofs.laws.looped_events_carry_parts.Goals as goal

pub returns : goal.returns
returns c =
    looped_events_carry_parts c.loop_keeps_the_bounds.ensures c.reading_is_accepted.ensures c.events_hold.ensures.links c.events_hold.ensures.tracks
    (record { follows = c.hops_are_kept.ensures.follows; siblings = c.hops_are_kept.ensures.siblings; way = c.hops_are_kept.ensures.way })
