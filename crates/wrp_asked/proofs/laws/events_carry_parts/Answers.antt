-- By the laws of every run.
use Rattle.wrp_asked.proofs.PartsCarried.{events_carry_parts}
use Rattle.wrp_asked.proofs.laws.events_carry_parts.Goals as goal

pub returns : goal.returns
returns c =
    events_carry_parts c.events_can_come.ensures c.reading_is_accepted.ensures c.events_hold.ensures.links c.events_hold.ensures.tracks
    (record { follows = c.hops_are_kept.ensures.follows; siblings = c.hops_are_kept.ensures.siblings; way = c.hops_are_kept.ensures.way })
