-- The third word of no line is `track`.
use Rattle.wrp_asked.proofs.NoTrack.{emissions_tell_no_track}
use Rattle.wrp_asked.proofs.laws.emissions_tell_no_track.Goals as goal

pub returns : goal.returns
returns c = emissions_tell_no_track c.reading_is_accepted.ensures
