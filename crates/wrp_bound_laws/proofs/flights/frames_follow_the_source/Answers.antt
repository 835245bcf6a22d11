use Rattle.wrp_bound_laws.proofs.Sources.Syncs.{frames_follow_the_source}
use Rattle.wrp_bound_laws.proofs.flights.frames_follow_the_source.Goals as goal

pub returns : goal.returns
returns c = frames_follow_the_source c.frames_have_times.ensures
