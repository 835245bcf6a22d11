-- By the events in which carriers come, and the handshake of each link.
use Rattle.wrp_course.proofs.RunWaking.{awake_left_long_ago, awake_lit_long_ago}
use Rattle.wrp_course.proofs.run_laws.ports_wake_late.Goals as goal

pub returns-clause-lit : goal.returns-clause-lit
returns-clause-lit c =
    awake_lit_long_ago c.step_gives_links.ensures c.signals_are_of_link.ensures c.time_never_falls.ensures c.ticks_are_apart.ensures
    c.link_on_in_the_same_handshake.ensures.carriers

pub returns-clause-left : goal.returns-clause-left
returns-clause-left c = awake_left_long_ago c.quiet_time_outlives_frames.ensures c.link_on_in_the_same_handshake.ensures.links
