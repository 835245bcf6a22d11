-- By what a step reports, and the handshake of each link.
use Rattle.wrp_course.proofs.EarnedReports.{link_on_is_earned, reports_are_true}
use Rattle.wrp_course.proofs.run_laws.reported_link_on_is_earned.Goals as goal

pub returns-clause-earned : goal.returns-clause-earned
returns-clause-earned c = link_on_is_earned c.link_on_in_the_same_handshake.ensures.handshake c.link_on_in_the_same_handshake.ensures.deltas

pub returns-clause-reports : goal.returns-clause-reports
returns-clause-reports c =
    reports_are_true c.step_gives_links.ensures
    (link_on_is_earned c.link_on_in_the_same_handshake.ensures.handshake c.link_on_in_the_same_handshake.ensures.deltas)
