-- By the history of each end of a link, and its handshake.
use Rattle.wrp_course.proofs.JudgedPorts.{ports_are_judged}
use Rattle.wrp_course.proofs.run_laws.ports_are_judged.Goals as goal

pub returns : goal.returns
returns c =
    ports_are_judged c.link_on_in_the_same_handshake.ensures.links c.link_on_in_the_same_handshake.ensures.handshake c.marks_are_a_history.ensures
