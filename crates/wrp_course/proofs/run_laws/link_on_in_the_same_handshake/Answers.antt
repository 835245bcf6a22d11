use Rattle.wrp_course.proofs.RunBoth.{carriers_are_the_links}
use Rattle.wrp_course.proofs.RunKept.{Laws}
use Rattle.wrp_course.proofs.RunEvents.{carriers_with_their_modules, link_on_in_the_same_handshake, link_on_with_the_deltas, links_can_be}
use Rattle.wrp_course.proofs.run_laws.link_on_in_the_same_handshake.Goals as goal

laws : goal.After-carrier_with_its_module → Laws
laws c = record {
  links = c.step_gives_links.ensures;
  signals = c.signals_are_of_link.ensures;
  ends = c.ends_are_set.ensures;
  deeper = c.child_is_deeper.ensures;
  one_link = c.on_in_the_same_handshake.ensures;
  one_link_deltas = c.on_with_the_deltas.ensures;
  one_link_module = c.carrier_with_its_module.ensures;
}

pub returns-clause-links : goal.returns-clause-links
returns-clause-links c = links_can_be (laws c)

pub returns-clause-handshake : goal.returns-clause-handshake
returns-clause-handshake c = link_on_in_the_same_handshake (laws c)

pub returns-clause-deltas : goal.returns-clause-deltas
returns-clause-deltas c = link_on_with_the_deltas (laws c)

pub returns-clause-carriers : goal.returns-clause-carriers
returns-clause-carriers c = carriers_are_the_links (laws c)

pub returns-clause-modules : goal.returns-clause-modules
returns-clause-modules c = carriers_with_their_modules (laws c)
