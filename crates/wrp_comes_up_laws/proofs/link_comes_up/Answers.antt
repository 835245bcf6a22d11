use Rattle.wrp_comes_up_laws.proofs.Proved.{link_comes_up}
use Rattle.wrp_comes_up_laws.proofs.link_comes_up.Goals as goal

pub returns : goal.returns
returns c =
    link_comes_up (record {
      links = c.step_gives_links.ensures;
      signals = c.signals_are_of_link.ensures;
      ends = c.ends_are_set.ensures;
      deeper = c.child_is_deeper.ensures;
      put = c.frames_were_put_out.ensures;
      apart = c.ticks_are_apart.ensures;
      rises = c.time_never_falls.ensures;
      with_master = c.slave_on_with_its_master.ensures;
      can_be = c.link_on_in_the_same_handshake.ensures.links;
      carriers = c.link_on_in_the_same_handshake.ensures.carriers;
    }) c.comes_up.ensures
