use Rattle.wrp_network_text.proofs.tree.+depth_within.Given as goal

abbrev pub decreases-depth_within : goal.decreases-depth_within
decreases-depth_within l = l.most
