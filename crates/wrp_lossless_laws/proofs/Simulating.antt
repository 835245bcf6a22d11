-- The events of a loop over a link that loses nothing are a simulated run, and both end together.
use Rattle.wrp_sim.specs.Keeps.{SimRunsAreRuns}
use Rattle.wrp_loop.specs.LoopRun.{Full, Going, On, Plan}
use Rattle.wrp_lossless_laws.specs.Simulated.{IsSimulatedToo, LosslessLoopIsSimulated}
use Rattle.wrp_lossless_laws.proofs.Following.{FollowsTo, Premises, large_follows, loop_follows, over_follows}

ends_so : (x : Plan) (last : Going) → FollowsTo x last → IsSimulatedToo x last
ends_so x (On l) h = record {
  at = h.sim;
  run = h.run;
  over = λ over. over_follows x l h over;
  large = λ large. large_follows x l h large;
  unforged = h.unforged;
}
ends_so x (Full l) h = record {
  at = h.sim;
  run = h.run;
  over = λ over. absurd over;
  large = λ large. (h.next, h.gives);
  unforged = h.unforged;
}

pub simulated_too : SimRunsAreRuns → LosslessLoopIsSimulated
simulated_too runs x calls last net fits hands loses loops =
    let p : Premises x = record { net = net; fits = fits; loss = hands.loss; repeat = hands.repeat; runs = runs } in
    ends_so x last (loop_follows x calls last p loses loops)
