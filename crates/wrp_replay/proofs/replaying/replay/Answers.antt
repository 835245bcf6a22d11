-- What the closure answers, the law of the link above says.
use Rattle.std.proofs.Common.{◌∙◌, ap, sym}
use Rattle.wrp_network.specs.Network.{link_above}
use Rattle.wrp_law.specs.LinkLaw.{down_of}
use Rattle.wrp_trace.specs.LineSetting.{line_setting_of}
use Rattle.wrp_replay.proofs.GoingOn.{law_of_some, law_says}
use Rattle.wrp_replay.proofs.replaying.replay.Goals as goal

pub replay_by-requires-clause-answers : goal.replay_by-requires-clause-answers
replay_by-requires-clause-answers g c = λ has.
    let net = c.args.replayed.net.now in
    let over = law_of_some net.db (link_above net.cfg c.args.replayed.node) c.law_above-above.result c.asked-link.result (sym c.is_some-has_law.ensures ∙ has)
    c.law_above-above.ensures.law c.asked-link.ensures.same in
    record {
      answer = λ x y low high is.
          law_says (line_setting_of net c.args.replayed.node) c.asked-link.result x y over (is.0 ∙ ap (λ v. down_of v.closure.0 x) c.new-law.ensures);
    }
