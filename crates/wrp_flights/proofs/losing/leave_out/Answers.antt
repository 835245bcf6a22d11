use Rattle.std.proofs.Common.{rules}
use Rattle.std.proofs.lemmas.Fn.{filter_same}
use Rattle.wrp_flights.specs.declared.departed.OnFibre.{OnFibre}
use Rattle.wrp_flights.specs.Frames.{on_at}
use Rattle.wrp_flights.proofs.Losses.{lists_left}
use Rattle.wrp_flights.proofs.losing.leave_out.Goals as goal

pub returns : goal.returns
returns c =
    let kept = filter_same _ (λ (it : OnFibre). on_at c.args.kept.now.entries it.number) _ (λ x b f' k. search rules) c.args.listed.now.items c.retain.new.self.items c.retain.ensures.filtered in
    lists_left c.args.kept.now.entries c.args.listed.now.items c.retain.new.self.items kept c.requires
