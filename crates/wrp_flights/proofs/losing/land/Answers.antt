use Rattle.std.proofs.Common.{rules}
use Rattle.std.proofs.lemmas.Fn.{filter_same}
use Rattle.wrp_flights.specs.Listing.{is_other}
use Rattle.wrp_flights.proofs.losing.land.Goals as goal

pub returns : goal.returns
returns c = filter_same _ (is_other c.args.number) _ (λ x b f' k. search rules) c.args.listed.now.items c.retain.new.self.items c.retain.ensures.filtered
