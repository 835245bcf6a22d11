use Rattle.std.proofs.Common.{◌≡◌, ◌∙◌, subst, count_by, length}
use Rattle.std.specs.Option.{is_some}
use Rattle.wrp_flights.specs.Frames.{at, numbers_from}
use Rattle.wrp_flights.proofs.Counting.{kept_counted}
use Rattle.wrp_flights.proofs.frames.Frames.kept.Goals as goal

pub returns : goal.returns
returns c =
    subst (λ f. c.len.result ≡ count_by (λ k. is_some (at k f.kept)) (numbers_from (length f.sent) 1)) c.self.view_is
    (c.len.ensures.len ∙ kept_counted c.self.inside.horizon c.self.inside.sent.items c.self.inside.kept.entries c.self.inside.ages.keys c.self.invariant.aged c.len.ensures.ordered)
