use Rattle.std.proofs.Common.{ap, ap₂, ℤ, rules}
use Rattle.wrp_changes.proofs.NoBits.{both_zero}
use Rattle.wrp_changes.proofs.moves.spans.gathered.Goals as goal

pub returns : goal.returns
returns c e =
    let down = both_zero c.args.bits.0 c.args.by.now.0 (search rules) (search rules) (ap (λ (p : ℤ × ℤ). p.0) e) in
    let up = both_zero c.args.bits.1 c.args.by.now.1 (search rules) (search rules) (ap (λ (p : ℤ × ℤ). p.1) e) in
    (ap₂ (λ a b. (a, b)) down.0 up.0, ap₂ (λ a b. (a, b)) down.1 up.1)
