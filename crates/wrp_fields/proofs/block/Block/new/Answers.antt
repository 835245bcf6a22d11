-- Nothing follows.
use Rattle.std.proofs.Common.{◌∙◌, Some, ap, append-nil, subst, sym}
use Rattle.wrp_fields.specs.Block.{StartsPlain}
use Rattle.wrp_fields.proofs.block.Block.new.Goals as goal

pub returns : goal.returns
returns c starts =
    c.joined.ensures (subst StartsPlain (sym (append-nil c.args.octets.now)) starts) ∙ ap Some (append-nil c.args.octets.now)
