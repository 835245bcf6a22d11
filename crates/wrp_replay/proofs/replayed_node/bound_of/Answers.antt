-- The bound does not depend on the unused room of names.
use Rattle.std.proofs.Common.{◌≡◌, ◌∙◌, pos, ap, sym, rules}
use Rattle.std.proofs.lemmas.Int.{to_z-of_z}
use Rattle.wrp_bounds.specs.Bounds.{path_of}
use Rattle.wrp_config.specs.Same.{bare_cfg}
use Rattle.wrp_replay.proofs.BareSetting.{path_bare}
use Rattle.wrp_replay.proofs.replayed_node.bound_of.Goals as goal

pub returns : goal.returns
returns c =
    let bound : c.path.result ≡ pos (path_of (bare_cfg c.args.replayed.net.now.cfg) c.args.replayed.node) =
    c.path.ensures.value ∙ ap pos (sym (path_bare c.args.replayed.net.now.cfg c.args.replayed.node)) in
    search (bound, to_z-of_z, rules)
