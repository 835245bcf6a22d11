-- One port more is made.
use Rattle.std.proofs.Common.{◌≡◌, ◌∙◌, ap, sym, subst, ℕ, ◌+◌, ◌<◌, ◌≤◌, List, length, take, slice_index_or, arith}
use Rattle.std.proofs.lemmas.List.{length-append}
use Rattle.std.specs.List.{AllZip}
use Rattle.wrp_data.specs.declared.datasets.PortDs.{PortDs}
use Rattle.wrp_node.specs.declared.place.PortPlace.{PortPlace}
use Rattle.wrp_node.specs.New.{IsNewPlace}
use Rattle.wrp_node.specs.NodeAt.{in_order, no_port}
use Rattle.wrp_node.proofs.Lists.{zip_more, zip_all_of}
use Rattle.wrp_node.proofs.NewNode.{new_different, new_numbers}
use Rattle.wrp_node.proofs.node.new.new_ports.Goals as goal

pub loop-ds-preserved : goal.loop-ds-preserved
loop-ds-preserved c =
    let i : ℕ = c.loop-ds.ds-index in
    let ordered : List PortDs = in_order c.args.cfg.now.ports.items in
    let is : c.as_slice-ds-items.result.now ≡ ordered = c.as_slice-ds-items.ensures.value ∙ c.in_order-ordered.ensures in
    let below : i < length ordered = omega (arith, ap length is) in (
      subst (λ (ys : List PortPlace). AllZip (IsNewPlace c.args.cfg.now) (take (i + 1) ordered) ys) (sym c.in_ok-push.ensures.items)
          (zip_more (IsNewPlace c.args.cfg.now) ordered c.loop-ds.places.items i no_port c.in_ok-new_place.field-0 below
          (subst (λ (xs : List PortDs). IsNewPlace c.args.cfg.now (slice_index_or xs i no_port) c.in_ok-new_place.field-0) is c.in_ok-new_place.ensures)
          c.loop-ds.invariant.0),
      omega (arith, simp length-append at (ap length c.in_ok-push.ensures.items), c.loop-ds.invariant.1),
    )

-- they are of different numbers
pub of-requires-clause-different : goal.of-requires-clause-different
of-requires-clause-different c =
    let ordered : List PortDs = in_order c.args.cfg.now.ports.items in
    let is : c.as_slice-ds-items.result.now ≡ ordered = c.as_slice-ds-items.ensures.value ∙ c.in_order-ordered.ensures in
    let end : length ordered ≤ c.loop-ds.ds-index = omega (arith, ap length is) in
    let zip = zip_all_of (IsNewPlace c.args.cfg.now) ordered c.loop-ds.places.items c.loop-ds.ds-index end c.loop-ds.invariant.0 in
    new_different c.args.cfg.now c.loop-ds.places.items c.requires.numbers (new_numbers c.args.cfg.now ordered c.loop-ds.places.items zip)
