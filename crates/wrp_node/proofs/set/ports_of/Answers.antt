-- There is room for the ports at each link.
use Rattle.std.proofs.Common.{◌≡◌, ◌<◌, ap, sym, ◌∙◌, List, length, get_or, arith}
use Rattle.std.proofs.lemmas.List.Folds.{length-flat_map-take}
use Rattle.wrp_network.specs.declared.network.LinkCfg.{LinkCfg}
use Rattle.wrp_node.specs.Set.{ports_at}
use Rattle.wrp_node.proofs.OwnPorts.{few_ports}
use Rattle.wrp_node.proofs.set.ports_of.Goals as goal

pub add_ports-requires : goal.add_ports-requires
add_ports-requires c =
    let net = c.args.net.now in
    let links : List LinkCfg = net.links.items in
    let link : LinkCfg = c.link-item.result in
    let is : c.as_slice-link-items.result.now ≡ links = c.as_slice-link-items.ensures.value in
    let within : c.loop-link.link-index < length links = omega (arith, ap length is, c.loop-link-test.true) in
    let here : link ≡ get_or links c.loop-link.link-index link = c.link-item.is ∙ ap (λ (xs : List LinkCfg). get_or xs c.loop-link.link-index link) is in
    let more = length-flat_map-take (ports_at net c.args.n) links c.loop-link.link-index link within in
    let at_link : length (ports_at net c.args.n (get_or links c.loop-link.link-index link)) ≡ length (ports_at net c.args.n link) =
    ap (λ (x : LinkCfg). length (ports_at net c.args.n x)) (sym here) in
    let so_far = ap length c.loop-link.invariant in
    omega (arith, more, at_link, so_far, few_ports net c.args.n c.requires.ranges c.requires.ports)
