-- While a link is on, the delays with which its slave computes are near the true ones, and its fibre keeps its share.
use Rattle.std.proofs.Common.{◌≡◌, ◌∙◌, refl, ap, ap₂, sym, subst, ℕ, ◌*◌, ◌^◌, ◌≤◌, ℤ, pos, ◌+ℤ◌, ◌-ℤ◌, ◌*ℤ◌, unsigned_abs, Bool, true, false, Option, None, Some, IfSome, slice_get, arith}
use Rattle.std.proofs.Math.IntN.{*ℤ_comm}
use Rattle.std.specs.Prelude.{option_and_then}
use Rattle.std.proofs.lemmas.Bool.{and_parts}
use Rattle.std.proofs.lemmas.Option.{none-some, same_Some}
use Rattle.wrp_network.specs.declared.configuration.NetCfg.{NetCfg}
use Rattle.wrp_base.specs.declared.link.Deltas.{Deltas}
use Rattle.wrp_base.specs.declared.link.LinkState.{LinkState}
use Rattle.wrp_base.specs.declared.link.LinkState.TheVariants.{LinkOn}
use Rattle.wrp_base.specs.declared.link.Module.{Module}
use Rattle.wrp_base.specs.declared.link.Role.{Role}
use Rattle.wrp_base.specs.declared.link.Role.TheVariants.{Master, Slave}
use Rattle.wrp_network.specs.declared.network.LinkCfg.{LinkCfg}
use Rattle.wrp_network.specs.declared.network.NodeCfg.{NodeCfg}
use Rattle.wrp_bounds.specs.Bounds.{numbers_between, numbers_of, numbers_over}
use Rattle.wrp_bounds.specs.declared.numbers.HopNumbers.{HopNumbers}
use Rattle.wrp_handshake_laws.specs.Deltas.{KnowsDeltas}
use Rattle.wrp_link.specs.LinkAt.{LinkAt}
use Rattle.wrp_node.specs.NodeAt.{deltas_at, deltas_in, link_at, port_of, slave_of}
use Rattle.wrp_port.specs.PortAt.{deltas_by, deltas_in as port_deltas_in}
use Rattle.wrp_tracking_laws.specs.ErrorSum.{Agree, IsShare}
use Rattle.wrp_course.specs.LinkEnds.{in_place, port_at}
use Rattle.wrp_course.specs.Premises.{asymmetry}
use Rattle.wrp_course.specs.Run.{world_after}
use Rattle.wrp_course.specs.Runs.{IsNetwork}
use Rattle.wrp_course.specs.SameHandshake.{CarriersAreTheLinks, LinkOnWithTheDeltas}
use Rattle.wrp_course.specs.Setting.{Setting, end_of, entry_at, link_of}
use Rattle.wrp_course.specs.WorldAt.{EndAt, WorldAt, ends_are_up, has_carrier}
use Rattle.wrp_course.proofs.RunLinks.{IsDark}
use Rattle.wrp_course.proofs.RunPorts.{link_dark}
use Rattle.wrp_course.proofs.WordReports.{idle_on}
use Rattle.wrp_bound_laws.specs.Fibres.{FibresKeepTheirShare}
use Rattle.wrp_bound_laws.specs.PortDelays.{FibreHoldsWhileOn}
use Rattle.wrp_bound_laws.proofs.Runs.LinksAbove.{above_is}
use Rattle.wrp_bound_laws.proofs.Hops.ModulesNear.{HasDelays, IsNear, modules_near}
use Rattle.wrp_bound_laws.proofs.Sources.Parents.{has_slave}
use Rattle.wrp_bound_laws.proofs.Hops.PortErrors.{entry_error}

-- What a hop takes from its link

record TakesFrom (link : LinkCfg) (hop : HopNumbers) : Type 0 where
  kappa : hop.kappa ≡ link.kappa
  e_db : hop.e_db ≡ link.e_db
  e_asym : hop.e_asym ≡ link.e_asym

taken_between : (net : NetCfg) (link : LinkCfg) (hop : HopNumbers) (o p : Option NodeCfg) → numbers_between net link o p ≡ Some hop → TakesFrom link hop
taken_between net link hop (Some own) (Some parent) is =
    let it : _ ≡ hop = same_Some _ hop is in
    record {
      kappa = sym (ap (λ (h : HopNumbers). h.kappa) it);
      e_db = sym (ap (λ (h : HopNumbers). h.e_db) it);
      e_asym = sym (ap (λ (h : HopNumbers). h.e_asym) it);
    }
taken_between net link hop None p is = absurd (none-some hop is)
taken_between net link hop (Some own) None is = absurd (none-some hop is)

taken_over : (net : NetCfg) (link : LinkCfg) (hop : HopNumbers) → numbers_over net link ≡ Some hop → TakesFrom link hop
unfolding numbers_over
taken_over net link hop is = taken_between net link hop (slice_get net.nodes.items link.lower) (slice_get net.nodes.items link.upper) is

hop_takes : (s : Setting) → IsNetwork s → (k : ℕ) (link : LinkCfg) (hop : HopNumbers) → link_of s k ≡ Some link → numbers_of s.cfg link.lower ≡ Some hop → TakesFrom link hop
hop_takes s net k link hop is numbers = taken_over s.cfg link hop (sym (ap (option_and_then (numbers_over s.cfg)) (above_is s net k link is)) ∙ numbers)

-- The deltas of a slave port

-- a link that is on has these deltas
record IsOnWith (l : LinkAt) (deltas : Deltas) : Type 0 where
  on : l.state ≡ LinkOn
  are : deltas_by l.deltas l.own_module ≡ deltas

on_by : (role : Role) (state : LinkState) (l : LinkAt) (deltas : Deltas) → l.state ≡ state → port_deltas_in role state l ≡ Some deltas → IsOnWith l deltas
on_by Slave LinkOn l deltas e is = record { on = e; are = same_Some (deltas_by l.deltas l.own_module) deltas is }
on_by _ _ l deltas e is = absurd (none-some deltas is)

-- the link of a node's port to its parent
abbrev below : Setting → WorldAt → LinkCfg → LinkAt
below s w link = link_at (s.set link.lower) (w.node link.lower) link.lower_port

is_on_with : (s : Setting) → IsNetwork s → (w : WorldAt) (k : ℕ) (link : LinkCfg) (deltas : Deltas) → link_of s k ≡ Some link → deltas_in (s.set link.lower) (w.node link.lower) ≡ Some deltas → IsOnWith (below s w link) deltas
is_on_with s net w k link deltas is held =
    let slave : slave_of (s.set link.lower) ≡ Some link.lower_port = has_slave s net link.lower link (above_is s net k link is) in
    on_by (port_of (s.set link.lower) link.lower_port).role (below s w link).state (below s w link) deltas refl
    (sym (ap (deltas_at (s.set link.lower) (w.node link.lower)) slave) ∙ held)

lit_where : (l : LinkAt) (b : Bool) → IsDark l → l.state ≡ LinkOn → l.carrier ≡ b → l.carrier ≡ true
lit_where l true dark on e = e
lit_where l false dark on e = absurd (idle_on (sym (ap (λ (x : LinkAt). x.state) (dark e)) ∙ on))

is_lit : (s : Setting) (w : WorldAt) (link : LinkCfg) → (below s w link).state ≡ LinkOn → (below s w link).carrier ≡ true
is_lit s w link on = lit_where (below s w link) (below s w link).carrier (link_dark s w link.lower link.lower_port) on refl

-- The database and the fibre

nearer : (d most least hop : ℕ) → d ≤ least → least ≤ most → hop ≡ most → d ≤ hop
nearer d most least hop near less same = omega (arith, near, less, same)

-- the true delays of the module at an end are near its entry
listed_near : (s : Setting) (k : ℕ) (r : Role) (e : EndAt) (entry : Module) → entry_at s k r e.name ≡ Some entry → IsNear s k r e → HasDelays entry e.tx e.rx
listed_near s k r e entry is h = subst (λ o. IfSome o (λ m. HasDelays m e.tx e.rx)) is h

-- the deltas of two entries
abbrev deltas_from : (peers own : Module) → Deltas
deltas_from peers own = record { txm = peers.tx; rxm = peers.rx; txs = own.tx; rxs = own.rx }

-- the true delays of the modules in place
abbrev ports_of : (master slave : EndAt) → Deltas
ports_of master slave = record { txm = master.tx; rxm = master.rx; txs = slave.tx; rxs = slave.rx }

ports_agree : (link : LinkCfg) (hop : HopNumbers) (master slave : EndAt) (peers own : Module) → hop.e_db ≡ link.e_db → HasDelays peers master.tx master.rx → HasDelays own slave.tx slave.rx → peers.err ≤ link.e_db → own.err ≤ link.e_db →
    Agree hop.e_db (ports_of master slave) (deltas_from peers own)
ports_agree link hop master slave peers own same upper lower a b = record {
  txm = nearer (unsigned_abs (pos master.tx -ℤ pos peers.tx)) link.e_db peers.err hop.e_db upper.sends a same;
  rxs = nearer (unsigned_abs (pos slave.rx -ℤ pos own.rx)) link.e_db own.err hop.e_db lower.receives b same;
  txs = nearer (unsigned_abs (pos slave.tx -ℤ pos own.tx)) link.e_db own.err hop.e_db lower.sends b same;
  rxm = nearer (unsigned_abs (pos master.rx -ℤ pos peers.rx)) link.e_db peers.err hop.e_db upper.receives a same;
}

deltas_are : (l : LinkAt) (peers own : Module) (deltas : Deltas) → l.deltas ≡ Some (peers.tx, peers.rx) → l.own_module ≡ Some own → deltas_by l.deltas l.own_module ≡ deltas → deltas_from peers own ≡ deltas
deltas_are l peers own deltas theirs mine are = sym (ap₂ deltas_by theirs mine) ∙ are

keeps_share : (link : LinkCfg) (hop : HopNumbers) (ms sm : ℤ) → TakesFrom link hop → unsigned_abs (asymmetry link.kappa ms sm) ≤ 2 ^ 40 * link.e_asym → IsShare hop hop.e_asym ms (ms +ℤ sm)
keeps_share link hop ms sm takes h =
    subst (λ n. unsigned_abs ((pos (2 ^ 40) *ℤ ms) -ℤ n) ≤ 2 ^ 40 * hop.e_asym) (*ℤ_comm (pos (2 ^ 39) +ℤ hop.kappa) (ms +ℤ sm))
    (subst (λ x. unsigned_abs (asymmetry x ms sm) ≤ 2 ^ 40 * hop.e_asym) (sym takes.kappa)
    (subst (λ n. unsigned_abs (asymmetry link.kappa ms sm) ≤ 2 ^ 40 * n) (sym takes.e_asym) h))

-- The law

pub fibre_holds_while_on : LinkOnWithTheDeltas → CarriersAreTheLinks → FibresKeepTheirShare → FibreHoldsWhileOn
fibre_holds_while_on knows carriers fibres s events k link hop deltas run is numbers held =
    let w : WorldAt = world_after s events in
    let master : EndAt = w.end_at k Master in
    let slave : EndAt = w.end_at k Slave in
    let takes : TakesFrom link hop = hop_takes s run.network k link hop is numbers in
    let it : IsOnWith (below s w link) deltas = is_on_with s run.network w k link deltas is held in
    let d : KnowsDeltas (port_at s w k Slave (end_of Slave link)) (in_place s w k Master) (in_place s w k Slave) = knows s events k link run is it.on in
    let upper : HasDelays d.peers master.tx master.rx = listed_near s k Master master d.peers d.peers_placed (modules_near s events k Master link is run) in
    let lower : HasDelays d.own slave.tx slave.rx = listed_near s k Slave slave d.own d.own_placed (modules_near s events k Slave link is run) in
    let carrier : has_carrier s w k ≡ true = sym (carriers s events k Slave link run is) ∙ is_lit s w link it.on in
    let joined : (w.fibre k).joined ≡ true = (and_parts (w.fibre k).joined (ends_are_up w.clock (link_of s k)) carrier).0 in
    record {
      ports = ports_of master slave;
      down_fibre = (w.fibre k).ms;
      up_fibre = (w.fibre k).sm;
      down = refl;
      up = refl;
      database =
          subst (Agree hop.e_db (ports_of master slave)) (deltas_are (below s w link) d.peers d.own deltas d.deltas d.own_is it.are)
          (ports_agree link hop master slave d.peers d.own takes.e_db upper lower
          (entry_error s run.network k Master link master.name d.peers is d.peers_placed) (entry_error s run.network k Slave link slave.name d.own is d.own_placed));
      asymmetry = keeps_share link hop (w.fibre k).ms (w.fibre k).sm takes (fibres s events k link run is joined).share;
    }
