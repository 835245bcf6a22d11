-- What is kept of a link is kept over every list of changes.
use Rattle.std.proofs.Common.{◌≡◌, refl, ap, sym, ◌∙◌, subst, ℕ, ◌-◌, ℤ, pos, ◌*◌, ◌<◌, false, List, [], ◌∷◌}
use Rattle.wrp_base.specs.declared.link.LinkState.TheVariants.{Idle}
use Rattle.wrp_base.specs.declared.link.Role.{Role}
use Rattle.wrp_base.specs.declared.link.Role.TheVariants.{Master, Slave}
use Rattle.wrp_base.specs.Link.{other_of}
use Rattle.wrp_base.proofs.Integers.{int_le_self}
use Rattle.wrp_link.specs.declared.interface.LinkIn.{LinkIn}
use Rattle.wrp_link.specs.declared.interface.LinkIn.TheVariants.{CarrierUp}
use Rattle.wrp_link.specs.declared.interface.LinkSet.{LinkSet}
use Rattle.wrp_link.specs.Rows.{row_of}
use Rattle.wrp_link.proofs.Orders.{idle_belongs}
use Rattle.wrp_handshake_laws.specs.Ends.{Port, BothPorts, Change, Passes, Hears, Starts, Lights, end_of, with_end, after_input, MayHear, changed, MayCome, ends_after, AllMayCome, new_port, new_ends, OutlivesFrames, CanBe}
use Rattle.wrp_link.proofs.Runs.{by_row_role}
use Rattle.wrp_handshake_laws.proofs.Stages.{engaged, bound}
use Rattle.wrp_handshake_laws.proofs.Times.{calm_later}
use Rattle.wrp_handshake_laws.proofs.Keeps.{view_of, Ghost, PortKeeps, Tied}
use Rattle.wrp_handshake_laws.proofs.Parts.{idle_shut, idle_unbound}
use Rattle.wrp_handshake_laws.proofs.Ports.{stays, passes_port}
use Rattle.wrp_handshake_laws.proofs.Moves.{Peers, Moved}
use Rattle.wrp_handshake_laws.proofs.Inputs.{heard_moves}

pub record EndsKeep (life dmin : ℕ) (w : BothPorts) : Type 0 where
  pub of_master : Ghost
  pub of_slave : Ghost
  pub master : PortKeeps life dmin w.time (view_of w.master) of_master
  pub slave : PortKeeps life dmin w.time (view_of w.slave) of_slave
  pub down : Tied life (view_of w.master) of_master (view_of w.slave) of_slave
  pub up : Tied life (view_of w.slave) of_slave (view_of w.master) of_master
  pub is_master : w.master.link.role ≡ Master
  pub is_slave : w.slave.link.role ≡ Slave

pub from_master : (life dmin : ℕ) (w : BothPorts) (k : EndsKeep life dmin w) → Peers life dmin w.time (view_of w.master) k.of_master (view_of w.slave) k.of_slave
from_master life dmin w k =
    record {
      keeps = k.master;
      peer = k.slave;
      tied = k.down;
      back = k.up;
      roles = k.is_slave ∙ sym (ap (λ (r : Role). other_of r) k.is_master);
    }

pub from_slave : (life dmin : ℕ) (w : BothPorts) (k : EndsKeep life dmin w) → Peers life dmin w.time (view_of w.slave) k.of_slave (view_of w.master) k.of_master
from_slave life dmin w k =
    record {
      keeps = k.slave;
      peer = k.master;
      tied = k.up;
      back = k.down;
      roles = k.is_master ∙ sym (ap (λ (r : Role). other_of r) k.is_slave);
    }

pub started : (life dmin : ℕ) (time : ℤ) (p : Port) (g : Ghost) → PortKeeps life dmin time (view_of p) g → PortKeeps life dmin time (view_of (record p { ticked = time })) g
started life dmin time p g k =
    stays life dmin time (view_of p) g time p.link.quiet [] k (int_le_self time)
    (λ i lit. calm_later dmin p.link.set.quiet p.link.quiet p.ticked time g.rest k.ticked (k.calm i lit)) tt

-- a port is given an input
pub hears_keeps :
    (life dmin : ℕ) (w : BothPorts) (role : Role) (input : LinkIn) (at : ℤ) →
    MayHear life dmin w.time (end_of w role) (end_of w (other_of role)) input at →
    EndsKeep life dmin w → EndsKeep life dmin (with_end w role (after_input w.time (end_of w role) input at))
hears_keeps life dmin w Master input at h k =
    let m : Moved life dmin w.time (view_of (after_input w.time w.master input at)) (view_of w.slave) k.of_slave =
    heard_moves life dmin w.time w.master k.of_master w.slave k.of_slave input at (from_master life dmin w k) h in
    record {
      of_master = m.ghost;
      of_slave = k.of_slave;
      master = m.keeps;
      slave = k.slave;
      down = m.tied;
      up = m.back;
      is_master = by_row_role w.master.link (row_of w.master.link input) ∙ k.is_master;
      is_slave = k.is_slave;
    }
hears_keeps life dmin w Slave input at h k =
    let m : Moved life dmin w.time (view_of (after_input w.time w.slave input at)) (view_of w.master) k.of_master =
    heard_moves life dmin w.time w.slave k.of_slave w.master k.of_master input at (from_slave life dmin w k) h in
    record {
      of_master = k.of_master;
      of_slave = m.ghost;
      master = k.master;
      slave = m.keeps;
      down = m.back;
      up = m.tied;
      is_master = k.is_master;
      is_slave = by_row_role w.slave.link (row_of w.slave.link input) ∙ k.is_slave;
    }

pub starts_keeps : (life dmin : ℕ) (w : BothPorts) (role : Role) → EndsKeep life dmin w → EndsKeep life dmin (changed w (Starts role))
starts_keeps life dmin w Master k =
    record {
      of_master = k.of_master;
      of_slave = k.of_slave;
      master = started life dmin w.time w.master k.of_master k.master;
      slave = k.slave;
      down = k.down;
      up = k.up;
      is_master = k.is_master;
      is_slave = k.is_slave;
    }
starts_keeps life dmin w Slave k =
    record {
      of_master = k.of_master;
      of_slave = k.of_slave;
      master = k.master;
      slave = started life dmin w.time w.slave k.of_slave k.slave;
      down = k.down;
      up = k.up;
      is_master = k.is_master;
      is_slave = k.is_slave;
    }

pub passes_keeps : (life dmin : ℕ) (w : BothPorts) (dt : ℕ) → EndsKeep life dmin w → EndsKeep life dmin (changed w (Passes dt))
passes_keeps life dmin w dt k =
    record {
      of_master = k.of_master;
      of_slave = k.of_slave;
      master = passes_port life dmin w.time (view_of w.master) k.of_master dt k.master;
      slave = passes_port life dmin w.time (view_of w.slave) k.of_slave dt k.slave;
      down = k.down;
      up = k.up;
      is_master = k.is_master;
      is_slave = k.is_slave;
    }

changed_keeps : (life dmin : ℕ) (w : BothPorts) (c : Change) → MayCome life dmin w c → EndsKeep life dmin w → EndsKeep life dmin (changed w c)
changed_keeps life dmin w (Passes dt) h k = passes_keeps life dmin w dt k
changed_keeps life dmin w (Hears role input at) h k = hears_keeps life dmin w role input at h.1 k
changed_keeps life dmin w (Starts role) h k = starts_keeps life dmin w role k
changed_keeps life dmin w (Lights of_master of_slave) h k =
    hears_keeps life dmin (with_end w Master (after_input w.time w.master (CarrierUp of_master) (pos 0))) Slave (CarrierUp of_slave) (pos 0) tt
    (hears_keeps life dmin w Master (CarrierUp of_master) (pos 0) tt k)

new_ghost : ℤ → Ghost
new_ghost time = record { rest = time; turn = time; bind = time; newer = []; latest = []; older = [] }

new_keeps :
    (life dmin : ℕ) (time : ℤ) (role : Role) (set : LinkSet) →
    2 * life < (set.quiet - 1) * dmin → PortKeeps life dmin time (view_of (new_port role set time)) (new_ghost time)
unfolding new_ghost
new_keeps life dmin time role set h =
    let shut : engaged role Idle ≡ false = idle_shut role in
    let unbound : bound role Idle ≡ false = idle_unbound role in
    record {
      belongs = idle_belongs role;
      counts = h;
      ticked = int_le_self time;
      rest = int_le_self time;
      turn = int_le_self time;
      bind = int_le_self time;
      calm = λ _ lit. cc;
      shut = λ _ f i. absurd i;
      opened = λ o. absurd (o refl);
      engages = λ x. cc;
      unbound = λ x. cc;
      sources = λ x. cc;
      frames = λ f i. absurd i;
      alone = λ _. refl;
      turns = tt;
      left = tt;
      awake = λ o. absurd (o refl);
    }

pub start_keeps :
    (life dmin : ℕ) (time : ℤ) (of_master of_slave : LinkSet) → OutlivesFrames life dmin of_master → OutlivesFrames life dmin of_slave →
    EndsKeep life dmin (new_ends of_master of_slave time)
start_keeps life dmin time of_master of_slave hm hs =
    record {
      of_master = new_ghost time;
      of_slave = new_ghost time;
      master = new_keeps life dmin time Master of_master hm;
      slave = new_keeps life dmin time Slave of_slave hs;
      down = λ x. cc;
      up = λ x. cc;
      is_master = refl;
      is_slave = refl;
    }

pub all_keep :
    (life dmin : ℕ) (ends : BothPorts) (changes : List Change) → AllMayCome life dmin ends changes → EndsKeep life dmin ends →
    EndsKeep life dmin (ends_after ends changes)
all_keep life dmin ends [] h k = k
all_keep life dmin ends (change ∷ older) h k =
    changed_keeps life dmin (ends_after ends older) change h.0 (all_keep life dmin ends older h.1 k)

-- of all ends that can be
pub can_keep : (life dmin : ℕ) (ends : BothPorts) → CanBe life dmin ends → EndsKeep life dmin ends
can_keep life dmin ends h =
    subst (λ (e : BothPorts). EndsKeep life dmin e) (sym h.is)
    (all_keep life dmin (new_ends h.of_master h.of_slave h.start) h.changes h.come
    (start_keeps life dmin h.start h.of_master h.of_slave h.master_quiet h.slave_quiet))
