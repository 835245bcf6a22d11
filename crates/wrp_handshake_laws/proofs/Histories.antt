-- The marks of a port are a history that leads to its state.
use Rattle.std.proofs.Common.{◌≡◌, refl, sym, ap, ◌∙◌, subst, ℕ, ℤ, pos, true, cond, eqb, List, [], ◌∷◌, Option}
use Rattle.std.proofs.lemmas.Bool.{eqb-true}
use Rattle.wrp_base.specs.declared.link.LinkState.{LinkState}
use Rattle.wrp_base.specs.declared.link.LinkState.TheVariants.{Idle, Present, SLock, MLock, Locked, Calibration, Calibrated, RespCalib, LinkOn}
use Rattle.wrp_base.specs.declared.link.Mark.{Mark}
use Rattle.wrp_base.specs.declared.link.Role.TheVariants.{Master, Slave}
use Rattle.wrp_link.specs.declared.interface.LinkIn.{LinkIn}
use Rattle.wrp_link.specs.declared.interface.LinkIn.TheVariants.{CarrierUp}
use Rattle.wrp_link.specs.Rows.{row_of}
use Rattle.wrp_link.specs.Table.{is_same, rank_of, by_row}
use Rattle.wrp_link.proofs.Deltas.{differs}
use Rattle.wrp_handshake_laws.specs.Ends.{Sending, Port, BothPorts, Change, Passes, Hears, Starts, Lights, marked, mover_of, after_input, changed, ends_after, new_ends, CanBe}
use Rattle.wrp_handshake_laws.specs.Laws.{LeadsTo}
use Rattle.wrp_handshake_laws.proofs.Parts.{by_bool}
use Rattle.wrp_handshake_laws.proofs.Inputs.{marked_new, marked_same}

-- the state at a place in the list of states
state_at : ℕ → LinkState
state_at n =
    cond (eqb n 1) Present (cond (eqb n 2) SLock (cond (eqb n 3) MLock (cond (eqb n 4) Locked
    (cond (eqb n 5) Calibration (cond (eqb n 6) Calibrated (cond (eqb n 7) RespCalib (cond (eqb n 8) LinkOn Idle)))))))

back : (s : LinkState) → state_at (rank_of s) ≡ s
unfolding state_at
back Idle = refl
back Present = refl
back SLock = refl
back MLock = refl
back Locked = refl
back Calibration = refl
back Calibrated = refl
back RespCalib = refl
back LinkOn = refl

same_is : (a b : LinkState) → is_same a b ≡ true → a ≡ b
same_is a b e = sym (back a) ∙ ap state_at (eqb-true (rank_of a) (rank_of b) e) ∙ back b

leads_now : (time : ℤ) (old new : LinkState) (by : Option Sending) (marks : List Mark) → LeadsTo old marks → LeadsTo new (marked time old new by marks)
leads_now time old new by marks h =
    by_bool (is_same old new)
    (λ same.
    subst (λ (ms : List Mark). LeadsTo new ms) (marked_same time old new by marks same)
    (record { history = h.history; leads = h.leads ∙ same_is old new same }))
    (λ other.
    subst (λ (ms : List Mark). LeadsTo new ms) (marked_new time old new by marks other)
    (record { history = (sym h.leads, differs old new other, h.history); leads = refl }))

-- of both ends
pub record EndsLead (ends : BothPorts) : Type 0 where
  pub master : LeadsTo ends.master.link.state ends.master.marks
  pub slave : LeadsTo ends.slave.link.state ends.slave.marks

heard_leads : (time : ℤ) (p : Port) (input : LinkIn) (at : ℤ) → LeadsTo p.link.state p.marks → LeadsTo (after_input time p input at).link.state (after_input time p input at).marks
heard_leads time p input at h = leads_now time p.link.state (by_row p.link (row_of p.link input)).state (mover_of input at) p.marks h

changed_leads : (ends : BothPorts) (change : Change) → EndsLead ends → EndsLead (changed ends change)
changed_leads ends (Passes dt) k = record { master = k.master; slave = k.slave }
changed_leads ends (Hears Master input at) k = record { master = heard_leads ends.time ends.master input at k.master; slave = k.slave }
changed_leads ends (Hears Slave input at) k = record { master = k.master; slave = heard_leads ends.time ends.slave input at k.slave }
changed_leads ends (Starts Master) k = record { master = k.master; slave = k.slave }
changed_leads ends (Starts Slave) k = record { master = k.master; slave = k.slave }
changed_leads ends (Lights of_master of_slave) k =
    record {
      master = heard_leads ends.time ends.master (CarrierUp of_master) (pos 0) k.master;
      slave = heard_leads ends.time ends.slave (CarrierUp of_slave) (pos 0) k.slave;
    }

all_lead : (ends : BothPorts) (changes : List Change) → EndsLead ends → EndsLead (ends_after ends changes)
all_lead ends [] k = k
all_lead ends (change ∷ older) k = changed_leads (ends_after ends older) change (all_lead ends older k)

-- of all ends that can be
pub can_lead : (life dmin : ℕ) (ends : BothPorts) → CanBe life dmin ends → EndsLead ends
can_lead life dmin ends h =
    subst (λ (e : BothPorts). EndsLead e) (sym h.is)
    (all_lead (new_ends h.of_master h.of_slave h.start) h.changes
    (record { master = record { history = tt; leads = refl }; slave = record { history = tt; leads = refl } }))
