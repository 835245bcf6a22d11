-- A master that is awake stays so while its link comes up.
use Rattle.std.proofs.Common.{◌≡◌, ◌≢◌, ◌⊎◌, inl, inr, refl, sym, ap, ◌∙◌, ℤ, ℕ, ◌+◌, ◌*◌, pos, true, List, ◌∷◌, ◌+ℤ◌, ◌<ℤ◌, arith}
use Rattle.wrp_base.specs.declared.link.LinkState.TheVariants.{Idle, LinkOn}
use Rattle.wrp_base.specs.declared.link.Role.{Role}
use Rattle.wrp_base.specs.declared.link.Role.TheVariants.{Master, Slave}
use Rattle.wrp_base.specs.declared.message.WrMsg.{WrMsg}
use Rattle.wrp_link.specs.declared.interface.LinkIn.{LinkIn}
use Rattle.wrp_link.specs.LinkAt.{LinkAt}
use Rattle.wrp_link.specs.Rows.{row_of}
use Rattle.wrp_link.specs.Table.{by_row, sent_by}
use Rattle.wrp_handshake_laws.specs.Ends.{Sending, BothPorts, Change, Passes, Hears, Starts, Lights, MayCome, changed, ends_after, stamped, ticked_by}
use Rattle.wrp_handshake_laws.specs.Laws.{IsAwake}
use Rattle.wrp_link_up_laws.specs.Pace.{IsPrompt, IsReady, IsSteady}
use Rattle.wrp_link_up_laws.proofs.Changes.{Standing, awake_by, coming, early_of, idle_or_out, is_on, master_safe, outcome_of, prompt_of}
use Rattle.wrp_link_up_laws.proofs.Ports.{BothHold, Given, Outcome, Step, moves, moves_reach, no_quiet, none_left, reached, stays}
use Rattle.wrp_link_up_laws.proofs.Stages.{Prompt}
use Rattle.wrp_link_up_laws.proofs.Steps.{master_patient}

idle_reached : (role : Role) → reached role Idle ≡ 0
idle_reached Master = refl
idle_reached Slave = refl

no_less : (n m : ℕ) → n + 1 ≡ m → m ≡ 0 → ⊥
no_less n m e f = omega (arith, e, f)

-- over an outcome
outcome_awake :
    (g : Given) (time lit : ℤ) (role : Role) (l : LinkAt) (e : ℤ) (input : LinkIn) (next : LinkAt) (tick : ℤ) (sent : List Sending) (ms : List WrMsg) →
    Outcome g time lit role l e input next tick sent ms → l.holdoff ≡ 0 → (l.state ≢ Idle) ⊎ (l.quiet ≡ 0) → (next.state ≢ Idle) ⊎ (next.quiet ≡ 0)
outcome_awake g time lit role l e input next tick sent ms (stays u same firm q all fresh) free which =
    elim which [
      | inl out ↦ inl (λ idle. out (sym same ∙ idle))
      | inr over ↦ inr (no_quiet next (q (none_left l over free)))
    ]
outcome_awake g time lit role l e input next tick sent ms (moves to u same m fresh) free which =
    inl (λ idle. no_less (reached role l.state) (reached role to) (moves_reach l role l.state input to ms m)
    (ap (reached role) (sym same ∙ idle) ∙ idle_reached role))

-- the slave is in WR_LINK_ON, and its master has its carrier
abbrev pub IsOn : BothPorts → Type 0
IsOn ends = (ends.slave.link.state ≡ LinkOn) × (ends.master.link.carrier ≡ true)

-- over a change
pub stays_awake :
    (g : Given) (first : BothPorts) (older : List Change) (lit : ℤ) (change : Change) → BothHold g →
    MayCome g.life g.dmin (ends_after first older) change → IsSteady (ends_after first older) change → IsPrompt g.pace first older →
    Standing g first (change ∷ older) lit (changed (ends_after first older) change) →
    Standing g first older lit (ends_after first older) → IsAwake (ends_after first older).master →
    IsAwake (changed (ends_after first older) change).master ⊎ IsOn (changed (ends_after first older) change)
stays_awake g first older lit (Passes dt) h may steady p now was awake = inl awake
stays_awake g first older lit (Hears Slave input at) h may steady p now was awake = inl awake
stays_awake g first older lit (Hears Master input at) h may steady p (is_on on role carrier) was awake = inr (on, carrier)
stays_awake g first older lit (Hears Master input at) h may steady p (coming me se um us s) (is_on on role carrier) awake =
    inr (on, um.has_carrier)
stays_awake g first older lit (Hears Master input at) h may steady p (coming ne te vm vs t) (coming me se um us s) awake =
    let ends : BothPorts = ends_after first older in
    let pr : Prompt g first older ends.time ends.master.ticked ends.slave.ticked = prompt_of g first older p in
    let st : Step g Master ends.time ends.master.link ends.master.ticked me input =
    record {
      holds = h Master;
      leaves = steady.0;
      early = early_of g.life g.dmin ends.time ends.master ends.slave input at may.1;
      due = pr.master;
      patient = master_patient g first older ends.time lit ends.master.link ends.slave.link ends.master.ticked ends.slave.ticked ends.master.sent
          ends.slave.sent me se h um us pr s;
      safe = master_safe g first older ends.time lit ends.master ends.slave me se input at (h Master) um may.1 s;
    } in
    inl (record {
      lit = vm.has_carrier;
      over =
          outcome_awake g ends.time lit Master ends.master.link me input (by_row ends.master.link (row_of ends.master.link input))
          (ticked_by input ends.time ends.master.ticked)
          (stamped ends.time (sent_by (row_of ends.master.link input)) ends.master.sent) (sent_by (row_of ends.master.link input))
          (outcome_of g ends.time lit Master ends.master me input st um) (um.free refl) awake.over;
    })
stays_awake g first older lit (Starts role) h may steady p now was awake = absurd steady
stays_awake g first older lit (Lights of_master of_slave) h may steady p now was awake = absurd steady

-- a slave that may begin may do so since long after the carriers came, or the link is on
pub lit_long_ago :
    (g : Given) (first : BothPorts) (older : List Change) (lit : ℤ) → BothHold g →
    Standing g first older lit (ends_after first older) → IsReady (ends_after first older).slave →
    ((lit +ℤ pos (2 * g.life)) <ℤ (ends_after first older).time) ⊎ IsOn (ends_after first older)
lit_long_ago g first older lit h (is_on on role carrier) ready = inr (on, carrier)
lit_long_ago g first older lit h (coming me se um us s) ready =
    let ends : BothPorts = ends_after first older in
    inl (awake_by g ends.time lit Slave ends.slave.link ends.slave.ticked ends.slave.sent se (h Slave) us (idle_or_out ends.slave.link.state)
    (λ idle. none_left ends.slave.link (elim ready.awake.over [ inl out ↦ absurd (out idle) | inr over ↦ over ])
    (elim ready.free [ inl out ↦ absurd (out idle) | inr free ↦ free ])))
