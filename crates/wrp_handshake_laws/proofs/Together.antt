-- A slave in WR_LINK_ON has its master there.
use Rattle.std.proofs.Common.{◌≡◌, ◌≢◌, ◌⊎◌, inl, inr, ap, sym, ◌∙◌, subst, ℕ, ℤ, pos, ◌+ℤ◌, ◌≤ℤ◌, ◌<ℤ◌, true, List, [], ◌∷◌, ◌++◌, Option, arith}
use Rattle.std.proofs.lemmas.Int.{ints}
use Rattle.wrp_base.specs.declared.link.LinkState.{LinkState}
use Rattle.wrp_base.specs.declared.link.LinkState.TheVariants.{Idle, LinkOn}
use Rattle.wrp_base.specs.declared.link.Mark.{Mark}
use Rattle.wrp_base.specs.declared.link.Module.{Module}
use Rattle.wrp_base.specs.declared.link.Role.{Role}
use Rattle.wrp_base.specs.declared.link.Role.TheVariants.{Slave}
use Rattle.wrp_base.specs.declared.message.WrMsg.TheVariants.{Present as SLAVE_PRESENT, ModeOn as WR_MODE_ON}
use Rattle.wrp_check.specs.Stretches.{stretches_of, newest_of, BeganBy, movers_of}
use Rattle.wrp_handshake_laws.specs.Ends.{BothPorts, IsAmong}
use Rattle.wrp_handshake_laws.proofs.Stages.{engaged, bound, opens}
use Rattle.wrp_handshake_laws.proofs.Keeps.{view_of, Ghost, Current, FromLatest, Bond}
use Rattle.wrp_handshake_laws.proofs.Parts.{by_bool, not_opening}
use Rattle.wrp_handshake_laws.proofs.Inputs.{idle_or_not}
use Rattle.wrp_handshake_laws.proofs.Changes.{EndsKeep, from_slave}
use Rattle.wrp_handshake_laws.proofs.Lit.{LitKeeps, never}
use Rattle.wrp_handshake_laws.proofs.Same.{current_of}
use Rattle.wrp_handshake_laws.proofs.Since.{latest_of}
use Rattle.wrp_handshake_laws.proofs.Staying.{StaysAt, Chased, on_since}

no_chase : (life : ℕ) (at bind source : ℤ) → at ≤ℤ bind → bind ≤ℤ (source +ℤ pos life) → (source +ℤ pos life) <ℤ at → ⊥
no_chase life at bind source h k l = omega (arith, ints)

slave_on : (role : Role) (s : LinkState) → role ≡ Slave → s ≡ LinkOn → bound role s ≡ true
slave_on role s r on = ap (λ (x : Role). bound x s) r ∙ ap (λ (x : LinkState). bound Slave x) on

slave_opens : (role : Role) → role ≡ Slave → opens role SLAVE_PRESENT ≡ true
slave_opens role r = ap (λ (x : Role). opens x SLAVE_PRESENT) r

-- the newest stretch of a master in IDLE began no later than a message of its last turn, if no stretch came after that
-- turn
last_began :
    (role : Role) (marks : List Mark) (g : Ghost) (w : ℤ) → g.newer ≡ [] → Current role marks g (WR_MODE_ON, w) → BeganBy w (newest_of (stretches_of marks))
last_began role marks g w none c =
    let newest : newest_of (stretches_of marks) ≡ g.latest =
    ap (λ (ss : List (List Mark)). newest_of ss) (c.splits ∙ ap (λ (n : List (List Mark)). n ++ g.latest ∷ g.older) none) in
    subst (λ (ms : List Mark). BeganBy w ms) (sym newest) c.lies.began

-- a slave in WR_LINK_ON was not chased, and its messages are of the carriers in place
not_left :
    (life dmin : ℕ) (ends : BothPorts) (lit w : ℤ) (placed : Role → Option Module) (k : EndsKeep life dmin ends) → LitKeeps life dmin ends lit placed →
    ends.slave.link.state ≡ LinkOn → ends.slave.link.state ≢ Idle → IsAmong (WR_MODE_ON, w) (movers_of (newest_of (stretches_of ends.slave.marks))) →
    (w ≤ℤ lit) ⊎ Chased life ends.slave.sent ends.master.sent → ⊥
not_left life dmin ends lit w placed k l on out among left =
    elim left [
      | inl before ↦ never w lit before (l.slave.fresh out (WR_MODE_ON, w) among)
      | inr c ↦
          let bo : bound ends.slave.link.role ends.slave.link.state ≡ true = slave_on ends.slave.link.role ends.slave.link.state k.is_slave on in
          let b : Bond ends.slave.link.role life k.of_slave.bind k.of_slave.latest ends.master.sent k.of_master.turn = k.up bo in
          no_chase life c.at k.of_slave.bind b.source.1
          (k.slave.sources bo (SLAVE_PRESENT, c.at) c.there (slave_opens ends.slave.link.role k.is_slave))
          b.fresh (c.late b.source b.there (b.takes k.is_slave))
    ]

pub master_on :
    (life dmin : ℕ) (ends : BothPorts) (lit : ℤ) (placed : Role → Option Module) → EndsKeep life dmin ends → LitKeeps life dmin ends lit placed → StaysAt life dmin lit ends.master ends.slave →
    ends.slave.link.state ≡ LinkOn → ends.master.link.carrier ≡ true → ends.master.link.state ≡ LinkOn
master_on life dmin ends lit placed k l o on lit_now =
    let out : ends.slave.link.state ≢ Idle = λ i. (let x : LinkOn ≡ Idle = sym on ∙ i in cc) in
    let said : (at : ℤ) × IsAmong (WR_MODE_ON, at) (movers_of (newest_of (stretches_of ends.slave.marks))) = l.slave.turned_on l.is_slave on in
    let from : FromLatest ends.master.sent k.of_master.turn (WR_MODE_ON, said.0) =
    latest_of life dmin ends.time (view_of ends.slave) k.of_slave (view_of ends.master) k.of_master (WR_MODE_ON, said.0) (from_slave life dmin ends k) out said.1 in
    let now : Current ends.master.link.role ends.master.marks k.of_master (WR_MODE_ON, said.0) =
    current_of life dmin ends.time (view_of ends.master) k.of_master (WR_MODE_ON, said.0) k.master from in
    by_bool (engaged ends.master.link.role ends.master.link.state)
    (λ en. on_since ends.time ends.master.link.role ends.master.link.state ends.master.marks k.of_master said.0 k.is_master (k.master.engages en) now)
    (λ shut.
    elim (idle_or_not ends.master.link.state) [
      | inl idle ↦
          absurd (not_left life dmin ends lit said.0 placed k l on out said.1
          (o.left idle lit_now said.0 from.there
          (last_began ends.master.link.role ends.master.marks k.of_master said.0 (k.master.alone k.is_master) now)))
      | inr awake ↦ absurd (not_opening ends.master.link.role ends.master.link.state k.is_master awake shut)
    ])
