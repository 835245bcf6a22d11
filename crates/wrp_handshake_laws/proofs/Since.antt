-- What a message that moved a port says of its peer's later history.
use Rattle.std.proofs.Common.{◌≡◌, ◌≢◌, inl, inr, sym, ap, ◌∙◌, subst, ℕ, ℤ, pos, ◌*◌, ◌+ℤ◌, ◌≤ℤ◌, ◌<ℤ◌, true, false, List, [], ◌∷◌, Option}
use Rattle.std.specs.List.{AllByRecursion}
use Rattle.wrp_base.specs.declared.link.LinkState.{LinkState}
use Rattle.wrp_base.specs.declared.link.LinkState.TheVariants.{Idle, Present, SLock}
use Rattle.wrp_base.specs.declared.link.Mark.{Mark}
use Rattle.wrp_base.specs.declared.link.Role.{Role}
use Rattle.wrp_base.specs.declared.link.Role.TheVariants.{Master, Slave}
use Rattle.wrp_base.proofs.Lists.{all_weaker}
use Rattle.wrp_check.specs.Laws.{IsHistory}
use Rattle.wrp_check.specs.Stretches.{stretches_of, newest_of, movers_of, with_mover}
use Rattle.wrp_handshake_laws.specs.Ends.{Sending, Port, IsAmong}
use Rattle.wrp_handshake_laws.specs.Laws.{IsAwake, IsLongAgo}
use Rattle.wrp_handshake_laws.proofs.Stages.{engaged, bound}
use Rattle.wrp_handshake_laws.proofs.Times.{later, older}
use Rattle.wrp_handshake_laws.proofs.Keeps.{View, view_of, Ghost, IsOpen, IsEngaged, TurnedBy, LeftBy, PortKeeps, FromLatest, Bond}
use Rattle.wrp_handshake_laws.proofs.Parts.{by_bool, out_engaged, idle_shut}
use Rattle.wrp_handshake_laws.proofs.Moves.{Peers, quiet_over}
use Rattle.wrp_handshake_laws.proofs.Inputs.{idle_or_not}

all_among : (P : Sending → Type 0) (m : Sending) (xs : List Sending) → AllByRecursion P xs → IsAmong m xs → P m
all_among P m [] h i = absurd i
all_among P m (x ∷ xs) h i = elim i [ inl e ↦ subst P (sym e) h.0 | inr j ↦ all_among P m xs h.1 j ]

none_among : (m : Sending) (xs : List Sending) → xs ≡ [] → IsAmong m xs → ⊥
none_among m [] e i = i
none_among m (x ∷ xs) e i = cc

-- a message that moved a port in its present stretch is of the peer's last turn
pub latest_of :
    (life dmin : ℕ) (time : ℤ) (v : View) (g : Ghost) (q : View) (gq : Ghost) (m : Sending) →
    Peers life dmin time v g q gq → v.state ≢ Idle → IsAmong m (movers_of (newest_of (stretches_of v.marks))) → FromLatest q.sent gq.turn m
latest_of life dmin time v g q gq m c out among =
    by_bool (engaged v.role v.state)
    (λ en.
    let n : IsEngaged time v.role v.state v.marks g = c.keeps.engages en in
    let newest : movers_of (newest_of (stretches_of v.marks)) ≡ movers_of g.latest =
    ap (λ (ss : List (List Mark)). movers_of (newest_of ss)) n.stretches in
    let i : IsAmong m (movers_of g.latest) = subst (λ (xs : List Sending). IsAmong m xs) newest among in
    by_bool (bound v.role v.state)
    (λ bo.
    let b : Bond v.role life g.bind g.latest q.sent gq.turn = c.tied bo in
    all_among (λ x. FromLatest q.sent gq.turn x) m (movers_of g.latest) b.taken i)
    (λ un. absurd (none_among m (movers_of g.latest) (c.keeps.unbound en un) i)))
    (λ shut.
    let o : IsOpen life time v.role v.state v.marks g = c.keeps.opened out shut in
    let none : movers_of (newest_of (stretches_of v.marks)) ≡ [] =
    ap (λ (ss : List (List Mark)). movers_of (newest_of ss)) o.stretches ∙ ap (λ (x : Option Sending). with_mover x []) o.unmoved in
    absurd (none_among m (movers_of (newest_of (stretches_of v.marks))) none among))

-- the peer came past PRESENT for the last time before it sent the message
pub since_of :
    (life dmin : ℕ) (time : ℤ) (v : View) (g : Ghost) (q : View) (gq : Ghost) (m : Sending) →
    Peers life dmin time v g q gq → v.state ≢ Idle → IsAmong m (movers_of (newest_of (stretches_of v.marks))) → gq.turn ≤ℤ m.1
since_of life dmin time v g q gq m c out among = (latest_of life dmin time v g q gq m c out among).since

-- a master that came past PRESENT by a time began no stretch after it
pub no_stretch_since :
    (role : Role) (turn at : ℤ) (marks : List Mark) → role ≡ Master → turn ≤ℤ at → IsHistory marks →
    AllByRecursion (λ m. TurnedBy role turn m) marks → AllByRecursion (λ mark. mark.from ≡ Idle → mark.at ≤ℤ at) marks
no_stretch_since role turn at [] r le h t = tt
no_stretch_since role turn at (mark ∷ marks) r le h t = (
  λ idle.
      let from : engaged role mark.from ≡ false = ap (λ (s : LinkState). engaged role s) idle ∙ idle_shut role in
      let to : engaged role mark.to ≡ true =
      ap (λ (x : Role). engaged x mark.to) r ∙ out_engaged mark.to (λ e. h.1 (idle ∙ sym e)) in
      later (t.0 from to) le,
  no_stretch_since role turn at marks r le h.2 t.1,
)

-- a slave that came past PRESENT by a time did not do so after it
pub no_lock_since :
    (role : Role) (turn at : ℤ) (marks : List Mark) → role ≡ Slave → turn ≤ℤ at →
    AllByRecursion (λ m. TurnedBy role turn m) marks → AllByRecursion (λ mark. mark.from ≡ Present → mark.to ≡ SLock → mark.at ≤ℤ at) marks
no_lock_since role turn at marks r le t =
    all_weaker (λ m. TurnedBy role turn m) (λ mark. mark.from ≡ Present → mark.to ≡ SLock → mark.at ≤ℤ at)
    (λ mark turned present lock.
    let from : engaged role mark.from ≡ false = ap (λ (x : Role). engaged x mark.from) r ∙ ap (λ (s : LinkState). engaged Slave s) present in
    let to : engaged role mark.to ≡ true = ap (λ (x : Role). engaged x mark.to) r ∙ ap (λ (s : LinkState). engaged Slave s) lock in
    later (turned from to) le)
    marks t

-- a port whose quiet time is over left its last stretch long ago
pub left_long_ago :
    (life dmin : ℕ) (time : ℤ) (p : Port) (g : Ghost) → PortKeeps life dmin time (view_of p) g → IsAwake p →
    AllByRecursion (λ mark. mark.to ≡ Idle → IsLongAgo life time mark.at) p.marks
left_long_ago life dmin time p g k h =
    let rested : (g.rest +ℤ pos (2 * life)) <ℤ time =
    elim (idle_or_not p.link.state) [
      | inl idle ↦ elim h.over [ inl out ↦ absurd (out idle) | inr over ↦ quiet_over life dmin time (view_of p) g k idle h.lit over ]
      | inr out ↦ k.awake out
    ] in
    all_weaker (λ m. LeftBy g.rest m) (λ mark. mark.to ≡ Idle → IsLongAgo life time mark.at)
    (λ mark by idle. older life mark.at g.rest time (by idle) rested) p.marks k.left
