-- Small facts on histories and on lists of sent messages.
use Rattle.std.proofs.Common.{◌≡◌, ◌≢◌, ◌⊎◌, inl, inr, refl, ap, sym, ◌∙◌, subst, ℤ, ◌≤ℤ◌, Bool, true, false, List, [], ◌∷◌, Option}
use Rattle.wrp_base.specs.declared.link.LinkState.{LinkState}
use Rattle.wrp_base.specs.declared.link.LinkState.TheVariants.{Idle, Present, MLock}
use Rattle.wrp_base.specs.declared.link.Mark.{Mark}
use Rattle.wrp_base.specs.declared.link.Role.{Role}
use Rattle.wrp_base.specs.declared.link.Role.TheVariants.{Master, Slave}
use Rattle.wrp_base.specs.declared.message.WrMsg.{WrMsg}
use Rattle.wrp_link.specs.Table.{is_same}
use Rattle.wrp_check.specs.Stretches.{is_idle, joined, stretches_of, BeganBy, Entered}
use Rattle.wrp_handshake_laws.specs.Ends.{Sending, IsAmong, stamped}
use Rattle.wrp_handshake_laws.proofs.Stages.{engaged, bound, way_of, Sends, SendsAll}
use Rattle.wrp_handshake_laws.proofs.Times.{later}

pub by_bool : {P : Type 0} (b : Bool) → (b ≡ true → P) → (b ≡ false → P) → P
by_bool true h k = h refl
by_bool false h k = k refl

abbrev pub mark_at : ℤ → LinkState → LinkState → Option Sending → Mark
mark_at time old new mover = record { at = time; from = old; to = new; by = mover }

pub not_same_idle : (s : LinkState) → s ≢ Idle → is_idle s ≡ false
not_same_idle Idle h = absurd (h refl)
not_same_idle _ h = refl

pub differs : (s : LinkState) → s ≢ Idle → is_same s Idle ≡ false
differs Idle h = absurd (h refl)
differs _ h = refl

pub not_idle : (s : LinkState) → is_same s Idle ≡ false → s ≢ Idle
not_idle Idle e = cc
not_idle _ e = λ f. cc

pub idle_shut : (role : Role) → engaged role Idle ≡ false
idle_shut Master = refl
idle_shut Slave = refl

pub idle_unbound : (role : Role) → bound role Idle ≡ false
idle_unbound Master = refl
idle_unbound Slave = refl

pub idle_way : (role : Role) → way_of role Idle ≡ []
idle_way Master = refl
idle_way Slave = refl

pub bound_engaged : (role : Role) (s : LinkState) → bound role s ≡ true → engaged role s ≡ true
bound_engaged Slave Idle e = cc
bound_engaged Slave Present e = cc
bound_engaged Master Idle e = cc
bound_engaged Master MLock e = refl
bound_engaged _ _ e = refl

pub began_cons : (t : ℤ) (mark : Mark) (marks : List Mark) → BeganBy t marks → BeganBy t (mark ∷ marks)
began_cons t mark [] h = absurd h
began_cons t mark (m ∷ ms) h = h

-- what a longer part of a history began by, the part did
pub began_rest : (s t : ℤ) (mark : Mark) (marks : List Mark) → BeganBy s marks → BeganBy t (mark ∷ marks) → BeganBy t marks
began_rest s t mark [] h k = absurd h
began_rest s t mark (m ∷ ms) h k = k

-- a master out of IDLE is engaged
pub out_engaged : (s : LinkState) → s ≢ Idle → engaged Master s ≡ true
out_engaged Idle h = absurd (h refl)
out_engaged _ h = refl

pub not_opening : (role : Role) (s : LinkState) → role ≡ Master → s ≢ Idle → engaged role s ≡ false → ⊥
not_opening role s r out shut =
    let yes : engaged role s ≡ true = ap (λ (x : Role). engaged x s) r ∙ out_engaged s out in
    cc

pub began_later : (a b : ℤ) (marks : List Mark) → a ≤ℤ b → BeganBy a marks → BeganBy b marks
began_later a b [] le h = absurd h
began_later a b (m ∷ []) le h = later h le
began_later a b (m ∷ n ∷ ms) le h = began_later a b (n ∷ ms) le h

pub entered_later : (a b : ℤ) (ss : List LinkState) (marks : List Mark) → a ≤ℤ b → Entered a ss marks → Entered b ss marks
entered_later a b [] marks le h = tt
entered_later a b (s ∷ ss) [] le h = absurd h
entered_later a b (s ∷ ss) (m ∷ ms) le h =
    elim h [
      | inl x ↦ inl (record { is = x.is; by = later x.by le; others = entered_later a b ss ms le x.others })
      | inr x ↦ inr (entered_later a b (s ∷ ss) ms le x)
    ]

-- a state that is entered now
pub entered_now : (t : ℤ) (s old : LinkState) (by : Option Sending) (ss : List LinkState) (marks : List Mark) →
    t ≤ℤ t → Entered t ss marks → Entered t (s ∷ ss) (mark_at t old s by ∷ marks)
entered_now t s old by ss marks le h = inl (record { is = refl; by = le; others = h })

pub joins : (mark : Mark) (marks : List Mark) → is_idle mark.from ≡ false → stretches_of (mark ∷ marks) ≡ joined mark (stretches_of marks)
joins mark marks e = rw e refl

pub begins : (mark : Mark) (marks : List Mark) → mark.from ≡ Idle → stretches_of (mark ∷ marks) ≡ (mark ∷ []) ∷ stretches_of marks
begins mark marks e =
    let same : is_idle mark.from ≡ true = ap is_idle e in
    rw same refl

-- what was sent before stays sent
pub stays_sent : (time : ℤ) (ms : List WrMsg) (sent : List Sending) (f : Sending) → IsAmong f sent → IsAmong f (stamped time ms sent)
stays_sent time [] sent f h = h
stays_sent time (m ∷ ms) sent f h = stays_sent time ms ((m, time) ∷ sent) f (inr h)

-- a sent message was sent now, or before
pub stamped_in :
    (time : ℤ) (role : Role) (s : LinkState) (ms : List WrMsg) (sent : List Sending) (f : Sending) →
    SendsAll role s ms → IsAmong f (stamped time ms sent) → (Sends role s f.0 × (f.1 ≡ time)) ⊎ IsAmong f sent
stamped_in time role s [] sent f all h = inr h
stamped_in time role s (m ∷ ms) sent f all h =
    elim (stamped_in time role s ms ((m, time) ∷ sent) f all.1 h) [
      | inl x ↦ inl x
      | inr i ↦
          elim i [
            | inl e ↦ inl (subst (λ (n : WrMsg). Sends role s n) (sym (ap (λ (x : Sending). x.0) e)) all.0, ap (λ (x : Sending). x.1) e)
            | inr j ↦ inr j
          ]
    ]
