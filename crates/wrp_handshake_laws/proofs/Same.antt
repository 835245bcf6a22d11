-- What is kept of a link makes a port in WR_LINK_ON share its handshake.
use Rattle.std.proofs.Common.{◌≡◌, inl, inr, refl, ap, sym, ◌∙◌, subst, ℕ, ℤ, pos, ◌*◌, ◌+ℤ◌, ◌≤ℤ◌, ◌<ℤ◌, true, List, [], ◌∷◌, reverse, arith}
use Rattle.std.proofs.lemmas.Int.{ints}
use Rattle.std.specs.List.{AllByRecursion}
use Rattle.wrp_base.specs.declared.link.LinkState.{LinkState}
use Rattle.wrp_base.specs.declared.link.LinkState.TheVariants.{LinkOn}
use Rattle.wrp_base.specs.declared.link.Mark.{Mark}
use Rattle.wrp_base.specs.declared.link.Role.{Role}
use Rattle.wrp_base.specs.declared.link.Role.TheVariants.{Master, Slave}
use Rattle.wrp_base.specs.Link.{other_of}
use Rattle.wrp_check.specs.Required.{required_of}
use Rattle.wrp_check.specs.Stretches.{stretches_of, newest_of, BeganBy, LiesIn, Entered, movers_of}
use Rattle.wrp_check.specs.Handshake.{IsBacked, SameHandshake}
use Rattle.wrp_handshake_laws.specs.Ends.{Sending}
use Rattle.wrp_handshake_laws.proofs.Stages.{bound}
use Rattle.wrp_handshake_laws.proofs.Keeps.{View, Ghost, Current, IsEngaged, PortKeeps, FromLatest, Bond}
use Rattle.wrp_handshake_laws.proofs.Parts.{bound_engaged}
use Rattle.wrp_handshake_laws.proofs.Moves.{Peers}

pub on_bound : (role : Role) → bound role LinkOn ≡ true
on_bound Master = refl
on_bound Slave = refl

twice_other : (role : Role) → other_of (other_of role) ≡ role
twice_other Master = refl
twice_other Slave = refl

pub too_new : (life : ℕ) (at turn : ℤ) → (at +ℤ pos (2 * life)) <ℤ turn → turn ≤ℤ at → ⊥
too_new life at turn h k = omega (arith, ints)

-- a message of the peer's last turn
pub current_of :
    (life dmin : ℕ) (time : ℤ) (q : View) (gq : Ghost) (m : Sending) →
    PortKeeps life dmin time q gq → FromLatest q.sent gq.turn m → Current q.role q.marks gq m
current_of life dmin time q gq m k f =
    elim ((k.frames m f.there).place f.counted) [
      | inl o ↦ absurd (too_new life m.1 gq.turn o f.since)
      | inr c ↦ c
    ]

lies_by :
    (life dmin : ℕ) (time : ℤ) (q : View) (gq : Ghost) (xs : List Sending) →
    PortKeeps life dmin time q gq →
    AllByRecursion (λ m. FromLatest q.sent gq.turn m) xs → AllByRecursion (λ m. LiesIn m.1 gq.latest) xs
lies_by life dmin time q gq [] k h = tt
lies_by life dmin time q gq (x ∷ xs) k h = ((current_of life dmin time q gq x k h.0).lies, lies_by life dmin time q gq xs k h.1)

backed_by :
    (life dmin : ℕ) (time : ℤ) (role : Role) (q : View) (gq : Ghost) (xs : List Sending) →
    PortKeeps life dmin time q gq → q.role ≡ other_of role →
    AllByRecursion (λ m. FromLatest q.sent gq.turn m) xs → AllByRecursion (λ m. IsBacked role gq.latest m) xs
backed_by life dmin time role q gq [] k r h = tt
backed_by life dmin time role q gq (x ∷ xs) k r h =
    let c : Current q.role q.marks gq x = current_of life dmin time q gq x k h.0 in
    let same : other_of q.role ≡ role = ap (λ (s : Role). other_of s) r ∙ twice_other role in (
      subst (λ (s : Role). Entered x.1 (reverse (required_of s x.0)) gq.latest) same c.entered,
      backed_by life dmin time role q gq xs k r h.1,
    )

misses_by :
    (t : ℤ) (ss : List (List Mark)) →
    AllByRecursion (λ s. BeganBy t s → ⊥) ss → AllByRecursion (λ s. LiesIn t s → ⊥) ss
misses_by t [] h = tt
misses_by t (s ∷ ss) h = (λ l. h.0 l.began, misses_by t ss h.1)

pub same_by :
    (life dmin : ℕ) (time : ℤ) (v : View) (g : Ghost) (q : View) (gq : Ghost) →
    Peers life dmin time v g q gq → v.state ≡ LinkOn → SameHandshake v.role v.marks q.marks
same_by life dmin time v g q gq c on =
    let bo : bound v.role v.state ≡ true = ap (λ (s : LinkState). bound v.role s) on ∙ on_bound v.role in
    let b : Bond v.role life g.bind g.latest q.sent gq.turn = c.tied bo in
    let n : IsEngaged time v.role v.state v.marks g = c.keeps.engages (bound_engaged v.role v.state bo) in
    let taken : AllByRecursion (λ m. FromLatest q.sent gq.turn m) (b.last ∷ b.others) =
    subst (λ (xs : List Sending). AllByRecursion (λ m. FromLatest q.sent gq.turn m) xs) b.movers b.taken in
    let last : Current q.role q.marks gq b.last = current_of life dmin time q gq b.last c.peer taken.0 in
    let movers : movers_of (newest_of (stretches_of v.marks)) ≡ movers_of g.latest =
    ap (λ (ss : List (List Mark)). movers_of (newest_of ss)) n.stretches in
    record {
      stretch = gq.latest;
      sent =
          record {
            last = b.last;
            others = b.others;
            movers = movers ∙ b.movers;
            newest =
                record {
                  newer = gq.newer;
                  older = gq.older;
                  splits = last.splits;
                  misses = misses_by b.last.1 gq.newer last.misses;
                  lies = last.lies;
                };
            sent = lies_by life dmin time q gq (b.last ∷ b.others) c.peer taken;
          };
      backed =
          subst (λ (xs : List Sending). AllByRecursion (λ m. IsBacked v.role gq.latest m) xs) (sym movers)
          (backed_by life dmin time v.role q gq (movers_of g.latest) c.peer c.roles b.taken);
    }
