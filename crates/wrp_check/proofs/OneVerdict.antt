-- Two histories have one verdict.
use Rattle.std.proofs.Common.{◌≡◌, refl, sym, ap, ◌∙◌, ap₂, subst, ℤ, List, [], ◌∷◌, ◌++◌, reverse, Result, Ok, Err}
use Rattle.std.proofs.lemmas.List.{reverse-append, append_assoc}
use Rattle.std.specs.List.{AllByRecursion}
use Rattle.wrp_base.specs.declared.link.LinkState.{LinkState}
use Rattle.wrp_base.specs.declared.link.Mark.{Mark}
use Rattle.wrp_base.specs.declared.link.Role.{Role}
use Rattle.wrp_base.specs.declared.message.WrMsg.{WrMsg}
use Rattle.wrp_base.proofs.Lists.{heads, tails}
use Rattle.wrp_check.specs.declared.verdict.Verdict.{Verdict}
use Rattle.wrp_check.specs.declared.verdict.Verdict.TheVariants.{NotOn, NoStretch, Missing}
use Rattle.wrp_check.specs.Handshake.{IsNewestWith, SentIn, IsBacked, SameHandshake}
use Rattle.wrp_check.specs.Judged.{Lacks, LacksFirst, Misses, Judges}
use Rattle.wrp_check.specs.Required.{required_of}
use Rattle.wrp_check.specs.Stretches.{stretches_of, newest_of, Entered, movers_of, LiesIn}
use Rattle.wrp_check.proofs.Backwards.{All-middle}
use Rattle.wrp_check.proofs.Entering.{entered_less}

-- how two places in one list are related
data Places {A : Type 0} (front : List A) (x : A) (back : List A) (front' : List A) (y : A) (back' : List A) : Type 0 where
  same : front ≡ front' → x ≡ y → Places front x back front' y back'
  before : (mid : List A) → front' ≡ front ++ x ∷ mid → back ≡ mid ++ y ∷ back' → Places front x back front' y back'
  behind : (mid : List A) → front ≡ front' ++ y ∷ mid → back' ≡ mid ++ x ∷ back → Places front x back front' y back'

further : {A : Type 0} (a b : A) (front : List A) (x : A) (back front' : List A) (y : A) (back' : List A) → a ≡ b →
    Places front x back front' y back' → Places (a ∷ front) x back (b ∷ front') y back'
further a b front x back front' y back' e (same f i) = same (ap₂ (λ h t. h ∷ t) e f) i
further a b front x back front' y back' e (before mid f r) = before mid (ap₂ (λ h t. h ∷ t) (sym e) f) r
further a b front x back front' y back' e (behind mid f r) = behind mid (ap₂ (λ h t. h ∷ t) e f) r

places : {A : Type 0} (front : List A) (x : A) (back front' : List A) (y : A) (back' : List A) →
    front ++ x ∷ back ≡ front' ++ y ∷ back' → Places front x back front' y back'
places [] x back [] y back' e = same refl (heads x y back back' e)
places [] x back (b ∷ front') y back' e =
    before front' (ap (λ h. h ∷ front') (sym (heads x b back (front' ++ y ∷ back') e))) (tails x b back (front' ++ y ∷ back') e)
places (a ∷ front) x back [] y back' e =
    behind front (ap (λ h. h ∷ front) (heads a y (front ++ x ∷ back) back' e)) (sym (tails a y (front ++ x ∷ back) back' e))
places (a ∷ front) x back (b ∷ front') y back' e =
    further a b front x back front' y back' (heads a b (front ++ x ∷ back) (front' ++ y ∷ back') e)
    (places front x back front' y back' (tails a b (front ++ x ∷ back) (front' ++ y ∷ back') e))

-- the newest stretch in which a time lies is one
pub one_newest : (time : ℤ) (stretches : List (List Mark)) (s t : List Mark) → IsNewestWith time stretches s → IsNewestWith time stretches t → s ≡ t
one_newest time stretches s t h k =
    elim (places h.newer s h.older k.newer t k.older (sym h.splits ∙ k.splits)) [
      | same f i ↦ i
      | before mid f r ↦ absurd (All-middle (λ l. LiesIn time l → ⊥) h.newer s mid (subst (AllByRecursion (λ l. LiesIn time l → ⊥)) f k.misses) h.lies)
      | behind mid f r ↦ absurd (All-middle (λ l. LiesIn time l → ⊥) k.newer t mid (subst (AllByRecursion (λ l. LiesIn time l → ⊥)) f h.misses) k.lies)
    ]

-- so is the stretch in which the messages were sent
pub one_stretch : (own peer s t : List Mark) → SentIn own peer s → SentIn own peer t → s ≡ t
one_stretch own peer s t h k =
    let last : h.last ≡ k.last = heads h.last k.last h.others k.others (sym h.movers ∙ k.movers) in
    let P : ℤ → Type 0 = λ time. IsNewestWith time (stretches_of peer) t in
    one_newest h.last.1 (stretches_of peer) s t h.newest (subst P (ap (λ m. m.1) (sym last)) k.newest)

-- if states were entered, so were the first of them
front_entered : (time : ℤ) (later states : List LinkState) (marks : List Mark) → Entered time (later ++ states) marks → Entered time states marks
front_entered time [] states marks h = h
front_entered time (s ∷ later) states marks h = front_entered time later states marks (entered_less time s (later ++ states) marks h)

lacked : (time : ℤ) (marks : List Mark) (state : LinkState) (front mid : List LinkState) →
    (Entered time (state ∷ reverse front) marks → ⊥) → Entered time (reverse (front ++ state ∷ mid)) marks → ⊥
lacked time marks state front mid missing h =
    let turned : reverse (front ++ state ∷ mid) ≡ reverse mid ++ state ∷ reverse front =
    reverse-append front (state ∷ mid) ∙ ap (λ ss. ss ++ reverse front) (reverse-append (state ∷ []) mid) ∙ append_assoc (reverse mid) (state ∷ []) (reverse front) in
    missing (front_entered time (reverse mid) (state ∷ reverse front) marks (subst (λ (ss : List LinkState). Entered time ss marks) turned h))

-- the first state that is not there is unique, and then they are not all there
one_state : (states : List LinkState) (time : ℤ) (marks : List Mark) (s t : LinkState) → Lacks states time marks s → Lacks states time marks t → s ≡ t
one_state states time marks s t h k =
    elim (places h.before s h.after k.before t k.after (sym h.splits ∙ k.splits)) [
      | same f i ↦ i
      | before mid f r ↦ absurd (lacked time marks s h.before mid h.missing (subst (λ (ss : List LinkState). Entered time (reverse ss) marks) f k.entered))
      | behind mid f r ↦ absurd (lacked time marks t k.before mid k.missing (subst (λ (ss : List LinkState). Entered time (reverse ss) marks) f h.entered))
    ]

not_backed : (states : List LinkState) (time : ℤ) (marks : List Mark) (s : LinkState) → Lacks states time marks s → Entered time (reverse states) marks → ⊥
not_backed states time marks s h k =
    lacked time marks s h.before h.after h.missing (subst (λ (ss : List LinkState). Entered time (reverse ss) marks) h.splits k)

-- what the first message lacks is unique
one_first : (role : Role) (stretch : List Mark) (movers : List (WrMsg × ℤ)) (s t : LinkState) →
    LacksFirst role stretch movers s → LacksFirst role stretch movers t → s ≡ t
one_first role stretch movers s t h k =
    elim (places h.later h.mover h.earlier k.later k.mover k.earlier (sym h.splits ∙ k.splits)) [
      | same f i ↦
          let P : WrMsg × ℤ → Type 0 = λ m. Lacks (required_of role m.0) m.1 stretch t in
          one_state (required_of role h.mover.0) h.mover.1 stretch s t h.lacks (subst P (sym i) k.lacks)
      | before mid f r ↦
          absurd (not_backed (required_of role k.mover.0) k.mover.1 stretch t k.lacks
          (All-middle (λ m. IsBacked role stretch m) mid k.mover k.earlier (subst (AllByRecursion (λ m. IsBacked role stretch m)) r h.backed)))
      | behind mid f r ↦
          absurd (not_backed (required_of role h.mover.0) h.mover.1 stretch s h.lacks
          (All-middle (λ m. IsBacked role stretch m) mid h.mover h.earlier (subst (AllByRecursion (λ m. IsBacked role stretch m)) r k.backed)))
    ]

one_missing : (role : Role) (own peer : List Mark) (s t : LinkState) → Misses role own peer s → Misses role own peer t → s ≡ t
one_missing role own peer s t h k =
    let P : List Mark → Type 0 = λ stretch. LacksFirst role stretch (movers_of (newest_of (stretches_of own))) t in
    one_first role h.stretch (movers_of (newest_of (stretches_of own))) s t h.first
    (subst P (sym (one_stretch own peer h.stretch k.stretch h.sent k.sent)) k.first)

-- the same handshake misses nothing
not_missing : (role : Role) (own peer : List Mark) (s : LinkState) → SameHandshake role own peer → Misses role own peer s → ⊥
not_missing role own peer s h k =
    let ms : List (WrMsg × ℤ) = movers_of (newest_of (stretches_of own)) in
    let P : List Mark → Type 0 = λ stretch. LacksFirst role stretch ms s in
    let f : LacksFirst role h.stretch ms s = subst P (sym (one_stretch own peer h.stretch k.stretch h.sent k.sent)) k.first in
    not_backed (required_of role f.mover.0) f.mover.1 h.stretch s f.lacks
    (All-middle (λ m. IsBacked role h.stretch m) f.later f.mover f.earlier (subst (AllByRecursion (λ m. IsBacked role h.stretch m)) f.splits h.backed))

pub one_verdict : (role : Role) (own peer : List Mark) (v w : Result Unit Verdict) → Judges role own peer v → Judges role own peer w → v ≡ w
one_verdict role own peer (Ok _) (Ok _) h k = refl
one_verdict role own peer (Ok _) (Err NotOn) h k = absurd (k h.0)
one_verdict role own peer (Ok _) (Err NoStretch) h k = absurd (k.1 h.1.stretch h.1.sent)
one_verdict role own peer (Ok _) (Err (Missing s)) h k = absurd (not_missing role own peer s h.1 k.1)
one_verdict role own peer (Err NotOn) (Ok _) h k = absurd (h k.0)
one_verdict role own peer (Err NotOn) (Err NotOn) h k = refl
one_verdict role own peer (Err NotOn) (Err NoStretch) h k = absurd (h k.0)
one_verdict role own peer (Err NotOn) (Err (Missing s)) h k = absurd (h k.0)
one_verdict role own peer (Err NoStretch) (Ok _) h k = absurd (h.1 k.1.stretch k.1.sent)
one_verdict role own peer (Err NoStretch) (Err NotOn) h k = absurd (k h.0)
one_verdict role own peer (Err NoStretch) (Err NoStretch) h k = refl
one_verdict role own peer (Err NoStretch) (Err (Missing s)) h k = absurd (h.1 k.1.stretch k.1.sent)
one_verdict role own peer (Err (Missing s)) (Ok _) h k = absurd (not_missing role own peer s k.1 h.1)
one_verdict role own peer (Err (Missing s)) (Err NotOn) h k = absurd (k h.0)
one_verdict role own peer (Err (Missing s)) (Err NoStretch) h k = absurd (k.1 h.1.stretch h.1.sent)
one_verdict role own peer (Err (Missing s)) (Err (Missing t)) h k = ap (λ (x : LinkState). Err (Missing x)) (one_missing role own peer s t h.1 k.1)
