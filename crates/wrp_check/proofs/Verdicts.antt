-- What the parts of the judgement say of two histories.
use Rattle.std.proofs.Common.{◌≡◌, sym, ap, ◌∙◌, subst, ℤ, List, [], ◌∷◌, Some}
use Rattle.std.specs.List.{AllByRecursion, slice_get}
use Rattle.wrp_base.specs.declared.link.LinkState.{LinkState}
use Rattle.wrp_base.specs.declared.link.Mark.{Mark}
use Rattle.wrp_base.specs.declared.link.Role.{Role}
use Rattle.wrp_base.specs.declared.message.WrMsg.{WrMsg}
use Rattle.wrp_check.specs.Handshake.{IsNewestWith, SentIn, IsBacked, SameHandshake}
use Rattle.wrp_check.specs.Judged.{LacksFirst, Misses}
use Rattle.wrp_check.specs.Stretches.{stretches_of, newest_of, LiesIn, movers_of}
use Rattle.wrp_check.proofs.Backwards.{All-middle}
use Rattle.wrp_check.proofs.OneVerdict.{one_newest}

-- the first of some messages, and the others
pub record Begins (movers : List (WrMsg × ℤ)) (found : WrMsg × ℤ) : Type 0 where
  pub others : List (WrMsg × ℤ)
  pub is : movers ≡ found ∷ others

begins : (movers : List (WrMsg × ℤ)) (found : WrMsg × ℤ) → Some found ≡ slice_get movers 0 → Begins movers found
begins [] found e = absurd cc
begins (m ∷ ms) found e = record { others = ms; is = ap (λ x. x ∷ ms) cc }

-- the last message of the newest stretch, once more
last_is : (own peer stretch newest : List Mark) (found : WrMsg × ℤ) → newest_of (stretches_of own) ≡ newest → Some found ≡ slice_get (movers_of newest) 0 →
    (h : SentIn own peer stretch) → h.last ≡ found
last_is own peer stretch newest found is first h =
    let b : Begins (movers_of newest) found = begins (movers_of newest) found first in
    let both : h.last ∷ h.others ≡ found ∷ b.others = sym h.movers ∙ ap movers_of is ∙ b.is in
    cc

-- nor if the last one lies in no stretch
pub no_stretch : (own peer stretch newest : List Mark) (found : WrMsg × ℤ) → newest_of (stretches_of own) ≡ newest → Some found ≡ slice_get (movers_of newest) 0 →
    AllByRecursion (λ s. LiesIn found.1 s → ⊥) (stretches_of peer) → SentIn own peer stretch → ⊥
no_stretch own peer stretch newest found is first none h =
    let same : h.last ≡ found = last_is own peer stretch newest found is first h in
    let P : WrMsg × ℤ → Type 0 = λ m. LiesIn m.1 stretch in
    All-middle (λ s. LiesIn found.1 s → ⊥) h.newest.newer stretch h.newest.older (subst (AllByRecursion (λ s. LiesIn found.1 s → ⊥)) h.newest.splits none) (subst P same h.newest.lies)

-- nor if another lies outside that stretch
pub not_all : (own peer stretch newest with_last : List Mark) (found : WrMsg × ℤ) → newest_of (stretches_of own) ≡ newest → Some found ≡ slice_get (movers_of newest) 0 →
    IsNewestWith found.1 (stretches_of peer) with_last → (AllByRecursion (λ m. LiesIn m.1 with_last) (movers_of newest) → ⊥) → SentIn own peer stretch → ⊥
not_all own peer stretch newest with_last found is first newest_with not h =
    let same : h.last ≡ found = last_is own peer stretch newest found is first h in
    let P : WrMsg × ℤ → Type 0 = λ m. IsNewestWith m.1 (stretches_of peer) stretch in
    let one : stretch ≡ with_last = one_newest found.1 (stretches_of peer) stretch with_last (subst P same h.newest) newest_with in
    let Q : List Mark → Type 0 = λ s. AllByRecursion (λ m. LiesIn m.1 s) (h.last ∷ h.others) in
    not (subst (AllByRecursion (λ m. LiesIn m.1 with_last)) (sym h.movers ∙ ap movers_of is) (subst Q one h.sent))

-- all messages were sent in one stretch
pub sent_in : (own peer stretch newest : List Mark) (found : WrMsg × ℤ) → newest_of (stretches_of own) ≡ newest → Some found ≡ slice_get (movers_of newest) 0 →
    IsNewestWith found.1 (stretches_of peer) stretch → AllByRecursion (λ m. LiesIn m.1 stretch) (movers_of newest) → SentIn own peer stretch
sent_in own peer stretch newest found is first newest_with all =
    let b : Begins (movers_of newest) found = begins (movers_of newest) found first in
    record {
      last = found;
      others = b.others;
      movers = ap movers_of is ∙ b.is;
      newest = newest_with;
      sent = subst (AllByRecursion (λ m. LiesIn m.1 stretch)) b.is all;
    }

-- a state is missing, or none is
pub misses : (role : Role) (own peer stretch newest : List Mark) (state : LinkState) → newest_of (stretches_of own) ≡ newest →
    SentIn own peer stretch → LacksFirst role stretch (movers_of newest) state → Misses role own peer state
misses role own peer stretch newest state is sent lacks =
    record { stretch = stretch; sent = sent; first = subst (λ (ms : List Mark). LacksFirst role stretch (movers_of ms) state) (sym is) lacks }

pub is_same : (role : Role) (own peer stretch newest : List Mark) → newest_of (stretches_of own) ≡ newest →
    SentIn own peer stretch → AllByRecursion (λ m. IsBacked role stretch m) (movers_of newest) → SameHandshake role own peer
is_same role own peer stretch newest is sent backed =
    record { stretch = stretch; sent = sent; backed = subst (λ (ms : List Mark). AllByRecursion (λ m. IsBacked role stretch m) (movers_of ms)) (sym is) backed }
