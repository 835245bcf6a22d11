-- Histories read from their newest mark: one mark more, and a mark in the middle.
use Rattle.std.proofs.Common.{◌≡◌, refl, sym, ap, ◌∙◌, subst, ℕ, ◌+◌, ◌<◌, ℤ, List, [], ◌∷◌, ◌++◌, length, reverse, take, drop, get_or, Option, None, Some}
use Rattle.std.proofs.lemmas.List.{take_more, take-append-drop, reverse-append}
use Rattle.std.specs.List.{AllByRecursion}
use Rattle.wrp_base.specs.declared.link.Mark.{Mark}
use Rattle.wrp_base.specs.declared.message.WrMsg.{WrMsg}
use Rattle.wrp_base.specs.declared.message.WrMsg.TheVariants.{Present as SLAVE_PRESENT}
use Rattle.wrp_check.specs.Stretches.{with_mover, HasNoMover, HasMover, movers_of}

-- the element at i comes first, read from the end
pub reverse_more : {A : Type 0} (xs : List A) (i : ℕ) (d : A) → i < length xs → reverse (take (i + 1) xs) ≡ get_or xs i d ∷ reverse (take i xs)
reverse_more xs i d lt = ap reverse (take_more xs i d lt) ∙ reverse-append (take i xs) (get_or xs i d ∷ [])

-- a list read from the end, with the element at i
pub reverse_split : {A : Type 0} (xs : List A) (i : ℕ) (d : A) → i < length xs →
    reverse xs ≡ reverse (drop (i + 1) xs) ++ get_or xs i d ∷ reverse (take i xs)
reverse_split xs i d lt =
    ap reverse (sym (take-append-drop (i + 1) xs)) ∙ reverse-append (take (i + 1) xs) (drop (i + 1) xs) ∙ ap (λ ys. reverse (drop (i + 1) xs) ++ ys) (reverse_more xs i d lt)

-- one more message comes before the messages of two parts
with-append : (by : Option (WrMsg × ℤ)) (newer older : List (WrMsg × ℤ)) → with_mover by (newer ++ older) ≡ with_mover by newer ++ older
with-append None newer older = refl
with-append (Some (SLAVE_PRESENT, at)) newer older = refl
with-append (Some (_, at)) newer older = refl

-- the messages of two parts of a history
movers-append : (newer older : List Mark) → movers_of (newer ++ older) ≡ movers_of newer ++ movers_of older
movers-append [] older = refl
movers-append (mark ∷ newer) older =
    ap (with_mover mark.by) (movers-append newer older) ∙ with-append mark.by (movers_of newer) (movers_of older)

-- the messages of one mark more
movers_more : (marks : List Mark) (i : ℕ) (d : Mark) → i < length marks →
    movers_of (reverse (take (i + 1) marks)) ≡ with_mover (get_or marks i d).by (movers_of (reverse (take i marks)))
movers_more marks i d lt = ap movers_of (reverse_more marks i d lt)

-- the messages of a history, with the message of the mark at i
movers_split : (marks : List Mark) (i : ℕ) (d : Mark) → i < length marks →
    movers_of (reverse marks) ≡ movers_of (reverse (drop (i + 1) marks)) ++ with_mover (get_or marks i d).by (movers_of (reverse (take i marks)))
movers_split marks i d lt =
    ap movers_of (reverse_split marks i d lt) ∙ movers-append (reverse (drop (i + 1) marks)) (get_or marks i d ∷ reverse (take i marks))

-- the messages up to the mark at i, and all of them
pub movers_none : (marks : List Mark) (i : ℕ) (d : Mark) → i < length marks → HasNoMover (get_or marks i d) →
    movers_of (reverse (take (i + 1) marks)) ≡ movers_of (reverse (take i marks))
movers_none marks i d lt has = movers_more marks i d lt ∙ has (movers_of (reverse (take i marks)))

pub movers_one : (marks : List Mark) (i : ℕ) (d : Mark) (found : WrMsg × ℤ) → i < length marks → HasMover (get_or marks i d) found →
    movers_of (reverse (take (i + 1) marks)) ≡ found ∷ movers_of (reverse (take i marks))
movers_one marks i d found lt has = movers_more marks i d lt ∙ has (movers_of (reverse (take i marks)))

pub movers_all : (marks : List Mark) (i : ℕ) (d : Mark) (found : WrMsg × ℤ) → i < length marks → HasMover (get_or marks i d) found →
    movers_of (reverse marks) ≡ movers_of (reverse (drop (i + 1) marks)) ++ found ∷ movers_of (reverse (take i marks))
movers_all marks i d found lt has =
    movers_split marks i d lt ∙ ap (λ ms. movers_of (reverse (drop (i + 1) marks)) ++ ms) (has (movers_of (reverse (take i marks))))

-- what holds of each element holds of one in the middle
pub All-middle : {A : Type 0} (P : A → Type 0) (xs : List A) (y : A) (ys : List A) → AllByRecursion P (xs ++ y ∷ ys) → P y
All-middle P [] y ys h = h.0
All-middle P (x ∷ xs) y ys h = All-middle P xs y ys h.1

-- what holds of the messages so far, with the mark at i
pub All-none : (P : WrMsg × ℤ → Type 0) (marks : List Mark) (i : ℕ) (d : Mark) → i < length marks → HasNoMover (get_or marks i d) →
    AllByRecursion P (movers_of (reverse (take i marks))) → AllByRecursion P (movers_of (reverse (take (i + 1) marks)))
All-none P marks i d lt has h = subst (AllByRecursion P) (sym (movers_none marks i d lt has)) h

pub All-one : (P : WrMsg × ℤ → Type 0) (marks : List Mark) (i : ℕ) (d : Mark) (found : WrMsg × ℤ) → i < length marks → HasMover (get_or marks i d) found →
    P found → AllByRecursion P (movers_of (reverse (take i marks))) → AllByRecursion P (movers_of (reverse (take (i + 1) marks)))
All-one P marks i d found lt has p h = subst (AllByRecursion P) (sym (movers_one marks i d found lt has)) (p, h)

-- what holds of all messages holds of the message of the mark at i
pub All-at : (P : WrMsg × ℤ → Type 0) (marks : List Mark) (i : ℕ) (d : Mark) (found : WrMsg × ℤ) → i < length marks → HasMover (get_or marks i d) found →
    AllByRecursion P (movers_of (reverse marks)) → P found
All-at P marks i d found lt has h =
    All-middle P (movers_of (reverse (drop (i + 1) marks))) found (movers_of (reverse (take i marks))) (subst (AllByRecursion P) (movers_all marks i d found lt has) h)
