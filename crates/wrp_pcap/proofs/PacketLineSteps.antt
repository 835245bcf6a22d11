-- Lines that are put together word by word.
use Rattle.std.proofs.Common.{◌≡◌, ◌+◌, ◌<◌, ℕ, List, [], ◌∷◌, ◌++◌, length, take, map, get_or, refl, sym, ap, ◌∙◌, append_assoc, append-nil}
use Rattle.std.specs.Prelude.{codes}
use Rattle.std.specs.Fmt.{decimal}
use Rattle.std.proofs.lemmas.List.{take_more, map-append}
use Rattle.wrp_records.specs.Words.{line_of}
use Rattle.wrp_pcap.specs.PacketLines.{spaced}

-- words after words
pub spaced-append : (words more : List (List ℕ)) → spaced (words ++ more) ≡ spaced words ++ spaced more
spaced-append [] more = refl
spaced-append (word ∷ words) more =
    ap (λ l. 32 ∷ word ++ l) (spaced-append words more) ∙ ap (λ l. 32 ∷ l) (sym (append_assoc word (spaced words) (spaced more)))

-- a line of some words: the first, and each other with a space before it
pub line_spaced : (word : List ℕ) (words : List (List ℕ)) → line_of (word ∷ words) ≡ word ++ (spaced words ++ 10 ∷ [])
line_spaced word [] = refl
line_spaced word (next ∷ words) =
    ap (λ l. word ++ 32 ∷ l) (line_spaced next words) ∙ ap (λ l. word ++ 32 ∷ l) (sym (append_assoc next (spaced words) (10 ∷ [])))

-- one more number
pub numbers_more : (numbers : List ℕ) (at : ℕ) (start was now : List ℕ) → at < length numbers → was ≡ start ++ spaced (map decimal (take at numbers))
    → now ≡ was ++ 32 ∷ decimal (get_or numbers at 0) → now ≡ start ++ spaced (map decimal (take (at + 1) numbers))
numbers_more numbers at start was now within so_far more =
    more ∙ ap (λ l. l ++ 32 ∷ decimal (get_or numbers at 0)) so_far
    ∙ append_assoc start (spaced (map decimal (take at numbers))) (32 ∷ decimal (get_or numbers at 0))
    ∙ ap (λ l. start ++ l)
    (ap (λ l. spaced (map decimal (take at numbers)) ++ 32 ∷ l) (sym (append-nil (decimal (get_or numbers at 0))))
    ∙ sym (spaced-append (map decimal (take at numbers)) (decimal (get_or numbers at 0) ∷ []))
    ∙ ap spaced (sym (map-append decimal (take at numbers) (get_or numbers at 0 ∷ [])))
    ∙ ap (λ ns. spaced (map decimal ns)) (sym (take_more numbers at 0 within)))

-- the line of a verdict, put together
pub linked : (number source target : List ℕ) (words : List (List ℕ)) (start a b c d e f : List ℕ)
    → a ≡ start ++ number → b ≡ a ++ 32 ∷ codes "link" → c ≡ b ++ 32 ∷ source → d ≡ c ++ 32 ∷ target → e ≡ d ++ spaced words → f ≡ e ++ 10 ∷ []
    → f ≡ start ++ line_of (number ∷ codes "link" ∷ source ∷ target ∷ words)
linked number source target words start a b c d e f first link from to verdict end =
    let line = line_spaced number (codes "link" ∷ source ∷ target ∷ words) in
    let first_two : b ≡ (start ++ number) ++ 32 ∷ codes "link" = link ∙ ap (λ l. l ++ 32 ∷ codes "link") first in
    let ports : d ≡ (((start ++ number) ++ 32 ∷ codes "link") ++ 32 ∷ source) ++ 32 ∷ target =
    to ∙ ap (λ l. l ++ 32 ∷ target) (from ∙ ap (λ l. l ++ 32 ∷ source) first_two) in
    let all : f ≡ (((((start ++ number) ++ 32 ∷ codes "link") ++ 32 ∷ source) ++ 32 ∷ target) ++ spaced words) ++ 10 ∷ [] =
    end ∙ ap (λ l. l ++ 10 ∷ []) (verdict ∙ ap (λ l. l ++ spaced words) ports) in
    all ∙ simp append_assoc refl ∙ ap (λ l. start ++ l) (sym line)
