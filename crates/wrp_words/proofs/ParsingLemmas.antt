-- clap takes each command line, and gives the value of its option.
use Rattle.std.proofs.Common.{◌≡◌, ◌==◌, ℕ, true, false, List, [], ◌∷◌, ◌++◌, Option, None, Some, option_map, refl, sym, ap, ap₂, ◌∙◌, subst, codes, ne_eqb}
use Rattle.std.specs.Prelude.{option_and_then}
use Rattle.clap.proofs.OnLiterals.{clap_on_literals}
use Rattle.clap.specs.Words.{Row, first_of, is_simple}
use Rattle.wrp_words.specs.CommandLine.{IsDashed, IsCommandWith}
use Rattle.wrp_words.specs.Parsing.{IsRead, value_of_option, wrnet}

pub is_simple_line : is_simple wrnet ≡ true
unfolding clap_on_literals
is_simple_line = refl

-- each option, with its value after `=` and as the next word
emit_behind : (value : List ℕ) → IsRead (codes "audit" ∷ (codes "--emit" ++ codes "=" ++ value) ∷ []) (codes "emit") value
unfolding clap_on_literals
emit_behind value = record { taken = refl; found = refl }

emit_next : (value : List ℕ) → (IsDashed value → ⊥) → IsRead (codes "audit" ∷ codes "--emit" ∷ value ∷ []) (codes "emit") value
unfolding clap_on_literals
emit_next [] plain = record { taken = refl; found = refl }
emit_next (x ∷ xs) plain =
    let other : (x == 45) ≡ false = ne_eqb _ _ (λ e. plain (xs, ap (λ y. y ∷ xs) e)) in
    record { taken = simp other refl; found = simp other refl }

node_behind : (value : List ℕ) → IsRead (codes "replay" ∷ (codes "--node" ++ codes "=" ++ value) ∷ []) (codes "node") value
unfolding clap_on_literals
node_behind value = record { taken = refl; found = refl }

node_next : (value : List ℕ) → (IsDashed value → ⊥) → IsRead (codes "replay" ∷ codes "--node" ∷ value ∷ []) (codes "node") value
unfolding clap_on_literals
node_next [] plain = record { taken = refl; found = refl }
node_next (x ∷ xs) plain =
    let other : (x == 45) ≡ false = ne_eqb _ _ (λ e. plain (xs, ap (λ y. y ∷ xs) e)) in
    record { taken = simp other refl; found = simp other refl }

seed_behind : (value : List ℕ) → IsRead (codes "simulate" ∷ (codes "--seed" ++ codes "=" ++ value) ∷ []) (codes "seed") value
unfolding clap_on_literals
seed_behind value = record { taken = refl; found = refl }

seed_next : (value : List ℕ) → (IsDashed value → ⊥) → IsRead (codes "simulate" ∷ codes "--seed" ∷ value ∷ []) (codes "seed") value
unfolding clap_on_literals
seed_next [] plain = record { taken = refl; found = refl }
seed_next (x ∷ xs) plain =
    let other : (x == 45) ≡ false = ne_eqb _ _ (λ e. plain (xs, ap (λ y. y ∷ xs) e)) in
    record { taken = simp other refl; found = simp other refl }

number_behind : (value : List ℕ) → IsRead (codes "loop" ∷ (codes "--seed" ++ codes "=" ++ value) ∷ []) (codes "seed") value
unfolding clap_on_literals
number_behind value = record { taken = refl; found = refl }

number_next : (value : List ℕ) → (IsDashed value → ⊥) → IsRead (codes "loop" ∷ codes "--seed" ∷ value ∷ []) (codes "seed") value
unfolding clap_on_literals
number_next [] plain = record { taken = refl; found = refl }
number_next (x ∷ xs) plain =
    let other : (x == 45) ≡ false = ne_eqb _ _ (λ e. plain (xs, ap (λ y. y ∷ xs) e)) in
    record { taken = simp other refl; found = simp other refl }

-- the value of an option of a command that was found is the value in its rows
pub value_of_rows : (option : List ℕ) (command : Option (List ℕ × List Row)) → value_of_option option command ≡ option_and_then (first_of option) (option_map (λ named. named.1) command)
value_of_rows option None = refl
value_of_rows option (Some named) = refl

-- a form that is read with its value after `=` and as the next word is read
reads_with : (command dashed option : List ℕ) → ((value : List ℕ) → (IsDashed value → ⊥) → IsRead (command ∷ dashed ∷ value ∷ []) option value)
    → ((value : List ℕ) → IsRead (command ∷ (dashed ++ codes "=" ++ value) ∷ []) option value)
    → (words : List (List ℕ)) (value : List ℕ) → IsCommandWith command dashed words value → IsRead words option value
reads_with command dashed option next behind [] value is = absurd is
reads_with command dashed option next behind (first ∷ []) value is = absurd is.1
reads_with command dashed option next behind (first ∷ word ∷ []) value is =
    subst (λ words. IsRead words option value) (sym (ap₂ (λ a b. a ∷ b ∷ []) is.0 is.1)) (behind value)
reads_with command dashed option next behind (first ∷ given ∷ word ∷ []) value is =
    let same : first ∷ given ∷ word ∷ [] ≡ command ∷ dashed ∷ value ∷ [] = ap₂ (λ a b. a ∷ b) is.0 (ap₂ (λ a b. a ∷ b ∷ []) is.1.0 is.1.1) in
    subst (λ words. IsRead words option value) (sym same) (next value is.1.2)
reads_with command dashed option next behind (first ∷ given ∷ word ∷ more ∷ words) value is = absurd is.1

pub emit_read : (words : List (List ℕ)) (value : List ℕ) → IsCommandWith (codes "audit") (codes "--emit") words value → IsRead words (codes "emit") value
emit_read = reads_with (codes "audit") (codes "--emit") (codes "emit") emit_next emit_behind

pub node_read : (words : List (List ℕ)) (value : List ℕ) → IsCommandWith (codes "replay") (codes "--node") words value → IsRead words (codes "node") value
node_read = reads_with (codes "replay") (codes "--node") (codes "node") node_next node_behind

pub simulate_read : (words : List (List ℕ)) (value : List ℕ) → IsCommandWith (codes "simulate") (codes "--seed") words value → IsRead words (codes "seed") value
simulate_read = reads_with (codes "simulate") (codes "--seed") (codes "seed") seed_next seed_behind

pub loop_read : (words : List (List ℕ)) (value : List ℕ) → IsCommandWith (codes "loop") (codes "--seed") words value → IsRead words (codes "seed") value
loop_read = reads_with (codes "loop") (codes "--seed") (codes "seed") number_next number_behind

-- an option has one value
pub one_read : (words : List (List ℕ)) (option a b : List ℕ) → IsRead words option a → IsRead words option b → a ≡ b
one_read words option a b p q =
    let same : Some a ≡ Some b = sym p.found ∙ q.found in
    cc
