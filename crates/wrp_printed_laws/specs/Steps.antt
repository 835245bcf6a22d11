-- In which state of the servo a step of the clock is printed (this project's profile).
use Rattle.std.specs.Prelude.{◌≡◌, ◌⊎◌, ℕ, List, [], ◌∷◌, ◌++◌, codes}
use Rattle.std.specs.List.{AllByRecursion}
use Rattle.wrp_printed_laws.specs.Words.{Reads}

-- the line reads NODE TICK servo STATE
abbrev pub SaysState : List ℕ → List ℕ → List ℕ → Type 0
SaysState node state line = (tick : List ℕ) × Reads line (node ∷ tick ∷ codes "servo" ∷ state ∷ [])

-- this is the last of these lines that says a state of the node's servo, and it says this state
pub record IsLastState (node state : List ℕ) (lines : List (List ℕ)) : Type 0 where
  pub before : List (List ℕ)
  pub line : List ℕ
  pub later : List (List ℕ)
  pub divided : lines ≡ before ++ line ∷ later
  pub says : SaysState node state line
  pub last : AllByRecursion (λ other. (any : List ℕ) → SaysState node any other → ⊥) later

-- if one of these lines reads NODE TICK step CYCLES, the last state of the node's servo before it is SYNC_TAI or
-- SYNC_NSEC
abbrev pub StepsAreSynced : List (List ℕ) → Type 0
StepsAreSynced lines =
    (before later : List (List ℕ)) (line node tick cycles : List ℕ) → lines ≡ before ++ line ∷ later →
    Reads line (node ∷ tick ∷ codes "step" ∷ cycles ∷ []) →
    IsLastState node (codes "sync-tai") before ⊎ IsLastState node (codes "sync-nsec") before
