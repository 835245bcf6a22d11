-- The faults that are left, as they are tried one after the other.
use Rattle.std.proofs.Common.{◌≡◌, ◌∙◌, refl, ap, ap₂, sym, ℕ, zero, suc, ◌+◌, ◌&&◌, Bool, true, false, cond, if◌then◌else◌, List, [], ◌∷◌, ◌++◌, take, drop, remove, Some, slice_get, arith}
use Rattle.std.specs.List.{AllByRecursion}
use Rattle.wrp_base.proofs.Lists.{append_assoc}
use Rattle.wrp_course.specs.Setting.{Setting}
use Rattle.wrp_course.specs.WorldAt.{WorldAt}
use Rattle.wrp_scene.specs.declared.scene.fault.Fault.{Fault}
use Rattle.wrp_sim.specs.Rules.{applies, faults_left, has_come, next_fault}
use Rattle.wrp_sim.proofs.SimLists.{drop_at, drop_removed, take_more, take_removed}

-- the faults before place i have not come, and those from place i on are still to be tried
abbrev pub Left : Setting → WorldAt → (all faults : List Fault) → ℕ → Type 0
Left s w all faults i =
    (next_fault s w all ≡ next_fault s w (drop i faults))
    × (faults_left s w all ≡ take i faults ++ faults_left s w (drop i faults))

first_at : (s : Setting) (w : WorldAt) (faults : List Fault) (i : ℕ) (f : Fault) (come does : Bool) → slice_get faults i ≡ Some f → has_come s w f ≡ come →
    applies w f.kind ≡ does → next_fault s w (drop i faults) ≡ cond (come && does) (Some f) (next_fault s w (drop (i + 1) faults))
first_at s w faults i f come does e h k =
    ap (next_fault s w) (drop_at faults i f e)
    ∙ ap₂ (λ a b. cond (a && b) (Some f) (next_fault s w (drop (i + 1) faults))) h k

left_at : (s : Setting) (w : WorldAt) (faults : List Fault) (i : ℕ) (f : Fault) (come does : Bool) → slice_get faults i ≡ Some f → has_come s w f ≡ come →
    applies w f.kind ≡ does →
    faults_left s w (drop i faults)
    ≡ (if come then (if does then drop (i + 1) faults else faults_left s w (drop (i + 1) faults)) else f ∷ faults_left s w (drop (i + 1) faults))
left_at s w faults i f come does e h k =
    ap (faults_left s w) (drop_at faults i f e)
    ∙ ap₂ (λ (a b : Bool). if a then (if b then drop (i + 1) faults else faults_left s w (drop (i + 1) faults)) else f ∷ faults_left s w (drop (i + 1) faults)) h k

-- its time has not come
pub left_waiting : (s : Setting) (w : WorldAt) (all faults : List Fault) (i : ℕ) (f : Fault) → slice_get faults i ≡ Some f → has_come s w f ≡ false →
    Left s w all faults i → Left s w all faults (i + 1)
left_waiting s w all faults i f e h left = (
  left.0 ∙ first_at s w faults i f false (applies w f.kind) e h refl,
  left.1 ∙ ap (λ xs. take i faults ++ xs) (left_at s w faults i f false (applies w f.kind) e h refl)
      ∙ sym (append_assoc (take i faults) (f ∷ []) (faults_left s w (drop (i + 1) faults)))
      ∙ sym (ap (λ xs. xs ++ faults_left s w (drop (i + 1) faults)) (take_more faults i f e)),
)

-- it does not apply, and is dropped
pub left_dropped : (s : Setting) (w : WorldAt) (all faults : List Fault) (i : ℕ) (f : Fault) → slice_get faults i ≡ Some f → has_come s w f ≡ true →
    applies w f.kind ≡ false → Left s w all faults i → Left s w all (remove faults i) i
left_dropped s w all faults i f e h k left = (
  left.0 ∙ first_at s w faults i f true false e h k ∙ sym (ap (next_fault s w) (drop_removed faults i)),
  left.1 ∙ ap (λ xs. take i faults ++ xs) (left_at s w faults i f true false e h k)
      ∙ sym (ap₂ (λ xs ys. xs ++ faults_left s w ys) (take_removed faults i) (drop_removed faults i)),
)

-- it applies, and is taken
pub first_taken : (s : Setting) (w : WorldAt) (all faults : List Fault) (i : ℕ) (f : Fault) → slice_get faults i ≡ Some f → has_come s w f ≡ true →
    applies w f.kind ≡ true → Left s w all faults i → next_fault s w all ≡ Some f
first_taken s w all faults i f e h k left = left.0 ∙ first_at s w faults i f true true e h k

pub left_taken : (s : Setting) (w : WorldAt) (all faults : List Fault) (i : ℕ) (f : Fault) → slice_get faults i ≡ Some f → has_come s w f ≡ true →
    applies w f.kind ≡ true → Left s w all faults i → faults_left s w all ≡ remove faults i
left_taken s w all faults i f e h k left =
    let next : i + 1 ≡ suc i = omega arith in
    left.1 ∙ ap (λ xs. take i faults ++ xs) (left_at s w faults i f true true e h k) ∙ ap (λ n. take i faults ++ drop n faults) next

-- What holds for each

pub all_removed : {A : Type 0} (P : A → Type 0) (xs : List A) (i : ℕ) → AllByRecursion P xs → AllByRecursion P (remove xs i)
all_removed P [] zero h = tt
all_removed P [] (suc i) h = tt
all_removed P (x ∷ xs) zero h = h.1
all_removed P (x ∷ xs) (suc i) h = (h.0, all_removed P xs i h.1)
