-- Lines say one scenario, or one fault.
use Rattle.std.proofs.Common.{◌≡◌, ◌∙◌, refl, ap, sym, subst, ℕ, ◌+◌, Result, Ok, Err, List, [], ◌∷◌, ◌++◌, length}
use Rattle.wrp_network.specs.declared.configuration.NetCfg.{NetCfg}
use Rattle.wrp_base.specs.declared.fault.TraceFault.{TraceFault}
use Rattle.wrp_scene.specs.Scenario.{SceneAt, new_scene}
use Rattle.wrp_scene.specs.ScenarioLines.{scene_read}
use Rattle.wrp_course.specs.Setting.{Setting}
use Rattle.wrp_records.specs.declared.machine.Refusal.{Refusal}
use Rattle.wrp_records.specs.declared.machine.Refusal.TheVariants as refusals
use Rattle.wrp_records.specs.Refusals.{bad_trace_line}
use Rattle.wrp_scene_records.specs.Scenarios.{Changes, SimAccepts, SimRefuses}

ok_scene : (a b : SceneAt) → (read : Result SceneAt TraceFault) → read ≡ Ok a → read ≡ Ok b → a ≡ b
ok_scene a b read p q = let both : Ok a ≡ Ok b = sym p ∙ q in cc

pub scenes_one : (cfg : NetCfg) (scene : SceneAt) (lines : List (List ℕ)) (a b : SceneAt) → Changes cfg scene lines a → Changes cfg scene lines b → a ≡ b
scenes_one cfg scene [] a b p q = p ∙ sym q
scenes_one cfg scene (line ∷ lines) a b p q =
    let same : p.0 ≡ q.0 = ok_scene p.0 q.0 (scene_read cfg scene line) p.1 q.1 in
    scenes_one cfg p.0 lines a b p.2 (subst (λ (n : SceneAt). Changes cfg n lines b) (sym same) q.2)

-- what the first lines say, and what the rest changes
pub parted : (cfg : NetCfg) (scene : SceneAt) (front back : List (List ℕ)) (last : SceneAt) → Changes cfg scene (front ++ back) last → (mid : SceneAt) × Changes cfg scene front mid × Changes cfg mid back last
parted cfg scene [] back last p = (scene, refl, p)
parted cfg scene (line ∷ front) back last p =
    let rest = parted cfg p.0 front back last p.2 in
    (rest.0, (p.0, p.1, rest.1), rest.2)

pub joined : (cfg : NetCfg) (scene : SceneAt) (front back : List (List ℕ)) (mid last : SceneAt) → Changes cfg scene front mid → Changes cfg mid back last → Changes cfg scene (front ++ back) last
joined cfg scene [] back mid last p q = subst (λ (n : SceneAt). Changes cfg n back last) p q
joined cfg scene (line ∷ front) back mid last p q = (p.0, p.1, joined cfg p.0 front back mid last p.2 q)

err_ok : (fault : TraceFault) (scene : SceneAt) → Err fault ≡ Ok scene → ⊥
err_ok fault scene e = cc

pub never_refused : (s : Setting) (before behind : List (List ℕ)) (line text last : List ℕ) (refusal : Refusal) → SimAccepts s (before ++ line ∷ behind) text → SimRefuses s before line refusal last → ⊥
never_refused s before behind line text last refusals.BadTrace p q =
    let parts = parted s.cfg (new_scene s.cfg) before (line ∷ behind) p.0 p.1 in
    let same : parts.0 ≡ q.0 = scenes_one s.cfg (new_scene s.cfg) before parts.0 q.0 parts.1 q.1 in
    err_ok q.2 parts.2.0 (sym q.3 ∙ ap (λ (n : SceneAt). scene_read s.cfg n line) (sym same) ∙ parts.2.1)
never_refused s before behind line text last refusals.Broken p q = q

one_fault : (a b : TraceFault) (read : Result SceneAt TraceFault) → read ≡ Err a → read ≡ Err b → a ≡ b
one_fault a b read p q = let both : Err a ≡ Err b = sym p ∙ q in cc

pub one_refused : (s : Setting) (before : List (List ℕ)) (line t u : List ℕ) (a b : Refusal) → SimRefuses s before line a t → SimRefuses s before line b u → (a ≡ b) × (t ≡ u)
one_refused s before line t u refusals.BadTrace refusals.BadTrace p q =
    let scene : p.0 ≡ q.0 = scenes_one s.cfg (new_scene s.cfg) before p.0 q.0 p.1 q.1 in
    let fault : p.2 ≡ q.2 = one_fault p.2 q.2 (scene_read s.cfg q.0 line) (ap (λ (n : SceneAt). scene_read s.cfg n line) (sym scene) ∙ p.3) q.3 in
    (refl, p.4 ∙ ap (bad_trace_line (length before + 1)) fault ∙ sym q.4)
one_refused s before line t u refusals.BadTrace refusals.Broken p q = absurd q
one_refused s before line t u refusals.Broken b p q = absurd p
