-- What a line says about a scenario, and what a refusal says about the line.
use Rattle.std.proofs.Common.{◌≡◌, ◌∙◌, refl, ap, sym, subst, ℕ, ◌+◌, Ok, Err, List, [], ◌∷◌, ◌++◌, length}
use Rattle.wrp_base.specs.declared.fault.TraceFault.{TraceFault}
use Rattle.wrp_config.specs.declared.network.Network.{Network}
use Rattle.wrp_scene.specs.Scenario.{new_scene}
use Rattle.wrp_scene.specs.ScenarioLines.{scene_read}
use Rattle.wrp_records.specs.declared.machine.Refusal.{Refusal}
use Rattle.wrp_records.specs.declared.machine.Taken.{Taken}
use Rattle.wrp_records.specs.declared.machine.Taken.TheVariants.{Refused}
use Rattle.wrp_records.specs.Refusals.{RefusesLine}
use Rattle.wrp_records.proofs.LineParts.{refused_line}
use Rattle.wrp_scene_records.specs.declared.scenario.ScenarioLines.{ScenarioLines}
use Rattle.wrp_scene_records.specs.ScenarioStands.{SaysScenario}
use Rattle.wrp_scene_records.specs.Scenarios.{AcceptsScene, RefusesScene, SaysScene}
use Rattle.wrp_scene_records.proofs.OneScenario.{joined}

-- the scenario with one more line
pub says_more : (held now : ScenarioLines) (lines : List (List ℕ)) (line : List ℕ) → Ok now.scene ≡ scene_read held.net.now.cfg held.scene line → now.net.now ≡ held.net.now → SaysScenario held lines → SaysScenario now (lines ++ line ∷ [])
says_more held now lines line reads same said =
    let cfg = held.net.now.cfg in
    let all : SaysScene cfg (lines ++ line ∷ []) now.scene = joined cfg (new_scene cfg) lines (line ∷ []) held.scene now.scene said (now.scene, sym reads, refl) in
    subst (λ (k : Network). SaysScene k.cfg (lines ++ line ∷ []) now.scene) (sym same) all

-- and nothing is written for it
pub accepts_more : (net : Network) (held now : ScenarioLines) (lines : List (List ℕ)) (line before text : List ℕ) → held.net.now ≡ net → now.net.now ≡ net → SaysScenario now (lines ++ line ∷ []) → AcceptsScene net.cfg lines before → text ≡ []
    → AcceptsScene net.cfg (lines ++ line ∷ []) (before ++ text)
accepts_more net held now lines line before text was is said accepted none =
    (now.scene, subst (λ (k : Network). SaysScene k.cfg (lines ++ line ∷ []) now.scene) is said, ap (λ (l : List ℕ). l ++ text) accepted.2 ∙ none)

-- a refusal for a fault refuses its line
pub refuses_so : (held : ScenarioLines) (lines : List (List ℕ)) (line : List ℕ) (fault : TraceFault) (number : ℕ) (old new : List ℕ) (answer : Taken) (refusal : Refusal)
    → RefusesLine fault number old new answer → answer ≡ Refused refusal → old ≡ [] → number ≡ length lines + 1 → Err fault ≡ scene_read held.net.now.cfg held.scene line → SaysScenario held lines
    → RefusesScene held.net.now.cfg lines line refusal new
refuses_so held lines line fault number old new answer refusal refuses is none counts reads said =
    let told = refused_line fault number (length lines + 1) old new answer refusal refuses is none counts in
    subst (λ (r : Refusal). RefusesScene held.net.now.cfg lines line r new) told.0 (held.scene, said, fault, sym reads, told.1)
