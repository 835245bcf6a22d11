-- An event that comes, and its lines.
use Rattle.std.proofs.Common.{◌≡◌, ◌∙◌, ap, ap₂, sym, ℕ, ℤ, List, ◌++◌, map, flat_map, append_assoc, Option, Some, option_map, slice_get, Result, Ok, Err, IfOk, OnErr, OnOk}
use Rattle.std.specs.List.{concat}
use Rattle.wrp_network.specs.declared.configuration.NetCfg.{NetCfg}
use Rattle.wrp_lines.specs.Lines.{output_line}
use Rattle.wrp_node.specs.declared.interface.Output.{Output}
use Rattle.wrp_node.specs.NodeAt.{NodeAt, NodeSetting, Taken}
use Rattle.wrp_node.specs.NodeRun.{node_after}
use Rattle.wrp_node.specs.StandsFor.{NodeOf, StandsFor as NodeStandsFor}
use Rattle.wrp_course.specs.Checks.{Check, breach_of}
use Rattle.wrp_course.specs.declared.event.Event.{Event}
use Rattle.wrp_course.specs.declared.node_out.NodeOut.{NodeOut}
use Rattle.wrp_course.specs.Given.{NodeStepAt, event_steps, world_step}
use Rattle.wrp_course.specs.Laws.{AcceptedIsUnbroken}
use Rattle.wrp_course.specs.Setting.{Setting, node_setting_of}
use Rattle.wrp_course.specs.WorldAt.{WorldAt}
use Rattle.wrp_world.specs.declared.outcome.Refused.TheVariants.{Broken}
use Rattle.wrp_world.specs.StandsFor.{StandsFor, WorldOf}
use Rattle.wrp_world.specs.Step.{IsRefusal, Stepped, step_seen}
use Rattle.wrp_loop.specs.LoopStands.{CanHappen, Happens}
use Rattle.wrp_loop.specs.LoopText.{marked_line, step_lines}
use Rattle.wrp_loop.proofs.Growing.{concat_flat, concat_map}

-- what holds in any case holds if it went well
pub in_any_case : {T E : Type 0} (P : Type 0) (r : Result T E) → P → OnOk r P
in_any_case P (Ok value) holds = holds
in_any_case P (Err error) holds = tt

-- what holds in any case holds if it went wrong
pub in_any_fault : {T E : Type 0} (P : Type 0) (r : Result T E) → P → OnErr r P
in_any_fault P (Ok value) holds = tt
in_any_fault P (Err error) holds = holds

-- an event that keeps all premises breaks none
pub none_broken : {F : Type 0} {post : F → ℤ → ℤ → Type 0} → AcceptedIsUnbroken → (world : WorldOf F) (e : Event) (premise : ℕ) (shown bound : ℤ) → CanHappen post world e → IsRefusal post e world (Broken premise shown bound) → ⊥
none_broken unbroken world e premise shown bound can refusal =
    let kept = (unbroken can.setting can.state refusal.0 e).0 (can.accepted refusal.0 refusal.1) in
    let told = refusal.2 can.setting can.state can.stands in
    let both = sym (ap (λ (o : Option Check). option_map breach_of o) kept) ∙ told in
    absurd (cc)

-- its lines
pub happens_so : {F : Type 0} (post : F → ℤ → ℤ → Type 0) (e : Event) (old new : WorldOf F) (outs : List NodeOut) (before mid text : List ℕ) → mid ≡ before ++ marked_line old.plant.net.cfg e → Stepped post e old new outs →
    ((s : Setting) (w : WorldAt) → StandsFor post s w new → text ≡ mid ++ flat_map (λ step. concat (step_lines s w step)) (map step_seen outs)) → Happens post e old new before text
happens_so post e old new outs before mid text marked stepped wrote =
    let says = stepped.0 in
    let answer : ℤ = stepped.1 in
    record {
      says = says;
      answer = answer;
      said = stepped.2.said;
      stands = stepped.2.stands;
      wrote = λ s w stands.
          let v : WorldAt = world_step s says answer w e in
          let lines : List NodeStepAt → List ℕ = λ steps. flat_map (λ step. concat (step_lines s v step)) steps in
          wrote s v (stepped.2.stands s w stands)
          ∙ (ap₂ (λ (m : List ℕ) (steps : List NodeStepAt). m ++ lines steps) marked (stepped.2.seen s w stands)
          ∙ (append_assoc before (marked_line old.plant.net.cfg e) (lines (event_steps s says answer w e))
          ∙ (ap (λ (cfg : NetCfg). before ++ (marked_line cfg e ++ lines (event_steps s says answer w e))) stands.plant.cfg
          ∙ ap (λ (rest : List ℕ). before ++ (marked_line s.cfg e ++ rest)) (sym (concat_flat (step_lines s v) (event_steps s says answer w e))))));
    }

-- the lines of a step
ticked : {F : Type 0} {post : F → ℤ → ℤ → Type 0} (fixed : NodeSetting) (node : NodeOf F) (ticks : ℕ) (inputs : List Taken) →
    ((fixed : NodeSetting) (inputs : List Taken) → NodeStandsFor post fixed node inputs → ticks ≡ (node_after fixed inputs).ticks) → NodeStandsFor post fixed node inputs → ticks ≡ (node_after fixed inputs).ticks
ticked fixed node ticks inputs told stands = told fixed inputs stands

pub step_text : {F : Type 0} (post : F → ℤ → ℤ → Type 0) (s : Setting) (w : WorldAt) (world : WorldOf F) (out : NodeOut) (node : NodeOf F) (ticks : ℕ) (off : ℤ) (cfg : NetCfg) (lent : List Output) (text old : List ℕ) → StandsFor post s w world →
    slice_get world.nodes out.node ≡ Some node → ((fixed : NodeSetting) (inputs : List Taken) → NodeStandsFor post fixed node inputs → ticks ≡ (node_after fixed inputs).ticks) → off ≡ (w.clock out.node).off → cfg ≡ world.plant.net.cfg →
    lent ≡ out.outs.items → text ≡ old ++ flat_map (λ o. output_line cfg out.node ticks o (Some off)) lent → text ≡ old ++ concat (step_lines s w (step_seen out))
step_text post s w world out node ticks off cfg lent text old stands is told offs same lends wrote =
    let ticks_are : ticks ≡ (w.node out.node).ticks =
    ticked {post = post} (node_setting_of s out.node) node ticks (w.inputs out.node) told (stands.nodes out.node node is).stands ∙ ap (λ (n : NodeAt). n.ticks) (sym (stands.nodes out.node node is).at) in
    let cfg_is : cfg ≡ s.cfg = same ∙ stands.plant.cfg in
    wrote ∙ ((λ i. old ++ flat_map (λ o. output_line (cfg_is i) out.node (ticks_are i) o (Some (offs i))) (lends i))
    ∙ ap (λ (rest : List ℕ). old ++ rest) (sym (concat_map (λ o. output_line s.cfg out.node (w.node out.node).ticks o (Some (w.clock out.node).off)) out.outs.items)))

-- what follows from what holds if it went well
pub on_ok : {T E : Type 0} (P : Type 0) (Q : T → Type 0) (r : Result T E) → IfOk r Q → ((x : T) → Q x → P) → OnOk r P
on_ok P Q (Ok value) holds then_holds = then_holds value holds
on_ok P Q (Err error) holds then_holds = tt
