-- What became of the event that a place holds.
use Rattle.std.proofs.Common.{◌≡◌, subst, ℕ, ℤ, Option, List, flat_map, map}
use Rattle.wrp_course.specs.declared.event.Event.{Event}
use Rattle.wrp_course.specs.declared.node_out.NodeOut.{NodeOut}
use Rattle.wrp_course.specs.Setting.{Setting}
use Rattle.wrp_course.specs.WorldAt.{WorldAt}
use Rattle.wrp_trace.specs.Events.{bare}
use Rattle.wrp_world.specs.StandsFor.{StandsFor, WorldOf}
use Rattle.wrp_world.specs.Step.{Stepped, step_seen}
use Rattle.wrp_audit.specs.AuditStands.{Took, line_by}
use Rattle.wrp_audit.proofs.AuditSteps.{took_of}

-- it was taken
pub took_at : {F : Type 0} (post : F → ℤ → ℤ → Type 0) (emit : Option ℕ) (s : Setting) (w : WorldAt) (e own : Event) (old new : WorldOf F) (outs : List NodeOut)
    (text : List ℕ)
    → own ≡ e → StandsFor post s w old → Stepped post own old new outs
    → ((v : WorldAt) → StandsFor post s v new → text ≡ flat_map (line_by emit s v) (map step_seen outs)) → Took post emit s w (bare e) new text
took_at post emit s w e own old new outs text is stood stepped wrote =
    subst (λ (x : Event). Took post emit s w (bare x) new text) is (took_of post emit s w own old new outs text stood stepped wrote)
