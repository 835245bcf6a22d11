-- The event of a step continues a run, and what is true of each event of a run is true of it.
use Rattle.std.proofs.Common.{◌≡◌, ◌∙◌, inl, inr, refl, ap, sym, subst, ℕ, ◌<◌, ◌≤◌, ℤ, List, [], ◌∷◌, length, Option, None, Some, arith}
use Rattle.std.specs.Prelude.{option_and_then, slice_get}
use Rattle.std.proofs.lemmas.Option.{slice_get_cases, slice_get_within}
use Rattle.wrp_network.specs.declared.configuration.NetCfg.{NetCfg}
use Rattle.wrp_network.specs.Network.{node_count}
use Rattle.wrp_base.proofs.Lists.{length_map}
use Rattle.wrp_caldb.specs.Database.{Database}
use Rattle.wrp_config.specs.Accepted.{IsAccepted}
use Rattle.wrp_config.proofs.Lists.{IsMadeOf, made_of}
use Rattle.wrp_law.specs.Law.{LawOf}
use Rattle.wrp_node.specs.Control.{law_in}
use Rattle.wrp_node.specs.StandsFor.{NodeOf}
use Rattle.wrp_course.specs.declared.event.Event.{Event}
use Rattle.wrp_course.specs.declared.node_out.NodeOut.{NodeOut}
use Rattle.wrp_course.specs.EventAt.{FitsEvent, IsEventOf}
use Rattle.wrp_course.specs.Run.{Happened, world_after}
use Rattle.wrp_course.specs.Setting.{Setting}
use Rattle.wrp_course.specs.WorldAt.{new_world}
use Rattle.wrp_plant.specs.Plant.{Each}
use Rattle.wrp_bound_laws.specs.Bounds.{TrueRun}
use Rattle.wrp_world.specs.EventHolds.{LinksHoldInRuns, TracksHoldInRuns}
use Rattle.wrp_world.specs.HasLaws.{HasLaws}
use Rattle.wrp_world.specs.InRun.{InRun}
use Rattle.wrp_world.specs.InTrueRun.{HasFittingLaws, InTrueRun}
use Rattle.wrp_world.specs.New.{FitsLaw, setting_of}
use Rattle.wrp_world.specs.StandsFor.{StandsFor, WorldOf}
use Rattle.wrp_world.specs.Step.{MayCome, StaysSo, Stepped}
use Rattle.wrp_world.specs.StepHolds.{KeepsRuns, LinksGoOn, TruthGoesOn}
use Rattle.wrp_world.specs.Taking.{laws_of}
use Rattle.wrp_world.proofs.InRuns.{new_is_in_run, step_adds_to_run}
use Rattle.wrp_world.proofs.NearLaws.{answers_near}

-- The laws of a world

length_laws : {F : Type 0} (world : WorldOf F) → length (laws_of world) ≡ length world.nodes
length_laws {F} world = length_map (λ (m : NodeOf F). law_in m.control) world.nodes

-- they fit in each world with the same laws
pub laws_kept : {F : Type 0} (pre : F → ℤ → Type 0) (post : F → ℤ → ℤ → Type 0) (cfg : NetCfg) (old new : WorldOf F) →
    laws_of new ≡ laws_of old → HasFittingLaws pre post cfg old → HasFittingLaws pre post cfg new
laws_kept pre post cfg old new same fit = record {
  count = sym (length_laws new) ∙ (ap length same ∙ (length_laws old ∙ fit.count));
  each = subst (Each (FitsLaw pre post cfg)) (sym same) fit.each;
}

past_end : (a n : ℕ) → a ≤ n → n < a → ⊥
past_end a n past inside = omega (arith, past, inside)

inside_none : {A : Type 0} (xs : List A) (n : ℕ) → slice_get xs n ≡ None → n < length xs → ⊥
inside_none xs n none inside =
    elim (slice_get_cases xs n).1 [
      | inl found ↦ let there : slice_get xs n ≡ Some found.0 = found.2 in cc
      | inr past ↦ past_end (length xs) n past.0 inside
    ]

-- each law of a new world is the law that it was given
law_given : {F : Type 0} (pre : F → ℤ → Type 0) (post : F → ℤ → ℤ → Type 0) (cfg : NetCfg) (laws : List (Option (LawOf F))) (n : ℕ) (o : Option (Option (LawOf F))) →
    slice_get laws n ≡ o → Each (FitsLaw pre post cfg) laws → n < length laws → FitsLaw pre post cfg n (option_and_then (λ law. law) o)
law_given pre post cfg laws n None at fit inside = absurd (inside_none laws n at inside)
law_given pre post cfg laws n (Some law) at fit inside = fit n law at

new_laws : {F : Type 0} (pre : F → ℤ → Type 0) (post : F → ℤ → ℤ → Type 0) (cfg : NetCfg) (laws : List (Option (LawOf F))) (world : WorldOf F) →
    length world.nodes ≡ node_count cfg → length laws ≡ node_count cfg → HasLaws laws world → Each (FitsLaw pre post cfg) laws → HasFittingLaws pre post cfg world
new_laws {F} pre post cfg laws world count counted has fit = record {
  count = count;
  each = λ n law at.
      let it : IsMadeOf (λ (m : NodeOf F). law_in m.control) world.nodes n law = made_of (λ (m : NodeOf F). law_in m.control) world.nodes n law at in
      let inside : n < length laws = subst (λ (k : ℕ). n < k) (count ∙ sym counted) (slice_get_within world.nodes n it.x it.at) in
      subst (FitsLaw pre post cfg n) (sym (it.is ∙ has n it.x it.at)) (law_given pre post cfg laws n (slice_get laws n) refl fit inside);
}

-- a world before any event is in a run of no events
pub begins : {F : Type 0} (pre : F → ℤ → Type 0) (post : F → ℤ → ℤ → Type 0) (cfg : NetCfg) (db : Database) (laws : List (Option (LawOf F))) (world : WorldOf F) →
    IsAccepted cfg db → StandsFor post (setting_of cfg db laws) (new_world (setting_of cfg db laws)) world →
    length world.nodes ≡ node_count cfg → length laws ≡ node_count cfg → HasLaws laws world → Each (FitsLaw pre post cfg) laws →
    InTrueRun pre post (setting_of cfg db laws) [] world
begins pre post cfg db laws world accepted stands count counted has fit = record {
  run = new_is_in_run post cfg db laws world accepted stands;
  fit = tt;
  laws = new_laws pre post cfg laws world count counted has fit;
}

-- A step

-- what the laws of a run require of it
pub true_run : {F : Type 0} (pre : F → ℤ → Type 0) (post : F → ℤ → ℤ → Type 0) (s : Setting) (events : List Happened) (world : WorldOf F) → InTrueRun pre post s events world → TrueRun s events
true_run pre post s events world h = record {
  run = h.run.run;
  fit = h.fit;
  answered = answers_near pre post s (world_after s events) world h.run.run.network h.laws h.run.stands;
}

pub event_in : {F : Type 0} (post : F → ℤ → ℤ → Type 0) (s : Setting) (events : List Happened) (e : Event) (old : WorldOf F) → InRun post s events old → MayCome old e → IsEventOf s.cfg e
event_in post s events e old h may = subst (λ (cfg : NetCfg). IsEventOf cfg e) h.stands.plant.cfg may.event

pub links_go_on : {F : Type 0} (post : F → ℤ → ℤ → Type 0) (e : Event) (old new : WorldOf F) (outs : List NodeOut) →
    LinksHoldInRuns → MayCome old e → Stepped post e old new outs → LinksGoOn post e old new outs
links_go_on post e old new outs links may (says, answer, steps) s events h =
    let run : InRun post s (record { event = e; says = says; answer = answer } ∷ events) new =
    step_adds_to_run post s events e says answer old new outs h (event_in post s events e old h may) steps in
    record {
      says = says;
      answer = answer;
      said = steps.said;
      run = run;
      steps = steps.seen s (world_after s events) h.stands;
      links = links s (record { event = e; says = says; answer = answer }) events run.run;
    }

pub truth_goes_on : {F : Type 0} (pre : F → ℤ → Type 0) (post : F → ℤ → ℤ → Type 0) (e : Event) (old new : WorldOf F) (outs : List NodeOut) →
    LinksHoldInRuns → TracksHoldInRuns → MayCome old e → FitsEvent e → laws_of new ≡ laws_of old → Stepped post e old new outs → TruthGoesOn pre post e old new outs
truth_goes_on pre post e old new outs links tracks may fits same (says, answer, steps) s events h =
    let run : InRun post s (record { event = e; says = says; answer = answer } ∷ events) new =
    step_adds_to_run post s events e says answer old new outs h.run (event_in post s events e old h.run may) steps in
    let on : InTrueRun pre post s (record { event = e; says = says; answer = answer } ∷ events) new =
    record { run = run; fit = (fits, h.fit); laws = laws_kept pre post s.cfg old new same h.laws } in
    record {
      says = says;
      answer = answer;
      said = steps.said;
      run = on;
      steps = steps.seen s (world_after s events) h.run.stands;
      links = links s (record { event = e; says = says; answer = answer }) events run.run;
      tracks = tracks s (record { event = e; says = says; answer = answer }) events (true_run pre post s (record { event = e; says = says; answer = answer } ∷ events) new on);
    }

-- a refused event leaves the world in its runs
pub runs_kept : {F : Type 0} (pre : F → ℤ → Type 0) (post : F → ℤ → ℤ → Type 0) (old new : WorldOf F) → laws_of new ≡ laws_of old → StaysSo post old new → KeepsRuns pre post old new
runs_kept pre post old new same stays = record {
  run = λ s events h. record { run = h.run; stands = stays s (world_after s events) h.stands };
  true_run = λ s events h. record {
    run = record { run = h.run.run; stands = stays s (world_after s events) h.run.stands };
    fit = h.fit;
    laws = laws_kept pre post s.cfg old new same h.laws;
  };
}
