-- Each input that a node was given in a run has a line that reads back.
use Rattle.std.proofs.Common.{◌≡◌, refl, sym, subst, ℕ, ℤ, ◌==◌, Bool, true, false, if◌then◌else◌, List, [], ◌∷◌, arith}
use Rattle.std.specs.List.{AllByRecursion}
use Rattle.std.proofs.lemmas.Bool.{eqb-true}
use Rattle.wrp_config.specs.Accepted.{IsSoundDatabase}
use Rattle.wrp_config.specs.Laws.{PortIsOfOneLink}
use Rattle.wrp_node.specs.declared.interface.Input.{Input}
use Rattle.wrp_node.specs.NodeAt.{Taken}
use Rattle.wrp_trace.specs.LineSetting.{LineSetting, line_setting_in}
use Rattle.wrp_trace.proofs.ReadsBack.{reads_back}
use Rattle.wrp_course.specs.Given.{Given, given_by, gives, gives_all, taken_of}
use Rattle.wrp_course.specs.Moved.{moved}
use Rattle.wrp_course.specs.Run.{Happened, world_after}
use Rattle.wrp_course.specs.Setting.{Setting}
use Rattle.wrp_course.specs.WorldAt.{WorldAt}
use Rattle.wrp_recorded_laws.specs.Ranges.{IsRanged}
use Rattle.wrp_recorded_laws.specs.Recorded.{InputsAreRecorded, IsRecorded, IsSaidRun}
use Rattle.wrp_recorded_laws.proofs.EventRanges.{event_ranged}
use Rattle.wrp_recorded_laws.proofs.Gifts.{Fits, GiftsFit, gifts_fit}
use Rattle.wrp_recorded_laws.proofs.Kept.{counted_after, kept_after}
use Rattle.wrp_recorded_laws.proofs.LineSizes.{line_size}

fit_recorded : (site : LineSetting) (x : Input) → IsSoundDatabase site.db → Fits site x → IsRecorded site x
fit_recorded site x sound fits = record { reads = reads_back site x sound fits.may fits.types; size = line_size site x sound fits.may fits.types }

abbrev AllRecorded : Setting → ℕ → List Taken → Type 0
AllRecorded s n taken = AllByRecursion (λ (t : Taken). IsRecorded (line_setting_in s n) t.input) taken

one_given : (s : Setting) (y : ℤ) (g : Given) (n : ℕ) (before : List Taken) (b : Bool) → (n == g.to) ≡ b → IsRecorded (line_setting_in s g.to) g.input → AllRecorded s n before
    → AllRecorded s n (if b then taken_of y g ∷ before else before)
one_given s y g n before true is recorded h = (subst (λ m. IsRecorded (line_setting_in s m) g.input) (sym (eqb-true n g.to is)) recorded, h)
one_given s y g n before false is recorded h = h

all_given : (s : Setting) (y : ℤ) (gs : List Given) (v : WorldAt) (n : ℕ) → IsSoundDatabase s.db → GiftsFit s gs → AllRecorded s n (v.inputs n) → AllRecorded s n ((gives_all s y v gs).inputs n)
all_given s y [] v n sound fit h = h
all_given s y (g ∷ gs) v n sound fit h =
    all_given s y gs (gives s y v g) n sound fit.1 (one_given s y g n (v.inputs n) (n == g.to) refl (fit_recorded (line_setting_in s g.to) g.input sound fit.0) h)

earlier : (s : Setting) (h : Happened) (before : List Happened) → IsSaidRun s (h ∷ before) → IsSaidRun s before
earlier s h before run = let few = run.few in record { network = run.network; said = run.said.1; accepted = run.accepted.1; few = omega (arith, few) }

pub recorded : PortIsOfOneLink → InputsAreRecorded
recorded ports s [] n run = tt
recorded ports s (h ∷ before) n run =
    let w : WorldAt = world_after s before in
    let ranged : IsRanged h.event = event_ranged s.cfg run.said.0.0 h.event run.said.0.1 in
    let count = counted_after s before in
    let few = run.few in
    let fit : GiftsFit s (given_by s w (moved s w h.event) h.says h.event) =
    gifts_fit ports s run.network w h.says h.event ranged run.accepted.0 (kept_after s before run.said.1) (omega (arith, count, few)) in
    all_given s h.answer (given_by s w (moved s w h.event) h.says h.event) (moved s w h.event) n run.network.database fit (recorded ports s before n (earlier s h before run))
