-- Parts of a run: its older events are a run, and what held at each event of a part.
use Rattle.std.proofs.Common.{◌≡◌, refl, ap, ◌∙◌, ℕ, ◌+◌, ℤ, List, [], ◌∷◌, ◌++◌, length, arith, ◌≤◌}
use Rattle.wrp_network.specs.declared.configuration.NetCfg.{NetCfg}
use Rattle.wrp_course.specs.Given.{Given, given_by, gives, gives_all}
use Rattle.wrp_course.specs.Moved.{moved}
use Rattle.wrp_course.specs.Run.{AllAccepted, Happened, world_after}
use Rattle.wrp_course.specs.Runs.{AllEvents, IsRun}
use Rattle.wrp_course.specs.Setting.{Setting}
use Rattle.wrp_course.specs.WorldAt.{WorldAt}
use Rattle.wrp_bound_laws.specs.Moments.{AtEach}

-- The older events

older_events : (cfg : NetCfg) (newer older : List Happened) → AllEvents cfg (newer ++ older) → AllEvents cfg older
older_events cfg [] older h = h
older_events cfg (x ∷ newer) older h = older_events cfg newer older h.1

older_accepted : (s : Setting) (newer older : List Happened) → AllAccepted s (newer ++ older) → AllAccepted s older
older_accepted s [] older h = h
older_accepted s (x ∷ newer) older h = older_accepted s newer older h.1

pub older_run : (s : Setting) (newer older : List Happened) → IsRun s (newer ++ older) → IsRun s older
older_run s newer older run =
    record { network = run.network; each = older_events s.cfg newer older run.each; accepted = older_accepted s newer older run.accepted }

pub run_before : (s : Setting) (h : Happened) (before : List Happened) → IsRun s (h ∷ before) → IsRun s before
run_before s h before run = record { network = run.network; each = run.each.1; accepted = run.accepted.1 }

pub rest_length : (a b : List Happened) → length b ≤ length (a ++ b)
rest_length [] b = omega arith
rest_length (x ∷ a) b = let h : length b ≤ length (a ++ b) = rest_length a b in omega (arith, h)

pub one_list : (xs : List Happened) (x : Happened) (ys : List Happened) → xs ++ x ∷ ys ≡ (xs ++ x ∷ []) ++ ys
one_list [] x ys = refl
one_list (y ∷ xs) x ys = ap (λ l. y ∷ l) (one_list xs x ys)

pub no_more : (xs : List Happened) → xs ≡ xs ++ []
no_more [] = refl
no_more (x ∷ xs) = ap (λ l. x ∷ l) (no_more xs)

-- What held at each

pub at_newest : (P : List Happened → Type 0) (newer older : List Happened) → AtEach P newer older → P (newer ++ older)
at_newest P [] older h = h
at_newest P (x ∷ newer) older h = h.0

pub at_rest : (P : List Happened → Type 0) (a b older : List Happened) → AtEach P (a ++ b) older → AtEach P b older
at_rest P [] b older h = h
at_rest P (x ∷ a) b older h = at_rest P a b older h.1

pub at_each : (P : List Happened → Type 0) (newer older : List Happened) → ((a b : List Happened) → newer ≡ a ++ b → P (b ++ older)) → AtEach P newer older
at_each P [] older f = f [] [] refl
at_each P (x ∷ newer) older f = (f [] (x ∷ newer) refl, at_each P newer older (λ a b e. f (x ∷ a) b (ap (λ l. x ∷ l) e)))

-- Events are counted

pub all_given_count : (s : Setting) (y : ℤ) (gs : List Given) (v : WorldAt) → (gives_all s y v gs).count ≡ v.count
all_given_count s y [] v = refl
all_given_count s y (g ∷ gs) v = all_given_count s y gs (gives s y v g)

one_more : (n m : ℕ) → n ≡ m → n + 1 ≡ m + 1
one_more n m e = ap (λ k. k + 1) e

counted : (xs : List Happened) (x : Happened) → length xs + 1 ≡ length (x ∷ xs)
counted xs x = omega arith

pub count_is : (s : Setting) (events : List Happened) → (world_after s events).count ≡ length events
count_is s [] = refl
count_is s (h ∷ before) =
    let w : WorldAt = world_after s before in
    all_given_count s h.answer (given_by s w (moved s w h.event) h.says h.event) (moved s w h.event) ∙ one_more w.count (length before) (count_is s before) ∙ counted before h
