-- A frame on its fibre has a way and octets, and these go over the link.
use Rattle.std.proofs.Common.{◌≤◌, ℕ, ℤ, sym, subst, List, length, Option, None, Some}
use Rattle.std.specs.List.{AllByRecursion}
use Rattle.arrayvec.specs.ArrayVec.{ArrayVec}
use Rattle.wrp_io.specs.declared.link.LinkCall.{LinkCall}
use Rattle.wrp_course.specs.Runs.{IsNetwork}
use Rattle.wrp_course.specs.Setting.{Setting}
use Rattle.wrp_course.specs.Views.{octets_at}
use Rattle.wrp_course.specs.WorldAt.{FrameAt, WorldAt}
use Rattle.wrp_world.specs.StandsFor.{StandsFor, Tells, WorldOf}
use Rattle.wrp_loop.specs.declared.routes.Route.{Route}
use Rattle.wrp_loop.specs.Calls.{Grew, AreCutCalls, IsFrame, IsFrameCall, arrival_calls}
use Rattle.wrp_loop.specs.LoopStands.{CutOffBy, ExchangedBy, Flies, RoutesFrame, SomeFlies}
use Rattle.wrp_loop.proofs.Arrivals.{cut_off_so, exchanged_so}
use Rattle.wrp_loop.proofs.Ways.{octets_few, octets_fit, octets_there}

abbrev pub RoutesOf : {F : Type 0} → (F → ℤ → ℤ → Type 0) → WorldOf F → ℕ → Option Route → Type 0
RoutesOf post world number route = (s : Setting) (w : WorldAt) (f : FrameAt) → StandsFor post s w world → IsNetwork s → Flies w s number f → RoutesFrame s f route

abbrev pub OctetsOf : {F : Type 0} → (F → ℤ → ℤ → Type 0) → WorldOf F → ℕ → Option (List ℕ) → Type 0
OctetsOf post world number octets = Tells post (λ s w. octets_at s w number) world octets

pub no_route : {F : Type 0} (post : F → ℤ → ℤ → Type 0) (world : WorldOf F) (number : ℕ) → SomeFlies post world number → RoutesOf post world number None → ⊥
no_route post world number h none = none h.0 h.1 h.2 h.3 h.4 h.5

pub no_octets : {F : Type 0} (post : F → ℤ → ℤ → Type 0) (world : WorldOf F) (number : ℕ) → SomeFlies post world number → OctetsOf post world number None → ⊥
no_octets post world number h none = octets_there h.0 h.1 number h.2 h.5 (none h.0 h.1 h.3)

pub few_octets : {F : Type 0} (post : F → ℤ → ℤ → Type 0) (world : WorldOf F) (number : ℕ) (octets : List ℕ) → SomeFlies post world number → OctetsOf post world number (Some octets) → length octets ≤ 256
few_octets post world number octets h told =
    subst (λ (o : List ℕ). length o ≤ 256) (sym (octets_fit h.0 h.1 number h.2 octets h.5 (told h.0 h.1 h.3))) (octets_few h.2.sending.message)

pub exchanged_by : {F : Type 0} (post : F → ℤ → ℤ → Type 0) (world : WorldOf F) (number : ℕ) (route : Route) (octets : List ℕ) (got : List (ArrayVec ℕ)) (before told : Option (List LinkCall)) → RoutesOf post world number (Some route) → OctetsOf post world number (Some octets) →
    Grew before told (arrival_calls route.from route.to octets got) → AllByRecursion IsFrame got → ExchangedBy post world number route got before told
exchanged_by post world number route octets got before told routes octets_are adds frames = λ s w f stands net flies.
    exchanged_so s f route octets got before told (routes s w f stands net flies) (octets_fit s w number f octets flies (octets_are s w stands)) adds frames

pub cut_off_by : {F : Type 0} (post : F → ℤ → ℤ → Type 0) (world : WorldOf F) (number : ℕ) (route : Route) (octets : List ℕ) (before told : Option (List LinkCall)) → RoutesOf post world number (Some route) → OctetsOf post world number (Some octets) →
    (calls : List LinkCall) × Grew before told calls × AreCutCalls route.from route.to octets calls × AllByRecursion IsFrameCall calls → CutOffBy post world number before told
cut_off_by post world number route octets before told routes octets_are cut = λ s w f stands net flies.
    cut_off_so s f route octets before told (routes s w f stands net flies) (octets_fit s w number f octets flies (octets_are s w stands)) cut
