-- What follows the rules takes turns with its world, and each event that it gives is accepted.
use Rattle.std.proofs.Common.{◌≡◌, refl, ap, sym, subst, ℕ, ℤ, List, ◌∷◌, Option, None, Some, Result, Err}
use Rattle.wrp_network.specs.declared.configuration.NetCfg.{NetCfg}
use Rattle.wrp_base.specs.declared.message.PtpMsg.{PtpMsg}
use Rattle.wrp_frame.specs.declared.fault.FrameFault.{FrameFault}
use Rattle.wrp_frame.specs.declared.fault.FrameFault.TheVariants.{Short}
use Rattle.wrp_course.specs.declared.event.Event.{Event}
use Rattle.wrp_course.specs.EventAt.{IsEventOf}
use Rattle.wrp_course.specs.Premises.{Accepts}
use Rattle.wrp_course.specs.Run.{world_after}
use Rattle.wrp_course.specs.Setting.{Setting}
use Rattle.wrp_world.specs.StandsFor.{WorldOf}
use Rattle.wrp_course.specs.WorldAt.{WorldAt}
use Rattle.wrp_sim.specs.declared.sim.state.State.{State}
use Rattle.wrp_sim.specs.Keeps.{Comes, EventsAreAccepted, IsDriven, LeftOut, Silent, Turn, events_of}
use Rattle.wrp_sim.specs.Rules.{Next, rest_of}
use Rattle.wrp_scene.specs.Scenario.{IsSceneOf}
use Rattle.wrp_sim.specs.Sim.{FitsSim, FollowsRules, Gave, GaveNext, StaysFit}
use Rattle.wrp_sim.specs.SimAt.{SimAt}
use Rattle.wrp_sim.specs.SimRun.{Gives, GivesEvent}
use Rattle.wrp_sim.specs.TakesTurns.{GivesTurn, TakesTurns}

taken : (s : Setting) (seed : ℕ) (turns : List Turn) (w : WorldAt) (at : SimAt) (old new : State) (next : Option Next) (event : Option Event) → w ≡ world_after s (events_of turns) → new.scene ≡ old.scene → IsDriven old.scene s seed turns at →
    Gives old.scene s w at next → Gave (rest_of s w at) next event new → ((e : Event) (after : SimAt) → GivesEvent old.scene s w at e after → IsEventOf s.cfg e × ((says : Result PtpMsg FrameFault) → Accepts s w says e)) →
    GivesTurn s seed turns new event
taken s seed turns w at old new None None is same driven gives gave accepted = (
  rest_of s w at,
  record {
    is = gave;
    driven = subst (λ x. IsDriven x s seed (Silent ∷ turns) (rest_of s w at)) (sym same)
        (at, driven, subst (λ v. Gives old.scene s v at None) is gives, ap (λ v. rest_of s v at) is);
  },
)
taken s seed turns w at old new (Some next) (Some e) is same driven gives gave accepted =
    let given : GivesEvent old.scene s w at e next.at = subst (λ x. GivesEvent old.scene s w at x next.at) (sym gave.0) gives in
    let there : GivesEvent old.scene s (world_after s (events_of turns)) at e next.at = subst (λ v. GivesEvent old.scene s v at e next.at) is given in
    let it : IsEventOf s.cfg e × ((says : Result PtpMsg FrameFault) → Accepts s w says e) = accepted e next.at given in
    record {
      event = it.0;
      accepted = λ says. subst (λ v. Accepts s v says e) is (it.1 says);
      at = next.at;
      comes = λ says answer. record {
        is = gave.1;
        driven = subst (λ x. IsDriven x s seed (Comes (record { event = e; says = says; answer = answer }) ∷ turns) next.at) (sym same) (at, driven, there);
      };
      left_out = λ i e_is. record {
        is = gave.1;
        driven = subst (λ x. IsDriven x s seed (LeftOut i ∷ turns) next.at) (sym same)
            (at, driven, subst (λ x. GivesEvent old.scene s (world_after s (events_of turns)) at x next.at) e_is there);
      };
    }
taken s seed turns w at old new None (Some e) is same driven gives gave accepted = absurd gave
taken s seed turns w at old new (Some next) None is same driven gives gave accepted = absurd gave

-- what follows the rules takes turns, and each event is accepted
pub takes_turns : {F : Type 0} (post : F → ℤ → ℤ → Type 0) → EventsAreAccepted → (world : WorldOf F) (old new : State) (event : Option Event) → FitsSim world.plant.net.cfg old → StaysFit world.plant.net.cfg old new →
    FollowsRules post world old new event → TakesTurns post world old new event
takes_turns post law world old new event fits stays follows s seed turns at d =
    let w : WorldAt = world_after s (events_of turns) in
    let it : GaveNext s w at old new event = follows s w at d.stands d.is in
    let scene : IsSceneOf s.cfg old.scene = subst (λ (cfg : NetCfg). IsSceneOf cfg old.scene) d.stands.plant.cfg fits.scene in
    taken s seed turns w at old new it.next event refl stays.scene d.driven it.gives it.gave
    (λ e after g. ((law old.scene s seed turns at after e (Err Short) d.network scene d.driven g).0, λ says. (law old.scene s seed turns at after e says d.network scene d.driven g).1))
