-- The message reaches its port, and no other.
use Rattle.std.proofs.Common.{◌≡◌, refl, ap₂, sym, subst, ℕ, pos, IfSome, Option, Some}
use Rattle.std.specs.List.{AllZip}
use Rattle.wrp_base.specs.declared.measurement.Four.{Four}
use Rattle.wrp_base.specs.declared.time.Clock.{Clock}
use Rattle.wrp_base.specs.declared.time.Stamp.{Stamp}
use Rattle.wrp_exch.specs.Exchange.{HasTimes}
use Rattle.wrp_node.specs.declared.place.PortPlace.{PortPlace}
use Rattle.wrp_node.specs.declared.ports.To.TheVariants.{One}
use Rattle.wrp_node.specs.Inputs.{stamp_in}
use Rattle.wrp_node.specs.NodeStep.{message_of, stamp_of}
use Rattle.wrp_node.specs.Parts.{HearsAt, PlaceIn}
use Rattle.wrp_node.specs.Place.{GivesTo, place_of}
use Rattle.wrp_node.specs.Telling.{step_from}
use Rattle.wrp_node.proofs.Finding.{Found, found, transition_told}
use Rattle.wrp_node.proofs.Hearing.{hears_at, times_here}
use Rattle.wrp_node.proofs.parts.Parts.hear.Goals as goal
use Rattle.wrp_port.specs.declared.interface.PortIn.{PortIn}
use Rattle.wrp_port.specs.declared.interface.PortIn.TheVariants.{Msg}
use Rattle.wrp_port.specs.PortAt.{IsFit, IsStamp}
use Rattle.wrp_stamp.specs.Merge.{merged}

pub returns-clause-hears : goal.returns-clause-hears
returns-clause-hears c fixed n h a =
    let raw = c.args.raw.now in
    let stamp : Stamp = stamp_in c.args.self.now.clock raw c.args.sample (place_of c.args.port c.args.self.now.ports) in
    let stamp_is : stamp ≡ stamp_of fixed n c.args.port raw c.args.sample =
    ap₂ (λ (k : Clock) (t : ℕ). record { value = pos (merged k raw t); sample = c.args.sample }) h.clock (transition_told fixed n (step_from n) c.args.self.now c.args.port h a) in
    let is : Msg c.args.message.now stamp c.args.self.now.ticks ≡ message_of fixed n c.args.port c.args.message.now raw c.args.sample =
    ap₂ (λ (t : Stamp) (k : ℕ). Msg c.args.message.now t k) stamp_is h.ticks in
    let there : Found (PlaceIn fixed n (step_from n)) c.args.port c.args.self.now.ports = found (PlaceIn fixed n (step_from n)) c.args.port c.args.self.now.ports h.places a in
    let in_range : IsStamp stamp =
    subst (λ (o : Option PortPlace). IsStamp (stamp_in c.args.self.now.clock raw c.args.sample o)) (sym there.is)
    (subst (λ (o : Option PortPlace). IfSome o (λ place. IsStamp (stamp_in c.args.self.now.clock raw c.args.sample (Some place)))) there.is c.hear.ensures.fits) in
    subst (λ (f : Option Four). HearsAt fixed n c.args.port c.args.message.now raw c.args.sample (record c.args.self.now { ports = c.hear.new.self }) f) (sym c.hear.ensures.measured)
    (hears_at fixed n c.args.port c.args.message.now raw c.args.sample c.args.self.now c.hear.new.self (subst IsFit is (c.requires.sound, in_range))
    (subst (λ (x : PortIn). AllZip (GivesTo (One c.args.port) x) c.args.self.now.ports c.hear.new.self) is c.hear.ensures.given) h a)

pub returns-clause-times : goal.returns-clause-times
returns-clause-times c =
    let stamp : Stamp = stamp_in c.args.self.now.clock c.args.raw.now c.args.sample (place_of c.args.port c.args.self.now.ports) in
    subst (λ (f : Option Four). IfSome f HasTimes) (sym c.hear.ensures.measured)
    (times_here c.args.port (Msg c.args.message.now stamp c.args.self.now.ticks) refl c.args.self.now.ports c.hear.new.self c.hear.ensures.given)
