-- The message reaches the port of its number, with the stamp of its reception there, and no other.
use Rattle.std.proofs.Common.{◌≡◌, ◌∙◌, refl, ap, sym, subst, List, slice_set, Option, Some, IfSome}
use Rattle.std.specs.List.{AllZip}
use Rattle.wrp_base.specs.declared.time.Stamp.{Stamp}
use Rattle.wrp_node.specs.declared.place.PortPlace.{PortPlace}
use Rattle.wrp_node.specs.declared.ports.To.TheVariants.{One}
use Rattle.wrp_node.specs.Index.{numbers_in, AreDifferent, IsWhere}
use Rattle.wrp_node.specs.Inputs.{stamp_in, measured_in}
use Rattle.wrp_node.specs.Place.{GivesTo, place_of}
use Rattle.wrp_node.proofs.Indexing.{Here, here, numbers_here, indexed_here, done_here, done_nowhere, place_here, place_nowhere, given_not, given_is}
use Rattle.wrp_node.proofs.ports.Ports.hear.Goals as goal
use Rattle.wrp_port.specs.declared.interface.PortIn.TheVariants.{Msg}
use Rattle.wrp_port.specs.PortAt.{IsStamp}

pub returns-in_err-at-clause-given : goal.returns-in_err-at-clause-given
returns-in_err-at-clause-given c =
    let input = Msg c.args.message.now (stamp_in c.args.clock c.args.raw.now c.args.sample (place_of c.args.number c.args.self.now)) c.args.tick in
    done_nowhere (GivesTo (One c.args.number) input) c.args.number c.args.self.now (given_not c.args.number input)
    (subst (IsWhere c.args.number (numbers_in c.args.self.now)) c.in_err-at.was c.at.ensures)

pub returns-in_err-at-clause-fits : goal.returns-in_err-at-clause-fits
returns-in_err-at-clause-fits c =
    subst (λ (o : Option PortPlace). IfSome o (λ place. IsStamp (stamp_in c.args.clock c.args.raw.now c.args.sample (Some place))))
    (sym (place_nowhere c.args.number c.args.self.now (subst (IsWhere c.args.number (numbers_in c.args.self.now)) c.in_err-at.was c.at.ensures))) tt

pub returns-in_err-at-clause-measured : goal.returns-in_err-at-clause-measured
returns-in_err-at-clause-measured c =
    c.from_residual.ensures
    ∙ sym (ap measured_in (place_nowhere c.args.number c.args.self.now (subst (IsWhere c.args.number (numbers_in c.args.self.now)) c.in_err-at.was c.at.ensures)))

pub invariant_of-self : goal.invariant_of-self
invariant_of-self c =
    let h : Here c.args.number c.self.inside.places.items c.from-at.result c.index_mut.result.now =
    here c.args.number c.in_ok-at.field-0 c.from-at.result c.self.inside.places.items c.args.self.now c.index_mut.result.now (ap numbers_in c.self.view_is) c.from-at.ensures
    (subst (IsWhere c.args.number (numbers_in c.args.self.now)) c.in_ok-at.was c.at.ensures) c.index_mut.ensures.value in
    indexed_here c.args.number c.from-at.result c.self.inside.places.items c.index_mut.result.now c.hear.new.self c.self.inside.index h c.hear.ensures.number c.self.invariant

pub returns-clause-given : goal.returns-clause-given
returns-clause-given c =
    let at = subst (IsWhere c.args.number (numbers_in c.args.self.now)) c.in_ok-at.was c.at.ensures in
    let numbers = ap numbers_in c.self.view_is in
    let h : Here c.args.number c.self.inside.places.items c.from-at.result c.index_mut.result.now =
    here c.args.number c.in_ok-at.field-0 c.from-at.result c.self.inside.places.items c.args.self.now c.index_mut.result.now numbers c.from-at.ensures at c.index_mut.ensures.value in
    let read : Here c.args.number c.self.inside.places.items c.from-at.result c.index.result.now =
    here c.args.number c.in_ok-at.field-0 c.from-at.result c.self.inside.places.items c.args.self.now c.index.result.now numbers c.from-at.ensures at c.index.ensures in
    let found = place_here c.args.number c.from-at.result c.self.inside.places.items c.args.self.now c.index.result.now c.self.view_is read c.self.invariant.different in
    let stamp = c.stamp-stamp.ensures.value ∙ ap (stamp_in c.args.clock c.args.raw.now c.args.sample) (sym found) in
    let input = Msg c.args.message.now c.stamp-stamp.result c.args.tick in
    subst (λ (t : Stamp). AllZip (GivesTo (One c.args.number) (Msg c.args.message.now t c.args.tick)) c.args.self.now (slice_set c.self.inside.places.items c.from-at.result c.hear.new.self)) stamp
    (done_here (GivesTo (One c.args.number) input) c.args.number c.from-at.result c.self.inside.places.items c.args.self.now c.index_mut.result.now c.hear.new.self
    (given_not c.args.number input) c.self.view_is h c.self.invariant.different (given_is c.args.number input c.index_mut.result.now c.hear.new.self h.number c.hear.ensures))

pub returns-clause-fits : goal.returns-clause-fits
returns-clause-fits c =
    let at = subst (IsWhere c.args.number (numbers_in c.args.self.now)) c.in_ok-at.was c.at.ensures in
    let read : Here c.args.number c.self.inside.places.items c.from-at.result c.index.result.now =
    here c.args.number c.in_ok-at.field-0 c.from-at.result c.self.inside.places.items c.args.self.now c.index.result.now (ap numbers_in c.self.view_is) c.from-at.ensures at c.index.ensures in
    let found = place_here c.args.number c.from-at.result c.self.inside.places.items c.args.self.now c.index.result.now c.self.view_is read c.self.invariant.different in
    subst (λ (o : Option PortPlace). IfSome o (λ place. IsStamp (stamp_in c.args.clock c.args.raw.now c.args.sample (Some place)))) (sym found)
    (subst IsStamp c.stamp-stamp.ensures.value c.stamp-stamp.ensures.fits)

pub returns-clause-measured : goal.returns-clause-measured
returns-clause-measured c =
    let at = subst (IsWhere c.args.number (numbers_in c.args.self.now)) c.in_ok-at.was c.at.ensures in
    let h : Here c.args.number c.self.inside.places.items c.from-at.result c.index_mut.result.now =
    here c.args.number c.in_ok-at.field-0 c.from-at.result c.self.inside.places.items c.args.self.now c.index_mut.result.now (ap numbers_in c.self.view_is) c.from-at.ensures at c.index_mut.ensures.value in
    let after : List PortPlace = slice_set c.self.inside.places.items c.from-at.result c.hear.new.self in
    let same : numbers_in after ≡ numbers_in c.self.inside.places.items =
    numbers_here c.args.number c.from-at.result c.self.inside.places.items c.index_mut.result.now c.hear.new.self h c.hear.ensures.number in
    let read : Here c.args.number after c.from-at.result c.index-2.result.now =
    here c.args.number c.in_ok-at.field-0 c.from-at.result after c.args.self.now c.index-2.result.now (same ∙ ap numbers_in c.self.view_is) c.from-at.ensures at c.index-2.ensures in
    sym (ap measured_in (place_here c.args.number c.from-at.result after after c.index-2.result.now refl read (subst AreDifferent (sym same) c.self.invariant.different)))
