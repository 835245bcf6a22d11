use Rattle.std.proofs.Common.{◌∙◌, ap, ℕ, List, sym, slice_get, subst}
use Rattle.wrp_frame.specs.Grammar.{Spells}
use Rattle.wrp_plant.specs.declared.ends.PutOut.{PutOut}
use Rattle.wrp_changes.proofs.FrameGifts.{first_sent, none_sent}
use Rattle.wrp_changes.proofs.giving.frames.oldest_sending.Goals as goal

pub returns-in-Some-clause-is : goal.returns-in-Some-clause-is
returns-in-Some-clause-is c at h =
    first_sent c.args.port c.args.stamp at.waiting c.args.end.now.waiting.items c.in-Some.oldest.now c.sending_of.result h.waiting
    (ap (λ (xs : List PutOut). slice_get xs 0) (sym c.deref.ensures.value) ∙ sym c.in-Some.ensures.value)
    (λ m spells. c.sending_of.ensures.is m (subst (λ (octets : List ℕ). Spells octets m) (sym c.deref-in-Some.ensures.0) spells))

pub returns-in-None-clause-is : goal.returns-in-None-clause-is
returns-in-None-clause-is c at h =
    none_sent c.args.port c.args.stamp at.waiting c.args.end.now.waiting.items h.waiting
    (ap (λ (xs : List PutOut). slice_get xs 0) (sym c.deref.ensures.value) ∙ sym c.in-None.ensures.value)
