-- What becomes of it is what is done.
use Rattle.std.proofs.Common.{refl, subst, ℕ, List}
use Rattle.wrp_loop.specs.declared.fate.Fate.TheVariants.{Handed, Forged, Noisy}
use Rattle.wrp_loop.specs.Datagrams.{IsFate}
use Rattle.wrp_loop.specs.LoopRun.{events_at}
use Rattle.wrp_loop.proofs.Fates.{by_delivery, by_noise, forged_one}
use Rattle.wrp_loop.proofs.datagrams.handle.Goals as goal

pub deliver-requires-clause-can : goal.deliver-requires-clause-can
deliver-requires-clause-can g c =
    let k = c.requires.carried in
    let fate : IsFate k.0.setting (events_at k.1) k.2 c.args.frame.now.items (Handed c.in-Handed.number) =
    subst (λ (octets : List ℕ). IsFate k.0.setting (events_at k.1) k.2 octets (Handed c.in-Handed.number)) c.deref.ensures.0 (c.in-Handed.ensures k.0 k.1 k.2 k.3) in
    (k.0, k.1, k.2, c.args.frame.now.items, k.3, fate.such)

pub returns-in-Handed-clause-handled : goal.returns-in-Handed-clause-handled
returns-in-Handed-clause-handled g c =
    by_delivery _ c.args.network.now c.deliver.new.network c.args.course.now c.deliver.new.course c.args.route c.args.frame.now c.in-Handed.number c.args.text.now.items c.deliver.new.text.items c.deliver.result
    c.deliver.ensures.came
    (λ x l way k. subst (λ (octets : List ℕ). IsFate x.setting (events_at l) way octets (Handed c.in-Handed.number)) c.deref.ensures.0 (c.in-Handed.ensures x l way k))

pub returns-in-Forged-clause-handled : goal.returns-in-Forged-clause-handled
returns-in-Forged-clause-handled g c = λ x l way k.
    forged_one _ x c.args.network.now c.args.course.now _ l way c.args.route c.args.frame.now c.args.text.now.items k
    (subst (λ (octets : List ℕ). IsFate x.setting (events_at l) way octets Forged) c.deref.ensures.0 (c.in-Forged.ensures x l way k)) refl refl refl refl

pub sound-requires-clause-can : goal.sound-requires-clause-can
sound-requires-clause-can g c =
    let k = c.requires.carried in
    let fate : IsFate k.0.setting (events_at k.1) k.2 c.args.frame.now.items Noisy =
    subst (λ (octets : List ℕ). IsFate k.0.setting (events_at k.1) k.2 octets Noisy) c.deref.ensures.0 (c.in-Noisy.ensures k.0 k.1 k.2 k.3) in
    (k.0, k.1, k.2, k.3, fate.1)

pub returns-in-Noisy-clause-handled : goal.returns-in-Noisy-clause-handled
returns-in-Noisy-clause-handled g c =
    by_noise _ c.args.network.now c.sound.new.network c.args.course.now c.sound.new.course c.args.route c.args.frame.now c.args.text.now.items c.sound.new.text.items c.sound.result c.sound.ensures.came
    (λ x l way k. subst (λ (octets : List ℕ). IsFate x.setting (events_at l) way octets Noisy) c.deref.ensures.0 (c.in-Noisy.ensures x l way k))
