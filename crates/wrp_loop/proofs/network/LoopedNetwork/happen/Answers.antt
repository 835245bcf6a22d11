-- The event breaks no premise, and its lines are appended.
use Rattle.std.proofs.Common.{◌∙◌, ◌++◌, ap, subst}
use Rattle.wrp_config.specs.declared.network.Network.{Network}
use Rattle.wrp_world.specs.Step.{IsRefusal}
use Rattle.wrp_loop.specs.LoopText.{marked_line}
use Rattle.wrp_loop.proofs.Happening.{happens_so, in_any_case, none_broken, on_ok}
use Rattle.wrp_loop.proofs.network.LoopedNetwork.happen.Goals as goal

pub unreachable-requires : goal.unreachable-requires
unreachable-requires g c =
    none_broken c.accepted_is_unbroken.ensures c.args.self.now.world c.args.event.now _ _ _ c.requires.accepted
    (subst (IsRefusal _ c.args.event.now c.args.self.now.world) c.in-Err-Broken.field-0-is c.in-Err-Broken.ensures.refusal)

pub returns-in-Ok-clause-counted : goal.returns-in-Ok-clause-counted
returns-in-Ok-clause-counted g c = in_any_case _ c.write.result c.in-Ok.ensures.counted

pub returns-in-Ok-clause-happens : goal.returns-in-Ok-clause-happens
returns-in-Ok-clause-happens g c =
    on_ok _ _ c.write.result c.write.ensures
    (λ x wrote.
    happens_so _ c.args.event.now c.args.self.now.world _ _ c.args.text.now.items c.append_event.new.text.items c.write.new.text.items
    (c.in_ok-append_event.ensures ∙ ap (λ (net : Network). c.args.text.now.items ++ marked_line net.cfg c.args.event.now) c.net.ensures)
    c.in-Ok.ensures.steps wrote)
