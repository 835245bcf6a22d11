-- The message reaches the port, and a measurement that it makes the servo.
use Rattle.std.proofs.Common.{◌≡◌, ◌∙◌, refl, ap, subst, pos, Option, None, Some}
use Rattle.wrp_base.specs.declared.measurement.Four.{Four}
use Rattle.wrp_node.specs.Parts.{is_among, HearsAt}
use Rattle.wrp_node.proofs.Nodes.{inside_in, message_some, message_none}
use Rattle.wrp_node.proofs.node.Node.message.Goals as goal

none_is : (o : Option Four) → ((x : Four) → o ≡ Some x → ⊥) → o ≡ None
none_is None h = refl
none_is (Some x) h = absurd (h x refl)

pub returns-in-Some-clause-takes : goal.returns-in-Some-clause-takes
returns-in-Some-clause-takes g c = (
  c.measured-out.ensures.calls.0,
  λ fixed n h.
      let here = inside_in c.self.view_is h in
      message_some fixed n c.args.port c.args.message.now c.args.raw.now c.args.sample c.measured-out.ensures.calls.0 c.in-Some.four c.hear-four.new.self c.measured-out.result
      c.take_answer.new.self c.measured-out.new.self c.self.inside.report
      (subst (λ (o : Option Four). HearsAt fixed n c.args.port c.args.message.now c.args.raw.now c.args.sample c.hear-four.new.self o) c.in-Some.is
      (c.hear-four.ensures.hears fixed n here.parts (ap (λ v. is_among c.args.port v.parts.ports) c.self.view_is ∙ c.requires.port)))
      (c.measured-out.ensures.calls.1 fixed n.calls here.control) (λ s k call e m. c.take_answer.ensures fixed n s call k e m) here.report,
)

pub returns-in_default-clause-takes : goal.returns-in_default-clause-takes
returns-in_default-clause-takes g c = (
  pos 0,
  λ fixed n h.
      let here = inside_in c.self.view_is h in
      message_none fixed n c.args.port c.args.message.now c.args.raw.now c.args.sample (pos 0) c.hear-four.new.self c.self.inside.control c.self.inside.report
      (subst (λ (o : Option Four). HearsAt fixed n c.args.port c.args.message.now c.args.raw.now c.args.sample c.hear-four.new.self o) (none_is c.hear-four.result c.in_default.not-Some)
      (c.hear-four.ensures.hears fixed n here.parts (ap (λ v. is_among c.args.port v.parts.ports) c.self.view_is ∙ c.requires.port)))
      here.control here.report,
)
