use Rattle.std.proofs.Common.{inr, ◌∙◌, ap, subst, List, ℕ, ◌++◌}
use Rattle.wrp_records.specs.declared.status.Status.TheVariants.{BadCapture}
use Rattle.wrp_records.specs.Engine.{Finishes}
use Rattle.wrp_pcap.specs.Inspected.{bad_capture_line}
use Rattle.wrp_pcap.proofs.inspecting.refuse_header.Goals as goal

pub returns-in-Ok-clause-how : goal.returns-in-Ok-clause-how
returns-in-Ok-clause-how g c =
    let line = bad_capture_line (record { packet = 0; fault = c.args.fault }) in
    inr (subst (λ (t : List ℕ). Finishes BadCapture c.finish.result (g.K.Sink.held c.args.sink.now) (g.K.Sink.held c.finish.new.sink) t)
    (c.deref.ensures.value ∙ c.in-Ok.ensures.ok ∙ ap (λ l. l ++ line) c.new-line.ensures.items) c.finish.ensures.how)
