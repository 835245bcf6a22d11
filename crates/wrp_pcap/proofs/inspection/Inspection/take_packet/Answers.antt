use Rattle.std.proofs.Common.{◌++◌, refl, sym, ap, ◌∙◌, subst}
use Rattle.wrp_pcap.specs.declared.counts.Counts.{Counts}
use Rattle.wrp_pcap.specs.InspectionAt.{AreCounts}
use Rattle.wrp_pcap.proofs.TakingPackets.{taken_more, told_next, written_next}
use Rattle.wrp_pcap.proofs.inspection.Inspection.take_packet.Goals as goal

pub returns-in-Ok-clause-taken : goal.returns-in-Ok-clause-taken
returns-in-Ok-clause-taken c done =
    let counts = c.args.self.now.counts in
    let content = c.content_of-content.result in
    let told = c.told-told.result in
    record {
      content = content;
      has = c.content_of-content.ensures;
      stands = λ before taken.
          let kept = subst (λ (n : Counts). AreCounts n before) (sym c.in-Ok.ensures.counts) taken.counts in
          let are = c.with-self.ensures.counts before kept (told_next counts before content told taken.counts (c.told-told.ensures before taken)) in
          let more = taken_more c.args.self.now _ _ _ before content refl taken (c.in-Ok.ensures.ok refl) are in
          record { stands = more.0; counts = more.1 };
      written = λ before taken.
          let lines = c.in_ok-extend_from_slice.ensures.items ∙ ap (λ l. c.args.text.now.items ++ l) c.deref.ensures.value in
          written_next counts before content told _ _ _ _ taken.counts (c.told-told.ensures before taken) c.clear.ensures.items c.in_ok-append_content.ensures lines;
    }
