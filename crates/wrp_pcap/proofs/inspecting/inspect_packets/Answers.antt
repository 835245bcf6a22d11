-- Each piece goes on, and each end is reported.
use Rattle.std.proofs.Common.{◌∙◌, true, false, ℕ, List, refl, sym, subst, arith}
use Rattle.wrp_records.specs.Engine.{Finishes}
use Rattle.wrp_records.specs.Taking.{AppendsPart}
use Rattle.wrp_pcap.specs.declared.taking.Stop.{Stop}
use Rattle.wrp_pcap.specs.InspectionAt.{packets_taken}
use Rattle.wrp_pcap.specs.Inspecting.{Stops, TellsBehind}
use Rattle.wrp_pcap.proofs.CaptureGoing.{goes_first, goes_on, goes_written, goes_refilled, goes_ended}
use Rattle.wrp_pcap.proofs.CaptureStands.{finished, unwritten, unread, no_memory, passes, is_sound, fails_last, never_read}
use Rattle.wrp_pcap.proofs.inspecting.inspect_packets.Goals as goal

pub pieces-init : goal.pieces-init
pieces-init g c = record {
  goes = λ start behind. goes_first _ start _ _ _ _ _ behind c.new-inspection.ensures.taken c.new-waiting.ensures.items;
  source = refl;
  sink = refl;
}

pub returns-then-not-is_more : goal.returns-then-not-is_more
returns-then-not-is_more g c = record {
  passes = λ start behind.
      let goes = goes_on _ start _ _ _ _ _ _ _ _ _ _ c.take_held-stop.ensures.stands (c.pieces.invariant.goes start behind) in
      let inspection = c.take_held-stop.new.inspection in
      let stops = subst (λ (n : ℕ). Stops c.args.order n c.take_held-stop.new.pieces c.take_held-stop.result) (sym c.packets.ensures) c.take_held-stop.ensures.stops in
      let tells = c.tell_stop-status.ensures.tells c.args.order c.take_held-stop.new.pieces goes.reached.contents (c.packets.ensures ∙ goes.reached.has.counts.packets) stops in
      let how = subst (λ (t : List ℕ). Finishes c.tell_stop-status.result c.finish.result (g.K.Sink.held c.pieces.sink) (g.K.Sink.held c.finish.new.sink) t) c.deref.ensures.value c.finish.ensures.how in
      let stands = finished _ start _ _ _ _ _ _ _ _ _ _ _ _ goes tells how in (
        false,
        passes _ _ start false _ stands (λ never. absurd (cc))
            (is_sound _ _ _ c.pieces.invariant.source (never_read _ _ _ _ _ _ _ _ _ _ _ tells how))
            (fails_last _ _ _ _ c.pieces.invariant.sink c.finish.ensures.write.failed c.finish.ensures.write.sound),
      );
}

pub returns-then-not-write_all : goal.returns-then-not-write_all
returns-then-not-write_all g c = record {
  passes = λ start behind.
      let goes = goes_on _ start _ _ _ _ _ _ _ _ _ _ c.take_held-stop.ensures.stands (c.pieces.invariant.goes start behind) in
      let cut = subst (λ (t : List ℕ). AppendsPart (g.K.Sink.held c.pieces.sink) (g.K.Sink.held c.write_all.new.sink) t) c.deref-in-pieces.ensures.value (c.write_all.ensures.cut c.if-not-write_all.true) in
      let stands = unwritten _ start _ _ _ _ _ _ _ _ goes cut in (
        false,
        passes _ _ start false _ stands (λ never. absurd (cc))
            (is_sound _ _ _ c.pieces.invariant.source (λ is. cc))
            (fails_last _ _ _ _ c.pieces.invariant.sink (λ is. c.write_all.ensures.rose c.if-not-write_all.true) (λ other. absurd (other refl))),
      );
}

pub pieces-preserved : goal.pieces-preserved
pieces-preserved g c = record {
  goes = λ start behind.
      let goes = goes_on _ start _ _ _ _ _ _ _ _ _ _ c.take_held-stop.ensures.stands (c.pieces.invariant.goes start behind) in
      let written = goes_written _ start _ _ _ _ _ _ _ _ _ _ goes c.deref-in-pieces.ensures.value (c.write_all.ensures.whole c.if-not-write_all.false) c.clear.ensures.items in
      let more = subst (λ (s : Stop). Stops c.args.order (packets_taken c.take_held-stop.new.inspection) c.take_held-stop.new.pieces s) (c.is_more.ensures c.if-not-is_more.false) c.take_held-stop.ensures.stops in
      goes_refilled _ start _ _ _ _ _ _ _ _ _ written more.0 c.in-Piece.ensures.taken;
  source = c.in-Piece.ensures.kept (λ is. cc) ∙ c.pieces.invariant.source;
  sink = c.write_all.ensures.kept c.if-not-write_all.false ∙ c.pieces.invariant.sink;
}

pub returns-in-End : goal.returns-in-End
returns-in-End g c = record {
  passes = λ start behind.
      let goes = goes_on _ start _ _ _ _ _ _ _ _ _ _ c.take_held-stop.ensures.stands (c.pieces.invariant.goes start behind) in
      let written = goes_written _ start _ _ _ _ _ _ _ _ _ _ goes c.deref-in-pieces.ensures.value (c.write_all.ensures.whole c.if-not-write_all.false) c.clear.ensures.items in
      let ended = goes_ended _ start _ _ _ _ _ _ _ _ _ written c.in-End.ensures.taken in
      let told = c.tell_end-status.ensures.tells ended.reached.contents ended.reached.has in
      let tells = subst (λ (r : List ℕ). TellsBehind c.args.order ended.reached.contents r true c.tell_end-status.result c.clear.new.self.items c.tell_end-status.new.waiting.items) c.held.ensures told in
      let how = subst (λ (t : List ℕ). Finishes c.tell_end-status.result c.finish-in-End.result (g.K.Sink.held c.write_all.new.sink) (g.K.Sink.held c.finish-in-End.new.sink) t) c.deref-in-End.ensures.value c.finish-in-End.ensures.how in
      let stands = finished _ start _ _ _ _ _ _ _ _ _ _ _ _ ended tells how in
      let sink = c.write_all.ensures.kept c.if-not-write_all.false ∙ c.pieces.invariant.sink in (
        true,
        passes _ _ start true _ stands (λ is. c.in-End.ensures.taken.1)
            (is_sound _ _ _ (c.in-End.ensures.kept (λ is. cc) ∙ c.pieces.invariant.source) (never_read _ _ _ _ _ _ _ _ _ _ _ tells how))
            (fails_last _ _ _ _ sink c.finish-in-End.ensures.write.failed c.finish-in-End.ensures.write.sound),
      );
}

pub returns-in-Failed : goal.returns-in-Failed
returns-in-Failed g c = record {
  passes = λ start behind.
      let goes = goes_on _ start _ _ _ _ _ _ _ _ _ _ c.take_held-stop.ensures.stands (c.pieces.invariant.goes start behind) in
      let written = goes_written _ start _ _ _ _ _ _ _ _ _ _ goes c.deref-in-pieces.ensures.value (c.write_all.ensures.whole c.if-not-write_all.false) c.clear.ensures.items in
      let more = subst (λ (s : Stop). Stops c.args.order (packets_taken c.take_held-stop.new.inspection) c.take_held-stop.new.pieces s) (c.is_more.ensures c.if-not-is_more.false) c.take_held-stop.ensures.stops in
      let count = goes.reached.has.counts.packets in
      let stands = unread _ start _ _ _ _ _ _ _ _ written c.clear.ensures.items c.in-Failed.ensures.taken.0 more.0 (λ some. let room = more.1 some in omega (arith, room, count)) in
      let sink = c.write_all.ensures.kept c.if-not-write_all.false ∙ c.pieces.invariant.sink in (
        false,
        passes _ _ start false _ stands (λ never. absurd (cc))
            (fails_last _ _ _ _ c.pieces.invariant.source (λ is. c.in-Failed.ensures.rose refl) (λ other. absurd (other refl)))
            (is_sound _ _ _ sink (λ is. cc)),
      );
}

pub returns-in-Memory : goal.returns-in-Memory
returns-in-Memory g c = record {
  passes = λ start behind.
      let goes = goes_on _ start _ _ _ _ _ _ _ _ _ _ c.take_held-stop.ensures.stands (c.pieces.invariant.goes start behind) in
      let written = goes_written _ start _ _ _ _ _ _ _ _ _ _ goes c.deref-in-pieces.ensures.value (c.write_all.ensures.whole c.if-not-write_all.false) c.clear.ensures.items in
      let taken = c.in-Memory.ensures.taken in
      let stands = no_memory _ start _ _ _ _ _ _ _ _ _ written c.clear.ensures.items taken.1 in
      let sink = c.write_all.ensures.kept c.if-not-write_all.false ∙ c.pieces.invariant.sink in (
        false,
        passes _ _ start false _ stands (λ never. absurd (cc))
            (is_sound _ _ _ (c.in-Memory.ensures.kept (λ is. cc) ∙ c.pieces.invariant.source) (λ is. cc))
            (is_sound _ _ _ sink (λ is. cc)),
      );
}
