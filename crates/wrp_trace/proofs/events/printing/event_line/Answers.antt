-- The line reads back, because each line that can be printed does.
use Rattle.std.proofs.Common.{◌∙◌, ap}
use Rattle.wrp_trace.specs.Events.{event_read}
use Rattle.wrp_trace.proofs.EventsReadBack.{events_back}
use Rattle.wrp_trace.proofs.events.printing.event_line.Goals as goal

pub returns-clause-reads_back : goal.returns-clause-reads_back
returns-clause-reads_back c =
    let cfg = c.args.net.now.cfg in
    let text = c.octets_of.ensures ∙ c.in_ok-text.ensures.text in
    ap (event_read cfg) text ∙ events_back cfg c.args.e.now c.requires.accepted.names c.requires.printable c.text_of.ensures.fits
