-- The line reads back, because each line that can be printed does.
use Rattle.std.proofs.Common.{◌∙◌, ap}
use Rattle.wrp_trace.specs.Inputs.{read_of}
use Rattle.wrp_trace.specs.LineSetting.{line_setting_of}
use Rattle.wrp_trace.proofs.ReadsBack.{reads_back}
use Rattle.wrp_trace.proofs.printing.input_line.Goals as goal

pub returns-clause-reads_back : goal.returns-clause-reads_back
returns-clause-reads_back c =
    let site = line_setting_of c.args.net.now c.args.node in
    let text = c.octets_of.ensures ∙ c.in_ok-text.ensures.text in
    ap (read_of site) text ∙ reads_back site c.args.x.now c.requires.accepted.database c.requires.printable c.text_of.ensures.fits
