use Rattle.wrp_calibration_text.proofs.NamesMet.{one_more}
use Rattle.wrp_calibration_text.specs.Met.{is_met}
use Rattle.wrp_calibration_text.proofs.met.meets.Goals as goal

pub returns-clause-noted : goal.returns-clause-noted
returns-clause-noted c text =
    one_more c.args.name.now text (is_met text c.args.names.now) (is_met text c.insert.new.self)
    (c.in_ok-added.ensures.updates.0 (record { ref_ptr = (0, 0); now = text }))
