use Rattle.std.proofs.Common.{◌∙◌, ap, ℕ, List}
use Rattle.wrp_base.specs.declared.link.Role.{Role}
use Rattle.wrp_caldb.specs.Database.{module_at}
use Rattle.wrp_course.specs.Setting.{sends_nm}
use Rattle.wrp_changes.proofs.Carriers.{entry_told}
use Rattle.wrp_changes.proofs.giving.ends.entry.Goals as goal

pub returns : goal.returns
returns c s w h =
    entry_told s w c.args.plant.now c.args.place.link c.args.place.role c.link_cfg-link.result.now c.args.name.now.bytes c.sends_nm-sent.result c.sends_nm-received.result c.module_at.result h
    c.link_cfg-link.ensures.value c.sends_nm-sent.ensures
    (c.sends_nm-received.ensures ∙ ap (λ (r : Role). sends_nm r c.link_cfg-link.result.now) c.other_of.ensures)
    (c.module_at.ensures ∙ ap (λ (name : List ℕ). module_at c.args.plant.now.net.db name c.sends_nm-sent.result c.sends_nm-received.result) c.as_str.ensures.value)
