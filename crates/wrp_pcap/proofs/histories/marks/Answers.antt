-- The lists of marks are the lists of the two roles, and judging them is Ok.
use Rattle.wrp_base.specs.declared.link.Role.TheVariants.{Master, Slave}
use Rattle.wrp_pcap.proofs.Judging.{judged_slave, judged_master, judges_same}
use Rattle.wrp_pcap.proofs.histories.marks.Goals as goal

pub returns-clause-judged_slave : goal.returns-clause-judged_slave
returns-clause-judged_slave c =
    judges_same Slave _ _ _ _ c.slave_marks.ensures c.master_marks.ensures (judged_slave c.args.c.now c.told-c c.requires)

pub returns-clause-judged_master : goal.returns-clause-judged_master
returns-clause-judged_master c =
    judges_same Master _ _ _ _ c.master_marks.ensures c.slave_marks.ensures (judged_master c.args.c.now c.told-c c.requires)
