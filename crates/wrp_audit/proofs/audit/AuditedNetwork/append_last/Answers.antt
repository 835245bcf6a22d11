-- The counters are the world's counters, and nothing follows the inputs of a node.
use Rattle.std.proofs.lemmas.Result.{IfOk-weaker}
use Rattle.wrp_audit.proofs.AuditSteps.{closes_counts, closes_none}
use Rattle.wrp_audit.proofs.audit.AuditedNetwork.append_last.Goals as goal

pub returns-in-None : goal.returns-in-None
returns-in-None g c =
    IfOk-weaker c.append_all_counts.result _ _
    (λ x counts lines has. closes_counts c.args.self.now lines c.append_all_counts.new.text.items c.args.text.now.items c.in-None.is c.requires.none counts has)
    c.append_all_counts.ensures

pub returns-in-Some : goal.returns-in-Some
returns-in-Some g c = λ lines has. closes_none c.args.self.now lines c.args.text.now.items _ c.in-Some.is c.requires.none
