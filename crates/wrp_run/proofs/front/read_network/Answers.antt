-- What is kept is what was read.
use Rattle.std.proofs.Common.{Ok, subst, sym}
use Rattle.wrp_config.specs.declared.network.Network.{Network}
use Rattle.wrp_network_text.specs.Reading.{IsReadingOf}
use Rattle.wrp_run.proofs.front.read_network.Goals as goal

pub returns-in-Ok-new-clause-reads : goal.returns-in-Ok-new-clause-reads
returns-in-Ok-new-clause-reads c = subst (λ (net : Network). IsReadingOf c.args.text.now (Ok net)) (sym c.in-Ok-new.ensures.ok) c.in-Ok.ensures.value
