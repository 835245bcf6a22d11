-- A run of a command that stands alone ends as its records do.
use Rattle.wrp_words.specs.Requests.{asked_in}
use Rattle.wrp_asked.proofs.Asking.{alone_ends}
use Rattle.wrp_run.proofs.alone.run_alone.Goals as goal

pub returns-clause-ends : goal.returns-clause-ends
returns-clause-ends g c = alone_ends (asked_in c.args.words.now) c.args.alone _ _ c.handle.result c.requires c.handle.ensures

pub returns-clause-read : goal.returns-clause-read
returns-clause-read g c = c.handle.ensures.1.read

pub returns-clause-write : goal.returns-clause-write
returns-clause-write g c = c.handle.ensures.1.write
