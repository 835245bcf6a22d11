use Rattle.std.proofs.Common.{refl}
use Rattle.wrp_loop.specs.Datagrams.{sending_end}
use Rattle.wrp_loop.proofs.Searching.{finds}
use Rattle.wrp_loop.proofs.laws.index_chooses.Goals as goal

pub returns : goal.returns
returns c = λ s events way octets came handed h. finds s events way (sending_end way) octets came handed refl h
