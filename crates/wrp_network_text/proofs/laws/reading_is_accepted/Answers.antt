use Rattle.wrp_network_text.proofs.OneReading.{reading_is_accepted as law}
use Rattle.wrp_network_text.proofs.laws.reading_is_accepted.Goals as goal

pub returns : goal.returns
returns c = law
