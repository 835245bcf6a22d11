-- Words that have no form ask for nothing.
use Rattle.wrp_words.specs.Words.{texts_of}
use Rattle.wrp_words.proofs.RequestLemmas.{asks_nothing}
use Rattle.wrp_words.proofs.parse.read_words.Goals as goal

pub returns-in-None : goal.returns-in-None
returns-in-None c = asks_nothing (texts_of c.args.words.now) c.in-None.ensures
