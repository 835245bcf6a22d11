-- An answer is expected for each input of a command that stands alone, by the table of these
-- commands.
use Rattle.wrp_asked.proofs.AloneTable.{facts_of}
use Rattle.wrp_answer_laws.specs.EachAnswer.{EachStandsAloneWithAnswer}

pub each_stands_alone_with_answer : EachStandsAloneWithAnswer
each_stands_alone_with_answer alone input = (facts_of alone).answered input
