use Rattle.wrp_tlv.proofs.OneValue.{have_one_value}
use Rattle.wrp_tlv.proofs.white_rabbit.one_value.Goals as goal

pub returns : goal.returns
returns c = have_one_value
