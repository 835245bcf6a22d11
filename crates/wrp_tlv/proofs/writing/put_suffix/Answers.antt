use Rattle.wrp_tlv.proofs.ReadBack.{suffix_read_back}
use Rattle.wrp_tlv.proofs.writing.put_suffix.Goals as goal

pub returns-clause-read_back : goal.returns-clause-read_back
returns-clause-read_back c = suffix_read_back c.args.flags c.put_u16.ensures.fits
