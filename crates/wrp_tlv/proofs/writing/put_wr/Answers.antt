use Rattle.std.proofs.Common.{ℕ, ◌++◌, subst}
use Rattle.byteorder.specs.Endian.{big_bytes}
use Rattle.wrp_tlv.specs.Appending.{Appends}
use Rattle.wrp_tlv.specs.WhiteRabbit.{value_start}
use Rattle.wrp_tlv.proofs.Appends.{and_then}
use Rattle.wrp_tlv.proofs.ReadBack.{message_read_back}
use Rattle.wrp_tlv.proofs.writing.put_wr.Goals as goal

pub returns-clause-appended : goal.returns-clause-appended
returns-clause-appended c =
    let Starts : ℕ × ℕ → Type 0 = λ row. Appends c.args.out.now (big_bytes 2 0x0003 ++ big_bytes 2 row.1 ++ value_start row.0) c.put_start.new.out in
    and_then (subst Starts c.row_of-id.ensures.row c.put_start.ensures) c.put_data.ensures.appended

pub returns-clause-read_back : goal.returns-clause-read_back
returns-clause-read_back c = message_read_back c.args.m.now c.put_data.ensures.fits
