use Rattle.std.proofs.Common.{◌≡◌, ap, rules}
use Rattle.std.specs.Int.{w16, cast_signed, cast_unsigned}
use Rattle.byteorder.specs.Endian.{big_bytes}
use Rattle.wrp_tlv.proofs.Appends.{and_then, renamed}
use Rattle.wrp_frame.proofs.writing.put_quality.Goals as goal

pub returns-clause-items : goal.returns-clause-items
returns-clause-items c =
    let signed : cast_signed w16 (cast_unsigned w16 c.args.utc) ≡ c.args.utc = search rules in
    let offset = renamed c.put_i16.ensures.items (ap (λ z. big_bytes 2 (cast_unsigned w16 z)) signed) in
    and_then offset
    (and_then c.put_u8.ensures.items
    (and_then c.put_u8-2.ensures.items
    (and_then c.put_u32.ensures.items c.put_u8-3.ensures.items)))
