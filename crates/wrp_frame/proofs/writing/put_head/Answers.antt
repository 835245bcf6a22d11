use Rattle.std.proofs.Common.{◌≡◌, ap, rules}
use Rattle.std.specs.Int.{w64, cast_signed, cast_unsigned}
use Rattle.byteorder.specs.Endian.{big_bytes}
use Rattle.wrp_tlv.proofs.Appends.{and_then, renamed}
use Rattle.wrp_frame.proofs.writing.put_head.Goals as goal

pub returns-clause-items : goal.returns-clause-items
returns-clause-items c =
    let signed : cast_signed w64 (cast_unsigned w64 c.args.head.now.correction) ≡ c.args.head.now.correction = search rules in
    let number = renamed c.put_u8.ensures.items (ap (big_bytes 1) c.number.ensures) in
    let control = renamed c.put_u8-5.ensures.items (ap (big_bytes 1) c.control.ensures) in
    let correction = renamed c.put_i64.ensures.items (ap (λ z. big_bytes 8 (cast_unsigned w64 z)) signed) in
    and_then number
    (and_then c.put_u8-2.ensures.items
    (and_then c.put_u16.ensures.items
    (and_then c.put_u8-3.ensures.items
    (and_then c.put_u8-4.ensures.items
    (and_then c.put_u16-2.ensures.items
    (and_then correction
    (and_then c.put_u32.ensures.items
    (and_then c.put_identity.ensures.items
    (and_then c.put_u16-3.ensures.items
    (and_then control c.put_u8-6.ensures.items))))))))))
