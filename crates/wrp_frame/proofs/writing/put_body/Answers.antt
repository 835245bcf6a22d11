use Rattle.std.proofs.Common.{◌≡◌, ◌++◌, ℕ, ℤ, List, sym, ap, rules}
use Rattle.std.specs.Int.{w16, cast_signed, cast_unsigned}
use Rattle.byteorder.specs.Endian.{big_bytes}
use Rattle.wrp_tlv.proofs.Appends.{and_then, renamed}
use Rattle.wrp_frame.specs.SentOctets.{body_octets}
use Rattle.wrp_frame.proofs.writing.put_body.Goals as goal

-- currentUtcOffset to grandmasterPriority2
abbrev quality_octets : ℤ → ℕ → ℕ → ℕ → List ℕ
quality_octets utc p1 quality p2 = big_bytes 2 (cast_unsigned w16 utc) ++ big_bytes 1 0 ++ big_bytes 1 p1 ++ big_bytes 4 quality ++ big_bytes 1 p2

pub returns-in-DelayResp-clause-items : goal.returns-in-DelayResp-clause-items
returns-in-DelayResp-clause-items c =
    renamed (and_then c.put_timestamp-in-DelayResp.ensures.items c.put_identity.ensures.items) (ap body_octets (sym c.in-DelayResp.is))

pub returns-in-Announce-clause-items : goal.returns-in-Announce-clause-items
returns-in-Announce-clause-items c =
    let signed : cast_signed w16 (cast_unsigned w16 c.in-Announce.utc) ≡ c.in-Announce.utc = search rules in
    let quality = renamed c.put_quality.ensures.items (ap (λ z. quality_octets z c.in-Announce.p1 c.in-Announce.quality c.in-Announce.p2) signed) in
    renamed (and_then c.put_timestamp-in-Announce.ensures.items (and_then quality c.put_grandmaster.ensures.items)) (ap body_octets (sym c.in-Announce.is))
