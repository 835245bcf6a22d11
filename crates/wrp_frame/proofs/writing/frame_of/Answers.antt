use Rattle.std.proofs.Common.{◌++◌, ap, ap₂, ◌∙◌}
use Rattle.wrp_tlv.proofs.Appends.{and_then, renamed}
use Rattle.wrp_frame.specs.SentOctets.{head_octets, octets_of}
use Rattle.wrp_frame.proofs.writing.frame_of.Goals as goal

pub returns-clause-items : goal.returns-clause-items
returns-clause-items c =
    let head = renamed c.put_head.ensures.items (ap₂ (λ kind size. head_octets kind size c.args.m.now.head) c.of_body.ensures c.message_size.ensures.size) in
    let whole = and_then head (and_then c.put_body.ensures.items c.put_tlvs.ensures.items) in
    whole.items ∙ ap (λ l. l ++ octets_of c.args.m.now) c.new-out.ensures
