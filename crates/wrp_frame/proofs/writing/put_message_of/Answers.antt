use Rattle.std.proofs.Common.{sym, ap, ◌∙◌, subst}
use Rattle.std.proofs.lemmas.List.{append-nil}
use Rattle.wrp_tlv.specs.TlvList.{tlv_octets, extension}
use Rattle.wrp_tlv.specs.WhiteRabbit.{wr_value}
use Rattle.wrp_tlv.proofs.Appends.{renamed}
use Rattle.wrp_frame.specs.Fitting.{IsMessageReadBack}
use Rattle.wrp_frame.specs.SentOctets.{octets_of_tlvs, message_tlvs}
use Rattle.wrp_frame.proofs.writing.put_message_of.Goals as goal

pub returns-in-Some-clause-items : goal.returns-in-Some-clause-items
returns-in-Some-clause-items c =
    renamed c.put_wr.ensures.appended
    (sym (append-nil (tlv_octets (extension (wr_value c.in-Some.message)))) ∙ ap (λ w. octets_of_tlvs (message_tlvs w)) (sym c.in-Some.is))

pub returns-in-Some-clause-read_back : goal.returns-in-Some-clause-read_back
returns-in-Some-clause-read_back c = subst IsMessageReadBack (sym c.in-Some.is) c.put_wr.ensures.read_back
