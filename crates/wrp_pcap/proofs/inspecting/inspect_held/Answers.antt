-- What follows the header is inspected, or the header is refused.
use Rattle.std.proofs.Common.{ℕ, List, [], length, inl, refl, ap, sym, subst, arith, append-nil, length-drop, false}
use Rattle.std.proofs.KnownBytes.{Consumes-nil}
use Rattle.wrp_records.specs.After.{After}
use Rattle.wrp_pcap.specs.Capture.{HasHeader, HasHeaderFault}
use Rattle.wrp_pcap.specs.Inspected.{capture}
use Rattle.wrp_pcap.proofs.CaptureStands.{header_stands, header_never_read, passes, is_sound}
use Rattle.wrp_pcap.proofs.inspecting.inspect_held.Goals as goal

pub returns-in-Ok : goal.returns-in-Ok
returns-in-Ok g c =
    let header = subst (HasHeader c.in-Ok.order) c.held.ensures ((c.header.ensures.ok c.in-Ok.order).0 c.in-Ok.is) in
    let left = length-drop 24 c.args.pieces.now in
    let size = ap length c.pass.ensures in
    record {
      passes = c.inspect_packets.ensures.passes c.args.pieces.now
          (record { header = header; rest_is = c.pass.ensures; piece = omega (arith, left, size, c.requires.piece) });
    }

pub returns-in-Err : goal.returns-in-Err
returns-in-Err g c =
    let has = subst (HasHeaderFault c.in-Err.fault) c.held.ensures ((c.header.ensures.refused c.in-Err.fault).0 c.in-Err.is) in
    let stands = header_stands c.args.pieces.now false c.in-Err.fault c.refuse_header.result _ _ has c.requires.piece (inl c.requires.whole) c.refuse_header.ensures.how in
    record {
      passes = (
        false,
        passes _ _ c.args.pieces.now false _
            (record {
              given = [];
              octets = stands.0;
              taken = Consumes-nil _;
              wrote = stands.1;
              stands = subst (λ (o : List ℕ). After capture o false [] c.refuse_header.result stands.0) (sym (append-nil c.args.pieces.now)) stands.2;
            })
            (λ never. absurd (cc))
            (is_sound _ _ _ refl (header_never_read _ _ _ _ c.refuse_header.ensures.how))
            c.refuse_header.ensures.write,
      );
    }
