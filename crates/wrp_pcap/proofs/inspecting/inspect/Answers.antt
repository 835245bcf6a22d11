-- The octets of the header, and the octets after it.
use Rattle.std.proofs.Common.{[], inl, inr, refl, true, false, arith}
use Rattle.std.proofs.KnownBytes.{Appends-nil}
use Rattle.wrp_pcap.specs.declared.capture.CaptureFault.TheVariants.{Magic}
use Rattle.wrp_pcap.proofs.CaptureStands.{header_stands, header_never_read, passes, passes_behind, is_sound, has_failed}
use Rattle.wrp_pcap.proofs.inspecting.inspect.Goals as goal

pub returns-in-Piece : goal.returns-in-Piece
returns-in-Piece g c =
    let behind = c.inspect_held.ensures.passes in
    record {
      passes = (behind.0, passes_behind _ _ _ _ behind.0 _ behind.1 c.in-Piece.ensures.fills.0 refl (c.in-Piece.ensures.kept (λ is. cc)) refl);
    }

pub returns-in-End : goal.returns-in-End
returns-in-End g c =
    let fills = c.in-End.ensures.fills in
    let stands = header_stands c.fill_header.new.pieces true Magic c.refuse_header.result _ _ (inl fills.2) (let few = fills.2 in omega (arith, few)) (inr refl) c.refuse_header.ensures.how in
    record {
      passes = (
        true,
        passes _ _ [] true _
            (record { given = c.fill_header.new.pieces; octets = stands.0; taken = fills.0; wrote = stands.1; stands = stands.2 })
            (λ is. fills.1)
            (is_sound _ _ _ (c.in-End.ensures.kept (λ is. cc)) (header_never_read Magic _ _ _ c.refuse_header.ensures.how))
            c.refuse_header.ensures.write,
      );
    }

pub returns-in-Failed : goal.returns-in-Failed
returns-in-Failed g c =
    let fills = c.in-Failed.ensures.fills in
    record {
      passes = (
        false,
        passes _ _ [] false _
            (record { given = c.fill_header.new.pieces; octets = []; taken = fills.0; wrote = Appends-nil _; stands = (refl, refl, inl (fills.1, refl)) })
            (λ never. absurd (cc))
            (has_failed _ _ _ (c.in-Failed.ensures.rose refl) refl)
            (is_sound _ _ _ refl (λ is. cc)),
      );
    }
