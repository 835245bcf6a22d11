-- The captures that are worked out hold what is said of them.
use Rattle.std.proofs.Common.{◌≡◌, ◌≤◌, ◌==◌, if◌then◌else◌, ℕ, Bool, true, false, List, [], ◌∷◌, ◌++◌, length, take, None, inl, inr, refl, sym, ap, arith, length-append}
use Rattle.std.proofs.lemmas.List.{take_all, drop_all}
use Rattle.wrp_pcap.specs.declared.capture.CaptureFault.TheVariants.{Header, Packet, Long}
use Rattle.wrp_pcap.specs.declared.capture.CaptureFault.{CaptureFault}
use Rattle.wrp_pcap.specs.declared.capture.Order.TheVariants.{Big, Little}
use Rattle.wrp_pcap.specs.Capture.{HasHeader, HasPacketFault, IsFile}
use Rattle.wrp_pcap.specs.Ethernet.{type_at, Carries}
use Rattle.wrp_pcap.specs.CaptureRows.{worked_header, worked_numbers, worked_packet, worked_capture, long_numbers, longest_numbers, IsFirstRefused, CapturesAreRows}

low : HasHeader Little worked_header
low = record { whole = omega arith; magic = refl; link_type = refl }

-- octets after the header that are refused at once
refused : (fault : CaptureFault) (behind : List ℕ) → HasPacketFault fault Little behind → IsFirstRefused fault (worked_header ++ behind)
refused fault behind has =
    inr (
      refl,
      record {
        order = Little;
        header = record { whole = omega (arith, length-append worked_header behind); magic = refl; link_type = refl };
        reading = record { rest = behind; begins = refl; ends = has };
      },
    )

one : (frame : List ℕ) → length frame ≡ 56
    → IsFile (record { numbers = worked_numbers; octets = worked_packet frame } ∷ []) None (worked_capture frame)
one frame long =
    let octets = worked_packet frame in
    let all : length octets ≡ 70 = omega (arith, long) in
    let kept : take 70 octets ≡ octets = take_all 70 octets (omega arith) in
    record {
      order = Little;
      header = record { whole = omega (arith, length-append worked_header (worked_numbers ++ octets)); magic = refl; link_type = refl };
      reading = record {
        rest = [];
        begins = (
          record { numbers = omega (arith, length-append worked_numbers octets); short = omega arith; own = omega (arith, length-append worked_numbers octets) },
          ap (λ o. record { numbers = worked_numbers; octets = o }) (sym kept),
          drop_all 70 octets (omega arith),
        );
        ends = refl;
      };
    }

longest : (octets : List ℕ) → length octets ≡ 262144
    → IsFile (record { numbers = longest_numbers; octets = octets } ∷ []) None (worked_header ++ (longest_numbers ++ octets))
longest octets all =
    let kept : take 262144 octets ≡ octets = take_all 262144 octets (omega (arith, all)) in
    record {
      order = Little;
      header = record { whole = omega (arith, length-append worked_header (longest_numbers ++ octets)); magic = refl; link_type = refl };
      reading = record {
        rest = [];
        begins = (
          record { numbers = omega (arith, length-append longest_numbers octets); short = omega arith; own = omega (arith, all, length-append longest_numbers octets) },
          ap (λ o. record { numbers = longest_numbers; octets = o }) (sym kept),
          drop_all 262144 octets (omega (arith, all)),
        );
        ends = refl;
      };
    }

-- an EtherType is at place 12, or after it
least_place : (b : Bool) → 12 ≤ (if b then 16 else 12)
least_place true = omega arith
least_place false = omega arith

cut_type : (packet other : List ℕ) → length packet ≡ 13 → Carries packet other → ⊥
cut_type packet other few has =
    let whole = has.whole in
    let place = least_place (type_at 12 packet == 0x8100) in omega arith

pub rows : CapturesAreRows
rows = record {
  none = record { order = Little; header = low; reading = record { rest = []; begins = refl; ends = refl } };
  one = one;
  longest = longest;
  cut = λ frame long. refused Packet (worked_numbers ++ worked_packet frame)
      (omega (arith, length-append worked_numbers (worked_packet frame)), omega arith, omega (arith, long, length-append worked_numbers (worked_packet frame)));
  long = refused Long long_numbers (omega arith, omega arith);
  few = λ octets few. refused Header octets (omega (arith, few), omega (arith, few));
  low = low;
  low_nanoseconds = record { whole = omega arith; magic = refl; link_type = refl };
  high = record { whole = omega arith; magic = refl; link_type = refl };
  high_nanoseconds = record { whole = omega arith; magic = refl; link_type = refl };
  short = λ octets few. inl (omega (arith, few));
  pcapng = inr refl;
  other_order = record { order = Big; whole = omega arith; magic = refl; other = λ is. absurd (omega (arith, is)) };
  carries = λ frame. record { whole = omega arith; ptp = refl; behind = refl };
  tagged = λ frame. record { whole = omega arith; ptp = refl; behind = refl };
  tagged_twice = λ frame other has. let ptp = has.ptp in omega (arith, ptp);
  cut_type = cut_type;
}
