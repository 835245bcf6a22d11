-- By what is expected for a whole capture, and for one of too many packets.
use Rattle.std.proofs.Common.{refl, arith}
use Rattle.wrp_pcap.proofs.inspect_laws.packets_are_limited.Goals as goal

pub returns : goal.returns
returns c =
    record {
      most = λ packets contents octets few file carry.
          record { packets = packets; contents = contents; file = file; few = omega (arith, few); carry = carry; is = refl };
      more = λ order packets contents rest octets all header begins some carry.
          record {
            order = order;
            packets = packets;
            contents = contents;
            rest = rest;
            header = header;
            begins = begins;
            last = omega (arith, all);
            some = some;
            carry = carry;
            is = refl;
          };
    }
