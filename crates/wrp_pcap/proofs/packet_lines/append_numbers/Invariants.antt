-- The numbers before this one follow the text.
use Rattle.std.proofs.Common.{◌≡◌, ◌++◌, map, take}
use Rattle.std.specs.Fmt.{decimal}
use Rattle.wrp_pcap.specs.PacketLines.{spaced}
use Rattle.wrp_pcap.proofs.packet_lines.append_numbers.Given as goal

abbrev pub invariant-loop-number : goal.invariant-loop-number
invariant-loop-number l =
    l.text.items ≡ l.fn.text.items ++ spaced (map decimal (take l.number-index l.numbers))
