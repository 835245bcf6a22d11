use Rattle.wrp_pcap.proofs.PacketLineSteps.{numbers_more}
use Rattle.wrp_pcap.proofs.packet_lines.append_numbers.Goals as goal

pub loop-number-preserved : goal.loop-number-preserved
loop-number-preserved c =
    numbers_more c.args.numbers.now c.loop-number.number-index c.args.text.now.items c.loop-number.text.items _ c.loop-number-test.true c.loop-number.invariant (c.in_ok-append_number_word.ensures)
