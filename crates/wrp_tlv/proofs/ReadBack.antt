-- The value of a message or a suffix is read as that message or suffix.
use Rattle.std.proofs.Common.{◌≡◌, ◌<◌, ◌^◌, ◌%◌, ℕ, [], refl, ap, ◌∙◌}
use Rattle.std.proofs.Math.Nat.{mod-eq_of_lt}
use Rattle.byteorder.specs.Endian.{big_number, big_bytes}
use Rattle.byteorder.specs.Numbers.{big_number-reads_back}
use Rattle.wrp_base.specs.declared.message.WrMsg.{WrMsg}
use Rattle.wrp_base.specs.declared.message.WrMsg.TheVariants.{Present, Lock, Locked, Calibrate, Calibrated, ModeOn}
use Rattle.wrp_tlv.specs.declared.white_rabbit.WrRead.TheVariants.{Wr, Suffix}
use Rattle.wrp_tlv.specs.WhiteRabbit.{wr_read, read_by_id, wr_value, suffix_value, FitsOctets}

pub message_read_back : (message : WrMsg) → FitsOctets message → wr_read (wr_value message) ≡ Wr message
unfolding wr_read read_by_id
message_read_back Present fits = refl
message_read_back Lock fits = refl
message_read_back Locked fits = refl
message_read_back (Calibrate pattern retry period) (p, r, d) =
    ap (λ n. Wr (Calibrate n (retry % 256) (big_number 4 (big_bytes 4 period)))) (mod-eq_of_lt p)
    ∙ ap (λ n. Wr (Calibrate pattern n (big_number 4 (big_bytes 4 period)))) (mod-eq_of_lt r)
    ∙ ap (λ n. Wr (Calibrate pattern retry n)) (big_number-reads_back 4 period [] d)
message_read_back (Calibrated tx rx) (t, r) =
    ap (λ n. Wr (Calibrated n (big_number 8 (big_bytes 8 rx)))) (big_number-reads_back 8 tx (big_bytes 8 rx) t)
    ∙ ap (λ n. Wr (Calibrated tx n)) (big_number-reads_back 8 rx [] r)
message_read_back ModeOn fits = refl

pub suffix_read_back : (flags : ℕ) → flags < 256 ^ 2 → wr_read (suffix_value flags) ≡ Suffix flags
unfolding wr_read read_by_id
suffix_read_back flags fits = ap Suffix (big_number-reads_back 2 flags [] fits)
