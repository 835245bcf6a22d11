-- Each row by computing it.
use Rattle.std.proofs.Common.{refl}
use Rattle.wrp_pcap.proofs.laws.worked_certificates.Goals as goal

pub returns : goal.returns
returns c =
    record {
      complete = refl;
      other = refl;
      no_present = refl;
      no_lock = refl;
      no_locked = refl;
      no_master_calibrate = refl;
      no_master_calibrated = refl;
      no_slave_calibrate = refl;
      no_slave_calibrated = refl;
      none = refl;
      greatest = refl;
      behind_lock = refl;
      at_last = refl;
      twice = refl;
      before_lock = refl;
      locked_again = refl;
      lock_too_late = refl;
      calibrated_again = refl;
      mode_on_again = refl;
      first_in_turn = refl;
      second_in_turn = refl;
      of_third = refl;
      exchanged = refl;
      to_every_port = refl;
      lock_to_every_port = refl;
      on_to_every_port = refl;
      to_itself = refl;
      in_a_row = refl;
      begun_again = refl;
    }
