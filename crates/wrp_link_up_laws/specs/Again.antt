-- A worked example of a link whose first handshake fails, and which then comes up from rest: the holdoff of its slave
-- lasts longer than its quiet time. All times are in tau, all counts in ticks.
use Rattle.std.specs.Prelude.{ℕ, pos, true, false, List, [], ◌∷◌, Some}
use Rattle.wrp_base.specs.declared.link.Role.{Role}
use Rattle.wrp_base.specs.declared.link.Role.TheVariants.{Master, Slave}
use Rattle.wrp_base.specs.declared.message.WrMsg.TheVariants.{Present as SLAVE_PRESENT, Lock as LOCK, Locked as LOCKED, Calibrate as CALIBRATE, Calibrated as CALIBRATED, ModeOn as WR_MODE_ON}
use Rattle.wrp_link.specs.declared.interface.LinkIn.TheVariants.{Msg, Announce, Tick}
use Rattle.wrp_link.specs.declared.interface.LinkSet.{LinkSet}
use Rattle.wrp_handshake_laws.specs.Ends.{Change, Passes, Hears, Lights}
use Rattle.wrp_link_up_laws.specs.Rest.{BothInTurnFromRest, BothOutlastFromRest, IsPastRest, IsServedFromRest, RestRun, longer_rest, time_from_rest}
use Rattle.wrp_link_up_laws.specs.Worked.{blue, pace, round, upper, violet}

-- the counts of the slave
abbrev pub holding : LinkSet
holding = record { quiet = 3; wait = 3; lock_wait = 2; retries = 1; holdoff = 5; wr = true }

-- an offer is heard
abbrev pub an_offer : List Change → List Change
an_offer older = Hears Slave (Announce (Some 1)) (pos 0) ∷ older

-- the carriers come at 100; at 130 the slave sends SLAVE_PRESENT, and at 160 again, and both are lost; at 190 its
-- handshake fails
abbrev pub failed : List Change
failed =
    round (round (round (round (round (round (an_offer (round (round (round (Lights (Some blue) (Some violet) ∷ []))))))))))

-- quiet time ends at 220, the holdoff at 240; the offer of 230 is of no use
abbrev pub held_off : List Change
held_off = round (an_offer (round (round (round (round [])))))

-- 240: the slave begins again
abbrev pub offered_again : List Change
offered_again =
    Hears Slave (Msg LOCK) (pos 240) ∷
    (Hears Master (Msg SLAVE_PRESENT) (pos 240) ∷
    an_offer held_off)

-- 250
abbrev pub locked_again : List Change
locked_again =
    Hears Slave (Msg (CALIBRATE 0 0 0)) (pos 250) ∷
    (Hears Master (Msg LOCKED) (pos 250) ∷
    (Hears Slave (Tick true) (pos 0) ∷
    (Hears Master (Tick false) (pos 0) ∷
    (Passes 10 ∷
    offered_again))))

-- 260
abbrev pub told_again : List Change
told_again =
    Hears Master (Msg (CALIBRATE 0 0 0)) (pos 260) ∷
    (Hears Slave (Msg (CALIBRATED 5 6)) (pos 260) ∷
    round locked_again)

-- 270: both ends are in WR_LINK_ON
abbrev pub comes_on_again : List Change
comes_on_again =
    Hears Slave (Msg WR_MODE_ON) (pos 270) ∷
    (Hears Master (Msg (CALIBRATED 7 8)) (pos 270) ∷
    round told_again)

-- 330: past the time of the law that lets messages overtake each other
abbrev pub stays_on_again : List Change
stays_on_again = round (round (round (round (round (round comes_on_again)))))

-- since the last SLAVE_PRESENT of 160 the slave rests for 8 ticks, and the master for 2
abbrev pub rests_of : Role → ℕ
rests_of Master = 2
rests_of Slave = 8

abbrev pub again_run : RestRun
again_run =
    record {
      of_master = upper;
      of_slave = holding;
      start = pos 100;
      before = failed;
      since = stays_on_again;
      still = pos 160;
      rest = rests_of;
    }

-- all that the laws from rest require holds of one run whose first handshake failed
pub record WorkedAgain : Type 0 where
  pub served : IsServedFromRest 1 10 pace again_run
  pub outlast : BothOutlastFromRest 10 pace again_run
  pub in_turn : BothInTurnFromRest 10 pace again_run
  pub past : IsPastRest again_run (time_from_rest pace (longer_rest again_run) upper holding)
