-- How nodes, the words of links, the states of servos and reasons are written (this project's profile).
use Rattle.std.specs.Prelude.{ℕ, ◌==◌, List, [], codes}
use Rattle.std.specs.List.{find}
use Rattle.std.specs.Option.{option_map_or}
use Rattle.wrp_base.specs.declared.link.LinkState.TheVariants.{Idle, Present, SLock, MLock, Locked, Calibration, Calibrated, RespCalib, LinkOn}
use Rattle.wrp_base.specs.declared.link.LinkWord.{LinkWord}
use Rattle.wrp_base.specs.declared.link.LinkWord.TheVariants.{Down, Quiet, Ptp, In}
use Rattle.wrp_base.specs.declared.link.ServoState.{ServoState}
use Rattle.wrp_base.specs.declared.link.ServoState.TheVariants.{Uninit, SyncTai, SyncNsec, SyncPhase, WaitStable, Track, Holdover}
use Rattle.wrp_data.specs.Reason.{name_of, number_of, reasons}

-- how a link word is written; no port has the word of IDLE
abbrev pub link_word : LinkWord → List ℕ
link_word Down = codes "down"
link_word Quiet = codes "quiet"
link_word Ptp = codes "ptp"
link_word (In Idle) = codes "ptp"
link_word (In Present) = codes "present"
link_word (In SLock) = codes "s-lock"
link_word (In MLock) = codes "m-lock"
link_word (In Locked) = codes "locked"
link_word (In Calibration) = codes "calibration"
link_word (In Calibrated) = codes "calibrated"
link_word (In RespCalib) = codes "resp-calib"
link_word (In LinkOn) = codes "link-on"

-- how a state of the servo is written
abbrev pub servo_word : ServoState → List ℕ
servo_word Uninit = codes "uninit"
servo_word SyncTai = codes "sync-tai"
servo_word SyncNsec = codes "sync-nsec"
servo_word SyncPhase = codes "sync-phase"
servo_word WaitStable = codes "wait-stable"
servo_word Track = codes "track"
servo_word Holdover = codes "holdover"

-- how the reason with this number is written; no octets if there is none
unfoldable pub reason_word : ℕ → List ℕ
reason_word number =
    option_map_or name_of (find (λ reason. number_of reason == number) reasons) []
