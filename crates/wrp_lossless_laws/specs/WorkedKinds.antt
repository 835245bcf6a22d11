-- A worked example, an output of six lines: four of them are of the kinds step, link, servo and track (this
-- project's profile).
use Rattle.std.specs.Prelude.{◌≡◌, ℕ, List, [], ◌∷◌, ◌++◌, codes}
use Rattle.wrp_records.specs.Words.{line_of}
use Rattle.wrp_lossless_laws.specs.Kinds.{kinds_in}

abbrev pub send_line : List ℕ
send_line = line_of (codes "gm" ∷ codes "24" ∷ codes "send" ∷ codes "1" ∷ codes "0012" ∷ [])

abbrev pub step_line : List ℕ
step_line = line_of (codes "sw1" ∷ codes "174" ∷ codes "step" ∷ codes "-125000000" ∷ [])

abbrev pub link_line : List ℕ
link_line = line_of (codes "sw1" ∷ codes "24" ∷ codes "link" ∷ codes "1" ∷ codes "present" ∷ [])

abbrev pub servo_line : List ℕ
servo_line = line_of (codes "sw1" ∷ codes "159" ∷ codes "servo" ∷ codes "sync-tai" ∷ [])

abbrev pub track_line : List ℕ
track_line = line_of (codes "sw1" ∷ codes "1800" ∷ codes "track" ∷ codes "97" ∷ codes "500" ∷ codes "true" ∷ codes "-42" ∷ [])

-- its third word is no kind, though its first is
abbrev pub other_line : List ℕ
other_line = line_of (codes "track" ∷ codes "sum" ∷ codes "7" ∷ [])

abbrev pub worked_output : List ℕ
worked_output = send_line ++ (step_line ++ (link_line ++ (other_line ++ (servo_line ++ track_line))))

abbrev pub WorkedKinds : Type 0
WorkedKinds = kinds_in worked_output ≡ step_line ∷ link_line ∷ servo_line ∷ track_line ∷ []
