-- With which statuses the process may end, by the words after its name (this project's profile).
use Rattle.std.specs.Prelude.{ℕ, List}
use Rattle.wrp_records.specs.declared.status.Status.{Status}
use Rattle.wrp_run.specs.Ending.{MayEnd}
use Rattle.wrp_words.specs.Refusals.{usage_line}
use Rattle.wrp_words.specs.Requests.{request_in}

-- a run of these words may end with this status
abbrev pub MayEndOf : List (List ℕ) → Status → Type 0
MayEndOf words status = MayEnd (record { request = request_in words; usage = usage_line }) status
