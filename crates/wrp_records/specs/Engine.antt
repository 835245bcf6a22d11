-- The steps of the engine that handles records: what waits to be written, and how a step ends (this
-- project's profile).
use Rattle.std.specs.Prelude.{◌≡◌, ◌⊎◌, false, ℕ, ◌+◌, ◌<◌, Bool, Option, None, Some, List, [], ◌∷◌, ◌++◌}
use Rattle.std.specs.Io.KnownBytes.{Appends}
use Rattle.wrp_records.specs.declared.engine.Ended.{Ended}
use Rattle.wrp_records.specs.declared.engine.Ended.TheVariants as ended
use Rattle.wrp_records.specs.declared.engine.NextRecord.{NextRecord}
use Rattle.wrp_records.specs.declared.engine.NextRecord.TheVariants.{End, Failed, Unwritten}
use Rattle.wrp_records.specs.declared.machine.Refusal.TheVariants as refusals
use Rattle.wrp_records.specs.declared.status.Status.{Status}
use Rattle.wrp_records.specs.declared.status.Status.TheVariants.{Usage, BadNetwork, BadTrace, Broken, ReadFault, WriteFault, LinkFault, TooLarge, OutOfMemory, BadCapture, BadCalib}
use Rattle.wrp_base.specs.declared.fault.ConfFault.{ConfFault}
use Rattle.wrp_base.specs.declared.fault.ConfFault.TheVariants as ConfFaults
use Rattle.wrp_base.specs.declared.fault.ConfFault.TheVariants.{Fault}
use Rattle.wrp_io.specs.Faults.{Rose}
use Rattle.wrp_records.specs.Refusals.{bad_network_line}
use Rattle.wrp_records.specs.Stream.{Accepting, Refusing, large_line, line_limit, number_limit}
use Rattle.wrp_records.specs.Taking.{AppendsPart}

-- the status that a run ends with
abbrev pub status_by : Ended → Status
status_by ended.TooLarge = TooLarge
status_by (ended.Refused refusals.BadTrace) = BadTrace
status_by (ended.Refused refusals.Broken) = Broken
status_by ended.Memory = OutOfMemory

-- the first part of what waited was written, and the rest waits
abbrev pub Waits : Option (List ℕ) → Option (List ℕ) → List ℕ → List ℕ → Type 0
Waits before now was will = (written : List ℕ) × Appends before now written × (was ≡ written ++ will)

-- what is written when the next record is asked for: all that waited, if the source was asked
abbrev pub Writes : NextRecord → Option (List ℕ) → Option (List ℕ) → List ℕ → List ℕ → Type 0
Writes End before now was will = Waits before now was will × (will ≡ [])
Writes Failed before now was will = Waits before now was will × (will ≡ [])
Writes Unwritten before now was will = AppendsPart before now was
Writes _ before now was will = Waits before now was will

-- what the handling of a line gives: the line is accepted, and what it writes also waits; or it is
-- refused, and the line that names it also waits; or memory runs out, and the same text waits as
-- before
abbrev pub LineOutcome : Accepting → Refusing → (List (List ℕ) → Type 0) → List (List ℕ) → List ℕ
    → List ℕ → List ℕ → List ℕ → Option Ended → Type 0
LineOutcome A R T lines said before was now None =
    (more : List ℕ) × (now ≡ was ++ more) × T (lines ++ said ∷ [])
    × A (lines ++ said ∷ []) (before ++ more)
LineOutcome A R T lines said before was now (Some (ended.Refused refusal)) =
    (last : List ℕ) × (now ≡ was ++ last) × R lines said refusal last
LineOutcome A R T lines said before was now (Some ended.Memory) = now ≡ was
LineOutcome A R T lines said before was now (Some ended.TooLarge) = ⊥

-- the line that names a record that is too large also waits, or memory runs out
abbrev pub TellsLarge : ℕ → List ℕ → List ℕ → Ended → Type 0
TellsLarge number was now ended.TooLarge = now ≡ was ++ large_line number
TellsLarge number was now ended.Memory = now ≡ was
TellsLarge number was now (ended.Refused refusal) = ⊥

-- the last part of a text is written and this status is answered, or the sink failed
abbrev pub Finishes : Status → Status → Option (List ℕ) → Option (List ℕ) → List ℕ → Type 0
Finishes due given before now text =
    ((given ≡ due) × Appends before now text)
    ⊎ ((given ≡ WriteFault) × AppendsPart before now text)

-- what a status says about faults: it is ReadFault if and only if the source failed, and then the source's end
-- did not come; it is WriteFault if and only if the sink failed; and it is one of the statuses with which
-- records end
abbrev pub TellsFaults : Status → ℕ → ℕ → ℕ → ℕ → Bool → Type 0
TellsFaults status read read_now write write_now ended =
    (status ≡ ReadFault → Rose read read_now × (ended ≡ false))
    × ((status ≡ ReadFault → ⊥) → read_now ≡ read)
    × (status ≡ WriteFault → Rose write write_now)
    × ((status ≡ WriteFault → ⊥) → write_now ≡ write)
    × (status ≡ Usage → ⊥) × (status ≡ BadNetwork → ⊥) × (status ≡ LinkFault → ⊥)
    × (status ≡ BadCapture → ⊥) × (status ≡ BadCalib → ⊥)

-- how many octets of a line without its LF are taken after so many records: none if the next
-- record's number is too great
abbrev pub MostAt : ℕ → ℕ → Type 0
MostAt number most =
    ((number + 1 ≡ number_limit) × (most ≡ 0)) ⊎ ((number + 1 < number_limit) × (most ≡ line_limit))

-- the line of a network text that is refused for a code at a place is written and BadNetwork is
-- answered, or the sink failed; or memory runs out
abbrev pub RefusesAt : ℕ → List ℕ → Status → Option (List ℕ) → Option (List ℕ) → Type 0
RefusesAt code place given before now =
    ((given ≡ OutOfMemory) × (now ≡ before))
    ⊎ Finishes BadNetwork given before now (bad_network_line code place)

-- the same for a fault, which may be that memory ran out
abbrev pub RefusesNetwork : ConfFault → Status → Option (List ℕ) → Option (List ℕ) → Type 0
RefusesNetwork (Fault code place) given before now = RefusesAt code place.bytes given before now
RefusesNetwork (ConfFaults.Memory e) given before now = (given ≡ OutOfMemory) × (now ≡ before)
