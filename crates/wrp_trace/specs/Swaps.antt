-- The further fields of an `up`: PORT:MODULE:TX:RX, each port once (this project's profile). The octet
-- 58 is `:`.
use Rattle.std.specs.Prelude.{ℕ, ◌+◌, ◌==◌, if◌then◌else◌, None, Some, Result, Ok, Err, List, map, [], ◌∷◌, ◌++◌}
use Rattle.std.specs.List.{list_any}
use Rattle.arrayvec.specs.ArrayString.{ArrayString}
use Rattle.arrayvec.specs.ArrayVec.{ArrayVec}
use Rattle.wrp_base.specs.declared.fault.TraceFault.{TraceFault}
use Rattle.wrp_caldb.specs.Name.{is_name}
use Rattle.wrp_config.specs.Same.{bare}
use Rattle.wrp_course.specs.declared.event.Swap.{Swap}
use Rattle.wrp_trace.specs.EventFields.{before, behind}
use Rattle.wrp_fields.specs.Numbers.{natural_in}
use Rattle.wrp_fields.specs.Reading.{◌>>=◌, number_or_fault, name_or_fault}

-- a swap with its module's name alone
abbrev pub bare_swap : Swap → Swap
bare_swap swap = record swap { name = bare swap.name.bytes }

-- PORT: a port that no earlier swap has
abbrev pub own_port : ℕ → List Swap → ℕ → Result ℕ TraceFault
own_port place swaps port =
    name_or_fault place (if list_any (λ swap. swap.port == port) swaps then None else Some port)

abbrev pub new_port : ℕ → List Swap → List ℕ → Result ℕ TraceFault
new_port place swaps text = do
  port ← number_or_fault place (natural_in 0 65_535 text)
  own_port place swaps port

-- MODULE
abbrev pub module_name : ℕ → List ℕ → Result (List ℕ) TraceFault
module_name place text = name_or_fault place (if is_name text then Some text else None)

-- TX and RX: a true delay, in tau, 0 to 10^12
abbrev pub true_delay : ℕ → List ℕ → Result ℕ TraceFault
true_delay place text = number_or_fault place (natural_in 0 1_000_000_000_000 text)

-- MODULE:TX:RX, at this port
abbrev pub swap_at_port : ℕ → ℕ → List ℕ → Result Swap TraceFault
swap_at_port place port text = do
  name ← module_name place (before 58 text)
  tx ← true_delay place (before 58 (behind 58 text))
  rx ← true_delay place (behind 58 (behind 58 text))
  Ok (record { port = port; name = bare name; tx = tx; rx = rx })

-- a field, after these swaps
abbrev pub swap_said : ℕ → List Swap → List ℕ → Result Swap TraceFault
swap_said place swaps text = do
  port ← new_port place swaps (before 58 text)
  swap_at_port place port (behind 58 text)

-- all these fields, the first of which has this place, after these swaps
abbrev pub swaps_said : ℕ → List Swap → List (List ℕ) → Result (List Swap) TraceFault
swaps_said place swaps [] = Ok swaps
swaps_said place swaps (text ∷ texts) = do
  swap ← swap_said place swaps text
  swaps_said (place + 1) (swaps ++ swap ∷ []) texts

-- The same for what the code holds

-- a name's text, or the fault
abbrev pub name_read : Result ArrayString TraceFault → Result (List ℕ) TraceFault
name_read (Ok name) = Ok name.bytes
name_read (Err fault) = Err fault

-- a swap, or the fault
abbrev pub swap_read : Result Swap TraceFault → Result Swap TraceFault
swap_read (Ok swap) = Ok (bare_swap swap)
swap_read (Err fault) = Err fault

-- swaps, or the fault
abbrev pub swaps_read : Result (ArrayVec Swap) TraceFault → Result (List Swap) TraceFault
swaps_read (Ok swaps) = Ok (map bare_swap swaps.items)
swaps_read (Err fault) = Err fault
