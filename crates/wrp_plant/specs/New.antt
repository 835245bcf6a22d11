-- A world without its nodes, before any event: its clocks, and the ends of its links (this project's profile).
use Rattle.std.specs.Prelude.{◌≡◌, ℕ, ℤ, pos, false, List, [], Option, Some, slice_get}
use Rattle.std.specs.Option.{option_map_or}
use Rattle.wrp_base.specs.declared.link.Module.{Module}
use Rattle.wrp_network.specs.declared.network.LinkCfg.{LinkCfg}
use Rattle.wrp_caldb.specs.Database.{Database, module_at}
use Rattle.wrp_course.specs.declared.clocks.ClockState.{ClockState}
use Rattle.wrp_plant.specs.declared.ends.EndState.{EndState}
use Rattle.wrp_plant.specs.declared.ends.Span.{Span}

-- a clock before any event
abbrev pub new_clock : ℤ → ClockState
new_clock start = record { up = false; off = pos 0; ticked = start; samples = 0 }

-- an end before any event, with this module installed
pub record IsNewEnd (name : List ℕ) (entry : Option Module) (end : EndState) : Type 0 where
  pub name_is : end.name.bytes ≡ name
  pub tx : end.tx ≡ option_map_or (λ m. m.tx) entry 0
  pub rx : end.rx ≡ option_map_or (λ m. m.rx) entry 0
  pub waiting : end.waiting.items ≡ []
  pub marks : end.marks.items ≡ []

-- a link before any event
pub record IsNewSpan (db : Database) (link : LinkCfg) (span : Span) : Type 0 where
  pub fibre : span.fibre ≡ record { joined = false; ms = pos 0; sm = pos 0 }
  pub master : IsNewEnd link.upper_module.bytes (module_at db link.upper_module.bytes link.down_nm link.up_nm) span.master
  pub slave : IsNewEnd link.lower_module.bytes (module_at db link.lower_module.bytes link.up_nm link.down_nm) span.slave

abbrev pub IsSpanOf : Database → List LinkCfg → ℕ → Span → Type 0
IsSpanOf db links k span = (link : LinkCfg) → slice_get links k ≡ Some link → IsNewSpan db link span
