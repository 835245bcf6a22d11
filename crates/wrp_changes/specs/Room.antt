-- Memory that is taken before it is used, at each end of each link (this project's profile).
use Rattle.std.specs.Prelude.{◌≡◌, ℕ}
use Rattle.wrp_plant.specs.declared.ends.EndState.{EndState}
use Rattle.wrp_plant.specs.declared.ends.Span.{Span}
use Rattle.wrp_plant.specs.declared.plant.Plant.{Plant}
use Rattle.wrp_plant.specs.EndRoom.{HasSpanRoom}
use Rattle.wrp_plant.specs.Plant.{Each}

-- each end of each link has room for this many steps of nodes
abbrev pub HasRoom : ℕ → Plant → Type 0
HasRoom steps plant = Each (λ k. HasSpanRoom steps) plant.spans.items

-- an end is as it was, but may have more room
pub record SameEnd (old new : EndState) : Type 0 where
  pub name : new.name ≡ old.name
  pub tx : new.tx ≡ old.tx
  pub rx : new.rx ≡ old.rx
  pub waiting : new.waiting.items ≡ old.waiting.items
  pub marks : new.marks.items ≡ old.marks.items

pub record SameSpan (k : ℕ) (old new : Span) : Type 0 where
  pub fibre : new.fibre ≡ old.fibre
  pub master : SameEnd old.master new.master
  pub slave : SameEnd old.slave new.slave
