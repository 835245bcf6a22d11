-- The ticks that calls carry: a node's ticks never fall (this project's profile).
use Rattle.std.specs.Prelude.{ℕ, ◌≤◌, List, [], ◌∷◌, Option, Some, None, IfSome}
use Rattle.wrp_base.specs.declared.measurement.Four.{Four}
use Rattle.wrp_exch.specs.Call.{Call, CallSync, CallReqSent}

-- the tick at which a Sync was handed over, or a Delay_Req's sending was reported
abbrev pub tick_of : Call → Option ℕ
tick_of (CallSync seq correction t2 tick) = Some tick
tick_of (CallReqSent seq t3 tick) = Some tick
tick_of _ = None

-- these calls carry no tick after this one
abbrev pub NoneAfter : ℕ → List Call → Type 0
NoneAfter tick [] = Unit {0}
NoneAfter tick (call ∷ calls) = IfSome (tick_of call) (λ t. t ≤ tick) × NoneAfter tick calls

-- no call carries a tick before one that an earlier call carried
abbrev pub TicksRise : List Call → Type 0
TicksRise [] = Unit {0}
TicksRise (call ∷ calls) = IfSome (tick_of call) (λ t. NoneAfter t calls) × TicksRise calls

-- if both are there, the later four's tick is not before the earlier one's
abbrev pub NotOlder : Option Four → Option Four → Type 0
NotOlder earlier later = IfSome earlier (λ f. IfSome later (λ g. f.tick ≤ g.tick))
