-- Lists of calls: how a value that stands for the list of its calls takes one more. A list has its newest call first (this
-- project's profile).
use Rattle.std.specs.Prelude.{List, ◌∷◌}

-- for each list that the old value stands for, the new one stands for it with this call in front
abbrev pub Adds : {Value Call : Type 0} → (Value → List Call → Type 0) → Value → Value → Call → Type 0
Adds {Value} {Call} stands old new call = (calls : List Call) → stands old calls → stands new (call ∷ calls)
