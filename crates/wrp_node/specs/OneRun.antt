-- What a node puts out is determined by its inputs: neither what its octets say nor what its law answers leaves a choice (this project's profile).
use Rattle.std.specs.Prelude.{◌≡◌, ℕ, ℤ, List, [], ◌∷◌}
use Rattle.wrp_node.specs.declared.interface.Output.{Output}
use Rattle.wrp_node.specs.NodeAt.{Taken, NodeSetting, NodeAt, servo_at, servo_setting_of}
use Rattle.wrp_node.specs.NodeRun.{AllSaid, NodeRun, node_after}
use Rattle.wrp_servo.specs.Servo.{AllAnswered}

-- two lists of the same inputs
abbrev pub SameInputs : List Taken → List Taken → Type 0
SameInputs [] [] = Unit {0}
SameInputs (t ∷ before) (u ∷ other) = (t.input ≡ u.input) × SameInputs before other
SameInputs _ _ = ⊥

-- a delay law that is a function: it has one answer to each x
abbrev pub answers_by : (ℤ → ℤ) → ℤ → ℤ → Type 0
answers_by law x y = y ≡ law x

-- two nodes are alike: their ticks, their counters, what each port was given, and the servo. The lists of the servo's
-- calls may differ in the answers noted at measurements for which the law was not asked
pub record AreAlike (fixed : NodeSetting) (n o : NodeAt) : Type 0 where
  pub ticks : n.ticks ≡ o.ticks
  pub told : (p : ℕ) → n.told p ≡ o.told p
  pub counters : (p : ℕ) → n.counters p ≡ o.counters p
  pub servo : servo_at fixed n ≡ servo_at fixed o

-- the same inputs give the same outputs
abbrev pub OneRun : Type 0
OneRun =
    (law : ℤ → ℤ) (fixed : NodeSetting) (before other : List Taken) (t u : Taken) (outs others : List Output) →
    NodeRun (answers_by law) fixed before t outs → NodeRun (answers_by law) fixed other u others →
    SameInputs (t ∷ before) (u ∷ other) → outs ≡ others

-- each frame of these inputs is read as its octets say, and each measurement has the law's answer
pub record IsRun (law : ℤ → ℤ) (fixed : NodeSetting) (inputs : List Taken) : Type 0 where
  pub said : AllSaid inputs
  pub answered : AllAnswered (answers_by law) (servo_setting_of fixed) (node_after fixed inputs).calls

-- the same inputs make the same node
abbrev pub OneNode : Type 0
OneNode =
    (law : ℤ → ℤ) (fixed : NodeSetting) (inputs others : List Taken) → IsRun law fixed inputs → IsRun law fixed others →
    SameInputs inputs others → AreAlike fixed (node_after fixed inputs) (node_after fixed others)
