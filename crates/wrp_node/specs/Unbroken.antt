-- A chain of the servo, between the inputs of a node: nothing restarted the loop since it started (this project's profile).
use Rattle.std.specs.Prelude.{◌≡◌, ◌↔◌, Bool, true, is_some, ◌||◌, List, ◌∷◌}
use Rattle.wrp_node.specs.NodeAt.{Taken, NodeSetting, servo_at, servo_setting_of}
use Rattle.wrp_node.specs.NodeRun.{node_after}
use Rattle.wrp_servo.specs.Call.{Call, ServoSetting, run}
use Rattle.wrp_servo.specs.LookBack.{chain_starts, chain_ends}
use Rattle.wrp_servo.specs.Since.{Since}

-- after the call the loop has taken no good sample since its last restart
abbrev pub leaves_fresh : ServoSetting → List Call → Call → Bool
leaves_fresh x calls call = (run x (call ∷ calls)).phase.fresh

-- a call ends the chain, or restarts the loop
abbrev pub breaks_chain : ServoSetting → List Call → Call → Bool
breaks_chain x calls call = chain_ends x calls call || leaves_fresh x calls call

-- there is a chain if and only if one of the servo's calls started it and no later call ended it or restarted the loop
abbrev pub ChainIsUnbroken : Type 0
ChainIsUnbroken =
    (fixed : NodeSetting) (inputs : List Taken) →
    (is_some (servo_at fixed (node_after fixed inputs)).first ≡ true)
    ↔ Since (chain_starts (servo_setting_of fixed)) (breaks_chain (servo_setting_of fixed)) (node_after fixed inputs).calls

-- with a chain the lock detector is locked
abbrev pub ChainIsLocked : Type 0
ChainIsLocked =
    (fixed : NodeSetting) (inputs : List Taken) → is_some (servo_at fixed (node_after fixed inputs)).first ≡ true →
    (servo_at fixed (node_after fixed inputs)).phase.lock.locked ≡ true
