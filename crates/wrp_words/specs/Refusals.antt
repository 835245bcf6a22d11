-- The line of words that are no command, or name a node that the network lacks (this project's profile).
use Rattle.std.specs.Prelude.{ℕ, List, codes}

-- the only line of Usage
abbrev pub usage_line : List ℕ
usage_line =
    codes "usage: wrnet audit [--emit NODE] | replay --node NODE | simulate --seed N | loop --seed N | migrate | inspect | l1sync | calibrate | plain\n"
