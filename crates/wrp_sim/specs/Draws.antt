-- Numbers that are drawn, each from the state that the one before it left: splitmix64 (this project's
-- profile).
use Rattle.std.specs.Prelude.{◌≡◌, ℕ, zero, suc, ℤ, pos, List, [], ◌∷◌, ◌+◌, ◌*◌, ◌/◌, ◌%◌, ◌^◌, ◌+ℤ◌, ◌-ℤ◌, bit_xor, unsigned_abs}

-- a number of 64 bits
abbrev pub word_of : ℕ → ℕ
word_of x = x % 2 ^ 64

-- the state that a draw leaves
abbrev pub next_state : ℕ → ℕ
next_state state = word_of (state + 0x9E3779B97F4A7C15)

-- a number, with itself shifted down by so many bits mixed into it
abbrev pub folded : (bits x : ℕ) → ℕ
folded bits x = bit_xor x (x / 2 ^ bits)

-- the number that is drawn when this state is reached
abbrev pub mixed : ℕ → ℕ
mixed z = folded 31 (word_of (folded 27 (word_of (folded 30 z * 0xBF58476D1CE4E5B9)) * 0x94D049BB133111EB))

-- the number that is drawn in a state
abbrev pub drawn : ℕ → ℕ
drawn state = mixed (next_state state)

-- how many numbers there are from a to b
abbrev pub count_from : (a b : ℤ) → ℕ
count_from a b = unsigned_abs ((b -ℤ a) +ℤ pos 1)

-- the number from a to b that is drawn in a state
abbrev pub drawn_from : (a b : ℤ) → ℕ → ℤ
drawn_from a b state = a +ℤ pos (drawn state % count_from a b)

-- so many numbers, drawn one after the other
abbrev pub drawn_after : (count state : ℕ) → List ℕ
drawn_after zero state = []
drawn_after (suc count) state = drawn state ∷ drawn_after count (next_state state)

-- the first five from 1234567, as others have computed them
abbrev pub KnownNumbers : Type 0
KnownNumbers =
    drawn_after 5 1_234_567
    ≡ 6_457_827_717_110_365_317 ∷ 3_203_168_211_198_807_973 ∷ 9_817_491_932_198_370_423 ∷ 4_593_380_528_125_082_431
    ∷ 16_408_922_859_458_223_821 ∷ []
