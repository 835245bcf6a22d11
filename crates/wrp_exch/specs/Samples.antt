-- Good samples: the ones that count, the last ones of them, and the phase at one of these.
use Rattle.std.specs.Prelude.{ℕ, ℤ, ◌==◌, List, [], ◌∷◌, take, find, Option}
use Rattle.std.specs.Option.{option_map}
use Rattle.wrp_exch.specs.declared.ring.GoodSample.{GoodSample}
use Rattle.wrp_exch.specs.Call.{Call, CallClear, CallSample}

-- the good samples since the last clear, the newest first
abbrev pub samples : List Call → List GoodSample
samples [] = []
samples (CallClear ∷ calls) = []
samples (CallSample number phase ∷ calls) = record { number = number; phase = phase } ∷ samples calls
samples (_ ∷ calls) = samples calls

-- the last `ring` good samples
abbrev pub last_samples : ℕ → List Call → List GoodSample
last_samples ring calls = take ring (samples calls)

-- the phase at the sample of this number, if it is among these
abbrev pub phase_in : List GoodSample → ℕ → Option ℤ
phase_in good number = option_map (λ s. s.phase) (find (λ s. s.number == number) good)
