-- The chain: whether there is one, where it began, and which stamps it can use.
use Rattle.std.specs.Prelude.{ℕ, ℤ, nat_le, if◌then◌else◌, List, [], ◌∷◌, Option, Some, None}
use Rattle.wrp_exch.specs.declared.ring.GoodSample.{GoodSample}
use Rattle.wrp_exch.specs.Call.{Call, CallStart, CallClear}
use Rattle.wrp_exch.specs.Samples.{phase_in, last_samples}

-- the first sample of the chain: there is a chain since the last start, unless a clear came after it
abbrev pub first_sample : List Call → Option ℕ
first_sample [] = None
first_sample (CallStart first ∷ calls) = Some first
first_sample (CallClear ∷ calls) = None
first_sample (_ ∷ calls) = first_sample calls

-- the phase at a sample that is not before the chain's first and is among these
abbrev pub phase_since : Option ℕ → List GoodSample → ℕ → Option ℤ
phase_since None good number = None
phase_since (Some first) good number = if nat_le first number then phase_in good number else None

-- the phase at the sample that a stamp latched, if there is a chain, the sample is at or after the
-- chain's start, and it is among the last `ring` good samples
abbrev pub latched_phase : ℕ → List Call → ℕ → Option ℤ
latched_phase ring calls number = phase_since (first_sample calls) (last_samples ring calls) number
