-- A text that is written after another.
use Rattle.std.proofs.Common.{◌+◌, inl, inr, subst, ℕ, Option, List, ◌++◌, length, take}
use Rattle.std.specs.Io.KnownBytes.{Appends}
use Rattle.std.proofs.KnownBytes.{Appends-trans}
use Rattle.wrp_records.specs.declared.status.Status.{Status}
use Rattle.wrp_records.specs.Engine.{Finishes}
use Rattle.wrp_records.proofs.Reaching.{take_two}

pub finishes_after : (due given : Status) (before mid now : Option (List ℕ)) (written text : List ℕ) → Appends before mid written → Finishes due given mid now text → Finishes due given before now (written ++ text)
finishes_after due given before mid now written text wrote (inl all) = inl (all.0, Appends-trans before mid now written text wrote all.1)
finishes_after due given before mid now written text wrote (inr part) =
    inr (part.0, (length written + part.1.0, subst (Appends before now) (take_two written text part.1.0) (Appends-trans before mid now written (take part.1.0 text) wrote part.1.1)))
