use Rattle.std.proofs.Common.{subst, ℕ, List}
use Rattle.wrp_frame.specs.Saying.{Says}
use Rattle.wrp_premises.proofs.TriedOctets.{says_it}
use Rattle.wrp_world.proofs.world.fitting.read.Goals as goal

pub returns : goal.returns
returns c =
    subst (λ (o : List ℕ). Says o c.decode.result) c.as_slice.ensures.value
    (says_it _ c.decode.result (λ message e. (c.decode.ensures.spelled message).0 e) (λ fault e. (c.decode.ensures.refused fault).0 e))
