use Rattle.std.proofs.Common.{subst, ℕ, List}
use Rattle.wrp_frame.specs.Saying.{Says}
use Rattle.wrp_premises.proofs.TriedOctets.{says_it}
use Rattle.wrp_premises.proofs.tries.octets.noise_broken.Goals as goal

pub returns : goal.returns
returns c = (
  c.decode-says.result,
  subst (λ (o : List ℕ). Says o c.decode-says.result) c.as_slice.ensures.value
      (says_it _ c.decode-says.result (λ message e. (c.decode-says.ensures.spelled message).0 e) (λ fault e. (c.decode-says.ensures.refused fault).0 e)),
  c.heard_broken.ensures,
)
