-- Call by call.
use Rattle.std.proofs.Common.{refl, [], ◌∷◌}
use Rattle.std.proofs.lemmas.Option.{none-some}
use Rattle.wrp_io.specs.Link.{frame_of}
use Rattle.wrp_answer_laws.specs.WorkedLink.{WorkedLink}
use Rattle.wrp_answer_laws.proofs.laws.worked_link.Goals as goal

worked : WorkedLink
worked =
    record {
      follows = (tt, (tt, (refl, (refl, tt))));
      fails = refl;
      unanswered = λ follows. none-some (frame_of (7 ∷ [])) follows.1.1.0;
      further = λ follows. follows.1.1.1.1.0;
    }

pub returns : goal.returns
returns c = worked
