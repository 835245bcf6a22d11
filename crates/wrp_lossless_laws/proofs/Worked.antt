-- Each call of the worked links, one after the other.
use Rattle.std.proofs.Common.{◌≡◌, ◌∙◌, refl, ap, sym, subst, List, [], ◌∷◌, ◌++◌, append_assoc, append-nil, None, Some}
use Rattle.std.proofs.lemmas.Option.{none-some}
use Rattle.wrp_io.specs.declared.link.LinkCall.{LinkCall}
use Rattle.wrp_io.specs.declared.link.LinkCall.TheVariants.{Receive, Send, Start}
use Rattle.wrp_io.specs.Link.{frame_of}
use Rattle.wrp_io.specs.FramesWaiting.{IsNext}
use Rattle.wrp_lossless_laws.specs.LosesNothing.{LosesNothing}
use Rattle.wrp_lossless_laws.specs.Worked.{WorkedLinks, carried_calls}

-- each of these calls may come after the calls before it
abbrev AllNext : (before calls : List LinkCall) → Type 0
AllNext before [] = Unit {0}
AllNext before (call ∷ calls) = IsNext before call × AllNext (before ++ call ∷ []) calls

each_next : (front calls before later : List LinkCall) (call : LinkCall) → AllNext front calls → calls ≡ before ++ call ∷ later → IsNext (front ++ before) call
each_next front [] [] later call all is = absurd (cc)
each_next front [] (first ∷ before) later call all is = absurd (cc)
each_next front (c ∷ calls) [] later call all is =
    let same : c ≡ call = cc in
    subst (λ (l : List LinkCall). IsNext l call) (sym (append-nil front)) (subst (IsNext front) same all.0)
each_next front (c ∷ calls) (first ∷ before) later call all is =
    let same : c ≡ first = cc in
    let rest : calls ≡ before ++ call ∷ later = cc in
    subst (λ (l : List LinkCall). IsNext l call) (append_assoc front (c ∷ []) before ∙ ap (λ (k : LinkCall). front ++ k ∷ before) same)
    (each_next (front ++ c ∷ []) calls before later call all.1 rest)

loses_nothing : (calls : List LinkCall) → AllNext [] calls → LosesNothing calls
loses_nothing calls all before later call is = each_next [] calls before later call all is

pub worked_links : WorkedLinks
worked_links = (
  loses_nothing carried_calls (tt, (tt, (tt, (refl, (tt, (refl, (refl, (refl, tt)))))))),
  λ loses. none-some (7 ∷ []) (loses (Start 2 ∷ (Send 0 (frame_of (7 ∷ [])) ∷ [])) [] (Receive 1 None) refl),
  λ loses. none-some (7 ∷ [])
      (sym (loses (Start 2 ∷ (Send 0 (frame_of (7 ∷ [])) ∷ (Receive 1 (Some (frame_of (7 ∷ []))) ∷ []))) [] (Receive 1 (Some (frame_of (7 ∷ [])))) refl)),
  λ loses. let bad : Some (8 ∷ []) ≡ Some (7 ∷ []) =
      loses (Start 2 ∷ (Send 0 (frame_of (7 ∷ [])) ∷ (Send 0 (frame_of (8 ∷ [])) ∷ []))) [] (Receive 1 (Some (frame_of (8 ∷ [])))) refl in cc,
)
