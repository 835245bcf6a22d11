-- By how the line ends.
use Rattle.std.proofs.Common.{◌∙◌, ◌++◌, ◌∷◌, [], List, ℕ, Some, ap, inl, inr, append_assoc}
use Rattle.wrp_records.specs.Lines.{content_of}
use Rattle.wrp_records.proofs.LineEnds.{line_ends}
use Rattle.wrp_records.proofs.engine.splitting.split_next.Goals as goal

pub returns : goal.returns
returns c = λ rest is.
    let said = content_of c.args.line.now in
    elim (line_ends c.args.line.now c.requires.whole) [
      | inl feed ↦
          let found = c.in_ok-_found.ensures.line said rest (is ∙ ap (λ (l : List ℕ). Some (l ++ rest)) feed ∙ ap Some (append_assoc said (10 ∷ []) rest)) c.requires.plain in
          ((c.requires.plain, found.1), found.2)
      | inr both ↦
          let found = c.in_ok-_found.ensures.returned said rest (is ∙ ap (λ (l : List ℕ). Some (l ++ rest)) both ∙ ap Some (append_assoc said (13 ∷ 10 ∷ []) rest)) c.requires.plain in
          ((c.requires.plain, found.1), found.2)
    ]
