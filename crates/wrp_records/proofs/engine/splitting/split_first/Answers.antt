-- By how the line ends.
use Rattle.std.proofs.Common.{◌∙◌, Some, ap, inl, inr, sym}
use Rattle.wrp_records.specs.Lines.{content_of}
use Rattle.wrp_records.proofs.LineEnds.{begins_by}
use Rattle.wrp_records.proofs.engine.splitting.split_first.Goals as goal

pub returns : goal.returns
returns c =
    let line = c.args.line.now in
    let octets = c.args.octets.now in
    let said = content_of line in
    elim (begins_by line octets c.requires.next) [
      | inl feed ↦
          let found = c.in_ok-_found.ensures.line said octets (c.requires.block ∙ ap Some feed) c.requires.plain in
          ((c.requires.plain, found.1), found.2)
      | inr rest ↦ elim rest [
        | inl both ↦
            let found = c.in_ok-_found.ensures.returned said octets (c.requires.block ∙ ap Some both) c.requires.plain in
            ((c.requires.plain, found.1), found.2)
        | inr last ↦
            let found = c.in_ok-_found.ensures.last said (c.requires.block ∙ ap Some last.0) c.requires.plain in
            ((c.requires.plain, found.1), found.2 ∙ ap Some (sym last.1))
      ]
    ]
