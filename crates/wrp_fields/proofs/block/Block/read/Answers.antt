use Rattle.std.proofs.Common.{◌∙◌, ◌∷◌, ◌++◌, []}
use Rattle.csv.specs.Records.{fields_of}
use Rattle.wrp_base.specs.Lines.{parts_of}
use Rattle.wrp_fields.specs.Block.{left_in}
use Rattle.wrp_fields.proofs.Splitting.{first_line, last_line, no_line, return_line}
use Rattle.csv.specs.declared.parser.State.TheVariants as st
use Rattle.wrp_fields.proofs.ReadFacts.{standing, reads_line, reads_end}
use Rattle.wrp_fields.proofs.block.Block.read.Goals as goal

pub returns-clause-line : goal.returns-clause-line
returns-clause-line c line rest old is =
    let a = c.self.inside.reader in
    let stands = standing left_in a (line ++ 10 ∷ rest) c.self.invariant (c.self.view_is ∙ old) in
    reads_line left_in a c.read_byte_record.new.self c.in-Ok.found (fields_of c.read_byte_record.new.row) (line ++ 10 ∷ rest) (parts_of line) st.StartRecord rest stands (first_line line rest is) (c.in-Ok.ensures.reads stands.untrimmed stands.ready)

pub returns-clause-returned : goal.returns-clause-returned
returns-clause-returned c line rest old is =
    let a = c.self.inside.reader in
    let stands = standing left_in a (line ++ 13 ∷ 10 ∷ rest) c.self.invariant (c.self.view_is ∙ old) in
    reads_line left_in a c.read_byte_record.new.self c.in-Ok.found (fields_of c.read_byte_record.new.row) (line ++ 13 ∷ 10 ∷ rest) (parts_of line) st.AfterCr (10 ∷ rest) stands (return_line line rest is) (c.in-Ok.ensures.reads stands.untrimmed stands.ready)

pub returns-clause-last : goal.returns-clause-last
returns-clause-last c line old is =
    let a = c.self.inside.reader in
    let stands = standing left_in a line c.self.invariant (c.self.view_is ∙ old) in
    reads_line left_in a c.read_byte_record.new.self c.in-Ok.found (fields_of c.read_byte_record.new.row) line (parts_of line) st.StartRecord [] stands (last_line line is) (c.in-Ok.ensures.reads stands.untrimmed stands.ready)

pub returns-clause-end : goal.returns-clause-end
returns-clause-end c old =
    let a = c.self.inside.reader in
    let stands = standing left_in a [] c.self.invariant (c.self.view_is ∙ old) in
    reads_end left_in a c.read_byte_record.new.self c.in-Ok.found (fields_of c.read_byte_record.new.row) [] stands no_line (c.in-Ok.ensures.reads stands.untrimmed stands.ready)
