-- What was given was the front of what was left.
use Rattle.std.proofs.Common.{◌≡◌, ◌∙◌, drop, length, take, min, ap, arith}
use Rattle.wrp_io.proofs.Reading.{given_and_left, none_at_the_end}
use Rattle.wrp_io.proofs.memory_source.MemSourceSource.read.Goals as goal

pub returns-clause-octets : goal.returns-clause-octets
returns-clause-octets c =
    let is : drop c.self.inside.at c.self.inside.bytes.items ≡ c.args.self.now.left = ap (λ s. s.left) c.self.view_is in
    let copied : take c.fill-given.result c.fill-given.new.buf ≡ take c.fill-given.result c.args.self.now.left =
    c.fill-given.ensures.copied ∙ ap (take c.fill-given.result) (c.left.ensures ∙ is) in
    let count : c.fill-given.result ≡ min (length c.args.buf.now) (length c.args.self.now.left) =
    c.fill-given.ensures.count ∙ ap (λ o. min (length c.args.buf.now) (length o)) (c.left.ensures ∙ is) in
    let size : length c.fill-given.new.buf ≡ length c.args.buf.now = c.fill-given.ensures.size in
    (given_and_left _ _ _ _ _ is copied, λ none some. none_at_the_end _ _ _ _ (length c.args.buf.now) is count none (omega arith))
