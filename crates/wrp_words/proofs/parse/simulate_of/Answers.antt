-- The seed is the seed of the only value.
use Rattle.std.proofs.Common.{◌∙◌, refl, sym, ap, codes, option_map}
use Rattle.wrp_commands.specs.Request.{Simulate, OnNetwork}
use Rattle.wrp_words.specs.Fields.{seed_of}
use Rattle.wrp_words.specs.Rows.{simulation}
use Rattle.wrp_words.specs.Words.{texts_of}
use Rattle.wrp_words.proofs.ParsingLemmas.{simulate_read, one_read}
use Rattle.wrp_words.proofs.RequestLemmas.{must_ask}
use Rattle.wrp_words.proofs.parse.simulate_of.Goals as goal

pub given_seed-requires : goal.given_seed-requires
given_seed-requires c = (c.requires.0, simulate_read (texts_of c.args.words.now) c.requires.0 c.requires.1)

pub returns-in-Some : goal.returns-in-Some
returns-in-Some c =
    let words = texts_of c.args.words.now in
    let has = c.requires in
    let read = c.in_ok-seed.ensures in
    let same = one_read words (codes "seed") has.0 read.0 (simulate_read words has.0 has.1) read.1 in
    must_ask (codes "simulate") (codes "seed") (codes "N") simulation words has.0 refl has.1
    ∙ ap (option_map (λ seed. OnNetwork (Simulate seed))) (ap seed_of same ∙ sym read.2 ∙ c.in-Some.is)

pub returns-in-None : goal.returns-in-None
returns-in-None c =
    let words = texts_of c.args.words.now in
    let has = c.requires in
    let read = c.in_ok-seed.ensures in
    let same = one_read words (codes "seed") has.0 read.0 (simulate_read words has.0 has.1) read.1 in
    must_ask (codes "simulate") (codes "seed") (codes "N") simulation words has.0 refl has.1
    ∙ ap (option_map (λ seed. OnNetwork (Simulate seed))) (ap seed_of same ∙ sym read.2 ∙ c.in-None.is)
