-- The value that was read is the one that the form has, and so the words ask for this command.
use Rattle.std.proofs.Common.{◌∙◌, refl, ap, subst, codes}
use Rattle.wrp_words.specs.CommandLine.{HasForm}
use Rattle.wrp_words.specs.Rows.{emission, replay}
use Rattle.wrp_words.specs.Words.{texts_of}
use Rattle.wrp_words.proofs.ParsingLemmas.{emit_read, node_read, one_read}
use Rattle.wrp_words.proofs.RequestLemmas.{alone_asks, audit_asks, may_ask, must_ask}
use Rattle.wrp_words.proofs.parse.command_of.Goals as goal

pub given-requires : goal.given-requires
given-requires c =
    let words = texts_of c.args.words.now in
    let has = subst (HasForm words) c.in-Emit.is c.requires in
    (has.0, emit_read words has.0 has.1)

pub given-requires-in-Replay : goal.given-requires-in-Replay
given-requires-in-Replay c =
    let words = texts_of c.args.words.now in
    let has = subst (HasForm words) c.in-Replay.is c.requires in
    (has.0, node_read words has.0 has.1)

pub returns-in-Audit : goal.returns-in-Audit
returns-in-Audit c =
    let words = texts_of c.args.words.now in
    audit_asks words (subst (HasForm words) c.in-Audit.is c.requires).1.0

pub returns-in_ok-name-in-Emit : goal.returns-in_ok-name-in-Emit
returns-in_ok-name-in-Emit c =
    let words = texts_of c.args.words.now in
    let has = subst (HasForm words) c.in-Emit.is c.requires in
    let same = one_read words (codes "emit") has.0 _ (emit_read words has.0 has.1) c.in_ok-name-in-Emit.ensures in
    may_ask _ (codes "audit") (codes "emit") (codes "NODE") emission words has.0 refl has.1 ∙ ap emission same

pub returns-in_ok-name-in-Replay : goal.returns-in_ok-name-in-Replay
returns-in_ok-name-in-Replay c =
    let words = texts_of c.args.words.now in
    let has = subst (HasForm words) c.in-Replay.is c.requires in
    let same = one_read words (codes "node") has.0 _ (node_read words has.0 has.1) c.in_ok-name-in-Replay.ensures in
    must_ask (codes "replay") (codes "node") (codes "NODE") replay words has.0 refl has.1 ∙ ap replay same

pub returns-in-Alone : goal.returns-in-Alone
returns-in-Alone c =
    let words = texts_of c.args.words.now in
    alone_asks words c.in-Alone.alone (subst (HasForm words) c.in-Alone.is c.requires).1.0
