-- The words so far are lent in their order.
use Rattle.std.proofs.Common.{◌≡◌, map, string_bytes, take}
use Rattle.wrp_words.specs.Words.{texts_of}
use Rattle.wrnet.proofs.lent.Given as goal

abbrev pub invariant-loop-word : goal.invariant-loop-word
invariant-loop-word l = texts_of l.texts.items ≡ map string_bytes (take l.word-index l.words)
