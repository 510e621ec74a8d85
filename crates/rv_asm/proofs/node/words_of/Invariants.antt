use Rattle.std.proofs.Common.{◌≡◌, map, take}
use Rattle.rv_asm.specs.Words.{low_word}
use Rattle.rv_asm.proofs.node.words_of.Given as goal

-- the words are those of the fields so far
abbrev pub invariant-loop-field : goal.invariant-loop-field
invariant-loop-field l = l.words.items ≡ map low_word (take l.field-index l.fields)
