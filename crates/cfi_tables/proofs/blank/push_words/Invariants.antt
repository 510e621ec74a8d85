use Rattle.std.proofs.Common.{◌≡◌, ◌++◌, map, take}
use Rattle.cfi_tables.specs.inner.Stamps.{word_by}
use Rattle.cfi_tables.proofs.blank.push_words.Given as goal

abbrev pub invariant-loop-class : goal.invariant-loop-class
invariant-loop-class l =
    l.words.items ≡ l.fn.words.items ++ map (word_by l.stamp) (take l.class-index l.classes)
