use Rattle.std.proofs.Common.{◌≡◌, ◌++◌, length, take}
use Rattle.std.specs.List.{flat_map}
use Rattle.cfi_type_table.specs.Spelling.{word}
use Rattle.cfi_aux.proofs.writing.put_words.Given as goal

abbrev pub invariant-loop-number : goal.invariant-loop-number
invariant-loop-number l =
    l.out.items ≡ l.fn.out.items ++
    (word l.kind ++ (word (length l.words) ++ flat_map word (take l.number-index l.words)))
