use Rattle.std.proofs.Common.{◌≡◌, ◌++◌, length, take}
use Rattle.std.specs.List.{flat_map}
use Rattle.cfi_type_table.specs.Spelling.{word}
use Rattle.cfi_type_table.proofs.writing.put_node.Given as goal

abbrev pub invariant-loop-field : goal.invariant-loop-field
invariant-loop-field l =
    l.out.items ≡ l.fn.out.items ++
    (word l.node.kind ++ (word (length l.fields) ++ flat_map word (take l.field-index l.fields)))
