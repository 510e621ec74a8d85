use Rattle.std.proofs.Common.{take}
use Rattle.cfi_request.specs.Reading.{AreRead}
use Rattle.cfi_request.specs.Outside.{IsLater}
use Rattle.cfi_request.proofs.reading.read_files.Given as goal

-- the files so far were read, and no count fell
abbrev pub invariant-loop-name : goal.invariant-loop-name
invariant-loop-name g l =
    let old = g.F.Shelf.seen l.fn.shelf in
    let now = g.F.Shelf.seen l.shelf in
    record { read : AreRead old (take l.name-index l.names) l.files.items; later : IsLater old now }
