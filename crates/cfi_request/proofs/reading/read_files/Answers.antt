use Rattle.std.proofs.Common.{[], refl, sym, subst, arith}
use Rattle.cfi_request.specs.Reading.{AreRead}
use Rattle.cfi_request.proofs.ReadingLemmas.{none_read}
use Rattle.cfi_request.proofs.reading.read_files.Goals as goal

-- no file is read yet
pub loop-name-init : goal.loop-name-init
loop-name-init g c =
    let shelf = c.args.shelf.now in
    let old = g.F.Shelf.seen shelf in
    record {
      read = subst (AreRead old []) (sym c.new-files.ensures.items) (none_read old);
      later = record { files = refl; faults = omega arith; misses = omega arith };
    }
