use Rattle.std.proofs.Common.{arith}
use Rattle.std.proofs.lemmas.List.{length-take}
use Rattle.cfi_io.proofs.ToldLemmas.{Consumes-take, Consumes-all, IsAtEnd-before}
use Rattle.cfi_io.proofs.pipe.read_file.Goals as goal
use Rattle.cfi_io.proofs.pipe.read_file.Goals.{else-loop-piece-test, then-loop-piece-test+in_ok-count+then-count-eq0}

-- the loop ends with one byte past the limit, or where the reader has given all
pub returns-clause-ok : goal.returns-clause-ok
returns-clause-ok g c = elim c.loop-piece-test.branch [
  | else-loop-piece-test w ↦ Consumes-take _ _ _ 1048577 c.loop-piece.invariant.read (grind arith)
  | then-loop-piece-test+in_ok-count+then-count-eq0 w ↦
      let taken = length-take w.min-room.result c.loop-piece.piece in
      let nothing = w.if-count-eq0.true in
      let end = IsAtEnd-before _ _ _ _ nothing w.in_ok-count.ensures.bytes.0
      (w.in_ok-count.ensures.bytes.1 nothing (omega (arith, w.read.auto.buf, w.min-room.ensures, taken))) in
      Consumes-all _ _ _ 1048577 c.loop-piece.invariant.read end (grind arith)
]
