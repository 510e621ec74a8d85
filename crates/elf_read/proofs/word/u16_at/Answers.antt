-- The number in the rest of the bytes is the one at the place.
use Rattle.std.proofs.Common.{◌≡◌, ◌+◌, drop, arith, ap, ◌∙◌}
use Rattle.byteorder.specs.Endian.{little_from}
use Rattle.elf_read.specs.Words.{u16_at}
use Rattle.elf_read.proofs.WordLemmas.{little_from-drop}
use Rattle.elf_read.proofs.word.u16_at.Goals as goal

pub returns : goal.returns
unfolding u16_at
returns c =
    let at = c.args.at in
    let bytes = c.args.bytes.now in
    let place : at + 0 ≡ at = omega arith in
    let read : c.read_u16.result ≡ little_from 0 2 (drop at bytes) = rw (← c.rest.ensures) c.read_u16.ensures in
    read ∙ little_from-drop 2 at 0 bytes ∙ ap (λ i. little_from i 2 bytes) place
