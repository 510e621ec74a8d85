-- The section headers begin within the file.
use Rattle.std.proofs.Common.{◌+◌, ◌<◌, ◌^◌, length, ap, arith}
use Rattle.elf_write.specs.File.{body_of}
use Rattle.elf_write.proofs.SizeLemmas.{body-within}
use Rattle.elf_write.proofs.file.file_of.Goals as goal

pub overflow_cast-len : goal.overflow_cast-len
overflow_cast-len c =
    let all : 52 + length (body_of c.args.object.now c.args.parts.now) < 2 ^ 32 =
    rw c.requires.parts (body-within c.args.object.now c.requires.writable) in
    omega (arith, all, ap length c.in_ok-body.ensures.body)
