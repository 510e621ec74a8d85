-- One more section.
use Rattle.std.proofs.Common.{◌≡◌, ◌++◌, ◌+◌, ◌<◌, length, get_or, take, List, add-one, refl, sym, ap, ◌∙◌, arith}
use Rattle.elf_read.specs.Places.{joined}
use Rattle.elf_write.specs.declared.part.Part.{Part}
use Rattle.elf_write.specs.declared.part.Part.TheVariants.{Null}
use Rattle.elf_write.specs.File.{sections_of, body_of, header_of}
use Rattle.elf_write.proofs.SizeLemmas.{name-short, next_name}
use Rattle.elf_write.proofs.file.put_parts.Goals as goal

pub loop-k-preserved : goal.loop-k-preserved
loop-k-preserved c =
    let object = c.args.object.now in
    let k = c.loop-k.k in
    let is = c.requires.parts in
    let within : k < length (sections_of object) = rw is at c.loop-k-test.true in
    let part = get_or c.args.parts.now k Null in
    let here = ap (λ (s : List Part). get_or s k Null) (sym is) in
    let next = next_name object k part within here in
    let short = name-short part in
    let length_is = ap length c.section_name.ensures in
    let one : joined (header_of object) (k + 1) ≡ joined (header_of object) k ++ header_of object k = rw add-one refl in
    record {
      contents = c.in_ok-put_part.ensures.body ∙ ap (λ (s : List Part). body_of object (take (k + 1) s)) is;
      each = rw (one, ← c.loop-k.invariant.each) c.in_ok-put_part.ensures.header;
      place = omega (arith, next, length_is, c.loop-k.invariant.place);
      small = omega (arith, length_is, short, c.loop-k.invariant.small);
    }
