-- The numbers of a section fit, and its header is the one of its number.
use Rattle.std.proofs.Common.{◌≡◌, ◌++◌, length, arith, subst, List, ℕ}
use Rattle.std.specs.Result.{OnOk}
use Rattle.elf_write.proofs.SizeLemmas.{part-fits, symbols-fit, names-fit, header_is}
use Rattle.elf_write.proofs.file.put_part.Goals as goal

pub place_after-place-requires : goal.place_after-place-requires
place_after-place-requires c =
    let fits = part-fits c.args.object.now c.args.parts.now c.args.k c.args.body.now.items c.requires.writable
    c.requires.parts c.requires.within c.requires.before in
    record { small = omega (arith, fits) }

pub put_padded-requires-clause-names : goal.put_padded-requires-clause-names
put_padded-requires-clause-names c = names-fit c.args.object.now c.requires.writable

pub overflow_cast-size : goal.overflow_cast-size
overflow_cast-size c =
    let fits = part-fits c.args.object.now c.args.parts.now c.args.k c.args.body.now.items c.requires.writable
    c.requires.parts c.requires.within c.requires.before in
    omega (arith, fits, c.in_ok-size.ensures.size)

pub put_header-requires-clause-symbols : goal.put_header-requires-clause-symbols
put_header-requires-clause-symbols c = omega (arith, symbols-fit c.args.object.now c.requires.writable)

pub returns-clause-header : goal.returns-clause-header
returns-clause-header c =
    let size : c.len.result ≡ length c.args.body.now.items = omega arith in
    let is = header_is c.args.object.now c.args.parts.now c.args.k c.len.result c.args.name c.place_after-place.result
    c.args.body.now.items
    c.requires.parts c.requires.before size c.requires.name c.place_after-place.ensures in
    subst (λ (h : List ℕ). OnOk c.put_header.result (c.put_header.new.out.items ≡ c.args.headers.now.items
    ++ h)) is c.put_header.ensures
