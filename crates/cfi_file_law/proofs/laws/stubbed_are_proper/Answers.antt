use Rattle.cfi_instr_law.proofs.TypedLemmas.{typed, stay-typed}
use Rattle.cfi_file_law.proofs.StubFileLemmas.{out-whole, out-some}
use Rattle.cfi_file_law.proofs.laws.stubbed_are_proper.Goals as goal

pub returns : goal.returns
returns c bytes file is made room names placed some by fits stands loaded =
    let reads = c.what_is_read_is_sound.ensures in
    c.instrumented_are_proper.ensures is.out made room names placed
    (record {
      made = by;
      some = out-some reads bytes file is some;
      typed = stay-typed is.out made by (typed is.out.object is.out (out-whole reads bytes file is));
      fits = fits;
      stands = stands;
    }) loaded
