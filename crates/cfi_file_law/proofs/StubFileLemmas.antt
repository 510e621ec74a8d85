-- The module that a file with stubs was made of, and that it is typed.
use Rattle.std.proofs.Common.{◌≢◌, ℕ, ◌≤◌, List, [], length, refl, sym, subst, inl, inr, arith}
use Rattle.std.proofs.lemmas.Bool.{cases_lt}
use Rattle.std.proofs.lemmas.List.{nil_from_length}
use Rattle.cfi_aux.specs.Modules.{AreSpelled, IsModuleOf}
use Rattle.cfi_commands.specs.Stubbing.{IsStubbedFile}
use Rattle.cfi_made_law.specs.Read.{IsReadOf}
use Rattle.cfi_made_law.proofs.ReadLemmas.{IsFit, read-fit}
use Rattle.cfi_made_law.proofs.SourceLemmas.{ReadIsSound, read-source}
use Rattle.cfi_made_law.proofs.StubWholeLemmas.{stubbed-sound}
use Rattle.cfi_made_law.proofs.StubRecordLemmas.{stubbed-spelled, read-sound}
use Rattle.cfi_made_law.proofs.StubFitLemmas.{stubbed-fits}
use Rattle.cfi_file_law.specs.Saved.{AreBytes}

module _ (reads : ReadIsSound) (bytes file : List ℕ) (is : IsStubbedFile bytes file) where
  source-read : IsReadOf is.source
  source-read = record { bytes = bytes; object = is.is.object; is = is.is.is; whole = is.is.whole }

  pub out-spelled : AreSpelled is.out.object is.out.types is.out.records
  out-spelled =
      stubbed-spelled is.source is.out source-read (read-source reads is.source source-read)
      (read-sound reads is.source source-read) is.within is.made

  pub out-fits : AreBytes bytes → IsFit is.out.object
  out-fits are =
      let object = is.is.object in
      let fit = subst IsFit (sym is.is.whole.object_kept)
      (read-fit bytes object are is.is.is (reads bytes object is.is.is)) in
      stubbed-fits is.source is.out (read-sound reads is.source source-read) is.within is.made fit

  pub out-whole : IsModuleOf is.out.object is.out
  out-whole = record { object_kept = refl; parts = out-spelled }

  -- a text that is not empty has a word
  pub out-some : is.out.object.text ≢ [] → 4 ≤ length is.out.object.text
  out-some some =
      let whole = (stubbed-sound is.source is.out (read-sound reads is.source source-read) is.within
      is.made).object_sound.words in
      elim (cases_lt 0 (length is.out.object.text)) [
        | inl more ↦ omega (arith, whole, more)
        | inr none ↦ absurd (some (nil_from_length is.out.object.text (omega (arith, none))))
      ]
