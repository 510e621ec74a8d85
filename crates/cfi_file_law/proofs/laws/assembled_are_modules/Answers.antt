use Rattle.std.proofs.Common.{refl}
use Rattle.cfi_made_law.specs.Order.{object_of_file, module_of_file}
use Rattle.cfi_file_law.proofs.FileLemmas.{kept}
use Rattle.cfi_file_law.proofs.AsmSourceLemmas.{source-made, source-spelled, source-bare, source-long}
use Rattle.cfi_file_law.proofs.laws.assembled_are_modules.Goals as goal

pub returns-clause-bare : goal.returns-clause-bare
returns-clause-bare c = λ text file short is read off. (
  object_of_file is.object,
  c.assembled_are_read.ensures text file short is read,
  source-bare text is.object is.is off,
  λ same. cc,
)

pub returns-clause-module : goal.returns-clause-module
returns-clause-module c = λ text file short is read on few. (
  module_of_file (source-made text is.object is.is),
  record { object_is = refl; types = refl; records = refl },
  record {
    object = object_of_file is.object;
    is = c.assembled_are_read.ensures text file short is read;
    whole = kept (source-made text is.object is.is) (source-spelled text is.object is.is on few);
  },
)

pub returns-clause-long : goal.returns-clause-long
returns-clause-long c = λ text file short is read on number first. (
  object_of_file is.object,
  c.assembled_are_read.ensures text file short is read,
  source-long text is.object is.is on number first,
  λ same. cc,
)
