use Rattle.cfi_word.proofs.IdLemmas.{class_in-id_of, version_in-id_of, low_half-id_of_any, same_versions, same_classes}
use Rattle.cfi_word.proofs.laws.id_laws.Goals as goal

pub returns-clause-class : goal.returns-clause-class
returns-clause-class c = class_in-id_of

pub returns-clause-version : goal.returns-clause-version
returns-clause-version c = version_in-id_of

pub returns-clause-low : goal.returns-clause-low
returns-clause-low c = low_half-id_of_any

pub returns-clause-versions : goal.returns-clause-versions
returns-clause-versions c = same_versions

pub returns-clause-classes : goal.returns-clause-classes
returns-clause-classes c = same_classes
