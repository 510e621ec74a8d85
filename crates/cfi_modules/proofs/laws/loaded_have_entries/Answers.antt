use Rattle.cfi_modules.proofs.ImageLemmas.{addresses, entry_start}
use Rattle.cfi_modules.proofs.laws.loaded_have_entries.Goals as goal

pub returns-clause-addresses : goal.returns-clause-addresses
returns-clause-addresses c = addresses

pub returns-clause-starts : goal.returns-clause-starts
returns-clause-starts c = λ code_words ms live image n name address loaded of entry.
    entry_start code_words ms loaded live image of n name address entry
