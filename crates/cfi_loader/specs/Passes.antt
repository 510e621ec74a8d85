-- Passes of guests, and what the answer to an open brings.
use Rattle.std.specs.Prelude.{ℕ, Bool, List, count_by, Option}
use Rattle.cfi_model.specs.Service.{Reply}
use Rattle.cfi_tables.specs.Keeping.{Keeping, heard_of}
use Rattle.cfi_tables.specs.declared.view.PassView.{PassView}
use Rattle.cfi_unit.specs.declared.log.Log.{Log}
use Rattle.cfi_loader.specs.Ledger.{Ledger}
use Rattle.cfi_ledger.specs.Opens.{open_reply}

-- how many passes are out
abbrev pub out_of : Ledger → ℕ
out_of l = count_by (λ (out : Bool). out) l.keeping.out

-- the keeper of the tables keeps something else
abbrev pub with_keeping : Keeping → Ledger → Ledger
with_keeping keeping l = record l { keeping = keeping }

-- the keeper has told a pass what it has seen, and knows what its guest has published
abbrev pub heard_from : PassView → Ledger → Ledger
heard_from p l = with_keeping (heard_of p.guest p.quiet l.keeping) l

-- the answer to an open of a module that is loaded, by the address of its first Global function
abbrev pub reply_with : Ledger → (log : List Log) → (address : Option ℕ) → Reply
reply_with l log address = open_reply l.course.end log address
