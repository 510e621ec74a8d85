-- One entry more, and one byte more.
use Rattle.std.proofs.Common.{ℕ, ◌<◌, List, [], ◌∷◌, ◌++◌}
use Rattle.std.specs.List.{AllByRecursion}
use Rattle.cfi_unit.specs.declared.log.Log.{Log}
use Rattle.cfi_guest_part.specs.Part.{IsEntry}

pub entries_push : (log : List Log) (entry : Log) → AllByRecursion IsEntry log → IsEntry entry
    → AllByRecursion IsEntry (log ++ entry ∷ [])
entries_push [] entry all one = (one, tt)
entries_push (first ∷ log) entry all one = (all.0, entries_push log entry all.1 one)

pub bytes_push : (bytes : List ℕ) (byte : ℕ) → AllByRecursion (λ b. b < 256) bytes → byte < 256
    → AllByRecursion (λ b. b < 256) (bytes ++ byte ∷ [])
bytes_push [] byte all one = (one, tt)
bytes_push (first ∷ bytes) byte all one = (all.0, bytes_push bytes byte all.1 one)
