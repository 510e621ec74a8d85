-- The last call of a shelf that was not done, and which one it is after a further call.
use Rattle.std.specs.Prelude.{List, ℕ, Option, Some, Result, Ok, Err}
use Rattle.cfi_io.specs.declared.fault.ShelfFault.{ShelfFault}
use Rattle.cfi_io.specs.declared.fault.ShelfFault.TheVariants.{Failed, Absent, TooLong, Memory}
use Rattle.cfi_io.specs.declared.undone.Undone.{Undone}
use Rattle.cfi_io.specs.declared.undone.Undone.TheVariants.{Read, Missed, Write}

-- after a read of this name
abbrev pub after_read : {X : Type 0} → (name : List ℕ) → Result X ShelfFault → (last : Option Undone) → Option Undone
after_read name (Ok bytes) last = last
after_read name (Err Failed) last = Some (Read name)
after_read name (Err Absent) last = Some (Missed name)
after_read name (Err TooLong) last = Some (Missed name)
after_read name (Err Memory) last = last

-- after a write of this name, for which a shelf fails or lacks memory
abbrev pub after_write : {X : Type 0} → (name : List ℕ) → Result X ShelfFault → (last : Option Undone) → Option Undone
after_write name (Err Failed) last = Some (Write name)
after_write name result last = last
