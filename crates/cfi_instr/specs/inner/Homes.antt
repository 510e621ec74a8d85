-- Functions in order, and what a search among them finds. Offsets are in bytes.
use Rattle.std.specs.Prelude.{ℕ, Bool, false, ◌&&◌, ◌==◌, List, Option, Some, None}
use Rattle.cfi_aux.specs.declared.records.Function.{Function}
use Rattle.cfi_aux.specs.Extent.{byte_end, DoNotOverlap}
use Rattle.cfi_instr.specs.inner.Functions.{covers}

-- each function ends before those after it begin, or there
abbrev pub AreApart : List Function → Type 0
AreApart functions = DoNotOverlap (λ f. f.offset) byte_end functions

-- there is a function, and it has both offsets
abbrev pub has_both : Option Function → (a b : ℕ) → Bool
has_both None a b = false
has_both (Some f) a b = covers a f && covers b f

-- there is a function, and it begins at the offset
abbrev pub begins_at : Option Function → (offset : ℕ) → Bool
begins_at None offset = false
begins_at (Some f) offset = f.offset == offset
