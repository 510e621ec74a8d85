-- The name that a statement refers to, as the code has it.
use Rattle.std.specs.Prelude.{ℕ, List}
use Rattle.rv_asm.specs.declared.reference.Reference.{Reference}

-- a reference as the relocation's kind and the name's bytes
abbrev pub shown : Reference → ℕ × List ℕ
shown reference = (reference.kind, reference.name.now)
