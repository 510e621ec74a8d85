-- The first word of a line selects its statement: by computing, a case a mnemonic.
use Rattle.std.proofs.Common.{◌≡◌, ℕ, false, Option, None, option_map, List, ◌∷◌, ◌++◌, refl}
use Rattle.std.specs.Prelude.{codes}
use Rattle.rv_insn.specs.declared.insn.Cond.TheVariants.{Beq}
use Rattle.rv_insn.specs.declared.insn.LoadKind.TheVariants.{Lb}
use Rattle.rv_insn.specs.declared.insn.StoreKind.TheVariants.{Sb}
use Rattle.rv_insn.specs.declared.insn.ImmOp.TheVariants.{Addi}
use Rattle.rv_insn.specs.declared.insn.Op.TheVariants.{Add}
use Rattle.rv_line.specs.declared.keyword.Mnemonic.{Mnemonic}
use Rattle.rv_line.specs.declared.keyword.Mnemonic.TheVariants as mnemonic
use Rattle.rv_line.specs.declared.statement.Statement.{Statement}
use Rattle.rv_line.specs.declared.statement.Statement.TheVariants as statements
use Rattle.rv_line.specs.declared.line.Line.{Line}
use Rattle.rv_line.specs.Keyword.{called, mnemonic_text}
use Rattle.rv_line.specs.Operand.{operands_in, one}
use Rattle.rv_line.specs.Statement.{insn_in, form_of}
use Rattle.rv_line.specs.Target.{datum_in}
use Rattle.rv_line.specs.Line.{line_of}
use Rattle.rv_listing_law.proofs.ByteLemmas.{AllPass, is_clear}

-- a line without a label, which is none of the records
abbrev pub said_line : Option Statement → Line
said_line statement = record { label = None; statement = statement; records = false }

-- the word has its operands read so
pub record Selects (name : List ℕ) (form : List (List (List ℕ)) → Option Statement) : Type 0 where
  pub clear : AllPass is_clear name
  pub same : (rest : List ℕ) → line_of None (name ++ 32 ∷ rest) ≡ said_line (form (operands_in (32 ∷ rest)))

pub Selects-insn : (insn : Mnemonic) → Selects (mnemonic_text insn) (insn_in insn)
unfolding called form_of
Selects-insn (mnemonic.Op Add) = record { clear = refl; same = λ rest. refl }
Selects-insn (mnemonic.OpImm Addi) = record { clear = refl; same = λ rest. refl }
Selects-insn (mnemonic.Load Lb) = record { clear = refl; same = λ rest. refl }
Selects-insn (mnemonic.Store Sb) = record { clear = refl; same = λ rest. refl }
Selects-insn (mnemonic.Branch Beq) = record { clear = refl; same = λ rest. refl }
Selects-insn insn = record { clear = refl; same = λ rest. refl }

pub Selects-word : Selects (codes ".word") (λ operands. option_map statements.Word (one datum_in operands))
unfolding called form_of
Selects-word = record { clear = refl; same = λ rest. refl }
