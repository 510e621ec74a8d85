-- A short form says what the instruction says that it stands for.
use Rattle.std.proofs.Common.{◌≡◌, ℕ, pos, List, [], ◌∷◌, Option, Some, None, option_map, if◌then◌else◌, refl, sym, ap}
use Rattle.std.specs.Prelude.{codes, option_and_then}
use Rattle.std.specs.Fmt.{digits}
use Rattle.cfi_text.specs.Decimal.{number_in, small_number_in}
use Rattle.cfi_values.specs.Some.{◌>>=◌}
use Rattle.rv_insn.specs.declared.insn.ImmOp.TheVariants.{Addi}
use Rattle.rv_line.specs.declared.keyword.Mnemonic.TheVariants as mnemonic
use Rattle.rv_line.specs.declared.keyword.Short.TheVariants as short
use Rattle.rv_line.specs.declared.statement.Low.{Low}
use Rattle.rv_line.specs.declared.statement.Low.TheVariants as lows
use Rattle.rv_line.specs.declared.statement.Statement.{Statement}
use Rattle.rv_line.specs.declared.statement.Statement.TheVariants as statements
use Rattle.rv_line.specs.declared.statement.Target.{Target}
use Rattle.rv_line.specs.Immediate.{low_in}
use Rattle.rv_line.specs.Number.{integer_in}
use Rattle.rv_line.specs.Operand.{only_word, operand, no_operands, one, two}
use Rattle.rv_line.specs.Register.{named_register, register_in}
use Rattle.rv_line.specs.Statement.{imm_op_by, insn_in, short_in}
use Rattle.rv_line.specs.Target.{target_in}

-- the words that the instructions have
zero-register : register_in (codes "x0") ≡ Some 0
unfolding digits number_in named_register
zero-register = refl

zero-low : low_in (codes "0") ≡ Some (lows.Number (pos 0))
unfolding digits number_in small_number_in integer_in low_in
zero-low = refl

abbrev copy : (rd rs1 : ℕ) → Statement
copy rd rs1 = statements.OpImm Addi rd rs1 (lows.Number (pos 0))

nop-insn :
    insn_in (mnemonic.OpImm Addi) (operand (codes "x0") ∷ operand (codes "x0") ∷ operand (codes "0") ∷ [])
    ≡ Some (copy 0 0)
nop-insn = rw (zero-register, zero-low) refl

pub nop-stands : (operands : List (List (List ℕ)))
    → (if no_operands operands then Some (copy 0 0) else None) ≡ short_in short.Nop operands
nop-stands operands = ap (λ (o : Option Statement). if no_operands operands then o else None) (sym nop-insn)

-- what is read of three operands
abbrev read_copy : Option (ℕ × ℕ × Low) → Option Statement
read_copy found = option_and_then (λ (p : ℕ × ℕ × Low). imm_op_by Addi p.0 p.1 p.2) found

-- one register, and no second operand that counts
few : (first second : Option ℕ)
    → option_map (λ (p : ℕ × ℕ). copy p.0 p.1) (first >>= (λ a. None))
    ≡ read_copy (first >>= (λ a. (second >>= (λ b. None)) >>= (λ (more : ℕ × Low). Some (a, more.0, more.1))))
few None second = refl
few (Some a) None = refl
few (Some a) (Some b) = refl

none : (first : Option ℕ) → None ≡ read_copy (first >>= (λ a. None))
none None = refl
none (Some a) = refl

-- two registers, and a zero behind them
both : (first second : Option ℕ)
    → option_map (λ (p : ℕ × ℕ). copy p.0 p.1) (first >>= (λ a. second >>= (λ b. Some (a, b))))
    ≡ read_copy (first >>= (λ a.
    (second >>= (λ b. Some (b, lows.Number (pos 0)))) >>= (λ (more : ℕ × Low). Some (a, more.0, more.1))))
both None second = refl
both (Some a) None = refl
both (Some a) (Some b) = refl

pub mv-stands : (operands : List (List (List ℕ)))
    → option_map (λ (p : ℕ × ℕ). copy p.0 p.1) (two register_in register_in operands) ≡ short_in short.Mv operands
mv-stands [] = none (register_in (codes "0"))
mv-stands (words ∷ []) = few (option_and_then register_in (only_word words)) (register_in (codes "0"))
mv-stands (words ∷ more ∷ []) =
    rw zero-low (both (option_and_then register_in (only_word words)) (option_and_then register_in (only_word more)))
mv-stands (words ∷ more ∷ other ∷ []) =
    few (option_and_then register_in (only_word words)) (option_and_then register_in (only_word more))
mv-stands (words ∷ more ∷ other ∷ others ∷ rest) =
    few (option_and_then register_in (only_word words)) (option_and_then register_in (only_word more))

jump : (o : Option Target) → option_map (λ target. statements.Jal 0 target) o
    ≡ option_map (λ (p : ℕ × Target). statements.Jal p.0 p.1) (o >>= (λ target. Some (0, target)))
jump None = refl
jump (Some target) = refl

pub j-stands : (operands : List (List (List ℕ)))
    → option_map (λ target. statements.Jal 0 target) (one target_in operands) ≡ short_in short.J operands
j-stands operands = rw zero-register (jump (one target_in operands))
