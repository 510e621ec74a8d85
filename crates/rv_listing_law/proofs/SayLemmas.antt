-- The text of an instruction says its statement.
use Rattle.std.proofs.Common.{◌≡◌, ℕ, ◌+◌, ◌^◌, ◌<◌, ◌==◌, Bool, true, false, Option, Some, None, List, [], ◌∷◌, ◌++◌, ℤ, pos, negsuc, map, refl, ap, ◌∙◌, append_assoc, arith}
use Rattle.std.specs.Prelude.{codes}
use Rattle.cfi_text.specs.Words.{words_in}
use Rattle.rv_insn.specs.declared.insn.Insn.{Insn}
use Rattle.rv_insn.specs.declared.insn.Insn.TheVariants as insns
use Rattle.rv_insn.specs.declared.opcode.TheConstants as opcodes
use Rattle.rv_insn.specs.Word.{IsSigned}
use Rattle.rv_insn.specs.Rows.{imm_funct7}
use Rattle.rv_insn.specs.Insn.{IsImmOf, IsWord}
use Rattle.rv_insn.specs.InsnOf.{insn_of}
use Rattle.rv_insn.proofs.IsWordLemmas.{IsWord-insn_of}
use Rattle.rv_text.specs.declared.text.TheConstants.{FULL_FENCE}
use Rattle.rv_text.specs.Text.{word_number, fence_text, text_of, read_text, word_text}
use Rattle.rv_line.specs.declared.keyword.Mnemonic.{Mnemonic}
use Rattle.rv_line.specs.declared.keyword.Mnemonic.TheVariants as mnemonic
use Rattle.rv_line.specs.declared.statement.Statement.{Statement}
use Rattle.rv_line.specs.Keyword.{called, mnemonic_text}
use Rattle.rv_line.specs.Operand.{cut, operands_in, operand}
use Rattle.rv_line.specs.Statement.{insn_in, form_of}
use Rattle.rv_line.specs.Line.{line_of, line_in}
use Rattle.rv_listing_law.specs.Back.{number_statement, fence_statement, statement_of, read_statement, plain_line, word_line, first_line}
use Rattle.rv_listing_law.proofs.ByteLemmas.{AllPass, AllPass-append, differs, is_clear, line-clear, comment-clear, label-clear}
use Rattle.rv_listing_law.proofs.LineLemmas.{line_in-comment}
use Rattle.rv_listing_law.proofs.OperandLemmas.{AreOperands, last, more, operands-after}
use Rattle.rv_listing_law.proofs.PartLemmas.{IsRead-register, IsRead-low, IsRead-target, IsRead-high, IsRead-datum, IsRead-place}
use Rattle.rv_listing_law.proofs.KeywordLemmas.{said_line, Selects, Selects-insn, Selects-word}

-- a text before a comment says this statement
pub record Says (text : List ℕ) (statement : Statement) : Type 0 where
  pub clear : AllPass is_clear text
  pub same : line_of None (text ++ 32 ∷ []) ≡ plain_line statement

-- a word and operands
module _ {name rest text : List ℕ} {form : List (List (List ℕ)) → Option Statement} {words : List (List ℕ)}
    {statement : Statement} (selects : Selects name form) (are : AreOperands rest words)
  where
    Says-by : text ≡ name ++ 32 ∷ rest → form (map operand words) ≡ Some statement → Says text statement
    Says-by same says = record {
      clear = rw same (AllPass-append is_clear name (32 ∷ rest) selects.clear are.clear);
      same = ap (λ t. line_of None (t ++ 32 ∷ [])) same
          ∙ ap (line_of None) (append_assoc name (32 ∷ rest) (32 ∷ [])) ∙ selects.same (rest ++ 32 ∷ [])
          ∙ ap (λ operands. said_line (form operands)) (operands-after (rest ++ 32 ∷ []) ∙ are.same)
          ∙ ap said_line says;
    }

-- an instruction with operands
Says-text : (insn : Mnemonic) {text rest : List ℕ} {words : List (List ℕ)} {statement : Statement} →
    AreOperands rest words → text ≡ mnemonic_text insn ++ 32 ∷ rest →
    insn_in insn (map operand words) ≡ Some statement → Says text statement
Says-text insn = Says-by (Selects-insn insn)

-- one without
Says-alone : (insn : Mnemonic) (statement : Statement) → insn_in insn ([] ∷ []) ≡ Some statement →
    Says (mnemonic_text insn) statement
unfolding words_in operands_in
Says-alone insn statement says = record {
  clear = (Selects-insn insn).clear;
  same = (Selects-insn insn).same [] ∙ ap said_line says;
}

-- a shift's places are an immediate too
signed_imm : (funct7 : Option ℕ) (imm : ℤ) → IsImmOf funct7 imm → IsSigned (2 ^ 11) imm
signed_imm None imm h = h
signed_imm (Some funct7) (pos n) h = omega (arith, h)
signed_imm (Some funct7) (negsuc n) h = absurd h

-- a branch's offset is within that of a jump
wide_offset : (off : ℤ) → IsSigned (2 ^ 12) off → IsSigned (2 ^ 20) off
wide_offset (pos n) h = omega (arith, h)
wide_offset (negsuc n) h = omega (arith, h)

-- words by their numbers, and fences
Says-word : (word : ℕ) → word < 2 ^ 32 → Says (word_number word) (number_statement word)
Says-word word h =
    let number = IsRead-datum word h in
    Says-by Selects-word (last number) refl (rw number.same refl)

Says-fence : (word : ℕ) → word < 2 ^ 32 → (v : Bool) → (word == FULL_FENCE) ≡ v →
    Says (fence_text word) (fence_statement word)
Says-fence word h true is = rw is (Says-alone mnemonic.Fence _ refl)
Says-fence word h false is = rw is (Says-word word h)

-- instructions
Says-insn : (insn : Insn) (word : ℕ) → word < 2 ^ 32 → IsWord insn word → Says (text_of insn) (statement_of insn)
Says-insn (insns.Lui rd imm) word small is =
    let first = IsRead-register rd is.range.0 in
    let second = IsRead-high imm is.range.1 in
    Says-text mnemonic.Lui (more first (last second)) (simp append_assoc) (rw (first.same, second.same) refl)
Says-insn (insns.Auipc rd imm) word small is =
    let first = IsRead-register rd is.range.0 in
    let second = IsRead-high imm is.range.1 in
    Says-text mnemonic.Auipc (more first (last second)) (simp append_assoc) (rw (first.same, second.same) refl)
Says-insn (insns.Jal rd off) word small is =
    let first = IsRead-register rd is.range.0 in
    let second = IsRead-target off is.range.1 in
    Says-text mnemonic.Jal (more first (last second)) (simp append_assoc) (rw (first.same, second.same) refl)
Says-insn (insns.Jalr rd rs1 imm) word small is =
    let first = IsRead-register rd is.range.0 in
    let second = IsRead-place imm rs1 is.range.2 is.range.1 in
    Says-text mnemonic.Jalr (more first (last second)) (simp append_assoc) (rw (first.same, second.same) refl)
Says-insn (insns.Branch condition rs1 rs2 off) word small is =
    let first = IsRead-register rs1 is.range.0 in
    let second = IsRead-register rs2 is.range.1 in
    let third = IsRead-target off (wide_offset off is.range.2) in
    Says-text (mnemonic.Branch condition) (more first (more second (last third))) (simp append_assoc)
    (rw (first.same, second.same, third.same) refl)
Says-insn (insns.Load kind rd rs1 imm) word small is =
    let first = IsRead-register rd is.range.0 in
    let second = IsRead-place imm rs1 is.range.2 is.range.1 in
    Says-text (mnemonic.Load kind) (more first (last second)) (simp append_assoc) (rw (first.same, second.same) refl)
Says-insn (insns.Store kind rs1 rs2 imm) word small is =
    let first = IsRead-register rs2 is.range.1 in
    let second = IsRead-place imm rs1 is.range.2 is.range.0 in
    Says-text (mnemonic.Store kind) (more first (last second)) (simp append_assoc) (rw (first.same, second.same) refl)
Says-insn (insns.OpImm op rd rs1 imm) word small is =
    let first = IsRead-register rd is.range.0 in
    let second = IsRead-register rs1 is.range.1 in
    let third = IsRead-low imm (signed_imm (imm_funct7 op) imm is.range.2) in
    Says-text (mnemonic.OpImm op) (more first (more second (last third))) (simp append_assoc)
    (rw (first.same, second.same, third.same) refl)
Says-insn (insns.Op op rd rs1 rs2) word small is =
    let first = IsRead-register rd is.range.0 in
    let second = IsRead-register rs1 is.range.1 in
    let third = IsRead-register rs2 is.range.2 in
    Says-text (mnemonic.Op op) (more first (more second (last third))) (simp append_assoc)
    (rw (first.same, second.same, third.same) refl)
Says-insn (insns.Fence fields) word small is =
    Says-fence (opcodes.FENCE + fields) (omega (arith, small, is.spelled)) (opcodes.FENCE + fields == FULL_FENCE) refl
Says-insn insns.Ecall word small is = Says-alone mnemonic.Ecall _ refl
Says-insn insns.Ebreak word small is = Says-alone mnemonic.Ebreak _ refl

-- words
says_read : (word : ℕ) → word < 2 ^ 32 → (o : Option Insn) → insn_of word ≡ o →
    Says (read_text o word) (read_statement o word)
says_read word small None is = Says-word word small
says_read word small (Some insn) is = Says-insn insn word small (IsWord-insn_of word insn small is)

pub line-word : (word : ℕ) → word < 2 ^ 32 → AllPass (differs 10) (word_text word)
line-word word small = line-clear (word_text word) (says_read word small (insn_of word) refl).clear

pub line_in-word : (word : ℕ) (comment : List ℕ) → word < 2 ^ 32 →
    line_in (word_text word ++ (codes " #" ++ comment)) ≡ word_line word
line_in-word word comment small =
    let says = says_read word small (insn_of word) refl in
    line_in-comment (word_text word) comment (comment-clear (word_text word) says.clear) (label-clear (word_text word)
    says.clear) ∙ says.same

pub line_in-first : line_in (codes ".text") ≡ first_line
unfolding called form_of words_in operands_in cut
line_in-first = refl
