-- The statement of a word makes this word again.
use Rattle.std.proofs.Common.{◌≡◌, ℕ, ◌+◌, ◌%◌, ◌^◌, ◌<◌, ◌==◌, ◌&&◌, Bool, true, false, Option, Some, None, List, ℤ, pos, negsuc, refl, sym, ap, ◌∙◌, arith}
use Rattle.std.specs.Prelude.{nat_lt, is_some, if◌then◌else◌}
use Rattle.std.proofs.lemmas.Bool.{cond-true, and_from, lt-ltb, eq-eqb, eqb-true}
use Rattle.rv_insn.specs.declared.insn.Insn.{Insn}
use Rattle.rv_insn.specs.declared.insn.Insn.TheVariants as insns
use Rattle.rv_insn.specs.declared.opcode.TheConstants as opcodes
use Rattle.rv_insn.specs.Word.{IsSigned, IsEven}
use Rattle.rv_insn.specs.Rows.{imm_funct7}
use Rattle.rv_insn.specs.Insn.{IsImmOf, InRange, word_of}
use Rattle.rv_insn.specs.InsnOf.{insn_of}
use Rattle.rv_insn.proofs.IsWordLemmas.{IsWord-insn_of}
use Rattle.rv_text.specs.declared.text.TheConstants.{FULL_FENCE}
use Rattle.rv_line.specs.declared.statement.Low.TheVariants as lows
use Rattle.rv_names.specs.declared.names.Entry.{Entry}
use Rattle.rv_asm.specs.declared.words.Words.TheVariants.{One}
use Rattle.rv_asm.specs.Words.{signed_field, is_even, offset_field, unsigned_field, low_field, shift_field, one, words_of}
use Rattle.rv_insn.specs.Fields.{is_signed}
use Rattle.rv_listing_law.specs.Back.{number_statement, fence_statement, statement_of, read_statement, word_statement}

-- numbers in range are in their fields
is_signed-range : (half : ℕ) (imm : ℤ) → IsSigned half imm → is_signed half imm ≡ true
is_signed-range half (pos n) h = lt-ltb n half h
is_signed-range half (negsuc n) h = lt-ltb n half h

is_even-range : (off : ℤ) → IsEven off → is_even off ≡ true
is_even-range (pos n) h = eq-eqb (n % 2) 0 h
is_even-range (negsuc n) h = eq-eqb (n % 2) 1 h

signed_field-range : (half : ℕ) (imm : ℤ) → IsSigned half imm → signed_field half imm ≡ Some imm
signed_field-range half imm h = cond-true (is_signed half imm) _ _ (is_signed-range half imm h)

offset_field-range : (half : ℕ) (off : ℤ) → IsSigned half off → IsEven off → offset_field half off ≡ Some off
offset_field-range half off h k =
    cond-true (is_signed half off && is_even off) _ _ (and_from _ _ (is_signed-range half off h) (is_even-range off k))

unsigned_field-range : (most n : ℕ) → n < most → unsigned_field most (pos n) ≡ Some n
unsigned_field-range most n h = cond-true (nat_lt n most) _ _ (lt-ltb n most h)

imm_field-range : (funct7 : Option ℕ) (imm : ℤ) → IsImmOf funct7 imm →
    (if is_some funct7 then shift_field (lows.Number imm) else low_field (lows.Number imm)) ≡ Some imm
imm_field-range None imm h = signed_field-range (2 ^ 11) imm h
imm_field-range (Some funct7) (pos n) h = cond-true (nat_lt n 32) _ _ (lt-ltb n 32 h)
imm_field-range (Some funct7) (negsuc n) h = absurd h

module _ (table : List Entry) (at : ℕ) where
  -- words by their numbers, and fences
  words_of-number : (word : ℕ) → word < 2 ^ 32 → words_of table at (number_statement word) ≡ Some (One word)
  words_of-number word small =
      let same : word % 2 ^ 32 ≡ word = omega (arith, small) in
      ap (λ w. Some (One w)) same

  words_of-fence : (word : ℕ) → word < 2 ^ 32 → (v : Bool) → (word == FULL_FENCE) ≡ v →
      words_of table at (fence_statement word) ≡ Some (One word)
  words_of-fence word small true is = rw is (ap (λ w. Some (One w)) (sym (eqb-true word FULL_FENCE is)))
  words_of-fence word small false is = rw is (words_of-number word small)

  -- instructions
  words_of-insn : (insn : Insn) → InRange insn → word_of insn < 2 ^ 32 →
      words_of table at (statement_of insn) ≡ Some (one insn)
  words_of-insn (insns.Lui rd imm) h small = rw (unsigned_field-range (2 ^ 20) imm h.1) refl
  words_of-insn (insns.Auipc rd imm) h small = rw (unsigned_field-range (2 ^ 20) imm h.1) refl
  words_of-insn (insns.Jal rd off) h small = rw (offset_field-range (2 ^ 20) off h.1 h.2) refl
  words_of-insn (insns.Jalr rd rs1 imm) h small = rw (signed_field-range (2 ^ 11) imm h.2) refl
  words_of-insn (insns.Branch condition rs1 rs2 off) h small = rw (offset_field-range (2 ^ 12) off h.2 h.3) refl
  words_of-insn (insns.Load kind rd rs1 imm) h small = rw (signed_field-range (2 ^ 11) imm h.2) refl
  words_of-insn (insns.Store kind rs1 rs2 imm) h small = rw (signed_field-range (2 ^ 11) imm h.2) refl
  words_of-insn (insns.OpImm op rd rs1 imm) h small = rw (imm_field-range (imm_funct7 op) imm h.2) refl
  words_of-insn (insns.Op op rd rs1 rs2) h small = refl
  words_of-insn (insns.Fence fields) h small =
      words_of-fence (opcodes.FENCE + fields) small (opcodes.FENCE + fields == FULL_FENCE) refl
  words_of-insn insns.Ecall h small = refl
  words_of-insn insns.Ebreak h small = refl

  -- words
  words_of-read : (word : ℕ) → word < 2 ^ 32 → (o : Option Insn) → insn_of word ≡ o →
      words_of table at (read_statement o word) ≡ Some (One word)
  words_of-read word small None is = words_of-number word small
  words_of-read word small (Some insn) is =
      let word_is = IsWord-insn_of word insn small is in
      words_of-insn insn word_is.range (omega (arith, small, word_is.spelled))
      ∙ ap (λ w. Some (One w)) (sym word_is.spelled)

  pub words_of-word : (word : ℕ) → word < 2 ^ 32 → words_of table at (word_statement word) ≡ Some (One word)
  words_of-word word small = words_of-read word small (insn_of word) refl
