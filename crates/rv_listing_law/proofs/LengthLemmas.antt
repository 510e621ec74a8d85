-- A listing is short: a line of it has at most 256 bytes.
use Rattle.std.proofs.Common.{ℕ, zero, suc, ◌+◌, ◌-◌, ◌*◌, ◌/◌, ◌%◌, ◌^◌, ◌<◌, ◌≤◌, ◌==◌, Bool, Option, Some, None, List, [], ◌∷◌, ◌++◌, ℤ, pos, negsuc, length, refl, ap, inl, inr, arith, length-append}
use Rattle.std.specs.Prelude.{slice_index, codes}
use Rattle.std.specs.Fmt.{decimal, signed_decimal, digits, digits_onto, digit_glyph}
use Rattle.std.proofs.lemmas.Bool.{cases_Bool}
use Rattle.cfi_text.specs.Hex.{hex_digit, hex_digits, hex8_text}
use Rattle.cfi_word.specs.declared.limits.TheConstants.{MAX_WORDS}
use Rattle.cfi_unit.specs.declared.unit.Unit.{Unit as CodeUnit}
use Rattle.cfi_unit.specs.declared.unit.Unit.TheVariants as units
use Rattle.rv_insn.specs.declared.insn.Insn.{Insn}
use Rattle.rv_insn.specs.declared.insn.Insn.TheVariants as insns
use Rattle.rv_insn.specs.declared.insn.Cond.TheVariants.{Beq}
use Rattle.rv_insn.specs.declared.insn.LoadKind.TheVariants.{Lb}
use Rattle.rv_insn.specs.declared.insn.StoreKind.TheVariants.{Sb}
use Rattle.rv_insn.specs.declared.insn.ImmOp.TheVariants.{Addi}
use Rattle.rv_insn.specs.declared.insn.Op.TheVariants.{Add}
use Rattle.rv_insn.specs.declared.opcode.TheConstants as opcodes
use Rattle.rv_insn.specs.InsnOf.{insn_of}
use Rattle.rv_line.specs.declared.keyword.Mnemonic.{Mnemonic}
use Rattle.rv_line.specs.declared.keyword.Mnemonic.TheVariants as mnemonic
use Rattle.rv_line.specs.Keyword.{mnemonic_text}
use Rattle.rv_text.specs.declared.text.TheConstants.{FULL_FENCE}
use Rattle.rv_text.specs.Names.{cond_name, load_name, store_name, imm_op_name, op_name}
use Rattle.rv_text.specs.Text.{hex, offset_text, upper_text, jump_text, branch_text, place_text, immediate_text, registers_text, word_number, fence_text, text_of, read_text, word_text}
use Rattle.rv_text.specs.Listing.{mark_of, piece_mark, piece_size, ReadAs, line_of, plain_lines, marked_lines, lines_from, IsListing}
use Rattle.rv_text.proofs.ListingLemmas.{IsPieceAt-within}

-- ---- parts

joined : (a b : List ℕ) (m n : ℕ) → length a ≤ m → length b ≤ n → length (a ++ b) ≤ m + n
joined a b m n first second = omega (arith, length-append a b, first, second)

onto-short : (k base : ℕ) (upper : Bool) (n : ℕ) (back : List ℕ) →
    length (digits_onto k base upper n back) ≤ k + length back
onto-short zero base upper n back = omega arith
onto-short (suc k) base upper n back = elim (cases_Bool (n / base == 0)) [
  | inl last ↦ rw last (omega arith)
  | inr more ↦
      let rest = onto-short k base upper (n / base) (digit_glyph upper (n % base) ∷ back) in
      rw more (omega (arith, rest))
]

digits-short : (base : ℕ) (upper : Bool) (n : ℕ) → length (digits base upper n) ≤ 64
unfolding digits
digits-short base upper n = omega (arith, onto-short 64 base upper n [])

decimal-short : (n : ℕ) → length (decimal n) ≤ 64
decimal-short n = digits-short 10 _ n

signed-short : (z : ℤ) → length (signed_decimal z) ≤ 65
signed-short (pos n) = omega (arith, decimal-short n)
signed-short (negsuc n) = omega (arith, decimal-short (suc n))

offset-short : (z : ℤ) → length (offset_text z) ≤ 66
offset-short (pos n) = joined (codes ".+") (decimal n) 2 64 (omega arith) (decimal-short n)
offset-short (negsuc n) = joined (codes ".-") (decimal (suc n)) 2 64 (omega arith) (decimal-short (suc n))

hex-short : (count value : ℕ) → length (hex_digits count value) ≤ count
hex-short zero value = omega arith
hex-short (suc count) value =
    let front = value / 16 in
    omega (arith, length-append (hex_digits count front) (hex_digit (value % 16) ∷ []), hex-short count front)

-- ---- mnemonics

name-short : (insn : Mnemonic) → length (mnemonic_text insn) ≤ 6
name-short (mnemonic.Op Add) = omega arith
name-short (mnemonic.OpImm Addi) = omega arith
name-short (mnemonic.Load Lb) = omega arith
name-short (mnemonic.Store Sb) = omega arith
name-short (mnemonic.Branch Beq) = omega arith
name-short insn = omega arith

-- ---- instructions

-- a name, a register and a comma or more, which are of this length
headed : (name : List ℕ) (r : ℕ) (mid : List ℕ) → length name ≤ 6 → length mid ≤ 3 →
    length (name ++ codes " x" ++ decimal r ++ mid) ≤ 75
headed name r mid short few =
    joined (name ++ codes " x" ++ decimal r) mid 72 3
    (joined (name ++ codes " x") (decimal r) 8 64 (joined name (codes " x") 6 2 short (omega arith)) (decimal-short r))
    few

upper-short : (name : List ℕ) (rd imm : ℕ) → length name ≤ 6 → length (upper_text name rd imm) ≤ 220
upper-short name rd imm short =
    omega (
      arith,
      joined (name ++ codes " x" ++ decimal rd ++ codes ",0x") (hex imm) 75 64
          (headed name rd (codes ",0x") short (omega arith)) (digits-short 16 _ imm),
    )

jump-short : (rd : ℕ) (off : ℤ) → length (jump_text rd off) ≤ 220
jump-short rd off =
    omega (
      arith,
      joined (codes "jal x" ++ decimal rd ++ codes ",") (offset_text off) 70 66
          (joined (codes "jal x" ++ decimal rd) (codes ",") 69 1
          (joined (codes "jal x") (decimal rd) 5 64 (omega arith) (decimal-short rd)) (omega arith)) (offset-short off),
    )

place-short : (name : List ℕ) (r base : ℕ) (imm : ℤ) → length name ≤ 6 → length (place_text name r base imm) ≤ 220
place-short name r base imm short =
    let front = name ++ codes " x" ++ decimal r ++ codes "," in
    omega (
      arith,
      joined (front ++ signed_decimal imm ++ codes "(x" ++ decimal base) (codes ")") 206 1
          (joined (front ++ signed_decimal imm ++ codes "(x") (decimal base) 142 64
          (joined (front ++ signed_decimal imm) (codes "(x") 140 2
          (joined front (signed_decimal imm) 75 65 (headed name r (codes ",") short (omega arith)) (signed-short imm))
          (omega arith)) (decimal-short base)) (omega arith),
    )

-- a second register
second : (name : List ℕ) (r s : ℕ) (mid : List ℕ) → length name ≤ 6 → length mid ≤ 2 →
    length (name ++ codes " x" ++ decimal r ++ codes ",x" ++ decimal s ++ mid) ≤ 141
second name r s mid short few =
    let front = name ++ codes " x" ++ decimal r ++ codes ",x" in
    joined (front ++ decimal s) mid 139 2
    (joined front (decimal s) 75 64 (headed name r (codes ",x") short (omega arith)) (decimal-short s)) few

branch-short : (name : List ℕ) (rs1 rs2 : ℕ) (off : ℤ) → length name ≤ 6 → length (branch_text name rs1 rs2 off) ≤ 220
branch-short name rs1 rs2 off short =
    omega (
      arith,
      joined (name ++ codes " x" ++ decimal rs1 ++ codes ",x" ++ decimal rs2 ++ codes ",") (offset_text off) 141 66
          (second name rs1 rs2 (codes ",") short (omega arith)) (offset-short off),
    )

immediate-short : (name : List ℕ) (rd rs1 : ℕ) (imm : ℤ) → length name ≤ 6 →
    length (immediate_text name rd rs1 imm) ≤ 220
immediate-short name rd rs1 imm short =
    omega (
      arith,
      joined (name ++ codes " x" ++ decimal rd ++ codes ",x" ++ decimal rs1 ++ codes ",") (signed_decimal imm) 141 65
          (second name rd rs1 (codes ",") short (omega arith)) (signed-short imm),
    )

registers-short : (name : List ℕ) (rd rs1 rs2 : ℕ) → length name ≤ 6 → length (registers_text name rd rs1 rs2) ≤ 220
registers-short name rd rs1 rs2 short =
    omega (
      arith,
      joined (name ++ codes " x" ++ decimal rd ++ codes ",x" ++ decimal rs1 ++ codes ",x") (decimal rs2) 141 64
          (second name rd rs1 (codes ",x") short (omega arith)) (decimal-short rs2),
    )

number-short : (word : ℕ) → length (word_number word) ≤ 220
number-short word =
    omega (arith, joined (codes ".word 0x") (hex8_text word) 8 8 (omega arith) (hex-short 8 word))

fence-short : (word : ℕ) → length (fence_text word) ≤ 220
fence-short word = elim (cases_Bool (word == FULL_FENCE)) [
  | inl full ↦ rw full (omega arith)
  | inr other ↦ rw other (number-short word)
]

insn-short : (insn : Insn) → length (text_of insn) ≤ 220
insn-short (insns.Lui rd imm) = upper-short (codes "lui") rd imm (omega arith)
insn-short (insns.Auipc rd imm) = upper-short (codes "auipc") rd imm (omega arith)
insn-short (insns.Jal rd off) = jump-short rd off
insn-short (insns.Jalr rd rs1 imm) = place-short (codes "jalr") rd rs1 imm (omega arith)
insn-short (insns.Branch c rs1 rs2 off) = branch-short (cond_name c) rs1 rs2 off (name-short (mnemonic.Branch c))
insn-short (insns.Load kind rd rs1 imm) = place-short (load_name kind) rd rs1 imm (name-short (mnemonic.Load kind))
insn-short (insns.Store kind rs1 rs2 imm) = place-short (store_name kind) rs2 rs1 imm (name-short (mnemonic.Store kind))
insn-short (insns.OpImm op rd rs1 imm) = immediate-short (imm_op_name op) rd rs1 imm (name-short (mnemonic.OpImm op))
insn-short (insns.Op op rd rs1 rs2) = registers-short (op_name op) rd rs1 rs2 (name-short (mnemonic.Op op))
insn-short (insns.Fence fields) = fence-short (opcodes.FENCE + fields)
insn-short insns.Ecall = omega arith
insn-short insns.Ebreak = omega arith

read-short : (o : Option Insn) (word : ℕ) → length (read_text o word) ≤ 220
read-short None word = number-short word
read-short (Some insn) word = insn-short insn

-- ---- lines

mark-short : (unit : CodeUnit) → length (mark_of unit) ≤ 6
mark-short (units.Load kind rd rs1 imm) = omega arith
mark-short (units.Store kind rs1 rs2 imm) = omega arith
mark-short (units.Check link rs1 imm slot) = omega arith
mark-short unit = omega arith

piece-short : (piece : Option CodeUnit) → length (piece_mark piece) ≤ 6
piece-short None = omega arith
piece-short (Some unit) = mark-short unit

line-short : (word offset : ℕ) (mark : List ℕ) → length mark ≤ 6 → length (line_of word offset mark) ≤ 256
line-short word offset mark few =
    let text = word_text word in
    omega (
      arith,
      joined (text ++ codes " # " ++ hex8_text offset ++ mark) (codes "\n") 237 1
          (joined (text ++ codes " # " ++ hex8_text offset) mark 231 6
          (joined (text ++ codes " # ") (hex8_text offset) 223 8
          (joined text (codes " # ") 220 3 (read-short (insn_of word) word) (omega arith)) (hex-short 8 offset)) few)
          (omega arith),
    )

plain-short : (words : List ℕ) (at count : ℕ) → length (plain_lines words at count) ≤ 256 * count
plain-short words at zero = omega arith
plain-short words at (suc count) =
    omega (
      arith,
      joined (line_of (slice_index words at) (4 * at) []) (plain_lines words (at + 1) count) 256 (256 * count)
          (line-short (slice_index words at) (4 * at) [] (omega arith)) (plain-short words (at + 1) count),
    )

marked-short : (words : List ℕ) (at : ℕ) (mark : List ℕ) (size : ℕ) → 0 < size → length mark ≤ 6 →
    length (marked_lines words at mark size) ≤ 256 * size
marked-short words at mark size some few =
    omega (
      arith,
      some,
      joined (line_of (slice_index words at) (4 * at) mark) (plain_lines words (at + 1) (size - 1)) 256
          (256 * (size - 1)) (line-short (slice_index words at) (4 * at) mark few)
          (plain-short words (at + 1) (size - 1)),
    )

lines-short : (words : List ℕ) (at : ℕ) (pieces : List (Option CodeUnit)) → ReadAs words at pieces →
    length (lines_from words at pieces) + 256 * at ≤ 256 * length words
lines-short words at [] all = omega (arith, all)
lines-short words at (piece ∷ pieces) are =
    let size = piece_size piece in
    let within = IsPieceAt-within words at (piece_mark piece) size (piece, are.0, refl, refl) in
    omega (
      arith,
      length-append (marked_lines words at (piece_mark piece) size) (lines_from words (at + size) pieces),
      marked-short words at (piece_mark piece) size within.1 (piece-short piece),
      lines-short words (at + size) pieces are.1,
    )

pub listing-short : (words text : List ℕ) → length words ≤ MAX_WORDS → IsListing words text →
    length text + 1 < 2 ^ 32
listing-short words text few is =
    omega (
      arith,
      few,
      ap (λ (t : List ℕ). length t) is.2,
      joined (codes ".text\n") (lines_from words 0 is.0) 6 (256 * length words) (omega arith)
          (omega (arith, lines-short words 0 is.0 is.1)),
    )
