-- The words that a statement of text makes: one or two. A number is judged by its field, of which the instruction has
-- the range (RISC-V Unprivileged ISA 20191213, 2.3); what a relocation will fill in is 0.
use Rattle.std.specs.Prelude.{ℕ, ◌-◌, ◌%◌, ◌^◌, ◌==◌, Bool, ◌&&◌, nat_lt, ℤ, pos, negsuc, ◌-ℤ◌, List, ◌++◌, if◌then◌else◌, Option, Some, None, is_some}
use Rattle.std.specs.Int.{w32, to_le_bytes}
use Rattle.rv_insn.specs.declared.insn.ImmOp.{ImmOp}
use Rattle.rv_insn.specs.declared.insn.ImmOp.TheVariants.{Addi}
use Rattle.rv_insn.specs.declared.insn.Insn.{Insn}
use Rattle.rv_insn.specs.declared.insn.Insn.TheVariants as insns
use Rattle.rv_insn.specs.Fields.{signed, high_of, low_of, is_signed}
use Rattle.rv_insn.specs.Insn.{word_of}
use Rattle.rv_insn.specs.Rows.{imm_funct7}
use Rattle.rv_text.specs.declared.text.TheConstants.{FULL_FENCE}
use Rattle.rv_line.specs.declared.statement.Statement.{Statement}
use Rattle.rv_line.specs.declared.statement.Statement.TheVariants as statements
use Rattle.rv_line.specs.declared.statement.Low.{Low}
use Rattle.rv_line.specs.declared.statement.Low.TheVariants as lows
use Rattle.rv_line.specs.declared.statement.High.{High}
use Rattle.rv_line.specs.declared.statement.High.TheVariants as highs
use Rattle.rv_line.specs.declared.statement.Target.{Target}
use Rattle.rv_line.specs.declared.statement.Target.TheVariants as targets
use Rattle.rv_line.specs.declared.statement.Datum.{Datum}
use Rattle.rv_line.specs.declared.statement.Datum.TheVariants as data_words
use Rattle.cfi_values.specs.Some.{◌>>=◌}
use Rattle.rv_names.specs.declared.names.Entry.{Entry}
use Rattle.rv_names.specs.Names.{text_value}
use Rattle.rv_asm.specs.declared.words.Words.{Words}
use Rattle.rv_asm.specs.declared.words.Words.TheVariants.{One, Two}

-- the bytes of a word, the lowest first
abbrev pub word_bytes : (word : ℕ) → List ℕ
word_bytes word = to_le_bytes w32 word

-- the bytes of one word or two
abbrev pub words_bytes : Words → List ℕ
words_bytes (One first) = word_bytes first
words_bytes (Two first second) = word_bytes first ++ word_bytes second

-- how many bytes the words have
abbrev pub size_of : Words → ℕ
size_of (One first) = 4
size_of (Two first second) = 8

-- the low 32 bits of a number
abbrev pub low_word : ℤ → ℕ
low_word (pos n) = n % 2 ^ 32
low_word (negsuc n) = 2 ^ 32 - 1 - n % 2 ^ 32

-- the number as a signed field, as a signed field of which bit 0 is left out, and as an unsigned one
abbrev pub signed_field : (half : ℕ) → ℤ → Option ℤ
signed_field half number = if is_signed half number then Some number else None

-- the number is even
abbrev pub is_even : ℤ → Bool
is_even (pos n) = n % 2 == 0
is_even (negsuc n) = n % 2 == 1

-- an offset that its field can have
abbrev pub offset_field : (half : ℕ) → ℤ → Option ℤ
offset_field half number = if is_signed half number && is_even number then Some number else None

-- a number from 0 on that its field can have
abbrev pub unsigned_field : (most : ℕ) → ℤ → Option ℕ
unsigned_field most (pos n) = if nat_lt n most then Some n else None
unsigned_field most (negsuc n) = None

-- an immediate of 12 bits; that of a shift has 5 bits and no sign
abbrev pub low_field : Low → Option ℤ
low_field (lows.Number number) = signed_field (2 ^ 11) number
low_field (lows.Lo name) = Some (pos 0)
low_field (lows.PcrelLo name) = Some (pos 0)

-- a distance to shift by; what names a symbol is filled in later
abbrev pub shift_field : Low → Option ℤ
shift_field (lows.Number (pos n)) = if nat_lt n 32 then Some (pos n) else None
shift_field (lows.Number (negsuc n)) = None
shift_field (lows.Lo name) = Some (pos 0)
shift_field (lows.PcrelLo name) = Some (pos 0)

-- the immediate of an operation, which shifts by a distance or takes a number
abbrev pub imm_field : ImmOp → Low → Option ℤ
imm_field op imm = if is_some (imm_funct7 op) then shift_field imm else low_field imm

-- an immediate of 20 bits
abbrev pub high_field : High → Option ℕ
high_field (highs.Number number) = unsigned_field (2 ^ 20) number
high_field (highs.Hi name) = Some 0
high_field (highs.PcrelHi name) = Some 0

-- the word of an instruction
abbrev pub one : Insn → Words
one insn = One (word_of insn)

-- `li` of a word: an addition to x0 where the signed word is from -2048 to 2047, else `lui` and, where the low part is
-- not 0, an addition of it
unfoldable pub li_words : (rd word : ℕ) → Words
li_words rd word =
    if is_signed (2 ^ 11) (signed (2 ^ 31) word) then one (insns.OpImm Addi rd 0 (signed (2 ^ 31) word))
    else (if word % 2 ^ 12 == 0 then one (insns.Lui rd (high_of word))
    else Two (word_of (insns.Lui rd (high_of word))) (word_of (insns.OpImm Addi rd rd (low_of word))))

-- a pair of `auipc` and an instruction on its register, both filled in by relocations
abbrev pub pair : (register : ℕ) → Insn → Words
pair register insn = Two (word_of (insns.Auipc register 0)) (word_of insn)

-- from one place to another, in bytes
abbrev pub distance : (from to : ℕ) → ℤ
distance from to = pos to -ℤ pos from

-- how far a jump or a branch at this place leads: to a name that the text has, or by an offset; what leads to another
-- name is filled in by a relocation
abbrev pub leap : (at : ℕ) → Option ℕ → ℤ
leap at None = pos 0
leap at (Some value) = distance at value

-- how far away a target is
abbrev pub offset_of : (table : List Entry) → (at : ℕ) → Target → ℤ
offset_of table at (targets.Offset number) = number
offset_of table at (targets.Name name) = leap at (text_value table name)

-- the word of a number
abbrev pub number_words : Datum → Option Words
number_words (data_words.Number number) = Some (One (low_word number))
number_words (data_words.Name name) = None

-- the words of a statement that stands at this place of the text; none where a number is outside its field, and of a
-- statement that has none
abbrev pub words_of : (table : List Entry) → (at : ℕ) → Statement → Option Words
words_of table at (statements.Op op rd rs1 rs2) = Some (one (insns.Op op rd rs1 rs2))
words_of table at (statements.OpImm op rd rs1 imm) = do
  field ← imm_field op imm
  Some (one (insns.OpImm op rd rs1 field))
words_of table at (statements.Load kind rd rs1 imm) = do
  field ← low_field imm
  Some (one (insns.Load kind rd rs1 field))
words_of table at (statements.Store kind rs1 rs2 imm) = do
  field ← low_field imm
  Some (one (insns.Store kind rs1 rs2 field))
words_of table at (statements.Branch cond rs1 rs2 target) = do
  field ← offset_field (2 ^ 12) (offset_of table at target)
  Some (one (insns.Branch cond rs1 rs2 field))
words_of table at (statements.Lui rd imm) = do
  field ← high_field imm
  Some (one (insns.Lui rd field))
words_of table at (statements.Auipc rd imm) = do
  field ← high_field imm
  Some (one (insns.Auipc rd field))
words_of table at (statements.Jal rd target) = do
  field ← offset_field (2 ^ 20) (offset_of table at target)
  Some (one (insns.Jal rd field))
words_of table at (statements.Jalr rd rs1 imm) = do
  field ← low_field imm
  Some (one (insns.Jalr rd rs1 field))
words_of table at statements.Fence = Some (One FULL_FENCE)
words_of table at statements.Ecall = Some (one insns.Ecall)
words_of table at statements.Ebreak = Some (one insns.Ebreak)
words_of table at (statements.Li rd number) = Some (li_words rd (low_word number))
words_of table at (statements.La rd name) = Some (pair rd (insns.OpImm Addi rd rd (pos 0)))
words_of table at statements.Ret = Some (one (insns.Jalr 0 1 (pos 0)))
words_of table at (statements.Call name) = Some (pair 1 (insns.Jalr 1 1 (pos 0)))
words_of table at (statements.Tail name) = Some (pair 6 (insns.Jalr 0 6 (pos 0)))
words_of table at (statements.Word datum) = number_words datum
words_of table at statement = None
