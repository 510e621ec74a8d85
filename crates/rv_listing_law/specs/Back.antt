-- What the lines of a listing say: no label, and the statement of the instruction that a word is. A fence of other
-- fields than everything against everything, and a word that is no instruction, are said by their numbers.
use Rattle.std.specs.Prelude.{ℕ, ◌+◌, ◌==◌, pos, false, List, [], Option, Some, None, if◌then◌else◌}
use Rattle.elf_read.specs.declared.object.Object.{Object}
use Rattle.rv_insn.specs.declared.insn.Insn.{Insn}
use Rattle.rv_insn.specs.declared.insn.Insn.TheVariants as insns
use Rattle.rv_insn.specs.declared.opcode.TheConstants as opcodes
use Rattle.rv_insn.specs.InsnOf.{insn_of}
use Rattle.rv_text.specs.declared.text.TheConstants.{FULL_FENCE}
use Rattle.rv_line.specs.declared.statement.Low.TheVariants as lows
use Rattle.rv_line.specs.declared.statement.High.TheVariants as highs
use Rattle.rv_line.specs.declared.statement.Target.TheVariants as targets
use Rattle.rv_line.specs.declared.statement.Datum.TheVariants as data_words
use Rattle.rv_line.specs.declared.statement.Statement.{Statement}
use Rattle.rv_line.specs.declared.statement.Statement.TheVariants as statements
use Rattle.rv_line.specs.declared.line.Line.{Line}

-- a word by its number
abbrev pub number_statement : (word : ℕ) → Statement
number_statement word = statements.Word (data_words.Number (pos word))

-- the fence of everything, or any other by its number
abbrev pub fence_statement : (word : ℕ) → Statement
fence_statement word = if word == FULL_FENCE then statements.Fence else number_statement word

-- an instruction, with numbers for its immediates and an offset for its target
abbrev pub statement_of : Insn → Statement
statement_of (insns.Lui rd imm) = statements.Lui rd (highs.Number (pos imm))
statement_of (insns.Auipc rd imm) = statements.Auipc rd (highs.Number (pos imm))
statement_of (insns.Jal rd off) = statements.Jal rd (targets.Offset off)
statement_of (insns.Jalr rd rs1 imm) = statements.Jalr rd rs1 (lows.Number imm)
statement_of (insns.Branch cond rs1 rs2 off) = statements.Branch cond rs1 rs2 (targets.Offset off)
statement_of (insns.Load kind rd rs1 imm) = statements.Load kind rd rs1 (lows.Number imm)
statement_of (insns.Store kind rs1 rs2 imm) = statements.Store kind rs1 rs2 (lows.Number imm)
statement_of (insns.OpImm op rd rs1 imm) = statements.OpImm op rd rs1 (lows.Number imm)
statement_of (insns.Op op rd rs1 rs2) = statements.Op op rd rs1 rs2
statement_of (insns.Fence fields) = fence_statement (opcodes.FENCE + fields)
statement_of insns.Ecall = statements.Ecall
statement_of insns.Ebreak = statements.Ebreak

-- a word as what `insn_of` says of it: an instruction, or a number
abbrev pub read_statement : Option Insn → (word : ℕ) → Statement
read_statement None word = number_statement word
read_statement (Some insn) word = statement_of insn

-- the statement of a word
abbrev pub word_statement : ℕ → Statement
word_statement word = read_statement (insn_of word) word

-- a line with a statement alone, which is none of the records
abbrev pub plain_line : Statement → Line
plain_line statement = record { label = None; statement = Some statement; records = false }

-- the line of a word, and the first line of a listing
abbrev pub word_line : ℕ → Line
word_line word = plain_line (word_statement word)

-- the line at the head of a listing
abbrev pub first_line : Line
first_line = plain_line statements.Text

-- an object of text alone
abbrev pub text_object : (text : List ℕ) → Object
text_object text = record {
  text = text;
  static_data = [];
  symbols = [];
  relocs = [];
  types = None;
  records = None;
}
