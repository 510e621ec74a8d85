-- The statements of a source, by their keyword and operands.
use Rattle.std.specs.Prelude.{ℕ, Bool, true, false, not, ◌==◌, nat_le, ℤ, pos, List, [], ◌∷◌, ◌++◌, length, codes, if◌then◌else◌, Option, Some, None, option_map, option_and_then, is_some}
use Rattle.std.specs.Str.{bytes_eq}
use Rattle.rv_insn.specs.declared.insn.ImmOp.{ImmOp}
use Rattle.rv_insn.specs.declared.insn.ImmOp.TheVariants.{Addi}
use Rattle.rv_insn.specs.Rows.{imm_funct7}
use Rattle.rv_line.specs.declared.keyword.Mnemonic.{Mnemonic}
use Rattle.rv_line.specs.declared.keyword.Mnemonic.TheVariants as mnemonic
use Rattle.rv_line.specs.declared.keyword.Short.{Short}
use Rattle.rv_line.specs.declared.keyword.Short.TheVariants as short
use Rattle.rv_line.specs.declared.keyword.Directive.{Directive}
use Rattle.rv_line.specs.declared.keyword.Directive.TheVariants as directive
use Rattle.rv_line.specs.declared.statement.Low.{Low}
use Rattle.rv_line.specs.declared.statement.Low.TheVariants as lows
use Rattle.rv_line.specs.declared.statement.High.{High}
use Rattle.rv_line.specs.declared.statement.High.TheVariants as highs
use Rattle.rv_line.specs.declared.statement.NodeKind.{NodeKind}
use Rattle.rv_line.specs.declared.statement.NodeKind.TheVariants as nodes
use Rattle.rv_line.specs.declared.statement.Statement.{Statement}
use Rattle.rv_line.specs.declared.statement.Statement.TheVariants as statements
use Rattle.cfi_text.specs.Words.{words_in}
use Rattle.cfi_text.specs.Names.{name_in}
use Rattle.rv_line.specs.Immediate.{low_in, high_in, place_in}
use Rattle.rv_line.specs.Keyword.{called, mnemonic_text, mnemonics, short_text, shorts, directive_text, directives, node_kind_text, node_kinds}
use Rattle.rv_line.specs.Number.{integer_in}
use Rattle.rv_line.specs.Operand.{only_word, is_empty, operands_in, operand, no_operands, one, two, three}
use Rattle.rv_line.specs.Register.{register_in}
use Rattle.rv_line.specs.Target.{target_in, datum_in}
use Rattle.cfi_values.specs.Some.{◌>>=◌}

-- ---- the instructions, as the manual writes them

-- an operation takes the immediate: one that shifts takes numbers alone
abbrev pub takes : ImmOp → Low → Bool
takes op (lows.Number number) = true
takes op (lows.Lo name) = not (is_some (imm_funct7 op))
takes op (lows.PcrelLo name) = not (is_some (imm_funct7 op))

-- an operation on a register and an immediate that it takes
abbrev pub imm_op_by : ImmOp → (rd rs1 : ℕ) → Low → Option Statement
imm_op_by op rd rs1 imm = if takes op imm then Some (statements.OpImm op rd rs1 imm) else None

-- `lui`, which has no `%pcrel_hi`
abbrev pub lui_by : (rd : ℕ) → High → Option Statement
lui_by rd (highs.Number number) = Some (statements.Lui rd (highs.Number number))
lui_by rd (highs.Hi name) = Some (statements.Lui rd (highs.Hi name))
lui_by rd (highs.PcrelHi name) = None

-- a statement without operands
abbrev pub alone : Statement → (operands : List (List (List ℕ))) → Option Statement
alone statement operands = if no_operands operands then Some statement else None

-- the instruction of a mnemonic and its operands
abbrev pub insn_in : Mnemonic → (operands : List (List (List ℕ))) → Option Statement
insn_in (mnemonic.Op op) operands =
    option_map (λ p. statements.Op op p.0 p.1 p.2) (three register_in register_in register_in operands)
insn_in (mnemonic.OpImm op) operands =
    option_and_then (λ p. imm_op_by op p.0 p.1 p.2) (three register_in register_in low_in operands)
insn_in (mnemonic.Load kind) operands =
    option_map (λ p. statements.Load kind p.0 p.1.base p.1.imm) (two register_in place_in operands)
insn_in (mnemonic.Store kind) operands =
    option_map (λ p. statements.Store kind p.1.base p.0 p.1.imm) (two register_in place_in operands)
insn_in (mnemonic.Branch cond) operands =
    option_map (λ p. statements.Branch cond p.0 p.1 p.2) (three register_in register_in target_in operands)
insn_in mnemonic.Lui operands = option_and_then (λ p. lui_by p.0 p.1) (two register_in high_in operands)
insn_in mnemonic.Auipc operands = option_map (λ p. statements.Auipc p.0 p.1) (two register_in high_in operands)
insn_in mnemonic.Jal operands = option_map (λ p. statements.Jal p.0 p.1) (two register_in target_in operands)
insn_in mnemonic.Jalr operands =
    option_map (λ p. statements.Jalr p.0 p.1.base p.1.imm) (two register_in place_in operands)
insn_in mnemonic.Fence operands = alone statements.Fence operands
insn_in mnemonic.Ecall operands = alone statements.Ecall operands
insn_in mnemonic.Ebreak operands = alone statements.Ebreak operands

-- ---- the short forms

-- `nop` stands for `addi x0,x0,0`, `mv rd,rs` for `addi rd,rs,0`, `j T` for `jal x0,T`, `jr rs` for `jalr x0,0(rs)`
abbrev pub short_in : Short → (operands : List (List (List ℕ))) → Option Statement
short_in short.Nop operands =
    if no_operands operands
    then insn_in (mnemonic.OpImm Addi) (operand (codes "x0") ∷ operand (codes "x0") ∷ operand (codes "0") ∷ []) else None
short_in short.Mv operands = insn_in (mnemonic.OpImm Addi) (operands ++ operand (codes "0") ∷ [])
short_in short.J operands = insn_in mnemonic.Jal (operand (codes "x0") ∷ operands)
short_in short.Jr operands =
    option_map (λ rs. statements.Jalr 0 rs (lows.Number (pos 0))) (one register_in operands)
short_in short.Li operands = option_map (λ p. statements.Li p.0 p.1) (two register_in integer_in operands)
short_in short.La operands = option_map (λ p. statements.La p.0 p.1) (two register_in name_in operands)
short_in short.Ret operands = alone statements.Ret operands
short_in short.Call operands = option_map statements.Call (one name_in operands)
short_in short.Tail operands = option_map statements.Tail (one name_in operands)

-- ---- the directives

-- what all of these words say: numbers, or names
abbrev pub onto : {X : Type 0} → Option X → Option (List X) → Option (List X)
onto None rest = None
onto (Some x) None = None
onto (Some x) (Some xs) = Some (x ∷ xs)

-- all words, if each can be read
abbrev pub all_in : {X : Type 0} → (List ℕ → Option X) → (words : List (List ℕ)) → Option (List X)
all_in read [] = Some []
all_in read (word ∷ words) = onto (read word) (all_in read words)

-- all of them as numbers
abbrev pub integers_in : (words : List (List ℕ)) → Option (List ℤ)
integers_in words = all_in integer_in words

-- all of them as names
abbrev pub names_in : (words : List (List ℕ)) → Option (List (List ℕ))
names_in words = all_in name_in words

-- a node of this kind has so many fields
abbrev pub has_count : NodeKind → (count : ℕ) → Bool
has_count nodes.Void count = count == 0
has_count nodes.Int count = count == 2
has_count nodes.Real count = count == 1
has_count nodes.Ptr count = count == 1
has_count nodes.Array count = count == 2
has_count nodes.Struct count = true
has_count nodes.Union count = true
has_count nodes.Func count = nat_le 1 count
has_count nodes.VarFunc count = nat_le 1 count

-- a node, if its kind has so many fields
abbrev pub node_by : NodeKind → (fields : List ℤ) → Option Statement
node_by kind fields = if has_count kind (length fields) then Some (statements.Node kind fields) else None

-- `.node KIND FIELDS`
abbrev pub node_words : (words : List (List ℕ)) → Option Statement
node_words [] = None
node_words (word ∷ words) = do
  kind ← called node_kind_text node_kinds word
  fields ← integers_in words
  node_by kind fields

-- `.func NAME NODE` and `.func NAME NODE taken`
abbrev pub func_by : (name node : List ℕ) → (taken : Bool) → Option Statement
func_by name node taken = do
  n ← name_in name
  number ← integer_in node
  Some (statements.Func n number taken)

-- `.func` with a name, a node, and `taken` where its address is
abbrev pub func_words : (words : List (List ℕ)) → Option Statement
func_words [] = None
func_words (name ∷ []) = None
func_words (name ∷ node ∷ []) = func_by name node false
func_words (name ∷ node ∷ taken ∷ []) = if bytes_eq taken (codes "taken") then func_by name node true else None
func_words (name ∷ node ∷ taken ∷ word ∷ words) = None

-- `.kind call NODE`, `.kind tail NODE`, `.kind return`, `.kind switch NAME..`
abbrev pub switch_of : (names : List (List ℕ)) → Option Statement
switch_of [] = None
switch_of (name ∷ names) = Some (statements.KindSwitch (name ∷ names))

-- a number that is the only word
abbrev pub only_integer : (words : List (List ℕ)) → Option ℤ
only_integer words = option_and_then integer_in (only_word words)

-- `.kind`, by what it says first
unfoldable pub kind_by : (kind : List ℕ) → (words : List (List ℕ)) → Option Statement
kind_by kind words =
    if bytes_eq kind (codes "call") then option_map statements.KindCall (only_integer words)
    else (if bytes_eq kind (codes "tail") then option_map statements.KindTail (only_integer words)
    else (if bytes_eq kind (codes "return") then if is_empty words then Some statements.KindReturn else None
    else (if bytes_eq kind (codes "switch") then option_and_then switch_of (names_in words) else None)))

-- the same by all its words
abbrev pub kind_words : (words : List (List ℕ)) → Option Statement
kind_words [] = None
kind_words (kind ∷ words) = kind_by kind words

-- the statement of a directive
abbrev pub directive_in : Directive → (rest : List ℕ) → Option Statement
directive_in directive.Text rest = alone statements.Text (operands_in rest)
directive_in directive.Data rest = alone statements.Data (operands_in rest)
directive_in directive.Globl rest = option_map statements.Globl (one name_in (operands_in rest))
directive_in directive.Word rest = option_map statements.Word (one datum_in (operands_in rest))
directive_in directive.Zero rest = option_map statements.Zero (one integer_in (operands_in rest))
directive_in directive.Node rest = node_words (words_in rest)
directive_in directive.Func rest = func_words (words_in rest)
directive_in directive.EndFunc rest = alone statements.EndFunc (operands_in rest)
directive_in directive.Kind rest = kind_words (words_in rest)

-- ---- all statements

-- the statement of what a keyword names, and the other where it names nothing
abbrev pub said_or : {X : Type 0} → Option X → (says : X → Option Statement) → (other : Option Statement)
    → Option Statement
said_or None says other = other
said_or (Some named) says other = says named

-- the statement of a word and what comes after it
unfoldable pub form_of : (word rest : List ℕ) → Option Statement
form_of word rest =
    said_or (called mnemonic_text mnemonics word) (λ insn. insn_in insn (operands_in rest)) (
    said_or (called short_text shorts word) (λ form. short_in form (operands_in rest)) (
    said_or (called directive_text directives word) (λ what. directive_in what rest) None))
