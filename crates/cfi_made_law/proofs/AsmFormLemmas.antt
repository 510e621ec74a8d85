-- The names in a line of a source are at most 255 bytes long, its node has as many fields as its kind may have, and its
-- switch has a name.
use Rattle.std.proofs.Common.{◌≡◌, ℕ, ℤ, Bool, true, false, List, [], ◌∷◌, ◌++◌, length, if◌then◌else◌, Option, Some, None, refl, arith}
use Rattle.std.specs.Prelude.{codes}
use Rattle.std.specs.Str.{bytes_eq}
use Rattle.cfi_text.specs.Lines.{statement_of}
use Rattle.cfi_text.specs.Names.{name_in}
use Rattle.cfi_text.specs.Words.{unblanked, first_word, after_word, words_in}
use Rattle.rv_insn.specs.declared.insn.ImmOp.{ImmOp}
use Rattle.rv_insn.specs.declared.insn.ImmOp.TheVariants.{Addi}
use Rattle.rv_line.specs.declared.keyword.Directive.{Directive}
use Rattle.rv_line.specs.declared.keyword.Directive.TheVariants as directive
use Rattle.rv_line.specs.declared.keyword.Mnemonic.{Mnemonic}
use Rattle.rv_line.specs.declared.keyword.Mnemonic.TheVariants as mnemonic
use Rattle.rv_line.specs.declared.keyword.Short.{Short}
use Rattle.rv_line.specs.declared.keyword.Short.TheVariants as short
use Rattle.rv_line.specs.declared.line.Line.{Line}
use Rattle.rv_line.specs.declared.statement.High.{High}
use Rattle.rv_line.specs.declared.statement.High.TheVariants as highs
use Rattle.rv_line.specs.declared.statement.Low.{Low}
use Rattle.rv_line.specs.declared.statement.NodeKind.{NodeKind}
use Rattle.rv_line.specs.declared.statement.Statement.{Statement}
use Rattle.rv_line.specs.declared.statement.Statement.TheVariants as statements
use Rattle.rv_line.specs.Keyword.{called, mnemonic_text, mnemonics, short_text, shorts, directive_text, directives, node_kind_text, node_kinds}
use Rattle.rv_line.specs.Line.{words_form, labelled_in, parts_in, line_in}
use Rattle.rv_line.specs.Number.{integer_in}
use Rattle.rv_line.specs.Operand.{is_empty, cut, operands_in, operand, no_operands}
use Rattle.rv_line.specs.Statement.{takes, imm_op_by, lui_by, alone, insn_in, short_in, names_in, integers_in, has_count, node_words, func_by, func_words, switch_of, only_integer, kind_by, kind_words, directive_in, said_or, form_of}
use Rattle.cfi_made_law.proofs.AsmOperandLemmas.{IsShort, IsFormed, Gives, none, given, mapped, chained, either, name-short, AllShort, names-short, ShortLow, low-short, ShortHigh, high-short, ShortPlace, place-short, ShortTarget, target-short, ShortDatum, datum-short, one-gives, two-gives, three-gives}

abbrev Formed : Option Statement → Type 0
Formed form = Gives IsFormed form

-- ---- instructions and short forms

imm_op-formed : (op : ImmOp) (rd rs1 : ℕ) (imm : Low) → ShortLow imm → Formed (imm_op_by op rd rs1 imm)
imm_op-formed op rd rs1 imm short = either IsFormed (takes op imm) _ _ (given IsFormed _ (short _ _)) (none IsFormed)

lui-formed : (rd : ℕ) (imm : High) → ShortHigh imm → Formed (lui_by rd imm)
lui-formed rd (highs.Number number) short = given IsFormed _ tt
lui-formed rd (highs.Hi name) short = given IsFormed _ short
lui-formed rd (highs.PcrelHi name) short = none IsFormed

alone-formed : (s : Statement) (operands : List (List (List ℕ))) → IsFormed s → Formed (alone s operands)
alone-formed s operands is = either IsFormed (no_operands operands) _ _ (given IsFormed s is) (none IsFormed)

insn-formed : (insn : Mnemonic) (operands : List (List (List ℕ))) → Formed (insn_in insn operands)
insn-formed (mnemonic.Op op) operands = mapped IsFormed _ _ (λ p e. tt)
insn-formed (mnemonic.OpImm op) operands =
    chained IsFormed _ _ (λ p is. imm_op-formed op p.0 p.1 p.2 (three-gives ShortLow _ _ _ low-short operands p is))
insn-formed (mnemonic.Load kind) operands =
    mapped IsFormed _ _ (λ p is. two-gives ShortPlace _ _ place-short operands p is _ _)
insn-formed (mnemonic.Store kind) operands =
    mapped IsFormed _ _ (λ p is. two-gives ShortPlace _ _ place-short operands p is _ _)
insn-formed (mnemonic.Branch cond) operands =
    mapped IsFormed _ _ (λ p is. three-gives ShortTarget _ _ _ target-short operands p is _)
insn-formed mnemonic.Lui operands =
    chained IsFormed _ _ (λ p is. lui-formed p.0 p.1 (two-gives ShortHigh _ _ high-short operands p is))
insn-formed mnemonic.Auipc operands = mapped IsFormed _ _ (two-gives ShortHigh _ _ high-short operands)
insn-formed mnemonic.Jal operands = mapped IsFormed _ _ (λ p is. two-gives ShortTarget _ _ target-short operands p is _)
insn-formed mnemonic.Jalr operands =
    mapped IsFormed _ _ (λ p is. two-gives ShortPlace _ _ place-short operands p is _ _)
insn-formed mnemonic.Fence operands = alone-formed statements.Fence operands tt
insn-formed mnemonic.Ecall operands = alone-formed statements.Ecall operands tt
insn-formed mnemonic.Ebreak operands = alone-formed statements.Ebreak operands tt

short-formed : (form : Short) (operands : List (List (List ℕ))) → Formed (short_in form operands)
short-formed short.Nop operands =
    either IsFormed (no_operands operands) _ _
    (insn-formed (mnemonic.OpImm Addi) (operand (codes "x0") ∷ operand (codes "x0") ∷ operand (codes "0") ∷ []))
    (none IsFormed)
short-formed short.Mv operands = insn-formed (mnemonic.OpImm Addi) (operands ++ operand (codes "0") ∷ [])
short-formed short.J operands = insn-formed mnemonic.Jal (operand (codes "x0") ∷ operands)
short-formed short.Jr operands = mapped IsFormed _ _ (λ rs e. tt)
short-formed short.Li operands = mapped IsFormed _ _ (λ p e. tt)
short-formed short.La operands = mapped IsFormed _ _ (two-gives IsShort _ _ name-short operands)
short-formed short.Ret operands = alone-formed statements.Ret operands tt
short-formed short.Call operands = mapped IsFormed _ _ (one-gives IsShort _ name-short operands)
short-formed short.Tail operands = mapped IsFormed _ _ (one-gives IsShort _ name-short operands)

-- ---- directives

counted-formed : (kind : NodeKind) (fields : List ℤ) (b : Bool) → has_count kind (length fields) ≡ b
    → Formed (if b then Some (statements.Node kind fields) else None)
counted-formed kind fields true is = given IsFormed _ is
counted-formed kind fields false is = none IsFormed

node-formed : (words : List (List ℕ)) → Formed (node_words words)
node-formed [] = none IsFormed
node-formed (word ∷ words) =
    chained IsFormed _ (called node_kind_text node_kinds word) (λ kind e.
    chained IsFormed _ (integers_in words) (λ fields f.
    counted-formed kind fields (has_count kind (length fields)) refl))

func_by-formed : (name node : List ℕ) (taken : Bool) → Formed (func_by name node taken)
func_by-formed name node taken =
    chained IsFormed _ (name_in name) (λ n is. chained IsFormed _ (integer_in node) (λ number e.
    given IsFormed _ (name-short name n is)))

func-formed : (words : List (List ℕ)) → Formed (func_words words)
func-formed [] = none IsFormed
func-formed (name ∷ []) = none IsFormed
func-formed (name ∷ node ∷ []) = func_by-formed name node false
func-formed (name ∷ node ∷ taken ∷ []) =
    either IsFormed (bytes_eq taken (codes "taken")) _ _ (func_by-formed name node true) (none IsFormed)
func-formed (name ∷ node ∷ taken ∷ word ∷ words) = none IsFormed

switch-formed : (names : List (List ℕ)) → AllShort names → Formed (switch_of names)
switch-formed [] all = none IsFormed
switch-formed (name ∷ names) all = given IsFormed _ (all, omega arith)

kind_by-formed : (kind : List ℕ) (words : List (List ℕ)) → Formed (kind_by kind words)
unfolding kind_by
kind_by-formed kind words =
    either IsFormed (bytes_eq kind (codes "call")) _ _ (mapped IsFormed _ (only_integer words) (λ x e. tt))
    (either IsFormed (bytes_eq kind (codes "tail")) _ _ (mapped IsFormed _ (only_integer words) (λ x e. tt))
    (either IsFormed (bytes_eq kind (codes "return")) _ _
    (either IsFormed (is_empty words) _ _ (given IsFormed statements.KindReturn tt) (none IsFormed))
    (either IsFormed (bytes_eq kind (codes "switch")) _ _
    (chained IsFormed switch_of (names_in words) (λ names is. switch-formed names (names-short words names is)))
    (none IsFormed))))

kind-formed : (words : List (List ℕ)) → Formed (kind_words words)
kind-formed [] = none IsFormed
kind-formed (kind ∷ words) = kind_by-formed kind words

directive-formed : (what : Directive) (rest : List ℕ) → Formed (directive_in what rest)
directive-formed directive.Text rest = alone-formed statements.Text (operands_in rest) tt
directive-formed directive.Data rest = alone-formed statements.Data (operands_in rest) tt
directive-formed directive.Globl rest = mapped IsFormed _ _ (one-gives IsShort _ name-short (operands_in rest))
directive-formed directive.Word rest = mapped IsFormed _ _ (one-gives ShortDatum _ datum-short (operands_in rest))
directive-formed directive.Zero rest = mapped IsFormed _ _ (λ number e. tt)
directive-formed directive.Node rest = node-formed (words_in rest)
directive-formed directive.Func rest = func-formed (words_in rest)
directive-formed directive.EndFunc rest = alone-formed statements.EndFunc (operands_in rest) tt
directive-formed directive.Kind rest = kind-formed (words_in rest)

-- ---- a statement

or-formed : {X : Type 0} (o : Option X) (says : X → Option Statement) (other : Option Statement)
    → ((x : X) → Formed (says x)) → Formed other → Formed (said_or o says other)
or-formed None says other all next = next
or-formed (Some x) says other all next = all x

form-formed : (word rest : List ℕ) → Formed (form_of word rest)
unfolding form_of
form-formed word rest =
    or-formed (called mnemonic_text mnemonics word) _ _ (λ insn. insn-formed insn (operands_in rest))
    (or-formed (called short_text shorts word) _ _ (λ form. short-formed form (operands_in rest))
    (or-formed (called directive_text directives word) _ _ (λ what. directive-formed what rest) (none IsFormed)))

-- ---- a line

abbrev pub LabelShort : Option (List ℕ) → Type 0
LabelShort None = Unit {0}
LabelShort (Some name) = IsShort name

abbrev pub SaidFormed : Option Statement → Type 0
SaidFormed None = Unit {0}
SaidFormed (Some s) = IsFormed s

abbrev pub IsFormedLine : Line → Type 0
IsFormedLine line = LabelShort line.label × SaidFormed line.statement

said-formed : (form : Option Statement) → Formed form → SaidFormed form
said-formed None formed = tt
said-formed (Some s) formed = formed s refl

words-formed : (word rest : List ℕ) → SaidFormed (words_form word rest)
words-formed [] rest = tt
words-formed (byte ∷ bytes) rest = said-formed (form_of (byte ∷ bytes) rest) (form-formed (byte ∷ bytes) rest)

labelled-formed : (label : Option (List ℕ)) (back text : List ℕ) → Gives IsShort label
    → IsFormedLine (labelled_in label back text)
labelled-formed None back text short = (tt, tt)
labelled-formed (Some name) back text short = (short name refl, words-formed (first_word back) (after_word back))

parts-formed : (parts : Option (List ℕ × List ℕ)) (text : List ℕ) → IsFormedLine (parts_in parts text)
parts-formed None text = (tt, words-formed (first_word text) (after_word text))
parts-formed (Some p) text = labelled-formed (name_in (unblanked p.0)) p.1 text (name-short (unblanked p.0))

pub line-short : (line : List ℕ) → IsFormedLine (line_in line)
line-short line = parts-formed (cut 58 (statement_of line)) (statement_of line)
