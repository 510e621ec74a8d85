-- What a keyword names: that which has it as its text, in four tables of texts.
use Rattle.std.specs.Prelude.{ℕ, List, [], ◌∷◌, ◌++◌, codes, find, map, Option}
use Rattle.std.specs.Str.{bytes_eq}
use Rattle.rv_insn.specs.InsnOf.{conds, load_kinds, store_kinds, imm_ops, ops}
use Rattle.rv_text.specs.Names.{cond_name, load_name, store_name, imm_op_name, op_name}
use Rattle.rv_line.specs.declared.keyword.Mnemonic.{Mnemonic}
use Rattle.rv_line.specs.declared.keyword.Mnemonic.TheVariants as mnemonic
use Rattle.rv_line.specs.declared.keyword.Short.{Short}
use Rattle.rv_line.specs.declared.keyword.Short.TheVariants as short
use Rattle.rv_line.specs.declared.keyword.Directive.{Directive}
use Rattle.rv_line.specs.declared.keyword.Directive.TheVariants as directive
use Rattle.rv_line.specs.declared.statement.NodeKind.{NodeKind}
use Rattle.rv_line.specs.declared.statement.NodeKind.TheVariants as nodes

-- the one of a list whose text is the word
unfoldable pub called : {X : Type 0} → (text : X → List ℕ) → (all : List X) → (word : List ℕ) → Option X
called text all word = find (λ one. bytes_eq (text one) word) all

-- the mnemonics (RISC-V Unprivileged ISA 20191213, chapter 24)
abbrev pub mnemonic_text : Mnemonic → List ℕ
mnemonic_text (mnemonic.Op op) = op_name op
mnemonic_text (mnemonic.OpImm op) = imm_op_name op
mnemonic_text (mnemonic.Load kind) = load_name kind
mnemonic_text (mnemonic.Store kind) = store_name kind
mnemonic_text (mnemonic.Branch cond) = cond_name cond
mnemonic_text mnemonic.Lui = codes "lui"
mnemonic_text mnemonic.Auipc = codes "auipc"
mnemonic_text mnemonic.Jal = codes "jal"
mnemonic_text mnemonic.Jalr = codes "jalr"
mnemonic_text mnemonic.Fence = codes "fence"
mnemonic_text mnemonic.Ecall = codes "ecall"
mnemonic_text mnemonic.Ebreak = codes "ebreak"

-- all of them
abbrev pub mnemonics : List Mnemonic
mnemonics =
    map mnemonic.Op ops ++ map mnemonic.OpImm imm_ops ++ map mnemonic.Load load_kinds ++ map mnemonic.Store store_kinds
    ++ map mnemonic.Branch conds ++ mnemonic.Lui ∷ mnemonic.Auipc ∷ mnemonic.Jal ∷ mnemonic.Jalr ∷ mnemonic.Fence
    ∷ mnemonic.Ecall ∷ mnemonic.Ebreak ∷ []

-- the short forms (RISC-V Unprivileged ISA 20191213, chapter 25)
abbrev pub short_text : Short → List ℕ
short_text short.Nop = codes "nop"
short_text short.Mv = codes "mv"
short_text short.Li = codes "li"
short_text short.La = codes "la"
short_text short.J = codes "j"
short_text short.Jr = codes "jr"
short_text short.Ret = codes "ret"
short_text short.Call = codes "call"
short_text short.Tail = codes "tail"

-- all of them
abbrev pub shorts : List Short
shorts =
    short.Nop ∷ short.Mv ∷ short.Li ∷ short.La ∷ short.J ∷ short.Jr ∷ short.Ret ∷ short.Call ∷ short.Tail ∷ []

-- the directives
abbrev pub directive_text : Directive → List ℕ
directive_text directive.Text = codes ".text"
directive_text directive.Data = codes ".data"
directive_text directive.Globl = codes ".globl"
directive_text directive.Word = codes ".word"
directive_text directive.Zero = codes ".zero"
directive_text directive.Node = codes ".node"
directive_text directive.Func = codes ".func"
directive_text directive.EndFunc = codes ".endfunc"
directive_text directive.Kind = codes ".kind"

-- all of them
abbrev pub directives : List Directive
directives =
    directive.Text ∷ directive.Data ∷ directive.Globl ∷ directive.Word ∷ directive.Zero ∷ directive.Node
    ∷ directive.Func ∷ directive.EndFunc ∷ directive.Kind ∷ []

-- the kinds of type nodes
abbrev pub node_kind_text : NodeKind → List ℕ
node_kind_text nodes.Void = codes "void"
node_kind_text nodes.Int = codes "int"
node_kind_text nodes.Real = codes "real"
node_kind_text nodes.Ptr = codes "ptr"
node_kind_text nodes.Array = codes "array"
node_kind_text nodes.Struct = codes "struct"
node_kind_text nodes.Union = codes "union"
node_kind_text nodes.Func = codes "func"
node_kind_text nodes.VarFunc = codes "varfunc"

-- all of them
abbrev pub node_kinds : List NodeKind
node_kinds =
    nodes.Void ∷ nodes.Int ∷ nodes.Real ∷ nodes.Ptr ∷ nodes.Array ∷ nodes.Struct ∷ nodes.Union ∷ nodes.Func
    ∷ nodes.VarFunc ∷ []
