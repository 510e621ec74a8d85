-- The table of relocations: what each kind computes, and which fields get it (RISC-V ELF psABI, "Relocations").
use Rattle.std.specs.Prelude.{ℕ, ◌==◌, List, [], ◌∷◌, Option, Some, None}
use Rattle.std.specs.Map.{lookup}
use Rattle.elf_read.specs.declared.relocation.TheConstants.{WORD, BRANCH, JAL, CALL, CALL_PLT, PCREL_HI20, PCREL_LO12_I, PCREL_LO12_S, HI20, LO12_I, LO12_S, ADD32, SUB32}
use Rattle.rv_reloc.specs.declared.table.Formula.{Formula}
use Rattle.rv_reloc.specs.declared.table.Formula.TheVariants as formulas
use Rattle.rv_reloc.specs.declared.table.Field.{Field}
use Rattle.rv_reloc.specs.declared.table.Field.TheVariants as fields
use Rattle.rv_reloc.specs.declared.table.Form.{Form}
use Rattle.rv_reloc.specs.declared.table.Form.TheVariants as forms
use Rattle.rv_reloc.specs.declared.table.Rule.{Rule}

-- a row that changes a word, the immediate of one instruction, those of two
abbrev pub one : Formula → Field → Rule
one formula field = record { formula = formula; field = field; next = None }

-- one field, an immediate of this form
abbrev pub immediate : Formula → Form → Rule
immediate formula form = one formula (fields.Immediate form)

-- two fields, in an instruction and the one behind it
abbrev pub two : Formula → (form next : Form) → Rule
two formula form next = record { formula = formula; field = fields.Immediate form; next = Some next }

-- the rows by their numbers
abbrev pub table : List (ℕ × Rule)
table =
    (WORD, one formulas.Absolute fields.Word)
    ∷ (BRANCH, immediate formulas.Relative forms.Branch)
    ∷ (JAL, immediate formulas.Relative forms.Jal)
    ∷ (CALL, two formulas.Relative forms.Auipc forms.Jalr)
    ∷ (CALL_PLT, two formulas.Relative forms.Auipc forms.Jalr)
    ∷ (PCREL_HI20, immediate formulas.Relative forms.Auipc)
    ∷ (PCREL_LO12_I, immediate formulas.Partner forms.LowI)
    ∷ (PCREL_LO12_S, immediate formulas.Partner forms.LowS)
    ∷ (HI20, immediate formulas.Absolute forms.Lui)
    ∷ (LO12_I, immediate formulas.Absolute forms.LowI)
    ∷ (LO12_S, immediate formulas.Absolute forms.LowS)
    ∷ (ADD32, one formulas.Absolute fields.Sum)
    ∷ (SUB32, one formulas.Absolute fields.Difference)
    ∷ []

-- the row of a kind; none where the kind changes nothing
unfoldable pub rule_of : (kind : ℕ) → Option Rule
rule_of kind = lookup (λ number. kind == number) table

-- the bytes that a row changes
abbrev pub size_by : (next : Option Form) → ℕ
size_by None = 4
size_by (Some next) = 8

-- how many bytes the fields of a rule take
abbrev pub rule_size : Rule → ℕ
rule_size rule = size_by rule.next
