-- The info of each relocation of a source fits a word.
use Rattle.std.proofs.Common.{ℕ, suc, ◌+◌, ◌<◌, ◌≤◌, ◌^◌, ◌&&◌, Bool, true, false, List, [], ◌∷◌, length, if◌then◌else◌, Option, Some, None, is_some, option_map, All, arith, inl, inr}
use Rattle.std.specs.List.{flat_map}
use Rattle.std.proofs.lemmas.Bool.{cases_Bool}
use Rattle.std.proofs.lemmas.List.Elements.{All-nil, All-cons, All-append}
use Rattle.cfi_word.specs.declared.limits.TheConstants.{MAX_SYMBOLS}
use Rattle.elf_read.specs.declared.object.Area.{Area}
use Rattle.elf_read.specs.declared.object.Area.TheVariants as areas
use Rattle.elf_read.specs.declared.object.Reloc.{Reloc}
use Rattle.elf_read.specs.declared.relocation.TheConstants.{PCREL_LO12_I}
use Rattle.elf_write.specs.Contents.{symbol_number, info_of}
use Rattle.rv_line.specs.declared.statement.Low.{Low}
use Rattle.rv_line.specs.declared.statement.Low.TheVariants as lows
use Rattle.rv_line.specs.declared.statement.High.{High}
use Rattle.rv_line.specs.declared.statement.High.TheVariants as highs
use Rattle.rv_line.specs.declared.statement.Target.{Target}
use Rattle.rv_line.specs.declared.statement.Target.TheVariants as targets
use Rattle.rv_line.specs.declared.statement.Datum.{Datum}
use Rattle.rv_line.specs.declared.statement.Datum.TheVariants as data_words
use Rattle.rv_line.specs.declared.statement.Statement.{Statement}
use Rattle.rv_line.specs.declared.statement.Statement.TheVariants as statements
use Rattle.rv_names.specs.declared.names.Entry.{Entry}
use Rattle.rv_names.specs.Names.{is_named, number_in, text_value}
use Rattle.rv_asm.specs.declared.file.File.{File}
use Rattle.rv_asm.specs.declared.spot.Spot.{Spot}
use Rattle.rv_asm.specs.Made.{relocs_in, relocs_at}
use Rattle.rv_asm.specs.Placed.{Placed, area_after, spot_after}
use Rattle.rv_asm.specs.Reference.{low_reference, high_reference, target_reference, datum_reference, reference_of, is_leap}
use Rattle.rv_asm.specs.Relocs.{reloc_by, first_reloc, second_reloc, both, relocs_of}
use Rattle.rv_asm.specs.Spot.{end_of, pair_label}

-- ---- infos

abbrev IsKind : Option (ℕ × List ℕ) → Type 0
IsKind None = Unit {0}
IsKind (Some reference) = reference.0 < 256

low-kind : (lo pcrel_lo : ℕ) (imm : Low) → lo < 256 → pcrel_lo < 256 → IsKind (low_reference lo pcrel_lo imm)
low-kind lo pcrel_lo (lows.Number number) one other = tt
low-kind lo pcrel_lo (lows.Lo name) one other = one
low-kind lo pcrel_lo (lows.PcrelLo name) one other = other

high-kind : (imm : High) → IsKind (high_reference imm)
high-kind (highs.Number number) = tt
high-kind (highs.Hi name) = omega arith
high-kind (highs.PcrelHi name) = omega arith

target-kind : (kind : ℕ) (target : Target) → kind < 256 → IsKind (target_reference kind target)
target-kind kind (targets.Name name) small = small
target-kind kind (targets.Offset number) small = tt

datum-kind : (datum : Datum) → IsKind (datum_reference datum)
datum-kind (data_words.Number number) = tt
datum-kind (data_words.Name name) = omega arith

kind-small : (s : Statement) → IsKind (reference_of s)
kind-small (statements.OpImm op rd rs1 imm) = low-kind _ _ imm (omega arith) (omega arith)
kind-small (statements.Load kind rd rs1 imm) = low-kind _ _ imm (omega arith) (omega arith)
kind-small (statements.Store kind rs1 rs2 imm) = low-kind _ _ imm (omega arith) (omega arith)
kind-small (statements.Branch cond rs1 rs2 target) = target-kind _ target (omega arith)
kind-small (statements.Lui rd imm) = high-kind imm
kind-small (statements.Auipc rd imm) = high-kind imm
kind-small (statements.Jal rd target) = target-kind _ target (omega arith)
kind-small (statements.Jalr rd rs1 imm) = low-kind _ _ imm (omega arith) (omega arith)
kind-small (statements.La rd name) = omega arith
kind-small (statements.Call name) = omega arith
kind-small (statements.Tail name) = omega arith
kind-small (statements.Word datum) = datum-kind datum
kind-small s = tt

suc-number : (o : Option ℕ) → symbol_number (option_map suc o) ≤ symbol_number o + 1
suc-number None = omega arith
suc-number (Some k) = omega arith

pub number-small : (table : List Entry) (name : List ℕ) → symbol_number (number_in table name) ≤ length table
number-small [] name = omega arith
number-small (entry ∷ table) name = elim (cases_Bool (is_named name entry)) [
  | inl here ↦ rw here (omega arith)
  | inr there ↦ rw there (omega (arith, suc-number (number_in table name), number-small table name))
]

module _ (table : List Entry) (few : length table ≤ MAX_SYMBOLS) where
  abbrev HasInfo : Reloc → Type 0
  HasInfo reloc = info_of reloc < 2 ^ 32

  abbrev MayHaveInfo : Option Reloc → Type 0
  MayHaveInfo None = Unit {0}
  MayHaveInfo (Some reloc) = HasInfo reloc

  by-info : (area : Area) (offset kind : ℕ) (name : List ℕ) → kind < 256
      → HasInfo (reloc_by table area offset kind name)
  by-info area offset kind name small = omega (arith, number-small table name, few, small)

  chosen-info : (b : Bool) (reloc : Reloc) → HasInfo reloc → MayHaveInfo (if b then None else Some reloc)
  chosen-info true reloc info = tt
  chosen-info false reloc info = info

  first-info : (spot : Spot) (o : Option (ℕ × List ℕ)) → IsKind o → MayHaveInfo (first_reloc table spot o)
  first-info spot None small = tt
  first-info spot (Some reference) small =
      chosen-info (is_leap reference.0 && is_some (text_value table reference.1)) _
      (by-info spot.area (end_of spot) reference.0 reference.1 small)

  second-info : (spot : Spot) (s : Statement) → MayHaveInfo (second_reloc table spot s)
  second-info spot (statements.La rd name) =
      by-info areas.Text (spot.text_end + 4) PCREL_LO12_I (pair_label spot.pairs) (omega arith)
  second-info spot s = tt

  both-info : (one other : Option Reloc) → MayHaveInfo one → MayHaveInfo other → All HasInfo (both one other)
  both-info None None first second = All-nil HasInfo
  both-info None (Some other) first second = All-cons HasInfo other [] second (All-nil HasInfo)
  both-info (Some one) None first second = All-cons HasInfo one [] first (All-nil HasInfo)
  both-info (Some one) (Some other) first second =
      All-cons HasInfo one (other ∷ []) first (All-cons HasInfo other [] second (All-nil HasInfo))

  relocs-info : (spot : Spot) (s : Statement) → All HasInfo (relocs_of table spot s)
  relocs-info spot s =
      both-info (first_reloc table spot (reference_of s)) (second_reloc table spot s)
      (first-info spot (reference_of s) (kind-small s)) (second-info spot s)

module _ (file : File) (few : length file.names ≤ MAX_SYMBOLS) where
  said-info : (area own : Area) (spot : Spot) (o : Option Statement)
      → All (λ r. info_of r < 2 ^ 32) (relocs_in area own file spot o)
  said-info areas.Text areas.Text spot (Some s) = relocs-info file.names few spot s
  said-info areas.Data areas.Data spot (Some s) = relocs-info file.names few spot s
  said-info areas.Text areas.Text spot None = All-nil (λ (r : Reloc). info_of r < 2 ^ 32)
  said-info areas.Data areas.Data spot None = All-nil (λ (r : Reloc). info_of r < 2 ^ 32)
  said-info areas.Text areas.Data spot o = All-nil (λ (r : Reloc). info_of r < 2 ^ 32)
  said-info areas.Data areas.Text spot o = All-nil (λ (r : Reloc). info_of r < 2 ^ 32)

  pub all-info : (area : Area) (ps : List Placed) → All (λ r. info_of r < 2 ^ 32) (flat_map (relocs_at area file) ps)
  all-info area [] = All-nil (λ (r : Reloc). info_of r < 2 ^ 32)
  all-info area (at ∷ ps) =
      All-append (λ (r : Reloc). info_of r < 2 ^ 32) (relocs_at area file at) _
      (said-info area (area_after at.before) (spot_after at.before) at.line.statement)
      (all-info area ps)
