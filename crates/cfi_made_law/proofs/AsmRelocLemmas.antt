-- No relocation of lines without a fault breaks a rule of objects.
use Rattle.std.proofs.Common.{◌≡◌, ℕ, ◌+◌, ◌*◌, ◌≤◌, ◌&&◌, Bool, true, false, pos, List, [], ◌∷◌, ◌++◌, length, if◌then◌else◌, Option, Some, None, is_some, All, refl, sym, ap, subst, arith}
use Rattle.std.specs.Prelude.{FitsSigned}
use Rattle.std.specs.Int.{w32}
use Rattle.std.specs.List.{filter_map}
use Rattle.std.proofs.lemmas.List.Elements.{All-nil, All-cons, All-append}
use Rattle.elf_read.specs.declared.object.Area.{Area}
use Rattle.elf_read.specs.declared.object.Area.TheVariants as areas
use Rattle.elf_read.specs.declared.object.Object.{Object}
use Rattle.elf_read.specs.declared.object.Reloc.{Reloc}
use Rattle.elf_read.specs.declared.relocation.TheConstants as kinds
use Rattle.elf_read.specs.Relocation.{is_known, is_dropped, is_of_data, is_of_instruction, field_size}
use Rattle.elf_write.specs.Contents.{symbol_number}
use Rattle.elf_write.specs.Whole.{IsGoodReloc}
use Rattle.rv_line.specs.declared.line.Line.{Line}
use Rattle.rv_line.specs.declared.statement.Low.{Low}
use Rattle.rv_line.specs.declared.statement.Low.TheVariants as lows
use Rattle.rv_line.specs.declared.statement.High.{High}
use Rattle.rv_line.specs.declared.statement.High.TheVariants as highs
use Rattle.rv_line.specs.declared.statement.Target.{Target}
use Rattle.rv_line.specs.declared.statement.Target.TheVariants as targets
use Rattle.rv_line.specs.declared.statement.Datum.TheVariants as data_words
use Rattle.rv_line.specs.declared.statement.Statement.{Statement}
use Rattle.rv_line.specs.declared.statement.Statement.TheVariants as statements
use Rattle.rv_names.specs.declared.names.Entry.{Entry}
use Rattle.rv_names.specs.Names.{number_in, text_value}
use Rattle.rv_asm.specs.declared.file.File.{File}
use Rattle.rv_asm.specs.declared.spot.Spot.{Spot}
use Rattle.rv_asm.specs.Fault.{Found, is_misplaced, line_fault, fault_at, found_at, totals_at}
use Rattle.rv_asm.specs.Made.{relocs_in, relocs_at, relocs_by}
use Rattle.rv_asm.specs.Placed.{Placed, placed_behind, area_after, size_in, end_after, spot_after}
use Rattle.rv_asm.specs.Reference.{low_reference, high_reference, target_reference, reference_of, is_leap}
use Rattle.rv_asm.specs.Relocs.{reloc_by, first_reloc, second_reloc, both, relocs_of}
use Rattle.rv_asm.specs.Spot.{text_size, data_size, pair_label}
use Rattle.rv_asm.proofs.PlacedLemmas.{at_line, made-push, end-push}
use Rattle.cfi_made_law.proofs.AsmInfoLemmas.{number-small}
use Rattle.cfi_made_law.proofs.AsmLimitLemmas.{clear-said}
use Rattle.cfi_made_law.proofs.AsmExactLemmas.{line-four, by-parts, before-le}

-- ---- the kinds of references of text

record IsTextKind (size kind : ℕ) : Type 0 where
  known : is_known kind ≡ true
  kept : is_dropped kind ≡ false
  other : is_of_data kind ≡ false
  fits : field_size kind ≤ size

abbrev RefersText : (size : ℕ) → Option (ℕ × List ℕ) → Type 0
RefersText size None = Unit {0}
RefersText size (Some reference) = IsTextKind size reference.0

lo12_i : IsTextKind 4 kinds.LO12_I
unfolding is_known is_of_instruction field_size
lo12_i = record { known = refl; kept = refl; other = refl; fits = omega arith }

pcrel_lo12_i : IsTextKind 4 kinds.PCREL_LO12_I
unfolding is_known is_of_instruction field_size
pcrel_lo12_i = record { known = refl; kept = refl; other = refl; fits = omega arith }

lo12_s : IsTextKind 4 kinds.LO12_S
unfolding is_known is_of_instruction field_size
lo12_s = record { known = refl; kept = refl; other = refl; fits = omega arith }

pcrel_lo12_s : IsTextKind 4 kinds.PCREL_LO12_S
unfolding is_known is_of_instruction field_size
pcrel_lo12_s = record { known = refl; kept = refl; other = refl; fits = omega arith }

hi20 : IsTextKind 4 kinds.HI20
unfolding is_known is_of_instruction field_size
hi20 = record { known = refl; kept = refl; other = refl; fits = omega arith }

pcrel_hi20 : (size : ℕ) → 4 ≤ size → IsTextKind size kinds.PCREL_HI20
unfolding is_known is_of_instruction field_size
pcrel_hi20 size room = record { known = refl; kept = refl; other = refl; fits = omega (arith, room) }

branch : IsTextKind 4 kinds.BRANCH
unfolding is_known is_of_instruction field_size
branch = record { known = refl; kept = refl; other = refl; fits = omega arith }

jal : IsTextKind 4 kinds.JAL
unfolding is_known is_of_instruction field_size
jal = record { known = refl; kept = refl; other = refl; fits = omega arith }

call_plt : IsTextKind 8 kinds.CALL_PLT
unfolding is_known is_of_instruction field_size
call_plt = record { known = refl; kept = refl; other = refl; fits = omega arith }

low-text : (lo pcrel_lo : ℕ) (imm : Low) → IsTextKind 4 lo → IsTextKind 4 pcrel_lo
    → RefersText 4 (low_reference lo pcrel_lo imm)
low-text lo pcrel_lo (lows.Number number) one other = tt
low-text lo pcrel_lo (lows.Lo name) one other = one
low-text lo pcrel_lo (lows.PcrelLo name) one other = other

high-text : (imm : High) → RefersText 4 (high_reference imm)
high-text (highs.Number number) = tt
high-text (highs.Hi name) = hi20
high-text (highs.PcrelHi name) = pcrel_hi20 4 (omega arith)

target-text : (kind : ℕ) (target : Target) → IsTextKind 4 kind → RefersText 4 (target_reference kind target)
target-text kind (targets.Name name) is = is
target-text kind (targets.Offset number) is = tt

said-kind : (file : File) (found : Found) (s : Statement) → found.spot.area ≡ areas.Text
    → is_misplaced file found s ≡ false → RefersText (text_size s) (reference_of s)
said-kind file found (statements.OpImm op rd rs1 imm) at placed = low-text _ _ imm lo12_i pcrel_lo12_i
said-kind file found (statements.Load kind rd rs1 imm) at placed = low-text _ _ imm lo12_i pcrel_lo12_i
said-kind file found (statements.Store kind rs1 rs2 imm) at placed = low-text _ _ imm lo12_s pcrel_lo12_s
said-kind file found (statements.Branch cond rs1 rs2 target) at placed = target-text _ target branch
said-kind file found (statements.Lui rd imm) at placed = high-text imm
said-kind file found (statements.Auipc rd imm) at placed = high-text imm
said-kind file found (statements.Jal rd target) at placed = target-text _ target jal
said-kind file found (statements.Jalr rd rs1 imm) at placed = low-text _ _ imm lo12_i pcrel_lo12_i
said-kind file found (statements.La rd name) at placed = pcrel_hi20 8 (omega arith)
said-kind file found (statements.Call name) at placed = call_plt
said-kind file found (statements.Tail name) at placed = call_plt
said-kind file found (statements.Word (data_words.Number number)) at placed = tt
said-kind file found (statements.Word (data_words.Name name)) at placed =
    let never : is_misplaced file found (statements.Word (data_words.Name name)) ≡ true = rw at refl in absurd (cc)
said-kind file found s at placed = tt

-- ---- the relocations of a statement

zero-fits : FitsSigned w32 (pos 0)
zero-fits = omega arith

module _ (object : Object) (table : List Entry) (count : length object.symbols ≡ length table) where
  abbrev IsGood : Reloc → Type 0
  IsGood reloc = IsGoodReloc object reloc

  abbrev MayBeGood : Option Reloc → Type 0
  MayBeGood None = Unit {0}
  MayBeGood (Some reloc) = IsGood reloc

  number-fits : (name : List ℕ) → symbol_number (number_in table name) ≤ length object.symbols
  number-fits name = omega (arith, number-small table name, count)

  text-good : (offset size kind : ℕ) (name : List ℕ) → IsTextKind size kind → offset + size ≤ length object.text
      → ((k : ℕ) × (offset ≡ 4 * k)) → IsGood (reloc_by table areas.Text offset kind name)
  text-good offset size kind name is inside four = record {
    known = is.known;
    kept = is.kept;
    symbol = number-fits name;
    inside = omega (arith, inside, is.fits);
    placed = (omega (arith, four.1), is.other);
    fits = zero-fits;
  }

  word-good : (offset : ℕ) (name : List ℕ) → offset + 4 ≤ length object.static_data
      → IsGood (reloc_by table areas.Data offset kinds.WORD name)
  unfolding is_known is_of_instruction field_size
  word-good offset name inside = record {
    known = refl;
    kept = refl;
    symbol = number-fits name;
    inside = inside;
    placed = refl;
    fits = zero-fits;
  }

  chosen-good : (b : Bool) (reloc : Reloc) → IsGood reloc → MayBeGood (if b then None else Some reloc)
  chosen-good true reloc good = tt
  chosen-good false reloc good = good

  both-good : (one other : Option Reloc) → MayBeGood one → MayBeGood other → All IsGood (both one other)
  both-good None None first second = All-nil IsGood
  both-good None (Some other) first second = All-cons IsGood other [] second (All-nil IsGood)
  both-good (Some one) None first second = All-cons IsGood one [] first (All-nil IsGood)
  both-good (Some one) (Some other) first second =
      All-cons IsGood one (other ∷ []) first (All-cons IsGood other [] second (All-nil IsGood))

  module _ (t d p : ℕ) (four : (k : ℕ) × (t ≡ 4 * k)) where
    abbrev spot : Area → Spot
    spot area = record { area = area; text_end = t; data_end = d; pairs = p }

    first-text : (size : ℕ) (o : Option (ℕ × List ℕ)) → RefersText size o → t + size ≤ length object.text
        → MayBeGood (first_reloc table (spot areas.Text) o)
    first-text size None is inside = tt
    first-text size (Some reference) is inside =
        chosen-good (is_leap reference.0 && is_some (text_value table reference.1)) _
        (text-good t size reference.0 reference.1 is inside four)

    second-text : (s : Statement) → t + text_size s ≤ length object.text
        → MayBeGood (second_reloc table (spot areas.Text) s)
    second-text (statements.La rd name) inside =
        text-good (t + 4) 4 kinds.PCREL_LO12_I (pair_label p) pcrel_lo12_i (omega (arith, inside))
        (four.0 + 1, omega (arith, four.1))
    second-text s inside = tt

    text-said : (file : File) (found : Found) (s : Statement) → found.spot.area ≡ areas.Text
        → is_misplaced file found s ≡ false → t + text_size s ≤ length object.text
        → All IsGood (relocs_of table (spot areas.Text) s)
    text-said file found s at placed inside =
        both-good (first_reloc table (spot areas.Text) (reference_of s)) (second_reloc table (spot areas.Text) s)
        (first-text (text_size s) (reference_of s) (said-kind file found s at placed) inside) (second-text s inside)

    data-said : (file : File) (found : Found) (s : Statement) → found.spot.area ≡ areas.Data
        → is_misplaced file found s ≡ false → d + data_size s ≤ length object.static_data
        → All IsGood (relocs_of table (spot areas.Data) s)
    data-said file found statements.Blank at placed inside = All-nil IsGood
    data-said file found statements.Text at placed inside = All-nil IsGood
    data-said file found statements.Data at placed inside = All-nil IsGood
    data-said file found (statements.Globl name) at placed inside = All-nil IsGood
    data-said file found (statements.Word (data_words.Number number)) at placed inside = All-nil IsGood
    data-said file found (statements.Word (data_words.Name name)) at placed inside =
        All-cons IsGood (reloc_by table areas.Data d kinds.WORD name) [] (word-good d name inside) (All-nil IsGood)
    data-said file found (statements.Zero number) at placed inside = All-nil IsGood
    data-said file found (statements.Node kind fields) at placed inside = All-nil IsGood
    data-said file found (statements.Func name node taken) at placed inside = All-nil IsGood
    data-said file found statements.EndFunc at placed inside = All-nil IsGood
    data-said file found (statements.KindCall node) at placed inside = All-nil IsGood
    data-said file found (statements.KindTail node) at placed inside = All-nil IsGood
    data-said file found statements.KindReturn at placed inside = All-nil IsGood
    data-said file found (statements.KindSwitch places) at placed inside = All-nil IsGood
    data-said file found s at placed inside =
        let never : is_misplaced file found s ≡ true = rw at refl in absurd (cc)

    said-good : (file : File) (found : Found) (area own : Area) (s : Statement) → table ≡ file.names
        → found.spot.area ≡ own → is_misplaced file found s ≡ false
        → t + size_in areas.Text own (Some s) ≤ length object.text
        → d + size_in areas.Data own (Some s) ≤ length object.static_data
        → All IsGood (relocs_in area own file (spot own) (Some s))
    said-good file found areas.Text areas.Text s same at placed text bytes =
        subst (λ (l : List Entry). All IsGood (relocs_of l (spot areas.Text) s)) same
        (text-said file found s at placed text)
    said-good file found areas.Data areas.Data s same at placed text bytes =
        subst (λ (l : List Entry). All IsGood (relocs_of l (spot areas.Data) s)) same
        (data-said file found s at placed bytes)
    said-good file found areas.Text areas.Data s same at placed text bytes = All-nil IsGood
    said-good file found areas.Data areas.Text s same at placed text bytes = All-nil IsGood

-- ---- all lines

module _ (object : Object) (file : File) (lines : List Line) (count : length object.symbols ≡ length file.names)
    (text : length object.text ≡ end_after areas.Text lines)
    (bytes : length object.static_data ≡ end_after areas.Data lines) where
  record AreGood (before : List Line) : Type 0 where
    fours : (k : ℕ) × (end_after areas.Text before ≡ 4 * k)
    relocs : (area : Area) → All (IsGoodReloc object) (relocs_by file area before)

  good-step : (before : List Line) (line : Line) (behind : List Line) → (before ++ line ∷ []) ++ behind ≡ lines
      → fault_at file lines (at_line before line) ≡ None → AreGood before → AreGood (before ++ line ∷ [])
  good-step before line behind whole none good = record {
    fours =
        let one = line-four (area_after before) line.statement in
        (good.fours.0 + one.0, omega (arith, end-push areas.Text before line, good.fours.1, one.1));
    relocs = λ area.
        subst (All (IsGoodReloc object)) (sym (made-push (relocs_at area file) before line))
        (All-append (IsGoodReloc object) (relocs_by file area before) (relocs_at area file at) (good.relocs area)
        (from area line.statement none refl));
  }
    where
      at : Placed
      at = at_line before line

      from : (area : Area) (o : Option Statement)
          → line_fault file (found_at file lines at) (totals_at file at) (length before + 1) line.label o ≡ None
          → line.statement ≡ o
          → All (IsGoodReloc object) (relocs_in area (area_after before) file (spot_after before) o)
      from area None none is = absurd (cc)
      from area (Some s) none is =
          let size = λ (a : Area). ap (size_in a (area_after before)) is in
          said-good object file.names count (end_after areas.Text before) (end_after areas.Data before)
          (spot_after before).pairs good.fours file (found_at file lines at) area (area_after before) s refl refl
          (clear-said file (found_at file lines at) (totals_at file at) (length before + 1) line.label s none).placed
          (omega (
            arith,
            end-push areas.Text before line,
            size areas.Text,
            text,
            before-le areas.Text (before ++ line ∷ []) behind lines whole,
          ))
          (omega (
            arith,
            end-push areas.Data before line,
            size areas.Data,
            bytes,
            before-le areas.Data (before ++ line ∷ []) behind lines whole,
          ))

  all-good : filter_map (fault_at file lines) (placed_behind [] lines) ≡ [] → AreGood lines
  all-good clear =
      by-parts AreGood file lines good-step clear
      (record { fours = (0, refl); relocs = λ area. All-nil (IsGoodReloc object) })

  pub relocs-good : filter_map (fault_at file lines) (placed_behind [] lines) ≡ [] → (area : Area)
      → All (IsGoodReloc object) (relocs_by file area lines)
  relocs-good clear area = (all-good clear).relocs area
