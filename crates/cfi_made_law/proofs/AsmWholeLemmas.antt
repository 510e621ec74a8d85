-- The object of a source can be a file, once its relocations are in the order of a file.
use Rattle.std.proofs.Common.{◌≡◌, ℕ, ◌+◌, ◌<◌, ◌≤◌, ◌^◌, ◌&&◌, ◌==◌, not, Bool, true, false, List, [], length, map, get_or, if◌then◌else◌, Option, Some, None, is_some, Ok, All, refl, sym, ap, ◌∙◌, subst, arith, inl, inr}
use Rattle.std.specs.List.{filter_map, AllByRecursion}
use Rattle.std.specs.Str.{IsAscii}
use Rattle.std.proofs.lemmas.Bool.{cases_lt}
use Rattle.std.proofs.lemmas.Bool.Decides.{nat_tests}
use Rattle.std.proofs.lemmas.List.{get_or_past, length-map, get_or-map}
use Rattle.std.proofs.lemmas.List.Folds.{list_any_none}
use Rattle.std.proofs.lemmas.List.Elements.{All-append, All-filter, All-map, All-weaker}
use Rattle.std.proofs.lemmas.Str.{IsUtf8-from_ascii}
use Rattle.cfi_word.specs.declared.limits.TheConstants.{MAX_FILE_BYTES}
use Rattle.cfi_text.specs.Lines.{lines_of}
use Rattle.elf_read.specs.declared.object.Area.{Area}
use Rattle.elf_read.specs.declared.object.Area.TheVariants as areas
use Rattle.elf_read.specs.declared.object.Binding.TheVariants as bindings
use Rattle.elf_read.specs.declared.object.Object.{Object}
use Rattle.elf_read.specs.declared.object.Symbol.{Symbol}
use Rattle.elf_read.specs.Sound.{is_exported, is_defined}
use Rattle.elf_write.specs.Contents.{no_symbol, info_of}
use Rattle.elf_write.specs.Limits.{IsWithinLimits}
use Rattle.elf_write.specs.Whole.{is_definition, HasName, HasPlace, greatest_value, IsGoodSymbol, DefineOnce, IsGoodReloc, IsWhole}
use Rattle.rv_line.specs.declared.line.Line.{Line}
use Rattle.rv_names.specs.declared.names.Definition.{Definition}
use Rattle.rv_names.specs.declared.names.Entry.{Entry}
use Rattle.rv_names.specs.Names.{fresh, is_local, is_seen, in_order, symbol_of, place_in, place_of, value_of}
use Rattle.rv_asm.specs.Assembled.{object_in}
use Rattle.rv_asm.specs.Fault.{fault_at, end_faults, faults_of}
use Rattle.rv_asm.specs.Made.{open_after, object_by, relocs_by}
use Rattle.rv_asm.specs.Placed.{placed, end_after, lines_in}
use Rattle.rv_asm.specs.Symbols.{said_in, names_in, table_of, file_in}
use Rattle.cfi_made_law.specs.Order.{object_of_file}
use Rattle.cfi_made_law.proofs.OrderLemmas.{in-order, length-by_area, all-by_area}
use Rattle.cfi_made_law.proofs.AsmOperandLemmas.{IsPlain, IsShort}
use Rattle.cfi_made_law.proofs.AsmFormLemmas.{IsFormedLine}
use Rattle.cfi_made_law.proofs.AsmNameLemmas.{lines-short, names-good}
use Rattle.cfi_made_law.proofs.AsmExactLemmas.{exact}
use Rattle.cfi_made_law.proofs.AsmRelocLemmas.{relocs-good}
use Rattle.cfi_made_law.proofs.AsmSymbolLemmas.{HasInside, IsInside, order-apart, said-from, table-inside}
use Rattle.cfi_made_law.proofs.AsmLemmas.{unless-none, front-none, few-lines, assembled-within}

-- ---- a symbol

plain-zero : (byte : ℕ) → IsPlain byte → (byte == 0) ≡ false
plain-zero byte plain = let some = plain.0 in grind (arith, nat_tests)

pub plain-ascii : (name : List ℕ) → All IsPlain name → IsAscii name
plain-ascii name all i = elim (cases_lt i (length name)) [
  | inl inside ↦ (all i 0 inside).1
  | inr past ↦ rw (get_or_past name i 0 past) (omega arith)
]

name-of : (b : Bool) (name : List ℕ) → 0 < length name → HasName (if b then bindings.Local else bindings.Global) name
name-of true name some = tt
name-of false name some = some

area-place : (area : Area) → is_defined (place_in area) ≡ true
area-place areas.Text = refl
area-place areas.Data = refl

place-with : (b : Bool) (area : Area) → HasPlace (if b then bindings.Local else bindings.Global) (place_in area)
place-with true area = area-place area
place-with false area = tt

place-of : (o : Option Definition) (exported : Bool)
    → HasPlace (if is_some o && not exported then bindings.Local else bindings.Global) (place_of o)
place-of None exported = tt
place-of (Some definition) exported = place-with (true && not exported) definition.area

module _ (object : Object) (lines : List Line) (text : length object.text ≡ end_after areas.Text lines)
    (bytes : length object.static_data ≡ end_after areas.Data lines) where
  value-in : (area : Area) (value : ℕ) → value ≤ end_after area lines
      → value ≤ greatest_value object (place_in area)
  value-in areas.Text value inside = omega (arith, inside, text)
  value-in areas.Data value inside = omega (arith, inside, bytes)

  value-of : (o : Option Definition) → IsInside lines o → value_of o ≤ greatest_value object (place_of o)
  value-of None inside = omega arith
  value-of (Some definition) inside = value-in definition.area definition.value inside.0

  symbol-good : (entry : Entry) → IsShort entry.name → HasInside lines entry → IsGoodSymbol object (symbol_of entry)
  symbol-good entry name inside = record {
    unended = list_any_none (λ byte. byte == 0) entry.name
        (All-weaker IsPlain (λ byte. (byte == 0) ≡ false) plain-zero entry.name name.bytes);
    text = IsUtf8-from_ascii entry.name (plain-ascii entry.name name.bytes);
    named = name-of (is_local entry) entry.name name.some;
    placed = place-of entry.definition entry.exported;
    value = value-of entry.definition inside;
  }

  symbols-good : (entries : List Entry) → All (λ entry. IsShort entry.name) entries → All (HasInside lines) entries
      → All (IsGoodSymbol object) (map symbol_of entries)
  symbols-good entries names inside =
      All-map (IsGoodSymbol object) symbol_of entries
      (λ k d within. symbol-good _ (names k d within) (inside k d within))

seen-of : (b : Bool) (d : Bool) → (is_exported (if b then bindings.Local else bindings.Global) && d) ≡ true → b ≡ false
seen-of true d is = absurd (cc)
seen-of false d is = refl

once : (said : List Entry) → DefineOnce (map symbol_of (in_order (table_of said)))
once said i j less inside one other same =
    let entries = in_order (table_of said) in
    let within : j < length entries = omega (arith, inside, length-map entries symbol_of) in
    let first = get_or-map symbol_of entries i (fresh []) no_symbol (omega (arith, less, within)) in
    let second = get_or-map symbol_of entries j (fresh []) no_symbol within in
    order-apart said i j (fresh []) less within
    (seen-of (is_local (get_or entries i (fresh []))) _
    (ap is_definition (sym first) ∙ one))
    (ap (λ (s : Symbol). s.name) (sym first) ∙ same ∙ ap (λ (s : Symbol). s.name) second)

-- ---- the object

whole : (lines : List Line) → length lines < 2 ^ 32 → AllByRecursion IsFormedLine lines
    → filter_map (fault_at (file_in lines) lines) (placed lines) ≡ []
    → IsWithinLimits (object_by (file_in lines) lines) → IsWhole (object_of_file (object_by (file_in lines) lines))
whole lines few names clear within =
    let file = file_in lines in
    let made = object_by file lines in
    let object = object_of_file made in
    let size = exact file lines clear in
    let good = relocs-good object file lines (length-map file.names symbol_of) size.text size.bytes clear in
    let table = table-inside lines (said_in lines) (said-from lines [] lines refl) in
    record {
      limits = record {
        text = within.text;
        static_data = within.static_data;
        symbols = within.symbols;
        relocs = omega (arith, length-by_area made.relocs, within.relocs);
        types = within.types;
        records = within.records;
        names = within.names;
        infos = all-by_area (λ r. info_of r < 2 ^ 32) made.relocs within.infos;
      };
      words = omega (arith, size.text, size.fours.1);
      symbols = symbols-good object lines size.text size.bytes file.names (names-good lines few names)
          (All-append (HasInside lines) _ _ (All-filter is_local (HasInside lines) (names_in lines) table)
          (All-filter is_seen (HasInside lines) (names_in lines) table));
      apart = once (said_in lines);
      relocs = all-by_area (IsGoodReloc object) made.relocs
          (All-append (IsGoodReloc object) (relocs_by file areas.Text lines) (relocs_by file areas.Data lines)
          (good areas.Text) (good areas.Data));
      order = in-order made.relocs;
    }

pub assembled-whole : (text : List ℕ) (object : Object) → length text ≤ MAX_FILE_BYTES → object_in text ≡ Ok object
    → IsWhole (object_of_file object)
assembled-whole text object short is =
    let lines = lines_in text in
    let file = file_in lines in
    let parts = unless-none (faults_of file lines) (object_by file lines) object is in
    subst (λ (x : Object). IsWhole (object_of_file x)) parts.1
    (whole lines (few-lines text short) (lines-short (lines_of text))
    (front-none (filter_map (fault_at file lines) (placed lines)) (end_faults (length lines + 1)
    (open_after file.kinds lines)) parts.0)
    (subst IsWithinLimits (sym parts.1) (assembled-within text object short is)))
