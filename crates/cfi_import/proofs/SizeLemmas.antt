-- How much a module with stubs has, and which limit it passes first.
use Rattle.std.proofs.Common.{◌≡◌, ◌∙◌, ℕ, zero, suc, ◌+◌, ◌*◌, ◌<◌, ◌≤◌, leb, List, [], ◌∷◌, ◌++◌, length, take, drop, map, replicate, Option, None, refl, sym, ap, inl, inr, arith, length-append}
use Rattle.std.specs.List.{enumerate_from}
use Rattle.std.proofs.lemmas.Bool.{cases_lt, lt-leb, le-leb}
use Rattle.std.proofs.lemmas.List.{length-map, length-replicate, take-append-drop}
use Rattle.std.proofs.lemmas.List.FromFn.{length-enumerate_from}
use Rattle.cfi_word.specs.declared.limits.TheConstants.{MAX_SYMBOLS, MAX_RELOCS, MAX_WORDS, MAX_DATA, MAX_NODES, MAX_FUNCTIONS, MAX_BRANCHES}
use Rattle.elf_read.specs.Places.{joined}
use Rattle.elf_read.specs.declared.fault.Limit.{Limit}
use Rattle.elf_read.specs.declared.fault.Limit.TheVariants as limits
use Rattle.elf_read.specs.declared.object.Symbol.{Symbol}
use Rattle.elf_read.specs.declared.object.Reloc.{Reloc}
use Rattle.cfi_aux.specs.Records.{padding}
use Rattle.cfi_aux.specs.declared.modules.Module.{Module}
use Rattle.cfi_import.specs.declared.object_sizes.Sizes.{Sizes}
use Rattle.cfi_import.specs.Limit.{unless_above, passed, module_sizes}
use Rattle.cfi_import.specs.declared.start.Start.{Start}
use Rattle.cfi_import.specs.declared.start.TheConstants.{STUB_BYTES, CELL_BYTES, STUB_SYMBOLS}
use Rattle.cfi_import.specs.Imports.{names_of, place_of}
use Rattle.cfi_import.specs.Start.{start_of, text_end}
use Rattle.cfi_import.specs.Stubs.{stub_bytes, stub_function, stub_kind, stub_symbols, stub_relocs, moved}
use Rattle.cfi_import.specs.Stubbed.{Parts, parts_of, with_cells, with_symbols, with_relocs, with_stubs_for, parts_with, part_sizes, stubbed_parts, stubs_pass}
use Rattle.cfi_import.specs.inner.Capped.{GREATEST, capped, sizes_more, sizes_with}

-- ---- lengths

-- what several stubs add, each as many
pub length-joined : {T : Type 0} (add : ℕ → List T) (n count : ℕ) → ((place : ℕ) → length (add place) ≡ n)
    → length (joined add count) ≡ n * count
length-joined add n zero each = omega arith
length-joined add n (suc count) each =
    let rest = length-joined add n count each in
    let one = each count in
    let both = length-append (joined add count) (add count) in
    omega (arith, rest, one, both)

pub stub-size : length stub_bytes ≡ STUB_BYTES
unfolding stub_bytes
stub-size = refl

pub length-texts : (count : ℕ) → length (joined (λ place. stub_bytes) count) ≡ STUB_BYTES * count
length-texts count = length-joined (λ place. stub_bytes) STUB_BYTES count (λ place. stub-size)

-- a list in two parts
length-parts : {T : Type 0} (n : ℕ) (xs : List T) → length (take n xs) + length (drop n xs) ≡ length xs
length-parts n xs = sym (length-append (take n xs) (drop n xs)) ∙ ap length (take-append-drop n xs)

pub length-symbols : (start : Start) (symbols : List Symbol)
    → length (with_symbols start symbols) ≡ length symbols + STUB_SYMBOLS * start.count
length-symbols start symbols =
    let before = take start.symbols symbols in
    let after = drop start.symbols symbols in
    let added = joined (stub_symbols start) start.count in
    let one = length-append (before ++ added) after in
    let two = length-append before added in
    let three = length-joined (stub_symbols start) STUB_SYMBOLS start.count (λ place. refl) in
    let four = length-parts start.symbols symbols in
    let sum : length (before ++ added ++ after) ≡ length symbols + STUB_SYMBOLS * start.count =
    omega (arith, one, two, three, four) in
    sum

pub length-relocs : (start : Start) (find : ℕ → Option ℕ) (relocs : List Reloc)
    → length (with_relocs start find relocs) ≡ length relocs + 2 * start.count
length-relocs start find relocs =
    let n = text_end relocs in
    let before = map (moved start find) (take n relocs) in
    let after = map (moved start find) (drop n relocs) in
    let added = joined (stub_relocs start) start.count in
    let one = length-append (before ++ added) after in
    let two = length-append before added in
    let three = length-joined (stub_relocs start) 2 start.count (λ place. refl) in
    let four = length-parts n relocs in
    let five = length-map (take n relocs) (moved start find) in
    let six = length-map (drop n relocs) (moved start find) in
    let sum : length (before ++ added ++ after) ≡ length relocs + 2 * start.count =
    omega (arith, one, two, three, four, five, six) in
    sum

pub length-cells : (count : ℕ) (bytes : List ℕ)
    → length (with_cells count bytes) ≡ length bytes + padding (length bytes) + CELL_BYTES * count
length-cells count bytes =
    let zeros : List ℕ = replicate (padding (length bytes)) 0 in
    let cells : List ℕ = replicate (CELL_BYTES * count) 0 in
    let one = length-append (bytes ++ zeros) cells in
    let two = length-append bytes zeros in
    let three = length-replicate {A = ℕ} (padding (length bytes)) 0 in
    let four = length-replicate {A = ℕ} (CELL_BYTES * count) 0 in
    let sum : length (bytes ++ zeros ++ cells) ≡ length bytes + padding (length bytes) + CELL_BYTES * count =
    omega (arith, one, two, three, four) in
    sum

-- what each name adds
pub length-each : {T : Type 0} (add : ℕ × List ℕ → T) (old : List T) (imports : List (ℕ × Symbol))
    → length (old ++ map add (enumerate_from 0 (names_of imports))) ≡ length old + length imports
length-each add old imports =
    let names = names_of imports in
    let one = length-append old (map add (enumerate_from 0 names)) in
    let two = length-map (enumerate_from 0 names) add in
    let three = length-enumerate_from 0 names in
    let four = length-map imports (λ one. one.1.name) in
    omega (arith, one, two, three, four)

-- ---- limits

le-capped : (n limit : ℕ) → limit < GREATEST → leb (capped n) limit ≡ leb n limit
le-capped n limit small =
    elim (cases_lt limit n) [
      | inl above ↦ lt-leb (capped n) limit (omega arith) ∙ sym (lt-leb n limit above)
      | inr le ↦ le-leb (capped n) limit (omega arith) ∙ sym (le-leb n limit le)
    ]

-- a number that is counted so is within a limit exactly where the number is
above-capped : (limit counted number : ℕ) (what : Limit) (next other : Option Limit) → limit < GREATEST
    → counted ≡ capped number → next ≡ other
    → unless_above limit counted what next ≡ unless_above limit number what other
above-capped limit counted number what next other small is rest =
    ap (λ (n : ℕ). unless_above limit n what next) is
    ∙ (rw (le-capped number limit small) (ap (λ (o : Option Limit). unless_above limit number what o) rest))

-- sizes that are other sizes, counted so
record IsCounted (a b : Sizes) : Type 0 where
  symbols : a.symbols ≡ capped b.symbols
  relocs : a.relocs ≡ capped b.relocs
  text : a.text ≡ capped b.text
  static_data : a.static_data ≡ capped b.static_data
  types : a.types ≡ capped b.types
  functions : a.functions ≡ capped b.functions
  branches : a.branches ≡ capped b.branches

passed-counted : (a b : Sizes) → IsCounted a b → passed a ≡ passed b
passed-counted a b is =
    above-capped MAX_SYMBOLS a.symbols b.symbols limits.Symbols _ _ (omega arith) is.symbols
    (above-capped MAX_RELOCS a.relocs b.relocs limits.Relocs _ _ (omega arith) is.relocs
    (above-capped (4 * MAX_WORDS) a.text b.text limits.Words _ _ (omega arith) is.text
    (above-capped MAX_DATA a.static_data b.static_data limits.Data _ _ (omega arith) is.static_data
    (above-capped MAX_NODES a.types b.types limits.Types _ _ (omega arith) is.types
    (above-capped MAX_FUNCTIONS a.functions b.functions limits.Functions _ _ (omega arith) is.functions
    (above-capped MAX_BRANCHES a.branches b.branches limits.Branches _ _ (omega arith) is.branches refl))))))

counted-sum : (old more new : ℕ) → new ≡ old + more → capped (old + capped more) ≡ capped new
counted-sum old more new is = omega (arith, is)

counted-data : (old more new : ℕ) → new ≡ old + padding old + more
    → capped (capped (old + padding old) + capped more) ≡ capped new
counted-data old more new is = omega (arith, is)

-- a module with stubs
counted : (m : Module) (one : ℕ × Symbol) (imports : List (ℕ × Symbol))
    → IsCounted (sizes_with (module_sizes m) (length (one ∷ imports))) (part_sizes (parts_with m (one ∷ imports)))
counted m one imports =
    let all = one ∷ imports in
    let count = length all in
    let start = start_of m count in
    let object = m.object in
    record {
      symbols = counted-sum (length object.symbols) (STUB_SYMBOLS * count) _ (length-symbols start object.symbols);
      relocs = counted-sum (length object.relocs) (2 * count) _ (length-relocs start (place_of all) object.relocs);
      text = counted-sum (length object.text) (STUB_BYTES * count) _
          (length-append object.text (joined (λ place. stub_bytes) count)
          ∙ ap (λ (n : ℕ). length object.text + n) (length-texts count));
      static_data = counted-data (length object.static_data) (CELL_BYTES * count) _
          (length-cells count object.static_data);
      types = ap capped (sym (length-append m.types _));
      functions = ap capped (sym (length-each (stub_function start) m.records.functions all));
      branches = ap capped (sym (length-each (stub_kind start) m.records.branches all));
    }

-- what the counted sizes pass is what the module with stubs passes
pub passed-with : (m : Module) (imports : List (ℕ × Symbol))
    → passed (sizes_with (module_sizes m) (length imports)) ≡ passed (part_sizes (parts_with m imports))
passed-with m [] = refl
passed-with m (one ∷ imports) = passed-counted _ _ (counted m one imports)
