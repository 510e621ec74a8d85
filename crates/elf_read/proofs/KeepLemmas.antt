-- Where the symbols and relocations of a sound file lead.
use Rattle.std.proofs.Common.{◌≡◌, ◌≢◌, ◌+◌, ◌<◌, ◌≤◌, ◌==◌, ◌&&◌, ◌||◌, not, ℕ, List, length, get_or, Bool, true, false, nat_lt, refl, sym, ap, ◌∙◌, arith}
use Rattle.std.proofs.lemmas.Bool.{and_parts, and_from, ltb-true, ltb-false, ne_eqb, not-false, false≢true}
use Rattle.std.proofs.lemmas.List.{get_or_read}
use Rattle.elf_read.specs.Layout.{IsLayout}
use Rattle.elf_read.specs.declared.layout.Layout.{Layout}
use Rattle.elf_read.specs.declared.symbol.Entry.{Entry}
use Rattle.elf_read.specs.declared.relocation.Rela.{Rela}
use Rattle.elf_read.specs.Header.{section_count}
use Rattle.elf_read.specs.Section.{section_at, is_loaded}
use Rattle.elf_read.specs.Symbol.{symbol_at, symbol_count, is_in_section, is_left_out, is_bad_place, is_past_section, is_common, type_of}
use Rattle.elf_read.specs.Relocation.{rela_count, rela_at, symbol_index, is_bad_rela_at, is_bad_reference, is_outside, is_misplaced}
use Rattle.elf_read.specs.Object.{symbol_number}
use Rattle.elf_read.specs.Join.{start_of}
use Rattle.elf_read.specs.Fault.{IsSound}
use Rattle.elf_read.specs.declared.symbol.TheConstants.{UNDEFINED, ABSOLUTE, COMMON, FILE}
use Rattle.elf_read.proofs.SectionLemmas.{or_false, and_false}
use Rattle.elf_read.proofs.SymbolLemmas.{IsGoodSymbol, good_symbol}
use Rattle.elf_read.proofs.RelaLemmas.{rela_there, rela_target}
use Rattle.elf_read.proofs.JoinLemmas.{start-small, count_where-le}

-- the symbols of a sound file are good
pub sound_symbol : (bytes : List ℕ) (k : ℕ) → IsSound bytes → k < symbol_count bytes → IsGoodSymbol bytes k
sound_symbol bytes k sound within = good_symbol bytes k (sound.places.kinds.relas.symbols.good k within)

or_left : (a b : Bool) → a ≡ false → (a || b) ≡ true → b ≡ true
or_left true b none is = absurd (false≢true (sym none))
or_left false b none is = is

-- a symbol that is neither undefined nor absolute is in a section
pub section_there : (bytes : List ℕ) (k : ℕ) → IsSound bytes → k < symbol_count bytes
    → (symbol_at bytes k).section ≢ 0 → (symbol_at bytes k).section ≢ 0xfff1
    → (symbol_at bytes k).section < section_count bytes
unfolding is_bad_place is_common
section_there bytes k sound within defined relative =
    let section = (symbol_at bytes k).section in
    let good = not-false _ (sound_symbol bytes k sound within).place in
    let none : (section == UNDEFINED) ≡ false = ne_eqb _ _ defined in
    let absolute : (section == ABSOLUTE) ≡ false = ne_eqb _ _ relative in
    let common : (section == COMMON) ≡ false = sound.places.placed k within in
    let three : ((section == UNDEFINED) || (section == ABSOLUTE) || (section == COMMON)) ≡ false =
    rw (none, absolute, common) refl in
    ltb-true _ _ (or_left ((section == UNDEFINED) || (section == ABSOLUTE) || (section == COMMON))
    (nat_lt section (section_count bytes)) three good)

-- a kept symbol in a section is in a loaded one
pub kept_loaded : (bytes : List ℕ) (k : ℕ) → is_left_out bytes k ≡ false
    → is_in_section bytes (symbol_at bytes k) ≡ true → is_loaded bytes (symbol_at bytes k).section ≡ true
unfolding is_left_out
kept_loaded bytes k kept inside =
    let symbol = symbol_at bytes k in
    let last =
    (or_false ((k == 0) || (type_of symbol == FILE)) (is_in_section bytes symbol
    && not (is_loaded bytes symbol.section)) kept).1 in
    not-false _ (and_false (is_in_section bytes symbol) (not (is_loaded bytes symbol.section)) inside last)

-- its value is within the joined text or data
pub value-small : (bytes : List ℕ) (k : ℕ) → IsSound bytes → k < symbol_count bytes → is_left_out bytes k ≡ false
    → is_in_section bytes (symbol_at bytes k) ≡ true
    → ((symbol_at bytes k).section < section_count bytes)
    × (start_of bytes (symbol_at bytes k).section + (symbol_at bytes k).value ≤ 524288)
unfolding is_past_section
value-small bytes k sound within kept inside =
    let symbol = symbol_at bytes k in
    let loaded = kept_loaded bytes k kept inside in
    let there : symbol.section < section_count bytes =
    ltb-true _ _ ((and_parts (not (symbol.section == UNDEFINED)) (nat_lt symbol.section (section_count bytes))
    inside).1) in
    let past = (sound_symbol bytes k sound within).value in
    let both : (is_in_section bytes symbol && is_loaded bytes symbol.section) ≡ true = and_from _ _ inside loaded in
    let value =
    ltb-false _ _ (and_false (is_in_section bytes symbol && is_loaded bytes symbol.section)
    (nat_lt (section_at bytes symbol.section).size symbol.value) both past) in
    let start = start-small bytes symbol.section sound there loaded in
    (there, omega (arith, value, start))

-- the rules that a relocation of a sound file keeps
good_rela : (bytes : List ℕ) (s i : ℕ) → IsSound bytes → s < section_count bytes → i < rela_count bytes s
    → (is_bad_reference bytes (rela_at bytes s i) ≡ false)
    × (is_outside bytes (section_at bytes s).info (rela_at bytes s i) ≡ false)
unfolding is_bad_rela_at
good_rela bytes s i sound within entry =
    let rela = rela_at bytes s i in
    let target = (section_at bytes s).info in
    let good = sound.places.kinds.relas.good s within i entry in
    let two =
    or_false (is_bad_reference bytes rela || is_outside bytes target rela) (is_misplaced bytes target rela) good in
    or_false (is_bad_reference bytes rela) (is_outside bytes target rela) two.0

-- its symbol is there
pub reference_there : (bytes : List ℕ) (s i : ℕ) → IsSound bytes → s < section_count bytes → i < rela_count bytes s
    → symbol_index (rela_at bytes s i) ≢ 0 → symbol_index (rela_at bytes s i) < symbol_count bytes
unfolding is_bad_reference
reference_there bytes s i sound within entry some =
    let symbol = symbol_index (rela_at bytes s i) in
    let good = (good_rela bytes s i sound within entry).0 in
    let named : not (symbol == 0) ≡ true = rw (ne_eqb symbol 0 some) refl in
    let parts =
    and_false (not (symbol == 0)) (not (nat_lt symbol (symbol_count bytes)) || is_left_out bytes symbol) named good in
    ltb-true _ _ (not-false _ ((or_false (not (nat_lt symbol (symbol_count bytes))) (is_left_out bytes symbol)
    parts).0))

-- its field is within the joined text or data
pub offset-small : (bytes : List ℕ) (s i : ℕ) → IsSound bytes → s < section_count bytes → i < rela_count bytes s
    → start_of bytes (section_at bytes s).info + (rela_at bytes s i).offset ≤ 524288
unfolding is_outside
offset-small bytes s i sound within entry =
    let rela = rela_at bytes s i in
    let target = rela_target bytes s (rela_there bytes s (omega arith)) in
    let inside = ltb-false _ _ (good_rela bytes s i sound within entry).1 in
    let start = start-small bytes (section_at bytes s).info sound target.0 target.1 in
    omega (arith, inside, start)

-- what a layout has for a section is where it begins
start_read : (bytes : List ℕ) (layout : Layout) (k x : ℕ) → IsLayout bytes layout → k < section_count bytes
    → x ≡ get_or layout.starts.items k x → x ≡ start_of bytes k
start_read bytes layout k x made within read =
    let there : k < length layout.starts.items = omega (arith, made.len) in
    get_or_read layout.starts.items k x there read 0 ∙ made.starts k within

-- the value that the reader computes is small
pub value_read : (bytes : List ℕ) (layout : Layout) (entry : Entry) (k x : ℕ) → IsSound bytes
    → IsLayout bytes layout → k < symbol_count bytes → is_left_out bytes k ≡ false
    → is_in_section bytes (symbol_at bytes k) ≡ true → entry ≡ symbol_at bytes k
    → x ≡ get_or layout.starts.items entry.section x → x + entry.value ≤ 524288
value_read bytes layout entry k x sound made within kept inside is read =
    let small = value-small bytes k sound within kept inside in
    let section : entry.section ≡ (symbol_at bytes k).section = ap (λ e. e.section) is in
    let value : entry.value ≡ (symbol_at bytes k).value = ap (λ e. e.value) is in
    let there : x ≡ get_or layout.starts.items (symbol_at bytes k).section x = rw (← section) read in
    let start = start_read bytes layout (symbol_at bytes k).section x made small.0 there in
    omega (arith, small, start, value)

-- the offset that the reader computes is that of the field, and small
pub offset_read : (bytes : List ℕ) (layout : Layout) (rela : Rela) (s i target x : ℕ) → IsSound bytes
    → IsLayout bytes layout → s < section_count bytes → i < rela_count bytes s
    → target ≡ (section_at bytes s).info → rela ≡ rela_at bytes s i → x ≡ get_or layout.starts.items target x
    → (x + rela.offset ≡ start_of bytes (section_at bytes s).info + (rela_at bytes s i).offset)
    × (x + rela.offset ≤ 524288)
offset_read bytes layout rela s i target x sound made within entry leads is read =
    let there = rela_target bytes s (rela_there bytes s (omega arith)) in
    let offset : rela.offset ≡ (rela_at bytes s i).offset = ap (λ r. r.offset) is in
    let at : x ≡ get_or layout.starts.items (section_at bytes s).info x = rw (← leads) read in
    let start = start_read bytes layout (section_at bytes s).info x made there.0 at in
    let small = offset-small bytes s i sound within entry in
    (omega (arith, start, offset), omega (arith, start, offset, small))

-- a symbol's number among those that are kept is at most its number
pub symbol_number-le : (bytes : List ℕ) (k : ℕ) → symbol_number bytes k ≤ k
unfolding symbol_number
symbol_number-le bytes k = count_where-le (λ j. not (is_left_out bytes j)) k
