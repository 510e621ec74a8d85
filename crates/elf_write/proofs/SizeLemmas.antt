-- How long a file and its parts are.
use Rattle.std.proofs.Common.{◌≡◌, ◌==◌, ◌+◌, ◌*◌, ◌<◌, ◌≤◌, ◌^◌, ◌++◌, ℕ, zero, suc, Bool, true, false, cond, is_some, List, [], ◌∷◌, length, take, get_or, refl, ap, ◌∙◌, length-append, arith}
use Rattle.std.specs.List.{flat_map}
use Rattle.std.proofs.lemmas.List.{take_more}
use Rattle.std.proofs.lemmas.List.Concat.{flat_map-append}
use Rattle.std.proofs.lemmas.List.Folds.{length-flat_map-take}
use Rattle.elf_read.specs.Places.{joined}
use Rattle.elf_read.specs.declared.object.Object.{Object}
use Rattle.elf_read.specs.declared.object.Symbol.{Symbol}
use Rattle.elf_write.specs.declared.part.Part.{Part}
use Rattle.elf_write.specs.declared.part.Part.TheVariants.{Null, Text, Data, Types, Records, TextRelas, DataRelas, Symbols, SymbolNames, SectionNames}
use Rattle.elf_write.specs.Part.{parts_of, section_name}
use Rattle.elf_write.specs.Contents.{name_table, null_entry, symbol_entry, entry_of, symbol_table}
use Rattle.elf_write.specs.File.{sections_of, contents_of, padding, padded, body_of, symbols_number, names_number, name_place, table_place, header_of, part_header, section_place, file_header, bytes_of, IsWritable}

-- what entries of one size give together
pub length-joined : (give : ℕ → List ℕ) (size count : ℕ) → ((k : ℕ) → length (give k) ≡ size)
    → length (joined give count) ≡ size * count
length-joined give size zero each = omega arith
length-joined give size (suc count) each =
    let before = length-joined give size count each in
    let sum = length-append (joined give count) (give count) in
    let last = each count in
    let product : size * suc count ≡ size * count + size = omega arith in
    omega (arith, before, sum, last, product)

pub length-entry : (place : ℕ) (symbol : Symbol) → length (symbol_entry place symbol) ≡ 16
unfolding symbol_entry
length-entry place symbol = refl

pub length-null_entry : length null_entry ≡ 16
unfolding null_entry
length-null_entry = refl

pub length-symbol_table : (symbols : List Symbol) → length (symbol_table symbols) ≡ 16 + 16 * length symbols
unfolding symbol_table
length-symbol_table symbols =
    let entries = length-joined (entry_of symbols) 16 (length symbols) (λ k. length-entry _ _) in
    let sum = length-append null_entry (joined (entry_of symbols) (length symbols)) in
    omega (arith, entries, sum, length-null_entry)

pub length-file_header : (table count : ℕ) → length (file_header table count) ≡ 52
unfolding file_header
length-file_header table count = refl

pub padded-above : (bytes : List ℕ) → length bytes ≤ length (padded bytes)
unfolding padded
padded-above bytes = let sum = length-append bytes (padding (length bytes)) in omega (arith, sum)

-- the file is no shorter than its header and the contents of its sections
pub body-within : (object : Object) → IsWritable object → 52 + length (body_of object (sections_of object)) < 2 ^ 32
unfolding bytes_of
body-within object writable =
    let sections = sections_of object in
    let header = file_header (table_place object) (length sections) in
    let headers = joined (header_of object) (length sections) in
    let front = length-append header (body_of object sections) in
    let all = length-append (header ++ body_of object sections) headers in
    let size = writable.size in
    omega (arith, front, all, size, length-file_header (table_place object) (length sections))

-- so is each section, after those before it
pub part-within : (object : Object) (k : ℕ) → IsWritable object → k < length (sections_of object)
    → 52 + length (body_of object (take k (sections_of object)))
    + length (contents_of object (get_or (sections_of object) k Null)) < 2 ^ 32
part-within object k writable within =
    let sections = sections_of object in
    let part = length-flat_map-take (λ (p : Part). padded (contents_of object p)) sections k Null within in
    let above = padded-above (contents_of object (get_or sections k Null)) in
    let all = body-within object writable in
    omega (arith, part, above, all)

-- where the symbol table and its names stand
pub symbols_at : (types records : Bool)
    → get_or (parts_of types records) (5 + (cond types 1 0 + cond records 1 0)) Null ≡ Symbols
symbols_at true true = refl
symbols_at true false = refl
symbols_at false true = refl
symbols_at false false = refl

pub names_at : (types records : Bool)
    → get_or (parts_of types records) (6 + (cond types 1 0 + cond records 1 0)) Null ≡ SymbolNames
names_at true true = refl
names_at true false = refl
names_at false true = refl
names_at false false = refl

pub parts_count : (types records : Bool) → length (parts_of types records) ≡ 8 + (cond types 1 0 + cond records 1 0)
parts_count true true = refl
parts_count true false = refl
parts_count false true = refl
parts_count false false = refl

pub symbols-fit : (object : Object) → IsWritable object → 16 + 16 * length object.symbols < 2 ^ 32
symbols-fit object writable =
    let types = is_some object.types in
    let records = is_some object.records in
    let count = parts_count types records in
    let part = part-within object (symbols_number object) writable (omega (arith, count)) in
    let is : length (contents_of object (get_or (sections_of object) (symbols_number object) Null)) ≡ length
    (symbol_table object.symbols)
    = ap (λ (p : Part). length (contents_of object p)) (symbols_at types records) in
    omega (arith, part, is, length-symbol_table object.symbols)

pub names-fit : (object : Object) → IsWritable object → length (name_table object.symbols) < 2 ^ 32
names-fit object writable =
    let types = is_some object.types in
    let records = is_some object.records in
    let count = parts_count types records in
    let part = part-within object (names_number object) writable (omega (arith, count)) in
    let is : length (contents_of object (get_or (sections_of object) (names_number object) Null)) ≡ length (name_table
    object.symbols)
    = ap (λ (p : Part). length (contents_of object p)) (names_at types records) in
    omega (arith, part, is)

-- no name of a section is longer than 13
pub name-short : (part : Part) → length (section_name part) ≤ 13
name-short Null = omega arith
name-short Text = omega arith
name-short Data = omega arith
name-short Types = omega arith
name-short Records = omega arith
name-short TextRelas = omega arith
name-short DataRelas = omega arith
name-short Symbols = omega arith
name-short SymbolNames = omega arith
name-short SectionNames = omega arith

-- where the name of the next section begins
pub next_name : (object : Object) (k : ℕ) (part : Part) → k < length (sections_of object)
    → get_or (sections_of object) k Null ≡ part
    → name_place object (k + 1) ≡ name_place object k + length (section_name part)
next_name object k part within is =
    let sections = sections_of object in
    let more : take (k + 1) sections ≡ take k sections ++ part ∷ [] = take_more sections k Null within
    ∙ ap (λ p. take k sections ++ p ∷ []) is in
    let split = flat_map-append section_name (take k sections) (part ∷ []) in
    let sum = length-append (flat_map section_name (take k sections)) (section_name part ++ []) in
    let last = length-append (section_name part) [] in
    rw (more, split) (omega (arith, sum, last))

-- so the numbers of a section fit
pub part-fits : (object : Object) (sections : List Part) (k : ℕ) (body : List ℕ) → IsWritable object
    → sections ≡ sections_of object → k < length sections
    → body ≡ body_of object (take k sections)
    → 52 + length body + length (contents_of object (get_or sections k Null)) < 2 ^ 32
part-fits object sections k body writable is within before =
    let there : k < length (sections_of object) = rw is at within in
    rw (before, is) (part-within object k writable there)

-- the header of a section is the one of its number
pub header_is : (object : Object) (sections : List Part) (k len name place : ℕ) (body : List ℕ)
    → sections ≡ sections_of object → body ≡ body_of object (take k sections)
    → len ≡ length body → name ≡ name_place object k → place ≡ cond (k == 0) 0 (52 + len)
    → part_header object (get_or sections k Null) name place ≡ header_of object k
unfolding section_place
header_is object sections k len name place body is before size named placed =
    let contents : len ≡ length (body_of object (take k (sections_of object))) = size ∙ ap (length {A = ℕ}) before
    ∙ ap (λ (s : List Part). length (body_of object (take k s))) is in
    let there : place ≡ section_place object k = placed ∙ ap (λ n. cond (k == 0) 0 (52 + n)) contents in
    ap (λ (s : List Part). part_header object (get_or s k Null) name place) is
    ∙ ap (λ n. part_header object (get_or (sections_of object) k Null) n place) named
    ∙ ap (λ p. part_header object (get_or (sections_of object) k Null) (name_place object k) p) there
