-- An object that fits can be a file, once its relocations are in the order of a file.
use Rattle.std.proofs.Common.{◌≡◌, ℕ, ◌+◌, ◌<◌, ◌≤◌, ◌^◌, ◌||◌, ◌==◌, not, true, false, List, length, get_or, All, Option, Some, None, sym, ◌∙◌, arith}
use Rattle.std.specs.Prelude.{FitsSigned}
use Rattle.std.specs.Int.{w32}
use Rattle.std.specs.List.{AllPairs}
use Rattle.std.proofs.lemmas.Bool.{and_parts, false≢true}
use Rattle.std.proofs.lemmas.Bool.Decides.{nat_tests}
use Rattle.std.proofs.lemmas.Slice.Eq.{bytes_eq-Decides}
use Rattle.std.proofs.lemmas.Str.{IsUtf8-from_is_utf8}
use Rattle.std.proofs.lemmas.List.Elements.{All-weaker}
use Rattle.cfi_word.specs.declared.limits.TheConstants.{MAX_SYMBOLS, MAX_NAME}
use Rattle.elf_read.specs.Relocation.{is_known, is_of_instruction, field_size}
use Rattle.elf_read.specs.declared.object.Area.{Area}
use Rattle.elf_read.specs.declared.object.Area.TheVariants as areas
use Rattle.elf_read.specs.declared.object.Binding.{Binding}
use Rattle.elf_read.specs.declared.object.Binding.TheVariants as bindings
use Rattle.elf_read.specs.declared.object.Place.{Place}
use Rattle.elf_read.specs.declared.object.Place.TheVariants as places
use Rattle.elf_read.specs.declared.object.Object.{Object}
use Rattle.elf_read.specs.declared.object.Symbol.{Symbol}
use Rattle.elf_read.specs.declared.object.Reloc.{Reloc}
use Rattle.elf_read.specs.Sound.{is_exported, is_defined, are_rivals, IsInsideArea, HasField, HasSymbol, IsSoundSymbol, IsSoundReloc}
use Rattle.elf_write.specs.declared.limits.TheConstants.{MAX_TYPES, MAX_RECORDS}
use Rattle.elf_write.specs.Contents.{no_symbol, symbol_number, info_of}
use Rattle.elf_write.specs.File.{bytes_or_none}
use Rattle.elf_write.specs.Limits.{IsWithinLimits}
use Rattle.elf_write.specs.Whole.{is_definition, HasName, HasPlace, greatest_value, bytes_in, IsOfArea, IsGoodSymbol, DefineOnce, IsGoodReloc, IsWhole}
use Rattle.cfi_made_law.specs.Order.{object_of_file}
use Rattle.cfi_made_law.proofs.ReadLemmas.{IsSmall, IsFit}
use Rattle.cfi_made_law.proofs.OrderLemmas.{in-order, length-by_area, all-by_area}

-- ---- kinds

known-small : (kind : ℕ) → is_known kind ≡ true → kind < 256
unfolding is_known is_of_instruction
known-small kind is = grind (arith, nat_tests)

-- ---- symbols

name-of : (b : Binding) (name : List ℕ) → (not (is_exported b) || not (length name == 0)) ≡ true → HasName b name
name-of bindings.Local name h = tt
name-of bindings.Global name h = grind (arith, nat_tests)
name-of bindings.Weak name h = grind (arith, nat_tests)

place-of : (b : Binding) (place : Place) → (is_exported b || is_defined place) ≡ true → HasPlace b place
place-of bindings.Local place h = h
place-of bindings.Global place h = tt
place-of bindings.Weak place h = tt

value-of : (object : Object) (place : Place) (value : ℕ) → IsInsideArea object place value → value < 2 ^ 32
    → value ≤ greatest_value object place
value-of object places.Text value inside small = inside
value-of object places.Data value inside small = inside
value-of object places.Undefined value inside small = omega (arith, small)
value-of object places.Absolute value inside small = omega (arith, small)

good-symbol : (object : Object) (s : Symbol) → IsSoundSymbol object s → s.value < 2 ^ 32
    → IsGoodSymbol (object_of_file object) s
good-symbol object s sound small = record {
  unended = sound.name_bytes;
  text = IsUtf8-from_is_utf8 s.name sound.name_text;
  named = name-of s.binding s.name sound.named;
  placed = place-of s.binding s.place sound.found;
  value = value-of (object_of_file object) s.place s.value (same s.place sound.inside) small;
}
  where
    same : (place : Place) → IsInsideArea object place s.value → IsInsideArea (object_of_file object) place s.value
    same places.Text inside = inside
    same places.Data inside = inside
    same places.Undefined inside = inside
    same places.Absolute inside = inside

rivals-from : (a b : Symbol) → is_definition a ≡ true → is_definition b ≡ true → a.name ≡ b.name
    → are_rivals a b ≡ true
rivals-from a b one other same =
    let first = and_parts (is_exported a.binding) (is_defined a.place) one in
    let second = and_parts (is_exported b.binding) (is_defined b.place) other in
    rw (first.0, first.1, second.0, second.1) ((bytes_eq-Decides a.name b.name).1 same)

apart : (symbols : List Symbol) → AllPairs (λ a b. are_rivals a b ≡ false) symbols → DefineOnce symbols
apart symbols all i j less inside one other same =
    false≢true (sym (all i j no_symbol less inside)
    ∙ rivals-from (get_or symbols i no_symbol) (get_or symbols j no_symbol) one other same)

-- ---- relocations

number-of : (object : Object) (symbol : Option ℕ) → HasSymbol object symbol
    → symbol_number symbol ≤ length object.symbols
number-of object None has = omega arith
number-of object (Some k) has = omega (arith, has)

inside-of : (object : Object) (area : Area) (kind offset : ℕ) → HasField object area kind offset
    → offset + field_size kind ≤ length (bytes_in (object_of_file object) area)
inside-of object areas.Text kind offset field = field.0
inside-of object areas.Data kind offset field = field.0

placed-of : (object : Object) (area : Area) (kind offset : ℕ) → HasField object area kind offset
    → IsOfArea area offset kind
placed-of object areas.Text kind offset field = (field.1, field.2)
placed-of object areas.Data kind offset field = field.1

good-reloc : (object : Object) (r : Reloc) → IsSoundReloc object r → FitsSigned w32 r.addend
    → IsGoodReloc (object_of_file object) r
good-reloc object r sound fits = record {
  known = sound.known;
  kept = sound.kept;
  symbol = number-of object r.symbol sound.symbol;
  inside = inside-of object r.area r.kind r.offset sound.field;
  placed = placed-of object r.area r.kind r.offset sound.field;
  fits = fits;
}

info-small : (object : Object) (r : Reloc) → length object.symbols ≤ MAX_SYMBOLS → IsSoundReloc object r
    → info_of r < 2 ^ 32
info-small object r few sound =
    omega (arith, few, number-of object r.symbol sound.symbol, known-small r.kind sound.known)

-- ---- objects

-- the bytes of the two sections are not too many
pub record AreFew (object : Object) : Type 0 where
  pub types : length (bytes_or_none object.types) ≤ MAX_TYPES
  pub records : length (bytes_or_none object.records) ≤ MAX_RECORDS

both : (P Q R : Reloc → Type 0) → ((r : Reloc) → P r → Q r → R r) → (rs : List Reloc) → All P rs → All Q rs → All R rs
both P Q R give rs ps qs k d inside = give _ (ps k d inside) (qs k d inside)

pub limits : (object : Object) → IsSmall object → AreFew object → IsWithinLimits object
limits object fit few = record {
  text = fit.text;
  static_data = fit.static_data;
  symbols = fit.symbols;
  relocs = fit.relocs;
  types = few.types;
  records = few.records;
  names = All-weaker (IsSoundSymbol object) (λ s. length s.name ≤ MAX_NAME) (λ s sound. sound.name_size)
      object.symbols fit.sound.symbols;
  infos = All-weaker (IsSoundReloc object) (λ r. info_of r < 2 ^ 32)
      (λ r sound. info-small object r fit.symbols sound) object.relocs fit.sound.relocs;
}

pub whole : (object : Object) → IsFit object → AreFew object → IsWhole (object_of_file object)
whole object fit few =
    let within = limits object fit.small few in
    record {
      limits = record {
        text = within.text;
        static_data = within.static_data;
        symbols = within.symbols;
        relocs = omega (arith, length-by_area object.relocs, within.relocs);
        types = within.types;
        records = within.records;
        names = within.names;
        infos = all-by_area (λ r. info_of r < 2 ^ 32) object.relocs within.infos;
      };
      words = fit.small.sound.words;
      symbols = λ k d inside.
          good-symbol object _ (fit.small.sound.symbols k d inside) (fit.values k d inside);
      apart = apart object.symbols fit.small.sound.definitions;
      relocs = all-by_area (IsGoodReloc (object_of_file object)) object.relocs
          (both (IsSoundReloc object) (λ r. FitsSigned w32 r.addend) (IsGoodReloc (object_of_file object))
          (good-reloc object) object.relocs fit.small.sound.relocs fit.addends);
      order = in-order object.relocs;
    }
