-- The values and addends of a module with stubs have words.
use Rattle.std.proofs.Common.{◌≡◌, ℕ, ◌+◌, ◌<◌, ◌^◌, None, List, [], ◌∷◌, ◌++◌, length, take, drop, map, All, sym, ap, subst, arith, append_assoc}
use Rattle.std.specs.Prelude.{FitsSigned}
use Rattle.std.specs.Int.{w32}
use Rattle.std.proofs.lemmas.List.Elements.{All-append, All-map, All-weaker}
use Rattle.elf_read.specs.Places.{joined}
use Rattle.elf_read.specs.declared.object.Place.TheVariants as places
use Rattle.elf_read.specs.declared.object.Symbol.{Symbol}
use Rattle.elf_read.specs.declared.object.Reloc.{Reloc}
use Rattle.elf_read.specs.declared.relocation.TheConstants.{HI20, LO12_I}
use Rattle.cfi_aux.specs.Sound.{IsSoundModule}
use Rattle.cfi_aux.specs.declared.modules.Module.{Module}
use Rattle.cfi_import.proofs.LimitLemmas.{AreFew}
use Rattle.cfi_import.specs.Imports.{imports_of, place_of}
use Rattle.cfi_import.specs.Start.{start_of, stub_offset, cell_offset, text_end}
use Rattle.cfi_import.specs.Stubs.{unnamed, stub_symbols, cell_reloc, stub_relocs, moved}
use Rattle.cfi_import.specs.Stubbed.{Parts, parts_with, part_sizes, stubs_pass, IsStubbed}
use Rattle.cfi_import.proofs.MadeLemmas.{has-room}
use Rattle.cfi_made_law.proofs.ReadLemmas.{IsFit}
use Rattle.cfi_made_law.proofs.BetweenLemmas.{all-two, all-joined, all-left, all-right, in-two}
use Rattle.cfi_made_law.proofs.StubWholeLemmas.{stubbed-few, stubbed-small}

abbrev IsLow : Symbol → Type 0
IsLow s = s.value < 2 ^ 32

abbrev IsShort : Reloc → Type 0
IsShort r = FitsSigned w32 r.addend

-- a list with something in between has P where both have
between : {T : Type 0} (P : T → Type 0) (n : ℕ) (xs added : List T) → All P xs → All P added
    → All P (take n xs ++ added ++ drop n xs)
between P n xs added all more =
    let two = in-two (All P) n xs all in
    subst (All P) (sym (append_assoc (take n xs) added (drop n xs)))
    (All-append P (take n xs) (added ++ drop n xs) (all-left P (take n xs) (drop n xs) two)
    (All-append P added (drop n xs) more (all-right P (take n xs) (drop n xs) two)))

values-by : (m : Module) (imports : List (ℕ × Symbol)) → AreFew (part_sizes (parts_with m imports))
    → All IsLow m.object.symbols → All IsLow (parts_with m imports).symbols
values-by m [] limits all = all
values-by m (one ∷ imports) limits all =
    let count = length (one ∷ imports) in
    let start = start_of m count in
    let room = has-room m (one ∷ imports) (omega arith) limits in
    between IsLow start.symbols m.object.symbols (joined (stub_symbols start) count) all
    (all-joined IsLow (stub_symbols start) count (λ place lt.
    all-two IsLow (unnamed places.Text (stub_offset start place)) (unnamed places.Data (cell_offset start place))
    (omega (arith, lt, room.text)) (omega (arith, lt, room.static_data))))

addends-by : (m : Module) (imports : List (ℕ × Symbol)) → All IsShort m.object.relocs
    → All IsShort (parts_with m imports).relocs
addends-by m [] all = all
addends-by m (one ∷ imports) all =
    let count = length (one ∷ imports) in
    let start = start_of m count in
    let f = moved start (place_of (one ∷ imports)) in
    let n = text_end m.object.relocs in
    let before = take n m.object.relocs in
    let after = drop n m.object.relocs in
    let added = joined (stub_relocs start) count in
    let two = in-two (All IsShort) n m.object.relocs all in
    let goes = λ (rs : List Reloc) (is : All IsShort rs). All-map IsShort f rs
    (All-weaker IsShort (λ r. IsShort (f r)) (λ r short. short) rs is) in
    subst (All IsShort) (sym (append_assoc (map f before) added (map f after)))
    (All-append IsShort (map f before) (added ++ map f after) (goes before (all-left IsShort before after two))
    (All-append IsShort added (map f after)
    (all-joined IsShort (stub_relocs start) count (λ place lt.
    all-two IsShort (cell_reloc start place (stub_offset start place) HI20)
    (cell_reloc start place (stub_offset start place + 4) LO12_I) (omega arith) (omega arith)))
    (goes after (all-right IsShort before after two))))

pub stubbed-fits : (m out : Module) → IsSoundModule m → stubs_pass m ≡ None → IsStubbed m out → IsFit m.object
    → IsFit out.object
stubbed-fits m out sound none made fit =
    let imports = imports_of m.object in
    let limits = subst (λ (p : Parts). AreFew (part_sizes p)) made.parts (stubbed-few m out none made) in
    record {
      small = stubbed-small m out sound none made;
      values = subst (All IsLow) (sym (ap (λ (p : Parts). p.symbols) made.parts))
          (values-by m imports limits fit.values);
      addends = subst (All IsShort) (sym (ap (λ (p : Parts). p.relocs) made.parts))
          (addends-by m imports fit.addends);
    }
