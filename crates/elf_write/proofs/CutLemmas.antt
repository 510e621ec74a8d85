-- The faults of a written file that is cut off.
use Rattle.std.proofs.Common.{inl, inr, ◌≡◌, ◌≢◌, ◌+◌, ◌-◌, ◌*◌, ◌<◌, ◌≤◌, ◌⊎◌, ◌^◌, ◌++◌, ℕ, true, false, List, length, take, min, refl, sym, ◌∙◌, ap, subst, length-append, arith}
use Rattle.std.proofs.lemmas.List.{length-take}
use Rattle.std.proofs.Math.Seq.{take-append-add}
use Rattle.elf_read.specs.Header.{is_elf32, machine_of, type_of, table_offset, section_count, IsRelocatable, HasTable}
use Rattle.elf_read.specs.Fault.{IsFirstFault, IsObject, HasSections, HasSymbols, HasRelas, HasKinds, HasPlaces}
use Rattle.elf_read.specs.declared.object.Object.{Object}
use Rattle.elf_read.specs.declared.fault.ElfFault.{ElfFault}
use Rattle.elf_read.specs.declared.fault.ElfFault.TheVariants.{Short, NotElf32, NotRiscv, NotRelocatable, BadSection, BadSymbol, BadReloc, UnknownReloc, Common, TooMany, Memory}
use Rattle.elf_read.specs.declared.fault.Limit.{Limit}
use Rattle.elf_read.specs.declared.fault.Limit.TheVariants as limits
use Rattle.elf_read.specs.declared.header.TheConstants.{HEADER_SIZE, ENTRY_SIZE, MACHINE, RELOCATABLE}
use Rattle.cfi_word.specs.declared.limits.TheConstants.{MAX_SECTIONS}
use Rattle.elf_write.specs.File.{sections_of, body_of, header_of, table_place, bytes_of}
use Rattle.elf_write.specs.Limits.{IsWithinLimits}
use Rattle.elf_write.specs.Cut.{AreRefused}
use Rattle.elf_write.proofs.SizeLemmas.{body-within, length-joined}
use Rattle.elf_write.proofs.LimitLemmas.{length-header, writable}
use Rattle.elf_write.proofs.HeaderLemmas.{front_of, headers_of, file_is, few_sections, fields_of_header, length-front}

-- what later passes have seen to
table_of_sections : (bytes : List ℕ) → HasSections bytes → HasTable bytes
table_of_sections bytes sections = sections.contents.names.shape.table

table_of_places : (bytes : List ℕ) → HasPlaces bytes → HasTable bytes
table_of_places bytes places = table_of_sections bytes places.kinds.relas.symbols.sections

-- a fault of bytes that have no table of sections is one of those before it
module _ (bytes : List ℕ) (untabled : HasTable bytes → ⊥) where
  -- a limit
  passes : (fault : ElfFault) (limit : Limit) → IsFirstFault bytes (TooMany limit)
      → IsRelocatable bytes × (MAX_SECTIONS < section_count bytes)
  passes fault limits.Sections is = is
  passes fault limits.Symbols is = absurd (untabled (table_of_places bytes is.0))
  passes fault limits.Relocs is = absurd (untabled (table_of_places bytes is.0))
  passes fault limits.Words is = absurd (untabled (table_of_places bytes is.0))
  passes fault limits.Data is = absurd (untabled (table_of_places bytes is.0))
  passes fault limits.Types is = absurd is
  passes fault limits.Functions is = absurd is
  passes fault limits.Branches is = absurd is

  no_object : (object : Object) → IsObject bytes object → ⊥
  no_object object is = untabled (table_of_places bytes is.sound.places)

-- bytes without a whole header
one_header : (bytes : List ℕ) → length bytes < HEADER_SIZE → (other : ElfFault) → IsFirstFault bytes other
    → (other ≡ Short 0) ⊎ (other ≡ Memory)
one_header bytes few other is = by_fault other is
  where
    untabled : HasTable bytes → ⊥
    untabled table = let whole = table.header.whole in omega (arith, few, whole)

    by_fault : (fault : ElfFault) → IsFirstFault bytes fault → (fault ≡ Short 0) ⊎ (fault ≡ Memory)
    by_fault (Short offset) (inl is) = inl (ap Short is.1)
    by_fault (Short offset) (inr (inl is)) = absurd (let whole = is.0.whole in omega (arith, few, whole))
    by_fault (Short offset) (inr (inr (inl is))) = absurd (untabled is.0.table)
    by_fault (Short offset) (inr (inr (inr is))) = absurd (untabled is.0.shape.table)
    by_fault NotElf32 is = absurd (omega (arith, few, is.0))
    by_fault NotRiscv is = absurd (omega (arith, few, is.0))
    by_fault NotRelocatable is = absurd (omega (arith, few, is.0))
    by_fault (BadSection k) (inl is) = absurd (untabled is.0)
    by_fault (BadSection k) (inr is) = absurd (untabled is.0.names.shape.table)
    by_fault (BadSymbol k) is = absurd (untabled (table_of_sections bytes is.0))
    by_fault (BadReloc k) is = absurd (untabled (table_of_sections bytes is.0.sections))
    by_fault (UnknownReloc k kind) is = absurd (untabled (table_of_sections bytes is.0.symbols.sections))
    by_fault (Common k) is = absurd (untabled (table_of_sections bytes is.0.relas.symbols.sections))
    by_fault (TooMany limit) is =
        let relocatable = passes bytes untabled (TooMany limit) limit is in
        absurd (let whole = relocatable.0.whole in omega (arith, few, whole))
    by_fault Memory is = inr refl

-- bytes with a whole header and no whole table
one_table : (bytes : List ℕ) → IsRelocatable bytes → section_count bytes ≤ MAX_SECTIONS
    → length bytes < table_offset bytes + ENTRY_SIZE * section_count bytes → (other : ElfFault)
    → IsFirstFault bytes other → (other ≡ Short (table_offset bytes)) ⊎ (other ≡ Memory)
one_table bytes header few cut other is = by_fault other is
  where
    untabled : HasTable bytes → ⊥
    untabled table = let whole = table.table in omega (arith, cut, whole)

    by_fault : (fault : ElfFault) → IsFirstFault bytes fault
        → (fault ≡ Short (table_offset bytes)) ⊎ (fault ≡ Memory)
    by_fault (Short offset) (inl is) = absurd (let whole = header.whole in omega (arith, is.0, whole))
    by_fault (Short offset) (inr (inl is)) = inl (ap Short is.3)
    by_fault (Short offset) (inr (inr (inl is))) = absurd (untabled is.0.table)
    by_fault (Short offset) (inr (inr (inr is))) = absurd (untabled is.0.shape.table)
    by_fault NotElf32 is = let bad : true ≡ false = sym header.elf ∙ is.1 in absurd cc
    by_fault NotRiscv is = absurd (is.2 header.machine)
    by_fault NotRelocatable is = absurd (is.3 header.kind)
    by_fault (BadSection k) (inl is) = absurd (untabled is.0)
    by_fault (BadSection k) (inr is) = absurd (untabled is.0.names.shape.table)
    by_fault (BadSymbol k) is = absurd (untabled (table_of_sections bytes is.0))
    by_fault (BadReloc k) is = absurd (untabled (table_of_sections bytes is.0.sections))
    by_fault (UnknownReloc k kind) is = absurd (untabled (table_of_sections bytes is.0.symbols.sections))
    by_fault (Common k) is = absurd (untabled (table_of_sections bytes is.0.relas.symbols.sections))
    by_fault (TooMany limit) is =
        let passed = passes bytes untabled (TooMany limit) limit is in
        absurd (omega (arith, passed.1, few))
    by_fault Memory is = inr refl

-- ---- the files

-- the header is not whole
pub cut_header : (object : Object) (k : ℕ) → IsWithinLimits object → k < HEADER_SIZE
    → AreRefused (take k (bytes_of object)) (Short 0)
cut_header object k limits low =
    let bytes : List ℕ = take k (bytes_of object) in
    let size = length-take k (bytes_of object) in
    let few : length bytes < HEADER_SIZE = omega (arith, size, low) in
    record {
      is = inl (few, refl);
      one = one_header bytes few;
      none = no_object bytes (λ table. let whole = table.header.whole in omega (arith, few, whole));
    }

length-headers : (object : Object) → length (headers_of object) ≡ ENTRY_SIZE * length (sections_of object)
unfolding headers_of
length-headers object = length-joined (header_of object) 40 (length (sections_of object)) (λ k. length-header object _ _ _)

-- bytes that begin with the header, and end before its table does
tableless : (object : Object) (rest : List ℕ) → IsWithinLimits object
    → HEADER_SIZE + length rest < table_place object + ENTRY_SIZE * length (sections_of object)
    → AreRefused (front_of object ++ rest) (Short (table_place object))
unfolding front_of
tableless object rest limits short =
    let bytes : List ℕ = front_of object ++ rest in
    let small = few_sections object in
    let fields = fields_of_header (table_place object) (length (sections_of object)) rest
    (body-within object (writable object limits)) (omega (arith, small)) in
    let size : length bytes ≡ HEADER_SIZE + length rest =
    length-append (front_of object) rest ∙ ap (λ n. n + length rest) (length-front object) in
    let header : IsRelocatable bytes =
    record { whole = omega (arith, size); elf = fields.0; machine = fields.2; kind = fields.1 } in
    let count : section_count bytes ≡ length (sections_of object) = fields.5 in
    let place : table_offset bytes ≡ table_place object = fields.3 in
    let few : section_count bytes ≤ MAX_SECTIONS = omega (arith, count, small) in
    let cut : length bytes < table_offset bytes + ENTRY_SIZE * section_count bytes =
    omega (arith, size, count, place, short) in
    subst (λ n. AreRefused bytes (Short n)) place (record {
      is = inr (inl (header, few, cut, refl));
      one = one_table bytes header few cut;
      none = no_object bytes (λ table. let whole = table.table in omega (arith, cut, whole));
    })

-- the header is whole, and the table is not
pub cut_table : (object : Object) (k : ℕ) → IsWithinLimits object → HEADER_SIZE ≤ k → k < length (bytes_of object)
    → AreRefused (take k (bytes_of object)) (Short (table_place object))
cut_table object k limits low high =
    let front = front_of object in
    let rest : List ℕ = body_of object (sections_of object) ++ headers_of object in
    let n : ℕ = k - HEADER_SIZE in
    let place : k ≡ length front + n = omega (arith, low, length-front object) in
    let same : take k (bytes_of object) ≡ front ++ take n rest =
    ap (take k) (file_is object) ∙ ap (λ m. take m (front ++ rest)) place ∙ take-append-add front rest n in
    let all : length (bytes_of object) ≡ length front + length rest =
    ap length (file_is object) ∙ length-append front rest in
    let body = length-append (body_of object (sections_of object)) (headers_of object) in
    let size = length-take n rest in
    let short : HEADER_SIZE + length (take n rest) < table_place object + ENTRY_SIZE * length (sections_of object) =
    omega (arith, low, high, all, body, size, length-headers object, length-front object) in
    subst (λ bytes. AreRefused bytes (Short (table_place object))) (sym same)
    (tableless object (take n rest) limits short)
