-- An object has no fault, and is the only one that its bytes are.
use Rattle.std.proofs.Common.{◌≡◌, ◌⊎◌, ◌∙◌, inl, inr, ⊎_elim, ℕ, List, Bool, Result, Ok, Err, IfOk, IfErr, refl, sym, ap, arith}
use Rattle.std.proofs.lemmas.Bool.{both_ways}
use Rattle.elf_read.specs.Places.{IsFirst, IsNone}
use Rattle.elf_read.specs.Header.{section_count}
use Rattle.elf_read.specs.Relocation.{IsFirstRela, IsNoRela}
use Rattle.elf_read.specs.Object.{HasKept}
use Rattle.elf_read.specs.Fault.{IsSound, IsShort, IsBadSection, IsPassed, IsFirstFault, IsObject}
use Rattle.elf_read.specs.declared.object.Object.{Object}
use Rattle.elf_read.specs.declared.fault.ElfFault.{ElfFault}
use Rattle.elf_read.specs.declared.fault.ElfFault.TheVariants.{Short, NotElf32, NotRiscv, NotRelocatable, BadSection, BadSymbol, BadReloc, UnknownReloc, Common, TooMany, Memory}
use Rattle.elf_read.specs.declared.fault.Limit.{Limit}
use Rattle.elf_read.specs.declared.fault.Limit.TheVariants.{Sections, Symbols, Relocs, Words, Data, Types, Functions, Branches}

-- where no number passes, none is the first
none_first : (test : ℕ → Bool) (count k : ℕ) → IsNone test count → IsFirst test count k → ⊥
none_first test count k none first = both_ways (test k) (none k first.within) first.here

none_rela : (bytes : List ℕ) (test : ℕ → ℕ → Bool) (k s i : ℕ) → IsNoRela bytes test (section_count bytes)
    → IsFirstRela bytes test k s i → ⊥
none_rela bytes test k s i none first = both_ways (test s i) (none s first.within i first.first.within) first.first.here

not_short : (bytes : List ℕ) (offset : ℕ) → IsSound bytes → IsShort bytes offset → ⊥
not_short bytes offset sound fault =
    let contents = sound.places.kinds.relas.symbols.sections.contents in
    let whole = contents.names.shape.table.header.whole in
    let table = contents.names.shape.table.table in
    let names = contents.names.names in
    ⊎_elim
    (λ header. omega (arith, header.0))
    (λ later. ⊎_elim
    (λ headers. omega (arith, headers.2))
    (λ last. ⊎_elim
    (λ stored. omega (arith, stored.1))
    (λ kept. none_first _ _ _ contents.whole (kept.1).1)
    last)
    later)
    fault

not_bad_section : (bytes : List ℕ) (k : ℕ) → IsSound bytes → IsBadSection bytes k → ⊥
not_bad_section bytes k sound fault =
    let sections = sound.places.kinds.relas.symbols.sections in
    let shape = sections.contents.names.shape in
    ⊎_elim
    (λ whole. ⊎_elim (λ size. size shape.size) (λ names. omega (arith, names, shape.names)) whole.1)
    (λ first. none_first _ _ _ sections.good first.1)
    fault

not_passed : (bytes : List ℕ) (limit : Limit) → IsSound bytes → IsPassed bytes limit → ⊥
not_passed bytes Sections sound passed =
    let few = sound.places.kinds.relas.symbols.sections.contents.names.shape.table.few in
    omega (arith, few, passed.1)
not_passed bytes Symbols sound passed = omega (arith, sound.symbols, passed.1)
not_passed bytes Relocs sound passed = omega (arith, sound.relocs, passed.2)
not_passed bytes Words sound passed = omega (arith, sound.words, passed.3)
not_passed bytes Data sound passed = omega (arith, sound.data_size, passed.4)
not_passed bytes Types sound passed = passed
not_passed bytes Functions sound passed = passed
not_passed bytes Branches sound passed = passed

-- a sound file has no fault
pub only_memory : (bytes : List ℕ) (fault : ElfFault) → IsSound bytes → IsFirstFault bytes fault → fault ≡ Memory
only_memory bytes (Short offset) sound h = absurd (not_short bytes offset sound h)
only_memory bytes NotElf32 sound h =
    absurd (both_ways _ h.1 sound.places.kinds.relas.symbols.sections.contents.names.shape.table.header.elf)
only_memory bytes NotRiscv sound h =
    absurd (h.2 sound.places.kinds.relas.symbols.sections.contents.names.shape.table.header.machine)
only_memory bytes NotRelocatable sound h =
    absurd (h.3 sound.places.kinds.relas.symbols.sections.contents.names.shape.table.header.kind)
only_memory bytes (BadSection k) sound h = absurd (not_bad_section bytes k sound h)
only_memory bytes (BadSymbol k) sound h = absurd (none_first _ _ _ sound.places.kinds.relas.symbols.good h.1)
only_memory bytes (BadReloc k) sound h = absurd (none_rela _ _ _ _ _ sound.places.kinds.relas.good (h.1).2)
only_memory bytes (UnknownReloc k kind) sound h = absurd (none_rela _ _ _ _ _ sound.places.kinds.known (h.1).2)
only_memory bytes (Common k) sound h = absurd (none_first _ _ _ sound.places.placed h.1)
only_memory bytes (TooMany limit) sound h = absurd (not_passed bytes limit sound h)
only_memory bytes Memory sound h = refl

-- the bytes are one object
pub one_object : (bytes : List ℕ) (a b : Object) → HasKept bytes a → HasKept bytes b → a ≡ b
one_object bytes a b is_a is_b =
    let text = is_a.text ∙ sym is_b.text in
    let static_data = is_a.static_data ∙ sym is_b.static_data in
    let symbols = is_a.symbols ∙ sym is_b.symbols in
    let relocs = is_a.relocs ∙ sym is_b.relocs in
    let types = is_a.types ∙ sym is_b.types in
    let records = is_a.records ∙ sym is_b.records in
    λ i. record {
      text = text i;
      static_data = static_data i;
      symbols = symbols i;
      relocs = relocs i;
      types = types i;
      records = records i;
    }

-- an answer that has these clauses is the object that there is, unless memory ran out
pub only_answer : (bytes : List ℕ) (r : Result Object ElfFault) → IfOk r (IsObject bytes)
    → IfErr r (IsFirstFault bytes) → (object : Object) → IsObject bytes object → (r ≡ Ok object) ⊎ (r ≡ Err Memory)
only_answer bytes (Ok found) ok fault object is = inl (ap (λ x. Ok x) (one_object bytes found object ok.kept is.kept))
only_answer bytes (Err f) ok fault object is = inr (ap (λ x. Err x) (only_memory bytes f is.sound fault))
