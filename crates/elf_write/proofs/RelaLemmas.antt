-- Which sections of a written file have relocations, and what all of them give.
use Rattle.std.proofs.Common.{◌≡◌, ◌≢◌, ◌==◌, ◌&&◌, ◌||◌, ◌+◌, ◌/◌, ◌<◌, ◌≤◌, ◌^◌, ◌++◌, ℕ, zero, suc, Bool, true, false, cond, is_some, nat_lt, List, [], ◌∷◌, length, get_or, filter, refl, sym, ap, ◌∙◌, arith, ⊎_elim}
use Rattle.std.proofs.lemmas.Bool.{cases_Bool, ne_eqb, lt-ltb, false≢true}
use Rattle.std.proofs.lemmas.List.Elements.{All-filter}
use Rattle.elf_read.specs.Header.{section_count}
use Rattle.elf_read.specs.Section.{section_at, is_loaded, is_rela}
use Rattle.elf_read.specs.Places.{joined}
use Rattle.elf_read.specs.Relocation.{rela_count}
use Rattle.elf_read.specs.Object.{reloc_of, relocs_of}
use Rattle.elf_read.specs.declared.section.Section.{Section}
use Rattle.elf_read.specs.declared.object.Object.{Object}
use Rattle.elf_read.specs.declared.object.Reloc.{Reloc}
use Rattle.elf_read.specs.declared.object.Area.{Area}
use Rattle.elf_read.specs.declared.object.Area.TheVariants as areas
use Rattle.elf_write.specs.declared.part.Part.{Part}
use Rattle.elf_write.specs.declared.part.Part.TheVariants.{Null, TextRelas, DataRelas}
use Rattle.elf_write.specs.Part.{parts_of, kind_of}
use Rattle.elf_write.specs.Contents as written
use Rattle.elf_write.specs.Contents.{info_of, is_in, rela_entry, relas_of}
use Rattle.elf_write.specs.File.{sections_of, contents_of, extra_of, info_of_part, IsWritable}
use Rattle.elf_write.specs.Whole.{IsWhole, IsGoodReloc}
use Rattle.elf_write.proofs.SizeLemmas.{parts_count}
use Rattle.elf_write.proofs.LimitLemmas.{length-rela_entry}
use Rattle.elf_write.proofs.HeaderLemmas.{part_of}
use Rattle.elf_write.proofs.SectionLemmas.{AreSections, written_section}
use Rattle.elf_write.proofs.PartLemmas.{code, only_at, text_relas_stand, data_relas_stand}
use Rattle.elf_write.proofs.KindLemmas.{count_is, enough, text_at, data_at}
use Rattle.elf_write.proofs.ListLemmas.{joined-two, length-pieces}
use Rattle.elf_write.proofs.InfoLemmas.{HasLoaded, has_loaded}
use Rattle.elf_write.proofs.JoinLemmas.{text_starts, data_starts}
use Rattle.elf_write.proofs.RelocLemmas.{no_reloc, HasRelas, relocs_are}

rela_by : (part : Part) (count : ℕ) (object : Object) (loaded : ℕ → Bool) → 8 ≤ count → loaded 1 ≡ true
    → loaded 2 ≡ true
    → (kind_of part == 4 && nat_lt (info_of_part object part) count
    && loaded (info_of_part object part)) ≡ (code part == 5 || code part == 6)
rela_by TextRelas count object loaded some one two =
    let there : nat_lt 1 count ≡ true = lt-ltb _ _ (omega arith) in
    rw (there, one) refl
rela_by DataRelas count object loaded some one two =
    let there : nat_lt 2 count ≡ true = lt-ltb _ _ (omega arith) in
    rw (there, two) refl
rela_by _ count object loaded some one two = refl

text_relas_at : (types records : Bool)
    → get_or (parts_of types records) (3 + (cond types 1 0 + cond records 1 0)) Null ≡ TextRelas
text_relas_at true true = refl
text_relas_at true false = refl
text_relas_at false true = refl
text_relas_at false false = refl

data_relas_at : (types records : Bool)
    → get_or (parts_of types records) (4 + (cond types 1 0 + cond records 1 0)) Null ≡ DataRelas
data_relas_at true true = refl
data_relas_at true false = refl
data_relas_at false true = refl
data_relas_at false false = refl

-- the relocations of an area
abbrev pub of_area : Object → Area → List Reloc
of_area object area = filter (is_in area) object.relocs

text_area : (area : Area) → written.is_text_area area ≡ true → area ≡ areas.Text
text_area areas.Text is = refl
text_area areas.Data is = absurd (false≢true is)

data_area : (area : Area) → written.is_data_area area ≡ true → area ≡ areas.Data
data_area areas.Text is = absurd (false≢true is)
data_area areas.Data is = refl

in_area : (area : Area) (reloc : Reloc) → is_in area reloc ≡ true → reloc.area ≡ area
in_area areas.Text reloc is = text_area reloc.area is
in_area areas.Data reloc is = data_area reloc.area is

later : {X : Type 0} (test : X → Bool) (x : X) (xs : List X) → test x ≡ true → (i : ℕ) (d : X)
    → i < suc (length (filter test xs))
    → ((j : ℕ) (e : X) → j < length (filter test xs) → test (get_or (filter test xs) j e) ≡ true)
    → test (get_or (x ∷ filter test xs) i d) ≡ true
later test x xs is zero d within rest = is
later test x xs is (suc i) d within rest = rest i d (omega arith)

passes : {X : Type 0} (test : X → Bool) (xs : List X) (i : ℕ) (d : X) → i < length (filter test xs)
    → test (get_or (filter test xs) i d) ≡ true
passes test [] i d within = absurd (omega arith)
passes test (x ∷ xs) i d within = ⊎_elim
    (λ (is : test x ≡ true).
    let here : filter test (x ∷ xs) ≡ x ∷ filter test xs = rw is refl in
    let count : i < suc (length (filter test xs)) = omega (arith, ap length here) in
    ap (λ ys. test (get_or ys i d)) here ∙ later test x xs is i d count (passes test xs))
    (λ (none : test x ≡ false).
    let here : filter test (x ∷ xs) ≡ filter test xs = rw none refl in
    let count : i < length (filter test xs) = omega (arith, ap length here) in
    ap (λ ys. test (get_or ys i d)) here ∙ passes test xs i d count)
    (cases_Bool (test x))

of_that : (area : Area) (relocs : List Reloc) (i : ℕ) → i < length (filter (is_in area) relocs)
    → (get_or (filter (is_in area) relocs) i no_reloc).area ≡ area
of_that area relocs i within = in_area area (get_or (filter (is_in area) relocs) i no_reloc) (passes (is_in area)
    relocs i no_reloc within)

module _ (object : Object) (bytes : List ℕ) (are : AreSections object bytes) (whole : IsWhole object) (fits :
    IsWritable object) where
  has : HasLoaded object bytes
  has = has_loaded object bytes are

  pub rela_part : (k : ℕ) → k < length (sections_of object)
      → is_rela bytes k ≡ (code (part_of object k) == 5 || code (part_of object k) == 6)
  unfolding is_rela written_section
  rela_part k within =
      ap (λ (s : Section). s.kind == 4 && nat_lt s.info (section_count bytes)
      && is_loaded bytes s.info) (are.each k within)
      ∙ rela_by (part_of object k) (section_count bytes) object (is_loaded bytes) has.some has.text has.data_there

  pub rela_at_number : (k : ℕ) → k < length (sections_of object)
      → is_rela bytes k ≡ (k == 3 + extra_of object || k == 4 + extra_of object)
  rela_at_number k within =
      let text = only_at 5 (3 + extra_of object) true (sections_of object) k (text_relas_stand (is_some object.types)
      (is_some object.records)) within in
      let static_data = only_at 6 (4 + extra_of object) true (sections_of object) k (data_relas_stand (is_some
      object.types) (is_some object.records)) within in
      rela_part k within ∙ ap (λ b. b || code (part_of object k) == 6) text
      ∙ ap (λ b. k == 3 + extra_of object || b) static_data

  -- the two sections of relocations
  pub has_text : HasRelas object bytes areas.Text (3 + extra_of object) 1 (of_area object areas.Text)
  unfolding written_section relas_of
  has_text =
      let number = 3 + extra_of object in
      let count = parts_count (is_some object.types) (is_some object.records) in
      let within : number < length (sections_of object) = omega (arith, count) in
      let part : part_of object number ≡ TextRelas = text_relas_at (is_some object.types) (is_some object.records) in
      let relocs = of_area object areas.Text in
      record {
        is = rela_part number within ∙ ap (λ (p : Part). code p == 5 || code p == 6) part;
        held = are.held number within ∙ ap (λ (p : Part). contents_of object p) part;
        size = ap (λ (s : Section). s.size) (are.each number within)
            ∙ ap (λ (p : Part). length (contents_of object p)) part
            ∙ length-pieces rela_entry 12 relocs length-rela_entry;
        info = ap (λ (s : Section). s.info) (are.each number within) ∙ ap (λ (p : Part). info_of_part object p) part;
        text = text_at object bytes are 1 (omega (arith, enough object bytes are));
        data_there = data_at object bytes are 1 (omega (arith, enough object bytes are));
        starts = text_starts object bytes are;
        target_size = has.text_size;
        good = All-filter (is_in areas.Text) (IsGoodReloc object) object.relocs whole.relocs;
        infos = All-filter (is_in areas.Text) (λ (r : Reloc). info_of r < 2 ^ 32) object.relocs whole.limits.infos;
        of_area = λ i inside. of_that areas.Text object.relocs i inside;
      }

  pub has_data : HasRelas object bytes areas.Data (4 + extra_of object) 2 (of_area object areas.Data)
  unfolding written_section relas_of
  has_data =
      let number = 4 + extra_of object in
      let count = parts_count (is_some object.types) (is_some object.records) in
      let within : number < length (sections_of object) = omega (arith, count) in
      let part : part_of object number ≡ DataRelas = data_relas_at (is_some object.types) (is_some object.records) in
      let relocs = of_area object areas.Data in
      record {
        is = rela_part number within ∙ ap (λ (p : Part). code p == 5 || code p == 6) part;
        held = are.held number within ∙ ap (λ (p : Part). contents_of object p) part;
        size = ap (λ (s : Section). s.size) (are.each number within)
            ∙ ap (λ (p : Part). length (contents_of object p)) part
            ∙ length-pieces rela_entry 12 relocs length-rela_entry;
        info = ap (λ (s : Section). s.info) (are.each number within) ∙ ap (λ (p : Part). info_of_part object p) part;
        text = text_at object bytes are 2 (omega (arith, enough object bytes are));
        data_there = data_at object bytes are 2 (omega (arith, enough object bytes are));
        starts = data_starts object bytes are;
        target_size = has.data_size;
        good = All-filter (is_in areas.Data) (IsGoodReloc object) object.relocs whole.relocs;
        infos = All-filter (is_in areas.Data) (λ (r : Reloc). info_of r < 2 ^ 32) object.relocs whole.limits.infos;
        of_area = λ i inside. of_that areas.Data object.relocs i inside;
      }

  -- no other section has any
  none_there : (k : ℕ) → k < section_count bytes → k ≢ 3 + extra_of object → k ≢ suc (3 + extra_of object)
      → relocs_of bytes k ≡ []
  unfolding relocs_of rela_count
  none_there k within first second =
      let not_first = ne_eqb k (3 + extra_of object) first in
      let not_second = ne_eqb k (4 + extra_of object) (λ same. second (omega arith)) in
      let either : (k == 3 + extra_of object || k == 4 + extra_of object) ≡ false = rw (not_first, not_second) refl in
      let none : is_rela bytes k ≡ false = rela_at_number k (omega (arith, within, count_is object bytes are))
      ∙ either in
      ap (λ b. joined (reloc_of bytes k) (cond b ((section_at bytes k).size / 12) 0)) none

  pub all_relocs : joined (relocs_of bytes) (section_count bytes) ≡ object.relocs
  all_relocs =
      let number = 3 + extra_of object in
      let count = parts_count (is_some object.types) (is_some object.records) in
      let next : suc number ≡ 4 + extra_of object = omega arith in
      joined-two (relocs_of bytes) (section_count bytes) number
      (omega (arith, count, count_is object bytes are)) none_there
      ∙ ap (λ k. relocs_of bytes number ++ relocs_of bytes k) next
      ∙ ap (λ (xs : List Reloc). xs ++ relocs_of bytes (4
      + extra_of object)) (relocs_are object bytes are whole fits areas.Text number 1 (of_area object areas.Text)
      has_text)
      ∙ ap (λ (xs : List Reloc). of_area object areas.Text ++ xs) (relocs_are object bytes are whole fits areas.Data (4
      + extra_of object) 2 (of_area object areas.Data) has_data)
      ∙ sym whole.order
