-- The relocations of a written file, as the reader has them.
use Rattle.std.proofs.Common.{◌≡◌, ◌==◌, ◌&&◌, ◌||◌, not, ◌+◌, ◌*◌, ◌/◌, ◌%◌, ◌<◌, ◌≤◌, ◌^◌, ◌++◌, ℕ, suc, true, false, cond, nat_lt, List, [], ◌∷◌, length, take, drop, get_or, Option, Some, None, refl, sym, ap, ◌∙◌, arith, ⊎_elim, All, pos, subst}
use Rattle.std.specs.List.{flat_map}
use Rattle.std.specs.Int.{w32, cast_signed, cast_unsigned}
use Rattle.std.proofs.lemmas.List.{length-take-le}
use Rattle.std.proofs.lemmas.Bool.{cases_lt, ne_eqb, eq-eqb, lt-ltb, le-ltb, false≢true}
use Rattle.std.proofs.lemmas.Int.{to_z-of_z}
use Rattle.std.proofs.Math.Facts.{Fits-of_z, Fits-lt-pow}
use Rattle.elf_read.specs.Words.{u32_at}
use Rattle.elf_read.specs.Section.{section_at, contents, is_text, is_data, is_rela}
use Rattle.elf_read.specs.Places.{joined}
use Rattle.elf_read.specs.Symbol.{symbol_count, is_left_out}
use Rattle.elf_read.specs.Relocation.{rela_count, rela_at, kind_of, is_dropped, is_of_data, is_of_instruction, is_known, field_size, is_bad_reference, is_outside, is_misplaced, is_bad_rela_at, is_unknown_at}
use Rattle.elf_read.specs.Join.{start_of}
use Rattle.elf_read.specs.Object.{symbol_number, reference_of, area_of, kept_reloc, reloc_of, relocs_of}
use Rattle.elf_read.specs.declared.relocation.Rela.{Rela}
use Rattle.elf_read.specs.declared.object.Object.{Object}
use Rattle.elf_read.specs.declared.object.Reloc.{Reloc}
use Rattle.elf_read.specs.declared.object.Area.{Area}
use Rattle.elf_read.specs.declared.object.Area.TheVariants as areas
use Rattle.elf_write.specs.Contents as written
use Rattle.elf_write.specs.Contents.{info_of, rela_entry}
use Rattle.elf_write.specs.File.{IsWritable}
use Rattle.elf_write.specs.Whole.{IsWhole, IsGoodReloc, IsOfArea, bytes_in}
use Rattle.elf_write.proofs.LimitLemmas.{length-rela_entry}
use Rattle.elf_write.proofs.TableLemmas.{u32_in, drop-flat_map}
use Rattle.elf_write.proofs.HeaderLemmas.{word_read}
use Rattle.elf_write.proofs.SectionLemmas.{AreSections}
use Rattle.elf_write.proofs.ListLemmas.{joined-list, length-pieces}
use Rattle.elf_write.proofs.EntryLemmas.{symbol_count_is}
use Rattle.elf_write.proofs.RuleLemmas.{kept_is}
use Rattle.elf_write.proofs.KeptLemmas.{number_is}

-- no relocation: what stands for one past the last
abbrev pub no_reloc : Reloc
no_reloc = record { area = areas.Text; offset = 0; kind = 0; symbol = None; addend = pos 0 }

-- a known kind is below 256
known-small : (kind : ℕ) → is_known kind ≡ true → kind < 256
unfolding is_known is_of_instruction
known-small kind known = ⊎_elim (λ below. below) (λ (above : 256 ≤ kind).
    let a = ne_eqb kind 0 (λ same. absurd (omega arith)) in
    let b = ne_eqb kind 43 (λ same. absurd (omega arith)) in
    let c = ne_eqb kind 51 (λ same. absurd (omega arith)) in
    let d = ne_eqb kind 1 (λ same. absurd (omega arith)) in
    let e = ne_eqb kind 35 (λ same. absurd (omega arith)) in
    let f = ne_eqb kind 39 (λ same. absurd (omega arith)) in
    let g = ne_eqb kind 18 (λ same. absurd (omega arith)) in
    let h = ne_eqb kind 19 (λ same. absurd (omega arith)) in
    let i = ne_eqb kind 16 (λ same. absurd (omega arith)) in
    let j = ne_eqb kind 17 (λ same. absurd (omega arith)) in
    let k = ne_eqb kind 23 (λ same. absurd (omega arith)) in
    let l = ne_eqb kind 24 (λ same. absurd (omega arith)) in
    let m = ne_eqb kind 25 (λ same. absurd (omega arith)) in
    let n = ne_eqb kind 26 (λ same. absurd (omega arith)) in
    let o = ne_eqb kind 27 (λ same. absurd (omega arith)) in
    let p = ne_eqb kind 28 (λ same. absurd (omega arith)) in
    let none : is_known kind ≡ false = rw (a, b, c, d, e, f, g, h, i, j, k, l, m, n, o, p) refl in
    absurd (false≢true (sym none ∙ known)))
    (cases_lt kind 256)

-- what the reader has of a relocation
unfoldable pub written_rela : Reloc → Rela
written_rela reloc = record { offset = reloc.offset; info = info_of reloc; addend = cast_unsigned w32 reloc.addend }

-- the fields of an entry at its start
record HasRela (reloc : Reloc) (entry : List ℕ) : Type 0 where
  pub offset_at : u32_at entry 0 ≡ reloc.offset
  pub info_at : u32_at entry 4 ≡ info_of reloc
  pub addend_at : u32_at entry 8 ≡ cast_unsigned w32 reloc.addend

rela_read : (reloc : Reloc) (rest : List ℕ) → reloc.offset < 2 ^ 32 → info_of reloc < 2 ^ 32
    → cast_unsigned w32 reloc.addend < 2 ^ 32 → HasRela reloc (rela_entry reloc ++ rest)
unfolding rela_entry u32_at
rela_read reloc rest placed informed added = record {
  offset_at = word_read reloc.offset placed;
  info_at = word_read (info_of reloc) informed;
  addend_at = word_read (cast_unsigned w32 reloc.addend) added;
}

-- section s has these relocations, all of one area, whose section is `target`
pub record HasRelas (object : Object) (bytes : List ℕ) (area : Area) (s target : ℕ) (relocs : List Reloc) : Type 0 where
  pub is : is_rela bytes s ≡ true
  pub held : contents bytes s ≡ flat_map rela_entry relocs
  pub size : (section_at bytes s).size ≡ 12 * length relocs
  pub info : (section_at bytes s).info ≡ target
  pub text : is_text bytes target ≡ written.is_text_area area
  pub data_there : is_data bytes target ≡ written.is_data_area area
  pub starts : start_of bytes target ≡ 0
  pub target_size : (section_at bytes target).size ≡ length (bytes_in object area)
  pub good : All (IsGoodReloc object) relocs
  pub infos : All (λ reloc. info_of reloc < 2 ^ 32) relocs
  pub of_area : (i : ℕ) → i < length relocs → (get_or relocs i no_reloc).area ≡ area

area_back : (area : Area) → cond (written.is_text_area area) areas.Text areas.Data ≡ area
area_back areas.Text = refl
area_back areas.Data = refl

bytes-small : (object : Object) (area : Area) → IsWhole object → length (bytes_in object area) < 2 ^ 32
bytes-small object areas.Text whole = omega (arith, whole.limits.text)
bytes-small object areas.Data whole = omega (arith, whole.limits.static_data)

kind-back : (number kind : ℕ) → kind < 256 → (256 * number + kind) % 256 ≡ kind
kind-back number kind small = omega arith

number-back : (number kind : ℕ) → kind < 256 → (256 * number + kind) / 256 ≡ number
number-back number kind small = omega arith

-- it is where it may be
placed_by : (area : Area) (offset kind : ℕ) → IsOfArea area offset kind
    → ((written.is_text_area area && (not (offset % 4 == 0) || is_of_data kind)) || (written.is_data_area area
    && is_of_instruction kind)) ≡ false
placed_by areas.Text offset kind placed =
    let even : (offset % 4 == 0) ≡ true = eq-eqb _ _ placed.0 in
    rw (even, placed.1) refl
placed_by areas.Data offset kind placed = placed

-- the number of an object's symbol among those that the reader keeps, none for none
number_of : List ℕ → Option ℕ → Option ℕ
number_of bytes symbol = cond (written.symbol_number symbol == 0) None (Some (symbol_number bytes
    (written.symbol_number symbol)))

module _ (object : Object) (bytes : List ℕ) (are : AreSections object bytes) (whole : IsWhole object) (fits :
    IsWritable object) where
  number_back : (symbol : Option ℕ) → written.symbol_number symbol ≤ length object.symbols
      → number_of bytes symbol ≡ symbol
  unfolding number_of
  number_back None within = refl
  number_back (Some k) within =
      let next : k + 1 ≡ suc k = omega arith in
      let some : (k + 1 == 0) ≡ false = ne_eqb _ _ (λ none. absurd (omega arith)) in
      rw some (ap (λ n. Some (symbol_number bytes n)) next
      ∙ ap (λ n. Some n) (number_is object bytes are whole fits k (omega arith)))

  referenced : (symbol : Option ℕ) → written.symbol_number symbol ≤ length object.symbols
      → (not (written.symbol_number symbol == 0) && (not (nat_lt (written.symbol_number symbol) (symbol_count bytes))
      || is_left_out bytes (written.symbol_number symbol))) ≡ false
  referenced None within = refl
  referenced (Some k) within =
      let next : k + 1 ≡ suc k = omega arith in
      let some : (k + 1 == 0) ≡ false = ne_eqb _ _ (λ none. absurd (omega arith)) in
      let there : nat_lt (k + 1) (symbol_count bytes) ≡ true =
      lt-ltb _ _ (omega (arith, symbol_count_is object bytes are)) in
      let kept : is_left_out bytes (k + 1) ≡ false = ap (λ n. is_left_out bytes n) next
      ∙ kept_is object bytes are whole fits k (omega arith) in
      rw (some, there, kept) refl

module _ (object : Object) (bytes : List ℕ) (are : AreSections object bytes) (whole : IsWhole object) (fits :
    IsWritable object)
    (area : Area) (s target : ℕ) (relocs : List Reloc) (has : HasRelas object bytes area s target relocs) where
  -- relocation i of the section
  abbrev of : ℕ → Reloc
  of i = get_or relocs i no_reloc

  good : (i : ℕ) → i < length relocs → IsGoodReloc object (of i)
  good i within = has.good i no_reloc within

  pub rela_count_is : rela_count bytes s ≡ length relocs
  unfolding rela_count
  rela_count_is =
      let whole_size : (section_at bytes s).size / 12 ≡ length relocs = omega (arith, has.size) in
      rw has.is whole_size

  at_rela : (i : ℕ) → i < length relocs
      → drop (12 * i) (contents bytes s) ≡ rela_entry (of i) ++ flat_map rela_entry (drop (suc i) relocs)
  at_rela i within =
      let before = length-pieces rela_entry 12 (take i relocs) length-rela_entry in
      let count = length-take-le i relocs (omega arith) in
      let place : 12 * i ≡ length (flat_map rela_entry (take i relocs)) = omega (arith, before, count) in
      ap (λ (xs : List ℕ). drop (12 * i) xs) has.held ∙ ap (λ n. drop n (flat_map rela_entry relocs)) place
      ∙ drop-flat_map rela_entry relocs i no_reloc within

  offset-small : (i : ℕ) → i < length relocs → (of i).offset < 2 ^ 32
  offset-small i within =
      let inside = (good i within).inside in
      let same : length (bytes_in object (of i).area) ≡ length (bytes_in object area) =
      ap (λ a. length (bytes_in object a)) (has.of_area i within) in
      omega (arith, inside, same, bytes-small object area whole)

  pub rela_is : (i : ℕ) → i < length relocs → rela_at bytes s i ≡ written_rela (of i)
  unfolding rela_at written_rela
  rela_is i within =
      let at = 12 * i in
      let all = contents bytes s in
      let entry = rela_entry (of i) ++ flat_map rela_entry (drop (suc i) relocs) in
      let there = at_rela i within in
      let fields : HasRela (of i) entry =
      rela_read (of i) (flat_map rela_entry (drop (suc i) relocs)) (offset-small i within) (has.infos i no_reloc
      within) (Fits-lt-pow (Fits-of_z (good i within).fits)) in
      let same : at ≡ at + 0 = omega arith in
      let offset = ap (λ n. u32_at all n) same ∙ u32_in all entry at 0 there ∙ fields.offset_at in
      let info = u32_in all entry at 4 there ∙ fields.info_at in
      let addend = u32_in all entry at 8 there ∙ fields.addend_at in
      λ i. record { offset = offset i; info = info i; addend = addend i }

  kind_is : (i : ℕ) → i < length relocs → (rela_at bytes s i).info % 256 ≡ (of i).kind
  unfolding written_rela
  kind_is i within = ap (λ (r : Rela). r.info % 256) (rela_is i within)
      ∙ kind-back (written.symbol_number (of i).symbol) (of i).kind (known-small (of i).kind (good i within).known)

  symbol_is : (i : ℕ) → i < length relocs → (rela_at bytes s i).info / 256 ≡ written.symbol_number (of i).symbol
  unfolding written_rela
  symbol_is i within = ap (λ (r : Rela). r.info / 256) (rela_is i within)
      ∙ number-back (written.symbol_number (of i).symbol) (of i).kind (known-small (of i).kind (good i within).known)

  reloc_back : (i : ℕ) → i < length relocs → kept_reloc bytes s i ≡ of i
  unfolding kept_reloc area_of reference_of written_rela number_of
  reloc_back i within =
      let area_is = ap (λ n. cond (is_text bytes n) areas.Text areas.Data) has.info
      ∙ ap (λ b. cond b areas.Text areas.Data) has.text ∙ area_back area ∙ sym (has.of_area i within) in
      let start : start_of bytes (section_at bytes s).info ≡ 0 = ap (λ n. start_of bytes n) has.info ∙ has.starts in
      let place : (rela_at bytes s i).offset ≡ (of i).offset = ap (λ (r : Rela). r.offset) (rela_is i within) in
      let offset : start_of bytes (section_at bytes s).info + (rela_at bytes s i).offset ≡ (of i).offset =
      omega (arith, start, place) in
      let kind = kind_is i within in
      let symbol = ap (λ n. cond (n == 0) None (Some (symbol_number bytes n))) (symbol_is i within)
      ∙ number_back object bytes are whole fits (of i).symbol (good i within).symbol in
      let addend = ap (λ (r : Rela). cast_signed w32 r.addend) (rela_is i within)
      ∙ to_z-of_z w32 (of i).addend (good i within).fits in
      λ j. record { area = area_is j; offset = offset j; kind = kind j; symbol = symbol j; addend = addend j }

  one_reloc : (i : ℕ) → i < length relocs → reloc_of bytes s i ≡ of i ∷ []
  unfolding reloc_of
  one_reloc i within =
      let kept : is_dropped (kind_of (rela_at bytes s i)) ≡ false = ap (λ kind. is_dropped kind) (kind_is i within)
      ∙ (good i within).kept in
      ap (λ b. cond b [] (kept_reloc bytes s i ∷ [])) kept ∙ ap (λ (r : Reloc). r ∷ []) (reloc_back i within)

  pub relocs_are : relocs_of bytes s ≡ relocs
  unfolding relocs_of
  relocs_are = ap (λ n. joined (reloc_of bytes s) n) rela_count_is
      ∙ joined-list (reloc_of bytes s) relocs no_reloc one_reloc

  -- no entry breaks a rule
  pub known_kind : (i : ℕ) → i < length relocs → is_unknown_at bytes s i ≡ false
  unfolding is_unknown_at
  known_kind i within = ap (λ kind. not (is_known kind)) (kind_is i within) ∙ ap not (good i within).known

  pub good_rela : (i : ℕ) → i < length relocs → is_bad_rela_at bytes s i ≡ false
  unfolding is_bad_rela_at is_bad_reference is_outside is_misplaced written_rela
  good_rela i within =
      let rela = rela_at bytes s i in
      let reference : is_bad_reference bytes rela ≡ false
      = ap (λ n. not (n == 0) && (not (nat_lt n (symbol_count bytes)) || is_left_out bytes n)) (symbol_is i within)
      ∙ referenced object bytes are whole fits (of i).symbol (good i within).symbol in
      let place : rela.offset ≡ (of i).offset = ap (λ (r : Rela). r.offset) (rela_is i within) in
      let field : field_size (kind_of rela) ≡ field_size (of i).kind =
      ap (λ kind. field_size kind) (kind_is i within) in
      let same : length (bytes_in object (of i).area) ≡ length (bytes_in object area) =
      ap (λ a. length (bytes_in object a)) (has.of_area i within) in
      let outside : is_outside bytes target rela ≡ false =
      le-ltb _ _ (omega (arith, place, field, same, has.target_size, (good i within).inside)) in
      let misplaced : is_misplaced bytes target rela ≡ false
      = ap (λ b. (b && (not (rela.offset % 4 == 0) || is_of_data (kind_of rela))) || (is_data bytes target
      && is_of_instruction (kind_of rela))) has.text
      ∙ ap (λ b. (written.is_text_area area && (not (rela.offset % 4 == 0) || is_of_data (kind_of rela))) || (b
      && is_of_instruction (kind_of rela))) has.data_there
      ∙ ap (λ n. (written.is_text_area area && (not (n % 4 == 0) || is_of_data (kind_of rela))) || (written.is_data_area area
      && is_of_instruction (kind_of rela))) place
      ∙ ap (λ n. (written.is_text_area area && (not ((of i).offset % 4 == 0) || is_of_data n)) || (written.is_data_area area
      && is_of_instruction n)) (kind_is i within)
      ∙ placed_by area (of i).offset (of i).kind (subst
      (λ (a : Area). IsOfArea a (of i).offset (of i).kind) (has.of_area i within) (good i within).placed) in
      ap (λ n. is_bad_reference bytes rela || is_outside bytes n rela || is_misplaced bytes n rela) has.info
      ∙ rw (reference, outside) misplaced
