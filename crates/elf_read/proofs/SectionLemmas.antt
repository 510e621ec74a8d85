-- What good sections are.
use Rattle.std.proofs.Common.{◌≡◌, ◌+◌, ◌%◌, ◌<◌, ℕ, zero, suc, Bool, true, false, ◌==◌, ◌||◌, ◌&&◌, not, List, refl, ⊎_elim, arith}
use Rattle.std.proofs.lemmas.Bool.{cases_Bool, ltb-true, and_parts, not-false, true≢false, false≢true}
use Rattle.elf_read.specs.Places.{first_from, first_where}
use Rattle.elf_read.specs.Header.{section_count}
use Rattle.elf_read.specs.Section.{section_at, symbol_table, has_symbols, has_kind}
use Rattle.elf_read.specs.BadSection.{is_bad_section, is_refused, is_bad_text, is_misaligned, is_second, is_bad_symbol_table, is_bad_target, is_bad_rela, is_named}
use Rattle.elf_read.specs.Fault.{HasSections}
use Rattle.elf_read.specs.declared.section.TheConstants.{SYMTAB, STRTAB, CFI_TYPES, CFI_RECORDS}
use Rattle.elf_read.specs.declared.symbol.TheConstants.{SYMBOL_SIZE}

-- a first place that is there passes the test
pub first_from-passes : (test : ℕ → Bool) (at left : ℕ) → first_from test at left < at + left
    → test (first_from test at left) ≡ true
first_from-passes test at zero lt = absurd (omega arith)
first_from-passes test at (suc left) lt = ⊎_elim
    (λ yes.
    let here : first_from test at (suc left) ≡ at = rw yes refl in
    rw here yes)
    (λ none.
    let past : first_from test at (suc left) ≡ first_from test (at + 1) left = rw none refl in
    let within : first_from test (at + 1) left < at + 1 + left = omega (arith, past) in
    rw past (first_from-passes test (at + 1) left within))
    (cases_Bool (test at))

pub first_where-passes : (test : ℕ → Bool) (count : ℕ) → first_where test count < count
    → test (first_where test count) ≡ true
unfolding first_where
first_where-passes test count lt = first_from-passes test 0 count (omega arith)

-- the parts of a test that fails
pub or_false : (a b : Bool) → (a || b) ≡ false → (a ≡ false) × (b ≡ false)
or_false true b h = absurd (true≢false h)
or_false false b h = (refl, h)

pub or_true : (a b : Bool) → b ≡ true → (a || b) ≡ true
or_true true b h = refl
or_true false b h = h

pub and_false : (a b : Bool) → a ≡ true → (a && b) ≡ false → b ≡ false
and_false true b p h = h
and_false false b p h = absurd (false≢true p)

-- a section breaks none of the rules
pub record IsGood (bytes : List ℕ) (k : ℕ) : Type 0 where
  pub refused : is_refused bytes k ≡ false
  pub text : is_bad_text bytes k ≡ false
  pub alignment : is_misaligned bytes k ≡ false
  pub types : is_second bytes CFI_TYPES.now k ≡ false
  pub records : is_second bytes CFI_RECORDS.now k ≡ false
  pub table : is_bad_symbol_table bytes k ≡ false
  pub target : is_bad_target bytes k ≡ false
  pub rela : is_bad_rela bytes k ≡ false

pub good_section : (bytes : List ℕ) (k : ℕ) → is_bad_section bytes k ≡ false → IsGood bytes k
unfolding is_bad_section
good_section bytes k h =
    let a = is_refused bytes k in
    let b = is_bad_text bytes k in
    let c = is_misaligned bytes k in
    let d = is_second bytes CFI_TYPES.now k in
    let e = is_second bytes CFI_RECORDS.now k in
    let f = is_bad_symbol_table bytes k in
    let g = is_bad_target bytes k in
    let i = is_bad_rela bytes k in
    let upto_i = (or_false (a || b || c || d || e || f || g || i) (not (is_named bytes k)) h).0 in
    let upto_g = or_false (a || b || c || d || e || f || g) i upto_i in
    let upto_f = or_false (a || b || c || d || e || f) g upto_g.0 in
    let upto_e = or_false (a || b || c || d || e) f upto_f.0 in
    let upto_d = or_false (a || b || c || d) e upto_e.0 in
    let upto_c = or_false (a || b || c) d upto_d.0 in
    let upto_b = or_false (a || b) c upto_c.0 in
    let upto_a = or_false a b upto_b.0 in
    record {
      refused = upto_a.0;
      text = upto_a.1;
      alignment = upto_b.1;
      types = upto_c.1;
      records = upto_d.1;
      table = upto_e.1;
      target = upto_f.1;
      rela = upto_g.1;
    }

-- the symbol table of good sections links to a table of names
pub symbol_link : (bytes : List ℕ) → HasSections bytes → has_symbols bytes ≡ true
    → has_kind bytes STRTAB (section_at bytes (symbol_table bytes)).link ≡ true
unfolding is_bad_symbol_table
symbol_link bytes sections some =
    let table = symbol_table bytes in
    let section = section_at bytes table in
    let within : table < section_count bytes = ltb-true _ _ some in
    let kind : (section.kind == SYMTAB) ≡ true =
    first_where-passes (λ k. (section_at bytes k).kind == SYMTAB) (section_count bytes) within in
    let good = (good_section bytes table (sections.good table within)).table in
    let parts =
    and_false _ (not (section.size % SYMBOL_SIZE == 0) || not (has_kind bytes STRTAB section.link)) kind good in
    not-false _ ((or_false _ (not (has_kind bytes STRTAB section.link)) parts).1)

-- so its names are in a section that is there
pub symbol_link-within : (bytes : List ℕ) → HasSections bytes → has_symbols bytes ≡ true
    → (section_at bytes (symbol_table bytes)).link < section_count bytes
symbol_link-within bytes sections some =
    let kind = symbol_link bytes sections some in
    ltb-true _ _ ((and_parts _ _ kind).0)
