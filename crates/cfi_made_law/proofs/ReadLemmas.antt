-- What is known of an object that is read of a file, but for its two sections.
use Rattle.std.proofs.Common.{◌≡◌, ℕ, ◌+◌, ◌*◌, ◌<◌, ◌≤◌, ◌^◌, not, true, false, cond, List, [], length, All, refl, sym, ap, subst, ◌∙◌, ⊎_elim, inl, inr, arith}
use Rattle.std.specs.Prelude.{FitsSigned}
use Rattle.std.specs.Int.{w32}
use Rattle.std.proofs.Math.Facts.{sfits_to_z, Fits-of_lt}
use Rattle.std.proofs.lemmas.Bool.{cases_Bool, cases_lt}
use Rattle.std.proofs.lemmas.List.{get_or_past}
use Rattle.std.proofs.lemmas.List.Elements.{All-nil, All-cons}
use Rattle.byteorder.specs.Numbers.{little_from-lt}
use Rattle.cfi_word.specs.declared.limits.TheConstants.{MAX_SYMBOLS, MAX_RELOCS, MAX_WORDS, MAX_DATA}
use Rattle.cfi_type_table.proofs.Parts.{IsBytes, IsBytes-drop, IsBytes-take}
use Rattle.elf_read.specs.Words.{u32_at}
use Rattle.elf_read.specs.Places.{joined}
use Rattle.elf_read.specs.Header.{section_count}
use Rattle.elf_read.specs.Section.{section_at, contents, has_symbols, symbol_table}
use Rattle.elf_read.specs.Symbol.{symbol_at, symbol_count, symbol_bytes, is_in_section, is_left_out}
use Rattle.elf_read.specs.Relocation.{rela_at, rela_count, kind_of, is_dropped}
use Rattle.elf_read.specs.declared.relocation.TheConstants.{RELA_SIZE}
use Rattle.elf_read.specs.Object.{kept_value, kept_symbol, symbols_of, kept_reloc, reloc_of, relocs_of, kept_count}
use Rattle.elf_read.specs.Fault.{IsSound, IsObject, kept_relocs}
use Rattle.elf_read.specs.Sound.{IsSoundObject}
use Rattle.elf_read.specs.declared.object.Object.{Object}
use Rattle.elf_read.specs.declared.object.Symbol.{Symbol}
use Rattle.elf_read.specs.declared.object.Reloc.{Reloc}
use Rattle.elf_read.proofs.KeepLemmas.{value-small}
use Rattle.elf_write.proofs.ListLemmas.{total-length, count-length}
use Rattle.cfi_aux.proofs.JoinedLists.{joined_all, text_length, text_fours, data_length}
use Rattle.cfi_aux.proofs.SoundRelocs.{symbols_length}

-- an object that breaks no rule and passes no limit, but for its two sections
pub record IsSmall (object : Object) : Type 0 where
  pub sound : IsSoundObject object
  pub text : length object.text ≤ 4 * MAX_WORDS
  pub static_data : length object.static_data ≤ MAX_DATA
  pub symbols : length object.symbols ≤ MAX_SYMBOLS
  pub relocs : length object.relocs ≤ MAX_RELOCS

-- and whose values and addends have words
pub record IsFit (object : Object) : Type 0 where
  pub small : IsSmall object
  pub values : All (λ s. s.value < 2 ^ 32) object.symbols
  pub addends : All (λ r. FitsSigned w32 r.addend) object.relocs

-- ---- words

pub are-bytes : (bytes : List ℕ) → All (λ b. b < 256) bytes → IsBytes bytes
are-bytes bytes all i = elim (cases_lt i (length bytes)) [
  | inl inside ↦ all i 0 inside
  | inr past ↦ rw (get_or_past bytes i 0 past) (omega arith)
]

word-small : (bytes : List ℕ) (at : ℕ) → IsBytes bytes → u32_at bytes at < 2 ^ 32
unfolding u32_at
word-small bytes at are = omega (arith, little_from-lt at 4 bytes are)

contents-bytes : (bytes : List ℕ) (k : ℕ) → IsBytes bytes → IsBytes (contents bytes k)
unfolding contents
contents-bytes bytes k are =
    IsBytes-take (section_at bytes k).size _ (IsBytes-drop (section_at bytes k).offset bytes are)

none-bytes : IsBytes []
none-bytes i = omega arith

symbols-bytes : (bytes : List ℕ) → IsBytes bytes → IsBytes (symbol_bytes bytes)
unfolding symbol_bytes
symbols-bytes bytes are = elim (cases_Bool (has_symbols bytes)) [
  | inl some ↦ rw some (contents-bytes bytes (symbol_table bytes) are)
  | inr none ↦ rw none none-bytes
]

-- ---- values

entry-small : (bytes : List ℕ) (k : ℕ) → IsBytes bytes → (symbol_at bytes k).value < 2 ^ 32
unfolding symbol_at
entry-small bytes k are = word-small (symbol_bytes bytes) _ (symbols-bytes bytes are)

kept-small : (bytes : List ℕ) (k : ℕ) → IsBytes bytes → IsSound bytes → k < symbol_count bytes
    → is_left_out bytes k ≡ false → kept_value bytes k < 2 ^ 32
unfolding kept_value
kept-small bytes k are sound within kept = elim (cases_Bool (is_in_section bytes (symbol_at bytes k))) [
  | inl inside ↦ rw inside (omega (arith, (value-small bytes k sound within kept inside).1))
  | inr outside ↦ rw outside (entry-small bytes k are)
]

abbrev IsLow : Symbol → Type 0
IsLow s = s.value < 2 ^ 32

value-of : (bytes : List ℕ) (k : ℕ) → kept_value bytes k < 2 ^ 32 → IsLow (kept_symbol bytes k)
unfolding kept_symbol
value-of bytes k small = small

one-small : (bytes : List ℕ) (k : ℕ) → IsBytes bytes → IsSound bytes → k < symbol_count bytes
    → All IsLow (symbols_of bytes k)
unfolding symbols_of
one-small bytes k are sound within = ⊎_elim
    (λ (out : is_left_out bytes k ≡ true). rw out (All-nil IsLow))
    (λ (kept : is_left_out bytes k ≡ false). rw kept
    (All-cons IsLow (kept_symbol bytes k) [] (value-of bytes k (kept-small bytes k are sound within kept))
    (All-nil IsLow)))
    (cases_Bool (is_left_out bytes k))

-- ---- addends

abbrev IsShort : Reloc → Type 0
IsShort r = FitsSigned w32 r.addend

addend-fits : (bytes : List ℕ) (s i : ℕ) → IsBytes bytes → IsShort (kept_reloc bytes s i)
unfolding kept_reloc rela_at
addend-fits bytes s i are =
    let at : ℕ = RELA_SIZE * i + 8 in
    let small : u32_at (contents bytes s) at < 2 ^ 32 = word-small (contents bytes s) at (contents-bytes bytes s are) in
    sfits_to_z {w = w32} {n = u32_at (contents bytes s) at} (Fits-of_lt {w = w32} {n = u32_at (contents bytes s) at} small)

one-short : (bytes : List ℕ) (s i : ℕ) → IsBytes bytes → All IsShort (reloc_of bytes s i)
unfolding reloc_of
one-short bytes s i are = ⊎_elim
    (λ (out : is_dropped (kind_of (rela_at bytes s i)) ≡ true). rw out (All-nil IsShort))
    (λ (kept : is_dropped (kind_of (rela_at bytes s i)) ≡ false). rw kept
    (All-cons IsShort (kept_reloc bytes s i) [] (addend-fits bytes s i are) (All-nil IsShort)))
    (cases_Bool (is_dropped (kind_of (rela_at bytes s i))))

section-short : (bytes : List ℕ) (s : ℕ) → IsBytes bytes → All IsShort (relocs_of bytes s)
unfolding relocs_of
section-short bytes s are =
    joined_all IsShort (reloc_of bytes s) (rela_count bytes s) (λ i inside. one-short bytes s i are)

-- ---- counts

one-or-none : (bytes : List ℕ) (s i : ℕ)
    → length (reloc_of bytes s i) ≡ cond (not (is_dropped (kind_of (rela_at bytes s i)))) 1 0
unfolding reloc_of
one-or-none bytes s i = ⊎_elim (λ (out : is_dropped (kind_of (rela_at bytes s i)) ≡ true). rw out refl)
    (λ (kept : is_dropped (kind_of (rela_at bytes s i)) ≡ false). rw kept refl)
    (cases_Bool (is_dropped (kind_of (rela_at bytes s i))))

relocs-count : (bytes : List ℕ) → kept_relocs bytes ≡ length (joined (relocs_of bytes) (section_count bytes))
unfolding kept_count relocs_of
relocs-count bytes =
    total-length (kept_count bytes) (relocs_of bytes) (section_count bytes)
    (λ s within. count-length (λ i. not (is_dropped (kind_of (rela_at bytes s i)))) (reloc_of bytes s)
    (rela_count bytes s) (λ i entry. one-or-none bytes s i))

pub read-small : (bytes : List ℕ) (object : Object) → IsObject bytes object → IsSoundObject object → IsSmall object
read-small bytes object is sound =
    let text = ap (λ (xs : List ℕ). length xs) is.kept.text ∙ text_length bytes is.sound in
    let bytes_of_data = ap (λ (xs : List ℕ). length xs) is.kept.static_data
    ∙ data_length bytes (section_count bytes) is.sound (omega arith) in
    let symbols = ap (λ (xs : List Symbol). length xs) is.kept.symbols ∙ symbols_length bytes (symbol_count bytes) in
    let relocs = ap (λ (xs : List Reloc). length xs) is.kept.relocs ∙ sym (relocs-count bytes) in
    record {
      sound = sound;
      text = omega (
        arith,
        text,
        text_fours bytes (section_count bytes) is.sound (omega arith),
        is.sound.words,
      );
      static_data = omega (arith, bytes_of_data, is.sound.data_size);
      symbols = omega (arith, symbols, is.sound.symbols);
      relocs = omega (arith, relocs, is.sound.relocs);
    }

pub read-fit : (bytes : List ℕ) (object : Object) → All (λ b. b < 256) bytes → IsObject bytes object
    → IsSoundObject object → IsFit object
read-fit bytes object all is sound =
    let are = are-bytes bytes all in
    record {
      small = read-small bytes object is sound;
      values = subst (λ (xs : List Symbol). All IsLow xs) (sym is.kept.symbols)
          (joined_all IsLow (symbols_of bytes) (symbol_count bytes)
          (λ k within. one-small bytes k are is.sound within));
      addends = subst (λ (xs : List Reloc). All IsShort xs) (sym is.kept.relocs)
          (joined_all IsShort (relocs_of bytes) (section_count bytes) (λ s within. section-short bytes s are));
    }
