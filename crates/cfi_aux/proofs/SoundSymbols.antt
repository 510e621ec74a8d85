-- The symbols that are kept of a sound file break no rule.
use Rattle.std.proofs.Common.{◌≡◌, ◌+◌, ◌<◌, ◌≤◌, ◌==◌, ◌&&◌, ◌||◌, not, ℕ, zero, suc, List, [], ◌∷◌, length, Bool, true, false, All, nat_lt, refl, sym, ap, ◌∙◌, ⊎_elim, inl, inr, arith}
use Rattle.std.specs.List.{AllPairs}
use Rattle.std.specs.Str.{bytes_eq}
use Rattle.std.proofs.lemmas.Bool.{cases_Bool, and_parts, and_from, eqb-false, ltb-false, lt-ltb, false_from_ne_true, false≢true, cases_lt}
use Rattle.std.proofs.lemmas.List.{append-nil}
use Rattle.std.proofs.lemmas.List.Elements.{All-from_recursion}
use Rattle.std.proofs.lemmas.List.Quantifiers.{all_pairs_push}
use Rattle.elf_read.specs.Places.{joined, some_below}
use Rattle.elf_read.specs.Header.{section_count}
use Rattle.elf_read.specs.Section.{section_at, is_loaded, is_text}
use Rattle.elf_read.specs.Symbol.{symbol_at, symbol_count, binding_of, name_of, is_in_section, is_left_out, is_definition_at, defines, is_nameless, is_local_undefined, is_past_section, is_second_definition, is_bad_symbol}
use Rattle.elf_read.specs.Join.{text_size, text_end, data_end, data_start, start_of}
use Rattle.elf_read.specs.Object.{kept_binding, kept_place, kept_value, kept_symbol, symbols_of}
use Rattle.elf_read.specs.Fault.{IsSound}
use Rattle.elf_read.specs.declared.symbol.TheConstants.{LOCAL, UNDEFINED, ABSOLUTE}
use Rattle.elf_read.specs.declared.object.Object.{Object}
use Rattle.elf_read.specs.declared.object.Symbol.{Symbol}
use Rattle.elf_read.proofs.SectionLemmas.{or_false, and_false}
use Rattle.elf_read.proofs.SymbolLemmas.{IsGoodSymbol}
use Rattle.elf_read.proofs.JoinLemmas.{total_of-part, data_end-part, loaded_cases}
use Rattle.elf_read.proofs.KeepLemmas.{sound_symbol, section_there, kept_loaded}
use Rattle.elf_read.specs.Sound.{is_exported, is_defined, are_rivals, IsInsideArea, IsSoundSymbol}
use Rattle.cfi_aux.proofs.JoinedLists.{joined_all}
use Rattle.cfi_aux.proofs.SoundNames.{name_good, exported_is, not_local, defined_is, not_both}

-- ---- values

not_past : (bytes : List ℕ) (k : ℕ) → is_past_section bytes k ≡ false
    → is_in_section bytes (symbol_at bytes k) ≡ true → is_loaded bytes (symbol_at bytes k).section ≡ true
    → (symbol_at bytes k).value ≤ (section_at bytes (symbol_at bytes k).section).size
unfolding is_past_section
not_past bytes k past inside loaded =
    let symbol = symbol_at bytes k in
    let both : (is_in_section bytes symbol && is_loaded bytes symbol.section) ≡ true = and_from _ _ inside loaded in
    ltb-false _ _ (and_false (is_in_section bytes symbol && is_loaded bytes symbol.section)
    (nat_lt (section_at bytes symbol.section).size symbol.value) both past)

-- what an object's symbols are judged by: how long its text and its data are
pub record HasSizes (bytes : List ℕ) (object : Object) : Type 0 where
  pub text : length object.text ≡ text_end bytes (section_count bytes)
  pub static_data : length object.static_data ≡ data_end bytes (section_count bytes)

inside_text : (bytes : List ℕ) (k : ℕ) → IsSound bytes → k < symbol_count bytes → is_left_out bytes k ≡ false
    → is_in_section bytes (symbol_at bytes k) ≡ true → is_text bytes (symbol_at bytes k).section ≡ true
    → (symbol_at bytes k).section < section_count bytes
    → start_of bytes (symbol_at bytes k).section + (symbol_at bytes k).value ≤ text_end bytes (section_count bytes)
unfolding start_of text_size
inside_text bytes k sound within kept inside is there =
    let section = (symbol_at bytes k).section in
    let start : start_of bytes section ≡ text_end bytes section = rw is refl in
    let size : text_size bytes section ≡ (section_at bytes section).size = rw is refl in
    let part = total_of-part (text_size bytes) section (section_count bytes) there in
    let value = not_past bytes k (sound_symbol bytes k sound within).value inside (kept_loaded bytes k kept inside) in
    omega (arith, start, size, part, value)

inside_data : (bytes : List ℕ) (k : ℕ) → IsSound bytes → k < symbol_count bytes → is_left_out bytes k ≡ false
    → is_in_section bytes (symbol_at bytes k) ≡ true → is_text bytes (symbol_at bytes k).section ≡ false
    → (symbol_at bytes k).section < section_count bytes
    → start_of bytes (symbol_at bytes k).section + (symbol_at bytes k).value ≤ data_end bytes (section_count bytes)
unfolding start_of
inside_data bytes k sound within kept inside other there =
    let section = (symbol_at bytes k).section in
    let loaded = kept_loaded bytes k kept inside in
    let start : start_of bytes section ≡ data_start bytes section = rw other refl in
    let part = data_end-part bytes section (section_count bytes) there (loaded_cases bytes section loaded other) in
    let value = not_past bytes k (sound_symbol bytes k sound within).value inside loaded in
    omega (arith, start, part, value)

in_section : (bytes : List ℕ) (k : ℕ) → IsSound bytes → k < symbol_count bytes
    → ((symbol_at bytes k).section == UNDEFINED) ≡ false → ((symbol_at bytes k).section == ABSOLUTE) ≡ false
    → ((symbol_at bytes k).section < section_count bytes) × (is_in_section bytes (symbol_at bytes k) ≡ true)
in_section bytes k sound within some relative =
    let section = (symbol_at bytes k).section in
    let there = section_there bytes k sound within (eqb-false _ _ some) (eqb-false _ _ relative) in
    (there, rw some (lt-ltb section (section_count bytes) there))

value_inside : (bytes : List ℕ) (object : Object) (k : ℕ) → IsSound bytes → HasSizes bytes object
    → k < symbol_count bytes → is_left_out bytes k ≡ false → IsInsideArea object (kept_place bytes k) (kept_value bytes k)
unfolding kept_place kept_value
value_inside bytes object k sound sizes within kept =
    let section = (symbol_at bytes k).section in
    elim (cases_Bool (section == UNDEFINED)) [
      | inl none ↦ rw none tt
      | inr some ↦ elim (cases_Bool (section == ABSOLUTE)) [
        | inl absolute ↦ rw (some, absolute) tt
        | inr relative ↦
            let inside = in_section bytes k sound within some relative in
            let there : nat_lt section (section_count bytes) ≡ true = lt-ltb _ _ inside.0 in
            elim (cases_Bool (is_text bytes section)) [
              | inl text ↦ rw (some, relative, text, there)
                  (omega (arith, inside_text bytes k sound within kept inside.1 text inside.0, sizes.text))
              | inr other ↦ rw (some, relative, other, there)
                  (omega (arith, inside_data bytes k sound within kept inside.1 other inside.0, sizes.static_data))
            ]
      ]
    ]

-- ---- one symbol

named_good : (bytes : List ℕ) (k : ℕ) → IsGoodSymbol bytes k
    → (not (is_exported (kept_binding bytes k)) || not (length (name_of bytes k) == 0)) ≡ true
unfolding is_nameless
named_good bytes k good = rw (exported_is bytes k good.info) (not_both _ _ good.named)

found_good : (bytes : List ℕ) (k : ℕ) → IsGoodSymbol bytes k → is_left_out bytes k ≡ false
    → (is_exported (kept_binding bytes k) || is_defined (kept_place bytes k)) ≡ true
unfolding is_local_undefined
found_good bytes k good kept =
    let symbol = symbol_at bytes k in
    let rest : ((binding_of symbol == LOCAL) && (symbol.section == UNDEFINED)) ≡ false = rw kept at good.defined in
    rw (not_local bytes k, defined_is bytes k) (not_both _ _ rest)

pub symbol_sound : (bytes : List ℕ) (object : Object) (k : ℕ) → IsSound bytes → HasSizes bytes object
    → k < symbol_count bytes → is_left_out bytes k ≡ false → IsSoundSymbol object (kept_symbol bytes k)
unfolding kept_symbol
symbol_sound bytes object k sound sizes within kept =
    let good = sound_symbol bytes k sound within in
    let name = name_good bytes k good.name in
    record {
      name_size = name.size;
      name_text = name.text;
      name_bytes = name.bytes;
      named = named_good bytes k good;
      found = found_good bytes k good kept;
      inside = value_inside bytes object k sound sizes within kept;
    }

-- ---- all of them

some_below_at : (test : ℕ → Bool) (count j : ℕ) → j < count → test j ≡ true → some_below test count ≡ true
some_below_at test zero j lt is = absurd (omega arith)
some_below_at test (suc count) j lt is = ⊎_elim
    (λ below. let before = some_below_at test count j below is in rw before refl)
    (λ (last : count ≤ j).
    let same : j ≡ count = omega arith in
    let here : test count ≡ true = ap test (sym same) ∙ is in
    rw here (or_right (some_below test count)))
    (cases_lt j count)
  where
    or_right : (a : Bool) → (a || true) ≡ true
    or_right true = refl
    or_right false = refl

not_second : (bytes : List ℕ) (n : ℕ) → IsSound bytes → n < symbol_count bytes → is_second_definition bytes n ≡ false
unfolding is_bad_symbol
not_second bytes n sound within =
    (or_false _ (is_second_definition bytes n) (sound.places.kinds.relas.symbols.good n within)).1

no_rival : (bytes : List ℕ) (j n : ℕ) → IsSound bytes → j < n → n < symbol_count bytes
    → are_rivals (kept_symbol bytes j) (kept_symbol bytes n) ≡ false
unfolding kept_symbol is_second_definition is_definition_at defines
no_rival bytes j n sound lt within = false_from_ne_true _ (λ rivals.
    let j_good = sound_symbol bytes j sound (omega arith) in
    let n_good = sound_symbol bytes n sound within in
    let names = and_parts _ (bytes_eq (name_of bytes j) (name_of bytes n)) rivals in
    let n_place = and_parts _ (is_defined (kept_place bytes n)) names.0 in
    let n_binding = and_parts _ (is_exported (kept_binding bytes n)) n_place.0 in
    let j_parts = and_parts (is_exported (kept_binding bytes j)) (is_defined (kept_place bytes j)) n_binding.0 in
    let n_definition : is_definition_at bytes n ≡ true =
    and_from _ _ (sym (exported_is bytes n n_good.info) ∙ n_binding.1) (sym (defined_is bytes n) ∙ n_place.1) in
    let j_definition : is_definition_at bytes j ≡ true =
    and_from _ _ (sym (exported_is bytes j j_good.info) ∙ j_parts.0) (sym (defined_is bytes j) ∙ j_parts.1) in
    let defined : defines bytes (name_of bytes n) j ≡ true = and_from _ _ j_definition names.1 in
    let below = some_below_at (defines bytes (name_of bytes n)) n j lt defined in
    let second = and_false (is_definition_at bytes n) _ n_definition (not_second bytes n sound within) in
    false≢true (sym second ∙ below))

abbrev pub AreNoRivals : Symbol → Symbol → Type 0
AreNoRivals a b = are_rivals a b ≡ false

none_before : (bytes : List ℕ) (j n : ℕ) → IsSound bytes → j < n → n < symbol_count bytes
    → All (λ a. AreNoRivals a (kept_symbol bytes n)) (symbols_of bytes j)
unfolding symbols_of
none_before bytes j n sound lt within = ⊎_elim
    (λ out. rw out (All-from_recursion (λ a. AreNoRivals a (kept_symbol bytes n)) [] tt))
    (λ kept. rw kept (All-from_recursion (λ a. AreNoRivals a (kept_symbol bytes n)) (kept_symbol bytes j ∷ [])
    (no_rival bytes j n sound lt within, tt)))
    (cases_Bool (is_left_out bytes j))

pub out_adds : (bytes : List ℕ) (k : ℕ) → is_left_out bytes k ≡ true → symbols_of bytes k ≡ []
unfolding symbols_of
out_adds bytes k out = rw out refl

pub kept_adds : (bytes : List ℕ) (k : ℕ) → is_left_out bytes k ≡ false → symbols_of bytes k ≡ kept_symbol bytes k ∷ []
unfolding symbols_of
kept_adds bytes k kept = rw kept refl

pub no_rivals : (bytes : List ℕ) (count : ℕ) → IsSound bytes → count ≤ symbol_count bytes
    → AllPairs AreNoRivals (joined (symbols_of bytes) count)
no_rivals bytes zero sound le = λ i j d lt within. absurd (omega arith)
no_rivals bytes (suc count) sound le =
    let before = no_rivals bytes count sound (omega arith) in
    let front = joined (symbols_of bytes) count in
    elim (cases_Bool (is_left_out bytes count)) [
      | inl out ↦ rw (out_adds bytes count out, append-nil front) before
      | inr kept ↦ rw (kept_adds bytes count kept)
          (all_pairs_push AreNoRivals front (kept_symbol bytes count) before
          (joined_all (λ a. AreNoRivals a (kept_symbol bytes count)) (symbols_of bytes) count
          (λ j lt. none_before bytes j count sound lt (omega arith))))
    ]

one_sound : (bytes : List ℕ) (object : Object) (k : ℕ) → IsSound bytes → HasSizes bytes object
    → k < symbol_count bytes → All (IsSoundSymbol object) (symbols_of bytes k)
unfolding symbols_of
one_sound bytes object k sound sizes within = ⊎_elim
    (λ out. rw out (All-from_recursion (IsSoundSymbol object) [] tt))
    (λ kept. rw kept (All-from_recursion (IsSoundSymbol object) (kept_symbol bytes k ∷ [])
    (symbol_sound bytes object k sound sizes within kept, tt)))
    (cases_Bool (is_left_out bytes k))

pub symbols_sound : (bytes : List ℕ) (object : Object) → IsSound bytes → HasSizes bytes object
    → All (IsSoundSymbol object) (joined (symbols_of bytes) (symbol_count bytes))
symbols_sound bytes object sound sizes =
    joined_all (IsSoundSymbol object) (symbols_of bytes) (symbol_count bytes)
    (λ k within. one_sound bytes object k sound sizes within)
