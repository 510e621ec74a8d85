-- What the names of symbols are.
use Rattle.std.proofs.Common.{◌≡◌, ◌≤◌, ◌==◌, ◌||◌, not, cond, is_some, Option, Some, None, Bool, refl, ℕ, List, true, false, nat_le, length, drop, sym, ◌∙◌}
use Rattle.std.proofs.lemmas.Bool.{and_from, le-leb, eq-eqb, not-false}
use Rattle.std.proofs.lemmas.Str.{utf8_valid_len-IsUtf8}
use Rattle.std.specs.List.{list_any, before_first}
use Rattle.std.specs.Str.{IsUtf8}
use Rattle.std.specs.Str.Lossy.{utf8_valid_len}
use Rattle.elf_read.specs.Symbol.{is_well_named, stored_name, symbol_at, symbol_names, is_bad_symbol, is_bad_info, is_bad_place, is_nameless, is_local_undefined, is_past_section, is_second_definition}
use Rattle.elf_read.specs.inner.Alone.{is_bad_alone}
use Rattle.elf_read.proofs.SectionLemmas.{or_false}

-- a name is well formed where its end, its length and its bytes are
pub well_named : (bytes : List ℕ) (k : ℕ) (from text : List ℕ)
    → from ≡ drop (symbol_at bytes k).name (symbol_names bytes) → list_any (λ byte. byte == 0) from ≡ true
    → text ≡ before_first (λ byte. byte == 0) from → length text ≤ 255 → IsUtf8 text → is_well_named bytes k ≡ true
unfolding is_well_named stored_name
well_named bytes k from text stands ends is short valid =
    let name : text ≡ stored_name bytes k = rw (← stands) is in
    let ended : list_any (λ byte. byte == 0) (drop (symbol_at bytes k).name (symbol_names bytes)) ≡ true =
    rw (← stands) ends in
    let short_name : nat_le (length (stored_name bytes k)) 255 ≡ true = rw (← name) (le-leb _ _ short) in
    let valid_name : (utf8_valid_len (stored_name bytes k) == length (stored_name bytes k)) ≡ true =
    rw (← name) (eq-eqb _ _ (utf8_valid_len-IsUtf8 text valid)) in
    and_from _ _ (and_from _ _ ended short_name) valid_name

-- a symbol breaks none of the rules
pub record IsGoodSymbol (bytes : List ℕ) (k : ℕ) : Type 0 where
  pub info : is_bad_info bytes k ≡ false
  pub place : is_bad_place bytes k ≡ false
  pub name : is_well_named bytes k ≡ true
  pub named : is_nameless bytes k ≡ false
  pub defined : is_local_undefined bytes k ≡ false
  pub value : is_past_section bytes k ≡ false

pub good_alone : (bytes : List ℕ) (k : ℕ) → is_bad_alone bytes k ≡ false → IsGoodSymbol bytes k
unfolding is_bad_alone
good_alone bytes k h =
    let a = is_bad_info bytes k in
    let b = is_bad_place bytes k in
    let c = not (is_well_named bytes k) in
    let d = is_nameless bytes k in
    let e = is_local_undefined bytes k in
    let upto_f = or_false (a || b || c || d || e) (is_past_section bytes k) h in
    let upto_e = or_false (a || b || c || d) e upto_f.0 in
    let upto_d = or_false (a || b || c) d upto_e.0 in
    let upto_c = or_false (a || b) c upto_d.0 in
    let upto_b = or_false a b upto_c.0 in
    record {
      info = upto_b.0;
      place = upto_b.1;
      name = not-false _ upto_c.1;
      named = upto_d.1;
      defined = upto_e.1;
      value = upto_f.1;
    }

-- it breaks one where it breaks one alone, or defines a name again
pub bad_symbol : (bytes : List ℕ) (k : ℕ)
    → is_bad_symbol bytes k ≡ (is_bad_alone bytes k || is_second_definition bytes k)
unfolding is_bad_symbol is_bad_alone
bad_symbol bytes k = refl

pub good_symbol : (bytes : List ℕ) (k : ℕ) → is_bad_symbol bytes k ≡ false → IsGoodSymbol bytes k
good_symbol bytes k h =
    let apart = or_false (is_bad_alone bytes k) (is_second_definition bytes k) (sym (bad_symbol bytes k) ∙ h) in
    good_alone bytes k apart.0

-- a look-up finds what was there, or what was put there
pub looked_up : (b : Bool) (old : Option ℕ) (x : ℕ) → is_some (cond b (Some x) old) ≡ (is_some old || b)
looked_up true None x = refl
looked_up true (Some y) x = refl
looked_up false None x = refl
looked_up false (Some y) x = refl
