-- What is looked at once tells of each relocation what the rules do.
use Rattle.std.proofs.Common.{◌≡◌, ℕ, ◌+◌, ◌<◌, Bool, true, false, not, ◌&&◌, ◌||◌, ◌==◌, nat_lt, List, slice_index_or, Option, Some, None, IfSome, IfNone, refl, sym, ◌∙◌, ap, arith}
use Rattle.std.proofs.lemmas.Bool.Decides.{nat_tests}
use Rattle.elf_read.specs.Places.{IsFirst, IsNone}
use Rattle.elf_read.specs.Section.{section_at, contents, is_text, is_data}
use Rattle.elf_read.specs.Symbol.{symbol_count, is_left_out}
use Rattle.elf_read.specs.Relocation.{rela_at, entry_in, symbol_index, kind_of, field_size, is_known, misfits, is_bad_reference, is_outside, is_misplaced, is_bad_rela_at, is_unknown_at}
use Rattle.elf_read.specs.inner.Targets.{is_bad_symbol_number, breaks, AreLeftOut}
use Rattle.elf_read.specs.declared.relocation.Rela.{Rela}
use Rattle.elf_read.specs.declared.rela.Target.{Target}

-- two tests that agree below a count have one first place there
module _ (f g : ℕ → Bool) (count : ℕ) (agree : (i : ℕ) → i < count → f i ≡ g i) where
  first_same : (k : ℕ) → IsFirst f count k → IsFirst g count k
  first_same k is = record {
    within = is.within;
    here = sym (agree k is.within) ∙ is.here;
    before = λ j h. sym (agree j (omega (arith, h, is.within))) ∙ is.before j h;
  }

  pub some_same : (found : Option ℕ) → IfSome found (IsFirst f count) → IfSome found (IsFirst g count)
  some_same (Some k) is = first_same k is
  some_same None is = is

  pub none_same : (found : Option ℕ) → IfNone found (IsNone f count) → IfNone found (IsNone g count)
  none_same (Some k) is = is
  none_same None is = λ j h. sym (agree j h) ∙ is j h

-- the symbol of a relocation
symbol_same : (bytes : List ℕ) (marks : List Bool) (rela : Rela) (there : Bool) → AreLeftOut bytes marks
    → nat_lt (symbol_index rela) (symbol_count bytes) ≡ there
    → is_bad_symbol_number marks (symbol_index rela) ≡ is_bad_reference bytes rela
unfolding is_bad_reference
symbol_same bytes marks rela true are is =
    let within : symbol_index rela < symbol_count bytes = search (nat_tests, arith) in
    ap (λ n. not (symbol_index rela == 0)
    && (not (nat_lt (symbol_index rela) n) || slice_index_or marks (symbol_index rela) false)) are.size
    ∙ ap (λ b. not (symbol_index rela == 0) && (not (nat_lt (symbol_index rela) (symbol_count bytes)) || b))
    (are.marked (symbol_index rela) within)
symbol_same bytes marks rela false are is =
    ap (λ n. not (symbol_index rela == 0)
    && (not (nat_lt (symbol_index rela) n) || slice_index_or marks (symbol_index rela) false)) are.size
    ∙ ap (λ b. not (symbol_index rela == 0) && (not b || slice_index_or marks (symbol_index rela) false)) is
    ∙ sym (ap (λ b. not (symbol_index rela == 0) && (not b || is_left_out bytes (symbol_index rela))) is)

-- whether a relocation breaks a rule
pub bad_same : (bytes entries : List ℕ) (marks : List Bool) (target : Target) (s t i : ℕ) → AreLeftOut bytes marks
    → entries ≡ contents bytes s → t ≡ (section_at bytes s).info → target.size ≡ (section_at bytes t).size
    → target.is_text ≡ is_text bytes t → target.is_data ≡ is_data bytes t
    → breaks marks target (entry_in entries i) ≡ is_bad_rela_at bytes s i
unfolding breaks is_bad_rela_at rela_at is_outside is_misplaced
bad_same bytes entries marks target s t i are held at size text words =
    let rela : Rela = entry_in (contents bytes s) i in
    let info : ℕ = (section_at bytes s).info in
    ap (λ e. breaks marks target (entry_in e i)) held
    ∙ ap (λ b. b || nat_lt target.size (rela.offset + field_size (kind_of rela))
    || misfits target.is_text target.is_data rela)
    (symbol_same bytes marks rela (nat_lt (symbol_index rela) (symbol_count bytes)) are refl)
    ∙ ap (λ n. is_bad_reference bytes rela || nat_lt n (rela.offset + field_size (kind_of rela))
    || misfits target.is_text target.is_data rela) (size ∙ ap (λ k. (section_at bytes k).size) at)
    ∙ ap (λ b. is_bad_reference bytes rela
    || nat_lt (section_at bytes info).size (rela.offset + field_size (kind_of rela))
    || misfits b target.is_data rela) (text ∙ ap (is_text bytes) at)
    ∙ ap (λ b. is_bad_reference bytes rela
    || nat_lt (section_at bytes info).size (rela.offset + field_size (kind_of rela))
    || misfits (is_text bytes info) b rela) (words ∙ ap (is_data bytes) at)

-- whether its kind is in no table
pub unknown_same : (bytes entries : List ℕ) (s i : ℕ) → entries ≡ contents bytes s
    → not (is_known (kind_of (entry_in entries i))) ≡ is_unknown_at bytes s i
unfolding is_unknown_at rela_at
unknown_same bytes entries s i held = ap (λ e. not (is_known (kind_of (entry_in e i)))) held
