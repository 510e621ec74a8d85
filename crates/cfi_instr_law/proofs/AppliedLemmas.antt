-- What is known of a relocation that was applied: its number has fitted its field.
use Rattle.std.proofs.Common.{◌≡◌, ℕ, ◌^◌, ◌<◌, List, Option, Some, Result, Ok, Err, refl, ap, sym, subst, ◌∙◌, arith}
use Rattle.elf_read.specs.declared.object.Reloc.{Reloc}
use Rattle.rv_reloc.specs.declared.fault.RelocFault.{RelocFault}
use Rattle.rv_reloc.specs.declared.table.Form.{Form}
use Rattle.rv_reloc.specs.declared.table.Form.TheVariants as forms
use Rattle.rv_reloc.specs.declared.table.Formula.{Formula}
use Rattle.rv_reloc.specs.declared.table.Formula.TheVariants as formulas
use Rattle.rv_reloc.specs.declared.table.Rule.{Rule}
use Rattle.rv_reloc.specs.Table.{immediate as row, rule_of}
use Rattle.rv_reloc.specs.Formula.{number_by}
use Rattle.rv_reloc.specs.Field.{immediate}
use Rattle.rv_reloc.specs.Bytes.{word_at, with_word}
use Rattle.rv_reloc.specs.Applied.{written, applied_by, applied}
use Rattle.cfi_values.specs.Then.{◌>>=◌}
use Rattle.cfi_instr_law.proofs.FieldLemmas.{IsBounded}

-- a step that went well had something to go on with
went : {A B : Type 0} (r : Result A RelocFault) (f : A → Result B RelocFault) (y : B) → (r >>= f) ≡ Ok y
    → (x : A) × (r ≡ Ok x) × (f x ≡ Ok y)
went (Ok x) f y e = (x, refl, e)
went (Err fault) f y e = absurd (cc)

pub same-ok : {A E : Type 0} {x y : A} → ◌≡◌ {A = Result A E} (Ok x) (Ok y) → x ≡ y
same-ok e = cc

-- a formula that may fill a form: a displacement of 32 bits, but for the number of a partner
abbrev pub MayFill : Formula → Form → Type 0
MayFill formulas.Absolute form = Unit {0}
MayFill formulas.Relative form = Unit {0}
MayFill formulas.Partner form = form ≡ forms.LowI

bounded : (form : Form) (number : ℕ) → number < 2 ^ 32 → IsBounded form number
bounded forms.Branch number small = small
bounded forms.Jal number small = small
bounded form number small = tt

number-small : (formula : Formula) (form : Form) (reloc : Reloc) (at value number : ℕ) (partner : Option ℕ)
    → MayFill formula form → number_by formula value reloc.addend at partner ≡ Ok number → IsBounded form number
number-small formulas.Absolute form reloc at value number partner may e =
    bounded form number (let is = same-ok e in omega (arith, is))
number-small formulas.Relative form reloc at value number partner may e =
    bounded form number (let is = same-ok e in omega (arith, is))
number-small formulas.Partner form reloc at value number partner may e =
    subst (λ (f : Form). IsBounded f number) (sym may) tt

-- the word that a field of an instruction gets, and the bytes with it
pub record IsFilled (form : Form) (offset : ℕ) (bytes after : List ℕ) : Type 0 where
  pub number : ℕ
  pub new : ℕ
  pub small : IsBounded form number
  pub fills : immediate form number (word_at offset bytes) ≡ Ok new
  pub bytes_are : after ≡ with_word offset new bytes

filled-by : (formula : Formula) (form : Form) (reloc : Reloc) (at value : ℕ) (partner : Option ℕ)
    (bytes after : List ℕ) → MayFill formula form
    → applied_by (Some (row formula form)) reloc at value partner bytes ≡ Ok after
    → IsFilled form reloc.offset bytes after
filled-by formula form reloc at value partner bytes after may e =
    let a = went (number_by formula value reloc.addend at partner)
    (λ number. written (row formula form) number reloc.offset bytes) after e in
    let b = went (immediate form a.0 (word_at reloc.offset bytes))
    (λ word. Ok (with_word reloc.offset word bytes)) after a.2 in
    record {
      number = a.0;
      new = b.0;
      small = number-small formula form reloc at value a.0 partner may a.1;
      fills = b.1;
      bytes_are = sym (same-ok b.2);
    }

pub applied-fills : (formula : Formula) (form : Form) (reloc : Reloc) (at value : ℕ) (partner : Option ℕ)
    (bytes after : List ℕ) → rule_of reloc.kind ≡ Some (row formula form) → MayFill formula form
    → applied reloc at value partner bytes ≡ Ok after → IsFilled form reloc.offset bytes after
applied-fills formula form reloc at value partner bytes after rule may e =
    filled-by formula form reloc at value partner bytes after may
    (ap (λ (r : Option Rule). applied_by r reloc at value partner bytes) (sym rule) ∙ e)
