-- The relocations of an instrumented module sit on the first words of units.
use Rattle.std.proofs.Common.{◌≡◌, ℕ, ◌+◌, ◌*◌, ◌/◌, ◌<◌, ◌&&◌, ◌||◌, not, Bool, true, false, cond, eqb, List, take, length, get_or, Option, Some, None, refl, ap, sym, subst, ◌∙◌, inl, inr, ⊎_elim, arith}
use Rattle.std.specs.List.{list_any, slice_get}
use Rattle.std.proofs.lemmas.Bool.{cases_Bool, and_parts, or_cases, not-false, eqb-true, false≢true}
use Rattle.std.proofs.lemmas.Option.{slice_get-get_or}
use Rattle.elf_read.specs.declared.object.Area.{Area}
use Rattle.elf_read.specs.declared.object.Area.TheVariants as areas
use Rattle.elf_read.specs.declared.object.Reloc.{Reloc}
use Rattle.elf_read.specs.declared.object.Symbol.{Symbol}
use Rattle.elf_read.specs.declared.relocation.TheConstants.{BRANCH, JAL, PCREL_HI20, PCREL_LO12_I, PCREL_LO12_S, HI20, LO12_I, LO12_S}
use Rattle.elf_read.specs.Relocation.{is_of_pair}
use Rattle.rv_insn.specs.declared.insn.Insn.{Insn}
use Rattle.rv_insn.specs.declared.insn.Insn.TheVariants as insns
use Rattle.rv_reloc.specs.declared.table.Form.{Form}
use Rattle.rv_reloc.specs.declared.table.Form.TheVariants as forms
use Rattle.rv_reloc.specs.declared.table.Formula.{Formula}
use Rattle.rv_reloc.specs.declared.table.Formula.TheVariants as formulas
use Rattle.rv_reloc.specs.Table.{immediate as row, rule_of}
use Rattle.cfi_aux.specs.declared.records.Function.{Function}
use Rattle.cfi_instr.specs.Words.{Words, insn_at, is_of_text, count_of}
use Rattle.cfi_instr.specs.Insns.{is_auipc, is_branch}
use Rattle.cfi_values.specs.Some.{holds}
use Rattle.cfi_instr.specs.inner.Insns.{is_lui, is_jal, is_store, has_low}
use Rattle.cfi_instr.specs.Items.{is_pair, item_of}
use Rattle.cfi_instr.specs.Target.{named_symbol}
use Rattle.cfi_instr.specs.inner.Functions.{is_covered}
use Rattle.cfi_instr.specs.inner.Misplaced.{has_form, fits_on, is_on, sits_by, names_well}
use Rattle.cfi_instr.proofs.RowTests.{PassesWords}
use Rattle.cfi_instr.proofs.RelocTests.{any-six, item-below}
use Rattle.cfi_instr.proofs.WordTests.{holds-within}
use Rattle.cfi_instr.proofs.RelocLemmas.{is_placed, is_out_of_place}
use Rattle.cfi_instr.specs.Sizes.{is_long, words_before, offsets_of, moved}
use Rattle.cfi_instr.specs.Moves.{is_of_long, kind_in, offset_in}
use Rattle.cfi_instr.proofs.SizeLemmas.{offset-read}
use Rattle.cfi_unit.specs.Spots.{BeginsUnit}
use Rattle.cfi_instr_law.proofs.AppliedLemmas.{MayFill}
use Rattle.cfi_instr_law.proofs.ItemLemmas.{pair-parts, branch-alone, item-outer, item_spots, item-begins, second-begins}

-- ---- kinds

-- a relocation of the kind fills one instruction
pub record HasRule (kind : ℕ) : Type 0 where
  pub formula : Formula
  pub form : Form
  pub rule : rule_of kind ≡ Some (row formula form)
  pub may : MayFill formula form

jal-rule : HasRule JAL
unfolding rule_of
jal-rule = record { formula = formulas.Relative; form = forms.Jal; rule = refl; may = tt }

branch-rule : (b : Bool) → HasRule (kind_in b BRANCH)
unfolding rule_of
branch-rule true = jal-rule
branch-rule false = record { formula = formulas.Relative; form = forms.Branch; rule = refl; may = tt }

jump-rule : (b : Bool) → HasRule (kind_in b JAL)
jump-rule true = jal-rule
jump-rule false = jal-rule

high-rule : (b : Bool) → HasRule (kind_in b PCREL_HI20)
unfolding rule_of
high-rule true = jal-rule
high-rule false = record { formula = formulas.Relative; form = forms.Auipc; rule = refl; may = tt }

lui-rule : (b : Bool) → HasRule (kind_in b HI20)
unfolding rule_of
lui-rule true = jal-rule
lui-rule false = record { formula = formulas.Absolute; form = forms.Lui; rule = refl; may = tt }

low-rule : HasRule LO12_I
unfolding rule_of
low-rule = record { formula = formulas.Absolute; form = forms.LowI; rule = refl; may = tt }

partner-rule : HasRule PCREL_LO12_I
unfolding rule_of
partner-rule = record { formula = formulas.Partner; form = forms.LowI; rule = refl; may = refl }

low-rules : (b : Bool) → HasRule (kind_in b LO12_I) × HasRule (kind_in b LO12_S)
low-rules true = (jal-rule, jal-rule)
low-rules false = (low-rule, low-rule)

partner-rules : (b : Bool) → HasRule (kind_in b PCREL_LO12_I) × HasRule (kind_in b PCREL_LO12_S)
partner-rules true = (jal-rule, jal-rule)
partner-rules false = (partner-rule, partner-rule)

at-kind : (c kind : ℕ) (b : Bool) → eqb kind c ≡ true → HasRule (kind_in b c) → HasRule (kind_in b kind)
at-kind c kind b h rule = subst (λ (k : ℕ). HasRule (kind_in b k)) (sym (eqb-true kind c h)) rule

-- a pair's relocation becomes one of a jump
pair-rule : (kind : ℕ) (b : Bool) → is_of_pair kind ≡ true → HasRule (kind_in b kind)
pair-rule kind true h = jal-rule
pair-rule kind false h = rw h jal-rule

-- one that fits the form of an instruction becomes one that fills an instruction
form-rule : (kind : ℕ) (insn : Insn) (b : Bool) → has_form kind insn ≡ true → HasRule (kind_in b kind)
form-rule kind insn b h =
    any-six
    (eqb kind BRANCH && is_branch insn)
    (eqb kind JAL && is_jal insn)
    (eqb kind PCREL_HI20 && is_auipc insn)
    (eqb kind HI20 && is_lui insn)
    ((eqb kind PCREL_LO12_I || eqb kind LO12_I) && has_low insn)
    ((eqb kind PCREL_LO12_S || eqb kind LO12_S) && is_store insn)
    (λ one. at-kind BRANCH kind b (and_parts (eqb kind BRANCH) (is_branch insn) one).0 (branch-rule b))
    (λ one. at-kind JAL kind b (and_parts (eqb kind JAL) (is_jal insn) one).0 (jump-rule b))
    (λ one. at-kind PCREL_HI20 kind b (and_parts (eqb kind PCREL_HI20) (is_auipc insn) one).0 (high-rule b))
    (λ one. at-kind HI20 kind b (and_parts (eqb kind HI20) (is_lui insn) one).0 (lui-rule b))
    (λ one.
    ⊎_elim
    (λ (partner : eqb kind PCREL_LO12_I ≡ true). at-kind PCREL_LO12_I kind b partner (partner-rules b).0)
    (λ (plain : eqb kind LO12_I ≡ true). at-kind LO12_I kind b plain (low-rules b).0)
    (or_cases (eqb kind PCREL_LO12_I) (eqb kind LO12_I)
    (and_parts (eqb kind PCREL_LO12_I || eqb kind LO12_I) (has_low insn) one).0))
    (λ one.
    ⊎_elim
    (λ (partner : eqb kind PCREL_LO12_S ≡ true). at-kind PCREL_LO12_S kind b partner (partner-rules b).1)
    (λ (plain : eqb kind LO12_S ≡ true). at-kind LO12_S kind b plain (low-rules b).1)
    (or_cases (eqb kind PCREL_LO12_S) (eqb kind LO12_S)
    (and_parts (eqb kind PCREL_LO12_S || eqb kind LO12_S) (is_store insn) one).0))
    h

-- ---- places

-- what is known of a relocation of the text: it fits on what it sits on, and that is in a function
pub record FitsText (t : Words) (functions : List Function) (reloc : Reloc) : Type 0 where
  pub fits : fits_on t reloc.kind (reloc.offset / 4) ≡ true
  pub covered : is_covered functions (4 * item_of t (reloc.offset / 4)) ≡ true

text-fits : (t : Words) (functions : List Function) (earlier : Bool) (reloc : Reloc) (area : Area) → area ≡ areas.Text
    → (not (is_of_text area) || sits_by t functions earlier reloc) ≡ true → FitsText t functions reloc
text-fits t functions earlier reloc areas.Text is h =
    let both = and_parts _ (not earlier) h in
    let first = and_parts _ _ both.0 in
    record { fits = first.0; covered = first.1 }
text-fits t functions earlier reloc areas.Data is h = absurd (cc)

placed-fits : (t : Words) (symbols : List Symbol) (functions : List Function) (earlier : List Reloc) (reloc : Reloc)
    → reloc.area ≡ areas.Text → is_placed t symbols functions earlier (Some reloc) ≡ true → FitsText t functions reloc
placed-fits t symbols functions earlier reloc is h =
    text-fits t functions (list_any (is_on t (item_of t (reloc.offset / 4))) earlier) reloc reloc.area is
    (and_parts _ (names_well t (named_symbol symbols reloc) reloc.addend) h).0

-- a relocation of the text sits well
pub reloc-fits : (t : Words) (symbols : List Symbol) (functions : List Function) (relocs : List Reloc) (k : ℕ)
    (d : Reloc) → k < length relocs → is_out_of_place t symbols functions relocs k ≡ false
    → (get_or relocs k d).area ≡ areas.Text → FitsText t functions (get_or relocs k d)
reloc-fits t symbols functions relocs k d inside well is =
    let reloc = get_or relocs k d in
    let found : slice_get relocs k ≡ Some reloc = slice_get-get_or relocs k d inside in
    let placed : is_placed t symbols functions (take k relocs) (Some reloc) ≡ true =
    ap (is_placed t symbols functions (take k relocs)) (sym found) ∙ not-false _ well in
    placed-fits t symbols functions (take k relocs) reloc is placed

holds-form : (kind : ℕ) (insn : Option Insn) (b : Bool) → holds (has_form kind) insn ≡ true → HasRule (kind_in b kind)
holds-form kind None b h = absurd (false≢true h)
holds-form kind (Some insn) b h = form-rule kind insn b h

-- the word that a relocation sits on is one of the text, and the relocation fills an instruction once it is moved
pub fits-rule : (t : Words) (kind w : ℕ) (b : Bool) → fits_on t kind w ≡ true
    → (w < count_of t) × HasRule (kind_in b kind)
fits-rule t kind w b h = elim (cases_Bool (is_of_pair kind)) [
  | inl pair ↦
      let is : is_pair t w ≡ true = rw pair at h in
      (holds-within t w is_auipc (pair-parts t w is).0, pair-rule kind b pair)
  | inr one ↦
      let is : holds (has_form kind) (insn_at t w) ≡ true = rw one at h in
      (holds-within t w (has_form kind) is, holds-form kind (insn_at t w) b is)
]

branch-form : (insn : Option Insn) → holds (has_form BRANCH) insn ≡ true → holds is_branch insn ≡ true
branch-form None h = absurd (false≢true h)
branch-form (Some (insns.Branch cond rs1 rs2 off)) h = refl
branch-form (Some insn) h = h

-- a relocation of a branch sits on one
fits-branch : (t : Words) (kind w : ℕ) → eqb kind BRANCH ≡ true → fits_on t kind w ≡ true
    → holds is_branch (insn_at t w) ≡ true
fits-branch t kind w is h =
    branch-form (insn_at t w)
    (subst (λ (k : ℕ). fits_on t k w ≡ true) (eqb-true kind BRANCH is) h)

module _ (t : Words) (symbols : List Symbol) (long : List Bool) (legal : PassesWords t) where
  abbrev offsets : List ℕ
  offsets = offsets_of t long

  moved-place : (offset : ℕ) → offset / 4 < count_of t → moved t offsets offset ≡ 4 * words_before t long (item_of t (offset / 4))
  moved-place offset inside =
      offset-read t long (item_of t (offset / 4)) (omega (arith, inside, item-below t (offset / 4)))

  -- a relocation goes to a place at which a unit of its item begins
  pub record GoesWell (reloc : Reloc) : Type 0 where
    pub at : ℕ
    pub offset_is : offset_in t offsets (is_of_long long reloc) reloc.offset ≡ 4 * at
    pub inside : item_of t (reloc.offset / 4) < count_of t
    pub begins : BeginsUnit (item_spots t symbols long offsets (item_of t (reloc.offset / 4))) at

  goes-by : (reloc : Reloc) (b : Bool) → b ≡ is_of_long long reloc → fits_on t reloc.kind (reloc.offset / 4) ≡ true
      → GoesWell reloc
  goes-by reloc true is fits =
      let w : ℕ = reloc.offset / 4 in
      let inside = (fits-rule t reloc.kind w true fits).0 in
      let both = and_parts (eqb reloc.kind BRANCH) (is_long long w) (sym is) in
      let branch = fits-branch t reloc.kind w both.0 fits in
      let alone = branch-alone t w branch in
      let item_is : item_of t w ≡ w = rw alone.0 refl in
      let at : ℕ = words_before t long (item_of t w) + 1 in
      let begins : BeginsUnit (item_spots t symbols long offsets (item_of t w)) at =
      subst (λ (k : ℕ). BeginsUnit (item_spots t symbols long offsets k) (words_before t long k + 1)) (sym item_is)
      (second-begins t symbols long offsets w alone.0 alone.1 branch both.1) in
      let four : offset_in t offsets (is_of_long long reloc) reloc.offset ≡ moved t offsets reloc.offset + 4 =
      ap (λ (l : Bool). offset_in t offsets l reloc.offset) (sym is) in
      record {
        at = at;
        offset_is = omega (arith, four, moved-place reloc.offset inside);
        inside = omega (arith, inside, item-below t w);
        begins = begins;
      }
  goes-by reloc false is fits =
      let w : ℕ = reloc.offset / 4 in
      let inside = (fits-rule t reloc.kind w false fits).0 in
      let first : ℕ = item_of t w in
      let below : first < count_of t = omega (arith, inside, item-below t w) in
      let none : offset_in t offsets (is_of_long long reloc) reloc.offset ≡ moved t offsets reloc.offset + 0 =
      ap (λ (l : Bool). offset_in t offsets l reloc.offset) (sym is) in
      record {
        at = words_before t long first;
        offset_is = omega (arith, none, moved-place reloc.offset inside);
        inside = below;
        begins = item-begins t symbols long offsets first (item-outer t w) (legal.legal first below);
      }

  pub goes-well : (reloc : Reloc) → fits_on t reloc.kind (reloc.offset / 4) ≡ true → GoesWell reloc
  goes-well reloc fits = goes-by reloc (is_of_long long reloc) refl fits
