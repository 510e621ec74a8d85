-- What the tests of relocations decide.
use Rattle.std.proofs.Common.{◌≡◌, ◌⊎◌, ℕ, ℤ, ◌*◌, ◌/◌, ◌<◌, ◌≤◌, ◌∙◌, ◌&&◌, ◌||◌, not, Bool, true, false, eqb, ltb, List, take, Option, Some, None, refl, ap, sym, subst, inl, inr, ⊎_elim, arith}
use Rattle.std.specs.List.{list_any}
use Rattle.std.proofs.lemmas.Bool.{cases_Bool, both_ways, false≢true, and_parts, and_from, or_cases, not-true, not-false, not_from_true, not_from_false, false_from_ne_true, eqb-true, eq-eqb, lt-ltb}
use Rattle.elf_read.specs.declared.object.Symbol.{Symbol}
use Rattle.elf_read.specs.declared.object.Reloc.{Reloc}
use Rattle.elf_read.specs.declared.object.Area.{Area}
use Rattle.elf_read.specs.declared.object.Area.TheVariants as areas
use Rattle.elf_read.specs.declared.object.Place.{Place}
use Rattle.elf_read.specs.declared.object.Place.TheVariants as places
use Rattle.elf_read.specs.declared.relocation.TheConstants.{BRANCH, JAL, PCREL_HI20, PCREL_LO12_I, PCREL_LO12_S, HI20, LO12_I, LO12_S}
use Rattle.elf_read.specs.Relocation.{is_of_pair}
use Rattle.rv_insn.specs.declared.insn.Insn.{Insn}
use Rattle.rv_insn.specs.declared.insn.Insn.TheVariants as insns
use Rattle.rv_insn.specs.declared.insn.ImmOp.{ImmOp}
use Rattle.rv_insn.specs.declared.insn.ImmOp.TheVariants as ops
use Rattle.cfi_aux.specs.declared.records.Function.{Function}
use Rattle.cfi_instr.specs.Words.{Words, insn_at, is_of_text, count_of}
use Rattle.cfi_instr.specs.Insns.{is_auipc, is_branch}
use Rattle.cfi_values.specs.Some.{holds}
use Rattle.cfi_instr.specs.Items.{is_inner, is_pair, item_of, IsItemBound}
use Rattle.cfi_instr.specs.Target.{offset_from, named_symbol}
use Rattle.cfi_instr.specs.Relocs.{IsLowOfI, IsLowOfS, HasFieldOf, FitsAs, FitsOn, SharesItem, SitsOnItem, NamesWell, IsRelocPlaced, IsRelocPlacedBehind}
use Rattle.cfi_instr.specs.inner.Insns.{is_lui, is_jal, is_store, has_low}
use Rattle.cfi_instr.specs.inner.Functions.{is_covered}
use Rattle.cfi_instr.specs.inner.Misplaced.{has_form, fits_on, is_on, sits_by, is_bound, leads_to_bound, names_well}
use Rattle.cfi_instr.proofs.DecideLemmas.{Decides, some-from, from-some}
use Rattle.cfi_instr.proofs.WordTests.{holds-within, addi-is}
use Rattle.cfi_instr.proofs.FunctionTests.{bound-holds, bound-clear, covered-holds, covered-clear}
use Rattle.cfi_instr.proofs.RelocLemmas.{is_placed, is_out_of_place}

-- ---- fields

branch-field : (kind : ℕ) (insn : Insn) → kind ≡ BRANCH → is_branch insn ≡ true → HasFieldOf kind insn
branch-field kind (insns.Branch cond rs1 rs2 off) is h = is
branch-field kind insn is h = absurd (false≢true h)

jal-field : (kind : ℕ) (insn : Insn) → kind ≡ JAL → is_jal insn ≡ true → HasFieldOf kind insn
jal-field kind (insns.Jal rd off) is h = is
jal-field kind insn is h = absurd (false≢true h)

auipc-field : (kind : ℕ) (insn : Insn) → kind ≡ PCREL_HI20 → is_auipc insn ≡ true → HasFieldOf kind insn
auipc-field kind (insns.Auipc rd imm) is h = is
auipc-field kind insn is h = absurd (false≢true h)

lui-field : (kind : ℕ) (insn : Insn) → kind ≡ HI20 → is_lui insn ≡ true → HasFieldOf kind insn
lui-field kind (insns.Lui rd imm) is h = is
lui-field kind insn is h = absurd (false≢true h)

low-field : (kind : ℕ) (insn : Insn) → IsLowOfI kind → has_low insn ≡ true → HasFieldOf kind insn
low-field kind (insns.Load load rd rs1 imm) is h = is
low-field kind (insns.OpImm op rd rs1 imm) is h = (addi-is op h, is)
low-field kind (insns.Jalr rd rs1 imm) is h = is
low-field kind insn is h = absurd (false≢true h)

store-field : (kind : ℕ) (insn : Insn) → IsLowOfS kind → is_store insn ≡ true → HasFieldOf kind insn
store-field kind (insns.Store store rs1 rs2 imm) is h = is
store-field kind insn is h = absurd (false≢true h)

-- one of two kinds
either-holds : (kind a b : ℕ) → (eqb kind a || eqb kind b) ≡ true → (kind ≡ a) ⊎ (kind ≡ b)
either-holds kind a b h =
    ⊎_elim (λ (one : eqb kind a ≡ true). inl (eqb-true kind a one))
    (λ (two : eqb kind b ≡ true). inr (eqb-true kind b two)) (or_cases (eqb kind a) (eqb kind b) h)

-- what follows from each of six tests follows from some one
pub any-six : {P : Type 0} (a b c d e f : Bool) → (a ≡ true → P) → (b ≡ true → P) → (c ≡ true → P) → (d ≡ true → P)
    → (e ≡ true → P) → (f ≡ true → P) → (a || b || c || d || e || f) ≡ true → P
any-six true b c d e f one two three four five six h = one refl
any-six false true c d e f one two three four five six h = two refl
any-six false false true d e f one two three four five six h = three refl
any-six false false false true e f one two three four five six h = four refl
any-six false false false false true f one two three four five six h = five refl
any-six false false false false false f one two three four five six h = six h

form-holds : (kind : ℕ) (insn : Insn) → has_form kind insn ≡ true → HasFieldOf kind insn
form-holds kind insn h =
    any-six
    (eqb kind BRANCH && is_branch insn)
    (eqb kind JAL && is_jal insn)
    (eqb kind PCREL_HI20 && is_auipc insn)
    (eqb kind HI20 && is_lui insn)
    ((eqb kind PCREL_LO12_I || eqb kind LO12_I) && has_low insn)
    ((eqb kind PCREL_LO12_S || eqb kind LO12_S) && is_store insn)
    (λ one. let two = and_parts _ _ one in branch-field kind insn (eqb-true kind BRANCH two.0) two.1)
    (λ one. let two = and_parts _ _ one in jal-field kind insn (eqb-true kind JAL two.0) two.1)
    (λ one. let two = and_parts _ _ one in auipc-field kind insn (eqb-true kind PCREL_HI20 two.0) two.1)
    (λ one. let two = and_parts _ _ one in lui-field kind insn (eqb-true kind HI20 two.0) two.1)
    (λ one. let two = and_parts _ _ one in low-field kind insn (either-holds kind PCREL_LO12_I LO12_I two.0) two.1)
    (λ one. let two = and_parts _ _ one in store-field kind insn (either-holds kind PCREL_LO12_S LO12_S two.0) two.1)
    h

at-kind : (a kind : ℕ) (insn : Insn) → has_form a insn ≡ true → kind ≡ a → has_form kind insn ≡ true
at-kind a kind insn h is = subst (λ (k : ℕ). has_form k insn ≡ true) (sym is) h

form-clear : (kind : ℕ) (insn : Insn) → HasFieldOf kind insn → has_form kind insn ≡ true
form-clear kind (insns.Branch cond rs1 rs2 off) is = at-kind BRANCH kind (insns.Branch cond rs1 rs2 off) refl is
form-clear kind (insns.Jal rd off) is = at-kind JAL kind (insns.Jal rd off) refl is
form-clear kind (insns.Auipc rd imm) is = at-kind PCREL_HI20 kind (insns.Auipc rd imm) refl is
form-clear kind (insns.Lui rd imm) is = at-kind HI20 kind (insns.Lui rd imm) refl is
form-clear kind (insns.Load load rd rs1 imm) is =
    ⊎_elim (at-kind PCREL_LO12_I kind (insns.Load load rd rs1 imm) refl)
    (at-kind LO12_I kind (insns.Load load rd rs1 imm) refl) is
form-clear kind (insns.OpImm op rd rs1 imm) is =
    subst (λ (o : ImmOp). has_form kind (insns.OpImm o rd rs1 imm) ≡ true) (sym is.0)
    (⊎_elim (at-kind PCREL_LO12_I kind (insns.OpImm ops.Addi rd rs1 imm) refl)
    (at-kind LO12_I kind (insns.OpImm ops.Addi rd rs1 imm) refl) is.1)
form-clear kind (insns.Jalr rd rs1 imm) is =
    ⊎_elim (at-kind PCREL_LO12_I kind (insns.Jalr rd rs1 imm) refl)
    (at-kind LO12_I kind (insns.Jalr rd rs1 imm) refl) is
form-clear kind (insns.Store store rs1 rs2 imm) is =
    ⊎_elim (at-kind PCREL_LO12_S kind (insns.Store store rs1 rs2 imm) refl)
    (at-kind LO12_S kind (insns.Store store rs1 rs2 imm) refl) is
form-clear kind insn is = absurd is

form-at : (kind : ℕ) (x : Option Insn) → holds (has_form kind) x ≡ true
    → (insn : Insn) × (x ≡ Some insn) × HasFieldOf kind insn
form-at kind None h = absurd (false≢true h)
form-at kind (Some insn) h = (insn, refl, form-holds kind insn h)

module _ (t : Words) (kind w : ℕ) where
  fits-holds : fits_on t kind w ≡ true → FitsOn t kind w
  fits-holds h = elim (cases_Bool (is_of_pair kind)) [
    | inl pair ↦ subst (λ (b : Bool). FitsAs b t kind w) (sym pair) (rw pair at h)
    | inr one ↦
        let is : holds (has_form kind) (insn_at t w) ≡ true = rw one at h in
        subst (λ (b : Bool). FitsAs b t kind w) (sym one) (form-at kind (insn_at t w) is)
  ]

  fits-clear : FitsOn t kind w → fits_on t kind w ≡ true
  fits-clear good = elim (cases_Bool (is_of_pair kind)) [
    | inl pair ↦ let is : FitsAs true t kind w = subst (λ (b : Bool). FitsAs b t kind w) pair good in rw pair is
    | inr one ↦
        let is : FitsAs false t kind w = subst (λ (b : Bool). FitsAs b t kind w) one good in
        rw one (ap (holds (has_form kind)) is.1 ∙ form-clear kind is.0 is.2)
  ]

-- ---- relocations on one item

pub item-below : (t : Words) (w : ℕ) → item_of t w ≤ w
item-below t w = elim (cases_Bool (is_inner t w)) [
  | inl inner ↦ rw inner (omega arith)
  | inr outer ↦ rw outer (omega arith)
]

-- what fits on a word does so on one of the text
pub fits-within : (t : Words) (kind w : ℕ) → fits_on t kind w ≡ true → w < count_of t
fits-within t kind w h = elim (cases_Bool (is_of_pair kind)) [
  | inl pair ↦
      let is : is_pair t w ≡ true = rw pair at h in
      holds-within t w is_auipc (and_parts _ _ (and_parts _ _ is).0).1
  | inr one ↦
      let is : holds (has_form kind) (insn_at t w) ≡ true = rw one at h in
      holds-within t w (has_form kind) is
]

text-is : (area : Area) → is_of_text area ≡ true → area ≡ areas.Text
text-is areas.Text h = refl
text-is areas.Data h = absurd (false≢true h)

module _ (t : Words) (reloc : Reloc) where
  abbrev item : ℕ
  item = item_of t (reloc.offset / 4)

  on-holds : (other : Reloc) → is_on t item other ≡ true → SharesItem t other reloc
  on-holds other h =
      let both = and_parts _ (ltb item (count_of t)) h in
      let two = and_parts (is_of_text other.area) (eqb (item_of t (other.offset / 4)) item) both.0 in
      record { area = text-is other.area two.0; item = eqb-true (item_of t (other.offset / 4)) item two.1 }

  on-clear : (other : Reloc) → item < count_of t → SharesItem t other reloc → is_on t item other ≡ true
  on-clear other inside shares =
      and_from _ (ltb item (count_of t))
      (and_from (is_of_text other.area) (eqb (item_of t (other.offset / 4)) item) (ap is_of_text shares.area)
      (eq-eqb (item_of t (other.offset / 4)) item shares.item))
      (lt-ltb item (count_of t) inside)

  sits-holds : (functions : List Function) (earlier : List Reloc)
      → sits_by t functions (list_any (is_on t item) earlier) reloc ≡ true → SitsOnItem t functions earlier reloc
  sits-holds functions earlier h =
      let both = and_parts _ (not (list_any (is_on t item) earlier)) h in
      let first = and_parts (fits_on t reloc.kind (reloc.offset / 4)) (is_covered functions (4 * item)) both.0 in
      let within = fits-within t reloc.kind (reloc.offset / 4) first.0 in
      let inside : item < count_of t = omega (arith, within, item-below t (reloc.offset / 4)) in
      record {
        fits = fits-holds t reloc.kind (reloc.offset / 4) first.0;
        home = covered-holds functions (4 * item) first.1;
        alone = λ other has shares.
            both_ways (list_any (is_on t item) earlier) (not-true (list_any (is_on t item) earlier) both.1)
            (from-some (is_on t item) earlier other has (on-clear other inside shares));
      }

  sits-clear : (functions : List Function) (earlier : List Reloc) → SitsOnItem t functions earlier reloc
      → sits_by t functions (list_any (is_on t item) earlier) reloc ≡ true
  sits-clear functions earlier good =
      and_from _ (not (list_any (is_on t item) earlier))
      (and_from (fits_on t reloc.kind (reloc.offset / 4)) (is_covered functions (4 * item))
      (fits-clear t reloc.kind (reloc.offset / 4) good.fits) (covered-clear functions (4 * item) good.home))
      (not_from_false (list_any (is_on t item) earlier)
      (false_from_ne_true (list_any (is_on t item) earlier) (λ any.
      let some = some-from (is_on t item) earlier any in
      good.alone some.0 some.1 (on-holds some.0 some.2))))

-- ---- symbols

bound-at-holds : (t : Words) (to : Option ℕ) → is_bound t to ≡ true
    → (offset : ℕ) × (to ≡ Some offset) × IsItemBound t offset
bound-at-holds t None h = absurd (false≢true h)
bound-at-holds t (Some offset) h = (offset, refl, bound-holds t offset h)

leads-holds : (t : Words) (place : Place) (value : ℕ) (addend : ℤ) → leads_to_bound t place value addend ≡ true
    → place ≡ places.Text → (to : ℕ) × (offset_from value addend ≡ Some to) × IsItemBound t to
leads-holds t places.Text value addend h is = bound-at-holds t (offset_from value addend) h
leads-holds t places.Undefined value addend h is = absurd (cc)
leads-holds t places.Absolute value addend h is = absurd (cc)
leads-holds t places.Data value addend h is = absurd (cc)

leads-clear : (t : Words) (place : Place) (value : ℕ) (addend : ℤ)
    → (place ≡ places.Text → (to : ℕ) × (offset_from value addend ≡ Some to) × IsItemBound t to)
    → leads_to_bound t place value addend ≡ true
leads-clear t places.Text value addend good =
    let to = good refl in ap (is_bound t) to.1 ∙ bound-clear t to.0 to.2
leads-clear t places.Undefined value addend good = refl
leads-clear t places.Absolute value addend good = refl
leads-clear t places.Data value addend good = refl

named-clear : (t : Words) (found : Option Symbol) (addend : ℤ)
    → ((symbol : Symbol) → found ≡ Some symbol → symbol.place ≡ places.Text
    → (to : ℕ) × (offset_from symbol.value addend ≡ Some to) × IsItemBound t to)
    → names_well t found addend ≡ true
named-clear t None addend good = refl
named-clear t (Some symbol) addend good = leads-clear t symbol.place symbol.value addend (good symbol refl)

names-holds : (t : Words) (symbols : List Symbol) (reloc : Reloc)
    → names_well t (named_symbol symbols reloc) reloc.addend ≡ true → NamesWell t symbols reloc
names-holds t symbols reloc h symbol found text =
    leads-holds t symbol.place symbol.value reloc.addend
    (ap (λ (s : Option Symbol). names_well t s reloc.addend) (sym found) ∙ h) text

-- ---- relocations after those before them

sits-in : (t : Words) (functions : List Function) (earlier : List Reloc) (reloc : Reloc) (area : Area)
    → (not (is_of_text area) || sits_by t functions (list_any (is_on t (item_of t (reloc.offset / 4))) earlier) reloc) ≡ true
    → area ≡ areas.Text → SitsOnItem t functions earlier reloc
sits-in t functions earlier reloc areas.Text h is = sits-holds t reloc functions earlier h
sits-in t functions earlier reloc areas.Data h is = absurd (cc)

in-clear : (t : Words) (functions : List Function) (earlier : List Reloc) (reloc : Reloc) (area : Area)
    → (area ≡ areas.Text → SitsOnItem t functions earlier reloc)
    → (not (is_of_text area) || sits_by t functions (list_any (is_on t (item_of t (reloc.offset / 4))) earlier) reloc) ≡ true
in-clear t functions earlier reloc areas.Text good = sits-clear t reloc functions earlier (good refl)
in-clear t functions earlier reloc areas.Data good = refl

module _ (t : Words) (symbols : List Symbol) (functions : List Function) where
  placed-holds : (earlier : List Reloc) (reloc : Reloc) → is_placed t symbols functions earlier (Some reloc) ≡ true
      → IsRelocPlaced t symbols functions earlier reloc
  placed-holds earlier reloc h =
      let both = and_parts _ (names_well t (named_symbol symbols reloc) reloc.addend) h in
      record {
        sits = sits-in t functions earlier reloc reloc.area both.0;
        names = names-holds t symbols reloc both.1;
      }

  placed-clear : (earlier : List Reloc) (reloc : Reloc) → IsRelocPlaced t symbols functions earlier reloc
      → is_placed t symbols functions earlier (Some reloc) ≡ true
  placed-clear earlier reloc good =
      and_from _ (names_well t (named_symbol symbols reloc) reloc.addend)
      (in-clear t functions earlier reloc reloc.area good.sits)
      (named-clear t (named_symbol symbols reloc) reloc.addend good.names)

  pub placed : (relocs : List Reloc)
      → Decides relocs (is_out_of_place t symbols functions relocs) (IsRelocPlacedBehind t symbols functions relocs)
  placed relocs = record {
    holds = λ k reloc is h.
        placed-holds (take k relocs) reloc
        (ap (is_placed t symbols functions (take k relocs)) (sym is) ∙ not-false _ h);
    clear = λ k reloc is good.
        not_from_true _
        (ap (is_placed t symbols functions (take k relocs)) is ∙ placed-clear (take k relocs) reloc good);
  }
