-- The units that a module without faults becomes have spellings.
use Rattle.std.proofs.Common.{◌≡◌, ℕ, zero, suc, ◌+◌, ◌*◌, ◌/◌, ◌^◌, ◌<◌, ◌≤◌, ◌&&◌, not, ℤ, pos, Bool, true, false, List, get_or, Option, Some, None, is_some, refl, sym, ap, ◌∙◌, subst, inl, inr, ⊎_elim, arith}
use Rattle.std.specs.List.{slice_index}
use Rattle.std.specs.Option.{IfSome}
use Rattle.std.proofs.lemmas.Bool.{cases_Bool, cases_lt, false≢true, and_parts}
use Rattle.elf_read.specs.declared.object.Symbol.{Symbol}
use Rattle.rv_insn.specs.declared.insn.Insn.{Insn}
use Rattle.rv_insn.specs.declared.insn.Insn.TheVariants as insns
use Rattle.rv_insn.specs.Word.{IsSigned, IsEven}
use Rattle.rv_insn.specs.Insn.{InRange}
use Rattle.cfi_word.specs.declared.sizes.TheConstants.{SLOTS}
use Rattle.cfi_unit.specs.Unit.{IsUnit}
use Rattle.cfi_instr.specs.declared.target.Aim.{Aim}
use Rattle.cfi_instr.specs.declared.target.Aim.TheVariants as aims
use Rattle.cfi_instr.specs.Words.{Words, AreInsnsInRange, insn_at, reloc_on, count_of}
use Rattle.cfi_instr.specs.Insns.{is_jalr, is_branch}
use Rattle.cfi_values.specs.Some.{holds}
use Rattle.cfi_unit.specs.Free.{names_reserved}
use Rattle.cfi_instr.specs.inner.Insns.{is_trap}
use Rattle.cfi_instr.specs.Items.{is_inner, is_pair, is_item, is_indirect}
use Rattle.cfi_instr.specs.Target.{aim_of_jump}
use Rattle.cfi_instr.specs.Jumps.{ordinal_of}
use Rattle.cfi_instr.proofs.RowTests.{PassesWords}
use Rattle.cfi_instr.specs.declared.sizes.TheConstants.{MAX_WORDS}
use Rattle.cfi_instr.specs.Sizes.{is_long, size_by, size_at, words_before, offsets_of, AreSmall}
use Rattle.cfi_instr.specs.Reach.{target_of, is_near, insn_reaches, IsEnough}
use Rattle.cfi_instr.specs.Units.{distance, displacement_from, off_of, long_jump, is_wide, insn_units, units_at, AreUnits, AllSpell}
use Rattle.cfi_instr.proofs.SizeLemmas.{total-grows, offset-read, offset-past}
use Rattle.cfi_instr.proofs.ReachLemmas.{near-is}
use Rattle.cfi_instr.proofs.UnitLemmas.{IsReady, FitsOff, unit-fits, over-fits, signed-distance, even-distance}

-- ---- numbers of indirect jumps

jalr-size : (long : Bool) (insn : Option Insn) → holds is_jalr insn ≡ true → size_by long insn ≡ 14
jalr-size long None h = absurd (false≢true h)
jalr-size long (Some (insns.Jalr rd rs1 imm)) h = refl
jalr-size long (Some insn) h = absurd (false≢true h)

not-false : (b : Bool) → not b ≡ true → b ≡ false
not-false false h = refl
not-false true h = absurd (false≢true h)

indirect-size : (t : Words) (long : List Bool) (w : ℕ) → is_indirect t w ≡ true → size_at t long w ≡ 14
unfolding size_at
indirect-size t long w h =
    let parts = and_parts (is_item t w) (holds is_jalr (insn_at t w)) h in
    let outer = not-false (is_inner t w) (and_parts _ (not (is_inner t w)) parts.0).1 in
    rw outer (jalr-size (is_long long w) (insn_at t w) parts.1)

pub ordinal-place : (t : Words) (long : List Bool) (w : ℕ) → 14 * ordinal_of t w ≤ words_before t long w
ordinal-place t long zero = omega arith
ordinal-place t long (suc w) =
    let before = ordinal-place t long w in
    elim (cases_Bool (is_indirect t w)) [
      | inl here ↦ let size = indirect-size t long w here in rw here (omega arith)
      | inr other ↦ rw other (omega arith)
    ]

-- ---- offsets

quarter : (t : Words) (long : List Bool) (w : ℕ) → (k : ℕ) × (get_or (offsets_of t long) w 0 ≡ 4 * k)
quarter t long w = ⊎_elim
    (λ (below : w < count_of t + 1). (words_before t long w, offset-read t long w below))
    (λ (above : count_of t + 1 ≤ w). (0, offset-past t long w above))
    (cases_lt w (count_of t + 1))

target-quarter : (t : Words) (long : List Bool) (aim : Aim) → (k : ℕ) × (target_of (offsets_of t long) aim ≡ 4 * k)
target-quarter t long (aims.Offset offset) = quarter t long (offset / 4)
target-quarter t long aims.Name = (0, refl)
target-quarter t long aims.Astray = (0, refl)

target-small : (offsets : List ℕ) (aim : Aim) → AreSmall offsets → target_of offsets aim ≤ 262080
target-small offsets (aims.Offset offset) small = small (offset / 4)
target-small offsets aims.Name small = omega arith
target-small offsets aims.Astray small = omega arith

-- a displacement has what both that of a relocation and the way to the target have
displaced : (P : ℤ → Type 0) (t : Words) (symbols : List Symbol) (offsets : List ℕ) (w from : ℕ) (off under : ℤ)
    → P under → P (distance from (target_of offsets (aim_of_jump t symbols w off)))
    → P (displacement_from t symbols offsets w from off under)
displaced P t symbols offsets w from off under kept moved = elim (cases_Bool (is_some (reloc_on t w))) [
  | inl some ↦ rw some kept
  | inr none ↦ rw none moved
]

-- what is known of a module's words and the plan
pub record IsSpelled (t : Words) (symbols : List Symbol) (long : List Bool) : Type 0 where
  pub range : AreInsnsInRange t.insns
  pub legal : PassesWords t
  pub enough : IsEnough t symbols long
  pub fits : words_before t long (count_of t) ≤ MAX_WORDS
  pub small : AreSmall (offsets_of t long)

few-jumps : (t : Words) (symbols : List Symbol) (long : List Bool) (w : ℕ) → IsSpelled t symbols long
    → w < count_of t → ordinal_of t w < SLOTS
few-jumps t symbols long w is lt =
    let before = ordinal-place t long w in
    let part : words_before t long w ≤ words_before t long (count_of t) =
    total-grows (size_at t long) w (count_of t) (omega arith) in
    omega (arith, is.fits)

-- the way of a branch that is not long
branch-off : (t : Words) (symbols : List Symbol) (long : List Bool) (w : ℕ) (aim : Aim)
    → is_near (slice_index (offsets_of t long) w) (target_of (offsets_of t long) aim) ≡ true
    → IsSigned (2 ^ 12) (distance (slice_index (offsets_of t long) w) (target_of (offsets_of t long) aim))
    × IsEven (distance (slice_index (offsets_of t long) w) (target_of (offsets_of t long) aim))
branch-off t symbols long w aim near =
    let from = slice_index (offsets_of t long) w in
    let to = target_of (offsets_of t long) aim in
    let far = near-is from to near in
    let x = quarter t long w in
    let y = target-quarter t long aim in (
      signed-distance (2 ^ 12) from to (omega (arith, far.0)) (omega (arith, far.1)),
      even-distance from to x.0 y.0 x.1 y.1,
    )

-- the way of a jump, from a word's offset or the next word
jump-off : (t : Words) (long : List Bool) (from x : ℕ) (aim : Aim) → AreSmall (offsets_of t long)
    → from ≤ 262084 → from ≡ 4 * x
    → IsSigned (2 ^ 20) (distance from (target_of (offsets_of t long) aim))
    × IsEven (distance from (target_of (offsets_of t long) aim))
jump-off t long from x aim small near is =
    let to = target_of (offsets_of t long) aim in
    let le = target-small (offsets_of t long) aim small in
    let y = target-quarter t long aim in
    (signed-distance (2 ^ 20) from to (omega arith) (omega arith), even-distance from to x y.0 is y.1)

not-wide : (a : Bool) → (a && true) ≡ false → a ≡ false
not-wide false h = refl
not-wide true h = absurd (false≢true (sym h))

short-off : (t : Words) (symbols : List Symbol) (long : List Bool) (w : ℕ) (insn : Insn) → IsSpelled t symbols long
    → w < count_of t → insn_at t w ≡ Some insn → InRange insn → is_wide long w insn ≡ false
    → FitsOff insn (displacement_from t symbols (offsets_of t long) w (slice_index (offsets_of t long) w) (off_of insn)
    (off_of insn))
short-off t symbols long w (insns.Branch cond rs1 rs2 off) is lt here range narrow =
    let short : is_long long w ≡ false = not-wide (is_long long w) narrow in
    let near : insn_reaches t symbols (offsets_of t long) w (Some (insns.Branch cond rs1 rs2 off)) ≡ true =
    ap (insn_reaches t symbols (offsets_of t long) w) (sym here) ∙ is.enough w lt short in
    displaced (λ (z : ℤ). IsSigned (2 ^ 12) z × IsEven z) t symbols (offsets_of t long) w
    (slice_index (offsets_of t long) w) off off (range.2, range.3)
    (branch-off t symbols long w (aim_of_jump t symbols w off) near)
short-off t symbols long w (insns.Jal rd off) is lt here range narrow =
    let x = quarter t long w in
    let le = is.small w in
    displaced (λ (z : ℤ). IsSigned (2 ^ 20) z × IsEven z) t symbols (offsets_of t long) w
    (slice_index (offsets_of t long) w) off off (range.1, range.2)
    (jump-off t long (slice_index (offsets_of t long) w) x.0 (aim_of_jump t symbols w off) is.small (omega arith) x.1)
short-off t symbols long w insn is lt here range narrow = tt

long-off : (t : Words) (symbols : List Symbol) (long : List Bool) (w : ℕ) (insn : Insn) → IsSpelled t symbols long
    → IsUnit (long_jump t symbols (offsets_of t long) w insn)
long-off t symbols long w insn is =
    let x = quarter t long w in
    let le = is.small w in
    let from = slice_index (offsets_of t long) w + 4 in
    let next : from ≡ 4 * (x.0 + 1) = omega (arith, x.1) in
    let zero_fits : IsSigned (2 ^ 20) (pos 0) × IsEven (pos 0) = (omega arith, refl) in
    displaced (λ (z : ℤ). IsSigned (2 ^ 20) z × IsEven z) t symbols (offsets_of t long) w from (off_of insn) (pos 0)
    zero_fits (jump-off t long from (x.0 + 1) (aim_of_jump t symbols w (off_of insn)) is.small (omega arith) next)

-- ---- the units of a word

ready : (t : Words) (w : ℕ) (insn : Insn) → AreInsnsInRange t.insns → PassesWords t → w < count_of t → insn_at t w ≡ Some insn
    → IsReady insn
ready t w insn range legal lt here = record {
  range = subst (λ (x : Option Insn). IfSome x InRange) here (range w None lt);
  free = ap (holds names_reserved) (sym here) ∙ legal.free w lt;
  quiet = ap (holds is_trap) (sym here) ∙ legal.quiet w lt;
}

insn-spelled : (t : Words) (symbols : List Symbol) (long : List Bool) (w : ℕ) (insn : Option Insn)
    → IsSpelled t symbols long → w < count_of t → insn_at t w ≡ insn
    → AreUnits (insn_units t symbols long (offsets_of t long) w insn)
insn-spelled t symbols long w None is lt here = tt
insn-spelled t symbols long w (Some insn) is lt here =
    let good = ready t w insn is.range is.legal lt here in
    elim (cases_Bool (is_wide long w insn)) [
      | inl wide ↦
          let branch = (and_parts (is_long long w) (is_branch insn) wide).1 in
          rw wide (over-fits insn good branch, (long-off t symbols long w insn is, tt))
      | inr narrow ↦
          rw narrow (
            unit-fits insn (ordinal_of t w)
                (displacement_from t symbols (offsets_of t long) w (slice_index (offsets_of t long) w) (off_of insn)
                (off_of insn))
                good (few-jumps t symbols long w is lt) (short-off t symbols long w insn is lt here good.range narrow),
            tt,
          )
    ]

pub all-spelled : (t : Words) (symbols : List Symbol) (long : List Bool) → IsSpelled t symbols long
    → AllSpell t symbols long (offsets_of t long)
unfolding units_at
all-spelled t symbols long is = λ w lt. elim (cases_Bool (is_inner t w)) [
  | inl inner ↦ rw inner tt
  | inr outer ↦ elim (cases_Bool (is_pair t w)) [
    | inl pair ↦ rw (outer, pair) ((omega arith, refl), tt)
    | inr single ↦ rw (outer, single) (insn-spelled t symbols long w (insn_at t w) is lt refl)
  ]
]
