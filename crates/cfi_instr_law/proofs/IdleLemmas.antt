-- What stands between the functions of an instrumented module at its place is `addi x0,x0,0`.
use Rattle.std.proofs.Common.{◌≡◌, ℕ, ◌+◌, ◌*◌, ◌/◌, ◌<◌, ◌≤◌, not, pos, Bool, true, false, cond, List, [], ◌∷◌, length, get_or, Option, Some, None, refl, ap, sym, subst, ◌∙◌, inl, inr, ⊎_elim, arith}
use Rattle.std.specs.List.{Contains}
use Rattle.std.proofs.lemmas.Bool.{cases_Bool, cases_lt, false≢true, both_ways, and_parts, and_cases, and_from, not-false, not_from_false, lt-ltb, ltb-true, leb-true}
use Rattle.std.proofs.lemmas.List.Folds.{Any-from_list_any}
use Rattle.elf_read.specs.declared.object.Symbol.{Symbol}
use Rattle.rv_insn.specs.declared.insn.Insn.{Insn}
use Rattle.rv_insn.specs.declared.insn.Insn.TheVariants as insns
use Rattle.rv_insn.specs.declared.insn.ImmOp.TheVariants as ops
use Rattle.cfi_unit.specs.declared.unit.Unit.{Unit as CodeUnit}
use Rattle.cfi_unit.specs.declared.unit.Unit.TheVariants as units
use Rattle.cfi_aux.specs.declared.modules.Module.{Module}
use Rattle.cfi_aux.specs.declared.placed.Placed.{Placed}
use Rattle.cfi_aux.specs.declared.records.Function.{Function}
use Rattle.cfi_instr.specs.Words.{Words, insn_at, read_words, count_of}
use Rattle.cfi_instr.specs.Insns.{is_auipc}
use Rattle.cfi_values.specs.Some.{holds}
use Rattle.cfi_instr.specs.inner.Insns.{is_nop}
use Rattle.cfi_instr.specs.Items.{is_inner, is_item}
use Rattle.cfi_aux.specs.Extent.{byte_end}
use Rattle.cfi_instr.specs.inner.Functions.{covers, is_covered, is_code, has_code}
use Rattle.cfi_instr.specs.Functions.{byte_end_before}
use Rattle.cfi_instr.proofs.WordTests.{nop-is}
use Rattle.cfi_instr.specs.Sizes.{is_long, size_at, words_before, offsets_of}
use Rattle.cfi_instr.specs.Units.{insn_units, units_at}
use Rattle.cfi_instr.proofs.SizeLemmas.{total-grows}
use Rattle.cfi_unit.specs.declared.spot.Spot.{Spot}
use Rattle.cfi_unit.specs.Spots.{spots_of}
use Rattle.cfi_verify.specs.Functions.{IsIdle}
use Rattle.cfi_instr_law.proofs.SeenLemmas.{seen, like}
use Rattle.cfi_instr_law.proofs.CodeLemmas.{one-spot}
use Rattle.cfi_instr_law.proofs.ItemLemmas.{item, item_spots, spots_to, of-item, item-range, apart, single-from}
use Rattle.cfi_instr_law.proofs.BoundLemmas.{IsBound, no_function, before-bound, ends-before, starts-after, no-code}
use Rattle.cfi_instr_law.proofs.FromLemmas.{IsFrom}

-- `addi x0,x0,0`
abbrev nop : CodeUnit
nop = units.Plain (insns.OpImm ops.Addi 0 0 (pos 0))

nop-no-auipc : (i : Insn) → is_nop i ≡ true → is_auipc i ≡ false
nop-no-auipc (insns.Auipc rd imm) h = absurd (false≢true h)
nop-no-auipc i h = refl

-- a unit that looks like it where nothing is touched is it
seen-nop : (unit : CodeUnit) → seen false unit ≡ nop → unit ≡ nop
seen-nop (units.Plain insn) same = same
seen-nop (units.Load kind rd rs1 imm) same = absurd (cc)
seen-nop (units.Store kind rs1 rs2 imm) same = absurd (cc)
seen-nop (units.Branch cond rs1 rs2 off) same = absurd (cc)
seen-nop (units.Jump link off) same = absurd (cc)
seen-nop (units.Check link rs1 imm slot) same = absurd (cc)
seen-nop units.Service same = absurd (cc)

-- an item that is no code is padding
nop-or-code : (t : Words) (w : ℕ) → is_item t w ≡ true → is_code t w ≡ false → holds is_nop (insn_at t w) ≡ true
nop-or-code t w item_is none =
    ⊎_elim
    (λ (no_item : is_item t w ≡ false). absurd (both_ways (is_item t w) no_item item_is))
    (λ (pad : not (holds is_nop (insn_at t w)) ≡ false). not-false (holds is_nop (insn_at t w)) pad)
    (and_cases (is_item t w) (not (holds is_nop (insn_at t w))) none)

-- ---- the item that such an instruction is

module _ (t : Words) (symbols : List Symbol) (long : List Bool) (offsets : List ℕ) where
  nop-units : (w : ℕ) → insn_units t symbols long offsets w (Some (insns.OpImm ops.Addi 0 0 (pos 0))) ≡ nop ∷ []
  nop-units w = elim (cases_Bool (is_long long w)) [
    | inl e ↦ rw e refl
    | inr e ↦ rw e refl
  ]

  holds-nop : (w : ℕ) (insn : Option Insn) → holds is_nop insn ≡ true
      → insn_units t symbols long offsets w insn ≡ nop ∷ []
  holds-nop w None h = absurd (false≢true h)
  holds-nop w (Some insn) h =
      ap (λ (i : Insn). insn_units t symbols long offsets w (Some i)) (nop-is insn h) ∙ nop-units w

  nop-item : (w : ℕ) → is_inner t w ≡ false → holds is_nop (insn_at t w) ≡ true
      → item t symbols long offsets w ≡ nop ∷ []
  unfolding units_at
  nop-item w outer h =
      let single = single-from t w (apart is_nop is_auipc (insn_at t w) nop-no-auipc h) in
      rw (outer, single) (holds-nop w (insn_at t w) h)

  -- an item with units is no second word of a pair
  pub outer-of : (w : ℕ) (s : Spot) → Contains (item_spots t symbols long offsets w) s → is_inner t w ≡ false
  unfolding units_at
  outer-of w s has = elim (cases_Bool (is_inner t w)) [
    | inl inner ↦
        let none : item t symbols long offsets w ≡ [] = rw inner refl in
        absurd (omega (
          arith,
          has.1,
          ap (λ (us : List CodeUnit). length (spots_of (words_before t long w) us)) none,
        ))
    | inr outer ↦ outer
  ]

  -- words that are no code, where no relocation sits
  idle-base : (touched : ℕ → Bool) (u v : ℕ) → v ≤ count_of t
      → ((w : ℕ) → u ≤ w → w < v → is_code t w ≡ false)
      → ((w : ℕ) → u ≤ w → w < v → is_inner t w ≡ false → touched (words_before t long w) ≡ false)
      → (o : Spot) → Contains (spots_to t symbols long offsets (count_of t)) o → words_before t long u ≤ o.at
      → o.at < words_before t long v → (touched o.at ≡ false) × (o.unit ≡ nop)
  idle-base touched u v within none free o has low high =
      let at = of-item t symbols long offsets (count_of t) o has in
      let w : ℕ = at.0 in
      let range = item-range t symbols long offsets w o at.2 in
      let after : u ≤ w =
      ⊎_elim
      (λ (less : w < u). absurd (omega (arith, total-grows (size_at t long) (w + 1) u (omega (arith, less)), range.1, low)))
      (λ (more : u ≤ w). more) (cases_lt w u) in
      let before : w < v =
      ⊎_elim (λ (less : w < v). less)
      (λ (more : v ≤ w). absurd (omega (arith, total-grows (size_at t long) v w more, range.0, high)))
      (cases_lt w v) in
      let outer = outer-of w o at.2 in
      let item_is : is_item t w ≡ true = and_from _ _ (lt-ltb w (count_of t) at.1) (not_from_false (is_inner t w) outer) in
      let pad = nop-or-code t w item_is (none w after before) in
      let only : Contains (spots_of (words_before t long w) (nop ∷ [])) o =
      subst (λ (us : List CodeUnit). Contains (spots_of (words_before t long w) us) o) (nop-item w outer pad) at.2 in
      let same = one-spot (words_before t long w) nop o only in (
        ap touched (ap (λ (s : Spot). s.at) same) ∙ free w after before outer,
        ap (λ (s : Spot). s.unit) same,
      )

module _ (source : Module) (placed : Placed) (s : IsFrom source placed) where
  abbrev t : Words
  t = read_words source.object

  abbrev functions : List Function
  functions = source.records.functions

  -- no function has a word between the one before number k and a place at which that one, if any, begins
  uncovered : (k w to : ℕ) → k ≤ length functions → byte_end_before functions k ≤ 4 * w → 4 * w < to
      → ((d : Function) → k < length functions → to ≤ (get_or functions k d).offset)
      → is_covered functions (4 * w) ≡ false
  uncovered k w to within low high next = elim (cases_Bool (is_covered functions (4 * w))) [
    | inl covered ↦
        let some = Any-from_list_any (covers (4 * w)) functions covered in
        let j : ℕ = some.0 in
        let f : Function = some.1 in
        let parts = and_parts _ _ some.4 in
        let begins = leb-true f.offset (4 * w) parts.0 in
        let ends = ltb-true (4 * w) (byte_end f) parts.1 in
        let is : get_or functions j f ≡ f = some.3 in
        let formed = s.sound.linked.shaped.functions in
        ⊎_elim
        (λ (less : j < k).
        let before = ends-before t functions formed j k f less within in
        absurd (omega (arith, before, ap byte_end is, ends, low)))
        (λ (more : k ≤ j).
        let after = starts-after t functions formed k j f more some.2 in
        let inside : k < length functions = omega (arith, more, some.2) in
        absurd (omega (arith, after, ap (λ (g : Function). g.offset) is, begins, next f inside, high)))
        (cases_lt j k)
    | inr bare ↦ bare
  ]

  -- the units between the end of the function before number k and a place before which it does not begin
  pub idle-from : (k to : ℕ) → k ≤ length functions → IsBound t to → has_code t (byte_end_before functions k) to ≡ false
      → ((d : Function) → k < length functions → to ≤ (get_or functions k d).offset)
      → IsIdle (spots_of 0 s.laid.code) (words_before t s.long (byte_end_before functions k / 4)) (words_before t s.long (to / 4))
  idle-from k to within b none next spot has low high =
      let from : ℕ = byte_end_before functions k in
      let touched = s.touched in
      let formed = s.sound.linked.shaped.functions in
      let offsets = offsets_of t s.long in
      let symbols = source.object.symbols in
      let base = spots_to t symbols s.long offsets (count_of t) in
      let whole : from ≡ 4 * (from / 4) = (before-bound t functions formed k no_function within).whole in
      let o = like touched (spots_of 0 s.laid.code) base s.laid.looks spot has in
      let at : spot.at ≡ o.0.at = ap (λ (x : Spot). x.at) o.2 in
      let free : (w : ℕ) → from / 4 ≤ w → w < to / 4 → is_inner t w ≡ false → touched (words_before t s.long w) ≡ false =
      λ w after before outer.
      s.free w (omega (arith, before, b.within)) outer
      (uncovered k w to within (omega (arith, after, whole)) (omega (arith, before, b.whole)) next) in
      let is = idle-base t symbols s.long offsets touched (from / 4) (to / 4) b.within
      (λ w after before. no-code t from to w none after before) free o.0 o.1 (omega (arith, low, at))
      (omega (arith, high, at)) in
      let quiet : touched spot.at ≡ false = ap touched at ∙ is.0 in
      seen-nop spot.unit
      (ap (λ (b : Bool). seen b spot.unit) (sym quiet) ∙ ap (λ (x : Spot). x.unit) o.2
      ∙ ap (λ (b : Bool). seen b o.0.unit) is.0 ∙ ap (seen false) is.1)
