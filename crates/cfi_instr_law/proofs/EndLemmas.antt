-- The functions of an instrumented module at its place end in jumps or checks that do not link.
use Rattle.std.proofs.Common.{◌≡◌, ℕ, ◌+◌, ◌-◌, ◌/◌, ◌<◌, ◌≤◌, not, Bool, true, false, eqb, List, [], ◌∷◌, length, Option, Some, None, refl, ap, sym, subst, ◌∙◌, inl, inr, ⊎_elim, arith}
use Rattle.std.specs.List.{Contains, slice_get}
use Rattle.std.proofs.lemmas.Bool.{cases_Bool, cases_lt, false≢true, both_ways, not-false, eqb-true}
use Rattle.std.proofs.lemmas.Option.{slice_get_within}
use Rattle.elf_read.specs.declared.object.Symbol.{Symbol}
use Rattle.rv_insn.specs.declared.insn.Insn.{Insn}
use Rattle.rv_insn.specs.declared.insn.Insn.TheVariants as insns
use Rattle.cfi_unit.specs.declared.unit.Unit.{Unit as CodeUnit}
use Rattle.cfi_aux.specs.declared.modules.Module.{Module}
use Rattle.cfi_aux.specs.declared.placed.Placed.{Placed}
use Rattle.cfi_aux.specs.declared.placed.PlacedFunction.{PlacedFunction}
use Rattle.cfi_aux.specs.declared.records.Function.{Function}
use Rattle.cfi_instr.specs.Words.{Words, insn_at, read_words, count_of}
use Rattle.cfi_instr.specs.Insns.{is_auipc, is_linked, is_unlinked}
use Rattle.cfi_values.specs.Some.{holds}
use Rattle.cfi_instr.specs.Items.{is_inner, is_pair, item_of}
use Rattle.cfi_aux.specs.Extent.{byte_end, end_of}
use Rattle.cfi_instr.specs.Functions.{byte_end_before}
use Rattle.cfi_instr.specs.inner.Functions.{runs_off_at}
use Rattle.cfi_instr.proofs.WordTests.{holds-within}
use Rattle.cfi_instr.proofs.RelocTests.{item-below}
use Rattle.cfi_instr.specs.Sizes.{is_long, words_before, offsets_of}
use Rattle.cfi_instr.specs.Units.{insn_units, units_at}
use Rattle.elf_read.specs.Lists.{Each}
use Rattle.cfi_unit.specs.Spots.{spots_of}
use Rattle.cfi_verify.specs.Functions as verify
use Rattle.cfi_verify.specs.Functions.{may_be_last}
use Rattle.cfi_unit.specs.declared.spot.Spot.{Spot}
use Rattle.cfi_instr_law.proofs.SeenLemmas.{seen, like, last-seen}
use Rattle.cfi_instr_law.proofs.CodeLemmas.{one-spot}
use Rattle.cfi_instr_law.proofs.ItemLemmas.{item, item_spots, spots_to, in-item, of-item, item-range, apart, inner-parts, item-outer, pair-outer, single-from}
use Rattle.cfi_instr_law.proofs.BoundLemmas.{IsFormed}
use Rattle.cfi_instr_law.proofs.FromLemmas.{IsFrom}
use Rattle.cfi_instr_law.proofs.IdleLemmas.{outer-of}
use Rattle.cfi_instr_law.proofs.FunctionLemmas.{place, spots, grows, made, made-of, formed, made-first, made-end, some-at}

-- one register is not another
other-register : (rd : ℕ) → eqb rd 0 ≡ true → not (eqb rd 1) ≡ true
other-register rd h = ap (λ (n : ℕ). not (eqb n 1)) (eqb-true rd 0 h)

unlinked-only : (insn : Option Insn) → holds is_unlinked insn ≡ true → holds is_linked insn ≡ false
unlinked-only None h = refl
unlinked-only (Some (insns.Jal rd off)) h = ap (λ (n : ℕ). eqb n 1) (eqb-true rd 0 h)
unlinked-only (Some (insns.Jalr rd rs1 imm)) h = ap (λ (n : ℕ). eqb n 1) (eqb-true rd 0 h)
unlinked-only (Some insn) h = absurd (false≢true h)

unlinked-no-auipc : (i : Insn) → is_unlinked i ≡ true → is_auipc i ≡ false
unlinked-no-auipc (insns.Auipc rd imm) h = absurd (false≢true h)
unlinked-no-auipc i h = refl

-- the one unit of an item, which may be the last of a function
pub record IsLastItem (units : List CodeUnit) : Type 0 where
  pub unit : CodeUnit
  pub only : units ≡ unit ∷ []
  pub may : may_be_last unit ≡ true

module _ (t : Words) (symbols : List Symbol) (long : List Bool) (offsets : List ℕ) where
  jump-last : (w : ℕ) (insn : Option Insn) → holds is_unlinked insn ≡ true
      → IsLastItem (insn_units t symbols long offsets w insn)
  jump-last w None h = absurd (false≢true h)
  jump-last w (Some (insns.Jal rd off)) h = elim (cases_Bool (is_long long w)) [
    | inl e ↦ rw e (record { unit = _; only = refl; may = other-register rd h })
    | inr e ↦ rw e (record { unit = _; only = refl; may = other-register rd h })
  ]
  jump-last w (Some (insns.Jalr rd rs1 imm)) h = elim (cases_Bool (is_long long w)) [
    | inl e ↦ rw e (record { unit = _; only = refl; may = other-register rd h })
    | inr e ↦ rw e (record { unit = _; only = refl; may = other-register rd h })
  ]
  jump-last w (Some insn) h = absurd (false≢true h)

  single-last : (w : ℕ) → is_inner t w ≡ false → holds is_unlinked (insn_at t w) ≡ true
      → IsLastItem (item t symbols long offsets w)
  unfolding units_at
  single-last w outer h =
      let single = single-from t w (apart is_unlinked is_auipc (insn_at t w) unlinked-no-auipc h) in
      rw (outer, single) (jump-last w (insn_at t w) h)

  pair-last : (w : ℕ) → is_pair t w ≡ true → holds is_unlinked (insn_at t (w + 1)) ≡ true
      → IsLastItem (item t symbols long offsets w)
  unfolding units_at
  pair-last w pair h =
      let outer = pair-outer t w pair in
      rw (outer, pair) (record {
        unit = _;
        only = refl;
        may = ap (λ (b : Bool). not b) (unlinked-only (insn_at t (w + 1)) h);
      })

  -- the item that ends with a jump without link
  last-item : (w : ℕ) → holds is_unlinked (insn_at t w) ≡ true → IsLastItem (item t symbols long offsets (item_of t w))
  last-item w h = elim (cases_Bool (is_inner t w)) [
    | inl inner ↦
        let parts = inner-parts t w inner in
        let back : w - 1 + 1 ≡ w = omega (arith, parts.0) in
        rw inner (pair-last (w - 1) parts.1 (ap (λ (k : ℕ). holds is_unlinked (insn_at t k)) back ∙ h))
    | inr outer ↦ rw outer (single-last w outer h)
  ]

-- no item begins between the first word of one and its last
no-item-between : (t : Words) (v w : ℕ) → is_inner t v ≡ false → v ≤ w → v ≤ item_of t w
no-item-between t v w outer le = elim (cases_Bool (is_inner t w)) [
  | inl inner ↦
      rw inner
      (⊎_elim (λ (less : v < w). omega (arith, less))
      (λ (more : w ≤ v).
      let same : v ≡ w = omega (arith, le, more) in
      absurd (both_ways (is_inner t v) outer (ap (is_inner t) same ∙ inner)))
      (cases_lt v w))
  | inr free ↦ rw free le
]

module _ (source : Module) (placed : Placed) (s : IsFrom source placed) where
  abbrev t : Words
  t = read_words source.object

  abbrev functions : List Function
  functions = source.records.functions

  -- the last word of a function is that of a jump without link
  ends-jump : (k : ℕ) (f : Function) → slice_get functions k ≡ Some f → k < length functions
      → holds is_unlinked (insn_at t (byte_end f / 4 - 1)) ≡ true
  ends-jump k f is inside =
      not-false _ (ap (runs_off_at t) (sym is) ∙ s.sound.ends k inside)

  -- the last unit of a function
  module _ (k : ℕ) (f : Function) (is : slice_get functions k ≡ Some f) (inside : k < length functions) where
    abbrev last_word : ℕ
    last_word = byte_end f / 4 - 1

    abbrev last : ℕ
    last = item_of t last_word

    abbrev symbols : List Symbol
    symbols = source.object.symbols

    abbrev offsets : List ℕ
    offsets = offsets_of t s.long

    abbrev base : List Spot
    base = spots_to t symbols s.long offsets (count_of t)

    formed_f : IsFormed t (byte_end_before functions k) f
    formed_f = formed source placed s k f is

    last-is : IsLastItem (item t symbols s.long offsets last)
    last-is = last-item t symbols s.long offsets last_word (ends-jump k f is inside)

    word-inside : last_word < count_of t
    word-inside = holds-within t last_word is_unlinked (ends-jump k f is inside)

    starts : f.offset / 4 ≤ last
    starts =
        let i = formed_f in
        no-item-between t (f.offset / 4) last_word i.begins.outer
        (omega (arith, i.some, i.begins.whole, i.ends.whole))

    last_spot : Spot
    last_spot = record { at = words_before t s.long last; unit = last-is.unit }

    in-base : Contains base last_spot
    unfolding last_spot
    in-base =
        in-item t symbols s.long offsets (count_of t) last last_spot
        (omega (arith, item-below t last_word, word-inside))
        (subst (λ (us : List CodeUnit). Contains (spots_of (words_before t s.long last) us) last_spot) (sym last-is.only)
        (0, omega arith, refl))

    -- a unit of the base that stands before the function's end stands no later
    none-later : (o : Spot) → Contains base o → o.at < place source placed s (byte_end f / 4)
        → o.at ≤ words_before t s.long last
    none-later o has before =
        let at = of-item t symbols s.long offsets (count_of t) o has in
        let w : ℕ = at.0 in
        let range = item-range t symbols s.long offsets w o at.2 in
        ⊎_elim
        (λ (less : w < last). omega (arith, range.1, grows source placed s (w + 1) last (omega (arith, less))))
        (λ (more : last ≤ w).
        let i = formed_f in
        let low : w ≤ last_word =
        ⊎_elim (λ (less : w < byte_end f / 4). omega (arith, less))
        (λ (after : byte_end f / 4 ≤ w).
        absurd (omega (arith, range.0, before, grows source placed s (byte_end f / 4) w after)))
        (cases_lt w (byte_end f / 4)) in
        let back : w ≤ last = no-item-between t w last_word (outer-of t symbols s.long offsets w o at.2) low in
        let same : w ≡ last = omega (arith, more, back) in
        let here : Contains (item_spots t symbols s.long offsets last) o =
        subst (λ (n : ℕ). Contains (item_spots t symbols s.long offsets n) o) same at.2 in
        let only : Contains (spots_of (words_before t s.long last) (last-is.unit ∷ [])) o =
        subst (λ (us : List CodeUnit). Contains (spots_of (words_before t s.long last) us) o) last-is.only here in
        omega (arith, ap (λ (x : Spot). x.at) (one-spot (words_before t s.long last) last-is.unit o only)))
        (cases_lt w last)

    -- the function's last unit
    ends-at : (g : PlacedFunction) → g ≡ made source placed s f → verify.EndsWell (spots source placed s) k g
    unfolding last_spot
    ends-at g from =
        let i = formed_f in
        let final = spots source placed s in
        let x = like s.touched base final (sym s.laid.looks) last_spot in-base in
        let at : words_before t s.long last ≡ x.0.at = ap (λ (y : Spot). y.at) x.2 in
        let looks : seen (s.touched (words_before t s.long last)) last-is.unit ≡ seen (s.touched x.0.at) x.0.unit =
        ap (λ (y : Spot). y.unit) x.2 in
        let first : g.first ≡ place source placed s (f.offset / 4) =
        ap (λ (y : PlacedFunction). y.first) from ∙ made-first source placed s f (byte_end_before functions k) i in
        let end : end_of g ≡ place source placed s (byte_end f / 4) =
        ap end_of from ∙ made-end source placed s f (byte_end_before functions k) i in
        let below : last + 1 ≤ byte_end f / 4 =
        omega (arith, item-below t last_word, i.some, i.begins.whole, i.ends.whole) in
        let words =
        some-at source placed s last (omega (arith, item-below t last_word, word-inside)) (item-outer t last_word) in (
          x.0,
          record {
            has = x.1;
            lies = (
              omega (arith, first, at, grows source placed s (f.offset / 4) last starts),
              omega (arith, end, at, words, grows source placed s (last + 1) (byte_end f / 4) below),
            );
            last = λ other has lies.
                let o = like s.touched final base s.laid.looks other has in
                let same : other.at ≡ o.0.at = ap (λ (y : Spot). y.at) o.2 in
                omega (arith, none-later o.0 o.1 (omega (arith, lies.1, same, end)), same, at);
          },
          sym (last-seen (s.touched x.0.at) x.0.unit)
              ∙ ap may_be_last (sym looks)
              ∙ last-seen (s.touched (words_before t s.long last)) last-is.unit
              ∙ last-is.may,
        )

  pub ends : Each placed.functions (verify.EndsWell (spots source placed s))
  ends k g at =
      let from = made-of source placed s k g at in
      ends-at k from.0 from.1 (slice_get_within functions k from.0 from.1) g from.2
