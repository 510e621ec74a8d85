-- Each check of an instrumented module at its place has a record that fits, and each record a check.
use Rattle.std.proofs.Common.{◌≡◌, ℕ, ◌<◌, ◌≤◌, not, Bool, true, false, eqb, List, map, length, Option, Some, None, refl, ap, sym, subst, ◌∙◌, arith}
use Rattle.std.specs.List.{slice_get}
use Rattle.std.specs.Option.{option_map}
use Rattle.std.proofs.lemmas.Bool.{not-false, false≢true, ltb-false, ne_eqb, eq-eqb}
use Rattle.std.proofs.lemmas.List.{length-map}
use Rattle.std.proofs.lemmas.Option.{slice_get-map, slice_get_within, get_or_from_slice_get}
use Rattle.cfi_type_table.specs.Node.{Node}
use Rattle.cfi_aux.specs.declared.modules.Module.{Module}
use Rattle.cfi_aux.specs.declared.placed.Placed.{Placed}
use Rattle.cfi_aux.specs.declared.records.Kind.{Kind}
use Rattle.cfi_aux.specs.declared.records.Kind.TheVariants.{Call, Tail, Return, Switch, Import}
use Rattle.cfi_instr.specs.Words.{Words, insn_at, read_words, count_of}
use Rattle.cfi_instr.specs.Insns.{is_linked}
use Rattle.cfi_values.specs.Some.{holds}
use Rattle.cfi_instr.specs.Items.{is_indirect}
use Rattle.cfi_instr.specs.Jumps.{ordinal_of}
use Rattle.cfi_instr.specs.inner.Jumps.{is_call, same, has_fitting_kind, lacks_kind_by}
use Rattle.cfi_instr.proofs.JumpLemmas.{has_rest}
use Rattle.cfi_instr.specs.Sizes.{offsets_of}
use Rattle.cfi_instr.specs.Moves.{moved_kind}
use Rattle.cfi_verify.specs.Branches.{IsKindOf, IsRecordOf, KindFits}
use Rattle.elf_read.specs.Lists.{Each}
use Rattle.cfi_unit.specs.Spots.{spots_of}
use Rattle.cfi_verify.specs.Spots.{checks_of}
use Rattle.cfi_verify.specs.declared.checks.CheckSpot.{CheckSpot}
use Rattle.cfi_unit.specs.declared.spot.Spot.{Spot}
use Rattle.cfi_instr_law.specs.Proper.{NamesCallable}
use Rattle.cfi_instr_law.proofs.SeenLemmas.{bare, of-map, same-checks}
use Rattle.cfi_instr_law.proofs.ItemLemmas.{spots_to}
use Rattle.cfi_instr_law.proofs.CheckLemmas.{IsCheckOf, check-of, count-checks}
use Rattle.cfi_instr_law.proofs.FromLemmas.{IsFrom}

-- a record with a call exactly where the jump links, whose node is one of functions, fits
kind-of : (types : List Node) (link : Bool) (kind : Kind) → same (is_call kind) link ≡ true
    → NamesCallable types kind → IsKindOf types link kind
kind-of types true (Call node) h func = func
kind-of types false (Call node) h func = absurd (false≢true h)
kind-of types true (Tail node) h func = absurd (false≢true h)
kind-of types false (Tail node) h func = func
kind-of types true Return h func = absurd (false≢true h)
kind-of types false Return h func = tt
kind-of types true (Switch entries) h func = absurd (false≢true h)
kind-of types false (Switch entries) h func = tt
kind-of types true (Import name cell) h func = absurd (false≢true h)
kind-of types false (Import name cell) h func = tt

-- moving a record leaves it a call or not
call-moved : (t : Words) (offsets : List ℕ) (kind : Kind) → is_call (moved_kind t offsets kind) ≡ is_call kind
call-moved t offsets (Call node) = refl
call-moved t offsets (Tail node) = refl
call-moved t offsets Return = refl
call-moved t offsets (Switch entries) = refl
call-moved t offsets (Import name cell) = refl

some-kind : (linked : Bool) (found : Option Kind) → has_fitting_kind linked found ≡ true
    → (kind : Kind) × (found ≡ Some kind) × (same (is_call kind) linked ≡ true)
some-kind linked None h = absurd (false≢true h)
some-kind linked (Some kind) h = (kind, refl, h)

module _ (source : Module) (placed : Placed) (s : IsFrom source placed) where
  abbrev t : Words
  t = read_words source.object

  abbrev offsets : List ℕ
  offsets = offsets_of t s.long

  abbrev pub checks : List CheckSpot
  checks = checks_of (spots_of 0 s.laid.code)

  abbrev base : List Spot
  base = spots_to t source.object.symbols s.long offsets (count_of t)

  looks-same : map bare checks ≡ map bare (checks_of base)
  looks-same = same-checks s.touched (spots_of 0 s.laid.code) base s.laid.looks

  -- a check is that of an indirect jump
  pub jump-of : (k : ℕ) (check : CheckSpot) → slice_get checks k ≡ Some check
      → IsCheckOf t source.object.symbols s.long offsets (count_of t) k (bare check)
  jump-of k check is =
      let there : option_map bare (slice_get (checks_of base) k) ≡ Some (bare check) =
      sym (slice_get-map bare (checks_of base) k)
      ∙ ap (λ (cs : List CheckSpot). slice_get cs k) (sym looks-same)
      ∙ slice_get-map bare checks k
      ∙ ap (option_map bare) is in
      let o = of-map bare (slice_get (checks_of base) k) (bare check) there in
      let j = check-of t source.object.symbols s.long offsets (count_of t) (omega arith) k o.0 o.1 in
      let is_check : IsCheckOf t source.object.symbols s.long offsets (count_of t) k (bare o.0) = record {
        word = j.word;
        inside = j.inside;
        indirect = j.indirect;
        number = j.number;
        at = j.at;
        link = j.link;
      } in
      subst (IsCheckOf t source.object.symbols s.long offsets (count_of t) k) o.2 is_check

  -- an indirect jump has a record that fits
  has-kind : (w : ℕ) → w < count_of t → is_indirect t w ≡ true
      → has_fitting_kind (holds is_linked (insn_at t w)) (slice_get source.records.branches (ordinal_of t w)) ≡ true
  has-kind w inside here =
      let all = s.sound.linked.kinds w (omega (arith, inside)) in
      let other : eqb w (count_of t) ≡ false = ne_eqb w (count_of t) (λ e. omega (arith, e, inside)) in
      let lacks : lacks_kind_by t source.records.branches w (ordinal_of t w) ≡ false = rw other at all in
      let fits : not (has_fitting_kind (holds is_linked (insn_at t w))
      (slice_get source.records.branches (ordinal_of t w))) ≡ false = rw here at lacks in
      not-false _ fits

  -- its record, moved
  pub kind-at : (k : ℕ) (check : CheckSpot) → (at : slice_get checks k ≡ Some check)
      → (kind : Kind) × (slice_get source.records.branches k ≡ Some kind)
      × (slice_get placed.branches k ≡ Some (moved_kind t offsets kind)) × (same (is_call kind) check.link ≡ true)
  kind-at k check at =
      let j = jump-of k check at in
      let found = some-kind (holds is_linked (insn_at t j.word))
      (slice_get source.records.branches (ordinal_of t j.word)) (has-kind j.word j.inside j.indirect) in
      let is : slice_get source.records.branches k ≡ Some found.0 =
      ap (slice_get source.records.branches) j.number ∙ found.1 in (
        found.0,
        is,
        ap (λ (ks : List Kind). slice_get ks k) s.branches
            ∙ slice_get-map (moved_kind t offsets) source.records.branches k
            ∙ ap (option_map (moved_kind t offsets)) is,
        ap (same (is_call found.0)) j.link ∙ found.2,
      )

  pub kinds : Each checks (KindFits placed)
  kinds k check at =
      let found = kind-at k check at in
      let moved = moved_kind t offsets found.0 in
      let func : NamesCallable placed.types moved =
      subst (NamesCallable placed.types) (get_or_from_slice_get placed.branches k moved moved found.2)
      (s.branch_types k moved (slice_get_within placed.branches k moved found.2)) in
      let call : same (is_call moved) check.link ≡ true =
      ap (λ (b : Bool). same b check.link) (call-moved t offsets found.0) ∙ found.3 in
      subst (IsRecordOf placed.types check.link) (sym found.2) (kind-of placed.types check.link moved call func)

  -- no record is left over
  pub records : length placed.branches ≤ length checks
  records =
      let n : ℕ = count_of t in
      let all = s.sound.linked.kinds n (omega arith) in
      let last : eqb n n ≡ true = eq-eqb n n refl in
      let rest : has_rest source.records.branches (ordinal_of t n) ≡ false = rw last at all in
      omega (
        arith,
        ltb-false (ordinal_of t n) (length source.records.branches) rest,
        ap (λ (ks : List Kind). length ks) s.branches,
        length-map source.records.branches (moved_kind t offsets),
        count-checks t source.object.symbols s.long offsets n (omega arith),
        ap (λ (cs : List CheckSpot). length cs) looks-same,
        length-map checks bare,
        length-map (checks_of base) bare,
      )
