-- What the tests of indirect jumps and their records decide.
use Rattle.std.proofs.Common.{◌≡◌, ℕ, ◌*◌, ◌<◌, ◌∙◌, ◌&&◌, not, Bool, true, false, eqb, ltb, List, length, get_or, All, Option, Some, None, refl, sym, subst, inl, inr, ⊎_elim, arith}
use Rattle.std.specs.List.{slice_get}
use Rattle.std.proofs.lemmas.Bool.{cases_Bool, both_ways, false≢true, and_cases, and_left, and_right, not-false, not_from_true, not_from_false, true_from_ne_false, ne_eqb, eq-eqb, ltb-false, false_from_ne_true, ltb-true}
use Rattle.std.proofs.lemmas.List.Folds.{list_any_at, list_any_none}
use Rattle.std.proofs.lemmas.Option.{slice_get_within}
use Rattle.rv_insn.specs.declared.insn.Insn.{Insn}
use Rattle.cfi_aux.specs.declared.records.Function.{Function}
use Rattle.cfi_aux.specs.declared.records.Kind.{Kind}
use Rattle.cfi_aux.specs.declared.records.Kind.TheVariants as kinds
use Rattle.cfi_instr.specs.Words.{Words, insn_at, count_of}
use Rattle.cfi_instr.specs.Insns.{is_linked}
use Rattle.cfi_values.specs.Some.{holds}
use Rattle.cfi_instr.specs.Items.{is_indirect}
use Rattle.cfi_instr.specs.Functions.{IsOwnItem}
use Rattle.cfi_instr.specs.Jumps.{ordinal_of, LinksAsIn, HasRecord, AreUsed, SwitchFits}
use Rattle.cfi_instr.specs.inner.Functions.{is_own_item}
use Rattle.cfi_instr.specs.inner.Jumps.{has_fitting_kind, lead_out, switches_astray_by}
use Rattle.cfi_instr.proofs.DecideLemmas.{Decides}
use Rattle.cfi_instr.proofs.WordTests.{at-word}
use Rattle.cfi_instr.proofs.FunctionTests.{own-holds, own-clear}
use Rattle.cfi_instr.proofs.JumpLemmas.{has_rest, lacks_kind, has_bad_switch}
use Rattle.cfi_aux.specs.Records.{AllEntriesIn}

-- ---- records

kind-holds : (linked : Bool) (kind : Option Kind) → has_fitting_kind linked kind ≡ true → LinksAsIn linked kind
kind-holds linked None h = absurd (false≢true h)
kind-holds true (Some (kinds.Call node)) h = tt
kind-holds true (Some (kinds.Tail node)) h = absurd (false≢true h)
kind-holds true (Some kinds.Return) h = absurd (false≢true h)
kind-holds true (Some (kinds.Switch entries)) h = absurd (false≢true h)
kind-holds true (Some (kinds.Import name cell)) h = absurd (false≢true h)
kind-holds false (Some (kinds.Call node)) h = absurd (false≢true h)
kind-holds false (Some (kinds.Tail node)) h = tt
kind-holds false (Some kinds.Return) h = tt
kind-holds false (Some (kinds.Switch entries)) h = tt
kind-holds false (Some (kinds.Import name cell)) h = tt

kind-clear : (linked : Bool) (kind : Option Kind) → LinksAsIn linked kind → has_fitting_kind linked kind ≡ true
kind-clear linked None good = absurd good
kind-clear true (Some (kinds.Call node)) good = refl
kind-clear true (Some (kinds.Tail node)) good = absurd good
kind-clear true (Some kinds.Return) good = absurd good
kind-clear true (Some (kinds.Switch entries)) good = absurd good
kind-clear true (Some (kinds.Import name cell)) good = absurd good
kind-clear false (Some (kinds.Call node)) good = absurd good
kind-clear false (Some (kinds.Tail node)) good = refl
kind-clear false (Some kinds.Return) good = refl
kind-clear false (Some (kinds.Switch entries)) good = refl
kind-clear false (Some (kinds.Import name cell)) good = refl

module _ (t : Words) (branches : List Kind) where
  abbrev fits_at : ℕ → Bool
  fits_at w = has_fitting_kind (holds is_linked (insn_at t w)) (slice_get branches (ordinal_of t w))

  -- at a word before the text's end
  inside-is : (w : ℕ) → w < count_of t → lacks_kind t branches w ≡ (is_indirect t w && not (fits_at w))
  inside-is w inside =
      let other : eqb w (count_of t) ≡ false = ne_eqb w (count_of t) (λ e. omega (arith, e, inside)) in rw other refl

  record-holds : (w : ℕ) → w < count_of t → lacks_kind t branches w ≡ false → HasRecord t branches w (insn_at t w)
  record-holds w inside h indirect =
      ⊎_elim (λ (direct : is_indirect t w ≡ false). absurd (both_ways (is_indirect t w) direct indirect))
      (λ (fits : not (fits_at w) ≡ false).
      kind-holds (holds is_linked (insn_at t w)) (slice_get branches (ordinal_of t w)) (not-false _ fits))
      (and_cases (is_indirect t w) (not (fits_at w)) (sym (inside-is w inside) ∙ h))

  record-clear : (w : ℕ) → w < count_of t → HasRecord t branches w (insn_at t w) → lacks_kind t branches w ≡ false
  record-clear w inside good = elim (cases_Bool (is_indirect t w)) [
    | inl indirect ↦
        inside-is w inside
        ∙ and_right (is_indirect t w) _
        (not_from_true _
        (kind-clear (holds is_linked (insn_at t w)) (slice_get branches (ordinal_of t w)) (good indirect)))
    | inr direct ↦ inside-is w inside ∙ and_left (is_indirect t w) _ direct
  ]

  pub records : Decides t.insns (lacks_kind t branches) (HasRecord t branches)
  records = record {
    holds = λ w x is h.
        subst (λ (y : Option Insn). HasRecord t branches w y) (at-word t w x is)
        (record-holds w (slice_get_within t.insns w x is) h);
    clear = λ w x is good.
        record-clear w (slice_get_within t.insns w x is)
        (subst (λ (y : Option Insn). HasRecord t branches w y) (sym (at-word t w x is)) good);
  }

  -- at the text's end
  end-is : lacks_kind t branches (count_of t) ≡ has_rest branches (ordinal_of t (count_of t))
  end-is =
      let last : eqb (count_of t) (count_of t) ≡ true = eq-eqb (count_of t) (count_of t) refl in rw last refl

  pub used-holds : lacks_kind t branches (count_of t) ≡ false → AreUsed t branches
  used-holds h = ltb-false (ordinal_of t (count_of t)) (length branches) (sym end-is ∙ h)

  pub used-clear : AreUsed t branches → lacks_kind t branches (count_of t) ≡ false
  used-clear good =
      let n : ℕ = ordinal_of t (count_of t) in
      end-is
      ∙ false_from_ne_true (ltb n (length branches))
      (λ more. let less : n < length branches = ltb-true n (length branches) more in omega (arith, less, good))

-- ---- switches

module _ (t : Words) (functions : List Function) (at : ℕ) where
  entries-hold : (entries : List ℕ) → lead_out t functions at entries ≡ false → All (IsOwnItem t functions at) entries
  entries-hold entries h k d inside =
      own-holds t functions at (get_or entries k d)
      (true_from_ne_false (is_own_item t functions at (get_or entries k d)) (λ stray.
      both_ways _ h
      (list_any_at (λ (entry : ℕ). not (is_own_item t functions at entry)) entries k d inside
      (not_from_false _ stray))))

  entries-clear : (entries : List ℕ) → All (IsOwnItem t functions at) entries → lead_out t functions at entries ≡ false
  entries-clear entries good =
      list_any_none (λ (entry : ℕ). not (is_own_item t functions at entry)) entries
      (λ k d inside. not_from_true _ (own-clear t functions at (get_or entries k d) (good k d inside)))

  switch-holds : (kind : Option Kind) → switches_astray_by t functions at kind ≡ false → AllEntriesIn (IsOwnItem t functions at) kind
  switch-holds None h = tt
  switch-holds (Some (kinds.Switch entries)) h = entries-hold entries h
  switch-holds (Some (kinds.Call node)) h = tt
  switch-holds (Some (kinds.Tail node)) h = tt
  switch-holds (Some kinds.Return) h = tt
  switch-holds (Some (kinds.Import name cell)) h = tt

  switch-clear : (kind : Option Kind) → AllEntriesIn (IsOwnItem t functions at) kind → switches_astray_by t functions at kind ≡ false
  switch-clear None good = refl
  switch-clear (Some (kinds.Switch entries)) good = entries-clear entries good
  switch-clear (Some (kinds.Call node)) good = refl
  switch-clear (Some (kinds.Tail node)) good = refl
  switch-clear (Some kinds.Return) good = refl
  switch-clear (Some (kinds.Import name cell)) good = refl

module _ (t : Words) (functions : List Function) (branches : List Kind) where
  fits-holds : (w : ℕ) (x : Option Insn) → has_bad_switch t functions branches w ≡ false
      → SwitchFits t functions branches w x
  fits-holds w x h indirect =
      ⊎_elim (λ (direct : is_indirect t w ≡ false). absurd (both_ways (is_indirect t w) direct indirect))
      (λ (fits : switches_astray_by t functions (4 * w) (slice_get branches (ordinal_of t w)) ≡ false).
      switch-holds t functions (4 * w) (slice_get branches (ordinal_of t w)) fits)
      (and_cases (is_indirect t w) (switches_astray_by t functions (4 * w) (slice_get branches (ordinal_of t w))) h)

  fits-clear : (w : ℕ) (x : Option Insn) → SwitchFits t functions branches w x
      → has_bad_switch t functions branches w ≡ false
  fits-clear w x good = elim (cases_Bool (is_indirect t w)) [
    | inl indirect ↦
        and_right (is_indirect t w) _
        (switch-clear t functions (4 * w) (slice_get branches (ordinal_of t w)) (good indirect))
    | inr direct ↦ and_left (is_indirect t w) _ direct
  ]

  pub switches : Decides t.insns (has_bad_switch t functions branches) (SwitchFits t functions branches)
  switches = record { holds = λ w x is h. fits-holds w x h; clear = λ w x is good. fits-clear w x good }
