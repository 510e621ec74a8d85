-- The Tary word that a guest keeps after an event of its own: the one that it kept, or one of the policy in force or of
-- a later one.
use Rattle.std.proofs.Common.{◌≡◌, ℕ, ◌≤◌, ◌/◌, cond, Bool, true, false, Option, Some, None, refl, sym, ◌∙◌, ap, subst, ◌⊎◌, inl, inr}
use Rattle.std.proofs.lemmas.Option.{none-some, same_Some}
use Rattle.rv_insn.specs.InsnOf.{insn_of}
use Rattle.cfi_word.specs.Table.{Code, Tary, Bary}
use Rattle.cfi_word.specs.Word.{policy_in}
use Rattle.cfi_model.specs.declared.act.Wait.{Wait}
use Rattle.cfi_model.specs.declared.act.Wait.TheVariants as waits
use Rattle.cfi_model.specs.declared.quiet.Point.{Point}
use Rattle.cfi_model.specs.declared.quiet.Point.TheVariants.{Outside, Asking, Leaving, Found}
use Rattle.cfi_model.specs.InForce.{tary_index}
use Rattle.cfi_model.specs.Raw.{Raw}
use Rattle.cfi_model.specs.Run.{finish_as, serve_as, serve_of}
use Rattle.cfi_model.specs.Service.{Reply, too_many}
use Rattle.cfi_model.specs.Tables.{IsTables}
use Rattle.cfi_model.specs.Words.{Tables, policy_in_force, word_at}
use Rattle.cfi_model.proofs.BeginLemmas.{begin_keeps_tary}
use Rattle.cfi_model.proofs.InForceLemmas.{tary_policy, index_within}
use Rattle.cfi_world.specs.Seats.{Seat, loads, needs_answer, serves, seat_by, seat_at, seat_after}
use Rattle.cfi_world.proofs.RestLemmas.{same_tary}

-- ---- every event of the guest

module _ (t : Tables) (is : IsTables t) (fuel : ℕ) (s : Seat) where
  abbrev r : Raw
  r = s.guest

  -- it was kept, or its policy is not below the one in force
  abbrev pub WasKept : (word : ℕ) → Type 0
  WasKept word = (r.tary ≡ Some word) ⊎ (policy_in_force t ≤ policy_in word)

  served_none : (number word : ℕ) (reply : Reply) → r.waits ≡ Some (waits.Service number)
      → (serve_of r reply).tary ≡ Some word → ⊥
  served_none number word reply waiting kept =
      none-some word (sym (ap (λ (w : Option Wait). (serve_as w r reply).tary) waiting) ∙ kept)

  serves_kept : (number : ℕ) → r.waits ≡ Some (waits.Service number) → (word : ℕ)
      → (serves number s).guest.tary ≡ Some word → WasKept word
  serves_kept number waiting word kept = by_need (needs_answer number r) kept
    where
      by_need : (need : Bool) → (cond need r (serve_of r too_many)).tary ≡ Some word → WasKept word
      by_need true kept = inl kept
      by_need false kept = absurd (served_none number word too_many waiting kept)

  kept_by : (wait : Option Wait) → r.waits ≡ wait → (word : ℕ)
      → (seat_by wait t fuel s).guest.tary ≡ Some word → WasKept word
  kept_by None waiting word kept =
      inl (begin_keeps_tary r (insn_of (word_at t (Code (r.base.pc / 4)))) word
      (sym (same_tary fuel (loads None t r)) ∙ kept))
  kept_by (Some (waits.Tary at rd)) waiting word kept =
      let index = tary_index t.code_words at in
      let found : word_at t (Tary index) ≡ word =
      same_Some (word_at t (Tary index)) word
      (sym (ap (λ (w : Option Wait). (finish_as w r (word_at t (Tary index))).tary) waiting)
      ∙ sym (same_tary fuel (loads (Some (waits.Tary at rd)) t r)) ∙ kept) in
      inr (subst (λ (n : ℕ). policy_in_force t ≤ policy_in n) found (tary_policy t is index (index_within t is at)))
  kept_by (Some (waits.Bary slot rd)) waiting word kept =
      inl (sym (ap (λ (w : Option Wait). (finish_as w r (word_at t (Bary slot))).tary) waiting)
      ∙ sym (same_tary fuel (loads (Some (waits.Bary slot rd)) t r)) ∙ kept)
  kept_by (Some (waits.Service number)) waiting word kept = serves_kept number waiting word kept

  kept_at : (point : Point) (word : ℕ) → (seat_at point t fuel s).guest.tary ≡ Some word → WasKept word
  kept_at Outside word kept = kept_by r.waits refl word kept
  kept_at Asking word kept = inl kept
  kept_at Leaving word kept = inl kept
  kept_at (Found epoch) word kept = inl (sym (same_tary fuel r) ∙ kept)

  pub kept_after : (word : ℕ) → (seat_after t fuel s).guest.tary ≡ Some word → WasKept word
  kept_after word kept = kept_at s.point word kept
