-- What retiring a module meets, which is one thing.
use Rattle.std.proofs.Common.{◌≡◌, ◌≢◌, ℕ, ◌<◌, ◌≤◌, Bool, true, List, AllPairs, Some, sym, ap, subst, ◌∙◌, ⊎_elim, arith}
use Rattle.std.specs.Prelude.{◌↔◌, IsTrue}
use Rattle.std.specs.List.{slice_get}
use Rattle.std.proofs.lemmas.Bool.{cases_lt}
use Rattle.std.proofs.lemmas.Option.{get_or_from_slice_get, slice_get_within}
use Rattle.cfi_aux.specs.declared.modules.Module.{Module}
use Rattle.cfi_graph.specs.Live.{IsFirstUser, IsUser}
use Rattle.cfi_ledger.proofs.FlagLemmas.{has_no_user, has_user}
use Rattle.cfi_ledger.specs.Loads.{IsFlagged, IsListed}
use Rattle.cfi_ledger.specs.Roster.{members_in_roster}
use Rattle.cfi_plan.specs.declared.plan.Plan.{Plan}
use Rattle.cfi_valid.specs.Loaded.{LoadedModule, Members, live_flags, placed_modules}
use Rattle.cfi_valid.specs.Retiring.{HasNoUser, HasUser, StandsAt}
use Rattle.cfi_judge.specs.declared.leaving.Leaving.{Leaving}
use Rattle.cfi_judge.specs.declared.leaving.Leaving.TheVariants.{NotLive, Used, Unused}
use Rattle.cfi_judge.specs.declared.reached.Reached.{Reached}
use Rattle.cfi_judge.specs.inner.Leaving.{IsLeaving, IsLeavingAt}
use Rattle.cfi_judge.specs.inner.Reached.{IsReached}
use Rattle.cfi_judge.proofs.LiveLemmas.{force_by}

-- ---- one thing

module _ (policy : ℕ) (members : Members)
    (once : AllPairs (λ (a b : LoadedModule). a.number ≢ b.number) members.loaded) (number : ℕ) where
  place_below : (a b : ℕ) → StandsAt members.loaded number a → StandsAt members.loaded number b → a < b → ⊥
  place_below a b p q less =
      let one = get_or_from_slice_get members.loaded a p.0 p.0 p.1 in
      let other = get_or_from_slice_get members.loaded b q.0 p.0 q.1 in
      once a b p.0 less (slice_get_within members.loaded b q.0 q.1)
      (ap (λ (l : LoadedModule). l.number) one ∙ p.2 ∙ sym q.2 ∙ sym (ap (λ (l : LoadedModule). l.number) other))

  -- a number stands at one place
  place_once : (a b : ℕ) → StandsAt members.loaded number a → StandsAt members.loaded number b → a ≡ b
  place_once a b p q = ⊎_elim
      (λ (less : a < b). absurd (place_below a b p q less))
      (λ (least : b ≤ a). ⊎_elim
      (λ (less : b < a). absurd (place_below b a q p less))
      (λ (most : a ≤ b). omega (arith, least, most))
      (cases_lt b a))
      (cases_lt a b)

  -- and has one first user
  first_once : (place a b : ℕ) → IsFirstUser (placed_modules members.loaded) (live_flags policy members) place a
      → IsFirstUser (placed_modules members.loaded) (live_flags policy members) place b → a ≡ b
  first_once place a b p q = ⊎_elim
      (λ (less : a < b). absurd (q.first a less p.is))
      (λ (least : b ≤ a). ⊎_elim
      (λ (less : b < a). absurd (p.first b less q.is))
      (λ (most : a ≤ b). omega (arith, least, most))
      (cases_lt b a))
      (cases_lt a b)

  pub user_once : (u v : ℕ) → HasUser policy members number u → HasUser policy members number v → u ≡ v
  user_once u v p q =
      let place : q.place ≡ p.place = place_once q.place p.place q.stands p.stands in
      let by : p.by ≡ q.by =
      first_once p.place p.by q.by p.first
      (subst (λ (n : ℕ). IsFirstUser (placed_modules members.loaded) (live_flags policy members) n q.by) place
      q.first) in
      let both : Some p.user_stands.0 ≡ Some q.user_stands.0 =
      sym p.user_stands.1 ∙ ap (slice_get members.loaded) by ∙ q.user_stands.1 in
      let same : p.user_stands.0 ≡ q.user_stands.0 = cc in
      sym p.user_stands.2 ∙ ap (λ (l : LoadedModule). l.number) same ∙ q.user_stands.2

  pub never_both : (u : ℕ) → HasUser policy members number u → ¬ HasNoUser policy members number
  never_both u p q =
      let place : p.place ≡ q.place = place_once p.place q.place p.stands q.stands in
      q.none p.by
      (subst (λ (n : ℕ). IsUser (placed_modules members.loaded) (live_flags policy members) n p.by) place p.first.is)

-- ---- what it is

module _ (plan : Plan) (modules : List Module) (r : Reached) (is : IsReached plan modules r) (number : ℕ) where
  abbrev members : Members
  members = members_in_roster r.roster

  -- that of the live module at its place
  pub leaving_there : (at : ℕ) → IsListed r.roster number at → IsFlagged r.roster at true → (leaving : Leaving)
      → IsLeavingAt r.roster at leaving → IsLeaving r number leaving
  leaving_there at listed flagged NotLive it = absurd it
  leaving_there at listed flagged (Used user) it =
      subst (HasUser r.policy members number) it.2.2
      (has_user (force_by r) is.kept.stands.many is.kept.flags number at listed flagged it.0 it.1 it.2.0 it.2.1)
  leaving_there at listed flagged (Unused place) it = (
    has_no_user (force_by r) is.kept.stands.many is.kept.flags number at listed flagged it.1,
    subst (IsListed r.roster number) (sym it.0) listed,
    subst (λ (n : ℕ). IsFlagged r.roster n true) (sym it.0) flagged,
  )

  pub used_told : (by user : ℕ) → IsLeaving r number (Used by) → (answer : Bool) → (IsTrue answer ↔ (by ≡ user))
      → IsTrue answer ↔ HasUser r.policy members number user
  used_told by user it answer exact = (
    λ yes. subst (HasUser r.policy members number) (exact.0 yes) it,
    λ has. exact.1 (user_once r.policy members is.policies.once number by user it has),
  )

  pub never_used : (place user : ℕ) → IsLeaving r number (Unused place) → ¬ HasUser r.policy members number user
  never_used place user it has = never_both r.policy members is.policies.once number user has it.0

  pub never_unused : (user : ℕ) → IsLeaving r number (Used user) → ¬ HasNoUser r.policy members number
  never_unused user it = never_both r.policy members is.policies.once number user it
