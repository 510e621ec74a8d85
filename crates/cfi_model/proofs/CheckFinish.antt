-- What is said of a check that has ended.
use Rattle.std.proofs.Common.{◌≡◌, ◌≢◌, ℕ, ◌+◌, ◌%◌, ◌^◌, ◌<◌, ◌≤◌, ℤ, List, Some, ap, ◌∙◌, subst, arith, Bool, true}
use Rattle.std.proofs.lemmas.Bool.Decides.{nat_tests}
use Rattle.cfi_unit.specs.declared.unit.Unit.TheVariants as units
use Rattle.cfi_word.specs.Ids.{low_half}
use Rattle.cfi_word.specs.Word.{id_in, policy_in}
use Rattle.cfi_model.specs.Log.{last_policy}
use Rattle.cfi_model.specs.Effect.{checked, is_in_code}
use Rattle.cfi_model.specs.Shows.{IsBetween, End}
use Rattle.cfi_model.specs.State.{State}
use Rattle.cfi_model.specs.Raw.{Raw}
use Rattle.cfi_model.specs.History.{History, IsEpoch, slot_class, word_of, allows_at}
use Rattle.cfi_model.proofs.IdLemmas.{tary_parts, one_epoch}
use Rattle.cfi_model.proofs.FetchLemmas.{Here}
use Rattle.cfi_model.proofs.CheckPlaces.{HasTwo, CheckEnded, IsTried}

-- an address of the code is whole, and below its end
pub in_code_whole : (target : ℕ) → is_in_code target ≡ true → target % 4 ≡ 0
in_code_whole target inside = grind (arith, nat_tests)

pub in_code_low : (target : ℕ) → is_in_code target ≡ true → 2 ^ 18 ≤ target → ⊥
in_code_low target inside high = grind (arith, nat_tests)

pub whole_in_code : (target : ℕ) → target < 2 ^ 18 → target % 4 ≡ 0 → is_in_code target ≡ true
whole_in_code target low whole = grind (arith, nat_tests)

module _ (h : History) (code : List ℕ) (p : State) (link : Bool) (rs1 : ℕ) (imm : ℤ) (slot : ℕ)
    (here : Here h code p (units.Check link rs1 imm slot)) (retries : ℕ) where
  -- a check has ended that picks a policy
  pub judged : (more to : ℕ) → HasTwo h slot to more → (bary tary : ℕ) (tried : IsTried h p slot to bary tary)
      → low_half (id_in tary) ≡ low_half (id_in bary)
      → (end : End) → end.bary ≡ Some bary → end.tary ≡ Some tary → (r : Raw)
      → IsBetween (retries + more)
      (checked (policy_in tary) (allows_at h tried.words.goal.epoch slot to) link to p) r
      → CheckEnded h p retries slot to link end r
  judged more to two bary tary tried low end branch goal r ends =
      let word = tary_parts h code slot to bary tary here.known tried.words in
      let epoch : ℕ = tried.words.goal.epoch in
      let one = one_epoch h code slot to bary tary here.known tried.words low in
      record {
        more = more;
        two = two;
        epoch = epoch;
        known = subst (IsEpoch h) one tried.words.branch.known;
        under = λ inside. record {
          bary = branch ∙ ap Some (tried.words.branch.is ∙ ap (λ e. word_of h e (slot_class h e slot)) one);
          tary = goal ∙ ap Some tried.words.goal.is;
        };
        ends = subst (λ pick. IsBetween (retries + more) (checked pick (allows_at h epoch slot to) link to p) r)
            word.policy ends;
        logged = λ again. whole_in_code to tried.low tried.whole;
        rises = λ inside. subst (λ q. last_policy p.log ≤ q) word.policy tried.rises;
      }

  -- the state after a check that picks none, in the terms of any epoch
  abbrev pub unpicked_state : (to : ℕ) → State
  unpicked_state to =
      let start = here.ready.start here.going in
      checked (h.policy start.epoch) (allows_at h start.epoch slot to) link to p

  -- a check has ended that picks none
  pub unpicked : (more to : ℕ) → HasTwo h slot to more → (is_in_code to ≡ true → ⊥) → (more ≢ 0 → ⊥)
      → (end : End) (r : Raw) → IsBetween (retries + more) (unpicked_state to) r
      → CheckEnded h p retries slot to link end r
  unpicked more to two outside once end r ends =
      let start = here.ready.start here.going in
      record {
        more = more;
        two = two;
        epoch = start.epoch;
        known = start.known;
        under = λ inside. absurd (outside inside);
        ends = ends;
        logged = λ again. absurd (once again);
        rises = λ inside. absurd (outside inside);
      }
