-- What instructions log: the end of a check logs a pick under the policy of the Tary word that is kept.
use Rattle.std.proofs.Common.{◌≡◌, ◌≤◌, ◌⊎◌, ℕ, Option, Some, None, List, [], ◌∷◌, ◌++◌, refl, sym, ap, ◌∙◌, subst, arith, inl, inr}
use Rattle.std.proofs.lemmas.List.Sums.{fold-append}
use Rattle.std.proofs.lemmas.Option.{none-some, same_Some}
use Rattle.rv_insn.specs.declared.insn.Insn.{Insn}
use Rattle.cfi_unit.specs.declared.log.Log.{Log}
use Rattle.cfi_word.specs.Word.{policy_in}
use Rattle.cfi_model.specs.Begin.{begin_by, picked_by}
use Rattle.cfi_model.specs.Log.{last_policy, picked}
use Rattle.cfi_model.specs.Raw.{Raw}
use Rattle.cfi_model.proofs.BeginLemmas.{begin_judges}
use Rattle.cfi_model.proofs.PickLemmas.{picked_is}
use Rattle.cfi_runner.specs.Picks.{HasPicked, RiseBetween}

-- ---- picks, one more

rise_more : (least most policy : ℕ) (policies : List ℕ) → RiseBetween least most policies → most ≤ policy
    → RiseBetween least policy (policies ++ policy ∷ [])
rise_more least most policy [] rise up = (omega (arith, rise, up), omega arith)
rise_more least most policy (first ∷ later) rise up = (rise.0, rise_more first most policy later rise.1 up)

rise_wide : (least most above : ℕ) (policies : List ℕ) → RiseBetween least most policies → most ≤ above
    → RiseBetween least above policies
rise_wide least most above [] rise up = omega (arith, rise, up)
rise_wide least most above (first ∷ later) rise up = (rise.0, rise_wide first most above later rise.1 up)

-- the picks so far, and where their policies end
pub record PicksTo (least : ℕ) (old new : List Log) : Type 0 where
  pub most : ℕ
  pub picks : HasPicked least most old new
  pub bound : (most ≡ least) ⊎ (most ≡ last_policy new)

pub picks_within : (least above : ℕ) (old new : List Log) → PicksTo least old new → least ≤ above
    → last_policy new ≤ above → HasPicked least above old new
picks_within least above old new to low high =
    let most : to.most ≤ above = elim to.bound [
      | inl is ↦ omega (arith, is, low)
      | inr is ↦ omega (arith, is, high)
    ] in
    record {
      policies = to.picks.policies;
      rise = rise_wide least to.most above to.picks.policies to.picks.rise most;
      is = to.picks.is;
    }

bound_same : (most least : ℕ) (mid new : List Log) → new ≡ mid → (most ≡ least) ⊎ (most ≡ last_policy mid)
    → (most ≡ least) ⊎ (most ≡ last_policy new)
bound_same most least mid new same bound = subst (λ l. (most ≡ least) ⊎ (most ≡ last_policy l)) (sym same) bound

-- a guest's picks so far; the Tary word that it keeps is of no lower policy
pub record LogsTo (least : ℕ) (old : List Log) (now : Raw) : Type 0 where
  pub to : PicksTo least old now.base.log
  pub next : (word : ℕ) → now.tary ≡ Some word → to.most ≤ policy_in word

pub logs_start : (least : ℕ) (r : Raw) → r.tary ≡ None → LogsTo least r.base.log r
logs_start least r none = record {
  to = record {
    most = least;
    picks = record { policies = []; rise = omega arith; is = refl };
    bound = inl refl;
  };
  next = λ word e. absurd (none-some word (sym none ∙ e));
}

module _ (least : ℕ) (old : List Log) (r : Raw) (logs : LogsTo least old r) where
  abbrev most : ℕ
  most = logs.to.most

  abbrev policies : List ℕ
  policies = logs.to.picks.policies

  -- nothing was logged
  pub logs_same : (new : Raw) → new.base.log ≡ r.base.log
      → ((word : ℕ) → new.tary ≡ Some word → most ≤ policy_in word) → LogsTo least old new
  logs_same new same next = record {
    to = record {
      most = most;
      picks = record { policies = policies; rise = logs.to.picks.rise; is = same ∙ logs.to.picks.is };
      bound = bound_same most least r.base.log new.base.log same logs.to.bound;
    };
    next = next;
  }

  -- the Tary word that was kept is a pick, and none is kept
  logs_pick : (new : Raw) (word : ℕ) → r.tary ≡ Some word → new.tary ≡ None
      → new.base.log ≡ picked (policy_in word) r.base.log → LogsTo least old new
  logs_pick new word was none log =
      let policy : ℕ = policy_in word in
      record {
        to = record {
          most = policy;
          picks = record {
            policies = policies ++ policy ∷ [];
            rise = rise_more least most policy policies logs.to.picks.rise (logs.next word was);
            is = log
                ∙ (ap (picked policy) logs.to.picks.is
                ∙ sym (fold-append (λ l p. picked p l) old policies (policy ∷ [])));
          };
          bound = inr (sym (ap last_policy log ∙ (picked_is r.base.log policy).last));
        };
        next = λ other e. absurd (none-some other (sym none ∙ e));
      }

  -- a check has ended
  logs_judged : (kept : Option ℕ) → r.tary ≡ kept → (new : Raw) → new.tary ≡ None
      → new.base.log ≡ picked_by kept r.base.log → LogsTo least old new
  logs_judged None was new none log = logs_same new log (λ word e. absurd (none-some word (sym none ∙ e)))
  logs_judged (Some word) was new none log = logs_pick new word was none log

  -- an instruction has begun
  pub logs_begun : (o : Option Insn) → LogsTo least old (begin_by o r)
  logs_begun o = elim (begin_judges r o) [
    | inl stays ↦ logs_same (begin_by o r) stays.log (λ word e. logs.next word (sym stays.tary ∙ e))
    | inr judged ↦ logs_judged r.tary refl (begin_by o r) judged.tary judged.log
  ]

  -- a Tary word was found
  pub logs_found : (new : Raw) (found : ℕ) → new.base.log ≡ r.base.log → new.tary ≡ Some found
      → least ≤ policy_in found → last_policy r.base.log ≤ policy_in found → LogsTo least old new
  logs_found new found same is low high =
      let up : most ≤ policy_in found = elim logs.to.bound [
        | inl here ↦ omega (arith, here, low)
        | inr here ↦ omega (arith, here, high)
      ] in
      logs_same new same (λ word e. subst (λ w. most ≤ policy_in w) (same_Some found word (sym is ∙ e)) up)
