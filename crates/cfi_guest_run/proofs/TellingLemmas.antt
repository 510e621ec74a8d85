-- A guest that is told of the run: what it has logged fits the run as it is now.
use Rattle.std.proofs.Common.{◌≡◌, ◌≤◌, ◌+◌, ℕ, List, [], ◌∷◌, ◌++◌, length, refl, sym, ap, subst, ◌∙◌, arith, inl, inr, append_assoc}
use Rattle.std.specs.Prelude.{count_by}
use Rattle.std.proofs.lemmas.Bool.{cases_lt}
use Rattle.std.proofs.lemmas.List.{append-nil}
use Rattle.cfi_aux.specs.declared.modules.Module.{Module}
use Rattle.cfi_plan.specs.declared.journal.Entry.{Entry}
use Rattle.cfi_plan.specs.declared.journal.JournalLine.{JournalLine}
use Rattle.cfi_plan.specs.declared.plan.Plan.{Plan}
use Rattle.cfi_model.specs.Log.{picked}
use Rattle.cfi_unit.specs.declared.log.Log.{Log}
use Rattle.cfi_unit.specs.declared.log.Log.TheVariants.{Pick, Open, Cause}
use Rattle.cfi_valid.specs.Course.{Course}
use Rattle.cfi_valid.specs.Growth.{Continues}
use Rattle.cfi_valid.specs.Journal.{JournalState, EntriesLead, LineLeads}
use Rattle.cfi_valid.specs.Log.{IsCaused, IsLogged, is_versions, NoModule, ModulesFull, NotPlaced, NotVerified, VersionsSpent, EpochsSpent, NoFunction, Retired, Unlogged, Why, why_of}
use Rattle.cfi_valid.proofs.EntryGrowth.{log_grows}
use Rattle.cfi_valid.proofs.LineLemmas.{line_does}
use Rattle.cfi_valid.proofs.LogGrowth.{log_stays}
use Rattle.cfi_valid.proofs.PickGrowth.{picks_grow}
use Rattle.cfi_guest_run.specs.Settled.{ComeBetween, log_with_all}

-- ---- between two states of a journal

module _ (plan : Plan) (modules : List Module) where
  -- no line goes further than to the next policy
  next_most : (old new : JournalState) (line : JournalLine) → LineLeads plan modules old line new
      → new.policy ≤ old.policy + 1
  next_most old new line leads =
      line_does plan modules old (λ more gone s. s.policy ≤ old.policy + 1) (omega arith)
      (λ number epoch policy load. omega (arith, load.next))
      (λ number epoch policy retire. omega (arith, retire.next)) (λ epoch goes. omega arith) line new leads

  -- the lines lead by way of a state with this policy
  pub record LeadsBy (from to : JournalState) (lines : List Entry) (policy : ℕ) : Type 0 where
    pub mid : JournalState
    pub front : List Entry
    pub back : List Entry
    pub is : lines ≡ front ++ back
    pub first : EntriesLead plan modules from front mid
    pub then : EntriesLead plan modules mid back to
    pub policy_is : mid.policy ≡ policy

  leads_by : (lines : List Entry) (from to : JournalState) (policy : ℕ) → EntriesLead plan modules from lines to
      → from.policy ≤ policy → policy ≤ to.policy → LeadsBy from to lines policy
  leads_by [] from to policy along least most =
      let e : to.policy ≡ from.policy = ap (λ (s : JournalState). s.policy) along in
      record {
        mid = from;
        front = [];
        back = [];
        is = refl;
        first = refl;
        then = along;
        policy_is = omega (arith, e, least, most);
      }
  leads_by (entry ∷ lines) from to policy along least most = elim (cases_lt policy along.0.policy) [
    | inl before ↦
        let next = next_most from along.0 entry.what along.1.1 in
        record {
          mid = from;
          front = [];
          back = entry ∷ lines;
          is = refl;
          first = refl;
          then = along;
          policy_is = omega (arith, next, before, least);
        }
    | inr on ↦
        let rest = leads_by lines along.0 to policy along.2 on most in
        record {
          mid = rest.mid;
          front = entry ∷ rest.front;
          back = rest.back;
          is = ap (λ (es : List Entry). entry ∷ es) rest.is;
          first = (along.0, along.1, rest.first);
          then = rest.then;
          policy_is = rest.policy_is;
        }
  ]

-- ---- what came between

goes_same : (c : Course) → Continues c c
goes_same c = record {
  plan = refl;
  modules = refl;
  more = [];
  journal = sym (append-nil c.journal);
  leads = refl;
}

pub logs_between : (more : List Log) (c to : Course) (goes : Continues c to) (guest least most : ℕ) (log : List Log)
    → c.end.policy ≤ least → most ≤ to.end.policy → ComeBetween c.plan least most more → IsLogged c guest log
    → IsLogged to guest (log_with_all more log)
logs_between [] c to goes guest least most log low high come logged = log_stays c to goes guest log logged
logs_between (Pick policy count ∷ more) c to goes guest least most log low high come logged =
    let after = come_least c.plan policy most more come.1 in
    let by = leads_by c.plan c.modules goes.more c.end to.end policy goes.leads (omega (arith, low, come.0))
    (omega (arith, after, high)) in
    let mid : Course = record { plan = c.plan; modules = c.modules; journal = c.journal ++ by.front; end = by.mid } in
    let first : Continues c mid = record {
      plan = refl;
      modules = refl;
      more = by.front;
      journal = refl;
      leads = by.first;
    } in
    let then : Continues mid to = record {
      plan = goes.plan;
      modules = goes.modules;
      more = by.back;
      journal = goes.journal ∙ (ap (λ (es : List Entry). c.journal ++ es) by.is
          ∙ sym (append_assoc c.journal by.front by.back));
      leads = by.then;
    } in
    logs_between more mid to then guest policy most (picked policy log) (omega (arith, by.policy_is)) high come.1
    (picks_grow c mid first guest log logged policy (omega (arith, low, come.0)) (omega (arith, by.policy_is)))
  where
    come_least : (plan : Plan) (least most : ℕ) (later : List Log) → ComeBetween plan least most later → least ≤ most
    come_least plan least most [] come = come
    come_least plan least most (Pick policy count ∷ later) come =
        let rest = come_least plan policy most later come.1 in omega (arith, come.0, rest)
    come_least plan least most (Open number address policy ∷ later) come = absurd come
    come_least plan least most (Cause number cause ∷ later) come = come_least plan least most later come.1
logs_between (Open number address policy ∷ more) c to goes guest least most log low high come logged = absurd come
logs_between (Cause number cause ∷ more) c to goes guest least most log low high come logged =
    let fits : IsCaused c guest (log ++ Cause number cause ∷ []) (length log) number (why_of cause) =
    subst (λ (n : ℕ). IsCaused c guest (log ++ Cause number cause ∷ []) (length log) number (why_of n)) (sym come.0.is)
    come.0.past in
    logs_between more c to goes guest least most (log ++ Cause number cause ∷ []) low high come.1
    (log_grows c c (goes_same c) guest log logged (Cause number cause) fits)

-- ---- another journal

module _ (c : Course) (journal : List Entry) (guest : ℕ) (log : List Log)
    (as_many : (number : ℕ)
    → count_by (is_versions guest number) c.journal ≤ count_by (is_versions guest number) journal) where
  abbrev other : Course
  other = record { plan = c.plan; modules = c.modules; journal = journal; end = c.end }

  caused_as : (at number : ℕ) (why : Why) → IsCaused c guest log at number why → IsCaused other guest log at number why
  caused_as at number NoModule caused = caused
  caused_as at number ModulesFull caused = caused
  caused_as at number NotPlaced caused = caused
  caused_as at number NotVerified caused = caused
  caused_as at number VersionsSpent caused = omega (arith, caused, as_many number)
  caused_as at number EpochsSpent caused = caused
  caused_as at number NoFunction caused = caused
  caused_as at number Retired caused = caused
  caused_as at number Unlogged caused = caused

  -- that tells of as many versions that were spent
  pub logged_as : IsLogged c guest log → IsLogged other guest log
  logged_as logged = record {
    rises = logged.rises;
    most = logged.most;
    opens = logged.opens;
    causes = λ at number cause is. caused_as at number (why_of cause) (logged.causes at number cause is);
  }
