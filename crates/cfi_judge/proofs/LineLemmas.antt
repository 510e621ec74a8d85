-- Lines of a journal that change something: the load of a module, and the retirement of one.
use Rattle.std.proofs.Common.{◌≡◌, ◌≢◌, ℕ, ◌+◌, List, [], ◌∷◌, ◌++◌, Some, Result, refl, sym, ap, subst, ◌∙◌}
use Rattle.std.specs.Prelude.{IfErr, IfOk}
use Rattle.std.specs.List.{slice_get}
use Rattle.cfi_aux.specs.declared.modules.Module.{Module}
use Rattle.cfi_ledger.specs.Roster.{HasJoined, HasRetired, Roster, live_placed, loaded_in_roster, members_in_roster, series_of}
use Rattle.cfi_ledger.proofs.FlagLemmas.{departed_number, departed_roster, flags_joined, flags_left}
use Rattle.cfi_ledger.proofs.JoinedLemmas.{joined_loaded, joined_roster}
use Rattle.cfi_plan.specs.declared.journal.JournalLine.{JournalLine}
use Rattle.cfi_plan.specs.declared.journal.JournalLine.TheVariants.{LoadOk, LoadAgain, LoadFull, LoadPlace, LoadVerify, LoadVersions, LoadEpochs, LoadRetired, RefreshOk, RefreshVersions, RefreshEpochs, RetireOk, RetireNotLive, RetireInUse, RetireVersions, RetireEpochs}
use Rattle.cfi_plan.specs.declared.plan.Plan.{Plan}
use Rattle.cfi_modules.specs.Order.{Joins}
use Rattle.cfi_modules.specs.Series.{IsRefusedBy}
use Rattle.cfi_modules.specs.declared.fault.JoinFault.{JoinFault}
use Rattle.cfi_modules.specs.declared.fault.JoinFault.TheVariants.{Memory}
use Rattle.cfi_modules.proofs.OrderLemmas.{joins_or_refused}
use Rattle.cfi_valid.specs.Joining.{HasNoFault, IsUnloaded}
use Rattle.cfi_valid.specs.Journal.{JournalState, HasNextEpoch, LineLeads, live_in}
use Rattle.cfi_valid.specs.Loaded.{IsLoaded, LoadedModule, live_flags, placed_modules, planned_name}
use Rattle.cfi_judge.specs.declared.entries.Change.TheVariants as changes
use Rattle.cfi_judge.specs.declared.entries.Update.{Update}
use Rattle.cfi_judge.specs.declared.fault.LineFault.{LineFault}
use Rattle.cfi_judge.specs.declared.fault.LineFault.TheVariants.{Illegal}
use Rattle.cfi_judge.specs.declared.fault.LineFault.TheVariants as faults
use Rattle.cfi_judge.specs.declared.leaving.Leaving.TheVariants.{Unused}
use Rattle.cfi_judge.specs.declared.reached.Reached.{Reached}
use Rattle.cfi_judge.specs.inner.Leaving.{IsLeaving}
use Rattle.cfi_judge.specs.inner.Lines.{IsLineFault, change_of}
use Rattle.cfi_judge.specs.inner.Meets.{HasLive}
use Rattle.cfi_judge.specs.inner.Reached.{IsKeptIn, IsReached}
use Rattle.cfi_judge.specs.Reached.{state_of}
use Rattle.cfi_judge.proofs.LiveLemmas.{force_by, has_live}
use Rattle.cfi_judge.proofs.MeetingLemmas.{joins_there, none_meets}

-- ---- the line of a change

abbrev update_by : (number epoch policy : ℕ) → Update
update_by number epoch policy = record { number = number; epoch = epoch; policy = policy }

abbrev pub load_line : Update → JournalLine
load_line load = LoadOk load.number load.epoch load.policy

abbrev pub retire_line : Update → JournalLine
retire_line one = RetireOk one.number one.epoch one.policy

pub line_of_load : (one : Update) (line : JournalLine) → change_of line ≡ changes.Module one → line ≡ load_line one
line_of_load one (LoadOk n e p) is = let same : update_by n e p ≡ one = cc in ap load_line same
line_of_load one (LoadAgain n p) is = absurd (cc)
line_of_load one (LoadFull n) is = absurd (cc)
line_of_load one (LoadPlace n fault) is = absurd (cc)
line_of_load one (LoadVerify n fault place) is = absurd (cc)
line_of_load one (LoadVersions n guest quiet) is = absurd (cc)
line_of_load one (LoadEpochs n) is = absurd (cc)
line_of_load one (LoadRetired n) is = absurd (cc)
line_of_load one (RefreshOk e) is = absurd (cc)
line_of_load one (RefreshVersions guest quiet) is = absurd (cc)
line_of_load one RefreshEpochs is = absurd (cc)
line_of_load one (RetireOk n e p) is = absurd (cc)
line_of_load one (RetireNotLive n) is = absurd (cc)
line_of_load one (RetireInUse n user) is = absurd (cc)
line_of_load one (RetireVersions n guest quiet) is = absurd (cc)
line_of_load one (RetireEpochs n) is = absurd (cc)

pub line_of_retirement : (one : Update) (line : JournalLine) → change_of line ≡ changes.Retirement one
    → line ≡ retire_line one
line_of_retirement one (LoadOk n e p) is = absurd (cc)
line_of_retirement one (LoadAgain n p) is = absurd (cc)
line_of_retirement one (LoadFull n) is = absurd (cc)
line_of_retirement one (LoadPlace n fault) is = absurd (cc)
line_of_retirement one (LoadVerify n fault place) is = absurd (cc)
line_of_retirement one (LoadVersions n guest quiet) is = absurd (cc)
line_of_retirement one (LoadEpochs n) is = absurd (cc)
line_of_retirement one (LoadRetired n) is = absurd (cc)
line_of_retirement one (RefreshOk e) is = absurd (cc)
line_of_retirement one (RefreshVersions guest quiet) is = absurd (cc)
line_of_retirement one RefreshEpochs is = absurd (cc)
line_of_retirement one (RetireOk n e p) is = let same : update_by n e p ≡ one = cc in ap retire_line same
line_of_retirement one (RetireNotLive n) is = absurd (cc)
line_of_retirement one (RetireInUse n user) is = absurd (cc)
line_of_retirement one (RetireVersions n guest quiet) is = absurd (cc)
line_of_retirement one (RetireEpochs n) is = absurd (cc)

-- ---- the load of a module

module _ (plan : Plan) (modules : List Module) (old : Reached) (is : IsReached plan modules old) (number : ℕ)
    (m : Module) (there : slice_get modules number ≡ Some m) where
  abbrev loaded : List LoadedModule
  loaded = loaded_in_roster old.roster

  abbrev live : List LoadedModule
  live = live_in (state_of old)

  has : HasLive old.roster live
  has = has_live plan old is.kept is.policies

  -- it joins
  module _ (epoch policy : ℕ) (name : List ℕ) (roster : Roster)
      (joined : HasJoined number name policy m old.roster roster) where
    abbrev new : Reached
    new = record { epoch = epoch; policy = policy; roster = roster; rows = old.rows }

    pub loads : HasNextEpoch (state_of old) epoch → policy ≡ old.policy + 1 → IsUnloaded modules loaded number
        → LineLeads plan modules (state_of old) (LoadOk number epoch policy) (state_of new)
    loads goes next free =
        let clean : HasNoFault plan.code_words modules loaded live number = record {
          absent = free;
          placed = joined.one;
          joins = subst (λ (n : ℕ). Joins n (placed_modules loaded) (placed_modules live) free.unplaced joined.one)
              is.kept.stands.code_words_are
              (joins_there old.roster has.lined number modules live has m there free joined.one joined.joins);
        } in (
          record { clean = clean; goes = goes; next = next },
          ap (λ (ls : List LoadedModule).
              record { epoch = epoch; policy = policy; loaded = ls; retired = roster.retired })
              (joined_loaded number name policy m old.roster roster joined has.lined)
              ∙ ap (λ (r : Roster). record {
                epoch = epoch;
                policy = policy;
                loaded = loaded ++ record { number = number; placed = joined.one; policy = policy } ∷ [];
                retired = r.retired;
              }) joined.is,
        )

    pub load_kept : policy ≡ old.policy + 1 → ¬ IsLoaded loaded number → name ≡ planned_name plan.modules number
        → IsKeptIn plan new
    load_kept next absent name_is =
        let again : HasJoined number name (old.policy + 1) m old.roster roster =
        subst (λ (n : ℕ). HasJoined number name n m old.roster roster) next joined in
        record {
          stands = joined_roster number name policy m old.roster roster joined plan is.kept.stands name_is;
          flags = subst (λ (n : ℕ). roster.flags ≡ live_flags n (members_in_roster roster)) (sym next)
              (flags_joined (force_by old) has.lined is.kept.flags plan is.policies roster number name m again absent);
        }

  -- or it does not
  pub never_loads : (fault : JoinFault) → IsRefusedBy (series_of old.roster) m fault → fault ≢ Memory
      → (epoch policy : ℕ) (new : JournalState)
      → ¬ LineLeads plan modules (state_of old) (LoadOk number epoch policy) new
  never_loads fault why some epoch policy after leads =
      let clean : HasNoFault old.roster.code_words modules loaded live number =
      subst (λ (n : ℕ). HasNoFault n modules loaded live number) (sym is.kept.stands.code_words_are) leads.0.clean in
      let joins = none_meets old.roster has.lined number modules live has m there clean in
      some (joins_or_refused old.roster.code_words old.roster.placed (live_placed old.roster) m joins.0 fault joins.1
      why)

  -- so its fault says that no state comes of the line
  pub load_fault : (fault : JoinFault) → IsRefusedBy (series_of old.roster) m fault → (answer : LineFault)
      → (answer ≡ Illegal → fault ≢ Memory) → (epoch policy : ℕ)
      → IsLineFault plan modules (state_of old) (LoadOk number epoch policy) answer
  load_fault fault why Illegal some epoch policy = λ leads.
      never_loads fault why (some refl) epoch policy leads.0 leads.1
  load_fault fault why faults.Memory some epoch policy = tt

-- ---- the retirement of one

module _ (plan : Plan) (modules : List Module) (old : Reached) (is : IsReached plan modules old) (number place : ℕ)
    (it : IsLeaving old number (Unused place)) (epoch policy : ℕ) (next : policy ≡ old.policy + 1) (roster : Roster)
    (left : HasRetired place policy old.roster roster) where
  abbrev retired_new : Reached
  retired_new = record { epoch = epoch; policy = policy; roster = roster; rows = old.rows }

  abbrev again : HasRetired place (old.policy + 1) old.roster roster
  again = subst (λ (n : ℕ). HasRetired place n old.roster roster) next left

  number_is : left.line.number ≡ number
  number_is =
      departed_number (force_by old) is.kept.stands.many is.kept.flags plan is.policies roster place again number it.1

  pub retires : HasNextEpoch (state_of old) epoch
      → LineLeads plan modules (state_of old) (RetireOk number epoch policy) (state_of retired_new)
  retires goes = (
    record { unused = it.0; goes = goes; next = next },
    ap (λ (r : Roster). record {
      epoch = epoch;
      policy = policy;
      loaded = loaded_in_roster r;
      retired = r.retired;
    }) left.is
        ∙ ap (λ (n : ℕ). record {
          epoch = epoch;
          policy = policy;
          loaded = loaded_in_roster old.roster;
          retired = old.roster.retired ++ record { number = n; policy = policy } ∷ [];
        }) number_is,
  )

  pub retire_kept : IsKeptIn plan retired_new
  retire_kept = record {
    stands = departed_roster (force_by old) is.kept.stands.many is.kept.flags plan is.policies roster place again
        is.kept.stands;
    flags = subst (λ (n : ℕ). roster.flags ≡ live_flags n (members_in_roster roster)) (sym next)
        (flags_left (force_by old) is.kept.stands.many is.kept.flags plan is.policies roster place again);
  }

-- ---- a line by what it changes

module _ (plan : Plan) (modules : List Module) (old : Reached) (line told : JournalLine) (same : line ≡ told)
    (r : Result Reached LineFault) where
  pub line_leads : IfOk r (λ new. LineLeads plan modules (state_of old) told (state_of new))
      → IfOk r (λ new. LineLeads plan modules (state_of old) line (state_of new))
  line_leads leads =
      subst (λ (l : JournalLine). IfOk r (λ new. LineLeads plan modules (state_of old) l (state_of new))) (sym same)
      leads

  pub line_fault : IfErr r (IsLineFault plan modules (state_of old) told)
      → IfErr r (IsLineFault plan modules (state_of old) line)
  line_fault fault =
      subst (λ (l : JournalLine). IfErr r (IsLineFault plan modules (state_of old) l)) (sym same) fault
