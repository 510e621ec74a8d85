-- Entries of a journal, one after the other, and the line that is not legal.
use Rattle.std.proofs.Common.{◌≡◌, ℕ, ◌+◌, ◌++◌, List, [], ◌∷◌, length, take, drop, Some, Result, Ok, Err, inl, inr, refl, sym, ap, subst, ◌∙◌}
use Rattle.std.specs.Prelude.{IfErr, IfOk, OnErr, OnOk}
use Rattle.std.specs.List.{slice_get}
use Rattle.std.proofs.lemmas.List.{take-append-drop, drop_more}
use Rattle.std.proofs.lemmas.Option.{slice_get_within, get_or_from_slice_get}
use Rattle.cfi_aux.specs.declared.modules.Module.{Module}
use Rattle.cfi_ledger.specs.Roster.{Roster}
use Rattle.cfi_ledger.specs.Starts.{AreStarted, opened_state}
use Rattle.cfi_ledger.proofs.StartLemmas.{started_all}
use Rattle.cfi_plan.specs.declared.journal.Entry.{Entry}
use Rattle.cfi_plan.specs.declared.plan.Plan.{Plan}
use Rattle.cfi_report.specs.declared.report.Report.{Report}
use Rattle.cfi_valid.specs.Journal.{JournalState, EntriesLead, EntryLeads, IsJournal}
use Rattle.cfi_valid.specs.Valid.{HasJournal}
use Rattle.cfi_valid.proofs.JournalLemmas.{along_once, journal_once, opening_once}
use Rattle.cfi_judge.specs.declared.fault.JournalFault.{JournalFault}
use Rattle.cfi_judge.specs.declared.fault.JournalFault.TheVariants.{Line, Memory}
use Rattle.cfi_judge.specs.declared.reached.Reached.{Reached}
use Rattle.cfi_judge.specs.Journal.{HasForce, IsIllegalAt, IsJournalFault}
use Rattle.cfi_judge.specs.inner.Walk.{IsWalkFault}
use Rattle.cfi_judge.specs.Reached.{state_of}

module _ (plan : Plan) (modules : List Module) where
  -- ---- the journal of a report

  along_split : (old : JournalState) (first rest : List Entry) (new : JournalState)
      → EntriesLead plan modules old (first ++ rest) new
      → (mid : JournalState) × EntriesLead plan modules old first mid × EntriesLead plan modules mid rest new
  along_split old [] rest new along = (old, refl, along)
  along_split old (one ∷ first) rest new along =
      let later = along_split along.0 first rest new along.2 in
      (later.0, (along.0, along.1, later.1), later.2)

  at_seam : (journal : List Entry) (number : ℕ) (entry : Entry) → slice_get journal number ≡ Some entry
      → take number journal ++ entry ∷ drop (number + 1) journal ≡ journal
  at_seam journal number entry is =
      let within = slice_get_within journal number entry is in
      ap (λ (e : Entry). take number journal ++ e ∷ drop (number + 1) journal)
      (sym (get_or_from_slice_get journal number entry entry is))
      ∙ ap (λ (es : List Entry). take number journal ++ es) (sym (drop_more journal number entry within))
      ∙ take-append-drop number journal

  illegal : (start : JournalState) (journal : List Entry) (number : ℕ) → IsIllegalAt plan modules start journal number
      → (end : JournalState) → ¬ EntriesLead plan modules start journal end
  illegal start journal number at end along =
      let split = along_split start (take number journal) (at.entry ∷ drop (number + 1) journal) end
      (subst (λ (es : List Entry). EntriesLead plan modules start es end)
      (sym (at_seam journal number at.entry at.is)) along) in
      let same : split.0 ≡ at.before =
      along_once plan modules start (take number journal) split.0 at.before split.1 at.leads in
      at.never split.2.0
      (subst (λ (s : JournalState). EntryLeads plan modules s at.entry split.2.0) same split.2.1)

  module _ (report : Report) where
    journal_refuted : (number : ℕ) → IsJournalFault plan modules report (Line number)
        → (end : JournalState) → ¬ HasJournal plan modules report end
    journal_refuted number (inl first) end has =
        let same = opening_once plan modules has.course.opening first.opening has.course.opens first.opens in
        illegal first.opening report.journal number first.here end
        (subst (λ (s : JournalState). EntriesLead plan modules s report.journal end) same has.course.leads)
    journal_refuted number (inr other) end has =
        let same : end ≡ other.end = journal_once plan modules report.journal end other.end has.course other.leads in
        other.other (subst (HasForce report) same (record { epoch = has.epoch; policy = has.policy }))

    pub never_line : (fault : JournalFault) → IsJournalFault plan modules report fault → (number : ℕ)
        → (end : JournalState) → HasJournal plan modules report end → ¬ (fault ≡ Line number)
    never_line fault is number end has same =
        journal_refuted number (subst (IsJournalFault plan modules report) same is) end has

    module _ (roster : Roster) (started : AreStarted plan modules (length plan.modules) roster) where
      pub journal_is : (end : JournalState) → EntriesLead plan modules (opened_state plan roster) report.journal end
          → IsJournal plan modules report.journal end
      journal_is end leads =
          record { opening = opened_state plan roster; opens = started_all plan modules roster started; leads = leads }

      pub has_journal : (end : JournalState)
          → EntriesLead plan modules (opened_state plan roster) report.journal end → HasForce report end
          → HasJournal plan modules report end
      has_journal end leads force =
          record { course = journal_is end leads; epoch = force.epoch; policy = force.policy }

      pub walk_stops : (fault : JournalFault)
          → IsWalkFault plan modules (opened_state plan roster) report.journal fault
          → IsJournalFault plan modules report fault
      walk_stops (Line number) here = inl (record {
        opening = opened_state plan roster;
        opens = started_all plan modules roster started;
        here = here;
      })
      walk_stops Memory here = tt

      pub other_force : (number : ℕ) → number ≡ length report.journal → (end : JournalState)
          → EntriesLead plan modules (opened_state plan roster) report.journal end → ¬ HasForce report end
          → IsJournalFault plan modules report (Line number)
      other_force number all end leads other =
          inr (record { all = all; end = end; leads = journal_is end leads; other = other })

      -- ---- the state to which all lines lead

      module _ (journal : List Entry) (same : journal ≡ report.journal) where
        pub walk_stopped : (fault : JournalFault) → IsWalkFault plan modules (opened_state plan roster) journal fault
            → IsJournalFault plan modules report fault
        walk_stopped fault here =
            walk_stops fault
            (subst (λ (es : List Entry). IsWalkFault plan modules (opened_state plan roster) es fault) same here)

        module _ (end : Reached) (leads : EntriesLead plan modules (opened_state plan roster) journal (state_of end))
          where
            all_lead : EntriesLead plan modules (opened_state plan roster) report.journal (state_of end)
            all_lead =
                subst (λ (es : List Entry). EntriesLead plan modules (opened_state plan roster) es (state_of end)) same
                leads

            pub force_ok : (r : Result Reached JournalFault) → IfOk r (λ one. one ≡ end)
                → OnOk r (HasForce report (state_of end))
                → IfOk r (λ one. HasJournal plan modules report (state_of one))
            force_ok (Ok one) is force =
                subst (λ (x : Reached). HasJournal plan modules report (state_of x)) (sym is)
                (has_journal (state_of end) all_lead force)
            force_ok (Err fault) is force = tt

            pub force_fault : (r : Result Reached JournalFault)
                → IfErr r (λ fault. fault ≡ Line (length report.journal))
                → OnErr r (¬ HasForce report (state_of end)) → IfErr r (IsJournalFault plan modules report)
            force_fault (Ok one) line other = tt
            force_fault (Err fault) line other =
                subst (IsJournalFault plan modules report) (sym line)
                (other_force (length report.journal) refl (state_of end) all_lead other)

    pub never_lines : (r : Result Reached JournalFault) → IfErr r (IsJournalFault plan modules report) → (number : ℕ)
        → (end : JournalState) → HasJournal plan modules report end → IfErr r (λ fault. ¬ (fault ≡ Line number))
    never_lines (Ok one) is number end has = tt
    never_lines (Err fault) is number end has = never_line fault is number end has
