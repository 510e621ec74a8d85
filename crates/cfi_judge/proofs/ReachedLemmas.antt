-- States to which the first lines of a journal lead, with their rows.
use Rattle.std.proofs.Common.{◌≡◌, ℕ, ◌+◌, ◌<◌, ◌≤◌, Bool, List, [], ◌∷◌, length, take, get_or, Some, Result, Ok, Err, Vec, Global, refl, sym, ap, subst, ◌∙◌, arith}
use Rattle.std.specs.Prelude.{◌↔◌, IfOk, IsTrue}
use Rattle.std.specs.List.{slice_get}
use Rattle.std.proofs.lemmas.List.{take_more}
use Rattle.std.proofs.lemmas.Option.{slice_get-get_or, slice_get_within}
use Rattle.cfi_aux.specs.declared.modules.Module.{Module}
use Rattle.cfi_ledger.proofs.EntryLemmas.{loaded_all}
use Rattle.cfi_ledger.proofs.PolicyLemmas.{line_policies, opening_policies, policies_below}
use Rattle.cfi_ledger.proofs.StartLemmas.{started_all}
use Rattle.cfi_ledger.specs.Plans.{CanStart}
use Rattle.cfi_ledger.specs.Policies.{HavePolicies}
use Rattle.cfi_ledger.specs.Roster.{Roster, loaded_in_roster}
use Rattle.cfi_ledger.specs.Starts.{AreStarted, opened_state}
use Rattle.cfi_plan.specs.declared.journal.Entry.{Entry}
use Rattle.cfi_plan.specs.declared.journal.JournalLine.{JournalLine}
use Rattle.cfi_plan.specs.declared.plan.Plan.{Plan}
use Rattle.cfi_valid.proofs.GrowthLemmas.{along_later, loaded_stays}
use Rattle.cfi_valid.proofs.JournalLemmas.{along_more}
use Rattle.cfi_valid.proofs.LineLemmas.{line_does}
use Rattle.cfi_valid.proofs.LiveLemmas.{live_stays}
use Rattle.cfi_valid.specs.Journal.{EntriesLead, EntryLeads, IsOpeningState, JournalState, LineLeads, live_in, members_of}
use Rattle.cfi_valid.specs.Loaded.{LoadedModule, live_at, loaded_by}
use Rattle.cfi_judge.specs.declared.fault.JournalFault.{JournalFault}
use Rattle.cfi_judge.specs.declared.fault.LineFault.{LineFault}
use Rattle.cfi_judge.specs.declared.fault.LineFault.TheVariants.{Illegal, Memory}
use Rattle.cfi_judge.specs.declared.meeting.Meeting.{Meeting}
use Rattle.cfi_judge.specs.declared.reached.Reached.{Reached}
use Rattle.cfi_judge.specs.Reached.{state_of}
use Rattle.cfi_judge.specs.inner.Lines.{IsEntryFault}
use Rattle.cfi_judge.specs.inner.Meets.{HasLive}
use Rattle.cfi_judge.specs.inner.Reached.{IsKeptIn, IsReached}
use Rattle.cfi_judge.specs.inner.Rows.{AreRows, IsMeeting, IsRow, LackLast}
use Rattle.cfi_judge.specs.inner.Walk.{IsWalkFault, at_line}
use Rattle.cfi_judge.proofs.ItemLemmas.{found}
use Rattle.cfi_judge.proofs.KindLemmas.{meeting_known, meeting_once}
use Rattle.cfi_judge.proofs.LiveLemmas.{has_live, started_flags}

-- the policy in force finds all loaded
pub all_found : (plan : Plan) (s : JournalState) → HavePolicies plan s → loaded_by s.policy s.loaded ≡ s.loaded
all_found plan s have = loaded_all s.policy s.loaded (policies_below plan s have)

module _ (plan : Plan) (modules : List Module) where
  -- ---- policies, line by line

  abbrev NextPolicy : (old new : JournalState) → Type 0
  NextPolicy old new = new.policy ≤ old.policy + 1

  next_policy : (old : JournalState) (line : JournalLine) (new : JournalState) → LineLeads plan modules old line new
      → NextPolicy old new
  next_policy old line new leads =
      line_does plan modules old (λ more gone s. NextPolicy old s) (omega arith)
      (λ number epoch policy load. omega (arith, load.next))
      (λ number epoch policy retire. omega (arith, retire.next))
      (λ epoch goes. omega arith) line new leads

  -- ---- before the first line

  pub none_yet : (start : JournalState) → IsOpeningState plan modules start → HavePolicies plan start → (words : ℕ)
      → LackLast words modules start []
  none_yet start opens have words = record {
    least = omega (arith, opens.policy);
    most = omega arith;
    each = λ policy row is. absurd (cc);
    all = all_found plan start have;
  }

  -- ---- the next line

  pub rows_near : (old : JournalState) (entry : Entry) (new : JournalState) → EntryLeads plan modules old entry new
      → HavePolicies plan new → (rows : List (List Meeting)) → AreRows plan.code_words modules old rows
      → LackLast plan.code_words modules new rows
  rows_near old entry new leads have rows are =
      let later = along_later plan modules old new (entry ∷ []) (new, leads, refl) in
      let next = next_policy old entry.what new leads.1 in
      record {
        least = omega (arith, next, are.count);
        most = omega (arith, later.policy, are.count);
        each = λ policy row is.
            let within : policy ≤ old.policy = omega (arith, slice_get_within rows policy row is, are.count) in
            subst (λ (ls : List LoadedModule).
            IsRow plan.code_words modules ls (live_at policy (members_of new)) row)
            (sym (loaded_stays old new later policy within))
            (subst (λ (ls : List LoadedModule). IsRow plan.code_words modules (loaded_by policy old.loaded) ls row)
            (sym (live_stays old new later policy within)) (are.each policy row is));
        all = all_found plan new have;
      }

  -- the first entries lead to this state, which has its rows
  pub record HasWalked (start : JournalState) (journal : List Entry) (number : ℕ) (reached : Reached) : Type 0 where
    pub leads : EntriesLead plan modules start (take number journal) (state_of reached)
    pub is : IsReached plan modules reached

  -- ---- one line more

  module _ (start : JournalState) (journal : List Entry) (number : ℕ) (reached : Reached)
      (walked : HasWalked start journal number reached) (within : number < length journal) (d : Entry) where
    abbrev entry : Entry
    entry = get_or journal number d

    pub walk_fault : (fault : LineFault) → IsEntryFault plan modules (state_of reached) entry fault
        → (told : JournalFault) → told ≡ at_line number fault → IsWalkFault plan modules start journal told
    walk_fault Illegal never told is =
        subst (IsWalkFault plan modules start journal) (sym is) (record {
          entry = entry;
          is = slice_get-get_or journal number d within;
          before = state_of reached;
          leads = walked.leads;
          never = λ new leads. never (new, leads);
        })
    walk_fault Memory never told is = subst (IsWalkFault plan modules start journal) (sym is) tt

    module _ (next : Reached) (leads : EntryLeads plan modules (state_of reached) entry (state_of next))
        (kept : IsKeptIn plan next) (same : next.rows ≡ reached.rows) where
      abbrev before : List (List Meeting)
      before = next.rows.items

      have : HavePolicies plan (state_of next)
      have = line_policies plan modules (state_of reached) entry.what (state_of next) walked.is.policies leads.1

      pub live_next : HasLive next.roster (live_in (state_of next))
      live_next = has_live plan next kept have

      along : EntriesLead plan modules start (take (number + 1) journal) (state_of next)
      along =
          subst (λ (es : List Entry). EntriesLead plan modules start es (state_of next))
          (sym (take_more journal number d within))
          (along_more plan modules start (take number journal) entry (state_of reached) (state_of next) walked.leads
          leads)

      near : LackLast plan.code_words modules (state_of next) before
      near =
          rows_near (state_of reached) entry (state_of next) leads have before
          (subst (λ (rows : Vec (List Meeting) Global). AreRows plan.code_words modules (state_of reached) rows.items)
          (sym same) walked.is.rows)

      pub rows_lack : LackLast next.roster.code_words modules (state_of next) before
      rows_lack =
          subst (λ (n : ℕ). LackLast n modules (state_of next) before) (sym kept.stands.code_words_are) near

      pub rows_next : (rows : Vec (List Meeting) Global)
          → AreRows next.roster.code_words modules (state_of next) rows.items → (after : Reached)
          → after ≡ record next { rows = rows } → HasWalked start journal (number + 1) after
      rows_next rows are after is =
          subst (λ (x : Reached). HasWalked start journal (number + 1) x) (sym is) (record {
            leads = along;
            is = record {
              kept = record { stands = kept.stands; flags = kept.flags };
              rows = subst (λ (n : ℕ). AreRows n modules (state_of next) rows.items) kept.stands.code_words_are are;
              policies = have;
            };
          })

-- ---- the opening

module _ (plan : Plan) (modules : List Module) (can : CanStart plan modules) (roster : Roster)
    (started : AreStarted plan modules (length plan.modules) roster) where
  opens : IsOpeningState plan modules (opened_state plan roster)
  opens = started_all plan modules roster started

  policies : HavePolicies plan (opened_state plan roster)
  policies = opening_policies plan modules (opened_state plan roster) opens can.most_starts

  pub opening_lacks : LackLast roster.code_words modules (opened_state plan roster) []
  opening_lacks = none_yet plan modules (opened_state plan roster) opens policies roster.code_words

  -- with its row
  module _ (none : Vec (List Meeting) Global) where
    abbrev first : Reached
    first = record { epoch = plan.first; policy = 0; roster = roster; rows = none }

    first_kept : IsKeptIn plan first
    first_kept = record {
      stands = started.roster_is;
      flags = started_flags plan modules (length plan.modules) roster started;
    }

    pub opening_live : HasLive roster (live_in (state_of first))
    opening_live = has_live plan first first_kept policies

    pub opening_state : {E : Type 0} (r : Result Reached E) → IfOk r (λ new. new ≡ record first { rows = new.rows })
        → IfOk r (λ new. state_of new ≡ opened_state plan roster)
    opening_state (Ok new) same = ap state_of same
    opening_state (Err fault) same = tt

    pub opening_reached : {E : Type 0} (r : Result Reached E) → IfOk r (λ new. new ≡ record first { rows = new.rows })
        → IfOk r (λ new. AreRows roster.code_words modules (opened_state plan roster) new.rows.items)
        → IfOk r (IsReached plan modules)
    opening_reached (Ok new) same rows =
        subst (IsReached plan modules) (sym same) (record {
          kept = record { stands = first_kept.stands; flags = first_kept.flags };
          rows = subst (λ (n : ℕ). AreRows n modules (opened_state plan roster) new.rows.items)
              started.roster_is.code_words_are rows;
          policies = policies;
        })
    opening_reached (Err fault) same rows = tt

-- ---- what is looked up

module _ (plan : Plan) (modules : List Module) (r : Reached) (is : IsReached plan modules r) (row : List Meeting)
    (here : slice_get r.rows.items r.policy ≡ Some row) (number : ℕ) (meeting : Meeting) where
  abbrev loaded : List LoadedModule
  loaded = loaded_in_roster r.roster

  abbrev live : List LoadedModule
  live = live_in (state_of r)

  in_force : IsRow plan.code_words modules loaded live row
  in_force =
      subst (λ (ls : List LoadedModule). IsRow plan.code_words modules ls live row)
      (all_found plan (state_of r) is.policies) (is.rows.each r.policy row here)

  pub looked_up : (answer : Bool) → (IsTrue answer ↔ (slice_get row number ≡ Some meeting))
      → IsTrue answer ↔ IsMeeting plan.code_words modules loaded live number meeting
  looked_up answer exact = (
    λ yes. in_force.each number meeting (exact.0 yes),
    λ meets.
        let known = meeting_known plan.code_words modules loaded live number meeting meets in
        let one = found row number (omega (arith, known, in_force.count)) in
        let same : one.0 ≡ meeting =
        meeting_once plan.code_words modules loaded live number one.0 meeting (in_force.each number one.0 one.1)
        meets in
        exact.1 (one.1 ∙ ap (λ (m : Meeting). Some m) same),
  )
