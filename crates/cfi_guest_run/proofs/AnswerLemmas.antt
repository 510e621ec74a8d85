-- A runner after the answer to an open of a module of the plan.
use Rattle.std.proofs.Common.{◌≡◌, ◌≢◌, ◌≤◌, ◌<◌, ◌&&◌, ℕ, Bool, Option, Some, None, All, List, [], ◌∷◌, ◌++◌, refl, sym, ap, subst, ◌∙◌, arith}
use Rattle.std.specs.Prelude.{filter, nat_le, nat_lt}
use Rattle.std.proofs.lemmas.List.Elements.{All-append, All-cons, All-filter, All-head, All-map, All-nil, All-tail}
use Rattle.cfi_aux.specs.declared.modules.Module.{Module}
use Rattle.cfi_aux.specs.declared.placed.Placed.{Placed}
use Rattle.cfi_graph.specs.Named.{entry_among}
use Rattle.cfi_loader.specs.Ledger.{Ledger, IsLedger}
use Rattle.cfi_loader.specs.Passes.{reply_with}
use Rattle.cfi_ledger.specs.Opens.{IsAddressOf}
use Rattle.cfi_ledger.specs.Journal.{asked_by}
use Rattle.cfi_loader.specs.Told.{HasTold}
use Rattle.cfi_ledger.proofs.PolicyLemmas.{policies_below, policies_left}
use Rattle.cfi_model.specs.declared.act.Wait.TheVariants as waits
use Rattle.cfi_model.specs.Data.{LiesInData}
use Rattle.cfi_model.specs.Log.{last_policy, opens}
use Rattle.cfi_model.specs.Raw.{Raw}
use Rattle.cfi_model.specs.Run.{Served, serve_as, serve_of}
use Rattle.cfi_model.specs.Service.{Reply, argument, reply_of}
use Rattle.cfi_plan.specs.declared.journal.Entry.{Entry}
use Rattle.cfi_plan.specs.declared.journal.JournalLine.{JournalLine}
use Rattle.cfi_plan.specs.declared.journal.Who.TheVariants.{Guest}
use Rattle.cfi_plan.specs.declared.plan.Plan.{Plan}
use Rattle.cfi_runner.specs.Laws.{MayServe}
use Rattle.cfi_modules.specs.Fills.{fill_of, fills_of}
use Rattle.cfi_aux.specs.Sound.{IsSoundModule}
use Rattle.cfi_modules.proofs.CellLemmas.{cells_lie}
use Rattle.cfi_modules.proofs.PrefixLemmas.{data_lies}
use Rattle.cfi_tables.specs.Key.{Key}
use Rattle.cfi_tables.specs.Views.{noted}
use Rattle.cfi_tables.specs.declared.view.PassView.{PassView}
use Rattle.cfi_unit.specs.declared.log.Log.{Log}
use Rattle.cfi_unit.specs.declared.log.Log.TheVariants.{Open, Cause}
use Rattle.cfi_valid.specs.Course.{Course}
use Rattle.cfi_valid.specs.Growth.{Continues, FitsEntry, IsLater}
use Rattle.cfi_valid.specs.Journal.{live_in, members_of}
use Rattle.cfi_valid.specs.Loaded.{LoadedModule, Filled, cells_at, data_between, fills_between, loaded_by, placed_modules}
use Rattle.cfi_valid.specs.Log.{IsLogged}
use Rattle.cfi_valid.specs.Replay.{given_by}
use Rattle.cfi_valid.proofs.EntryGrowth.{log_grows}
use Rattle.cfi_valid.proofs.GrowthLemmas.{along_later}
use Rattle.cfi_valid.proofs.SeriesLemmas.{journal_series}
use Rattle.cfi_word.specs.declared.limits.TheConstants.{MAX_OPENS, MAX_POLICY}
use Rattle.cfi_word.specs.declared.services.TheConstants.{NO_FUNCTION, OPEN, TOO_MANY}
use Rattle.cfi_guest_run.specs.Path.{IsDueWith}
use Rattle.cfi_guest_run.specs.Runner.{HasAsked, IsRunnerBy, IsServed, SeesOn}
use Rattle.cfi_guest_run.specs.Serving.{IsPassTold}
use Rattle.cfi_guest_run.proofs.CauseLemmas.{fits_no_function, fits_open}
use Rattle.cfi_guest_run.proofs.NoteLemmas.{told_fits, told_policy, told_settled}
use Rattle.cfi_guest_run.proofs.SeesLemmas.{on_noted}
use Rattle.cfi_guest_run.proofs.ServeLemmas.{runner_served}

-- ---- what a ledger's modules bring lies in private data

abbrev Lies : LoadedModule → Type 0
Lies l = LiesInData (fill_of l.placed)

each_lies : (loaded : List LoadedModule) → All LiesInData (fills_of (placed_modules loaded)) → All Lies loaded
each_lies [] all = All-nil Lies
each_lies (l ∷ loaded) all =
    let rest = fills_of (placed_modules loaded) in
    All-cons Lies l loaded (All-head LiesInData (fill_of l.placed) rest all)
    (each_lies loaded (All-tail LiesInData (fill_of l.placed) rest all))

passed_lie : (passes : LoadedModule → Bool) (loaded : List LoadedModule) → All Lies loaded
    → All LiesInData (fills_of (placed_modules (filter passes loaded)))
passed_lie passes loaded all =
    All-map LiesInData fill_of (placed_modules (filter passes loaded))
    (All-map (λ (m : Placed). LiesInData (fill_of m)) (λ (l : LoadedModule). l.placed) (filter passes loaded)
    (All-filter passes Lies loaded all))

module _ (k : Key) (plan : Plan) (modules : List Module) (l : Ledger) (is : IsLedger k plan modules l) where
  pub policy_fits : l.course.end.policy ≤ MAX_POLICY
  policy_fits = omega (arith, policies_left l.course.plan l.course.end is.policies)

  pub fills_lie : (given : ℕ)
      → All LiesInData (fills_between Filled given l.course.end.policy (members_of l.course.end))
  fills_lie given =
      let policy = l.course.end.policy in
      let loaded = l.course.end.loaded in
      let found = placed_modules (loaded_by policy loaded) in
      let sound : All IsSoundModule l.course.modules = λ at d within. (is.can_start.taken at d within).sound in
      let series = journal_series l.course.plan l.course.modules l.course.journal l.course.end is.can_start.code_words
      sound is.course in
      let each = each_lies loaded (data_lies l.course.plan.code_words (placed_modules loaded) series) in
      All-append LiesInData (data_between given policy loaded) (cells_at policy (members_of l.course.end))
      (passed_lie (λ (m : LoadedModule). nat_lt given m.policy && nat_le m.policy policy) loaded each)
      (cells_lie (entry_among (placed_modules (live_in l.course.end))) found
      (passed_lie (λ (m : LoadedModule). nat_le m.policy policy) loaded each))

-- what an answer makes of the log
pub served_log_is : (r : Raw) (reply : Reply) → r.waits ≡ Some (waits.Service OPEN)
    → (serve_of r reply).base.log ≡ (serve_as (Some (waits.Service OPEN)) r reply).base.log
served_log_is r reply wait = ap (λ w. (serve_as w r reply).base.log) wait

module _ (k : Key) (plan : Plan) (modules : List Module) (p : PassView) (r : Raw) (first : Ledger)
    (at : IsRunnerBy k plan modules p r first) (asked : HasAsked k plan.fuel p r OPEN)
    (few : opens r.base.log < MAX_OPENS) (logged : IsLogged first.course p.guest r.base.log) (line : JournalLine)
    (l : Ledger) (told : HasTold k (asked_by (Guest p.guest) line) first l) (is : IsLedger k plan modules l)
    (note : IsPassTold k plan modules l p (noted k l.keeping p)) where
  abbrev n : PassView
  n = noted k l.keeping p

  abbrev entry : Entry
  entry = asked_by (Guest p.guest) line

  abbrev old : Course
  old = first.course

  abbrev new : Course
  new = record { plan = old.plan; modules = old.modules; journal = old.journal ++ entry ∷ []; end = l.course.end }

  goes : Continues old new
  goes = record {
    plan = refl;
    modules = refl;
    more = entry ∷ [];
    journal = refl;
    leads = (l.course.end, told.course.leads, refl);
  }

  pub later : IsLater old.end l.course.end
  later = along_later old.plan old.modules old.end l.course.end (entry ∷ []) (l.course.end, told.course.leads, refl)

  wait : r.waits ≡ Some (waits.Service OPEN)
  wait = ap (λ x. x.waits) asked.run.pauses.0 ∙ asked.run.pauses.1

  on : SeesOn k p n
  on = on_noted k l.keeping p is.told.tables note.agrees asked.sees.sees.is

  -- the log with the entry of the answer fits the run
  logged_more : (one : Log) → FitsEntry old new p.guest r.base.log one
      → IsLogged l.course p.guest (r.base.log ++ one ∷ [])
  logged_more one fits =
      subst (λ (z : (Plan × List Module) × List Entry). IsLogged
      (record { plan = z.0.0; modules = z.0.1; journal = z.1; end = l.course.end }) p.guest (r.base.log ++ one ∷ []))
      (λ i. ((sym told.course.plan_is i, sym told.course.modules_are i), sym told.course.journal_is i))
      (log_grows old new goes p.guest r.base.log logged one fits)

  -- the guest goes on with the answer
  answered : (one : Log) (reply : Reply) → (serve_of r reply).base.log ≡ r.base.log ++ one ∷ []
      → FitsEntry old new p.guest r.base.log one → MayServe k n.sight OPEN reply r
      → IsDueWith l.course.end r (Served reply) → IsServed k plan modules n (serve_of r reply)
  answered one reply is_log fits may due = (
    l,
    runner_served k plan modules p n r OPEN asked on first l at (told_settled k plan modules l p is) later reply may due
        (told_fits k plan modules l p is p.guest (serve_of r reply).base.log
        (subst (IsLogged l.course p.guest) (sym is_log) (logged_more one fits))),
  )

  -- ---- a refusal

  pub refused : (cause : ℕ) → cause ≢ 0 → cause ≢ TOO_MANY
      → (serve_of r (reply_of 0 cause l.course.end.policy [])).base.log
      ≡ r.base.log ++ Cause (argument r.base) cause ∷ []
      → FitsEntry old new p.guest r.base.log (Cause (argument r.base) cause)
      → IsServed k plan modules n (serve_of r (reply_of 0 cause l.course.end.policy []))
  refused cause some known is_log fits =
      answered (Cause (argument r.base) cause) (reply_of 0 cause l.course.end.policy []) is_log fits (record {
        fits = λ asks. record {
          answer = record {
            inside = All-nil LiesInData;
            few = λ any. few;
            rises = λ free. absurd (some free);
            most = λ free. absurd (some free);
          };
          exact = λ any. known;
        };
        known = λ free. absurd (some free);
      }) (λ free. absurd (some free))

  -- ---- a module that is live

  pub opened : (address : ℕ) → IsAddressOf (live_in l.course.end) (argument r.base) (Some address)
      → IsServed k plan modules n (serve_of r (reply_with l r.base.log (Some address)))
  opened address has =
      let reply = reply_with l r.base.log (Some address) in
      let rises : last_policy r.base.log ≤ l.course.end.policy = omega (arith, logged.most, later.policy) in
      answered (Open (argument r.base) address l.course.end.policy) reply (served_log_is r reply wait)
      (fits_open old p.guest r.base.log logged l.course.end later.policy
      (policies_below l.course.plan l.course.end is.policies) (argument r.base) 0 entry address has)
      (record {
        fits = λ asks. record {
          answer = record {
            inside = fills_lie k plan modules l is (given_by r.base.log);
            few = λ any. few;
            rises = λ free. rises;
            most = λ free. policy_fits k plan modules l is;
          };
          exact = λ any same. absurd (omega (arith, same));
        };
        known = λ free. omega (arith, told_policy k plan modules l p is);
      })
      (λ free. record { most = omega arith; fills = refl })

  pub opened_none : IsAddressOf (live_in l.course.end) (argument r.base) None
      → IsServed k plan modules n (serve_of r (reply_with l r.base.log None))
  opened_none none =
      refused NO_FUNCTION (λ e. absurd (omega (arith, e))) (λ e. absurd (omega (arith, e)))
      (served_log_is r (reply_of 0 NO_FUNCTION l.course.end.policy []) wait)
      (fits_no_function old p.guest r.base.log logged l.course.end later.policy
      (policies_below l.course.plan l.course.end is.policies) (argument r.base) NO_FUNCTION entry none refl)

  pub given : (found : Option ℕ) → IsAddressOf (live_in l.course.end) (argument r.base) found
      → IsServed k plan modules n (serve_of r (reply_with l r.base.log found))
  given None has = opened_none has
  given (Some address) has = opened address has
