-- What the steps of an update before its EPOCH store leave of the agreement of the tables with the journal.
use Rattle.std.proofs.Common.{◌≡◌, ◌≢◌, ℕ, ◌<◌, ◌≤◌, ◌==◌, ◌++◌, List, [], ◌∷◌, length, Option, Some, None, refl, sym, ◌∙◌, ap, subst, arith}
use Rattle.cfi_ledger.specs.Policies.{IsPolicyOf}
use Rattle.cfi_sim.specs.Agrees.{IsEntryFor, coming_by, coming, HasComingEntry, TablesAgree}
use Rattle.cfi_sim.proofs.journal.ComingLemmas.{none_comes, storing_comes, asked_comes}
use Rattle.cfi_model.specs.Tables.{IsTables, IsRefresh}
use Rattle.cfi_word.specs.Rank.{stores_of}
use Rattle.cfi_world.specs.Updates.{asked_entry, begun, dropped}
use Rattle.cfi_model.specs.InForce.{in_force}
use Rattle.cfi_world.proofs.UpdateLemmas as updates
use Rattle.cfi_policy.specs.Image.{IsImage}
use Rattle.cfi_aux.specs.declared.modules.Module.{Module}
use Rattle.cfi_sim.specs.declared.aim.Aim.{Aim}
use Rattle.cfi_sim.specs.declared.aim.Aim.TheVariants.{Loading, Refreshing}
use Rattle.cfi_valid.specs.Loaded.{placed_modules}
use Rattle.cfi_plan.specs.declared.plan.Plan.{Plan}
use Rattle.cfi_model.proofs.InForceLemmas.{force_within}
use Rattle.cfi_word.specs.declared.lists.Image.{Image}
use Rattle.cfi_world.proofs.StoringLemmas.{AreIdle, force_newest, force_before}
use Rattle.cfi_valid.specs.Journal.{JournalState, IsClean, members_of}
use Rattle.cfi_model.specs.declared.history.Entry.{Entry}
use Rattle.cfi_model.specs.Words.{Tables, entry_at, newest}
use Rattle.cfi_graph.specs.Direct.{DirectEdge}

module _ (plan : Plan) (modules : List Module) (state : JournalState) where
  -- ---- an update is asked for

  -- a refresh keeps what is in force
  pub refreshes : (t : Tables) → AreIdle t
      → IsEntryFor plan modules state (entry_at t (in_force t)) Refreshing (asked_entry t None)
  refreshes t idle =
      subst (λ (k : ℕ). IsRefresh (entry_at t k) (asked_entry t None)) (sym (force_newest t idle.stored))
      (record { policy = refl; image = refl })

  -- an image of all modules with one more is that of a load
  pub loads : (t : Tables) → AreIdle t → TablesAgree plan modules state None t → (number : ℕ)
      → (clean : IsClean plan modules state number) (image : Image)
      → (let all = placed_modules state.loaded ++ clean.placed ∷ [] in
      IsImage (DirectEdge all) all plan.code_words image)
      → IsEntryFor plan modules state (entry_at t (in_force t)) (Loading number) (asked_entry t (Some image))
  loads t idle agrees number clean image of =
      let now : (entry_at t (in_force t)).policy ≡ (entry_at t (newest t)).policy =
      ap (λ (k : ℕ). (entry_at t k).policy) (force_newest t idle.stored) in
      record { clean = clean; policy = omega (arith, now, agrees.policy); image = of }

  pub begins : (aim : Aim) (image : Option Image) (t : Tables) → TablesAgree plan modules state None t
      → IsEntryFor plan modules state (entry_at t (in_force t)) aim (asked_entry t image)
      → TablesAgree plan modules state (Some aim) (begun image t)
  begins aim image t agrees entry = record {
    code_words = agrees.code_words;
    versions = agrees.versions;
    first = agrees.first;
    epoch = agrees.epoch;
    policy = agrees.policy;
    series = agrees.series;
    apart = agrees.apart;
    low = agrees.low;
    few = agrees.few;
    stay = agrees.stay;
    entries = agrees.entries;
    aims = entry;
  }

  -- ---- it is not admitted

  pub drops : (aim : Option Aim) (t : Tables) → stores_of t.code_words ≤ t.stored → TablesAgree plan modules state aim t
      → TablesAgree plan modules state None (dropped t)
  drops aim t all agrees = record {
    code_words = agrees.code_words;
    versions = agrees.versions;
    first = agrees.first;
    epoch = agrees.epoch;
    policy = agrees.policy;
    series = agrees.series;
    apart = agrees.apart;
    low = agrees.low;
    few = agrees.few;
    stay = agrees.stay;
    entries = agrees.entries;
    aims = subst (HasComingEntry plan modules state (entry_at t (in_force t)) None)
        (sym (none_comes (in_force t) (newest t) (entry_at t (newest t)) (force_newest t all))) tt;
  }

  -- ---- what is in force stays

  pub stays : (aim : Option Aim) (t : Tables) (stores tests : ℕ)
      → in_force (record t { stored = stores; tested = tests }) ≡ in_force t → TablesAgree plan modules state aim t
      → TablesAgree plan modules state aim (record t { stored = stores; tested = tests })
  stays aim t stores tests same agrees = record {
    code_words = agrees.code_words;
    versions = agrees.versions;
    first = agrees.first;
    epoch = omega (arith, agrees.epoch, same);
    policy = agrees.policy ∙ ap (λ (k : ℕ). (entry_at t k).policy) (sym same);
    series = agrees.series;
    apart = agrees.apart;
    low = agrees.low;
    few = agrees.few;
    stay = agrees.stay;
    entries = λ number most. agrees.entries number (omega (arith, most, same));
    aims = subst
        (λ (k : ℕ). HasComingEntry plan modules state (entry_at t k) aim
        (coming_by t.asked (k == newest t) (entry_at t (newest t)))) (sym same) agrees.aims;
  }

  -- ---- its test is passed: the stores begin

  pub passes : (aim : Option Aim) (t : Tables) (is : IsTables t) (e : Entry) (asked : t.asked ≡ Some e)
      → stores_of t.code_words ≤ t.stored → TablesAgree plan modules state aim t
      → TablesAgree plan modules state aim (updates.begins t is e asked)
  passes aim t is e asked all agrees =
      let u : Tables = updates.begins t is e asked in
      let longer = updates.one_more t is e asked in
      let force = force_before u (updates.begins_most t is e asked) in
      let same : in_force u ≡ in_force t = omega (arith, force, longer, force_newest t all) in
      let apart : in_force u ≢ newest u = λ both. omega (arith, force, both, longer, is.some) in
      let within : in_force t < length t.entries = force_within t is in
      let now : entry_at u (in_force u) ≡ entry_at t (in_force t) =
      ap (entry_at u) same ∙ updates.old_entry t is e asked (in_force t) within in
      let last : newest u ≡ length t.entries = omega (arith, longer) in
      let comes : coming u ≡ Some e =
      storing_comes u refl apart ∙ ap (λ (x : Entry). Some x) (ap (entry_at u) last ∙ updates.new_entry t is e asked) in
      record {
        code_words = agrees.code_words;
        versions = agrees.versions;
        first = agrees.first;
        epoch = omega (arith, agrees.epoch, same);
        policy = agrees.policy ∙ ap (λ (x : Entry). x.policy) (sym now);
        series = agrees.series;
        apart = agrees.apart;
        low = agrees.low;
        few = agrees.few;
        stay = agrees.stay;
        entries = λ number most.
            subst (IsPolicyOf plan.code_words (members_of state))
            (sym (updates.old_entry t is e asked number (omega (arith, most, same, within))))
            (agrees.entries number (omega (arith, most, same)));
        aims = subst (λ (x : Entry). HasComingEntry plan modules state x aim (coming u)) (sym now)
            (subst (HasComingEntry plan modules state (entry_at t (in_force t)) aim) (sym comes)
            (subst (HasComingEntry plan modules state (entry_at t (in_force t)) aim) (asked_comes t e asked)
            agrees.aims));
      }
