-- The modules of a journal are a series.
use Rattle.std.proofs.Common.{◌≡◌, ℕ, List, [], ◌∷◌, Option, Some, None, All, refl, sym, subst}
use Rattle.std.specs.List.{slice_get, cons_option}
use Rattle.std.proofs.lemmas.List.{map-append}
use Rattle.std.proofs.lemmas.List.Elements.{All-nil, All-cons}
use Rattle.std.proofs.lemmas.Option.{slice_get_within, get_or_from_slice_get}
use Rattle.cfi_aux.specs.declared.modules.Module.{Module}
use Rattle.cfi_aux.specs.Sound.{IsSoundModule}
use Rattle.cfi_plan.specs.declared.journal.Entry.{Entry}
use Rattle.cfi_plan.specs.declared.journal.JournalLine.{JournalLine}
use Rattle.cfi_plan.specs.declared.plan.Plan.{Plan}
use Rattle.cfi_modules.specs.Series.{IsSeries}
use Rattle.cfi_modules.proofs.OrderLemmas.{series_more, order_series}
use Rattle.cfi_valid.specs.Journal.{JournalState, members_of, live_in, modules_at, starts_from, IsOpeningState, IsLoadLine, with_loaded, LineLeads, EntriesLead, IsJournal}
use Rattle.cfi_valid.specs.Loaded.{LoadedModule, placed_modules}
use Rattle.cfi_valid.proofs.LineLemmas.{line_does}
use Rattle.cfi_valid.proofs.LiveLemmas.{live_among_all}
use Rattle.cfi_word.specs.Table.{IsSize}

-- ---- sound modules

-- what is found in a list of sound modules is sound
module _ (modules : List Module) (sound : All IsSoundModule modules) where
  sound_there : (number : ℕ) (m : Module) → slice_get modules number ≡ Some m → IsSoundModule m
  sound_there number m is =
      subst IsSoundModule (get_or_from_slice_get modules number m m is)
      (sound number m (slice_get_within modules number m is))

  found_sound : (number : ℕ) (o : Option Module) → slice_get modules number ≡ o → (later : List Module)
      → All IsSoundModule later → All IsSoundModule (cons_option o later)
  found_sound number None is later all = all
  found_sound number (Some m) is later all = All-cons IsSoundModule m later (sound_there number m is) all

  sound_at : (numbers : List ℕ) → All IsSoundModule (modules_at modules numbers)
  sound_at [] = All-nil IsSoundModule
  sound_at (number ∷ numbers) =
      found_sound number (slice_get modules number) refl (modules_at modules numbers) (sound_at numbers)

-- ---- a series

module _ (plan : Plan) (modules : List Module) (size : IsSize plan.code_words) (sound : All IsSoundModule modules) where
  abbrev Stands : JournalState → Type 0
  Stands s = IsSeries plan.code_words (placed_modules s.loaded)

  opening_series : (s : JournalState) → IsOpeningState plan modules s → Stands s
  opening_series s opens =
      let numbers : List ℕ = starts_from 0 plan.modules in
      order_series plan.code_words (modules_at modules numbers) (placed_modules s.loaded) size
      (sound_at modules sound numbers) opens.order

  load_series : (old : JournalState) → Stands old → (number epoch policy : ℕ)
      → (load : IsLoadLine plan modules old number epoch policy)
      → Stands (with_loaded number epoch policy load.clean.placed old)
  load_series old series number epoch policy load =
      let m : Module = load.clean.absent.unplaced in
      let one : LoadedModule = record { number = number; placed = load.clean.placed; policy = policy } in
      subst (IsSeries plan.code_words) (sym (map-append (λ (l : LoadedModule). l.placed) old.loaded (one ∷ [])))
      (series_more plan.code_words (placed_modules old.loaded) m load.clean.placed series
      (sound_there modules sound number m load.clean.absent.is)
      (placed_modules (live_in old), live_among_all old.policy (members_of old), load.clean.joins))

  line_series : (old new : JournalState) (line : JournalLine) → LineLeads plan modules old line new → Stands old
      → Stands new
  line_series old new line leads series =
      line_does plan modules old (λ more gone s. Stands s) series (load_series old series)
      (λ number epoch policy retire. series) (λ epoch goes. series) line new leads

  along_series : (old new : JournalState) (entries : List Entry) → EntriesLead plan modules old entries new
      → Stands old → Stands new
  along_series old new [] along series = subst Stands (sym along) series
  along_series old new (entry ∷ entries) along series =
      along_series along.0 new entries along.2 (line_series old along.0 entry.what along.1.1 series)

pub journal_series : (plan : Plan) (modules : List Module) (journal : List Entry) (end : JournalState)
    → IsSize plan.code_words → All IsSoundModule modules → IsJournal plan modules journal end
    → IsSeries plan.code_words (placed_modules end.loaded)
journal_series plan modules journal end size sound is =
    along_series plan modules size sound is.opening end journal is.leads
    (opening_series plan modules size sound is.opening is.opens)
