-- A guest of the raw machine over what its pass loads.
use Rattle.std.specs.Prelude.{◌≡◌, ℕ, ◌≤◌, List, [], ◌∷◌, ◌++◌, map, Some, None, ⊤}
use Rattle.cfi_unit.specs.declared.log.Stop.TheVariants as stops
use Rattle.cfi_model.specs.declared.act.Wait.TheVariants as waits
use Rattle.cfi_model.specs.declared.history.Access.{Access}
use Rattle.cfi_model.specs.Came.{AsksFor}
use Rattle.cfi_model.specs.Fits.{Along}
use Rattle.cfi_model.specs.Log.{last_policy}
use Rattle.cfi_model.specs.Raw.{Raw}
use Rattle.cfi_model.specs.Run.{Take, Word, take_one, run_of}
use Rattle.cfi_model.specs.Running.{IsSpent}
use Rattle.cfi_model.specs.Shows.{IsReady}
use Rattle.cfi_tables.specs.Key.{Key}
use Rattle.cfi_tables.specs.declared.view.PassView.{PassView}
use Rattle.cfi_tables.specs.declared.view.Sight.{Sight}
use Rattle.cfi_runner.specs.Picks.{HasPicked}
use Rattle.cfi_runner.specs.Seen.{IsSight, SeesMore, history_seen, code_seen, policy_seen}
use Rattle.cfi_runner.specs.declared.pause.Pause.{Pause}
use Rattle.cfi_runner.specs.declared.pause.Pause.TheVariants as pauses

-- a guest can run: it has not stopped, waits for nothing and keeps no table word, stands at a start of an image that
-- its pass has seen in force, has logged no policy above the latest one, and has at most this fuel behind it
pub record CanRunOn (k : Key) (fuel : ℕ) (p : PassView) (r : Raw) : Type 0 where
  pub sight : IsSight k p.sight
  pub going : r.base.stop ≡ None
  pub idle : r.waits ≡ None
  pub fresh : (r.bary ≡ None) × (r.tary ≡ None)
  pub ready : IsReady (history_seen k p.sight) r.base
  pub logged : last_policy r.base.log ≤ policy_seen k p.sight
  pub within : r.base.steps ≤ fuel

-- each access is of the word that the state which it meets asks for
abbrev pub AreAsked : (code_words : ℕ) → Raw → List Access → Type 0
AreAsked code_words r [] = ⊤
AreAsked code_words r (access ∷ later) =
    AsksFor code_words r.waits r access.word × AreAsked code_words (take_one r (Word access.found)) later

-- what the raw machine takes of it: the word that was found
abbrev pub words_found : List Access → List Take
words_found accesses = map (λ access. Word access.found) accesses

-- The guest has run over these accesses, which its pass has appended. Whatever the pass sees later, they fit the
-- history that it has seen then.
pub record HasTaken (k : Key) (p q : PassView) (old new : Raw) : Type 0 where
  pub accesses : List Access
  pub appended : q.sight.accesses ≡ p.sight.accesses ++ accesses
  pub asked : AreAsked k.code_words old accesses
  pub is : new ≡ run_of old (words_found accesses)
  pub along : (later : Sight) → SeesMore k q.sight later
      → Along (history_seen k later) (code_seen k later) old (words_found accesses)

-- why the guest pauses, and in which state: it waits in a service, an instruction has stopped it, or the fuel, which it
-- has run, stops it before a fetch
abbrev pub PausesAt : Pause → (fuel : ℕ) → (last new : Raw) → Type 0
PausesAt (pauses.Service number) fuel last new =
    (new ≡ last) × (last.waits ≡ Some (waits.Service number)) × (last.base.stop ≡ None)
PausesAt (pauses.Halt target) fuel last new =
    (new ≡ last) × (last.waits ≡ None) × (last.base.stop ≡ Some (stops.Halt target))
PausesAt (pauses.Align address) fuel last new =
    (new ≡ last) × (last.waits ≡ None) × (last.base.stop ≡ Some (stops.Align address))
PausesAt pauses.Fuel fuel last new = IsSpent last new × (last.base.steps ≡ fuel)

-- what a run leaves of the pass: its guest, what this has published, whether it is parked, and what was seen
pub record KeepsSeat (k : Key) (old new : PassView) : Type 0 where
  pub guest : new.guest ≡ old.guest
  pub quiet : new.quiet ≡ old.quiet
  pub parked : new.parked ≡ old.parked
  pub refusals : new.sight.refusals ≡ old.sight.refusals
  pub sees : SeesMore k old.sight new.sight

-- A guest has run until it paused. It had run no more than its fuel before, and has logged no policy above the latest
-- one that its pass has seen in force. What it has logged are picks, none under a policy below the latest one that its
-- pass had seen before.
pub record HasRunOn (k : Key) (fuel : ℕ) (p q : PassView) (old new : Raw) (pause : Pause) : Type 0 where
  pub last : Raw
  pub taken : HasTaken k p q old last
  pub pauses : PausesAt pause fuel last new
  pub within : new.base.steps ≤ fuel
  pub keeps : KeepsSeat k p q
  pub logged : last_policy new.base.log ≤ policy_seen k q.sight
  pub picked : HasPicked (policy_seen k p.sight) (policy_seen k q.sight) old.base.log new.base.log
