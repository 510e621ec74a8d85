-- The replay of the guest of the run with tables.
use Rattle.std.proofs.Common.{List, [], ◌∷◌, refl}
use Rattle.cfi_model.specs.State.{State, opened}
use Rattle.cfi_unit.specs.declared.log.Log.{Log}
use Rattle.cfi_unit.specs.declared.log.Log.TheVariants.{Pick, Open}
use Rattle.cfi_valid.specs.Loaded.{Filled, start_fills}
use Rattle.cfi_valid.specs.Replay.{Replays}
use Rattle.cfi_valid.proofs.example.EvaluatedReplay.{state_after, replays}
use Rattle.cfi_valid.proofs.example.TableJournal.{members, units, code}
use Rattle.cfi_valid.proofs.example.TablePolicy.{tail_allowed, twice_allowed, case_allowed, choose_allowed, call_allowed, plus_allowed}
use Rattle.cfi_word.specs.declared.limits.TheConstants.{MAX_CODE_WORDS}

abbrev pub log : List Log
log = Pick 0 4 ∷ Open 2 632 1 ∷ Pick 1 2 ∷ []

abbrev s0 : State
s0 = opened 0 500 (start_fills Filled members)

abbrev pub s38 : State
s38 = state_after units members log 38 s0

pub r38 : Replays Filled code members log 38 s0 s38
r38 = replays units members log MAX_CODE_WORDS refl 38 s0 refl
    (tail_allowed, (twice_allowed, (case_allowed, (choose_allowed, (call_allowed, (plus_allowed, tt))))))
