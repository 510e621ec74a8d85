-- The replay of the guest of the run with a load.
use Rattle.std.proofs.Common.{ℕ, ◌*◌, ◌++◌, List, [], ◌∷◌, refl, arith}
use Rattle.std.specs.List.{flat_map}
use Rattle.cfi_model.specs.State.{State, opened}
use Rattle.cfi_policy.specs.Code.{IsCodeOf}
use Rattle.cfi_modules.specs.Loaded.{AreLoaded}
use Rattle.cfi_unit.specs.declared.log.Log.{Log}
use Rattle.cfi_unit.specs.declared.log.Log.TheVariants.{Pick, Open}
use Rattle.cfi_unit.specs.declared.unit.Unit.{Unit as CodeUnit}
use Rattle.cfi_unit.specs.Unit.{words_of}
use Rattle.cfi_valid.specs.Loaded.{Filled, start_fills}
use Rattle.cfi_valid.specs.Replay.{Replays}
use Rattle.cfi_valid.proofs.example.ExampleCode.{code_at, is_code_at}
use Rattle.cfi_valid.proofs.example.EvaluatedReplay.{state_after, replays}
use Rattle.cfi_valid.proofs.example.LoadPlaced.{opener_units, plug_units, opener_placed, plug_placed, opener_joins, plug_joins}
use Rattle.cfi_valid.proofs.example.LoadPolicy.{may_call, may_return}
use Rattle.cfi_word.specs.declared.limits.TheConstants.{MIN_CODE_WORDS}
use Rattle.cfi_word.specs.declared.map.TheConstants.{FIRST_BASE}
use Rattle.cfi_valid.proofs.example.LoadJournal.{members}
use Rattle.cfi_valid.proofs.example.EndedExample.{are_loaded}

-- ---- the code

all_loaded : AreLoaded MIN_CODE_WORDS (opener_placed ∷ plug_placed ∷ [])
all_loaded =
    are_loaded MIN_CODE_WORDS opener_placed (plug_placed ∷ [])
    (record { multiple = refl; least = omega arith; most = omega arith }) (refl, refl)
    (record { words = refl; slots = refl }, tt) refl (opener_joins.verified, (plug_joins.verified, tt))

abbrev units : List CodeUnit
units = opener_units ++ plug_units

abbrev pub code : List ℕ
code = code_at MIN_CODE_WORDS (flat_map words_of units)

pub is_code : IsCodeOf (opener_placed ∷ plug_placed ∷ []) MIN_CODE_WORDS code
is_code = is_code_at MIN_CODE_WORDS (opener_placed ∷ plug_placed ∷ []) (flat_map words_of units) refl all_loaded

-- ---- the run

abbrev pub log : List Log
log = Open 1 144 1 ∷ Pick 1 2 ∷ []

abbrev s0 : State
s0 = opened 0 (4 * FIRST_BASE) (start_fills Filled members)

abbrev pub s7 : State
s7 = state_after units members log 7 s0

pub r7 : Replays Filled code members log 7 s0 s7
r7 = replays units members log MIN_CODE_WORDS refl 7 s0 refl (may_call, (may_return, tt))
