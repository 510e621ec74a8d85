-- What the law of a running guest gives is a unit of a replay: what an image's classes let through is what the policy
-- of its epoch's number allows.
use Rattle.std.specs.Prelude.{◌≡◌, ℕ, List, length, Option, Some, None, ⊤}
use Rattle.cfi_model.specs.History.{History, IsEpoch, IsHistory}
use Rattle.cfi_model.specs.Service.{Reply}
use Rattle.cfi_model.specs.Shows.{End, IsReady, IsStep}
use Rattle.cfi_model.specs.State.{State}
use Rattle.cfi_modules.specs.Loaded.{AreLoaded, IsLoadedImage}
use Rattle.cfi_valid.specs.Loaded.{Members, placed_modules, loaded_by, live_at, Cells, fills_between}
use Rattle.cfi_valid.specs.Replay.{given_by}
use Rattle.cfi_valid.specs.Running.{RunsUnit}

-- each epoch's image has the code of the modules that its policy finds loaded, and the labels of those that are live
pub record HasPolicies (code_words : ℕ) (members : Members) (h : History) : Type 0 where
  pub modules : (epoch : ℕ) → IsEpoch h epoch
      → AreLoaded code_words (placed_modules (loaded_by (h.policy epoch) members.loaded))
  pub images : (epoch : ℕ) → IsEpoch h epoch
      → IsLoadedImage code_words (placed_modules (loaded_by (h.policy epoch) members.loaded))
      (placed_modules (live_at (h.policy epoch) members)) (h.image epoch)

-- the answer to an open that succeeds brings the data that the guest lacks, and the cells
abbrev pub BringsDue : Cells → Members → State → Option Reply → Type 0
BringsDue cells members s None = ⊤
BringsDue cells members s (Some reply) =
    reply.cause ≡ 0 → reply.fills ≡ fills_between cells (given_by s.log) reply.policy members

-- a step of the law is a unit of a replay
abbrev pub StepsAreUnits : Type 0
StepsAreUnits =
    (cells : Cells) (h : History) (code : List ℕ) (members : Members) (end : End) (old new : State) →
    IsHistory h code → HasPolicies (length code) members h → IsReady h old → IsStep h code end old new →
    BringsDue cells members old end.reply → RunsUnit cells code members old new
