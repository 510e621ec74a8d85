-- The history that a growing series makes: each epoch has the code of the first so many of the modules, and the labels of
-- some of these; one epoch more has one module more, which is a load, or as many, which is a retirement or a refresh.
use Rattle.std.specs.Prelude.{◌≡◌, ◌⊎◌, ℕ, ◌+◌, ◌≤◌, List, length, take}
use Rattle.cfi_word.specs.declared.limits.TheConstants.{MAX_EPOCH, MAX_POLICY, MIN_VERSIONS, MAX_VERSIONS}
use Rattle.cfi_aux.specs.declared.placed.Placed.{Placed}
use Rattle.cfi_model.specs.History.{History, IsSeen}
use Rattle.cfi_modules.specs.Loaded.{IsLoadedImage}

-- the history is that of the modules, of which so many were there at the start
pub record IsHistoryOf (code_words : ℕ) (ms : List Placed) (starts : ℕ) (h : History) : Type 0 where
  pub loaded : ℕ → ℕ
  pub first : loaded h.first ≡ starts
  pub next : (epoch : ℕ) → IsSeen h (epoch + 1) → (loaded (epoch + 1) ≡ loaded epoch) ⊎ (loaded (epoch + 1) ≡ loaded epoch + 1)
  pub few : (epoch : ℕ) → IsSeen h epoch → loaded epoch ≤ length ms
  pub live : ℕ → List Placed
  pub images : (epoch : ℕ) → IsSeen h epoch → IsLoadedImage code_words (take (loaded epoch) ms) (live epoch) (h.image epoch)

-- the numbers of the history can be packed into table words
pub record HasNumbers (h : History) : Type 0 where
  pub versions_least : MIN_VERSIONS ≤ h.versions
  pub versions_most : h.versions ≤ MAX_VERSIONS
  pub epochs : (epoch : ℕ) → IsSeen h epoch → epoch ≤ MAX_EPOCH
  pub policies : (epoch : ℕ) → IsSeen h epoch → h.policy epoch ≤ MAX_POLICY
