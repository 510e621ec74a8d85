-- Loaded modules as they are kept: in one list what tells where each comes from, in another what placing made of them.
use Rattle.std.specs.Prelude.{ℕ, List, [], ◌∷◌}
use Rattle.cfi_aux.specs.declared.placed.Placed.{Placed}
use Rattle.cfi_valid.specs.Loaded.{LoadedModule}

-- what of a loaded module its place does not tell: its number, and the policy that came with it
pub record Origin : Type 0 where
  pub number : ℕ
  pub policy : ℕ

-- the module of an origin, at its place
abbrev pub module_from : Origin → Placed → LoadedModule
module_from origin placed = record { number = origin.number; placed = placed; policy = origin.policy }

-- the modules of a list that tells their origins, at their places
abbrev pub loaded_from : {A : Type 0} → (origin : A → Origin) → List A → List Placed → List LoadedModule
loaded_from origin [] placed = []
loaded_from origin (kept ∷ more) [] = []
loaded_from origin (kept ∷ more) (one ∷ placed) = module_from (origin kept) one ∷ loaded_from origin more placed
