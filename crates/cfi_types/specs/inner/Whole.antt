-- Parts of nodes whose lists fit one another, and one division.
use Rattle.std.specs.Prelude.{◌≡◌, ℕ, ◌<◌, List, length, vec_len, All}
use Rattle.cfi_types.specs.declared.partition.Parts.{Parts}
use Rattle.cfi_types.specs.inner.Division.{IsPut, AreListed}

-- all lists are as long as there are nodes, and each number of a part is one of them
pub record IsWhole (p : Parts) : Type 0 where
  pub listed : AreListed p.parts.items p.members
  pub below : All (λ k. k < length p.parts.items) p.parts.items
  pub plan : vec_len p.plan.sizes ≡ length p.parts.items
  pub counts : vec_len p.counts ≡ length p.parts.items
  pub targets : vec_len p.targets ≡ length p.parts.items
  pub ends : All (λ k. k < length p.parts.items) p.targets.items

-- the nodes are put where some targets say
pub record IsDivided (old nodes new : List ℕ) : Type 0 where
  pub targets : List ℕ
  pub put : IsPut old targets nodes new
