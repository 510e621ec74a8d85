-- The tables of a plan.
use Rattle.std.specs.Prelude.{◌≡◌}
use Rattle.cfi_plan.specs.declared.plan.Plan.{Plan}
use Rattle.cfi_tables.specs.Key.{Key}

-- the tables are those of the plan
pub record AreTablesOf (plan : Plan) (k : Key) : Type 0 where
  pub code_words : k.code_words ≡ plan.code_words
  pub versions : k.versions ≡ plan.versions
  pub first : k.first ≡ plan.first
