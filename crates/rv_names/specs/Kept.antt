-- What a table of names keeps beside its entries: the number of each name.
use Rattle.std.specs.Prelude.{◌≡◌, ◌<◌, ◌^◌, ℕ, List, length}
use Rattle.std.specs.BTreeMap.{get_by_text}
use Rattle.rv_names.specs.declared.names.Names.TheInside.{Inside}
use Rattle.rv_names.specs.Names.{number_in}

-- each name is found by its number, and there are few
pub record IsNumbered (a : Inside) : Type 0 where
  pub numbers : (name : List ℕ) → get_by_text a.numbers name ≡ number_in a.entries.items name
  pub count : length a.entries.items < 2 ^ 32
