-- Links to wider classes that are added to known ones.
use Rattle.std.specs.Prelude.{ℕ, List}
use Rattle.cfi_type_table.specs.Node.{Node}
use Rattle.cfi_flow.specs.declared.links.Link.{Link}
use Rattle.cfi_flow.specs.Fresh.{AreOthers}
use Rattle.cfi_fits.specs.Widening.{AreWidenings}

-- those of all widenings that are none of the known links
pub record AreMoreWider (tables : List (List Node)) (classes : List (List ℕ)) (known others : List Link) : Type 0 where
  pub all : List Link
  pub wide : AreWidenings tables classes all
  pub are : AreOthers all known others
