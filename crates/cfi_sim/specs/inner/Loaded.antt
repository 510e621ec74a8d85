-- What an open finds of a module that is loaded.
use Rattle.cfi_aux.specs.declared.placed.Placed.{Placed}
use Rattle.cfi_model.specs.World.{World}
use Rattle.cfi_modules.specs.Entry.{IsGlobal, IsFirstOf, HasNoneOf}
use Rattle.cfi_sim.specs.Events.{IsIdle}
use Rattle.cfi_sim.specs.declared.found.Found.{Found}
use Rattle.cfi_sim.specs.declared.found.Found.TheVariants.{Unknown, Functionless, Opened, Unloaded}

-- what it finds
abbrev pub FindsIn : World → Placed → Found → Type 0
FindsIn world one Unknown = ⊥
FindsIn world one Functionless = HasNoneOf IsGlobal one
FindsIn world one (Opened address) = IsFirstOf IsGlobal one address × IsIdle world
FindsIn world one Unloaded = ¬ HasNoneOf IsGlobal one × ¬ IsIdle world
