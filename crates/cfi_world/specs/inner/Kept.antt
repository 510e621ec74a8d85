-- A world as it is kept.
use Rattle.cfi_model.specs.World.{World}
use Rattle.cfi_world.specs.Worlds.{IsWorld}
use Rattle.cfi_world.specs.declared.world.World.TheInside.{Inside}

-- what is kept, as clauses see it
abbrev pub kept_world : Inside → World
kept_world a = record {
  tables = a.tables.tables;
  quiets = a.quiets;
  guests = a.guests.items;
  points = a.points;
  fuel = a.fuel;
  room = a.tables.room;
  updates = a.updates;
}

-- it is a world
abbrev pub IsKeptWorld : Inside → Type 0
IsKeptWorld a = IsWorld (kept_world a)
