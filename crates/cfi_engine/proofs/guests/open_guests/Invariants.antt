use Rattle.std.proofs.Common.{◌≡◌, length}
use Rattle.cfi_engine.specs.Guests.{AreWaiting, HasAdmitted, IsOpenedTo}
use Rattle.cfi_engine.proofs.guests.open_guests.Given as goal

-- the guests below the number are opened, and have a runner each
abbrev pub invariant-loop-number : goal.invariant-loop-number
invariant-loop-number g l = record {
  opened : IsOpenedTo g.N.LoaderName.plan g.N.LoaderName.modules l.number l.loader;
  admitted : HasAdmitted l.initial.loader l.loader;
  count : length l.runners.items ≡ l.number;
  waiting : AreWaiting l.runners.items;
}
