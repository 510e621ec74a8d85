-- How the code keeps a draft.
use Rattle.cfi_report.specs.declared.draft.Draft.TheInside.{Inside}
use Rattle.cfi_report.specs.inner.Draft.{ReportSoFar}

-- what is kept, as clauses see it
abbrev pub view_of : Inside → ReportSoFar
view_of a = record {
  stage = a.stage;
  epoch = a.epoch;
  policy = a.policy;
  modules = a.modules.items;
  journal = a.journal.items;
  guests = a.guests.items;
  number = a.number;
  entry = a.entry;
  log = a.log.items;
  out = a.out;
  stop = a.stop;
  units = a.units;
}
