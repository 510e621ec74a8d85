use Rattle.std.proofs.Common.{◌≡◌, drop}
use Rattle.cfi_instr.specs.inner.Jumps.{lead_out}
use Rattle.cfi_instr.proofs.source.Source.lead_out.Given as goal

abbrev pub invariant-loop-entry : goal.invariant-loop-entry
invariant-loop-entry l =
    lead_out l.self l.functions l.at l.entries ≡ lead_out l.self l.functions l.at (drop l.entry-index l.entries)
