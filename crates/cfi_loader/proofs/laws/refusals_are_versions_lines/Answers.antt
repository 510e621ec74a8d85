use Rattle.cfi_loader.proofs.RefusalLemmas.{versions_lines}
use Rattle.cfi_loader.proofs.laws.refusals_are_versions_lines.Goals as goal

pub returns : goal.returns
returns c = versions_lines
