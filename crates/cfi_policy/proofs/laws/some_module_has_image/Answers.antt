use Rattle.std.proofs.Common.{arith}
use Rattle.cfi_graph.proofs.CallRows.{call_module}
use Rattle.cfi_policy.proofs.HandMadeLemmas.{call_image}
use Rattle.cfi_policy.proofs.laws.some_module_has_image.Goals as goal

pub returns : goal.returns
returns c = (call_module, call_image 1 (omega arith))
