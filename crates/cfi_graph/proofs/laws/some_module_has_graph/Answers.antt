use Rattle.std.proofs.Common.{arith}
use Rattle.cfi_graph.proofs.CallRows.{call_module, call_graph}
use Rattle.cfi_graph.proofs.laws.some_module_has_graph.Goals as goal

pub returns : goal.returns
returns c = (call_module, call_graph 1 (omega arith))
