use Rattle.std.proofs.Common.{◌≡◌, All, take}
use Rattle.cfi_type_table.specs.declared.kind.TheConstants.{VARFUNC}
use Rattle.cfi_fits.proofs.widening.has_variadic.Given as goal

abbrev pub invariant-loop-node : goal.invariant-loop-node
invariant-loop-node l = All (λ x. x.kind ≡ VARFUNC → ⊥) (take l.node-index l.nodes)
