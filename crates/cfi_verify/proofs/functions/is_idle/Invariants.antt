use Rattle.std.proofs.Common.{◌≡◌, pos}
use Rattle.std.specs.List.{AllWithin}
use Rattle.rv_insn.specs.declared.insn.Insn.TheVariants.{OpImm}
use Rattle.rv_insn.specs.declared.insn.ImmOp.TheVariants.{Addi}
use Rattle.cfi_unit.specs.declared.unit.Unit.TheVariants.{Plain}
use Rattle.cfi_unit.specs.declared.spot.Spot.{Spot}
use Rattle.cfi_verify.proofs.functions.is_idle.Given as goal

abbrev pub invariant-loop-number : goal.invariant-loop-number
invariant-loop-number l = AllWithin (λ (s : Spot). s.unit ≡ Plain (OpImm Addi 0 0 (pos 0))) l.spots l.low l.number
