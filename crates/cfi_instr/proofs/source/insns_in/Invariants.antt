use Rattle.std.proofs.Common.{◌≡◌, ℕ, List, Option, ◌*◌, map}
use Rattle.std.specs.List.{range_with_len}
use Rattle.rv_insn.specs.declared.insn.Insn.{Insn}
use Rattle.rv_insn.specs.InsnOf.{insn_of}
use Rattle.rv_reloc.specs.Bytes.{word_at}
use Rattle.cfi_instr.specs.Words.{AreInsnsInRange}
use Rattle.cfi_instr.proofs.source.insns_in.Given as goal

-- the instructions of the first words
pub record AreInsns (text : List ℕ) (w : ℕ) (insns : List (Option Insn)) : Type 0 where
  pub each : insns ≡ map (λ n. insn_of (word_at (4 * n) text)) (range_with_len 0 w)
  pub range : AreInsnsInRange insns

abbrev pub invariant-loop-w : goal.invariant-loop-w
invariant-loop-w l = AreInsns l.text l.w l.insns.items
