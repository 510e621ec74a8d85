use Rattle.std.proofs.Common.{◌≡◌, ℕ, true, Option, Some, None, below_more}
use Rattle.std.specs.Option.{is_some, IfSome}
use Rattle.std.proofs.lemmas.Bool.{false≢true}
use Rattle.rv_insn.specs.declared.insn.Insn.{Insn}
use Rattle.rv_insn.specs.Insn.{IsWord}
use Rattle.cfi_unit.specs.Spots.{IsInsnAt}
use Rattle.cfi_verify.proofs.reader.first_illegal.Goals as goal

-- a word that is decoded is an instruction
decoded : (found : Option Insn) (word : ℕ) → is_some found ≡ true → IfSome found (λ insn. IsWord insn word) →
    (insn : Insn) × IsWord insn word
decoded None word some is = absurd (false≢true some)
decoded (Some insn) word some is = (insn, is)

pub loop-at-preserved : goal.loop-at-preserved
loop-at-preserved c =
    below_more (IsInsnAt c.args.words.now) c.loop-at.at c.loop-at.invariant
    (decoded c.decode.result _ c.if-is_none.ensures c.decode.ensures.some)
