use Rattle.std.proofs.Common.{eq-eqb, arith}
use Rattle.std.proofs.lemmas.Bool.{eqb-true}
use Rattle.rv_insn.specs.declared.insn.Insn.TheVariants.{Lui}
use Rattle.cfi_unit.specs.declared.unit.Unit.TheVariants.{Plain}
use Rattle.cfi_verify.proofs.PlaceLemmas.{begins_first}
use Rattle.cfi_verify.proofs.search.begins_at.Goals as goal

pub returns : goal.returns
returns c =
    let iff = begins_first c.args.spots.now c.requires c.args.at c.number_at-number.result
    (record { at = 0; unit = Plain (Lui 0 0) }) c.number_at-number.ensures (omega arith) in
    (λ found. iff.1 (eqb-true _ _ found), λ begins. eq-eqb _ _ (iff.0 begins))
