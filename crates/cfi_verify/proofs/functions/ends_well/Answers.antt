use Rattle.std.proofs.Common.{◌∙◌, ap, sym, leb-true, arith}
use Rattle.rv_insn.specs.declared.insn.Insn.TheVariants.{Lui}
use Rattle.cfi_unit.specs.declared.unit.Unit.TheVariants.{Plain}
use Rattle.cfi_unit.specs.declared.spot.Spot.{Spot}
use Rattle.cfi_verify.specs.Functions.{may_be_last}
use Rattle.cfi_verify.proofs.PlaceLemmas.{ends_last, last_is}
use Rattle.cfi_verify.proofs.functions.ends_well.Goals as goal

abbrev none : Spot
none = record { at = 0; unit = Plain (Lui 0 0) }

-- the last unit before the end is the function's
pub returns-then-function-last : goal.returns-then-function-last
returns-then-function-last c = λ number.
    let spots = c.args.spots.now in
    let n = c.number_at-number.result in (
      λ may.
          ends_last spots c.requires.rising c.args.function.now n c.number_at-number.ensures number none (omega arith)
          c.if-function-last.true (sym c.may_be_last.ensures ∙ may),
      λ e.
          let last = last_is spots c.requires.rising c.args.function.now n c.number_at-number.ensures number none e in
          c.may_be_last.ensures ∙ ap (λ (s : Spot). may_be_last s.unit) last.1 ∙ e.2,
    )

-- it is of what stands before the function
pub returns-else-function-last : goal.returns-else-function-last
returns-else-function-last c = λ number.
    let spots = c.args.spots.now in
    let n = c.number_at-number.result in (
      λ is. absurd (omega (arith, leb-true _ _ is, c.if-function-last.false)),
      λ e.
          let last = last_is spots c.requires.rising c.args.function.now n c.number_at-number.ensures number none e in
          absurd (omega (arith, ap (λ (s : Spot). s.at) last.1, e.1.lies.0, c.if-function-last.false)),
    )
