use Rattle.std.proofs.Common.{List, length, ap, arith, ◌∙◌}
use Rattle.std.proofs.lemmas.List.Elements.{All-weaker}
use Rattle.cfi_aux.specs.declared.placed.Placed.{Placed}
use Rattle.cfi_graph.specs.Shaped.{IsShaped}
use Rattle.cfi_plan.specs.declared.plan.PlanModule.{PlanModule}
use Rattle.cfi_commands.proofs.ModulesLemmas.{same_count}
use Rattle.cfi_commands.specs.Verified.{HasItsChecks, module_lines}
use Rattle.cfi_commands.proofs.verified.verified_text.Goals as goal

-- there is a placed module for each of the plan
pub module_lines-requires : goal.module_lines-requires
module_lines-requires c =
    let are = c.in_ok-series.ensures.ok in
    omega (
      arith,
      are.order.count,
      same_count c.args.files are.modules are.read,
      c.requires.count,
      ap (λ (xs : List Placed). length xs) c.modules.ensures.value,
      ap (λ (xs : List PlanModule). length xs) c.as_slice.ensures,
    )

-- the modules of the series are shaped, so their checks are their branches
pub returns-clause-ok : goal.returns-clause-ok
returns-clause-ok c =
    let placed = c.in_ok-series.series.placed in
    record {
      placed = placed;
      are = c.in_ok-series.ensures.ok;
      checks = All-weaker IsShaped HasItsChecks (λ m shaped. (shaped.0, shaped.1.units, shaped.1.checks)) placed
          c.modules.ensures.graph.apart.shaped;
      spelled = c.in_ok-module_lines.ensures
          ∙ ap (λ (modules : List PlanModule). module_lines modules c.modules.result.now) c.as_slice.ensures
          ∙ ap (λ (xs : List Placed). module_lines c.args.plan.now.modules xs) c.modules.ensures.value;
    }
