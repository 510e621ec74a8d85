use Rattle.std.proofs.Common.{◌≡◌, ◌∙◌, length, subst, arith}
use Rattle.std.proofs.lemmas.List.{get_or_default}
use Rattle.cfi_graph.specs.inner.Imports.{imports_in}
use Rattle.cfi_graph.specs.inner.Names.{HasImports, HasMet}
use Rattle.cfi_graph.proofs.NameLemmas.{first_none, first_all, gathers_next}
use Rattle.cfi_graph.proofs.names.names_with.Goals as goal

pub loop-placed-init : goal.loop-placed-init
loop-placed-init c = record {
  imports = subst (HasImports c.add_imports.new.self) c.as_slice.ensures c.in_ok-add_imports.ensures.has;
  met = first_none (λ m. HasMet c.add_imports.new.self (imports_in c.args.own.now) m.branches) c.args.old.now;
}

-- this turn's module is looked at too
pub loop-placed-preserved : goal.loop-placed-preserved
loop-placed-preserved c =
    let ms = c.args.old.now in
    let k = c.loop-placed.placed-index in
    let own = imports_in c.args.own.now in
    let more = c.add_all_met.new.self in
    gathers_next c.loop-placed.names more own ms c.args.new.now.branches k c.placed-item.result c.loop-placed.invariant
    c.in_ok-add_all_met.ensures.kept
    (λ d. c.placed-item.is ∙ get_or_default ms k _ d c.loop-placed-test.true)
    (subst (HasMet more own) c.as_slice-in-loop-placed.ensures c.in_ok-add_all_met.ensures.has)

pub returns-clause-met : goal.returns-clause-met
returns-clause-met c = λ m has.
    let ms = c.args.old.now in
    let all : c.loop-placed.placed-index ≡ length ms = omega arith in
    first_all (λ n. HasMet c.loop-placed.names (imports_in c.args.own.now) n.branches) ms c.loop-placed.placed-index all
    c.loop-placed.invariant.met m has
