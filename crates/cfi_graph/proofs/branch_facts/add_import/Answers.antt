use Rattle.std.proofs.Common.{◌≡◌, ◌∙◌, ℕ, Some, None, sym, ap, subst}
use Rattle.cfi_graph.specs.Facts.{IsFirst, IsBranchFact}
use Rattle.cfi_graph.specs.inner.Imports.{imports_in}
use Rattle.cfi_aux.specs.declared.records.Kind.TheVariants.{Import}
use Rattle.cfi_graph.proofs.AddsLemmas.{adds_none}
use Rattle.cfi_graph.proofs.FactLemmas.{no_import, import_adds_one, import_adds_two}
use Rattle.cfi_graph.proofs.branch_facts.add_import.Goals as goal

-- a name that no function has
pub returns-in_default-clause-adds : goal.returns-in_default-clause-adds
returns-in_default-clause-adds c = λ classes number cell.
    let m = c.args.placed.now in
    let imports = imports_in c.args.imports.now in
    let none : imports c.args.name.now ≡ None =
    ap imports (sym c.as_str.ensures) ∙ sym c.find.ensures ∙ c.in_default.is in
    adds_none c.args.facts.now.items
    (IsBranchFact imports classes number m c.args.at c.args.slot (Import c.args.name.now cell))
    (no_import m c.args.at imports classes number c.args.slot cell c.args.name.now none)

-- an import that lies in no function
pub returns-in_default-first_at-clause-adds : goal.returns-in_default-first_at-clause-adds
returns-in_default-first_at-clause-adds c = λ classes number cell.
    let m = c.args.placed.now in
    let imports = imports_in c.args.imports.now in
    let is : imports c.args.name.now ≡ Some c.in-Some.entry =
    ap imports (sym c.as_str.ensures) ∙ sym c.find.ensures ∙ c.in-Some.is in
    let no_first : (first : ℕ) → IsFirst m.functions c.args.at first → ⊥ = λ first there.
    let found = c.first_at.ensures.only first (subst (λ fs. IsFirst fs c.args.at first) (sym c.as_slice.ensures) there) in
    let none = c.in_default-first_at.is in
    cc (found, none) in
    rw (c.in_ok-push.ensures.items)
    (import_adds_one m c.args.at no_first imports classes number c.args.slot cell c.args.name.now c.in-Some.entry is
    c.args.facts.now.items)

pub returns-clause-adds : goal.returns-clause-adds
returns-clause-adds c = λ classes number cell.
    let m = c.args.placed.now in
    let imports = imports_in c.args.imports.now in
    let is : imports c.args.name.now ≡ Some c.in-Some.entry =
    ap imports (sym c.as_str.ensures) ∙ sym c.find.ensures ∙ c.in-Some.is in
    let is_first = subst (λ fs. IsFirst fs c.args.at c.in-Some-first_at.first) c.as_slice.ensures
    c.in-Some-first_at.ensures.some in
    rw (c.in_ok-push-2.ensures.items, c.in_ok-push.ensures.items)
    (import_adds_two m c.requires.order c.args.at c.in-Some-first_at.first is_first imports classes number c.args.slot
    cell c.args.name.now c.in-Some.entry is c.args.facts.now.items)
