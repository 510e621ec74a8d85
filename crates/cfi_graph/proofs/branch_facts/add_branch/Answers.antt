use Rattle.std.proofs.Common.{◌≡◌, ◌∙◌, ◌++◌, ℕ, List, map, sym, ap, subst}
use Rattle.cfi_aux.specs.declared.records.Kind.TheVariants.{Call, Tail, Return, Switch, Import}
use Rattle.cfi_graph.specs.Facts.{ByName, listed_fact, IsBranchFact, Adds}
use Rattle.cfi_graph.specs.inner.Imports.{imports_in}
use Rattle.cfi_graph.proofs.AddsLemmas.{on_ok}
use Rattle.cfi_graph.proofs.BranchLemmas.{switch_adds}
use Rattle.cfi_graph.proofs.branch_facts.add_branch.Goals as goal

pub returns-in-Call-clause-adds : goal.returns-in-Call-clause-adds
returns-in-Call-clause-adds c =
    let m = c.args.placed.now in
    let old = c.args.facts.now.items in
    let new = c.add_call.new.facts.items in
    let imports = imports_in c.args.imports.now in
    let classes = c.args.classes.now in
    on_ok c.add_call.result
    ((imports : ByName)
    → Adds old new (IsBranchFact imports classes c.args.number m c.args.at c.args.slot (Call c.in-Call.node)))
    (Adds old new (IsBranchFact imports classes c.args.number m c.args.at c.args.slot c.args.kind.now))
    (λ all. subst (λ kind. Adds old new (IsBranchFact imports classes c.args.number m c.args.at c.args.slot kind))
    (sym c.in-Call.is) (all imports))
    c.add_call.ensures.adds

pub returns-in-Tail-clause-adds : goal.returns-in-Tail-clause-adds
returns-in-Tail-clause-adds c =
    let m = c.args.placed.now in
    let old = c.args.facts.now.items in
    let new = c.add_tail.new.facts.items in
    let imports = imports_in c.args.imports.now in
    let classes = c.args.classes.now in
    on_ok c.add_tail.result
    ((imports : ByName)
    → Adds old new (IsBranchFact imports classes c.args.number m c.args.at c.args.slot (Tail c.in-Tail.node)))
    (Adds old new (IsBranchFact imports classes c.args.number m c.args.at c.args.slot c.args.kind.now))
    (λ all. subst (λ kind. Adds old new (IsBranchFact imports classes c.args.number m c.args.at c.args.slot kind))
    (sym c.in-Tail.is) (all imports))
    c.add_tail.ensures.adds

pub returns-in-Return-clause-adds : goal.returns-in-Return-clause-adds
returns-in-Return-clause-adds c =
    let m = c.args.placed.now in
    let old = c.args.facts.now.items in
    let new = c.add_return.new.facts.items in
    let imports = imports_in c.args.imports.now in
    let classes = c.args.classes.now in
    on_ok c.add_return.result
    ((imports : ByName) (classes : List (List ℕ)) (number : ℕ)
    → Adds old new (IsBranchFact imports classes number m c.args.at c.args.slot Return))
    (Adds old new (IsBranchFact imports classes c.args.number m c.args.at c.args.slot c.args.kind.now))
    (λ all. subst (λ kind. Adds old new (IsBranchFact imports classes c.args.number m c.args.at c.args.slot kind))
    (sym c.in-Return.is) (all imports classes c.args.number))
    c.add_return.ensures.adds

pub returns-in-Switch-clause-adds : goal.returns-in-Switch-clause-adds
returns-in-Switch-clause-adds c =
    let m = c.args.placed.now in
    let old = c.args.facts.now.items in
    let new = c.add_entries.new.facts.items in
    let imports = imports_in c.args.imports.now in
    let classes = c.args.classes.now in
    let entries = c.in-Switch.entries in
    let listed = listed_fact m.base c.args.slot in
    on_ok c.add_entries.result (new ≡ old ++ map listed c.as_slice.result.now)
    (Adds old new (IsBranchFact imports classes c.args.number m c.args.at c.args.slot c.args.kind.now))
    (λ is.
    let all : new ≡ old ++ map listed entries = is ∙ ap (λ es. old ++ map listed es) c.as_slice.ensures in
    subst (λ kind. Adds old new (IsBranchFact imports classes c.args.number m c.args.at c.args.slot kind))
    (sym c.in-Switch.is)
    (subst (λ items. Adds old items
    (IsBranchFact imports classes c.args.number m c.args.at c.args.slot (Switch entries))) (sym all)
    (switch_adds imports classes c.args.number m c.args.at c.args.slot entries old)))
    c.add_entries.ensures

pub returns-in-Import-clause-adds : goal.returns-in-Import-clause-adds
returns-in-Import-clause-adds c =
    let m = c.args.placed.now in
    let old = c.args.facts.now.items in
    let new = c.add_import.new.facts.items in
    let imports = imports_in c.args.imports.now in
    let classes = c.args.classes.now in
    let name = c.in-Import.name in
    on_ok c.add_import.result
    ((classes : List (List ℕ)) (number cell : ℕ)
    → Adds old new (IsBranchFact imports classes number m c.args.at c.args.slot (Import name cell)))
    (Adds old new (IsBranchFact imports classes c.args.number m c.args.at c.args.slot c.args.kind.now))
    (λ all. subst (λ kind. Adds old new (IsBranchFact imports classes c.args.number m c.args.at c.args.slot kind))
    (sym c.in-Import.is) (all classes c.args.number c.in-Import.cell))
    c.add_import.ensures.adds
