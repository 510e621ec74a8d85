use Rattle.std.proofs.Common.{◌≡◌, ◌∙◌, ℕ, List, [], None, sym, ap}
use Rattle.std.proofs.lemmas.Bool.{false≢true}
use Rattle.cfi_aux.specs.declared.records.Kind.TheVariants.{Import}
use Rattle.cfi_graph.specs.Facts.{IsBranchFact, Adds}
use Rattle.cfi_graph.specs.More.{IsMetBranch}
use Rattle.cfi_graph.specs.inner.Imports.{imports_in}
use Rattle.cfi_graph.proofs.AddsLemmas.{on_ok}
use Rattle.cfi_graph.proofs.ImportLemmas.{none_of}
use Rattle.cfi_graph.proofs.MetLemmas.{met_adds}
use Rattle.cfi_graph.proofs.more.add_met_branch.Goals as goal

pub returns : goal.returns
returns c =
    let m = c.args.placed.now in
    let before = imports_in c.args.before.now in
    let own = imports_in c.args.own.now in
    let name = c.in-Import.name in
    let cell = c.in-Import.cell in
    let old = c.args.facts.now.items in
    let new = c.add_import.new.facts.items in
    let found : c.find.result ≡ before name = c.find.ensures ∙ ap before c.as_str.ensures in
    let none : before name ≡ None =
    sym found ∙ none_of c.find.result (λ some. false≢true (sym c.if-is_some.false ∙ c.is_some.ensures ∙ some)) in
    on_ok c.add_import.result ((classes : List (List ℕ)) (number cell : ℕ)
    → Adds old new (IsBranchFact own classes number m c.args.at c.args.slot (Import name cell)))
    (Adds old new (IsMetBranch before own m c.args.at c.args.slot c.args.kind.now))
    (λ adds.
    met_adds before own m c.args.at c.args.slot name cell c.args.kind.now c.in-Import.is none old new (adds [] 0 cell))
    c.add_import.ensures.adds
