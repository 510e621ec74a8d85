use Rattle.std.proofs.Common.{[], length, refl, sym, ap, subst, ◌∙◌}
use Rattle.std.specs.Option.{option_or}
use Rattle.cfi_graph.specs.Facts.{ByName, ModuleTells, Adds}
use Rattle.cfi_graph.specs.More.{OneMeetsOwn}
use Rattle.cfi_graph.specs.Named.{entry_in, entry_among}
use Rattle.cfi_graph.specs.inner.Imports.{imports_in}
use Rattle.cfi_graph.proofs.AddsLemmas.{adds_then, adds_all, adds_as}
use Rattle.cfi_graph.proofs.ImportLemmas.{are_imports}
use Rattle.cfi_graph.proofs.NamedLemmas.{AgreeOn, agree_back, module_named, met_named}
use Rattle.cfi_graph.proofs.NewEdgeLemmas.{imports_more}
use Rattle.cfi_graph.proofs.more.more_facts.Goals as goal

pub names_with-requires : goal.names_with-requires
names_with-requires c = λ name address is. c.in_ok-marks.ensures name address (sym (c.in_ok-own.ensures name) ∙ is)

pub add_met_modules-requires-clause-marked : goal.add_met_modules-requires-clause-marked
add_met_modules-requires-clause-marked c = λ name address is.
    c.in_ok-marks.ensures name address (sym (c.in_ok-own.ensures name) ∙ is)

pub returns : goal.returns
returns c =
    let ms = c.args.old.now in
    let m = c.args.new.now in
    let classes = c.args.classes.now in
    let names = c.in_ok-names.names in
    let some = imports_in c.in_ok-imports.imports in
    let own = imports_in c.in_ok-own.own in
    let some_all = imports_in c.add_named.new.self in
    let before = entry_among ms in
    let all : ByName = λ name. option_or (before name) (entry_in m name) in
    let known : AgreeOn names some before = c.in_ok-imports.ensures in
    let named : AgreeOn names some_all all =
    λ name has. c.in_ok-add_named.ensures name has ∙ ap (λ o. option_or o (entry_in m name)) (known name has) in
    let mid = c.add_met_modules.new.facts.items in
    let new = c.add_module.new.facts.items in
    let met : Adds [] mid (OneMeetsOwn ms before own) =
    adds_as [] mid (OneMeetsOwn ms some own) (OneMeetsOwn ms before own)
    (subst (λ fs. Adds fs mid (OneMeetsOwn ms some own)) c.new-facts.ensures.items c.in_ok-add_met_modules.ensures)
    (met_named names some before known own ms c.in_ok-names.ensures.met)
    (met_named names before some (agree_back names some before known) own ms c.in_ok-names.ensures.met) in
    let told : Adds mid new (ModuleTells all classes (length ms) m) =
    adds_as mid new (ModuleTells some_all classes (length ms) m) (ModuleTells all classes (length ms) m)
    c.in_ok-add_module.ensures.adds
    (module_named names some_all all named classes (length ms) m c.in_ok-names.ensures.imports)
    (module_named names all some_all (agree_back names some_all all named) classes (length ms) m
    c.in_ok-names.ensures.imports) in
    record {
      before = before;
      own = own;
      all = all;
      known = are_imports ms;
      named = imports_more ms m before all (λ name. refl) (λ name. refl);
      joined = λ name. ap (option_or (before name)) (sym (c.in_ok-own.ensures name));
      are = adds_all new _ (adds_then [] mid new (OneMeetsOwn ms before own) (ModuleTells all classes (length ms) m) met told);
    }
