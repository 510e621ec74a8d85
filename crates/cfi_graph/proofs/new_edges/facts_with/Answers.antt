use Rattle.std.proofs.Common.{length, inl, inr, arith}
use Rattle.cfi_graph.specs.inner.Imports.{imports_in}
use Rattle.cfi_graph.proofs.NewEdgeLemmas.{facts_more, more_facts, read_first}
use Rattle.cfi_graph.proofs.OneMoreLemmas.{at_last, length_more}
use Rattle.cfi_graph.proofs.new_edges.facts_with.Goals as goal

pub facts_of-requires-clause-few : goal.facts_of-requires-clause-few
facts_of-requires-clause-few c =
    let more = length_more c.args.old.now c.args.new.now in
    omega (arith, more, c.requires.few)

pub facts_of-requires-clause-read : goal.facts_of-requires-clause-read
facts_of-requires-clause-read c = read_first c.args.old.now c.args.new.now c.args.classes.now c.requires.read

pub add_module-requires : goal.add_module-requires
add_module-requires c = c.requires.read (length c.args.old.now) c.args.new.now (at_last c.args.old.now c.args.new.now)

pub returns : goal.returns
returns c =
    let old = c.args.old.now in
    let new = c.args.new.now in
    let imports = imports_in c.args.imports.now in
    let classes = c.args.classes.now in
    let before = c.in_ok-facts.ensures.facts in
    let adds = c.in_ok-add_module.ensures.adds in
    record {
      sound = λ fact has. facts_more old new imports classes fact (elim (adds.only fact has) [
        | inl there ↦ inl (before.sound fact there)
        | inr told ↦ inr told
      ]);
      whole = λ fact told. elim (more_facts old new imports classes fact told) [
        | inl there ↦ adds.kept fact (before.whole fact there)
        | inr own ↦ adds.whole fact own
      ];
    }
