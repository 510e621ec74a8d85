use Rattle.std.proofs.Common.{subst}
use Rattle.cfi_class.specs.inner.Forest.{HasSameRoots}
use Rattle.cfi_class.specs.Labels.{HasEdge}
use Rattle.cfi_class.specs.inner.Linked.{IsForestOf}
use Rattle.cfi_class.specs.inner.Numbering.{MarksUsed, AreSlotNumbers, AreWordNumbers}
use Rattle.cfi_class.proofs.JoinedLemmas.{branch_within}
use Rattle.cfi_class.proofs.LabelsLemmas.{root_marked, are_numbers, in_order}
use Rattle.cfi_class.proofs.labels.numbers.Goals as goal

pub number_slots-requires-clause-roots : goal.number_slots-requires-clause-roots
number_slots-requires-clause-roots c =
    root_marked (HasEdge c.args.edges.now) c.args.slots c.args.code_words c.in_ok-forest.forest
    c.in_ok-forest.ensures c.deref.result.now (rw c.deref.ensures.value c.in_ok-used.ensures)

pub returns : goal.returns
returns c =
    let joins = HasEdge c.args.edges.now in
    let slots = c.args.slots in
    let code_words = c.args.code_words in
    let parents = c.in_ok-forest.forest in
    let after = c.number_slots.new.forest in
    let marks = c.in_ok-used.used.items in
    let numbers = c.in_ok-bary.bary.items in
    let tary = c.in_ok-tary.tary.items in
    let forest : IsForestOf joins slots code_words parents = c.in_ok-forest.ensures in
    let used : MarksUsed joins slots marks = c.in_ok-used.ensures in
    let same : HasSameRoots parents after = c.in_ok-bary.ensures.same in
    let slot_numbers : AreSlotNumbers parents marks numbers =
    subst (λ list. AreSlotNumbers parents list numbers) c.deref.ensures.value c.in_ok-bary.ensures.ok in
    let word_numbers : AreWordNumbers after numbers code_words tary =
    subst (λ list. AreWordNumbers after list code_words tary) c.deref-2.ensures.value c.in_ok-tary.ensures in
    let inside = branch_within c.args.edges.now slots code_words c.requires.within in
    rw (c.from_vec.ensures, c.from_vec-2.ensures) record {
      labels = are_numbers joins slots code_words parents forest marks used inside after same numbers tary slot_numbers
          word_numbers;
      order = in_order joins slots code_words parents forest marks used inside after same numbers tary slot_numbers
          word_numbers;
    }
