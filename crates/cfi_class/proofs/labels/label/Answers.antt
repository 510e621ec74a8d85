use Rattle.std.proofs.Common.{◌≡◌, length, refl, ◌∙◌, arith}
use Rattle.cfi_word.specs.Table.{slots_of}
use Rattle.cfi_class.specs.Labels.{HasEdge, AreNumbers, AreOrderedBySlot}
use Rattle.cfi_class.proofs.JoinedLemmas.{branch_within}
use Rattle.cfi_class.proofs.LabelsLemmas.{FillsUp, filled_up, filled_in_order}
use Rattle.cfi_class.proofs.labels.label.Goals as goal

pub returns : goal.returns
returns c =
    let edges = c.args.edges.now in
    let slots = c.args.slots in
    let code_words = c.args.layout.now in
    let tary = c.in_ok-tary.field-0.tary in
    let numbers = c.into_vec-bary.result.items in
    let bary = c.resize.new.self.items in
    let size : c.code_words.result ≡ code_words = c.code_words.ensures.value in
    let are : AreNumbers (HasEdge edges) slots code_words tary numbers =
    rw (← size, c.into_vec-bary.ensures) c.in_ok-tary.ensures.labels in
    let all : c.slots.result ≡ slots_of code_words = c.slots.ensures in
    let room = c.requires.room in
    let bary_ok = c.resize.new.self.ok in
    let numbers_ok = c.into_vec-bary.result.ok in
    let resized : length bary ≡ c.slots.result = omega (arith, c.in_ok-resize.ensures.len) in
    let by_index = c.in_ok-resize.ensures.by_index in
    let len = are.slots in
    let fills : FillsUp slots (slots_of code_words) numbers bary = record {
      len = resized ∙ all;
      kept = λ slot lower. by_index.0 slot 0 (omega arith) (omega arith);
      filled = λ slot higher lower. by_index.1 slot 0 refl (omega arith) (omega arith);
    } in
    let order : AreOrderedBySlot (HasEdge edges) numbers = rw c.into_vec-bary.ensures c.in_ok-tary.ensures.order in
    let inside = branch_within edges slots code_words c.requires.within in
    rw c.from_vec.ensures record {
      labels = filled_up (HasEdge edges) slots (slots_of code_words) code_words tary numbers bary inside are fills;
      order = filled_in_order (HasEdge edges) slots (slots_of code_words) code_words tary numbers bary inside are fills order;
    }
