use Rattle.std.proofs.Common.{◌≡◌, length, sym, subst}
use Rattle.cfi_word.specs.Table.{IsSize}
use Rattle.cfi_word.specs.declared.lists.Labels.{Labels}
use Rattle.cfi_class.specs.Labels.{CanBeLabelled}
use Rattle.cfi_class.proofs.ExtendedLemmas.{IsExtension, extended}
use Rattle.cfi_class.proofs.kept.extended.Goals as goal

pub returns : goal.returns
returns c =
    let before = c.args.labels.now in
    let parents = c.in_ok-forest.forest in
    let after = c.number_kept_slots.new.forest in
    let tary : c.as_slice-tary.result.now ≡ before.tary = c.as_slice-tary.ensures in
    let bary : c.as_slice-bary.result.now ≡ before.bary = c.as_slice-bary.ensures in
    let size : c.args.code_words ≡ length before.tary = sym c.requires.kept.len in
    let made : c.in_ok-branches.branches.items ≡ c.from_vec-2.result = sym c.from_vec-2.ensures in
    let made_words : c.in_ok-words.words.items ≡ c.from_vec.result = sym c.from_vec.ensures in
    let new : Labels = record { tary = c.from_vec.result; bary = c.from_vec-2.result } in
    let used = c.deref.ensures.value in
    let taken = c.deref-2.ensures.value in
    let branches = c.deref-3.ensures.value in
    let is : IsExtension before c.args.fresh.now c.args.slots parents after c.in_ok-used.used.items
    c.in_ok-taken.taken.items new = record {
      size = subst IsSize size c.requires.size;
      can = subst (λ n. CanBeLabelled c.args.fresh.now c.args.slots n) size c.requires.can;
      forest = rw (← tary, ← bary) c.in_ok-forest.ensures.links;
      same = c.in_ok-branches.ensures.same;
      marks = c.in_ok-used.ensures;
      held = rw (← bary) c.in_ok-taken.ensures.ok;
      len = rw (← made, ← bary) c.in_ok-branches.ensures.len;
      each_slot = rw (← made, ← bary, ← used, ← taken) c.in_ok-branches.ensures.ok;
      each_word = rw (← made_words, ← made, ← tary, ← branches) c.in_ok-words.ensures;
    } in
    extended before c.args.fresh.now c.args.slots parents after c.in_ok-used.used.items c.in_ok-taken.taken.items new is
