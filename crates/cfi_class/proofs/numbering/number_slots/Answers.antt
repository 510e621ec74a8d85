use Rattle.std.proofs.Common.{◌≡◌, ℕ, ◌+◌, ◌<◌, ◌≤◌, cond, ltb, false, [], ◌∷◌, ◌++◌, length, get_or, sym, ap, subst, ◌∙◌, arith}
use Rattle.std.proofs.lemmas.List.{length_push}
use Rattle.cfi_word.specs.declared.ids.TheConstants.{FIELD_MAX}
use Rattle.cfi_class.specs.inner.Forest.{HasSameRoots, root_of}
use Rattle.cfi_class.specs.inner.Numbering.{IsMarked}
use Rattle.cfi_class.proofs.ForestLemmas.{root_of-low, root_of-root_of}
use Rattle.cfi_class.proofs.NumberingLemmas.{idle_pushed, number_pushed, numbers_whole}
use Rattle.cfi_class.proofs.numbering.number_slots.Goals as goal

-- one more slot without an edge
pub loop-slot-preserved-then-not-is_used : goal.loop-slot-preserved-then-not-is_used
loop-slot-preserved-then-not-is_used c =
    let old = c.loop-slot.invariant in
    let numbers = c.loop-slot.numbers.items in
    let idle : get_or c.args.used.now (length numbers) false ≡ false =
    subst (λ n. get_or c.args.used.now n false ≡ false) (sym old.place) c.if-not-is_used.true in
    let pushed : c.push.new.self.items ≡ numbers ++ FIELD_MAX ∷ [] = c.in_ok-push.ensures.items in
    record {
      place = ap length pushed ∙ length_push numbers _ ∙ ap (λ n. n + 1) old.place;
      len = old.len;
      roots = old.roots;
      numbers = rw pushed (idle_pushed c.args.forest.now c.args.used.now numbers c.loop-slot.count old.numbers idle);
    }

-- one more slot with an edge has the number of its root
pub loop-slot-preserved : goal.loop-slot-preserved
loop-slot-preserved c =
    let old = c.loop-slot.invariant in
    let parents = c.args.forest.now in
    let after = c.root-root.new.self in
    let slot = c.loop-slot.slot in
    let root = c.root-root.result in
    let numbers = c.loop-slot.numbers.items in
    let r = c.root-root.ensures in
    let place = old.place in
    let len : length after ≡ length parents = r.len ∙ old.len in
    let there : slot < length parents = omega (arith, c.requires.nodes) in
    let same : HasSameRoots parents after = λ node within.
    r.roots node (omega (arith, old.len)) ∙ old.roots node within in
    let is_root : root ≡ root_of parents slot = r.value ∙ old.roots slot there in
    let is_root_after = is_root ∙ sym (same slot there) in
    let low : (node : ℕ) → node < length numbers → root_of parents node ≤ node = λ node within.
    subst (λ n. n ≤ node) (same node (omega arith)) (root_of-low after node r.forest (omega arith)) in
    let root_low : root ≤ slot = r.within in
    let own : root_of parents root ≡ root = sym (same root (omega arith)) ∙ ap (root_of after) is_root_after
    ∙ root_of-root_of after slot r.forest (omega arith) ∙ sym is_root_after in
    let marked : IsMarked c.args.used.now (length numbers) =
    subst (IsMarked c.args.used.now) (sym place) c.if-not-is_used.false in
    let root_marked : IsMarked c.args.used.now root =
    subst (IsMarked c.args.used.now) (sym is_root) (c.requires.roots slot c.if-not-is_used.false) in
    let chosen : c.number_of-number.result
    ≡ cond (ltb root (length numbers)) (get_or numbers root 0) (c.loop-slot.count + 1) =
    rw c.as_slice.ensures.value at c.number_of-number.ensures in
    let pushed : c.push-in-loop-slot.new.self.items ≡ numbers ++ c.number_of-number.result ∷ [] =
    c.in_ok-push-2.ensures.items in
    record {
      place = ap length pushed ∙ length_push numbers _ ∙ ap (λ n. n + 1) place;
      len = len;
      roots = same;
      numbers = rw (pushed, c.max-count.ensures)
          (number_pushed parents c.args.used.now numbers c.loop-slot.count old.numbers root low marked
          (is_root ∙ ap (root_of parents) (sym place)) c.number_of-number.result chosen (omega arith) root_marked own);
    }

-- all slots have their numbers
pub returns-clause-ok : goal.returns-clause-ok
returns-clause-ok c =
    let so_far = c.loop-slot.invariant in
    numbers_whole c.args.forest.now c.args.used.now c.loop-slot.numbers.items c.loop-slot.count so_far.numbers
    (omega (arith, so_far.place, c.loop-slot-test.false, c.loop-slot.auto.slot-end)) (omega (arith, c.requires.few))
