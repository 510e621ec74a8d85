use Rattle.std.proofs.Common.{◌≡◌, ◌+◌, ◌<◌, [], ◌∷◌, ◌++◌, length, refl, sym, ap, ◌∙◌, arith}
use Rattle.std.proofs.lemmas.List.{length_push}
use Rattle.cfi_word.specs.declared.ids.TheConstants.{FIELD_MAX}
use Rattle.cfi_class.specs.declared.nodes.TheConstants.{CLASSES}
use Rattle.cfi_class.specs.inner.Forest.{root_of}
use Rattle.cfi_class.specs.inner.Renumbering.{number_at, IsLive, IsIdle, OpensClass, slot_root}
use Rattle.cfi_class.specs.inner.Nodes.{slot_node}
use Rattle.cfi_class.proofs.NodesLemmas.{slot_node-low}
use Rattle.cfi_class.proofs.RenumberingLemmas.{number_more, next_kept, next_given, none_numbered, next_first, opened_number, known_number, idle_number, opens_none}
use Rattle.cfi_class.proofs.renumbering.number_kept_slots.Goals as goal

pub loop-slot-init : goal.loop-slot-init
loop-slot-init c =
    rw c.in_ok-numbers.ensures.items record {
      place = refl;
      len = refl;
      roots = λ node there. refl;
      numbers = none_numbered c.args.forest.now c.args.bary.now c.args.used.now c.args.taken.now;
      next = next_first c.args.forest.now c.args.bary.now c.args.used.now c.args.taken.now _ c.next_free-next.ensures;
    }

-- one more slot without an edge
pub loop-slot-preserved-then-is_idle : goal.loop-slot-preserved-then-is_idle
loop-slot-preserved-then-is_idle c =
    let old = c.loop-slot.invariant in
    let parents = c.args.forest.now in
    let bary = c.args.bary.now in
    let used = c.args.used.now in
    let taken = c.args.taken.now in
    let numbers = c.loop-slot.numbers.items in
    let idle : IsIdle bary used (length numbers) = rw old.place (c.is_idle.ensures.idle c.if-is_idle.true) in
    let pushed : c.push.new.self.items ≡ numbers ++ FIELD_MAX ∷ [] = c.in_ok-push.ensures.items in
    rw pushed record {
      place = length_push numbers _ ∙ ap (λ n. n + 1) old.place;
      len = old.len;
      roots = old.roots;
      numbers = number_more parents bary used taken numbers FIELD_MAX old.numbers
          (idle_number parents bary used taken numbers idle);
      next = next_kept parents bary used taken numbers FIELD_MAX _ old.next
          (opens_none parents bary used taken numbers idle);
    }

-- one more slot of a class that is there
pub loop-slot-preserved-then-root-slot : goal.loop-slot-preserved-then-root-slot
loop-slot-preserved-then-root-slot c =
    let old = c.loop-slot.invariant in
    let parents = c.args.forest.now in
    let after = c.root-root.new.self in
    let bary = c.args.bary.now in
    let used = c.args.used.now in
    let taken = c.args.taken.now in
    let numbers = c.loop-slot.numbers.items in
    let slot = c.loop-slot.slot in
    let r = c.root-root.ensures in
    let place : length numbers ≡ slot = old.place in
    let live : IsLive bary used (length numbers) = rw place (c.is_idle.ensures.live c.if-is_idle.false) in
    let low = slot_node-low bary slot in
    let there : slot_node bary slot < length parents = omega (arith, c.requires.nodes, c.loop-slot-test.true) in
    let is : c.root-root.result ≡ slot_root parents bary (length numbers) =
    r.value ∙ ap (root_of c.loop-slot.forest) c.slot_node.ensures ∙ old.roots (slot_node bary slot) there
    ∙ ap (slot_root parents bary) (sym place) in
    let number : c.number_of_root-number.result ≡ number_at numbers (slot_root parents bary (length numbers)) =
    rw c.as_slice.ensures.value at c.number_of_root-number.ensures ∙ ap (number_at numbers) is in
    let lower : slot_root parents bary (length numbers) < CLASSES + length numbers =
    omega (arith, c.if-root-slot.true) in
    let pushed : c.push-then-root-slot.new.self.items ≡ numbers ++ c.number_of_root-number.result ∷ [] =
    c.in_ok-push-2.ensures.items in
    rw pushed record {
      place = length_push numbers _ ∙ ap (λ n. n + 1) place;
      len = r.len ∙ old.len;
      roots = λ node within. r.roots node (omega (arith, old.len)) ∙ old.roots node within;
      numbers = number_more parents bary used taken numbers _ old.numbers
          (known_number parents bary used taken numbers _ live lower number);
      next = next_kept parents bary used taken numbers _ _ old.next (λ opens. omega (arith, opens.1));
    }

-- one more slot, the first of a new class
pub loop-slot-preserved : goal.loop-slot-preserved
loop-slot-preserved c =
    let old = c.loop-slot.invariant in
    let parents = c.args.forest.now in
    let bary = c.args.bary.now in
    let used = c.args.used.now in
    let taken = c.args.taken.now in
    let numbers = c.loop-slot.numbers.items in
    let slot = c.loop-slot.slot in
    let r = c.root-root.ensures in
    let place : length numbers ≡ slot = old.place in
    let live : IsLive bary used (length numbers) = rw place (c.is_idle.ensures.live c.if-is_idle.false) in
    let low = slot_node-low bary slot in
    let there : slot_node bary slot < length parents = omega (arith, c.requires.nodes, c.loop-slot-test.true) in
    let is : c.root-root.result ≡ slot_root parents bary (length numbers) =
    r.value ∙ ap (root_of c.loop-slot.forest) c.slot_node.ensures ∙ old.roots (slot_node bary slot) there
    ∙ ap (slot_root parents bary) (sym place) in
    let opens : OpensClass parents bary used (length numbers) = (live, omega (arith, c.if-root-slot.false)) in
    let pushed : c.push-in-loop-slot.new.self.items ≡ numbers ++ c.loop-slot.next ∷ [] =
    c.in_ok-push-3.ensures.items in
    rw pushed record {
      place = length_push numbers _ ∙ ap (λ n. n + 1) place;
      len = r.len ∙ old.len;
      roots = λ node within. r.roots node (omega (arith, old.len)) ∙ old.roots node within;
      numbers = number_more parents bary used taken numbers _ old.numbers
          (opened_number parents bary used taken numbers _ old.next c.requires.few opens);
      next = next_given parents bary used taken numbers _ _ old.next opens c.next_free-next-in-loop-slot.ensures;
    }
