use Rattle.std.proofs.Common.{sym, subst, ◌∙◌, ◌≤◌, ◌+◌}
use Rattle.cfi_word.specs.declared.limits.TheConstants.{MAX_POLICY}
use Rattle.cfi_world.proofs.HeldLemmas.{started, started_at}
use Rattle.cfi_world.proofs.tables.Tables.pass.Goals as goal

-- there is an entry more, and none of its stores was made
pub invariant_of-self-in-Some : goal.invariant_of-self-in-Some
invariant_of-self-in-Some c =
    let inv = c.self.invariant in
    let asks = sym c.take.ensures.value ∙ c.in-Some.is in
    record {
      tables = started c.self.inside inv c.in-Some.image asks c.add.new.images.items c.add.new.policies.items
          c.take.new.self c.take.ensures.after c.add.ensures.entries;
      kept = c.add.ensures.kept;
      image_room = subst (λ n. MAX_POLICY + 1 ≤ n) (sym c.add.ensures.images) inv.image_room;
      entry_room = subst (λ n. c.self.inside.room + 1 ≤ n) (sym c.add.ensures.policies) inv.entry_room;
    }

-- the stores begin with the first that is needed
pub invariant_of-self-in-Some-2 : goal.invariant_of-self-in-Some-2
invariant_of-self-in-Some-2 c =
    let inv = c.self.invariant in
    let asks = sym c.take.ensures.value ∙ c.in-Some.is in
    record {
      tables = started_at c.self.inside inv c.in-Some.image asks c.add.new.images.items c.add.new.policies.items
          c.take.new.self c.take.ensures.after c.add.ensures.entries c.next_store-self-inside.result
          c.next_store-self-inside.ensures;
      kept = c.add.ensures.kept;
      image_room = subst (λ n. MAX_POLICY + 1 ≤ n) (sym c.add.ensures.images) inv.image_room;
      entry_room = subst (λ n. c.self.inside.room + 1 ≤ n) (sym c.add.ensures.policies) inv.entry_room;
    }
