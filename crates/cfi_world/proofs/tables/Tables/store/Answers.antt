use Rattle.std.proofs.Common.{◌≡◌, ◌+◌, ◌<◌, None, sym, ap, subst, ◌∙◌}
use Rattle.cfi_word.specs.Rank.{stores_of}
use Rattle.cfi_world.specs.Updates.{next_store}
use Rattle.cfi_world.specs.inner.Held.{tables_by}
use Rattle.cfi_world.proofs.HeldLemmas.{stored_held}
use Rattle.cfi_world.proofs.tables.Tables.store.Goals as goal

-- one store more is one of the update's
pub invariant_of-self : goal.invariant_of-self
invariant_of-self c =
    let inv = c.self.invariant in
    let none : (tables_by c.self.inside).asked ≡ None =
    subst (λ v. v.tables.asked ≡ None) (sym c.self.view_is) c.requires.none in
    let more : c.self.inside.stored < stores_of c.self.inside.layout =
    subst (λ v. v.tables.stored < stores_of v.tables.code_words) (sym c.self.view_is) c.requires.more in
    let same = ap (λ v. next_store v.tables (c.self.inside.stored + 1)) (sym c.self.view_is) in
    record {
      tables = stored_held (tables_by c.self.inside) inv.tables none more c.next_store-self-inside.result
          (c.next_store-self-inside.ensures ∙ same);
      kept = inv.kept;
      image_room = inv.image_room;
      entry_room = inv.entry_room;
    }
