use Rattle.std.proofs.Common.{IsTrue, All, ℕ, List, take, get_or, ◌≡◌, ◌∙◌, subst, arith, refl}
use Rattle.std.specs.BTreeSet.{contains}
use Rattle.std.specs.BTreeMap.{is_at}
use Rattle.std.specs.Ordering.{nat_cmp}
use Rattle.std.proofs.lemmas.List.{take_all}
use Rattle.cfi_types.proofs.NearLemmas.{told_more}
use Rattle.cfi_types.proofs.near.told.Goals as goal

pub loop-digest-preserved : goal.loop-digest-preserved
loop-digest-preserved c =
    let items = c.deref-digest-items.result.now in
    let i = c.loop-digest.digest-index in
    let updates = c.in_ok-insert.ensures.updates in
    told_more (contains nat_cmp c.loop-digest.told) (contains nat_cmp c.insert.new.self)
    (λ q. is_at (nat_cmp (get_or items i 0)) q) items i (get_or items i 0) c.loop-digest-test.true refl updates.0
    updates.1 c.loop-digest.invariant

pub returns : goal.returns
returns c =
    let items = c.deref-digest-items.result.now in
    let all : take c.loop-digest.digest-index items ≡ items =
    take_all c.loop-digest.digest-index items (omega (arith, c.loop-digest-test.false)) in
    subst (λ (ds : List ℕ). All (λ digest. IsTrue (contains nat_cmp c.loop-digest.told digest)) ds)
    (all ∙ c.deref-digest-items.ensures.value ∙ c.in_ok-digests.ensures) c.loop-digest.invariant
