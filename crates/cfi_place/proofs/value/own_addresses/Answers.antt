use Rattle.std.proofs.Common.{◌≡◌, ◌∙◌, ◌+◌, ◌++◌, ◌∷◌, [], ap, sym, subst, take, ℕ, List}
use Rattle.std.proofs.lemmas.List.{take_more}
use Rattle.cfi_place.specs.Names.{find_in, with_name}
use Rattle.cfi_place.proofs.NameLemmas.{names-push}
use Rattle.cfi_place.proofs.value.own_addresses.Goals as goal

pub loop-name-preserved : goal.loop-name-preserved
loop-name-preserved c = λ q.
    let pairs = c.as_slice-pairs.result.now in
    let i = c.loop-name.name-index in
    let item = c.loop-name-item.result in
    let added : (other : List ℕ) → find_in c.add.new.self other ≡ with_name item.0 item.1 (find_in c.loop-name.own) other =
    subst (λ (x : List ℕ). (other : List ℕ) → find_in c.add.new.self other
    ≡ with_name x item.1 (find_in c.loop-name.own) other) c.as_str.ensures c.in_ok-add.ensures.ok in
    let more : take (i + 1) pairs ≡ take i pairs ++ item ∷ [] =
    take_more pairs i item c.loop-name-test.true
    ∙ ap (λ (x : List ℕ × ℕ). take i pairs ++ x ∷ []) (sym c.loop-name-item.is) in
    names-push (take i pairs) (take (i + 1) pairs) item.0 item.1 (find_in c.loop-name.own) (find_in c.add.new.self) more
    c.loop-name.invariant added q
