use Rattle.std.proofs.Common.{rules, ◌≡◌, [], IfOk, length, ◌+◌, ◌<◌, ◌≤◌, subst, sym}
use Rattle.cfi_graph.proofs.HandMadeLemmas.{all_none}
use Rattle.cfi_policy.specs.Image.{HaveImage}
use Rattle.cfi_word.specs.Table.{slots_of}
use Rattle.cfi_calls.proofs.HandMadeLemmas.{none_has_graph}
use Rattle.cfi_calls.proofs.policies.empty_book.Goals as goal

-- there is an image of no modules
pub of-requires-clause-modules : goal.of-requires-clause-modules
of-requires-clause-modules c =
    let layout : c.unwrap-layout.result ≡ 1024 = search rules in
    subst (HaveImage []) (sym layout)
    (c.low_modules_have_image.ensures [] 1024 none_has_graph (all_none (λ m. m.base + length m.words < 1024))
    (all_none (λ m. m.slot_base + length m.branches ≤ slots_of 1024)))

-- its tables are as long as the layout says
pub returns-clause-words : goal.returns-clause-words
returns-clause-words c =
    let layout : c.unwrap-layout.result ≡ 1024 = search rules in
    subst (λ words. IfOk c.of.result (λ book. length book.image.tary ≡ words)) layout c.of.ensures.words
