use Rattle.std.proofs.Common.{◌≡◌, ◌∙◌, length, sym, rules}
use Rattle.cfi_import.proofs.PartLemmas.{none_left, passed-by, same_stubbed}
use Rattle.cfi_import.proofs.stubbed.with_stubs.Goals as goal

pub returns-in-Some-clause-fault : goal.returns-in-Some-clause-fault
returns-in-Some-clause-fault c =
    let number : c.len.result ≡ length c.in_ok-found.found.names.items = search rules in
    sym (passed-by c.args.source.now c.in_ok-found.found.names.items c.len.result c.sizes_of.result
    c.sizes_with-sizes.result c.in_ok-found.ensures.names number c.sizes_of.ensures c.sizes_with-sizes.ensures)
    ∙ sym c.passed.ensures
    ∙ c.in-Some.is

pub returns-then-is_empty-clause-ok : goal.returns-then-is_empty-clause-ok
returns-then-is_empty-clause-ok c =
    let none : length c.in_ok-found.found.names.items ≡ 0 = search rules in
    same_stubbed c.args.source.now c.in_ok-copied.field-0 c.in_ok-found.found.names.items c.in_ok-found.ensures.names none
    c.in_ok-copied.ensures.object c.in_ok-copied.ensures.types c.in_ok-copied.ensures.records

pub returns-then-is_empty-clause-within : goal.returns-then-is_empty-clause-within
returns-then-is_empty-clause-within c =
    let number : c.len.result ≡ length c.in_ok-found.found.names.items = search rules in
    sym (passed-by c.args.source.now c.in_ok-found.found.names.items c.len.result c.sizes_of.result
    c.sizes_with-sizes.result c.in_ok-found.ensures.names number c.sizes_of.ensures c.sizes_with-sizes.ensures)
    ∙ sym c.passed.ensures
    ∙ none_left c.passed.result c.in_default.not-Some

pub make-requires-clause-within : goal.make-requires-clause-within
make-requires-clause-within c =
    let number : c.len.result ≡ length c.in_ok-found.found.names.items = search rules in
    sym (passed-by c.args.source.now c.in_ok-found.found.names.items c.len.result c.sizes_of.result
    c.sizes_with-sizes.result c.in_ok-found.ensures.names number c.sizes_of.ensures c.sizes_with-sizes.ensures)
    ∙ sym c.passed.ensures
    ∙ none_left c.passed.result c.in_default.not-Some

pub returns-clause-within : goal.returns-clause-within
returns-clause-within c =
    let number : c.len.result ≡ length c.in_ok-found.found.names.items = search rules in
    sym (passed-by c.args.source.now c.in_ok-found.found.names.items c.len.result c.sizes_of.result
    c.sizes_with-sizes.result c.in_ok-found.ensures.names number c.sizes_of.ensures c.sizes_with-sizes.ensures)
    ∙ sym c.passed.ensures
    ∙ none_left c.passed.result c.in_default.not-Some
