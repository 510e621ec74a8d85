use Rattle.std.proofs.Common.{length, refl, ◌+◌, List, ℕ, ◌++◌, ◌∙◌, ap, sym, rules, ◌≡◌, [], Some}
use Rattle.std.specs.Prelude.{string_bytes, slice_get}
use Rattle.std.proofs.lemmas.List.{append-nil}
use Rattle.std.proofs.lemmas.Option.{slice_get_read}
use Rattle.cfi_gen.specs.Source.{node_lines}
use Rattle.cfi_gen.proofs.LineLemmas.{function_more, got_is}
use Rattle.cfi_gen.proofs.source.source_of.Goals as goal

-- no function stands yet
pub loop-place-init : goal.loop-place-init
loop-place-init c =
    let none : string_bytes c.new-text.result ≡ [] = search rules in
    c.in_ok-put_nodes.ensures ∙ ap (λ (text : List ℕ). text ++ node_lines) none ∙ sym (append-nil node_lines)

-- one function more
pub loop-place-preserved : goal.loop-place-preserved
loop-place-preserved c =
    let functions = c.as_slice-functions.result.now in
    let place = c.loop-place.place in
    let here : slice_get functions place ≡ Some c.index-functions-place.result =
    slice_get_read functions (length functions) place c.index-functions-place.result refl c.loop-place-test.true
    c.index-functions-place.is in
    let found = c.get.ensures.lookup in
    function_more c.args.drawn.now functions place (string_bytes c.loop-place.text)
    (string_bytes c.put_function.new.text) c.index-functions-place.result _ c.as_slice-functions.ensures here
    (got_is functions (place + 1) c.get.result found.1 found.3) c.loop-place.invariant
    c.in_ok-put_function.ensures
