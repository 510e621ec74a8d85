use Rattle.std.proofs.Common.{◌++◌, List, [], ◌∷◌, length, ap, sym, ◌∙◌, append_assoc}
use Rattle.std.specs.Vec.Iter.{into_iter_items}
use Rattle.cfi_aux.specs.declared.modules.Module.{Module}
use Rattle.cfi_aux.specs.declared.placed.Placed.{Placed}
use Rattle.cfi_modules.specs.Series.{Series}
use Rattle.cfi_commands.proofs.FileLemmas.{order_more, series_fault}
use Rattle.cfi_commands.proofs.files.place_all.Goals as goal

-- the module is the first that does not join those before it
pub returns-in-Err-clause-fault : goal.returns-in-Err-clause-fault
returns-in-Err-clause-fault c =
    let done = c.loop-unplaced.yielded in
    let rest = into_iter_items c.next.new.self in
    let is = c.loop-unplaced.invariant in
    let all = is.3 ∙ ap (λ (ms : List Module). done ++ ms) c.in-Some.ensures.steps.0 in
    let count =
    ap (λ (xs : List Placed). length xs) c.modules.ensures.value
    ∙ ap (λ (s : Series). length s.placed) c.in-Err.ensures.same in
    let first = series_fault c.args.layout.now done c.in-Some.unplaced c.loop-unplaced.series is.1 is.2 is.0 rest
    c.in-Err.fault c.in-Err.ensures.fault in
    rw (all, c.fault_at.ensures, count) first

-- one module more
pub loop-unplaced-preserved : goal.loop-unplaced-preserved
loop-unplaced-preserved c =
    let done = c.loop-unplaced.yielded in
    let rest = into_iter_items c.next.new.self in
    let is = c.loop-unplaced.invariant in
    let more = order_more c.args.layout.now done c.in-Some.unplaced c.loop-unplaced.series is.1 is.2 is.0
    c.add.new.self c.in_default.ensures.ok in (
      more.0,
      more.1,
      more.2,
      is.3 ∙ ap (λ (ms : List Module). done ++ ms) c.in-Some.ensures.steps.0
          ∙ sym (append_assoc done (c.in-Some.unplaced ∷ []) rest),
    )
