use Rattle.std.proofs.Common.{◌≡◌, ◌<◌, length, get_or, leb, Some, sym, ap, arith, rules}
use Rattle.std.proofs.lemmas.List.{get_or_default}
use Rattle.std.proofs.lemmas.List.Sorted.{IsPartitionPoint-from_clause, IsPartitionedBy-leb}
use Rattle.cfi_graph.proofs.PlaceLemmas.{end_of, cut_from, ends_rise, past_all, lies_here, found_here, begins_later}
use Rattle.cfi_graph.proofs.place.first_at.Goals as goal

pub returns-then-number-functions-clause-only : goal.returns-then-number-functions-clause-only
returns-then-number-functions-clause-only c =
    let functions = c.args.functions.now in
    let number = c.partition_point-number.result in
    let at = c.args.at in
    let parted = IsPartitionedBy-leb end_of functions at (ends_rise functions c.requires) in
    let point = IsPartitionPoint-from_clause (λ f. leb (end_of f) at) functions _
    c.partition_point-number.ensures.partitioned parted (λ a r q k. search rules) in
    let cut = cut_from functions number at point in
    λ first is. absurd (past_all functions number at cut (omega arith) first is)

pub returns-then-first-at-clause-some : goal.returns-then-first-at-clause-some
returns-then-first-at-clause-some c =
    let functions = c.args.functions.now in
    let number = c.partition_point-number.result in
    let at = c.args.at in
    let parted = IsPartitionedBy-leb end_of functions at (ends_rise functions c.requires) in
    let point = IsPartitionPoint-from_clause (λ f. leb (end_of f) at) functions _
    c.partition_point-number.ensures.partitioned parted (λ a r q k. search rules) in
    let cut = cut_from functions number at point in
    let there : number < length functions = omega arith in
    let f = get_or functions number c.index-functions-number.result in
    let f_is : f ≡ get_or functions number f =
    get_or_default functions number c.index-functions-number.result f there in
    found_here functions number at cut f f_is there c.if-first-at.true

pub returns-then-first-at-clause-only : goal.returns-then-first-at-clause-only
returns-then-first-at-clause-only c =
    let functions = c.args.functions.now in
    let number = c.partition_point-number.result in
    let at = c.args.at in
    let parted = IsPartitionedBy-leb end_of functions at (ends_rise functions c.requires) in
    let point = IsPartitionPoint-from_clause (λ f. leb (end_of f) at) functions _
    c.partition_point-number.ensures.partitioned parted (λ a r q k. search rules) in
    let cut = cut_from functions number at point in
    let there : number < length functions = omega arith in
    let f = get_or functions number c.index-functions-number.result in
    let f_is : f ≡ get_or functions number f =
    get_or_default functions number c.index-functions-number.result f there in
    λ first is. ap Some (sym (lies_here functions number at cut c.requires f f_is there first is))

pub returns-else-first-at-clause-only : goal.returns-else-first-at-clause-only
returns-else-first-at-clause-only c =
    let functions = c.args.functions.now in
    let number = c.partition_point-number.result in
    let at = c.args.at in
    let parted = IsPartitionedBy-leb end_of functions at (ends_rise functions c.requires) in
    let point = IsPartitionPoint-from_clause (λ f. leb (end_of f) at) functions _
    c.partition_point-number.ensures.partitioned parted (λ a r q k. search rules) in
    let cut = cut_from functions number at point in
    let there : number < length functions = omega arith in
    let f = get_or functions number c.index-functions-number.result in
    let f_is : f ≡ get_or functions number f =
    get_or_default functions number c.index-functions-number.result f there in
    λ first is. absurd (begins_later functions number at cut c.requires f f_is there c.if-first-at.false first is)
