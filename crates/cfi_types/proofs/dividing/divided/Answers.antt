use Rattle.std.proofs.Common.{◌<◌, [], length, slice_index_or, All, sym, subst, arith}
use Rattle.cfi_types.specs.inner.Division.{KeepTogether}
use Rattle.cfi_types.proofs.LeadLemmas.{nodes_within, places_within, all_tell, all_below, gathers_of}
use Rattle.cfi_types.proofs.LeastLemmas.{names_keep}
use Rattle.cfi_types.proofs.KeepLemmas.{together, none_hit}
use Rattle.cfi_types.proofs.dividing.divided.Goals as goal
use Rattle.cfi_types.proofs.dividing.divided.Goals.{else-loop-test, then-loop-test+in_default}

pub loop-init : goal.loop-init
loop-init c = record {
  whole = c.in_ok-parts.ensures.whole;
  clear = none_hit c.in_ok-hits.hits c.in_ok-hits.ensures;
  kept = together c.args.nodes.now c.args.classes.items c.in_ok-parts.parts.parts.items
      c.in_ok-parts.ensures.parts c.requires.keep;
}

pub divides_none-requires-clause-nodes : goal.divides_none-requires-clause-nodes
divides_none-requires-clause-nodes c =
    let keep : KeepTogether c.args.nodes.now c.next.new.self.parts.items =
    subst (λ v. KeepTogether c.args.nodes.now v.items) (sym c.next.ensures.same) c.loop.invariant.kept in
    subst (λ n. All (All (λ x. x.node < n)) c.in_ok-parents.parents) (sym keep.len)
    (nodes_within c.args.nodes.now c.in_ok-parents.parents c.in_ok-parents.ensures)

pub gather-requires-clause-places : goal.gather-requires-clause-places
gather-requires-clause-places c =
    subst (λ n. All (All (λ x. x.place < n)) c.in_ok-parents.parents) (sym c.loop.invariant.clear.len)
    (places_within c.args.nodes.now c.in_ok-parents.parents c.in_ok-parents.ensures)

pub divide_by-requires-clause-below : goal.divide_by-requires-clause-below
divide_by-requires-clause-below c =
    let nodes = c.args.nodes.now in
    let parents = c.in_ok-parents.parents in
    let parts = c.next.new.self.parts.items in
    let members = c.next.new.self.members in
    let keep : KeepTogether c.args.nodes.now c.next.new.self.parts.items =
    subst (λ v. KeepTogether c.args.nodes.now v.items) (sym c.next.ensures.same) c.loop.invariant.kept in
    let lt : c.in-Some.part < length c.args.nodes.now = omega
    (arith, c.in-Some.ensures.below, c.loop.invariant.kept.len) in
    let gathers =
    gathers_of c.loop.hits c.gather.new.hits parents c.row.result.now (slice_index_or members c.in-Some.part [])
    c.as_slice.result.now parts c.in-Some.part c.row.ensures c.as_slice.ensures.value c.in_ok-gather.ensures in
    all_below nodes parents parts members c.in-Some.part c.requires.closed c.in_ok-parents.ensures keep
    c.next.ensures.whole.listed lt c.loop.hits c.gather.new.hits c.loop.invariant.clear gathers

pub loop-preserved : goal.loop-preserved
loop-preserved c =
    let nodes = c.args.nodes.now in
    let parents = c.in_ok-parents.parents in
    let parts = c.next.new.self.parts.items in
    let members = c.next.new.self.members in
    let keep : KeepTogether c.args.nodes.now c.next.new.self.parts.items =
    subst (λ v. KeepTogether c.args.nodes.now v.items) (sym c.next.ensures.same) c.loop.invariant.kept in
    let lt : c.in-Some.part < length c.args.nodes.now = omega
    (arith, c.in-Some.ensures.below, c.loop.invariant.kept.len) in
    let gathers =
    gathers_of c.loop.hits c.gather.new.hits parents c.row.result.now (slice_index_or members c.in-Some.part [])
    c.as_slice.result.now parts c.in-Some.part c.row.ensures c.as_slice.ensures.value c.in_ok-gather.ensures in
    record {
      whole = c.in_ok-divide_by.ensures.whole;
      clear = c.in_ok-divide_by.ensures.clear;
      kept = c.in_ok-divide_by.ensures.kept nodes keep
          (all_tell nodes parents parts members c.in-Some.part c.requires.closed c.in_ok-parents.ensures keep
          c.next.ensures.whole.listed lt c.loop.hits c.gather.new.hits c.loop.invariant.clear gathers);
    }

pub returns : goal.returns
returns c =
    let kept : KeepTogether c.args.nodes.now c.loop-test.parts.parts.items =
    elim c.loop-test.branch [
      | else-loop-test w ↦ subst (λ p. KeepTogether c.args.nodes.now p.parts.items)
          (sym w.parts-is) c.loop.invariant.kept
      | then-loop-test+in_default w ↦
          subst (λ p. KeepTogether c.args.nodes.now p.parts.items) (sym w.parts-is)
          (subst (λ v. KeepTogether c.args.nodes.now v.items) (sym w.next.ensures.same) c.loop.invariant.kept)
    ] in
    names_keep c.args.nodes.now c.as_slice-2.result.now c.loop-test.parts.parts.items c.least_of.result
    c.as_slice-2.ensures.value kept c.least_of.ensures
