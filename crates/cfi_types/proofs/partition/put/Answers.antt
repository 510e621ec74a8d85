use Rattle.std.proofs.Common.{◌≡◌, ◌∙◌, ◌+◌, ◌<◌, ◌++◌, ◌∷◌, [], ℕ, List, length, take, set, get_or, vec_len, refl, sym, ap, subst, arith, rules}
use Rattle.std.proofs.lemmas.List.{get_or_read, get_or-map, length-map}
use Rattle.cfi_types.specs.inner.Division.{IsPut, AreListed}
use Rattle.cfi_types.proofs.DivisionLemmas.{none_put, put_same, put_more, listed_more}
use Rattle.cfi_types.proofs.partition.put.Goals as goal
use Rattle.cfi_types.proofs.partition.put.Goals.{then-index-end+in_ok-add, else-index-end}

pub loop-i-init : goal.loop-i-init
loop-i-init c = record {
  put = none_put c.args.parts.now.items c.args.targets.now c.args.nodes.now;
  listed = c.requires.listed;
}

pub loop-i-preserved : goal.loop-i-preserved
loop-i-preserved c =
    let old = c.args.parts.now.items in
    let targets = c.args.targets.now in
    let nodes = c.args.nodes.now in
    let i = c.loop-i.i in
    let mid = c.loop-i.parts.items in
    let members = c.loop-i.members in
    let ends = c.find_ends.new.ends.items in
    let x = get_or c.args.nodes.now c.loop-i.i 0 in
    let end = c.index.result.now in
    let lt : i < length nodes = c.loop-i-test.true in
    let count : length ends ≡ length nodes = ap length c.in_ok-find_ends.ensures ∙ length-map nodes (λ a. get_or targets
    (get_or c.as_slice.result.now a 0) 0) in
    let target : end ≡ get_or targets (get_or old x 0) 0 =
    get_or_read ends i end (omega (arith, count, lt)) c.index.ensures 0 ∙ ap (λ l. get_or l i 0) c.in_ok-find_ends.ensures
    ∙ get_or-map (λ a. get_or targets (get_or c.as_slice.result.now a 0) 0) nodes i 0 0 lt
    ∙ ap (λ l. get_or targets (get_or l x 0) 0) c.as_slice.ensures.value in
    let len : vec_len c.args.parts.now ≡ length old = search rules in
    let below : x < length old = omega (arith, c.requires.nodes i 0 lt, len) in
    let so_far = c.loop-i.invariant.put in
    let bound : get_or old x 0 < length targets = c.requires.parts x 0 below in
    elim c.if-index-end.branch [
      | then-index-end+in_ok-add w ↦
          let parts_is : c.if-index-end.parts.items ≡ set mid x end = ap (λ v. v.items) w.parts-is in
          let members_is : c.if-index-end.members ≡ set members end (get_or members end [] ++ x ∷ []) =
          w.members-is ∙ w.in_ok-add.ensures in
          let inside : x < length mid = omega (arith, so_far.len, below) in
          let room : end < length mid =
          omega (
            arith,
            so_far.len,
            len,
            subst (λ k. k < vec_len c.args.parts.now) (sym target)
                (c.requires.targets _ 0 bound),
          ) in
          record {
            put = subst (λ (l : List ℕ). IsPut old targets (take (i + 1) nodes) l) (sym parts_is)
                (put_more old mid targets nodes i x end so_far lt refl below target);
            listed = subst (λ (l : List ℕ). AreListed l c.if-index-end.members) (sym parts_is)
                (subst (λ (m : List (List ℕ)). AreListed (set mid x end) m) (sym members_is)
                (listed_more mid members x end c.loop-i.invariant.listed inside room));
          }
      | else-index-end w ↦
          let parts_is : c.if-index-end.parts.items ≡ mid = ap (λ v. v.items) w.parts-is in
          let inside : x < length mid = omega (arith, so_far.len, below) in
          let at : get_or mid x 0 ≡ end =
          sym (get_or_read mid x c.index-in-loop-i.result.now inside c.index-in-loop-i.ensures 0)
          ∙ w.if-index-end.false in
          record {
            put = subst (λ (l : List ℕ). IsPut old targets (take (i + 1) nodes) l) (sym parts_is)
                (put_same old mid targets nodes i x end so_far lt refl below target at);
            listed = subst (λ (l : List ℕ). AreListed l c.if-index-end.members) (sym parts_is)
                (subst (λ (m : List (List ℕ)). AreListed mid m) (sym w.members-is) c.loop-i.invariant.listed);
          }
    ]
