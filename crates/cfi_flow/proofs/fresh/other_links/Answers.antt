use Rattle.std.proofs.Common.{◌≡◌, ◌∙◌, ◌+◌, ◌++◌, ◌∷◌, [], take, get_or, sym, ap, subst}
use Rattle.std.specs.List.{Contains}
use Rattle.std.proofs.lemmas.Bool.{false≢true}
use Rattle.std.proofs.lemmas.List.{take_more, take_all}
use Rattle.cfi_flow.specs.Fans.{link_edge}
use Rattle.cfi_flow.specs.Fresh.{AreOthers}
use Rattle.cfi_flow.specs.inner.Others.{CanBeSearched}
use Rattle.cfi_flow.proofs.EdgeLemmas.{listed_link}
use Rattle.cfi_flow.proofs.Members.{member_map}
use Rattle.cfi_flow.proofs.OtherLemmas.{known_more, other_more}
use Rattle.cfi_flow.proofs.SpreadLemmas.{no_link}
use Rattle.cfi_flow.proofs.fresh.other_links.Goals as goal
use Rattle.cfi_flow.proofs.fresh.other_links.Goals.{then-not-is_known_edge+in_ok-push, else-not-is_known_edge}

pub is_known_edge-requires : goal.is_known_edge-requires
is_known_edge-requires c = subst CanBeSearched (sym c.as_slice.ensures.value) c.in_ok-known.ensures.order

pub loop-link-preserved : goal.loop-link-preserved
loop-link-preserved c =
    let i = c.loop-link.link-index in
    let links = c.args.links.now in
    let link = get_or c.args.links.now c.loop-link.link-index no_link in
    let known = c.args.known.now in
    let sorted = c.in_ok-known.known.items in
    let more : take (i + 1) links ≡ take i links ++ link ∷ [] = take_more links i no_link c.loop-link-test.true in
    elim c.if-not-is_known_edge.branch [
      | then-not-is_known_edge+in_ok-push w ↦
          let new : Contains known link → ⊥ = λ h.
          let has = (c.in_ok-known.ensures.same (link_edge link)).1 (member_map link_edge known link h) in
          false≢true (sym w.if-not-is_known_edge.true
          ∙ c.is_known_edge.ensures.1 (subst (λ ks. Contains ks (link_edge link)) (sym c.as_slice.ensures.value) has)) in
          let is = ap (λ v. v.items) w.others-is ∙ w.in_ok-push.ensures.items in
          subst (λ ns. AreOthers ns known c.if-not-is_known_edge.others.items) (sym more)
          (subst (λ os. AreOthers (take i links ++ link ∷ []) known os) (sym is)
          (other_more _ _ _ link c.loop-link.invariant new))
      | else-not-is_known_edge w ↦
          let found : Contains sorted (link_edge link) =
          subst (λ ks. Contains ks (link_edge link)) c.as_slice.ensures.value
          (c.is_known_edge.ensures.0 w.if-not-is_known_edge.false) in
          let has : Contains known link =
          listed_link known link.from link.to ((c.in_ok-known.ensures.same (link_edge link)).0 found) in
          let is = ap (λ v. v.items) w.others-is in
          subst (λ ns. AreOthers ns known c.if-not-is_known_edge.others.items) (sym more)
          (subst (λ os. AreOthers (take i links ++ link ∷ []) known os) (sym is)
          (known_more _ _ _ link c.loop-link.invariant has))
    ]

pub returns : goal.returns
returns c =
    subst (λ ls. AreOthers ls c.args.known.now c.loop-link.others.items)
    (take_all c.loop-link.link-index c.args.links.now c.loop-link-test.false) c.loop-link.invariant
