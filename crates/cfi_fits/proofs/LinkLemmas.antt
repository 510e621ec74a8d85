-- Links of nearest wider ones: one for each place, and each once.
use Rattle.std.proofs.Common.{◌≡◌, ◌∙◌, ℕ, ◌+◌, ◌<◌, ◌==◌, ◌&&◌, Bool, true, false, List, [], ◌∷◌, ◌++◌, length, get_or, Option, Some, None, refl, sym, ap, subst, inl, inr, arith}
use Rattle.std.specs.List.{dedup}
use Rattle.std.proofs.lemmas.Bool.{cases_lt, eqb-true, false≢true}
use Rattle.std.proofs.lemmas.Option.{same_Some}
use Rattle.std.proofs.lemmas.List.{get_or_default, length-append}
use Rattle.std.proofs.lemmas.List.Elements.{Contains-push, Contains-push_cases, Contains-append_left}
use Rattle.std.proofs.lemmas.List.Kept.{Contains-dedup, Contains-from_dedup}
use Rattle.cfi_flow.specs.declared.links.Link.{Link}
use Rattle.cfi_flow.specs.Flow.{Links}
use Rattle.cfi_flow.specs.contracts.links.LinkEq.TheImpl.Laws.{laws-law}
use Rattle.cfi_flow.proofs.OrderLemmas.{length-dedup}
use Rattle.cfi_fits.specs.declared.signature.Signature.{Signature}
use Rattle.cfi_fits.specs.inner.Nearest.{IsNearest, AreNearest, IsLinked, AreLinksOf}

-- what is found gives a link
pub linked_at : (signatures : List Signature) (nearest : List (Option ℕ)) (place w : ℕ) (p q : Signature)
    → AreNearest signatures nearest (length signatures) → place < length signatures
    → get_or nearest place None ≡ Some w
    → IsLinked signatures nearest place w (get_or signatures place p).class (get_or signatures w q).class
linked_at signatures nearest place w p q near within is =
    let found : IsNearest signatures place (Some w) =
    subst (λ o. IsNearest signatures place o) is (near.each place within) in
    let lower : w < place = found.before in (
      is,
      λ d. (
        ap (λ s. s.class) (get_or_default signatures place d p within),
        ap (λ s. s.class) (get_or_default signatures w d q (omega (arith, lower, within))),
      ),
    )

-- a place has one link
pub one_link : (signatures : List Signature) (nearest : List (Option ℕ)) (place w from to v f t : ℕ) (d : Signature)
    → IsLinked signatures nearest place w from to → IsLinked signatures nearest place v f t → (f ≡ from) × (t ≡ to)
one_link signatures nearest place w from to v f t d one other =
    let same : w ≡ v = same_Some w v (sym one.0 ∙ other.0) in (
      sym (other.1 d).0 ∙ (one.1 d).0,
      sym (other.1 d).1 ∙ ap (λ k. (get_or signatures k d).class) (sym same) ∙ (one.1 d).1,
    )

module _ (signatures : List Signature) (nearest : List (Option ℕ)) (count : ℕ) (links : List Link)
    (old : AreLinksOf signatures nearest count links) where
  -- the next place needs no link
  pub links_skip : ((w f t : ℕ) → IsLinked signatures nearest count w f t → f ≡ t)
      → AreLinksOf signatures nearest (count + 1) links
  links_skip none = record {
    sound = λ from to h.
        let had = old.sound from to h in
        let less : had.0 < count = had.1 in
        (had.0, omega (arith, less), had.2, had.3);
    whole = λ place w f t before is. elim (cases_lt place count) [
      | inl less ↦ old.whole place w f t less is
      | inr last ↦
          let here : place ≡ count = omega (arith, before, last) in
          inl (none w f t (subst (λ k. IsLinked signatures nearest k w f t) here is))
    ];
    few = omega (arith, old.few);
  }

  -- the next place's link is added
  pub links_more : (w from to : ℕ) (d : Signature) → IsLinked signatures nearest count w from to
      → AreLinksOf signatures nearest (count + 1) (links ++ record { from = from; to = to } ∷ [])
  links_more w from to d new =
      let link : Link = record { from = from; to = to } in
      record {
        sound = λ f t h. elim (Contains-push_cases links link (record { from = f; to = t }) h) [
          | inl had ↦
              let place = old.sound f t had in
              let less : place.0 < count = place.1 in
              (place.0, omega (arith, less), place.2, place.3)
          | inr is ↦
              let begin : from ≡ f = ap (λ l. l.from) is in
              let end : to ≡ t = ap (λ l. l.to) is in (
                count,
                omega arith,
                w,
                subst (λ k. IsLinked signatures nearest count w k t) begin
                    (subst (λ k. IsLinked signatures nearest count w from k) end new),
              )
        ];
        whole = λ place v f t before is. elim (cases_lt place count) [
          | inl less ↦ elim (old.whole place v f t less is) [
            | inl same ↦ inl same
            | inr had ↦ inr (Contains-append_left links (link ∷ []) (record { from = f; to = t }) had)
          ]
          | inr last ↦
              let here : place ≡ count = omega (arith, before, last) in
              let both = one_link signatures nearest count w from to v f t d new
              (subst (λ k. IsLinked signatures nearest k v f t) here is) in
              inr (subst (λ k. Links (links ++ link ∷ []) k t) (sym both.0)
              (subst (λ k. Links (links ++ link ∷ []) from k) (sym both.1) (Contains-push links link)))
        ];
        few = omega (arith, old.few, length-append links (link ∷ []));
      }

-- what holds of both holds of each
both_hold : (a b : Bool) → (a && b) ≡ true → (a ≡ true) × (b ≡ true)
both_hold true b h = (refl, h)
both_hold false b h = absurd (false≢true h)

-- the test by which links are told apart
abbrev same_ends : Link → Link → Bool
same_ends a b = a.from == b.from && a.to == b.to

-- a link of two numbers
make_link : ℕ → ℕ → Link
make_link a b = record { from = a; to = b }

-- links with equal ends are one
same_link : (a b : Link) → same_ends a b ≡ true → a ≡ b
unfolding make_link
same_link a b h =
    let both = both_hold (a.from == b.from) (a.to == b.to) h in
    ap (λ n. make_link n a.to) (eqb-true a.from b.from both.0)
    ∙ ap (λ n. make_link b.from n) (eqb-true a.to b.to both.1)

-- each link once
pub links_once : (signatures : List Signature) (nearest : List (Option ℕ)) (count : ℕ) (links : List Link)
    → AreLinksOf signatures nearest count links → AreLinksOf signatures nearest count (dedup same_ends links)
links_once signatures nearest count links old = record {
  sound = λ from to h. old.sound from to (Contains-from_dedup same_ends links (record { from = from; to = to }) h);
  whole = λ place w f t before is. elim (old.whole place w f t before is) [
    | inl same ↦ inl same
    | inr had ↦ inr (Contains-dedup laws-law same_link links (record { from = f; to = t }) had)
  ];
  few = omega (arith, old.few, length-dedup same_ends links);
}
