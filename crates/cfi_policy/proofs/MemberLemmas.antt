-- The places that have a number, one more place at a time.
use Rattle.std.proofs.Common.{◌≡◌, ◌∙◌, ◌⊎◌, ℕ, ◌+◌, ◌*◌, ◌<◌, ◌≤◌, List, [], ◌∷◌, ◌++◌, length, map, filter, get_or, refl, sym, ap, subst, inl, inr, arith}
use Rattle.std.specs.Prelude.{◌==◌}
use Rattle.std.specs.List.{Contains, AllPairs}
use Rattle.std.proofs.Math.Nat.{mul-lt-mul_of_pos_left}
use Rattle.std.proofs.lemmas.Bool.{cases_lt}
use Rattle.std.proofs.lemmas.List.{length_push, length-map, get_or-map, get_or_append_left, get_or_at}
use Rattle.std.proofs.lemmas.List.Elements.{Contains-append_left, Contains-append_right, Contains-append_cases, Contains-get_or}
use Rattle.std.proofs.lemmas.List.Kept.{AllPairs-filter}
use Rattle.std.proofs.lemmas.List.Quantifiers.{all_pairs_push}
use Rattle.cfi_flow.specs.declared.links.Link.{Link}
use Rattle.cfi_flow.specs.Flow.{Links, BeginBelow}
use Rattle.cfi_flow.specs.Rows.{AreRows}
use Rattle.cfi_flow.proofs.Members.{member_first, member_of_one}
use Rattle.cfi_flow.proofs.RowLemmas.{make_link, from_row, to_row}
use Rattle.cfi_policy.specs.inner.ByClass.{IsMember, AreMembers, AreLinksBy, AreRowsBy}

-- what a place had before
kept : (step : ℕ) (numbers : List ℕ) (last number member : ℕ) → IsMember step numbers number member
    → IsMember step (numbers ++ last ∷ []) number member
kept step numbers last number member (place, below, has, is) =
    let len = length_push numbers last in
    (place, omega arith, get_or_append_left numbers (last ∷ []) 0 place below ∙ has, is)

-- the last place
newest : (step : ℕ) (numbers : List ℕ) (last : ℕ)
    → IsMember step (numbers ++ last ∷ []) last (step * length numbers)
newest step numbers last =
    let len = length_push numbers last in
    (length numbers, omega arith, get_or_at numbers last [] 0 (length numbers) refl, refl)

was_or_newest : (step : ℕ) (numbers : List ℕ) (last number member : ℕ)
    → IsMember step (numbers ++ last ∷ []) number member
    → IsMember step numbers number member ⊎ ((last ≡ number) × (member ≡ step * length numbers))
was_or_newest step numbers last number member (place, below, has, is) =
    let len = length_push numbers last in
    elim (cases_lt place (length numbers)) [
      | inl lower ↦ inl (place, lower, sym (get_or_append_left numbers (last ∷ []) 0 place lower) ∙ has, is)
      | inr higher ↦
          let at : length numbers ≡ place = omega arith in
          inr (sym (get_or_at numbers last [] 0 place at) ∙ has, is ∙ ap (λ n. step * n) (sym at))
    ]

-- a member of fewer places is lower than one more place
member_low : (step : ℕ) (numbers : List ℕ) (number member : ℕ) → 0 < step → IsMember step numbers number member
    → member < step * length numbers
member_low step numbers number member some (place, below, has, is) =
    subst (λ n. n < step * length numbers) (sym is) (mul-lt-mul_of_pos_left below some)

module _ (step count : ℕ) (numbers : List ℕ) (links : List Link) (last : ℕ)
    (before : AreLinksBy step count numbers links) where
  -- a place without a class
  pub place_passed : ((1 ≤ last) × (last ≤ count) → ⊥) → AreLinksBy step count (numbers ++ last ∷ []) links
  place_passed none = record {
    sound = λ number member has.
        let old = before.sound number member has in
        (old.0, old.1, kept step numbers last number member old.2);
    whole = λ number member some most is.
        elim (was_or_newest step numbers last number member is) [
          | inl was ↦ before.whole number member some most was
          | inr new ↦ absurd (none (subst (λ n. (1 ≤ n) × (n ≤ count)) (sym new.0) (some, most)))
        ];
    order = before.order;
  }

  module _ (positive : 0 < step) (some : 1 ≤ last) (most : last ≤ count) where
    abbrev new_link : Link
    new_link = make_link last (step * length numbers)

    link_sound : (number member : ℕ) → Links (links ++ new_link ∷ []) number member
        → (1 ≤ number) × (number ≤ count) × IsMember step (numbers ++ last ∷ []) number member
    link_sound number member has =
        elim (Contains-append_cases links (new_link ∷ []) (make_link number member) has) [
          | inl was ↦
              let old = before.sound number member was in
              (old.0, old.1, kept step numbers last number member old.2)
          | inr new ↦
              let same : new_link ≡ make_link number member = member_of_one new_link (make_link number member) new in
              subst (λ (link : Link). (1 ≤ link.from) × (link.from ≤ count)
              × IsMember step (numbers ++ last ∷ []) link.from link.to) same
              (some, most, newest step numbers last)
        ]

    link_whole : (number member : ℕ) → 1 ≤ number → number ≤ count
        → IsMember step (numbers ++ last ∷ []) number member → Links (links ++ new_link ∷ []) number member
    link_whole number member low high is =
        elim (was_or_newest step numbers last number member is) [
          | inl was ↦ Contains-append_left links (new_link ∷ []) (make_link number member)
              (before.whole number member low high was)
          | inr new ↦
              let same : new_link ≡ make_link number member =
              ap (λ n. make_link n (step * length numbers)) new.0 ∙ ap (make_link number) (sym new.1) in
              Contains-append_right links (new_link ∷ []) (make_link number member)
              (subst (Contains (new_link ∷ [])) same (member_first new_link []))
        ]

    link_lower : (k : ℕ) (d : Link) → k < length links → (get_or links k d).to < step * length numbers
    link_lower k d within =
        let link = get_or links k d in
        let is = before.sound link.from link.to (Contains-get_or links k d within) in
        member_low step numbers link.from link.to positive is.2

    -- a place with a class
    pub place_linked : AreLinksBy step count (numbers ++ last ∷ [])
        (links ++ record { from = last; to = step * length numbers } ∷ [])
    place_linked = record {
      sound = link_sound;
      whole = link_whole;
      order = all_pairs_push (λ a b. a.to < b.to) links new_link before.order link_lower;
    }

-- one more item at the end of a list whose k-th item is of number k + 1
pub each_pushed : {X : Type 0} (P : ℕ → X → Type 0) (items : List X) (count : ℕ) (item : X) → length items ≡ count
    → ((k : ℕ) (d : X) → k < count → P (k + 1) (get_or items k d)) → P (count + 1) item
    → (k : ℕ) (d : X) → k < count + 1 → P (k + 1) (get_or (items ++ item ∷ []) k d)
each_pushed P items count item len each last k d within =
    elim (cases_lt k count) [
      | inl lower ↦ subst (P (k + 1)) (sym (get_or_append_left items (item ∷ []) d k (omega arith))) (each k d lower)
      | inr higher ↦
          let at : length items ≡ k = omega arith in
          let same : count ≡ k = omega arith in
          subst (P (k + 1)) (sym (get_or_at items item [] d k at)) (subst (λ n. P (n + 1) item) same last)
    ]

-- the links begin below the count and one
pub links_begin : (step count : ℕ) (numbers : List ℕ) (links : List Link) → AreLinksBy step count numbers links
    → BeginBelow (count + 1) links
links_begin step count numbers links are = λ k d within.
    let link = get_or links k d in
    let most = (are.sound link.from link.to (Contains-get_or links k d within)).1 in
    omega (arith, most)

-- what rises in a list of links rises in the list of their ends
rising_ends : (links : List Link) → AllPairs (λ a b. a.to < b.to) links → AllPairs ◌<◌ (map (λ link. link.to) links)
rising_ends links rises = λ i j d less within.
    let len = length-map links (λ (link : Link). link.to) in
    let none : Link = make_link 0 0 in
    let above : j < length links = omega (arith, within, len) in
    let below : i < length links = omega (arith, less, above) in
    subst (λ n. n < get_or (map (λ link. link.to) links) j d)
    (sym (get_or-map (λ (link : Link). link.to) links i none d below))
    (subst (λ n. (get_or links i none).to < n) (sym (get_or-map (λ (link : Link). link.to) links j none d above))
    (rises i j none less above))

-- the rows of the links are the members
pub rows_by : (step count : ℕ) (numbers : List ℕ) (links : List Link) (rows : List (List ℕ))
    → AreLinksBy step count numbers links → AreRows (count + 1) links rows → AreRowsBy step count numbers rows
rows_by step count numbers links rows by are = record {
  len = are.len;
  row = λ number some most.
      subst (AreMembers step numbers number) (sym (are.row number (omega (arith, most)))) record {
        are = λ member. (
          λ has. (by.sound number member (from_row number links member has)).2,
          λ is. to_row number links member (by.whole number member some most is),
        );
        order = rising_ends (filter (λ link. link.from == number) links)
            (AllPairs-filter (λ a b. a.to < b.to) (λ link. link.from == number) links by.order);
      };
}
