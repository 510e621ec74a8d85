-- Images whose classes are numbered in the order of their least slots are one.
use Rattle.std.proofs.Common.{◌≡◌, ℕ, zero, suc, ◌+◌, ◌*◌, ◌/◌, ◌%◌, ◌<◌, ◌≤◌, List, slice_index, sym, subst, ◌∙◌, ⊎_elim, inl, inr, arith}
use Rattle.std.proofs.lemmas.Bool.{cases_lt, cases_order}
use Rattle.std.proofs.lemmas.List.{same_lists, get_or_default}
use Rattle.std.proofs.lemmas.Option.{slice_get_within}
use Rattle.cfi_aux.specs.declared.placed.Placed.{Placed}
use Rattle.cfi_class.specs.Labels.{IsUsed, AreLabels, AreOrderedBySlot}
use Rattle.cfi_graph.specs.Direct.{DirectEdge}
use Rattle.cfi_policy.specs.Image.{IsImage}
use Rattle.cfi_modules.specs.Loaded.{AreLoaded}
use Rattle.cfi_modules.proofs.ImageLemmas.{slots_within}
use Rattle.cfi_sim.proofs.journal.ComingLemmas.{among}
use Rattle.cfi_valid.proofs.CodeLemmas.{code_once}
use Rattle.cfi_valid.proofs.PolicyLemmas.{equal_joins, joins_equal, edge_within}
use Rattle.cfi_word.specs.Chain.{Chain}
use Rattle.cfi_word.specs.Table.{slots_of}
use Rattle.cfi_word.specs.declared.lists.Image.{Image}

-- an edge leads from a slot of the table to a word of the code
pub record IsInside (code_words slot address : ℕ) : Type 0 where
  pub low : slot < slots_of code_words
  pub whole : address % 4 ≡ 0
  pub code : address < 4 * code_words

module _ (joins : (slot address : ℕ) → Type 0) (code_words : ℕ)
    (inside : (slot address : ℕ) → joins slot address → IsInside code_words slot address) where
  module _ (tary bary : List ℕ) (p : AreLabels joins code_words tary bary) where
    -- a slot that is used has the class of its target
    target_class : (s : ℕ) (used : IsUsed joins s) → slice_index bary s ≡ slice_index tary (used.0 / 4)
    target_class s used =
        let at = inside s used.0 used.1 in
        let whole : used.0 ≡ 4 * (used.0 / 4) = omega (arith, at.whole) in
        joins_equal joins code_words tary bary p s (used.0 / 4) at.low (omega (arith, at.code, at.whole))
        (record { more = 0; chain = subst (joins s) whole used.1 })

    class_least : (s : ℕ) → IsUsed joins s → 1 ≤ slice_index bary s
    class_least s used =
        ⊎_elim (λ is. is.1.least) (λ none. absurd (none.0 used)) (p.branches s (inside s used.0 used.1).low)

  module _ (tary bary tary' bary' : List ℕ) (p : AreLabels joins code_words tary bary)
      (q : AreLabels joins code_words tary' bary') where
    -- slots of one class here are of one class there
    class_same : (s u : ℕ) → IsUsed joins s → IsUsed joins u → slice_index bary s ≡ slice_index bary u
        → slice_index bary' s ≡ slice_index bary' u
    class_same s u used other same =
        let at = inside s used.0 used.1 in
        let word : ℕ = used.0 / 4 in
        let low : word < code_words = omega (arith, at.code, at.whole) in
        let slot = (inside u other.0 other.1).low in
        let chain : Chain joins u (4 * word) =
        equal_joins joins code_words tary bary p u word slot (sym same ∙ target_class tary bary p s used) in
        target_class tary' bary' q s used ∙ sym (joins_equal joins code_words tary' bary' q u word slot low chain)

    -- a slot has no lower number here than there, where those before it have the same
    not_less : (s : ℕ) → IsUsed joins s → AreOrderedBySlot joins bary'
        → ((u : ℕ) → u < s → IsUsed joins u → slice_index bary u ≡ slice_index bary' u)
        → slice_index bary s < slice_index bary' s → ⊥
    not_less s used rises before less =
        let some = class_least tary bary p s used in
        let first = rises s (slice_index bary s) used some (omega (arith, less)) in
        elim (cases_lt first.0 s) [
          | inl below ↦
              let here : slice_index bary first.0 ≡ slice_index bary s = before first.0 below first.2 ∙ first.3 in
              let same = class_same first.0 s first.2 used here in
              let there : slice_index bary' first.0 ≡ slice_index bary s = first.3 in
              omega (arith, less, same, there)
          | inr most ↦
              let is : first.0 ≡ s = omega (arith, most, first.1) in
              let same : slice_index bary' s ≡ slice_index bary s =
              subst (λ (k : ℕ). slice_index bary' k ≡ slice_index bary s) is first.3 in
              omega (arith, less, same)
        ]

  module _ (tary bary tary' bary' : List ℕ) (p : AreLabels joins code_words tary bary)
      (q : AreLabels joins code_words tary' bary') (rises : AreOrderedBySlot joins bary)
      (rises' : AreOrderedBySlot joins bary') where
    used_below : (n s : ℕ) → s < n → IsUsed joins s → slice_index bary s ≡ slice_index bary' s
    used_below zero s below used = absurd (omega (arith, below))
    used_below (suc n) s below used =
        let before : (u : ℕ) → u < s → IsUsed joins u → slice_index bary u ≡ slice_index bary' u = λ u less is.
        used_below n u (omega (arith, less, below)) is in
        ⊎_elim
        (λ same. same)
        (λ apart. ⊎_elim
        (λ (less : slice_index bary s < slice_index bary' s).
        absurd (not_less tary bary tary' bary' p q s used rises' before less))
        (λ (more : slice_index bary' s < slice_index bary s).
        absurd (not_less tary' bary' tary bary q p s used rises (λ u less is. sym (before u less is)) more))
        apart)
        (cases_order (slice_index bary s) (slice_index bary' s))

    used_same : (s : ℕ) → IsUsed joins s → slice_index bary s ≡ slice_index bary' s
    used_same s used = used_below (s + 1) s (omega arith) used

    slot_same : (s : ℕ) → s < slots_of code_words → slice_index bary s ≡ slice_index bary' s
    slot_same s within =
        ⊎_elim
        (λ is. used_same s is.0)
        (λ none. ⊎_elim
        (λ is. absurd (none.0 is.0))
        (λ other. none.1 ∙ sym other.1)
        (q.branches s within))
        (p.branches s within)

    word_same : (w : ℕ) → w < code_words → slice_index tary w ≡ slice_index tary' w
    word_same w within =
        ⊎_elim
        (λ is.
        let slot = (inside is.0.0 (4 * w) is.0.1).low in
        let chain : Chain joins is.0.0 (4 * w) = record { more = 0; chain = is.0.1 } in
        sym (joins_equal joins code_words tary bary p is.0.0 w slot within chain)
        ∙ used_same is.0.0 (4 * w, is.0.1)
        ∙ joins_equal joins code_words tary' bary' q is.0.0 w slot within chain)
        (λ none. ⊎_elim
        (λ is. absurd (none.0 is.0))
        (λ other. none.1 ∙ sym other.1)
        (q.targets w within))
        (p.targets w within)

    pub bary_once : bary ≡ bary'
    bary_once =
        same_lists bary bary' (p.slots ∙ sym q.slots)
        (λ k d within.
        let below : k < slots_of code_words = omega (arith, within, p.slots) in
        get_or_default bary k d 0 within ∙ slot_same k below
        ∙ sym (get_or_default bary' k d 0 (omega (arith, below, q.slots))))

    pub tary_once : tary ≡ tary'
    tary_once =
        same_lists tary tary' (p.words ∙ sym q.words)
        (λ k d within.
        let below : k < code_words = omega (arith, within, p.words) in
        get_or_default tary k d 0 within ∙ word_same k below
        ∙ sym (get_or_default tary' k d 0 (omega (arith, below, q.words))))

-- ---- of modules that are loaded

module _ (code_words : ℕ) (ms : List Placed) (loaded : AreLoaded code_words ms) (a b : Image)
    (p : IsImage (DirectEdge ms) ms code_words a) (q : IsImage (DirectEdge ms) ms code_words b)
    (rises : AreOrderedBySlot (DirectEdge ms) a.bary) (rises' : AreOrderedBySlot (DirectEdge ms) b.bary) where
  inside : (slot address : ℕ) → DirectEdge ms slot address → IsInside code_words slot address
  inside slot address edge =
      let end = edge_within code_words ms ms a loaded (among ms, p) slot address edge in
      let below = slice_get_within edge.owner.branches edge.has.0 edge.kind edge.has.2 in
      let room = slots_within code_words ms loaded edge.owner edge.placed in
      record { low = omega (arith, edge.has.1, below, room); whole = end.1; code = end.0 }

  pub image_once : a ≡ b
  image_once = λ i. record {
    tary = tary_once (DirectEdge ms) code_words inside a.tary a.bary b.tary b.bary p.labels q.labels rises rises' i;
    bary = bary_once (DirectEdge ms) code_words inside a.tary a.bary b.tary b.bary p.labels q.labels rises rises' i;
    code = code_once ms code_words a.code b.code p.code q.code i;
  }
