-- The classes of an image are the policy of the modules that are live.
use Rattle.std.proofs.Common.{◌≡◌, ℕ, zero, suc, ◌*◌, ◌/◌, ◌%◌, ◌<◌, ◌≤◌, List, length, slice_index, sym, subst, ⊎_elim, arith}
use Rattle.std.specs.Prelude.{◌↔◌}
use Rattle.std.proofs.lemmas.Bool.{cases_lt}
use Rattle.std.proofs.lemmas.List.{get_or_past}
use Rattle.cfi_aux.specs.declared.placed.Placed.{Placed}
use Rattle.cfi_class.specs.Labels.{IsReached, IsUsed, IsClassWhere, AreLabels}
use Rattle.cfi_graph.specs.Direct.{DirectEdge, Allowed}
use Rattle.cfi_model.specs.History.{fixed, IsStart}
use Rattle.cfi_model.specs.Closed.{IsClosed}
use Rattle.cfi_model.proofs.FixedLemmas.{fixed_history}
use Rattle.cfi_model.proofs.StartLemmas.{started}
use Rattle.cfi_modules.specs.Loaded.{AreLoaded, IsLoadedImage}
use Rattle.cfi_modules.proofs.ImageLemmas.{closed, edge_start_in}
use Rattle.cfi_unit.proofs.CodeLemmas.{BeginsAt-within}
use Rattle.cfi_unit.proofs.UnitLemmas.{size_pos}
use Rattle.cfi_word.specs.Chain.{Chain, ChainOf}
use Rattle.cfi_word.specs.declared.ids.TheConstants.{FIELD_MAX}
use Rattle.cfi_word.specs.declared.lists.Image.{Image}
use Rattle.cfi_word.specs.Table.{IsSize, slots_of}

-- ---- the ends of a chain

module _ (joins : (slot address : ℕ) → Type 0) where
  chain_used : (more slot address : ℕ) → ChainOf joins more slot address → IsUsed joins slot
  chain_used zero slot address chain = (address, chain)
  chain_used (suc more) slot address chain = (chain.0, chain.2)

  chain_reached : (more slot address : ℕ) → ChainOf joins more slot address → IsReached joins address
  chain_reached zero slot address chain = (slot, chain)
  chain_reached (suc more) slot address chain = chain_reached more chain.1 address chain.4

  -- ---- equal classes

  -- numbers of which one is no class are not equal
  both_classes : (Used Reached : Type 0) (bary tary : ℕ) → IsClassWhere Used FIELD_MAX bary
      → IsClassWhere Reached 0 tary → bary ≡ tary → Used × Reached
  both_classes Used Reached bary tary branch target same = ⊎_elim
      (λ used. ⊎_elim
      (λ reached. (used.0, reached.0))
      (λ none. absurd (omega (arith, used.1.least, none.1, same)))
      target)
      (λ unused. ⊎_elim
      (λ reached. absurd (omega (arith, reached.1.most, unused.1, same)))
      (λ none. absurd (omega (arith, none.1, unused.1, same)))
      target)
      branch

  module _ (code_words : ℕ) (tary bary : List ℕ) (labels : AreLabels joins code_words tary bary) (slot word : ℕ)
      (in_slots : slot < slots_of code_words) where
    past_end : code_words ≤ word → slice_index bary slot ≡ slice_index tary word → ⊥
    past_end past same =
        let none : slice_index tary word ≡ 0 = get_or_past tary word 0 (omega (arith, past, labels.words)) in
        ⊎_elim
        (λ used. absurd (omega (arith, used.1.least, none, same)))
        (λ unused. absurd (omega (arith, unused.1, none, same)))
        (labels.branches slot in_slots)

    pub equal_joins : slice_index bary slot ≡ slice_index tary word → Chain joins slot (4 * word)
    equal_joins same = ⊎_elim
        (λ (within : word < code_words).
        let both = both_classes (IsUsed joins slot) (IsReached joins (4 * word)) (slice_index bary slot)
        (slice_index tary word) (labels.branches slot in_slots) (labels.targets word within) same in
        (labels.classes slot word in_slots within both.0 both.1).0 same)
        (λ (past : code_words ≤ word). absurd (past_end past same))
        (cases_lt word code_words)

    pub joins_equal : word < code_words → Chain joins slot (4 * word) → slice_index bary slot ≡ slice_index tary word
    joins_equal within chain =
        (labels.classes slot word in_slots within
        (chain_used chain.more slot (4 * word) chain.chain)
        (chain_reached chain.more slot (4 * word) chain.chain)).1 chain

-- ---- an image of loaded modules

module _ (code_words : ℕ) (ms live : List Placed) (image : Image) (loaded : AreLoaded code_words ms)
    (of : IsLoadedImage code_words ms live image) where
  -- an edge leads to a word of the code
  pub edge_within : (slot address : ℕ) → DirectEdge live slot address → (address < 4 * code_words) × (address % 4 ≡ 0)
  edge_within slot address edge =
      let long : length image.code ≡ code_words = of.1.code.len in
      let size = subst IsSize (sym long) loaded.size in
      let shut = subst (λ (n : ℕ). IsClosed n image) (sym long) (closed code_words ms loaded live image of) in
      let known = fixed_history image size shut in
      let start : IsStart (fixed image) address = record {
        epoch = 0;
        known = record { least = omega arith; most = omega arith };
        starts = edge_start_in code_words ms loaded live image of slot address edge;
      } in
      let s = started (fixed image) image.code address known start in
      let within = BeginsAt-within image.code (address / 4) s.unit s.stands.begins in
      (omega (arith, within, size_pos s.unit, long, s.stands.aligned), s.stands.aligned)

  pub image_allows : (slot address : ℕ) → slot < slots_of code_words → address % 4 ≡ 0
      → (slice_index image.bary slot ≡ slice_index image.tary (address / 4)) ↔ Allowed live slot address
  image_allows slot address in_slots aligned =
      let whole : 4 * (address / 4) ≡ address = omega (arith, aligned) in
      let labels = of.1.labels in (
        λ same. subst (Allowed live slot) whole
            (equal_joins (DirectEdge live) code_words image.tary image.bary labels slot (address / 4) in_slots same),
        λ chain.
            let end = chain_reached (DirectEdge live) chain.more slot address chain.chain in
            let within = edge_within end.0 address end.1 in
            joins_equal (DirectEdge live) code_words image.tary image.bary labels slot (address / 4) in_slots
            (omega (arith, within.0, aligned)) (subst (Allowed live slot) (sym whole) chain),
      )
