-- The class numbers of an image of modules as their policy.
use Rattle.std.proofs.Common.{◌≡◌, ℕ, zero, suc, ◌+◌, ◌*◌, ◌/◌, ◌%◌, ◌<◌, ◌≤◌, ◌==◌, ◌&&◌, true, List, length, slice_index, sym, subst, arith}
use Rattle.std.specs.Prelude.{◌↔◌, nat_lt}
use Rattle.std.proofs.lemmas.Bool.{eqb-true, eq-eqb, and_parts, and_from, ltb-true, lt-ltb}
use Rattle.std.proofs.lemmas.List.Elements.{All-contains}
use Rattle.cfi_aux.specs.declared.placed.Placed.{Placed}
use Rattle.cfi_graph.specs.Direct.{DirectEdge, Allowed}
use Rattle.cfi_graph.proofs.EndLemmas.{has_ends}
use Rattle.cfi_ledger.specs.Roster.{Roster, members_in_roster}
use Rattle.cfi_model.specs.Effect.{is_in_code}
use Rattle.cfi_model.specs.Plain.{has_one_class}
use Rattle.cfi_policy.specs.Book.{labels_of}
use Rattle.cfi_policy.specs.Image.{HaveImage, IsImage}
use Rattle.cfi_valid.proofs.PolicyLemmas.{equal_joins, joins_equal}
use Rattle.cfi_valid.specs.Loaded.{live_at, placed_modules}
use Rattle.cfi_word.specs.Chain.{ChainOf}
use Rattle.cfi_word.specs.Table.{slots_of}
use Rattle.cfi_word.specs.declared.lists.Image.{Image}
use Rattle.cfi_word.specs.declared.lists.Labels.{Labels}
use Rattle.cfi_labels.specs.Labels.{AreLabelsAt}

-- ---- the ends of a chain

module _ (joins : (slot address : ℕ) → Type 0) where
  chain_used : (more slot address : ℕ) → ChainOf joins more slot address → (to : ℕ) × joins slot to
  chain_used zero slot address chain = (address, chain)
  chain_used (suc more) slot address chain = (chain.0, chain.2)

  chain_reached : (more slot address : ℕ) → ChainOf joins more slot address
      → (from : ℕ) × joins from address
  chain_reached zero slot address chain = (slot, chain)
  chain_reached (suc more) slot address chain = chain_reached more chain.1 address chain.4

-- ---- the image of modules that have one

module _ (code_words : ℕ) (ms : List Placed) (have : HaveImage ms code_words) (image : Image)
    (is : IsImage (DirectEdge ms) ms code_words image) where
  abbrev labels : Labels
  labels = labels_of image

  -- a slot that may go somewhere is one of the table
  slot_within : (slot address : ℕ) → Allowed ms slot address → slot < slots_of code_words
  slot_within slot address chain =
      let used = chain_used (DirectEdge ms) chain.more slot address chain.chain in
      let ends = has_ends ms have.graph.apart slot used.0 used.1 in
      let room = All-contains (λ (m : Placed). m.slot_base + length m.branches ≤ slots_of code_words) ms ends.owner
      have.slots ends.placed in
      omega (arith, room, ends.below, ends.is)

  -- an address to which something may go is one of the code
  target_within : (slot address : ℕ) → Allowed ms slot address → address < 4 * code_words
  target_within slot address chain =
      let reached = chain_reached (DirectEdge ms) chain.more slot address chain.chain in
      have.targets reached.0 address reached.1

  -- the address of a word
  whole : (target : ℕ) → is_in_code target ≡ true → 4 * (target / 4) ≡ target
  whole target inside =
      let aligned : target % 4 ≡ 0 = eqb-true (target % 4) 0 (and_parts _ (target % 4 == 0) inside).1 in
      omega (arith, aligned)

  pub labels_allow : (slot target : ℕ) → is_in_code target ≡ true
      → (has_one_class labels slot target ≡ true) ↔ Allowed ms slot target
  labels_allow slot target inside =
      let word = target / 4 in
      let bary = slice_index labels.bary slot in
      let tary = slice_index labels.tary word in
      let at : 4 * word ≡ target = whole target inside in (
        λ one.
            let tests = and_parts (nat_lt slot (length labels.bary) && nat_lt word (length labels.tary)) (bary == tary)
            one in
            let within = and_parts (nat_lt slot (length labels.bary)) (nat_lt word (length labels.tary)) tests.0 in
            let low : slot < slots_of code_words =
            omega (arith, ltb-true slot (length labels.bary) within.0, is.labels.slots) in
            subst (Allowed ms slot) at
            (equal_joins (DirectEdge ms) code_words labels.tary labels.bary is.labels slot word low
            (eqb-true bary tary tests.1)),
        λ allowed.
            let low = slot_within slot target allowed in
            let inside_code : word < code_words = omega (arith, target_within slot target allowed, at) in
            let equal = joins_equal (DirectEdge ms) code_words labels.tary labels.bary is.labels slot word low
            inside_code
            (subst (Allowed ms slot) (sym at) allowed) in
            and_from (nat_lt slot (length labels.bary) && nat_lt word (length labels.tary)) (bary == tary)
            (and_from (nat_lt slot (length labels.bary)) (nat_lt word (length labels.tary))
            (lt-ltb slot (length labels.bary) (omega (arith, low, is.labels.slots)))
            (lt-ltb word (length labels.tary) (omega (arith, inside_code, is.labels.words)))) (eq-eqb bary tary equal),
      )

-- those of the modules that are live under a policy are its own
pub live_allow : (r : Roster) (policy words : ℕ) (live : List Placed)
    → live ≡ placed_modules (live_at policy (members_in_roster r)) → HaveImage live words → (image : Image)
    → IsImage (DirectEdge live) live words image → AreLabelsAt (members_in_roster r) policy (labels_of image)
live_allow r policy words live live_is have image is = λ slot target inside.
    subst (λ (ms : List Placed). (has_one_class (labels_of image) slot target ≡ true) ↔ Allowed ms slot target) live_is
    (labels_allow words live have image is slot target inside)
