-- Which class numbers keep old ones does not depend on the edges that have the chains.
use Rattle.std.proofs.Common.{◌≡◌, ◌∙◌, ◌↔◌, ℕ, ◌*◌, List, length, get_or, sym, subst, inl, inr}
use Rattle.std.specs.Prelude.{All}
use Rattle.cfi_word.specs.declared.lists.Edge.{Edge}
use Rattle.cfi_word.specs.declared.lists.Image.{Image}
use Rattle.cfi_word.specs.declared.lists.Labels.{Labels}
use Rattle.cfi_word.specs.Chain.{Chain}
use Rattle.cfi_word.specs.Table.{slots_of}
use Rattle.cfi_aux.specs.declared.placed.Placed.{Placed}
use Rattle.cfi_class.specs.Labels.{HasEdge, IsEdgeWithin, IsReached, IsUsed, IsClassWhere, AreNumbers}
use Rattle.cfi_class.specs.Kept.{ShareClass, HasNumberIn, AreKept}
use Rattle.cfi_graph.specs.Direct.{DirectEdge}
use Rattle.cfi_policy.specs.Book.{labels_of, KeepsNumbers}
use Rattle.cfi_policy.specs.Spans.{Spans}
use Rattle.cfi_policy.proofs.SpansLemmas.{same_chains, same_used, same_reached}

-- relations with the same chains, slots and addresses
record AreAlike (one other : (slot address : ℕ) → Type 0) : Type 0 where
  chains : (slot address : ℕ) → Chain one slot address ↔ Chain other slot address
  used : (slot : ℕ) → IsUsed one slot ↔ IsUsed other slot
  reached : (address : ℕ) → IsReached one address ↔ IsReached other address

-- those that span one relation
span_alike : (one other many : (slot address : ℕ) → Type 0) → Spans one many → Spans other many → AreAlike one other
span_alike one other many mine theirs = record {
  chains = λ slot address.
      let a = same_chains one many mine slot address in
      let b = same_chains other many theirs slot address in
      (λ chain. b.1 (a.0 chain), λ chain. a.1 (b.0 chain));
  used = λ slot.
      let a = same_used one many mine slot in
      let b = same_used other many theirs slot in
      (λ used. b.1 (a.0 used), λ used. a.1 (b.0 used));
  reached = λ address.
      let a = same_reached one many mine address in
      let b = same_reached other many theirs address in
      (λ reached. b.1 (a.0 reached), λ reached. a.1 (b.0 reached));
}

class_alike : (One Other : Type 0) (rest number : ℕ) → One ↔ Other → IsClassWhere One rest number
    → IsClassWhere Other rest number
class_alike One Other rest number both is =
    elim is [
      | inl class ↦ inl (both.0 class.0, class.1)
      | inr none ↦ inr (λ other. none.0 (both.1 other), none.1)
    ]

module _ (one other : (slot address : ℕ) → Type 0) (alike : AreAlike one other) where
  shares : (slot earlier : ℕ) → ShareClass one slot earlier → ShareClass other slot earlier
  shares slot earlier (address, mine, theirs) =
      (address, (alike.chains slot address).0 mine, (alike.chains earlier address).0 theirs)

  has_number : (labels : Labels) (slot number : ℕ) → HasNumberIn one labels slot number
      → HasNumberIn other labels slot number
  has_number labels slot number (class, held) = (
    class,
    elim held [
      | inl word ↦ inl (word.0, (alike.chains slot (4 * word.0)).0 word.1, word.2)
      | inr shared ↦ inr (shared.0, shares slot shared.0 shared.1, shared.2)
    ],
  )

  numbers_alike : (count code_words : ℕ) (tary bary : List ℕ) → AreNumbers one count code_words tary bary
      → AreNumbers other count code_words tary bary
  numbers_alike count code_words tary bary are = record {
    words = are.words;
    slots = are.slots;
    targets = λ word within. class_alike (IsReached one (4 * word)) (IsReached other (4 * word)) _ (get_or tary word 0)
        (alike.reached (4 * word)) (are.targets word within);
    branches = λ slot within. class_alike (IsUsed one slot) (IsUsed other slot) _ (get_or bary slot 0)
        (alike.used slot) (are.branches slot within);
    classes = λ slot word slot_within word_within used reached.
        let both = are.classes slot word slot_within word_within ((alike.used slot).1 used)
        ((alike.reached (4 * word)).1 reached) in
        let chains = alike.chains slot (4 * word) in
        (λ equal. chains.0 (both.0 equal), λ chain. both.1 (chains.1 chain));
  }

-- labels that keep old numbers by some edges do so by others with the same chains
kept_by_others : (one other : List Edge) (old new : Labels) → AreAlike (HasEdge one) (HasEdge other)
    → AreAlike (HasEdge other) (HasEdge one)
    → All (IsEdgeWithin (slots_of (length new.tary)) (length new.tary)) other → AreKept one old new
    → AreKept other old new
kept_by_others one other old new forth back within are = record {
  size = are.size;
  labels = record {
    within = within;
    each = numbers_alike (HasEdge one) (HasEdge other) forth (slots_of (length new.tary)) (length new.tary) new.tary
        new.bary are.labels.each;
  };
  kept = λ slot number has.
      let least = are.kept slot number (has_number (HasEdge other) (HasEdge one) back old slot number has) in record {
        holds = has_number (HasEdge one) (HasEdge other) forth old slot _ least.holds;
        least = λ lower h. least.least lower (has_number (HasEdge other) (HasEdge one) back old slot lower h);
      };
  fresh = λ slot first. are.fresh slot (record {
    used = (forth.used slot).1 first.used;
    new = λ number has. first.new number (has_number (HasEdge one) (HasEdge other) forth old slot number has);
    first = λ earlier lower shared.
        first.first earlier lower (shares (HasEdge one) (HasEdge other) forth slot earlier shared);
  });
}

-- the labels of modules that keep the numbers of an image are one
pub kept_once : ((edges : List Edge) (old one other : Labels) → AreKept edges old one → AreKept edges old other
    → one ≡ other) → (ms : List Placed) (old one other : Image) → KeepsNumbers ms old one → KeepsNumbers ms old other
    → labels_of one ≡ labels_of other
kept_once law ms old one other mine theirs =
    let forth = span_alike (HasEdge mine.edges) (HasEdge theirs.edges) (DirectEdge ms) mine.span theirs.span in
    let back = span_alike (HasEdge theirs.edges) (HasEdge mine.edges) (DirectEdge ms) theirs.span mine.span in
    let size : length other.tary ≡ length one.tary = theirs.kept.size ∙ sym mine.kept.size in
    law theirs.edges (labels_of old) (labels_of one) (labels_of other)
    (kept_by_others mine.edges theirs.edges (labels_of old) (labels_of one) forth back
    (subst (λ n. All (IsEdgeWithin (slots_of n) n) theirs.edges) size theirs.kept.labels.within) mine.kept)
    theirs.kept
