-- Images that stand for modules, and for these with one more.
use Rattle.std.proofs.Common.{◌≡◌, ◌∙◌, ℕ, ◌+◌, ◌-◌, List, [], ◌∷◌, ◌++◌, length, take, drop, sym, ap, subst, arith}
use Rattle.std.proofs.Math.Seq.{drop-append_seam, get_or-append_seam}
use Rattle.std.proofs.lemmas.List.{get_or_append_left, length-append, length-drop, take_all}
use Rattle.std.proofs.lemmas.List.Elements.{Contains-append_right}
use Rattle.cfi_word.specs.declared.lists.Edge.{Edge}
use Rattle.cfi_word.specs.declared.lists.Image.{Image}
use Rattle.cfi_word.specs.declared.lists.Labels.{Labels}
use Rattle.cfi_word.specs.Edge.{edge_of}
use Rattle.cfi_aux.specs.declared.placed.Placed.{Placed}
use Rattle.cfi_class.specs.Labels.{HasEdge, AreLabels}
use Rattle.cfi_class.specs.Kept.{AreLabelsOf, AreKept, AreExtended}
use Rattle.cfi_graph.specs.Direct.{DirectEdge}
use Rattle.cfi_graph.specs.KeptGraph.{IsLonger, SpanEdges}
use Rattle.cfi_policy.specs.Book.{KeptImage, labels_of, StandsFor, PutsWords}
use Rattle.cfi_policy.specs.Code.{LiesInModule, HasWords, LieApart, IsCodeOf}
use Rattle.cfi_policy.specs.Spans.{Spans}
use Rattle.cfi_policy.proofs.CodeLemmas.{IsCodeSoFar, one_more_module}
use Rattle.cfi_policy.proofs.SpansLemmas.{spanned_labels}

-- ---- edges

pub spans_direct : (ms : List Placed) (edges : List Edge) → SpanEdges ms edges → Spans (HasEdge edges) (DirectEdge ms)
spans_direct ms edges span = record { sound = span.sound; whole = span.whole }

-- what a longer list has behind the old one
pub longer_by : (old edges : List Edge) → IsLonger old edges
    → edges ≡ old ++ take (length edges - length old) (drop (length old) edges)
longer_by old edges (added, is) =
    let rest = take_all (length edges - length old) (drop (length old) edges)
    (omega (arith, length-drop (length old) edges)) in
    let last : drop (length old) edges ≡ added =
    ap (λ es. drop (length old) es) is ∙ drop-append_seam old added in
    is ∙ ap (λ es. old ++ es) (sym (rest ∙ last))

-- the last edges are direct where all are
pub last_direct : (ms : List Placed) (old fresh edges : List Edge) → edges ≡ old ++ fresh → SpanEdges ms edges
    → (slot address : ℕ) → HasEdge fresh slot address → DirectEdge ms slot address
last_direct ms old fresh edges is span slot address has =
    span.sound slot address (subst (λ es. HasEdge es slot address) (sym is)
    (Contains-append_right old fresh (edge_of slot address) has))

-- ---- labels

-- an image that has the labels of such edges has those of the direct edges
pub labels_standing : (ms : List Placed) (edges : List Edge) (image : Image) (code_words : ℕ) → SpanEdges ms edges
    → AreLabelsOf edges (labels_of image) → length image.tary ≡ code_words
    → AreLabels (DirectEdge ms) code_words image.tary image.bary
labels_standing ms edges image code_words span are words =
    subst (λ n. AreLabels (DirectEdge ms) n image.tary image.bary) words
    (spanned_labels (HasEdge edges) (DirectEdge ms) (spans_direct ms edges span) (length image.tary) image.tary
    image.bary are.each)

-- labels of further edges keep the numbers of an image
pub numbers_kept : (ms : List Placed) (book : KeptImage) (image : Image) (was now : Labels)
    (old fresh edges : List Edge)
    → StandsFor ms book → old ≡ book.graph.flow.edges → was ≡ labels_of book.image → labels_of image ≡ now
    → edges ≡ old ++ fresh → AreExtended was fresh now → AreKept edges (labels_of book.image) (labels_of image)
numbers_kept ms book image was now old fresh edges stands known before after is extended =
    let labels : AreLabelsOf old was =
    subst (λ es. AreLabelsOf es was) (sym known) (subst (λ l. AreLabelsOf book.graph.flow.edges l) (sym before)
    stands.labels) in
    subst (λ es. AreKept es (labels_of book.image) (labels_of image)) (sym is)
    (subst (λ l. AreKept (old ++ fresh) (labels_of book.image) l) (sym after)
    (subst (λ l. AreKept (old ++ fresh) l now) before (extended old labels)))

-- ---- code

module _ (old : List Placed) (m : Placed) (code_words : ℕ) where
  abbrev all : List Placed
  all = old ++ m ∷ []

  first_code : (code : List ℕ) → IsCodeOf old code_words code → IsCodeSoFar all (length old) code_words code
  first_code code is = record {
    len = is.len;
    placed = λ j d lower.
        subst (HasWords code) (sym (get_or_append_left old (m ∷ []) d j lower)) (is.placed j d lower);
    free = λ word within none. is.free word within (λ j d lower.
        subst (λ o. LiesInModule o word → ⊥) (get_or_append_left old (m ∷ []) d j lower) (none j d lower));
  }

  whole_code : (code : List ℕ) → IsCodeSoFar all (length old + 1) code_words code → IsCodeOf all code_words code
  whole_code code is =
      let long : length all ≡ length old + 1 = length-append old (m ∷ []) in
      record {
        len = is.len;
        placed = λ j d lower. is.placed j d (omega (arith, lower, long));
        free = λ word within none. is.free word within (λ j d lower. none j d (omega (arith, lower, long)));
      }

  -- the code of the modules becomes that of these and one more, where the words of this one are put
  pub code_more : (before after : List ℕ) → LieApart all code_words → IsCodeOf old code_words before
      → PutsWords m before after → IsCodeOf all code_words after
  code_more before after apart is puts =
      let long : length all ≡ length old + 1 = length-append old (m ∷ []) in
      whole_code after
      (one_more_module all code_words apart (length old) (omega (arith, long)) m
      (sym (get_or-append_seam old m [] m)) before after (first_code before is) puts.len puts.words puts.kept)
