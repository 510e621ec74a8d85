-- The direct edges of modules as edges that can be labelled.
use Rattle.std.proofs.Common.{◌↔◌, ℕ, ◌+◌, ◌≤◌, List, length, get_or, arith}
use Rattle.std.specs.Prelude.{All}
use Rattle.std.proofs.lemmas.List.Elements.{All-contains, Contains-get_or}
use Rattle.cfi_word.specs.declared.sizes.TheConstants.{SLOTS}
use Rattle.cfi_word.specs.declared.lists.Edge.{Edge}
use Rattle.cfi_word.specs.declared.limits.TheConstants.{MAX_CODE_WORDS}
use Rattle.cfi_word.specs.Chain.{Chain}
use Rattle.cfi_word.specs.Table.{slots_of}
use Rattle.cfi_aux.specs.declared.placed.Placed.{Placed}
use Rattle.cfi_class.specs.Labels.{HasEdge, IsEdgeWithin, CanBeLabelled}
use Rattle.cfi_word.specs.declared.lists.Image.{Image}
use Rattle.cfi_graph.specs.Direct.{DirectEdge, Allowed}
use Rattle.cfi_graph.specs.Reading.{HaveGraph}
use Rattle.cfi_graph.specs.Edges.{SpanDirectEdges}
use Rattle.cfi_graph.proofs.EndLemmas.{has_ends}
use Rattle.cfi_policy.specs.Spans.{Spans}
use Rattle.cfi_policy.specs.Code.{LieApart}
use Rattle.cfi_policy.specs.Image.{IsImage, HaveImage}
use Rattle.cfi_policy.proofs.SpansLemmas.{same_chains, spanned_labels}

-- edges each of which is direct
module _ (ms : List Placed) (edges : List Edge)
    (sound : (slot address : ℕ) → HasEdge edges slot address → DirectEdge ms slot address) where
  pub within_code : HaveGraph ms → All (IsEdgeWithin SLOTS (MAX_CODE_WORDS + 1)) edges
  within_code graph = λ k d there.
      let edge = get_or edges k d in
      let direct = sound edge.branch edge.target (Contains-get_or edges k d there) in
      let ends = has_ends ms graph.apart edge.branch edge.target direct in
      let most = ends.end.within in
      record { branch = ends.low; whole = ends.end.whole; target = omega (arith, most) }

  pub can_be_labelled : (code_words : ℕ) → HaveImage ms code_words
      → CanBeLabelled edges (slots_of code_words) code_words
  can_be_labelled code_words image = record {
    room = omega arith;
    within = λ k d there.
        let edge = get_or edges k d in
        let direct = sound edge.branch edge.target (Contains-get_or edges k d there) in
        let ends = has_ends ms image.graph.apart edge.branch edge.target direct in
        let room = All-contains (λ m. m.slot_base + length m.branches ≤ slots_of code_words) ms ends.owner image.slots
        ends.placed in
        let below = ends.below in
        let is = ends.is in
        record {
          branch = omega (arith, room, below, is);
          whole = ends.end.whole;
          target = image.targets edge.branch edge.target direct;
        };
  }

-- modules of an image lie apart within its code
pub apart_in : (ms : List Placed) (code_words : ℕ) → HaveImage ms code_words → LieApart ms code_words
apart_in ms code_words image = record {
  order = λ i j d less within. (image.graph.apart.order i j d less within).words;
  within = image.words;
}

module _ (ms : List Placed) (edges : List Edge) (span : SpanDirectEdges ms edges) where
  pub spans : Spans (HasEdge edges) (DirectEdge ms)
  spans = record { sound = span.sound; whole = span.whole }

  -- the image by these edges is that by all
  pub image_by : (code_words : ℕ) (image : Image) → IsImage (HasEdge edges) ms code_words image
      → IsImage (DirectEdge ms) ms code_words image
  image_by code_words image is = record {
    labels = spanned_labels (HasEdge edges) (DirectEdge ms) spans code_words image.tary image.bary is.labels;
    code = is.code;
  }

  -- the chains of these edges are those of all
  pub joined_by : (branch target : ℕ) (Is : Type 0) → Is ↔ Chain (HasEdge edges) branch target
      → Is ↔ Allowed ms branch target
  joined_by branch target Is both =
      let chains = same_chains (HasEdge edges) (DirectEdge ms) spans branch target in
      (λ is. chains.0 (both.0 is), λ chain. both.1 (chains.1 chain))
