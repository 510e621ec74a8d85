-- The flow of placed modules: its links are what the modules tell.
use Rattle.std.specs.Prelude.{◌≡◌, ◌↔◌, ℕ, ◌++◌, List, Option, Some, None, map}
use Rattle.std.specs.List.{filter_map}
use Rattle.cfi_flow.specs.declared.links.Link.{Link}
use Rattle.cfi_flow.specs.declared.links.Flow.{Flow}
use Rattle.cfi_flow.specs.Flow.{flipped, Goes}
use Rattle.cfi_aux.specs.declared.placed.Placed.{Placed}
use Rattle.cfi_graph.specs.Direct.{DirectEdge}
use Rattle.cfi_graph.specs.declared.fact.Fact.{Fact}
use Rattle.cfi_graph.specs.declared.fact.Fact.TheVariants as facts

-- the link of a fact, by what it tells
abbrev pub arrow_in : Fact → Option Link
arrow_in (facts.Arrow link) = Some link
arrow_in fact = None

-- the link of a fact that tells a site
abbrev pub site_in : Fact → Option Link
site_in (facts.Site link) = Some link
site_in fact = None

-- of one that tells a return
abbrev pub return_in : Fact → Option Link
return_in (facts.Return link) = Some link
return_in fact = None

-- of one that tells a pointer
abbrev pub pointer_in : Fact → Option Link
pointer_in (facts.Pointer link) = Some link
pointer_in fact = None

-- of one that tells an entry
abbrev pub entry_in : Fact → Option Link
entry_in (facts.Entry link) = Some link
entry_in fact = None

-- of one that tells a listed address
abbrev pub listed_in : Fact → Option Link
listed_in (facts.Listed link) = Some link
listed_in fact = None

-- the flow of these facts, over so many nodes, and of links from types' nodes to wider ones: what enters a wider one
-- gets to a narrower one
pub record IsFlowOf (list : List Fact) (links : List Link) (count : ℕ) (flow : Flow) : Type 0 where
  pub nodes : flow.nodes ≡ count
  pub arrows : flow.arrows.items ≡ filter_map arrow_in list ++ map flipped links
  pub sites : flow.sites.items ≡ filter_map site_in list
  pub returns : flow.returns.items ≡ filter_map return_in list
  pub pointers : flow.pointers.items ≡ filter_map pointer_in list
  pub entries : flow.entries.items ≡ filter_map entry_in list
  pub widenings : flow.widenings.items ≡ links
  pub listed : flow.listed.items ≡ filter_map listed_in list

-- control may go along the flow exactly where the modules have a direct edge
abbrev pub GoesAs : List Placed → Flow → Type 0
GoesAs ms flow = (slot address : ℕ) → Goes flow slot address ↔ DirectEdge ms slot address
