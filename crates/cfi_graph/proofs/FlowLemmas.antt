-- The flow of modules, of what they tell and of the links between their types: where it goes, and how many links it has.
use Rattle.std.proofs.Common.{◌≡◌, ◌∙◌, ℕ, ◌≤◌, List, length, map, sym, ap, subst, arith}
use Rattle.std.specs.Prelude.{sum_by}
use Rattle.std.proofs.lemmas.List.{length-map}
use Rattle.cfi_flow.specs.declared.links.Link.{Link}
use Rattle.cfi_flow.specs.declared.links.Flow.{Flow}
use Rattle.cfi_flow.specs.Flow.{AreBelow, IsSound, link_count}
use Rattle.cfi_types.specs.Classes.{AreClasses}
use Rattle.cfi_fits.specs.Widening.{AreWidenings}
use Rattle.cfi_aux.specs.declared.placed.Placed.{Placed}
use Rattle.cfi_graph.specs.declared.fact.Fact.{Fact}
use Rattle.cfi_graph.specs.Facts.{ByName, AreImports, AreFacts}
use Rattle.cfi_graph.specs.Reading.{tables_of, node_count, HaveGraph}
use Rattle.cfi_graph.specs.Edges.{told_most, links_most}
use Rattle.cfi_graph.specs.Links.{type_link}
use Rattle.cfi_graph.specs.inner.Flows.{IsFlowOf, GoesAs}
use Rattle.cfi_graph.proofs.WiderLemmas.{AreWider}
use Rattle.cfi_graph.proofs.WideningLemmas.{widenings_exact, links_low, are_wider}
use Rattle.cfi_graph.proofs.ReadLemmas.{links_of, TellsFlow, goes_along, along_goes, tells_flow}
use Rattle.cfi_graph.proofs.SoundLemmas.{goes_direct}
use Rattle.cfi_graph.proofs.DirectLemmas.{direct_goes}
use Rattle.cfi_graph.proofs.BelowLemmas.{below_nodes, sound_by}
use Rattle.cfi_graph.proofs.ToldLemmas.{as_many_links}

-- what the flow of modules is made of
pub record IsMade (ms : List Placed) (imports : ByName) (classes : List (List ℕ)) (wider : List Link) (list : List Fact) (links : List Link)
    (count : ℕ) : Type 0 where
  pub graph : HaveGraph ms
  pub typed : AreClasses (tables_of ms) classes
  pub wide : AreWidenings (tables_of ms) classes wider
  pub facts : AreFacts ms imports classes list
  pub named : AreImports ms imports
  pub linked : links ≡ map type_link wider
  pub nodes : count ≡ node_count ms

module _ (ms : List Placed) (imports : ByName) (classes : List (List ℕ)) (wider : List Link) (list : List Fact) (links : List Link)
    (count : ℕ) (made : IsMade ms imports classes wider list links count) (flow : Flow)
    (is : IsFlowOf list links count flow) where
  pub flow_wider : AreWider ms classes flow.widenings.items
  flow_wider =
      subst (λ ls. AreWider ms classes ls) (sym (is.widenings ∙ made.linked))
      (are_wider ms classes made.typed wider (widenings_exact (tables_of ms) classes wider made.wide))

  flow_low : AreBelow (node_count ms) flow.widenings.items
  flow_low =
      subst (λ ls. AreBelow (node_count ms) ls) (sym (is.widenings ∙ made.linked))
      (links_low ms classes made.typed wider (widenings_exact (tables_of ms) classes wider made.wide))

  pub flow_tells : TellsFlow ms imports classes flow
  flow_tells = tells_flow ms imports classes list made.facts links count flow is

  pub flow_sound : IsSound flow
  flow_sound =
      sound_by flow (node_count ms)
      (below_nodes ms imports classes made.named made.graph.apart made.typed (links_of flow) flow_low flow_tells)
      (is.nodes ∙ made.nodes)

  pub flow_goes : GoesAs ms flow
  flow_goes = λ slot address. (
    λ goes.
        goes_direct ms imports classes made.named made.graph.apart (links_of flow) flow_wider flow_tells slot address
        (goes_along flow slot address goes),
    λ edge.
        along_goes flow slot address
        (direct_goes ms imports classes made.named made.graph.apart (links_of flow) flow_wider flow_tells slot address edge),
  )

  pub flow_few : length list ≤ sum_by told_most ms → link_count flow ≤ links_most ms
  flow_few few =
      let all = as_many_links list links count flow is in
      let same : length links ≡ length wider = ap (λ ls. length ls) made.linked ∙ length-map wider type_link in
      omega (arith, all, same, made.wide.few, few)
