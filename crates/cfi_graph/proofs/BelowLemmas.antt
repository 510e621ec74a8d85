-- Links that say what modules tell name nodes.
use Rattle.std.proofs.Common.{◌≡◌, ℕ, ◌<◌, ◌≤◌, Bool, true, false, ℤ, List, length, get_or, Some, sym, subst, inl, inr, arith}
use Rattle.std.specs.Prelude.{slice_get, All}
use Rattle.std.proofs.lemmas.List.Elements.{All-contains, Contains-get_or}
use Rattle.cfi_flow.specs.declared.links.Link.{Link}
use Rattle.cfi_flow.specs.declared.links.Flow.{Flow}
use Rattle.cfi_flow.specs.Flow.{BeginBelow, AreBelow, IsSound}
use Rattle.cfi_flow.specs.Kept.{Kept}
use Rattle.cfi_types.specs.Classes.{AreClasses}
use Rattle.cfi_aux.specs.declared.placed.Placed.{Placed}
use Rattle.cfi_aux.specs.declared.placed.PlacedFunction.{PlacedFunction}
use Rattle.cfi_aux.specs.declared.records.Kind.{Kind}
use Rattle.cfi_aux.specs.declared.records.Kind.TheVariants as kinds
use Rattle.cfi_graph.specs.declared.fact.Fact.{Fact}
use Rattle.cfi_graph.specs.declared.fact.Fact.TheVariants as facts
use Rattle.cfi_graph.specs.Shaped.{AreApart}
use Rattle.cfi_graph.specs.Calls.{HasKind}
use Rattle.cfi_graph.specs.Facts.{ByName, AreImports, type_node, word_of, LiesInNode, IsJumpFact, IsBranchFact, IsFunctionFact, IsTold}
use Rattle.cfi_graph.specs.Reading.{tables_of, node_count}
use Rattle.cfi_graph.proofs.BoundLemmas.{inside, branch_names}
use Rattle.cfi_graph.proofs.ImportLemmas.{imported_at, imported_word}
use Rattle.cfi_graph.proofs.NodeLemmas.{StandsAt, lies_there, shaped_at, node_low}
use Rattle.cfi_graph.specs.Links.{Tell, IsArrow, TellsLinks}
use Rattle.cfi_graph.proofs.ReadLemmas.{links_of, unit_cases}
use Rattle.cfi_flow.proofs.RowLemmas.{make_link}
use Rattle.cfi_graph.proofs.ClassLemmas.{type_low}

-- the links begin, and arrows and widenings also end, at one of so many nodes
pub record NamesNodes (count : ℕ) (links : Kept) : Type 0 where
  pub arrows : AreBelow count links.arrows
  pub sites : BeginBelow count links.sites
  pub returns : BeginBelow count links.returns
  pub pointers : BeginBelow count links.pointers
  pub entries : BeginBelow count links.entries
  pub widenings : AreBelow count links.widenings

module _ (ms : List Placed) (imports : ByName) (classes : List (List ℕ)) (named : AreImports ms imports) (apart : AreApart ms)
    (are : AreClasses (tables_of ms) classes) where
  -- the node of a word's function is one of the flow's
  lies_low : (number : ℕ) (m : Placed) → slice_get ms number ≡ Some m → (at node : ℕ) → LiesInNode m at node
      → node < node_count ms
  lies_low number m is at node lies =
      let there = lies_there m at node lies in
      let low = (node_low ms apart number m there.function (record { is = is; has = there.has })).1 in
      let same = there.is in
      omega (arith, low, same)

  -- where a fact's link begins: nowhere at a node for a listed address
  abbrev BeginsLow : Fact → Type 0
  BeginsLow (facts.Arrow l) = (l.from < node_count ms) × (l.to < node_count ms)
  BeginsLow (facts.Site l) = l.from < node_count ms
  BeginsLow (facts.Return l) = l.from < node_count ms
  BeginsLow (facts.Pointer l) = l.from < node_count ms
  BeginsLow (facts.Entry l) = l.from < node_count ms
  BeginsLow (facts.Listed l) = 0 ≤ 0

  jump_low : (number : ℕ) (m : Placed) → slice_get ms number ≡ Some m → (at : ℕ) (linked : Bool) (off : ℤ) (fact : Fact)
      → IsJumpFact m at linked off fact → BeginsLow fact
  jump_low number m is at true off (facts.Site l) told = let low = told.0.within in omega (arith, low)
  jump_low number m is at true off (facts.Arrow l) told = absurd told
  jump_low number m is at true off (facts.Return l) told = absurd told
  jump_low number m is at true off (facts.Pointer l) told = absurd told
  jump_low number m is at true off (facts.Entry l) told = absurd told
  jump_low number m is at true off (facts.Listed l) told = absurd told
  jump_low number m is at false off (facts.Arrow l) told =
      (lies_low number m is at l.from told.0, (let low = told.1.within in omega (arith, low)))
  jump_low number m is at false off (facts.Site l) told = absurd told
  jump_low number m is at false off (facts.Return l) told = absurd told
  jump_low number m is at false off (facts.Pointer l) told = absurd told
  jump_low number m is at false off (facts.Entry l) told = absurd told
  jump_low number m is at false off (facts.Listed l) told = absurd told

  low_type : (number : ℕ) (m : Placed) → slice_get ms number ≡ Some m → (node : ℕ) → node < length m.types → (a : ℕ)
      → a ≡ type_node classes number node → a < node_count ms
  low_type number m is node within a same =
      let low = type_low ms classes are number m is node within in
      omega (arith, low, same)

  -- the word of an imported function is one of the flow's nodes
  import_low : (name : List ℕ) (address word : ℕ) → imports name ≡ Some address → word ≡ word_of address
      → word < node_count ms
  import_low name address word there is =
      let to = (named name address).0 there in
      let low = (node_low ms apart to.is.number to.owner to.function (imported_at ms name to.owner to.function to.is)).1 in
      omega (arith, low, imported_word ms name address word to is)

  branch_low : (number : ℕ) (m : Placed) → slice_get ms number ≡ Some m → (at slot : ℕ) (kind : Kind)
      → HasKind m slot kind → (fact : Fact) → IsBranchFact imports classes number m at slot kind fact → BeginsLow fact
  branch_low number m is at slot (kinds.Call node) has (facts.Pointer l) told =
      low_type number m is node (branch_names m (shaped_at ms apart number m is) slot (kinds.Call node) has) l.from told.0
  branch_low number m is at slot (kinds.Call node) has (facts.Site l) told =
      low_type number m is node (branch_names m (shaped_at ms apart number m is) slot (kinds.Call node) has) l.from told.0
  branch_low number m is at slot (kinds.Call node) has (facts.Arrow l) told = absurd told
  branch_low number m is at slot (kinds.Call node) has (facts.Return l) told = absurd told
  branch_low number m is at slot (kinds.Call node) has (facts.Entry l) told = absurd told
  branch_low number m is at slot (kinds.Call node) has (facts.Listed l) told = absurd told
  branch_low number m is at slot (kinds.Tail node) has (facts.Pointer l) told =
      low_type number m is node (branch_names m (shaped_at ms apart number m is) slot (kinds.Tail node) has) l.from told.0
  branch_low number m is at slot (kinds.Tail node) has (facts.Arrow l) told = (
    lies_low number m is at l.from told.0,
    low_type number m is node (branch_names m (shaped_at ms apart number m is) slot (kinds.Tail node) has) l.to told.1,
  )
  branch_low number m is at slot (kinds.Tail node) has (facts.Site l) told = absurd told
  branch_low number m is at slot (kinds.Tail node) has (facts.Return l) told = absurd told
  branch_low number m is at slot (kinds.Tail node) has (facts.Entry l) told = absurd told
  branch_low number m is at slot (kinds.Tail node) has (facts.Listed l) told = absurd told
  branch_low number m is at slot kinds.Return has (facts.Return l) told = lies_low number m is at l.from told.0
  branch_low number m is at slot kinds.Return has (facts.Arrow l) told = absurd told
  branch_low number m is at slot kinds.Return has (facts.Site l) told = absurd told
  branch_low number m is at slot kinds.Return has (facts.Pointer l) told = absurd told
  branch_low number m is at slot kinds.Return has (facts.Entry l) told = absurd told
  branch_low number m is at slot kinds.Return has (facts.Listed l) told = absurd told
  branch_low number m is at slot (kinds.Switch entries) has (facts.Listed l) told = omega arith
  branch_low number m is at slot (kinds.Switch entries) has (facts.Arrow l) told = absurd told
  branch_low number m is at slot (kinds.Switch entries) has (facts.Site l) told = absurd told
  branch_low number m is at slot (kinds.Switch entries) has (facts.Return l) told = absurd told
  branch_low number m is at slot (kinds.Switch entries) has (facts.Pointer l) told = absurd told
  branch_low number m is at slot (kinds.Switch entries) has (facts.Entry l) told = absurd told
  branch_low number m is at slot (kinds.Import name cell) has (facts.Listed l) told = omega arith
  branch_low number m is at slot (kinds.Import name cell) has (facts.Arrow l) (lies, (address, there, word)) = (
    lies_low number m is at l.from lies,
    import_low name address l.to there word,
  )
  branch_low number m is at slot (kinds.Import name cell) has (facts.Site l) told = absurd told
  branch_low number m is at slot (kinds.Import name cell) has (facts.Return l) told = absurd told
  branch_low number m is at slot (kinds.Import name cell) has (facts.Pointer l) told = absurd told
  branch_low number m is at slot (kinds.Import name cell) has (facts.Entry l) told = absurd told

  function_low : (number : ℕ) (m : Placed) (f : PlacedFunction) → StandsAt ms number m f → (fact : Fact)
      → IsFunctionFact classes number m f fact → BeginsLow fact
  function_low number m f at (facts.Arrow l) told =
      let typed = (inside m (shaped_at ms apart number m at.is) f at.has).typed in
      let low = (node_low ms apart number m f at).1 in
      let to = told.2 in
      (low_type number m at.is f.ty typed l.from told.1, omega (arith, low, to))
  function_low number m f at (facts.Entry l) told =
      let typed = (inside m (shaped_at ms apart number m at.is) f at.has).typed in
      low_type number m at.is f.ty typed l.from told.1
  function_low number m f at (facts.Site l) told = absurd told
  function_low number m f at (facts.Return l) told = absurd told
  function_low number m f at (facts.Pointer l) told = absurd told
  function_low number m f at (facts.Listed l) told = absurd told

  told_low : (fact : Fact) → IsTold ms imports classes fact → BeginsLow fact
  told_low fact told =
      elim told.tells [
        | inl unit ↦ elim (unit_cases imports classes told.number told.owner fact unit) [
          | inl check ↦
              branch_low told.number told.owner told.is check.at check.slot check.kind check.has fact check.tells
          | inr jump ↦ jump_low told.number told.owner told.is jump.at jump.linked jump.off fact jump.tells
        ]
        | inr function ↦
            function_low told.number told.owner function.function (record { is = told.is; has = function.has }) fact
            function.tells
      ]

  -- what holds of each link that is told holds of each link
  all_by : (make : Link → Fact) (links : List Link) → Tell ms imports classes make links → (P : Link → Type 0)
      → ((l : Link) → IsTold ms imports classes (make l) → P l) → All P links
  all_by make links tell P holds = λ k d within.
      let l = get_or links k d in
      holds l ((tell l.from l.to).0 (Contains-get_or links k d within))

  -- an arrow's ends are nodes of the flow
  arrow_low : (widenings : List Link) → AreBelow (node_count ms) widenings → (a b : ℕ)
      → IsArrow ms imports classes widenings a b → (a < node_count ms) × (b < node_count ms)
  arrow_low widenings low a b arrow =
      elim arrow [
        | inl told ↦ told_low (facts.Arrow (make_link a b)) told
        | inr link ↦
            let both = All-contains (λ l. (l.from < node_count ms) × (l.to < node_count ms)) widenings
            (make_link b a) low link in
            (both.1, both.0)
      ]

  pub below_nodes : (links : Kept) → AreBelow (node_count ms) links.widenings → TellsLinks ms imports classes links
      → NamesNodes (node_count ms) links
  below_nodes links low tells = record {
    arrows = λ k d within.
        let l = get_or links.arrows k d in
        arrow_low links.widenings low l.from l.to ((tells.arrows l.from l.to).0 (Contains-get_or links.arrows k d within));
    sites = all_by (λ l. facts.Site l) links.sites tells.sites (λ l. l.from < node_count ms)
        (λ l told. told_low (facts.Site l) told);
    returns = all_by (λ l. facts.Return l) links.returns tells.returns (λ l. l.from < node_count ms)
        (λ l told. told_low (facts.Return l) told);
    pointers = all_by (λ l. facts.Pointer l) links.pointers tells.pointers (λ l. l.from < node_count ms)
        (λ l told. told_low (facts.Pointer l) told);
    entries = all_by (λ l. facts.Entry l) links.entries tells.entries (λ l. l.from < node_count ms)
        (λ l told. told_low (facts.Entry l) told);
    widenings = low;
  }

-- a flow that names its own nodes is sound
pub sound_by : (flow : Flow) (count : ℕ) → NamesNodes count (links_of flow) → flow.nodes ≡ count → IsSound flow
sound_by flow count names is = record {
  arrows = subst (λ n. AreBelow n flow.arrows.items) (sym is) names.arrows;
  sites = subst (λ n. BeginBelow n flow.sites.items) (sym is) names.sites;
  returns = subst (λ n. BeginBelow n flow.returns.items) (sym is) names.returns;
  pointers = subst (λ n. BeginBelow n flow.pointers.items) (sym is) names.pointers;
  entries = subst (λ n. BeginBelow n flow.entries.items) (sym is) names.entries;
  widenings = subst (λ n. AreBelow n flow.widenings.items) (sym is) names.widenings;
}
