-- The links of modules with one more: those before and those of what it tells.
use Rattle.std.proofs.Common.{◌≡◌, ◌∙◌, ◌⊎◌, ℕ, ◌<◌, List, [], ◌∷◌, ◌++◌, map, Option, Some, refl, sym, ap, subst, inl, inr, arith}
use Rattle.std.specs.List.{Contains, filter_map}
use Rattle.std.proofs.lemmas.List.{map-append}
use Rattle.std.proofs.lemmas.List.Elements.{Contains-append_left, Contains-append_right, Contains-append_cases}
use Rattle.cfi_flow.specs.declared.links.Link.{Link}
use Rattle.cfi_flow.specs.declared.links.Flow.{Flow}
use Rattle.cfi_flow.specs.Flow.{flipped, Links, AreBelow, IsSound}
use Rattle.cfi_flow.specs.Kept.{Kept, IsExtended}
use Rattle.cfi_flow.proofs.PathLemmas.{flip, unflip}
use Rattle.cfi_flow.proofs.RowLemmas.{make_link}
use Rattle.cfi_aux.specs.declared.placed.Placed.{Placed}
use Rattle.cfi_graph.specs.declared.fact.Fact.{Fact}
use Rattle.cfi_graph.specs.declared.fact.Fact.TheVariants as facts
use Rattle.cfi_graph.specs.Facts.{IsTold}
use Rattle.cfi_graph.specs.KeptGraph.{Graph, IsGraphOf}
use Rattle.cfi_graph.specs.Links.{type_link, Tell, IsArrow, TellsLinks}
use Rattle.cfi_graph.specs.Reading.{node_count}
use Rattle.cfi_graph.specs.inner.Flows.{arrow_in, site_in, return_in, pointer_in, entry_in, listed_in, IsFlowOf}
use Rattle.cfi_graph.proofs.BelowLemmas.{NamesNodes, below_nodes, sound_by}
use Rattle.cfi_graph.proofs.ReadLemmas.{by_pick, arrow_only, site_only, return_only, pointer_only, entry_only, listed_only}
use Rattle.cfi_graph.proofs.WideningLemmas.{links_low}
use Rattle.cfi_graph.proofs.KeptGraphLemmas.{all_last, IsRead, more_lead, more_exact, still_told, newly_told, told_or_new}

module _ (ms : List Placed) (m : Placed) (old : Graph) (classes : List (List ℕ)) (others : List Link) (list : List Fact)
    (read : IsRead ms m old classes others list) where
  before : (fact : Fact) → IsTold ms read.is.imports old.classes fact → IsTold (ms ++ m ∷ []) read.told.all classes fact
  before = still_told ms m old classes others list read

  further : (fact : Fact) → Contains list fact → IsTold (ms ++ m ∷ []) read.told.all classes fact
  further = newly_told ms m old classes others list read

  back : (fact : Fact) → IsTold (ms ++ m ∷ []) read.told.all classes fact
      → IsTold ms read.is.imports old.classes fact ⊎ Contains list fact
  back = told_or_new ms m old classes others list read

  module _ (links : List Link) (linked : links ≡ map type_link others) (count : ℕ) (more : Flow)
      (made : IsFlowOf list links count more) where
    module _ (new : Kept) (ext : IsExtended old.flow more new) where
      new_widenings : new.widenings ≡ map type_link (old.wider ++ others)
      new_widenings =
          ext.widenings ∙ ap (λ ws. ws ++ more.widenings.items) read.is.linked
          ∙ ap (λ ws. map type_link old.wider ++ ws) (made.widenings ∙ linked)
          ∙ sym (map-append type_link old.wider others)

      tell : (make : Link → Fact) (pick : Fact → Option Link) → ((l : Link) → pick (make l) ≡ Some l)
          → ((fact : Fact) (l : Link) → pick fact ≡ Some l → make l ≡ fact) → (first second all : List Link)
          → all ≡ first ++ second → second ≡ filter_map pick list → Tell ms read.is.imports old.classes make first
          → Tell (ms ++ m ∷ []) read.told.all classes make all
      tell make pick gives only first second all all_is second_is told a b =
          let fact = make (make_link a b) in
          let picked = by_pick make pick gives only list a b in (
            λ has. elim (Contains-append_cases first second (make_link a b) (subst (λ ls. Links ls a b) all_is has)) [
              | inl one ↦ before fact ((told a b).0 one)
              | inr other ↦ further fact (picked.0 (subst (λ ls. Links ls a b) second_is other))
            ],
            λ is. subst (λ ls. Links ls a b) (sym all_is) (elim (back fact is) [
              | inl one ↦ Contains-append_left first second (make_link a b) ((told a b).1 one)
              | inr other ↦
                  Contains-append_right first second (make_link a b)
                  (subst (λ ls. Links ls a b) (sym second_is) (picked.1 other))
            ]),
          )

      wide_first : (a b : ℕ) → Links old.flow.widenings a b → Links new.widenings a b
      wide_first a b has =
          subst (λ ls. Links ls a b) (sym ext.widenings)
          (Contains-append_left old.flow.widenings more.widenings.items (make_link a b) has)

      wide_further : (a b : ℕ) → Links links a b → Links new.widenings a b
      wide_further a b has =
          subst (λ ls. Links ls a b) (sym ext.widenings)
          (Contains-append_right old.flow.widenings more.widenings.items (make_link a b)
          (subst (λ ls. Links ls a b) (sym made.widenings) has))

      from_arrow : (a b : ℕ) → Links new.arrows a b → IsArrow (ms ++ m ∷ []) read.told.all classes new.widenings a b
      from_arrow a b has =
          let link = make_link a b in
          let picked = by_pick facts.Arrow arrow_in (λ l. refl) arrow_only list a b in
          elim (Contains-append_cases old.flow.arrows more.arrows.items link (subst (λ ls. Links ls a b) ext.arrows has)) [
            | inl one ↦ elim ((read.is.tells.arrows a b).0 one) [
              | inl told ↦ inl (before (facts.Arrow link) told)
              | inr wide ↦ inr (wide_first b a wide)
            ]
            | inr other ↦ elim (Contains-append_cases (filter_map arrow_in list) (map flipped links) link
                (subst (λ ls. Links ls a b) made.arrows other)) [
                  | inl told ↦ inl (further (facts.Arrow link) (picked.0 told))
                  | inr turned ↦ inr (wide_further b a (unflip links a b turned))
                ]
          ]

      first_arrow : (a b : ℕ) → Links old.flow.arrows a b → Links new.arrows a b
      first_arrow a b has =
          subst (λ ls. Links ls a b) (sym ext.arrows)
          (Contains-append_left old.flow.arrows more.arrows.items (make_link a b) has)

      further_arrow : (a b : ℕ) → Links (filter_map arrow_in list ++ map flipped links) a b → Links new.arrows a b
      further_arrow a b has =
          subst (λ ls. Links ls a b) (sym ext.arrows)
          (Contains-append_right old.flow.arrows more.arrows.items (make_link a b)
          (subst (λ ls. Links ls a b) (sym made.arrows) has))

      to_arrow : (a b : ℕ) → IsArrow (ms ++ m ∷ []) read.told.all classes new.widenings a b → Links new.arrows a b
      to_arrow a b arrow =
          let link = make_link a b in
          let picked = by_pick facts.Arrow arrow_in (λ l. refl) arrow_only list a b in
          elim arrow [
            | inl is ↦ elim (back (facts.Arrow link) is) [
              | inl one ↦ first_arrow a b ((read.is.tells.arrows a b).1 (inl one))
              | inr other ↦
                  further_arrow a b
                  (Contains-append_left (filter_map arrow_in list) (map flipped links) link (picked.1 other))
            ]
            | inr wide ↦ elim (Contains-append_cases old.flow.widenings more.widenings.items (make_link b a)
                (subst (λ ls. Links ls b a) ext.widenings wide)) [
                  | inl one ↦ first_arrow a b ((read.is.tells.arrows a b).1 (inr one))
                  | inr other ↦
                      further_arrow a b
                      (Contains-append_right (filter_map arrow_in list) (map flipped links) link
                      (flip links b a (subst (λ ls. Links ls b a) made.widenings other)))
                ]
          ]

      new_tells : TellsLinks (ms ++ m ∷ []) read.told.all classes new
      new_tells =
          let t = read.is.tells in
          let o = old.flow in
          record {
            arrows = λ a b. (from_arrow a b, to_arrow a b);
            sites = tell facts.Site site_in (λ l. refl) site_only o.sites more.sites.items new.sites ext.sites made.sites t.sites;
            returns = tell facts.Return return_in (λ l. refl) return_only o.returns more.returns.items new.returns ext.returns
                made.returns t.returns;
            pointers = tell facts.Pointer pointer_in (λ l. refl) pointer_only o.pointers more.pointers.items new.pointers
                ext.pointers made.pointers t.pointers;
            entries = tell facts.Entry entry_in (λ l. refl) entry_only o.entries more.entries.items new.entries ext.entries
                made.entries t.entries;
            listed = tell facts.Listed listed_in (λ l. refl) listed_only o.listed more.listed.items new.listed ext.listed
                made.listed t.listed;
          }

      -- they are the links of all modules
      pub graph_more : count ≡ node_count (ms ++ m ∷ [])
          → IsGraphOf (ms ++ m ∷ []) (record { classes = classes; wider = old.wider ++ others; flow = new })
      graph_more counts =
          let nodes = ext.nodes ∙ made.nodes ∙ counts in
          record {
            typed = read.typed;
            wider = more_lead ms m old classes others list read;
            linked = new_widenings;
            imports = read.told.all;
            named = read.told.named;
            tells = new_tells;
            nodes = omega (arith, nodes);
          }

      new_names : NamesNodes (node_count (ms ++ m ∷ [])) new
      new_names =
          below_nodes (ms ++ m ∷ []) read.told.all classes read.told.named read.have.apart read.typed new
          (subst (λ ls. AreBelow (node_count (ms ++ m ∷ [])) ls) (sym new_widenings)
          (links_low (ms ++ m ∷ []) classes read.typed (old.wider ++ others) (more_exact ms m old classes others list read))) new_tells

    -- the further links name nodes
    pub more_sound : count ≡ node_count (ms ++ m ∷ []) → IsSound more
    more_sound counts =
        let o = old.flow in
        let new : Kept = record {
          nodes = more.nodes;
          arrows = o.arrows ++ more.arrows.items;
          sites = o.sites ++ more.sites.items;
          returns = o.returns ++ more.returns.items;
          pointers = o.pointers ++ more.pointers.items;
          entries = o.entries ++ more.entries.items;
          widenings = o.widenings ++ more.widenings.items;
          listed = o.listed ++ more.listed.items;
          edges = o.edges ++ [];
        } in
        let ext : IsExtended old.flow more new = record {
          nodes = refl;
          arrows = refl;
          sites = refl;
          returns = refl;
          pointers = refl;
          entries = refl;
          widenings = refl;
          listed = refl;
          added = [];
          edges = refl;
        } in
        let names = new_names new ext in
        sound_by more (node_count (ms ++ m ∷ [])) (record {
          arrows = all_last (λ l. (l.from < node_count (ms ++ m ∷ [])) × (l.to < node_count (ms ++ m ∷ []))) o.arrows
              more.arrows.items names.arrows;
          sites = all_last (λ l. l.from < node_count (ms ++ m ∷ [])) o.sites more.sites.items names.sites;
          returns = all_last (λ l. l.from < node_count (ms ++ m ∷ [])) o.returns more.returns.items names.returns;
          pointers = all_last (λ l. l.from < node_count (ms ++ m ∷ [])) o.pointers more.pointers.items names.pointers;
          entries = all_last (λ l. l.from < node_count (ms ++ m ∷ [])) o.entries more.entries.items names.entries;
          widenings = all_last (λ l. (l.from < node_count (ms ++ m ∷ [])) × (l.to < node_count (ms ++ m ∷ []))) o.widenings
              more.widenings.items names.widenings;
        }) (made.nodes ∙ counts)
