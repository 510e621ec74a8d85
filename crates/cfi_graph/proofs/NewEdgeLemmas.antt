-- The flow of modules with one more, and of the modules alone as part of it.
use Rattle.std.proofs.Common.{◌≡◌, ◌↔◌, ◌∙◌, ◌⊎◌, ℕ, List, [], ◌∷◌, ◌++◌, length, Some, refl, sym, ap, subst, inl, inr, arith}
use Rattle.std.specs.Option.{option_or}
use Rattle.std.proofs.lemmas.Option.{slice_get_within}
use Rattle.cfi_word.specs.declared.lists.Edge.{Edge}
use Rattle.cfi_flow.specs.declared.links.Link.{Link}
use Rattle.cfi_flow.specs.declared.links.Flow.{Flow}
use Rattle.cfi_flow.specs.Flow.{Links}
use Rattle.cfi_flow.specs.Fresh.{AreAmong, IsPartOf, AreFreshEdges}
use Rattle.cfi_flow.proofs.RowLemmas.{make_link}
use Rattle.cfi_aux.specs.declared.placed.Placed.{Placed}
use Rattle.cfi_graph.specs.declared.fact.Fact.{Fact}
use Rattle.cfi_graph.specs.declared.fact.Fact.TheVariants as facts
use Rattle.cfi_graph.specs.Direct.{IsImportTarget}
use Rattle.cfi_graph.specs.Facts.{ByName, AreImports, ModuleTells, IsTold, AreFacts}
use Rattle.cfi_graph.specs.Reading.{CanAllBeRead}
use Rattle.cfi_graph.specs.NewEdges.{AreNewEdges}
use Rattle.cfi_graph.specs.inner.Flows.{IsFlowOf}
use Rattle.cfi_graph.specs.inner.NewEdges.{HaveFlows}
use Rattle.cfi_graph.specs.Named.{entry_in, entry_among}
use Rattle.cfi_graph.proofs.DirectLemmas.{direct_goes}
use Rattle.cfi_graph.proofs.FirstLemmas.{first_push}
use Rattle.cfi_graph.proofs.ImportLemmas.{are_imports}
use Rattle.cfi_graph.proofs.FlowLemmas.{IsMade, flow_wider, flow_tells, flow_sound, flow_goes}
use Rattle.cfi_graph.proofs.OneMoreLemmas.{at_first, at_last, at_cases, graph_first}
use Rattle.cfi_graph.proofs.OnceLemmas.{told_once}
use Rattle.cfi_graph.specs.Links.{Tell}
use Rattle.cfi_graph.proofs.ReadLemmas.{links_of, TellsFlow, goes_along, along_goes, tells_flow}
use Rattle.cfi_graph.proofs.SoundLemmas.{goes_direct}
use Rattle.cfi_graph.proofs.TellOnLemmas.{all_lead_on, module_on}
use Rattle.cfi_graph.proofs.WiderLemmas.{AreWider}

-- the first function of a name stays it
pub imported_on : (ms : List Placed) (m : Placed) (name : List ℕ) (address : ℕ) → IsImportTarget ms name address
    → IsImportTarget (ms ++ m ∷ []) name address
imported_on ms m name address t =
    let own = t.is in
    record {
      owner = t.owner;
      function = t.function;
      is = record {
        number = own.number;
        is = at_first ms m own.number t.owner own.is;
        place = own.place;
        has = own.has;
        global = own.global;
        first = own.first;
        earliest = λ k o g less is has named.
            elim (at_cases ms m k o is) [
              | inl there ↦ own.earliest k o g less there has named
              | inr last ↦
                  let within = slice_get_within ms own.number t.owner own.is in
                  absurd (omega (arith, less, within, last.0))
            ];
      };
      entry = t.entry;
    }

module _ (old new : ByName) (more : (name : List ℕ) (address : ℕ) → old name ≡ Some address → new name ≡ Some address)
    (classes : List (List ℕ)) where
  -- what modules tell they tell with one more behind them
  told_on : (ms : List Placed) (m : Placed) (fact : Fact) → IsTold ms old classes fact → IsTold (ms ++ m ∷ []) new classes fact
  told_on ms m fact told = record {
    number = told.number;
    owner = told.owner;
    is = at_first ms m told.number told.owner told.is;
    tells = module_on old new classes classes told.number (λ node. refl) told.owner (all_lead_on old new more told.owner) fact
        told.tells;
  }

-- what the modules tell, and what the last one does
pub facts_more : (ms : List Placed) (m : Placed) (imports : ByName) (classes : List (List ℕ)) (fact : Fact)
    → IsTold ms imports classes fact ⊎ ModuleTells imports classes (length ms) m fact
    → IsTold (ms ++ m ∷ []) imports classes fact
facts_more ms m imports classes fact told =
    elim told [
      | inl t ↦ told_on imports imports (λ name address is. is) classes ms m fact t
      | inr t ↦ record { number = length ms; owner = m; is = at_last ms m; tells = t }
    ]

pub more_facts : (ms : List Placed) (m : Placed) (imports : ByName) (classes : List (List ℕ)) (fact : Fact)
    → IsTold (ms ++ m ∷ []) imports classes fact
    → IsTold ms imports classes fact ⊎ ModuleTells imports classes (length ms) m fact
more_facts ms m imports classes fact told =
    elim (at_cases ms m told.number told.owner told.is) [
      | inl is ↦ inl (record { number = told.number; owner = told.owner; is = is; tells = told.tells })
      | inr last ↦
          inr (subst (λ k. ModuleTells imports classes k m fact) last.0
          (subst (λ n. ModuleTells imports classes told.number n fact) last.1 told.tells))
    ]

-- where imports lead with one module more
pub imports_more : (ms : List Placed) (m : Placed) (imports all : ByName)
    → ((name : List ℕ) → imports name ≡ entry_among ms name)
    → ((name : List ℕ) → all name ≡ option_or (imports name) (entry_in m name)) → AreImports (ms ++ m ∷ []) all
imports_more ms m imports all among adds name address =
    let same : all name ≡ entry_among (ms ++ m ∷ []) name =
    adds name ∙ ap (λ o. option_or o (entry_in m name)) (among name)
    ∙ sym (first_push (λ n. entry_in n name) ms m) in
    subst (λ o. (o ≡ Some address) ↔ IsImportTarget (ms ++ m ∷ []) name address) (sym same)
    (are_imports (ms ++ m ∷ []) name address)

-- the modules alone can be read too
pub read_first : (ms : List Placed) (m : Placed) (classes : List (List ℕ)) → CanAllBeRead classes (ms ++ m ∷ [])
    → CanAllBeRead classes ms
read_first ms m classes read number one is = read number one (at_first ms m number one is)

wider_first : (ms : List Placed) (m : Placed) (classes : List (List ℕ)) (links : List Link)
    → AreWider (ms ++ m ∷ []) classes links → AreWider ms classes links
wider_first ms m classes links w = record {
  high = w.high;
  fits = λ i j x y x_is y_is a b a_in b_in callable.
      w.fits i j x y (at_first ms m i x x_is) (at_first ms m j y y_is) a b a_in b_in callable;
}

module _ (ms : List Placed) (m : Placed) (imports all_imports : ByName) (classes : List (List ℕ)) (wider : List Link)
    (list all_list : List Fact) (links all_links : List Link) (count : ℕ)
    (made : IsMade (ms ++ m ∷ []) all_imports classes wider all_list all_links count) (flow known : Flow)
    (is : IsFlowOf all_list all_links count flow) (known_is : IsFlowOf list links count known)
    (facts_are : AreFacts ms imports classes list) (named : AreImports ms imports) (same : links ≡ all_links) where
  known_tells : TellsFlow ms imports classes known
  known_tells = tells_flow ms imports classes list facts_are links count known known_is

  all_tells : TellsFlow (ms ++ m ∷ []) all_imports classes flow
  all_tells = flow_tells (ms ++ m ∷ []) all_imports classes wider all_list all_links count made flow is

  all_wider : AreWider (ms ++ m ∷ []) classes flow.widenings.items
  all_wider = flow_wider (ms ++ m ∷ []) all_imports classes wider all_list all_links count made flow is

  widenings_same : flow.widenings.items ≡ known.widenings.items
  widenings_same = is.widenings ∙ sym same ∙ sym known_is.widenings

  known_wider : AreWider ms classes known.widenings.items
  known_wider = subst (λ ls. AreWider ms classes ls) widenings_same (wider_first ms m classes flow.widenings.items all_wider)

  imports_on : (name : List ℕ) (address : ℕ) → imports name ≡ Some address → all_imports name ≡ Some address
  imports_on name address there = (made.named name address).1 (imported_on ms m name address ((named name address).0 there))

  on : (fact : Fact) → IsTold ms imports classes fact → IsTold (ms ++ m ∷ []) all_imports classes fact
  on fact told = told_on imports all_imports imports_on classes ms m fact told

  among : (make : Link → Fact) (part whole : List Link) → Tell ms imports classes make part
      → Tell (ms ++ m ∷ []) all_imports classes make whole → AreAmong part whole
  among make part whole one other from to has = (other from to).1 (on (make (make_link from to)) ((one from to).0 has))

  known_part : IsPartOf known flow
  known_part = record {
    nodes = known_is.nodes ∙ sym is.nodes;
    arrows = λ from to has. (all_tells.arrows from to).1 (elim ((known_tells.arrows from to).0 has) [
      | inl told ↦ inl (on (facts.Arrow (make_link from to)) told)
      | inr link ↦ inr (subst (λ ls. Links ls to from) (sym widenings_same) link)
    ]);
    sites = among (λ l. facts.Site l) known.sites.items flow.sites.items known_tells.sites all_tells.sites;
    returns = among (λ l. facts.Return l) known.returns.items flow.returns.items known_tells.returns all_tells.returns;
    pointers = among (λ l. facts.Pointer l) known.pointers.items flow.pointers.items known_tells.pointers all_tells.pointers;
    entries = among (λ l. facts.Entry l) known.entries.items flow.entries.items known_tells.entries all_tells.entries;
    widenings = λ from to has. subst (λ ls. Links ls from to) (sym widenings_same) has;
    listed = among (λ l. facts.Listed l) known.listed.items flow.listed.items known_tells.listed all_tells.listed;
  }

  pub have_flows : HaveFlows ms (ms ++ m ∷ []) flow known
  have_flows =
      let apart = (graph_first ms m made.graph).apart in
      record {
        sound = flow_sound (ms ++ m ∷ []) all_imports classes wider all_list all_links count made flow is;
        part = known_part;
        once = told_once (ms ++ m ∷ []) all_imports classes made.graph.apart made.named flow all_wider all_tells;
        goes = flow_goes (ms ++ m ∷ []) all_imports classes wider all_list all_links count made flow is;
        goes_old = λ slot address. (
          λ goes.
              goes_direct ms imports classes named apart (links_of known) known_wider known_tells slot address
              (goes_along known slot address goes),
          λ edge.
              along_goes known slot address
              (direct_goes ms imports classes named apart (links_of known) known_wider known_tells slot address edge),
        );
      }

-- the fresh edges of these flows are the new direct edges
pub new_edges : (old ms : List Placed) (flow known : Flow) → HaveFlows old ms flow known → (edges : List Edge)
    → AreFreshEdges known flow edges → AreNewEdges old ms edges
new_edges old ms flow known have edges are = record {
  sound = λ slot address h.
      let f = are.sound slot address h in
      record {
        edge = (have.goes slot address).0 f.goes;
        new = λ d. f.new ((have.goes_old slot address).1 d);
      };
  whole = λ slot address n.
      are.whole slot address (record {
        goes = (have.goes slot address).1 n.edge;
        new = λ g. n.new ((have.goes_old slot address).0 g);
      });
  order = are.order;
}
