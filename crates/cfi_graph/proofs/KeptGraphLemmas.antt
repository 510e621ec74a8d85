-- The links of modules with one more.
use Rattle.std.proofs.Common.{◌≡◌, ◌∙◌, ◌⊎◌, ℕ, suc, ◌+◌, ◌-◌, ◌<◌, ◌^◌, List, [], ◌∷◌, ◌++◌, length, take, None, refl, sym, ap, subst, inl, inr, arith}
use Rattle.std.specs.Prelude.{All}
use Rattle.std.specs.List.{Contains}
use Rattle.std.proofs.lemmas.Option.{none-some}
use Rattle.std.proofs.lemmas.List.{map_push, length-map, get_or-take}
use Rattle.cfi_word.specs.declared.limits.TheConstants.{MAX_CODE_WORDS}
use Rattle.cfi_flow.specs.declared.links.Link.{Link}
use Rattle.cfi_flow.specs.Flow.{Links, AreBelow}
use Rattle.cfi_flow.specs.Kept.{Kept, no_flow, SpansFlow}
use Rattle.cfi_flow.proofs.Members.{no_member}
use Rattle.cfi_flow.proofs.RowLemmas.{make_link}
use Rattle.cfi_type_table.specs.Node.{Node}
use Rattle.cfi_types.specs.Classes.{class_of, AreClasses}
use Rattle.cfi_aux.specs.declared.placed.Placed.{Placed}
use Rattle.cfi_graph.specs.declared.fact.Fact.{Fact}
use Rattle.cfi_graph.specs.declared.fact.Fact.TheVariants as facts
use Rattle.cfi_graph.specs.Facts.{ByName, AreImports, type_node, IsTold}
use Rattle.cfi_graph.specs.KeptGraph.{Graph, LeadToWider, IsGraphOf, SpanEdges}
use Rattle.cfi_graph.specs.Links.{TellsLinks}
use Rattle.cfi_graph.specs.Reading.{tables_of, HaveGraph}
use Rattle.cfi_graph.specs.inner.KeptGraph.{AreMoreWider}
use Rattle.cfi_graph.specs.inner.More.{AreMoreFacts}
use Rattle.cfi_graph.proofs.ClassLemmas.{as_many}
use Rattle.cfi_graph.proofs.DirectLemmas.{direct_goes}
use Rattle.cfi_graph.proofs.GrowWiderLemmas.{lead_exact, lead_more}
use Rattle.cfi_graph.proofs.MoreLemmas.{told_before, more_told, told_back}
use Rattle.cfi_graph.proofs.SoundLemmas.{goes_direct}
use Rattle.cfi_graph.proofs.WiderLemmas.{AreWider}
use Rattle.cfi_graph.proofs.WideningLemmas.{AreExact, class_links_low, are_wider}

-- what holds of all holds of the last ones
pub all_last : {X : Type 0} (P : X → Type 0) (xs ys : List X) → All P (xs ++ ys) → All P ys
all_last P [] ys all = all
all_last P (x ∷ xs) ys all = all_last P xs ys (λ k d within. all (suc k) d (omega (arith, within)))

-- ---- edges

module _ (ms : List Placed) (have : HaveGraph ms) (graph : Graph) (is : IsGraphOf ms graph) where
  graph_wider : AreWider ms graph.classes graph.flow.widenings
  graph_wider =
      subst (λ ls. AreWider ms graph.classes ls) (sym is.linked)
      (are_wider ms graph.classes is.typed graph.wider
      (lead_exact ms graph.classes graph.wider have.types is.typed is.wider))

  -- edges that span the links span the direct edges
  pub span_edges : SpansFlow graph.flow → SpanEdges ms graph.flow.edges
  span_edges spans = record {
    sound = λ slot address has.
        goes_direct ms is.imports graph.classes is.named have.apart graph.flow graph_wider is.tells slot address
        (spans.sound slot address has);
    whole = λ slot address edge.
        spans.whole slot address
        (direct_goes ms is.imports graph.classes is.named have.apart graph.flow graph_wider is.tells slot address edge);
  }

-- ---- no modules

no_links : (a b : ℕ) → Links [] a b → ⊥
no_links a b has = no_member (make_link a b) has

none_told : (imports : ByName) (classes : List (List ℕ)) (fact : Fact) → IsTold [] imports classes fact → ⊥
none_told imports classes fact told = none-some told.owner told.is

no_tells : (imports : ByName) (classes : List (List ℕ)) → TellsLinks [] imports classes no_flow
no_tells imports classes = record {
  arrows = λ a b. (
    λ has. absurd (no_links a b has),
    λ arrow. elim arrow [
      | inl told ↦ absurd (none_told imports classes (facts.Arrow (make_link a b)) told)
      | inr wide ↦ absurd (no_links b a wide)
    ],
  );
  sites = λ a b. (λ has. absurd (no_links a b has), λ t. absurd (none_told imports classes (facts.Site (make_link a b)) t));
  returns = λ a b. (λ has. absurd (no_links a b has), λ t. absurd (none_told imports classes (facts.Return (make_link a b)) t));
  pointers = λ a b. (λ has. absurd (no_links a b has), λ t. absurd (none_told imports classes (facts.Pointer (make_link a b)) t));
  entries = λ a b. (λ has. absurd (no_links a b has), λ t. absurd (none_told imports classes (facts.Entry (make_link a b)) t));
  listed = λ a b. (λ has. absurd (no_links a b has), λ t. absurd (none_told imports classes (facts.Listed (make_link a b)) t));
}

no_names : AreImports [] (λ name. None)
no_names name address = (
  λ there. absurd (none-some address there),
  λ to. absurd (none-some to.owner to.is.is),
)

pub no_modules : (classes : List (List ℕ)) (wider : List Link) (flow : Kept) → AreClasses [] classes → wider ≡ []
    → flow ≡ no_flow → IsGraphOf [] (record { classes = classes; wider = wider; flow = flow })
no_modules classes wider flow typed wider_is flow_is =
    subst (λ k. IsGraphOf [] (record { classes = classes; wider = wider; flow = k })) (sym flow_is)
    (subst (λ ls. IsGraphOf [] (record { classes = classes; wider = ls; flow = no_flow })) (sym wider_is) (record {
      typed = typed;
      wider = record {
        sound = λ from to has. absurd (no_links from to has);
        whole = λ t a u b here there fits. let low : t < 0 = here.0 in absurd (omega (arith, low));
      };
      linked = refl;
      imports = λ name. None;
      named = no_names;
      tells = no_tells (λ name. None) classes;
      nodes = omega arith;
    }))

-- ---- one module more

-- what is known when one module more is read
pub record IsRead (ms : List Placed) (m : Placed) (old : Graph) (classes : List (List ℕ)) (others : List Link)
    (list : List Fact) : Type 0 where
  pub have : HaveGraph (ms ++ m ∷ [])
  pub is : IsGraphOf ms old
  pub typed : AreClasses (tables_of (ms ++ m ∷ [])) classes
  pub stay : take (length old.classes) classes ≡ old.classes
  pub wider : AreMoreWider (tables_of (ms ++ m ∷ [])) classes old.wider others
  pub told : AreMoreFacts ms m classes list

-- numbers of the types of a book and of one table more are those of the modules
pub typed_with : (ms : List Placed) (m : Placed) (book : List (List Node)) (classes : List (List ℕ)) → book ≡ tables_of ms
    → AreClasses (book ++ m.types ∷ []) classes → AreClasses (tables_of (ms ++ m ∷ [])) classes
typed_with ms m book classes book_is typed =
    subst (λ ts. AreClasses ts classes)
    (ap (λ ts. ts ++ m.types ∷ []) book_is ∙ sym (map_push (λ (n : Placed). n.types) ms m)) typed

pub is_read : (ms : List Placed) (m : Placed) (self old : Graph) (book : List (List Node)) (classes : List (List ℕ))
    (known others : List Link) (list : List Fact) → HaveGraph (ms ++ m ∷ []) → old ≡ self → IsGraphOf ms self
    → book ≡ tables_of ms → AreClasses (book ++ m.types ∷ []) classes → take (length old.classes) classes ≡ old.classes
    → known ≡ old.wider → AreMoreWider (tables_of (ms ++ m ∷ [])) classes known others → AreMoreFacts ms m classes list
    → IsRead ms m old classes others list
is_read ms m self old book classes known others list have same is book_is typed stay known_is wider told =
    record {
      have = have;
      is = subst (IsGraphOf ms) (sym same) is;
      typed = typed_with ms m book classes book_is typed;
      stay = stay;
      wider = subst (λ ls. AreMoreWider (tables_of (ms ++ m ∷ [])) classes ls others) known_is wider;
      told = told;
    }

module _ (ms : List Placed) (m : Placed) (old : Graph) (classes : List (List ℕ)) (others : List Link) (list : List Fact)
    (read : IsRead ms m old classes others list) where
  same_class : (t : ℕ) → t < length ms → (a : ℕ) → class_of old.classes t a ≡ class_of classes t a
  same_class t within a =
      let many = as_many (tables_of ms) old.classes read.is.typed in
      let count = length-map ms (λ n. n.types) in
      let lower : t < length old.classes = omega (arith, within, many, count) in
      ap (λ cs. class_of cs t a) (sym read.stay)
      ∙ ap (λ row. class_of (row ∷ []) 0 a) (get_or-take (length old.classes) classes t [] lower)

  same_node : (t : ℕ) → t < length ms → (a : ℕ) → type_node old.classes t a ≡ type_node classes t a
  same_node t within a = ap (λ k. MAX_CODE_WORDS + k) (same_class t within a)

  pub more_lead : LeadToWider (tables_of (ms ++ m ∷ [])) classes (old.wider ++ others)
  more_lead =
      let tables = map_push (λ (n : Placed). n.types) ms m in
      let count = length-map ms (λ n. n.types) in
      subst (λ ts. LeadToWider ts classes (old.wider ++ others)) (sym tables)
      (lead_more (tables_of ms) m.types old.classes classes
      (λ t within a. same_class t (omega (arith, within, count)) a) old.wider others read.is.wider
      (subst (λ ts. AreMoreWider ts classes old.wider others) tables read.wider))

  pub more_exact : AreExact (tables_of (ms ++ m ∷ [])) classes (old.wider ++ others)
  more_exact = lead_exact (ms ++ m ∷ []) classes (old.wider ++ others) read.have.types read.typed more_lead

  -- the further links are between numbers that types' nodes have
  pub others_low : AreBelow (2 ^ 32 - MAX_CODE_WORDS) others
  others_low =
      all_last (λ l. (l.from < 2 ^ 32 - MAX_CODE_WORDS) × (l.to < 2 ^ 32 - MAX_CODE_WORDS)) old.wider others
      (class_links_low (ms ++ m ∷ []) classes read.typed (old.wider ++ others) more_exact read.have.nodes)

  -- ---- facts

  pub still_told : (fact : Fact) → IsTold ms read.is.imports old.classes fact
      → IsTold (ms ++ m ∷ []) read.told.all classes fact
  still_told =
      told_before ms m read.is.imports read.told.before read.told.own read.told.all old.classes classes read.is.named
      read.told.known read.told.named read.told.joined same_node

  pub newly_told : (fact : Fact) → Contains list fact → IsTold (ms ++ m ∷ []) read.told.all classes fact
  newly_told fact has =
      more_told ms m read.is.imports read.told.before read.told.own read.told.all old.classes classes read.is.named
      read.told.known read.told.named read.told.joined same_node fact ((read.told.are fact).0 has)

  pub told_or_new : (fact : Fact) → IsTold (ms ++ m ∷ []) read.told.all classes fact
      → IsTold ms read.is.imports old.classes fact ⊎ Contains list fact
  told_or_new fact told =
      elim (told_back ms m read.is.imports read.told.before read.told.own read.told.all old.classes classes read.is.named
      read.told.known read.told.named read.told.joined same_node fact told) [
        | inl first ↦ inl first
        | inr more ↦ inr ((read.told.are fact).1 more)
      ]
