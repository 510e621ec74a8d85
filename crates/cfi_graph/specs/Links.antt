-- The links along which control may go in placed modules: what the modules tell, and wider types. A node is a code
-- word, for the function that begins there, or a type's node.
use Rattle.std.specs.Prelude.{◌↔◌, ◌⊎◌, ℕ, ◌+◌, List}
use Rattle.cfi_word.specs.declared.limits.TheConstants.{MAX_CODE_WORDS}
use Rattle.cfi_flow.specs.declared.links.Link.{Link}
use Rattle.cfi_flow.specs.Flow.{Links}
use Rattle.cfi_flow.specs.Kept.{Kept}
use Rattle.cfi_aux.specs.declared.placed.Placed.{Placed}
use Rattle.cfi_graph.specs.declared.fact.Fact.{Fact}
use Rattle.cfi_graph.specs.declared.fact.Fact.TheVariants as facts
use Rattle.cfi_graph.specs.Facts.{ByName, IsTold}

-- the links of the list are those that the modules tell so
abbrev pub Tell : (ms : List Placed) → ByName → (classes : List (List ℕ)) → (Link → Fact) → List Link → Type 0
Tell ms imports classes make links =
    (a b : ℕ) → Links links a b ↔ IsTold ms imports classes (make (record { from = a; to = b }))

-- an arrow is told, or leads from a wider type's node to a narrower one's
abbrev pub IsArrow : (ms : List Placed) → ByName → (classes : List (List ℕ)) → (widenings : List Link) → (a b : ℕ) → Type 0
IsArrow ms imports classes widenings a b =
    IsTold ms imports classes (facts.Arrow (record { from = a; to = b })) ⊎ Links widenings b a

-- the links are what the modules tell; those to wider types are given
pub record TellsLinks (ms : List Placed) (imports : ByName) (classes : List (List ℕ)) (links : Kept) : Type 0 where
  pub arrows : (a b : ℕ) → Links links.arrows a b ↔ IsArrow ms imports classes links.widenings a b
  pub sites : Tell ms imports classes (λ l. facts.Site l) links.sites
  pub returns : Tell ms imports classes (λ l. facts.Return l) links.returns
  pub pointers : Tell ms imports classes (λ l. facts.Pointer l) links.pointers
  pub entries : Tell ms imports classes (λ l. facts.Entry l) links.entries
  pub listed : Tell ms imports classes (λ l. facts.Listed l) links.listed

-- the link between the nodes of two types, from one between their classes
abbrev pub type_link : Link → Link
type_link link = record { from = MAX_CODE_WORDS + link.from; to = MAX_CODE_WORDS + link.to }
