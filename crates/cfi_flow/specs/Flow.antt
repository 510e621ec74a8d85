-- Where control may go: nodes are what may be entered, a function or all functions of one type.
use Rattle.std.specs.Prelude.{◌≡◌, ℕ, zero, suc, ◌+◌, ◌<◌, ◌⊎◌, List, length, All}
use Rattle.std.specs.List.{Contains}
use Rattle.cfi_flow.specs.declared.links.Link.{Link}
use Rattle.cfi_flow.specs.declared.links.Flow.{Flow}

-- a link of the list leads from one number to the other
abbrev pub Links : List Link → (from to : ℕ) → Type 0
Links links a b = Contains links (record { from = a; to = b })

-- the link from its end to its beginning
abbrev pub flipped : Link → Link
flipped link = record { from = link.to; to = link.from }

-- so many arrows lead from one node to the other
abbrev pub IsPath : (arrows : List Link) → (steps : ℕ) → (from to : ℕ) → Type 0
IsPath arrows zero a b = a ≡ b
IsPath arrows (suc steps) a b = (next : ℕ) × Links arrows a next × IsPath arrows steps next b

-- some arrows, or none, lead from one node to the other
abbrev pub Reaches : (arrows : List Link) → (from to : ℕ) → Type 0
Reaches arrows a b = (steps : ℕ) × IsPath arrows steps a b

-- pointers to what the node stands for may lead to the address, and the branch points to that or to something wider
pub record PointsAt (flow : Flow) (node slot address : ℕ) : Type 0 where
  pub entry : Links flow.entries.items node address
  pub pointing : ℕ
  pub wider : Reaches flow.widenings.items node pointing
  pub pointer : Links flow.pointers.items pointing slot

-- what enters the node comes back to the address, and gets to where the branch returns
pub record ReturnsAt (flow : Flow) (node slot address : ℕ) : Type 0 where
  pub site : Links flow.sites.items node address
  pub returning : ℕ
  pub reached : Reaches flow.arrows.items node returning
  pub back : Links flow.returns.items returning slot

-- the branch may go to the address by way of the node
abbrev pub GoesBy : Flow → (node slot address : ℕ) → Type 0
GoesBy flow node slot address = PointsAt flow node slot address ⊎ ReturnsAt flow node slot address

-- the branch may go to the address: it is listed, or goes there by way of a node
abbrev pub Goes : Flow → (slot address : ℕ) → Type 0
Goes flow slot address = Links flow.listed.items slot address ⊎ ((node : ℕ) × GoesBy flow node slot address)

-- how many links the flow has
abbrev pub link_count : Flow → ℕ
link_count flow =
    length flow.arrows.items + length flow.sites.items + length flow.returns.items
    + length flow.pointers.items + length flow.entries.items + length flow.widenings.items
    + length flow.listed.items

-- links that begin below the count
abbrev pub BeginBelow : (count : ℕ) → List Link → Type 0
BeginBelow count links = All (λ link. link.from < count) links

-- links that begin and end below the count
abbrev pub AreBelow : (count : ℕ) → List Link → Type 0
AreBelow count links = All (λ link. (link.from < count) × (link.to < count)) links

-- what the flow names is one of its nodes
pub record IsSound (flow : Flow) : Type 0 where
  pub arrows : AreBelow flow.nodes flow.arrows.items
  pub sites : BeginBelow flow.nodes flow.sites.items
  pub returns : BeginBelow flow.nodes flow.returns.items
  pub pointers : BeginBelow flow.nodes flow.pointers.items
  pub entries : BeginBelow flow.nodes flow.entries.items
  pub widenings : AreBelow flow.nodes flow.widenings.items
