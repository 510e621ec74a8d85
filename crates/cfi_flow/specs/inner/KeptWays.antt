-- Ways that are kept while links are added: what is known of each node, from either side.
use Rattle.std.specs.Prelude.{◌≡◌, ◌⊎◌, ℕ, ◌++◌, List, Option, Some, length, map}
use Rattle.std.specs.List.{Contains}
use Rattle.cfi_word.specs.declared.lists.Edge.{Edge}
use Rattle.cfi_flow.specs.declared.links.Link.{Link}
use Rattle.cfi_flow.specs.Flow.{Links, flipped, AreBelow, BeginBelow}
use Rattle.cfi_flow.specs.Fans.{IsListed}
use Rattle.cfi_flow.specs.Kept.{Kept}
use Rattle.cfi_flow.specs.inner.Spread.{tag_of}
use Rattle.cfi_flow.specs.inner.Tagged.{AreTagged}
use Rattle.cfi_flow.specs.inner.Ways.{tied, ComesBack}

-- what comes along arrows, from seeds: the tags of the nodes
pub record Side : Type 0 where
  pub arrows : List Link
  pub seeds : List Link
  pub tags : List (Option ℕ)

-- what the type of a side keeps
pub record IsSide (side : Side) : Type 0 where
  pub tagged : AreTagged side.arrows side.seeds side.tags
  pub arrows : AreBelow (length side.tags) side.arrows
  pub seeds : BeginBelow (length side.tags) side.seeds

-- a side with further arrows and seeds, over so many nodes; the changes name the nodes whose tags are new
pub record IsLongerSide (old : Side) (nodes : ℕ) (arrows seeds : List Link) (new : Side) (changes : List Link)
    : Type 0 where
  pub side : IsSide new
  pub arrows_are : new.arrows ≡ old.arrows ++ arrows
  pub seeds_are : new.seeds ≡ old.seeds ++ seeds
  pub nodes_are : length new.tags ≡ nodes
  pub fresh : (node tag : ℕ) → tag_of new.tags node ≡ Some tag
      → (tag_of old.tags node ≡ Some tag) ⊎ Links changes node tag

-- the links of a list that are further ones, or begin at a node that is changed
pub record AreTouched (all further changes touched : List Link) : Type 0 where
  pub sound : (link : Link) → Contains touched link → Contains further link ⊎ Contains all link
  pub fresh : (link : Link) → Contains further link → Contains touched link
  pub changed : (link : Link) (tag : ℕ) → Contains all link → Links changes link.from tag → Contains touched link

-- ways from both sides: addresses come along arrows, and branches against them
pub record Ways : Type 0 where
  pub forth : Side
  pub back : Side

-- the edges that tie the ways
abbrev pub edges_of : Ways → List Edge
edges_of ways = tied ways.forth.arrows ways.forth.seeds ways.back.seeds ways.forth.tags ways.back.tags

-- what the type of ways keeps
pub record AreKeptWays (ways : Ways) : Type 0 where
  pub forth : IsSide ways.forth
  pub back : IsSide ways.back
  pub flipped : ways.back.arrows ≡ map flipped ways.forth.arrows
  pub same : length ways.back.tags ≡ length ways.forth.tags

-- ways with further links; the edges that are added and those before are what ties them
pub record AreLongerWays (old : Ways) (arrows sites returns : List Link) (new : Ways) (added : List Edge) : Type 0 where
  pub arrows_are : new.forth.arrows ≡ old.forth.arrows ++ arrows
  pub sites_are : new.forth.seeds ≡ old.forth.seeds ++ sites
  pub returns_are : new.back.seeds ≡ old.back.seeds ++ returns
  pub sound : (slot address : ℕ) → IsListed added slot address
      → ComesBack new.forth.arrows new.forth.seeds new.back.seeds slot address
  pub whole : (slot address : ℕ) → IsListed (edges_of new) slot address
      → IsListed (edges_of old) slot address ⊎ IsListed added slot address

-- each link of some is one of all
abbrev pub AreAmong : (all some : List Link) → Type 0
AreAmong all some = (link : Link) → Contains some link → Contains all link

-- arrows that are further ones, or begin or end at a node that is changed; all stand flipped from the other side
pub record AreTouchedArrows (forth back arrows changes touched : List Link) : Type 0 where
  pub sound : (link : Link) → Contains touched link
      → Contains arrows link ⊎ (Contains forth link ⊎ Contains back (flipped link))
  pub fresh : (link : Link) → Contains arrows link → Contains touched link
  pub begins : (link : Link) (tag : ℕ) → Contains forth link → Links changes link.from tag → Contains touched link
  pub ends : (link : Link) (tag : ℕ) → Contains back (flipped link) → Links changes link.to tag
      → Contains touched link

-- edges that tie what is touched stand behind the old ones
pub record AddsTouched (ways : Ways) (arrows sites returns changes : List Link) (old new : List Edge) : Type 0 where
  pub some_arrows : List Link
  pub some_sites : List Link
  pub some_returns : List Link
  pub by_arrows : AreTouchedArrows ways.forth.arrows ways.back.arrows arrows changes some_arrows
  pub by_sites : AreTouched ways.forth.seeds sites changes some_sites
  pub by_returns : AreTouched ways.back.seeds returns changes some_returns
  pub is : new ≡ old ++ tied some_arrows some_sites some_returns ways.forth.tags ways.back.tags

-- ways with further links; edges stand behind the old ones
pub record AddsLongerWays (old : Ways) (arrows sites returns : List Link) (new : Ways) (before after : List Edge)
    : Type 0 where
  pub added : List Edge
  pub is : after ≡ before ++ added
  pub longer : AreLongerWays old arrows sites returns new added

-- the links of both ways and those that branches list, with edges of them
abbrev pub kept_of : (nodes : ℕ) (pointing returning : Ways) (listed : List Link) (edges : List Edge) → Kept
kept_of nodes pointing returning listed edges = record {
  nodes = nodes;
  arrows = returning.forth.arrows;
  sites = returning.forth.seeds;
  returns = returning.back.seeds;
  pointers = pointing.back.seeds;
  entries = pointing.forth.seeds;
  widenings = pointing.forth.arrows;
  listed = listed;
  edges = edges;
}

-- what comes back along ways
abbrev pub ComesBackBy : Ways → (slot address : ℕ) → Type 0
ComesBackBy ways slot address = ComesBack ways.forth.arrows ways.forth.seeds ways.back.seeds slot address

-- an edge of the ways or of what branches list
abbrev pub IsOfSome : (pointing returning : Ways) (listed : List Link) → (slot address : ℕ) → Type 0
IsOfSome pointing returning listed slot address =
    Links listed slot address ⊎ (ComesBackBy pointing slot address ⊎ ComesBackBy returning slot address)

-- what the type of a kept flow keeps
pub record IsKeptFlow (nodes : ℕ) (pointing returning : Ways) (listed : List Link) (edges : List Edge) : Type 0 where
  pub points : AreKeptWays pointing
  pub returns : AreKeptWays returning
  pub point_nodes : length pointing.forth.tags ≡ nodes
  pub return_nodes : length returning.forth.tags ≡ nodes
  pub sound : (slot address : ℕ) → IsListed edges slot address → IsOfSome pointing returning listed slot address
  pub lists : (slot address : ℕ) → Links listed slot address → IsListed edges slot address
  pub ties_points : (slot address : ℕ) → IsListed (edges_of pointing) slot address → IsListed edges slot address
  pub ties_returns : (slot address : ℕ) → IsListed (edges_of returning) slot address → IsListed edges slot address
