-- What holds of modules holds of the live ones of them.
use Rattle.std.proofs.Common.{◌≡◌, suc, ◌+◌, ◌≤◌, Bool, true, false, List, [], ◌∷◌, length, All, AllPairs, arith, length-append}
use Rattle.std.specs.List.{flat_map}
use Rattle.std.proofs.lemmas.List.Elements.{All-cons, All-head, All-tail}
use Rattle.std.proofs.lemmas.List.Kept.{AllPairs-cons}
use Rattle.cfi_aux.specs.declared.placed.Placed.{Placed}
use Rattle.cfi_type_table.specs.Spelling.{AreTypes}
use Rattle.cfi_graph.specs.Live.{live_of}
use Rattle.cfi_graph.specs.Shaped.{IsShaped, IsBefore, AreApart}
use Rattle.cfi_graph.specs.Reading.{HaveGraph, tables_of, type_count}
use Rattle.cfi_graph.proofs.HandMadeLemmas.{all_none, pairs_none}

all_live : (P : Placed → Type 0) (ms : List Placed) (live : List Bool) → All P ms → All P (live_of ms live)
all_live P [] live all = all
all_live P (m ∷ ms) [] all = all_none P
all_live P (m ∷ ms) (true ∷ live) all =
    All-cons P m (live_of ms live) (All-head P m ms all) (all_live P ms live (All-tail P m ms all))
all_live P (m ∷ ms) (false ∷ live) all = all_live P ms live (All-tail P m ms all)

pairs_live : (R : Placed → Placed → Type 0) (ms : List Placed) (live : List Bool) → AllPairs R ms
    → AllPairs R (live_of ms live)
pairs_live R [] live pairs = pairs
pairs_live R (m ∷ ms) [] pairs = pairs_none R
pairs_live R (m ∷ ms) (true ∷ live) pairs =
    let head : All (R m) ms = λ k d within. pairs 0 (suc k) d (omega arith) (omega (arith, within)) in
    let rest : AllPairs R ms =
    λ i j d less within. pairs (suc i) (suc j) d (omega (arith, less)) (omega (arith, within)) in
    AllPairs-cons R m (live_of ms live) (all_live (R m) ms live head) (pairs_live R ms live rest)
pairs_live R (m ∷ ms) (false ∷ live) pairs =
    pairs_live R ms live (λ i j d less within. pairs (suc i) (suc j) d (omega (arith, less)) (omega (arith, within)))

pub live_apart : (ms : List Placed) (live : List Bool) → AreApart ms → AreApart (live_of ms live)
live_apart ms live apart = record {
  shaped = all_live IsShaped ms live apart.shaped;
  order = pairs_live IsBefore ms live apart.order;
}

-- there are no more of them, and they have no more types

live_few : (ms : List Placed) (live : List Bool) → length (live_of ms live) ≤ length ms
live_few [] live = omega arith
live_few (m ∷ ms) [] = omega arith
live_few (m ∷ ms) (true ∷ live) = omega (arith, live_few ms live)
live_few (m ∷ ms) (false ∷ live) = omega (arith, live_few ms live)

type_count-cons : (m : Placed) (ms : List Placed) → type_count (m ∷ ms) ≡ length m.types + type_count ms
type_count-cons m ms = length-append m.types (flat_map (λ types. types) (tables_of ms))

live_types : (ms : List Placed) (live : List Bool) → type_count (live_of ms live) ≤ type_count ms
live_types [] live = omega arith
live_types (m ∷ ms) [] = omega arith
live_types (m ∷ ms) (true ∷ live) =
    omega (arith, live_types ms live, type_count-cons m ms, type_count-cons m (live_of ms live))
live_types (m ∷ ms) (false ∷ live) = omega (arith, live_types ms live, type_count-cons m ms)

pub live_graph : (ms : List Placed) (live : List Bool) → HaveGraph ms → HaveGraph (live_of ms live)
live_graph ms live graph = record {
  apart = live_apart ms live graph.apart;
  types = all_live (λ m. AreTypes m.types) ms live graph.types;
  few = omega (arith, live_few ms live, graph.few);
  nodes = omega (arith, live_types ms live, graph.nodes);
}
