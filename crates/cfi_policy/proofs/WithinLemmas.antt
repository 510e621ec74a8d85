-- Where modules end before the last of some code words, so do the addresses that their branches may go to.
use Rattle.std.proofs.Common.{◌≡◌, ℕ, ◌+◌, ◌*◌, ◌<◌, ◌≤◌, List, length, ap, arith}
use Rattle.std.specs.Prelude.{All}
use Rattle.std.specs.List.{Contains, flat_map}
use Rattle.std.proofs.lemmas.List.Elements.{All-contains}
use Rattle.cfi_unit.specs.Unit.{words_of}
use Rattle.cfi_word.specs.Table.{slots_of}
use Rattle.cfi_aux.specs.declared.placed.Placed.{Placed}
use Rattle.cfi_aux.specs.declared.placed.PlacedFunction.{PlacedFunction}
use Rattle.cfi_aux.specs.declared.records.Kind.{Kind}
use Rattle.cfi_aux.specs.declared.records.Kind.TheVariants as kinds
use Rattle.cfi_graph.specs.Code.{entry_of}
use Rattle.cfi_graph.specs.Calls.{HasKind, IsFunction}
use Rattle.cfi_graph.specs.Shaped.{IsUnitPlace, IsNamed, IsShaped}
use Rattle.cfi_graph.specs.Direct.{IsReturnTarget, GoesTo}
use Rattle.cfi_graph.specs.Reading.{HaveGraph}
use Rattle.cfi_graph.proofs.BoundLemmas.{contains_at, stands_within, inside, place_most}
use Rattle.cfi_graph.proofs.CallLemmas.{imported_function}
use Rattle.cfi_policy.specs.Image.{HaveImage}

module _ (ms : List Placed) (graph : HaveGraph ms) (code_words : ℕ)
    (ends : All (λ m. m.base + length m.words < code_words) ms) where
  is_shaped : (m : Placed) → Contains ms m → IsShaped m
  is_shaped m placed = All-contains IsShaped ms m graph.apart.shaped placed

  end_low : (m : Placed) → Contains ms m → m.base + length m.words < code_words
  end_low m placed = All-contains (λ o. o.base + length o.words < code_words) ms m ends placed

  entry_low : (n : Placed) (f : PlacedFunction) (address : ℕ) → IsFunction ms n f → address ≡ entry_of n f
      → address < 4 * code_words
  entry_low n f address is entry =
      let within = (inside n (is_shaped n is.placed) f is.function).ends in
      let low = end_low n is.placed in
      omega (arith, entry, within, low)

  return_low : (m : Placed) (at address : ℕ) → IsReturnTarget ms m at address → address < 4 * code_words
  return_low m at address r =
      let call = r.returns in
      let within = stands_within call.caller call.at call.unit call.stands in
      let low = end_low call.caller call.placed in
      omega (arith, call.after, within, low)

  switch_low : (m : Placed) → Contains ms m → (slot : ℕ) (entries : List ℕ) → HasKind m slot (kinds.Switch entries)
      → (entry address : ℕ) → Contains entries entry → address ≡ 4 * m.base + entry → address < 4 * code_words
  switch_low m placed slot entries has entry address listed is =
      let shape = is_shaped m placed in
      let named : IsNamed shape.0 (length m.types) (kinds.Switch entries) =
      All-contains (IsNamed shape.0 (length m.types)) m.branches (kinds.Switch entries) shape.1.named
      (contains_at m.branches has.0 (kinds.Switch entries) has.2) in
      let place : IsUnitPlace shape.0 entry = All-contains (IsUnitPlace shape.0) entries entry named listed in
      let most = place_most shape.0 place.0 in
      let whole : length m.words ≡ length (flat_map words_of shape.0) = ap length shape.1.units.spelled in
      let low = end_low m placed in
      omega (arith, is, place.2, most, whole, low)

  goes_low : (m : Placed) → Contains ms m → (at slot : ℕ) (kind : Kind) → HasKind m slot kind → (address : ℕ)
      → GoesTo ms m at kind address → address < 4 * code_words
  goes_low m placed at slot (kinds.Call node) has address goes = entry_low goes.owner goes.function address goes.is goes.entry
  goes_low m placed at slot (kinds.Tail node) has address goes = entry_low goes.owner goes.function address goes.is goes.entry
  goes_low m placed at slot kinds.Return has address goes = return_low m at address goes
  goes_low m placed at slot (kinds.Switch entries) has address (entry, listed, is) =
      switch_low m placed slot entries has entry address listed is
  goes_low m placed at slot (kinds.Import name cell) has address goes =
      entry_low goes.owner goes.function address (imported_function ms name goes.owner goes.function goes.is) goes.entry

  pub have_image : All (λ m. m.slot_base + length m.branches ≤ slots_of code_words) ms → HaveImage ms code_words
  have_image slots = record {
    graph = graph;
    words = λ k d within. let low = ends k d within in omega (arith, low);
    slots = slots;
    targets = λ slot address e. goes_low e.owner e.placed e.at slot e.kind e.has address e.goes;
  }
