-- Modules that were loaded one after the other have an image, and each image of them is closed.
use Rattle.std.proofs.Common.{◌≡◌, ◌≢◌, ℕ, ◌+◌, ◌*◌, ◌<◌, ◌≤◌, List, length, take, drop, get_or, slice_index, All, refl, sym, subst, ◌∙◌, ⊎_elim, arith}
use Rattle.std.specs.List.{Contains}
use Rattle.std.proofs.lemmas.Bool.{cases_lt}
use Rattle.std.proofs.lemmas.List.{get_or_past, take-append-drop}
use Rattle.std.proofs.lemmas.List.Elements.{recursion_from_All, Contains-get_or, Contains-append_left}
use Rattle.std.proofs.lemmas.Option.{slice_get-get_or, slice_get_within}
use Rattle.cfi_unit.specs.Unit.{size_of}
use Rattle.cfi_unit.specs.Spots.{place_of, BeginsUnit}
use Rattle.cfi_word.specs.declared.lists.Image.{Image}
use Rattle.cfi_word.specs.declared.ids.TheConstants.{FIELD_MAX}
use Rattle.cfi_word.specs.declared.map.TheConstants.{FIRST_BASE}
use Rattle.cfi_word.specs.Table.{slots_of}
use Rattle.cfi_aux.specs.declared.placed.Placed.{Placed}
use Rattle.cfi_aux.specs.declared.placed.PlacedFunction.{PlacedFunction}
use Rattle.cfi_aux.specs.declared.records.Kind.TheVariants.{Switch}
use Rattle.cfi_class.specs.Labels.{IsClass, IsClassWhere, IsReached, AreLabels}
use Rattle.cfi_graph.specs.Code.{entry_of}
use Rattle.cfi_graph.specs.Calls.{HasKind, IsFunction, ReturnsTo}
use Rattle.cfi_graph.specs.Direct.{DirectEdge}
use Rattle.cfi_graph.specs.Reading.{HaveGraph}
use Rattle.cfi_graph.proofs.BoundLemmas.{contains_at}
use Rattle.cfi_model.specs.Closed.{IsStartOf, IsStartIn, HasClasses, IsClosed}
use Rattle.cfi_policy.specs.Image.{IsImage, HaveImage}
use Rattle.cfi_modules.specs.Entry.{HasAddresses, IsEntryIn}
use Rattle.cfi_modules.specs.Loaded.{AreAmong, IsLoadedImage, AreLoaded, HasStarts}
use Rattle.cfi_modules.proofs.LiveLemmas.{all_among}
use Rattle.cfi_modules.proofs.SeriesLemmas.{branch_words}
use Rattle.cfi_modules.proofs.EndLemmas.{spot_of, has as spot_there, begins_within}
use Rattle.cfi_modules.proofs.BusyLemmas.{entry_busy}
use Rattle.cfi_modules.proofs.JoinedLemmas.{few_slots}
use Rattle.cfi_modules.proofs.SpelledLemmas.{words_of_all}
use Rattle.cfi_modules.proofs.TargetLemmas.{returns_busy, switch_busy}
use Rattle.cfi_modules.proofs.ReadLemmas.{units, idles, read}
use Rattle.cfi_modules.proofs.ClosedLemmas.{here, verified, code, chain, start_at, stays, BeginsIn, edge_begins, edge_start}

-- ---- classes

-- a class number, or the one where there is none, is low
class_most : (Holds : Type 0) (other number : ℕ) → other ≤ FIELD_MAX → IsClassWhere Holds other number
    → number ≤ FIELD_MAX
class_most Holds other number low is = ⊎_elim
    (λ (a : Holds × IsClass number). omega (arith, a.1.most))
    (λ (b : (Holds → ⊥) × (number ≡ other)). omega (arith, b.1, low)) is

class_least : (Holds : Type 0) (number : ℕ) → IsClassWhere Holds FIELD_MAX number → number ≢ 0
class_least Holds number is none = ⊎_elim
    (λ (a : Holds × IsClass number). omega (arith, a.1.least, none))
    (λ (b : (Holds → ⊥) × (number ≡ FIELD_MAX)). omega (arith, b.1, none)) is

-- where a target has a class, some branch may go there
class_used : (Holds : Type 0) (number : ℕ) → IsClassWhere Holds 0 number → number ≢ 0 → Holds
class_used Holds number is some = ⊎_elim (λ (a : Holds × IsClass number). a.0)
    (λ (b : (Holds → ⊥) × (number ≡ 0)). absurd (some b.1)) is

module _ (joins : (slot address : ℕ) → Type 0) (code_words : ℕ) (image : Image)
    (labels : AreLabels joins code_words image.tary image.bary) where
  tary_most : (k : ℕ) → slice_index image.tary k ≤ FIELD_MAX
  tary_most k = ⊎_elim
      (λ (less : k < code_words).
      class_most (IsReached joins (4 * k)) 0 (slice_index image.tary k) (omega arith) (labels.targets k less))
      (λ (more : code_words ≤ k). omega (arith, get_or_past image.tary k 0 (omega (arith, more, labels.words))))
      (cases_lt k code_words)

  bary_most : (slot : ℕ) → slice_index image.bary slot ≤ FIELD_MAX
  bary_most slot = ⊎_elim
      (λ (less : slot < slots_of code_words).
      class_most _ FIELD_MAX (slice_index image.bary slot) (omega arith) (labels.branches slot less))
      (λ (more : slots_of code_words ≤ slot).
      omega (arith, get_or_past image.bary slot 0 (omega (arith, more, labels.slots))))
      (cases_lt slot (slots_of code_words))

  classes : (n : ℕ) → length image.code ≡ n → n ≡ code_words → HasClasses code_words image
  classes n long same = record {
    tary_length = labels.words;
    bary_length = labels.slots;
    code_length = long ∙ same;
    tary_most = tary_most;
    bary_most = bary_most;
    bary_least = λ slot within. class_least _ (slice_index image.bary slot) (labels.branches slot within);
  }

  reached : (k : ℕ) → slice_index image.tary k ≢ 0 → IsReached joins (4 * k)
  reached k some = ⊎_elim
      (λ (less : k < code_words).
      class_used (IsReached joins (4 * k)) (slice_index image.tary k) (labels.targets k less) some)
      (λ (more : code_words ≤ k).
      absurd (some (get_or_past image.tary k 0 (omega (arith, more, labels.words)))))
      (cases_lt k code_words)

module _ (code_words : ℕ) (ms : List Placed) (loaded : AreLoaded code_words ms) where
  pub slots_within : (m : Placed) → Contains ms m → m.slot_base + length m.branches ≤ slots_of code_words
  slots_within m has =
      let wide = recursion_from_All (λ (n : Placed). 14 * length n.branches ≤ length n.words) ms
      (λ k d within.
      let v = loaded.verified k (get_or ms k d) (slice_get-get_or ms k d within) in
      branch_words (get_or ms k d) v.0 v.2) in
      let end : m.base + length m.words ≤ code_words =
      subst (λ (n : Placed). n.base + length n.words ≤ code_words) has.2 (loaded.ends has.0 m has.1) in
      omega (
        arith,
        few_slots FIRST_BASE 0 ms (chain code_words ms loaded) wide has.0 m (here code_words ms loaded m has),
        end,
      )

  -- what begins a unit of a function is in the code
  word_within : (live : List Placed) (among : AreAmong live ms) (address : ℕ)
      → BeginsIn code_words ms loaded live among address → address < 4 * code_words
  word_within live among address b =
      let m = b.owner in
      let v = verified code_words ms loaded m b.there in
      let us = code code_words ms loaded m b.there in
      let k = b.busy.0 in
      let last = b.busy.2 in
      let u = last.unit in
      let within : k < length us = omega (arith, last.up, slice_get_within us last.last u last.is) in
      let begins : BeginsUnit v.2.0 b.at =
      (spot_of (place_of us k) (get_or us k u), spot_there m v.0 v.2.0 v.2.1 k u within, sym b.busy.1) in
      let end : m.base + length m.words ≤ code_words =
      subst (λ (n : Placed). n.base + length n.words ≤ code_words) b.there.2 (loaded.ends b.there.0 m b.there.1) in
      omega (arith, b.is, begins_within m v.0 v.2.0 v.2.1 b.at begins, end)

  -- those that are live have an image
  pub live_image : (live : List Placed) → AreAmong live ms → HaveGraph live → HaveImage live code_words
  live_image live among graph = record {
    graph = graph;
    words = all_among (λ (m : Placed). m.base + length m.words ≤ code_words) ms live among loaded.ends;
    slots = all_among (λ (m : Placed). m.slot_base + length m.branches ≤ slots_of code_words) ms live among
        (λ k d within. slots_within (get_or ms k d) (Contains-get_or ms k d within));
    targets = λ slot address edge.
        word_within live among address (edge_begins code_words ms loaded live among slot address edge);
  }

  pub have_image : HaveGraph ms → HaveImage ms code_words
  have_image graph = live_image ms (λ k d within. Contains-get_or ms k d within) graph

  -- a function's address is one of the code
  pub addresses : All HasAddresses ms
  addresses = λ k d within.
      let m = get_or ms k d in
      let is = slice_get-get_or ms k d within in
      let v = loaded.verified k m is in
      λ j e inside.
      let f = get_or m.functions j e in
      let fits = v.2.1.laid.functions j f (slice_get-get_or m.functions j e inside) in
      omega (arith, fits.some, fits.within, loaded.ends k d within, loaded.size.most)

  -- each image, with the labels of some of the modules and the code of all, is closed
  module _ (live : List Placed) (image : Image) (of : IsLoadedImage code_words ms live image) where
    abbrev is : IsImage (DirectEdge live) ms code_words image
    is = of.1

    pub closed : IsClosed code_words image
    closed = (
      units code_words ms loaded,
      record {
        classes = classes (DirectEdge live) code_words image is.labels code_words is.code.len refl;
        idles = idles code_words ms loaded;
        zeros = length (drop (FIRST_BASE + length (words_of_all ms)) image.code);
        code = read code_words ms loaded live image of;
        inside = stays code_words ms loaded (length image.bary)
            (λ m has. omega (arith, slots_within m has, is.labels.slots));
        targets = λ k some.
            let r = reached (DirectEdge live) code_words image is.labels k some in
            edge_start code_words ms loaded live of.0 r.0 (4 * k) r.1;
      },
    )

    -- ---- its starts

    start : (address : ℕ) → IsStartOf (units code_words ms loaded) address → IsStartIn image address
    start address starts = record {
      body = units code_words ms loaded;
      idles = idles code_words ms loaded;
      zeros = length (drop (FIRST_BASE + length (words_of_all ms)) image.code);
      code = read code_words ms loaded live image of;
      starts = starts;
    }

    pub function_start : (m : Placed) (f : PlacedFunction) → IsFunction ms m f → IsStartIn image (entry_of m f)
    function_start m f is_in =
        let v = verified code_words ms loaded m is_in.placed in
        start (entry_of m f)
        (start_at code_words ms loaded m is_in.placed f.first (entry_busy m v.0 v.2.0 v.2.1 f is_in.function))

    pub switch_start : (m : Placed) (slot entry : ℕ) (entries : List ℕ) → Contains ms m
        → HasKind m slot (Switch entries) → Contains entries entry → IsStartIn image (4 * m.base + entry)
    switch_start m slot entry entries has kind there =
        let v = verified code_words ms loaded m has in
        let e = switch_busy m v.0 v.2.0 v.2.1 slot entry entries kind there in
        let same : 4 * (m.base + e.0) ≡ 4 * m.base + entry = omega (arith, e.1) in
        subst (IsStartIn image) same
        (start (4 * (m.base + e.0)) (start_at code_words ms loaded m has e.0 e.2))

    pub return_start : (n : Placed) (f : PlacedFunction) (address : ℕ) → ReturnsTo ms n f address
        → IsStartIn image address
    return_start n f address call =
        let v = verified code_words ms loaded call.caller call.placed in
        let b = returns_busy call.caller v.0 v.2.0 v.2.1 call.at call.unit n f call.stands call.call in
        subst (IsStartIn image) (sym call.after)
        (start _ (start_at code_words ms loaded call.caller call.placed (call.at + size_of call.unit) b))

    pub edge_start_in : (slot address : ℕ) → DirectEdge live slot address → IsStartIn image address
    edge_start_in slot address edge =
        start address (edge_start code_words ms loaded live of.0 slot address edge)

    pub starts : HasStarts ms live image
    starts = record {
      functions = function_start;
      switches = switch_start;
      returns = return_start;
      edges = edge_start_in;
    }

    pub entry_start : (n : ℕ) (name : List ℕ) (address : ℕ) → IsEntryIn (take n ms) name address
        → IsStartIn image address
    entry_start n name address entry =
        let m = entry.owner in
        let first = entry.entry in
        let f = first.function in
        let has = contains_at (take n ms) entry.number m entry.is in
        let in_all = subst (λ (xs : List Placed). Contains xs m) (take-append-drop n ms)
        (Contains-append_left (take n ms) (drop n ms) m has) in
        subst (IsStartIn image) (sym first.here)
        (function_start m f (record { placed = in_all; function = contains_at m.functions first.number f first.is }))
