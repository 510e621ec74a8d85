-- The functions of an instrumented module at its place fit.
use Rattle.std.proofs.Common.{◌≡◌, ℕ, zero, suc, ◌+◌, ◌*◌, ◌/◌, ◌<◌, ◌≤◌, ◌⊎◌, false, List, map, length, get_or, Some, IsTrue, refl, ap, sym, subst, ◌∙◌, inl, inr, ⊎_elim, arith}
use Rattle.std.specs.List.{slice_get}
use Rattle.std.specs.Option.{option_map}
use Rattle.std.proofs.lemmas.Bool.{cases_lt}
use Rattle.std.proofs.lemmas.List.{length-map}
use Rattle.std.proofs.lemmas.Option.{slice_get-map, slice_get-get_or, slice_get_within, get_or_from_slice_get}
use Rattle.cfi_type_table.specs.Kind.{is_callable}
use Rattle.cfi_aux.specs.Placed.{is_global}
use Rattle.cfi_aux.specs.declared.modules.Module.{Module}
use Rattle.cfi_aux.specs.declared.placed.Placed.{Placed}
use Rattle.cfi_aux.specs.declared.placed.PlacedFunction.{PlacedFunction}
use Rattle.cfi_aux.specs.declared.records.Function.{Function}
use Rattle.cfi_instr.specs.Words.{Words, read_words, count_of}
use Rattle.cfi_instr.specs.Items.{is_inner}
use Rattle.cfi_aux.specs.Extent.{byte_end, end_of}
use Rattle.cfi_instr.specs.Functions.{byte_end_before}
use Rattle.cfi_instr.specs.Sizes.{size_at, words_before, offsets_of}
use Rattle.cfi_instr.specs.Moves.{moved_function}
use Rattle.cfi_instr.proofs.SizeLemmas.{total-grows}
use Rattle.cfi_place.specs.Functions.{make_function}
use Rattle.elf_read.specs.Lists.{Each}
use Rattle.cfi_unit.specs.Spots.{spots_of, BeginsUnit}
use Rattle.cfi_verify.specs.Functions as verify
use Rattle.cfi_unit.specs.declared.spot.Spot.{Spot}
use Rattle.cfi_instr_law.proofs.SeenLemmas.{of-map, same-begins}
use Rattle.cfi_instr_law.proofs.ItemLemmas.{spots_to, item-begins, item-some, begins-in-all}
use Rattle.cfi_instr_law.proofs.BoundLemmas.{IsBound, no_function, bound-moved, IsFormed, formed-at, before-next, rest-idle, end-bound}
use Rattle.cfi_instr_law.proofs.FromLemmas.{IsFrom, words-end}
use Rattle.cfi_instr_law.proofs.IdleLemmas.{idle-from}

module _ (source : Module) (placed : Placed) (s : IsFrom source placed) where
  abbrev t : Words
  t = read_words source.object

  abbrev functions : List Function
  functions = source.records.functions

  -- where a word of the text goes
  abbrev pub place : (w : ℕ) → ℕ
  place w = words_before t s.long w

  abbrev moves : Function → Function
  moves = moved_function t (offsets_of t s.long)

  -- the placed function of one of the text
  abbrev pub made : Function → PlacedFunction
  made f = make_function (is_global s.symbols (moves f)) (moves f)

  -- the units of the placed module
  abbrev pub spots : List Spot
  spots = spots_of 0 s.laid.code

  pub grows : (v w : ℕ) → v ≤ w → place v ≤ place w
  grows v w le = total-grows (size_at t s.long) v w le

  -- a function of the placed module is made of one
  pub made-of : (k : ℕ) (g : PlacedFunction) → slice_get placed.functions k ≡ Some g
      → (f : Function) × (slice_get functions k ≡ Some f) × (g ≡ made f)
  made-of k g is =
      let makes : Function → PlacedFunction = λ h. make_function (is_global s.symbols h) h in
      let all : option_map makes (option_map moves (slice_get functions k)) ≡ Some g =
      ap (option_map makes) (sym (slice_get-map moves functions k))
      ∙ sym (slice_get-map makes (map moves functions) k)
      ∙ ap (λ (fs : List PlacedFunction). slice_get fs k) (sym s.functions)
      ∙ is in
      let outer = of-map makes (option_map moves (slice_get functions k)) g all in
      let inner = of-map moves (slice_get functions k) outer.0 outer.1 in
      (inner.0, inner.1, sym outer.2 ∙ ap makes (sym inner.2))

  pub made-at : (k : ℕ) (f : Function) → slice_get functions k ≡ Some f → slice_get placed.functions k ≡ Some (made f)
  made-at k f is =
      let makes : Function → PlacedFunction = λ h. make_function (is_global s.symbols h) h in
      ap (λ (fs : List PlacedFunction). slice_get fs k) s.functions
      ∙ slice_get-map makes (map moves functions) k
      ∙ ap (option_map makes) (slice_get-map moves functions k ∙ ap (option_map moves) is)

  count-made : length placed.functions ≡ length functions
  count-made =
      ap (λ (fs : List PlacedFunction). length fs) s.functions
      ∙ length-map (map moves functions) (λ h. make_function (is_global s.symbols h) h)
      ∙ length-map functions moves

  -- the function of the number is well formed
  pub formed : (k : ℕ) (f : Function) → slice_get functions k ≡ Some f → IsFormed t (byte_end_before functions k) f
  formed k f is = formed-at t functions s.sound.linked.shaped.functions k f is (slice_get_within functions k f is)

  -- a placed function's first word, and the word after its last
  pub made-first : (f : Function) (before : ℕ) → IsFormed t before f → (made f).first ≡ place (f.offset / 4)
  made-first f before is =
      let begins = bound-moved t s.long f.offset is.begins in omega (arith, begins)

  pub made-end : (f : Function) (before : ℕ) → IsFormed t before f → end_of (made f) ≡ place (byte_end f / 4)
  made-end f before is =
      let begins = bound-moved t s.long f.offset is.begins in
      let ends = bound-moved t s.long (byte_end f) is.ends in
      let order : f.offset / 4 ≤ byte_end f / 4 = omega arith in
      omega (arith, begins, ends, grows (f.offset / 4) (byte_end f / 4) order)

  -- where the function before one ends
  made-before : (k : ℕ) → k ≤ length functions
      → verify.end_before placed.functions k ≡ place (byte_end_before functions k / 4)
  made-before zero within = refl
  made-before (suc k) within =
      let inside : k < length functions = omega (arith, within) in
      let f = get_or functions k no_function in
      let is : slice_get functions k ≡ Some f = slice_get-get_or functions k no_function inside in
      let before = before-next t functions s.sound.linked.shaped.functions k no_function inside in
      ap verify.end_in (made-at k f is)
      ∙ made-end f (byte_end_before functions k) (formed k f is)
      ∙ ap (λ (n : ℕ). place (n / 4)) (sym before)

  -- a unit begins where an item goes
  pub begins-at : (w : ℕ) → w < count_of t → is_inner t w ≡ false → BeginsUnit spots (place w)
  begins-at w inside outer =
      let symbols = source.object.symbols in
      let offsets = offsets_of t s.long in
      same-begins s.touched (spots_to t symbols s.long offsets (count_of t)) spots (sym s.laid.looks) (place w)
      (begins-in-all t symbols s.long offsets (count_of t) w (place w) inside
      (item-begins t symbols s.long offsets w outer (s.sound.linked.shaped.words.legal w inside)))

  -- an item has words
  pub some-at : (w : ℕ) → w < count_of t → is_inner t w ≡ false → place w < place (w + 1)
  some-at w inside outer =
      item-some t source.object.symbols s.long (offsets_of t s.long) w outer
      (s.sound.linked.shaped.words.legal w inside)

  -- a unit begins at a bound, or the words end there
  ends-at : (offset : ℕ) → IsBound t offset
      → (place (offset / 4) ≡ length placed.words) ⊎ BeginsUnit spots (place (offset / 4))
  ends-at offset b =
      ⊎_elim
      (λ (less : offset / 4 < count_of t). inr (begins-at (offset / 4) less b.outer))
      (λ (more : count_of t ≤ offset / 4).
      let last : offset / 4 ≡ count_of t = omega (arith, more, b.within) in
      inl (ap place last ∙ sym (words-end source placed s)))
      (cases_lt (offset / 4) (count_of t))

  -- the next function begins no sooner than the padding before it ends
  next-begins : (k : ℕ) (f : Function) → slice_get functions k ≡ Some f → (d : Function)
      → f.offset ≤ (get_or functions k d).offset
  next-begins k f is d = omega (arith, ap (λ (g : Function). g.offset) (get_or_from_slice_get functions k f d is))

  pub fits : Each placed.functions (verify.FitsBehind placed spots)
  fits k g at =
      let from = made-of k g at in
      let f = from.0 in
      let within : k < length functions = slice_get_within functions k f from.1 in
      let is = formed k f from.1 in
      let before = byte_end_before functions k in
      let first : g.first ≡ place (f.offset / 4) =
      ap (λ (x : PlacedFunction). x.first) from.2 ∙ made-first f before is in
      let end : end_of g ≡ place (byte_end f / 4) = ap end_of from.2 ∙ made-end f before is in
      let start : verify.end_before placed.functions k ≡ place (before / 4) = made-before k (omega (arith, within)) in
      let longer : f.offset / 4 + 1 ≤ byte_end f / 4 = omega (arith, is.some, is.begins.whole, is.ends.whole) in
      record {
        some = omega (
          arith,
          some-at (f.offset / 4) is.inside is.begins.outer,
          grows (f.offset / 4 + 1) (byte_end f / 4) longer,
          first,
          end,
        );
        order = omega (arith, start, first, grows (before / 4) (f.offset / 4) (omega (arith, is.order)));
        within = omega (
          arith,
          end,
          grows (byte_end f / 4) (count_of t) is.ends.within,
          words-end source placed s,
        );
        begins = subst (BeginsUnit spots) (sym first) (begins-at (f.offset / 4) is.inside is.begins.outer);
        ends =
            subst (λ (n : ℕ). (n ≡ length placed.words) ⊎ BeginsUnit spots n) (sym end) (ends-at (byte_end f) is.ends);
        typed =
            subst (λ (n : ℕ). IsTrue (is_callable placed.types n))
            (ap (λ (x : Function). x.ty) (get_or_from_slice_get functions k f f from.1)
            ∙ sym (ap (λ (x : PlacedFunction). x.ty) from.2))
            (s.func_types k f within);
        idle =
            subst (λ (n : ℕ). verify.IsIdle spots n g.first) (sym start)
            (subst (λ (n : ℕ). verify.IsIdle spots (place (before / 4)) n) (sym first)
            (idle-from source placed s k f.offset (omega (arith, within)) is.begins is.idle
            (λ d inside. next-begins k f from.1 d)));
      }

  pub idle : verify.IsIdleBehind placed spots
  idle =
      let n : ℕ = length functions in
      let last : 4 * count_of t / 4 ≡ count_of t = omega arith in
      let behind = idle-from source placed s n (4 * count_of t) (omega arith) (end-bound t)
      (rest-idle t functions s.sound.linked.shaped.functions) (λ d inside. absurd (omega (arith, inside))) in
      subst (λ (from : ℕ). verify.IsIdle spots from (length placed.words))
      (sym (ap (verify.end_before placed.functions) count-made ∙ made-before n (omega arith)))
      (subst (λ (to : ℕ). verify.IsIdle spots (place (byte_end_before functions n / 4)) to)
      (ap place last ∙ sym (words-end source placed s)) behind)
