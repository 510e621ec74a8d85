-- How the code of an image of modules is read: as the units of all, without the idle ones at the end.
use Rattle.std.proofs.Common.{◌≡◌, ◌≢◌, ℕ, ◌+◌, ◌-◌, ◌≤◌, ◌++◌, List, [], ◌∷◌, length, drop, replicate, get_or, Some, All, ap, sym, subst, ◌∙◌, ⊎_elim, arith, length-append}
use Rattle.std.specs.List.{flat_map, slice_get}
use Rattle.std.proofs.lemmas.Bool.{false≢true}
use Rattle.std.proofs.lemmas.List.Concat.{flat_map-append}
use Rattle.std.proofs.lemmas.List.Elements.{All-head, All-tail, All-get_or, recursion_from_All, All-from_recursion}
use Rattle.std.proofs.lemmas.Option.{slice_get-get_or, slice_get_within, get_or_from_slice_get}
use Rattle.cfi_unit.specs.declared.unit.Unit.{Unit as CodeUnit}
use Rattle.cfi_unit.specs.Unit.{IsUnit, words_of}
use Rattle.cfi_word.specs.declared.lists.Image.{Image}
use Rattle.cfi_word.specs.declared.map.TheConstants.{FIRST_BASE}
use Rattle.cfi_aux.specs.declared.placed.Placed.{Placed}
use Rattle.cfi_graph.specs.Direct.{DirectEdge}
use Rattle.cfi_model.specs.Closed.{idle, IsReadAs}
use Rattle.cfi_policy.specs.Image.{IsImage}
use Rattle.cfi_verify.specs.Functions.{may_be_last}
use Rattle.cfi_modules.specs.Loaded.{IsLoadedImage, AreLoaded}
use Rattle.cfi_modules.proofs.JoinedLemmas.{IsChain, of_module, there_left, words_joined}
use Rattle.cfi_modules.proofs.SpelledLemmas.{words_of_all, spelled}
use Rattle.cfi_modules.proofs.TrimmedLemmas.{EndsUnlinked}
use Rattle.cfi_modules.proofs.ClosedLemmas.{chain, all, us, trimmed, body, rest}

-- ---- the end of all

pub ends_all : (base slot most : ℕ) (ms : List Placed) → IsChain base slot ms → base ≤ most
    → All (λ (m : Placed). m.base + length m.words ≤ most) ms → base + length (words_of_all ms) ≤ most
ends_all base slot most [] follows low ends = omega (arith, low)
ends_all base slot most (m ∷ ms) follows low ends =
    let P : Placed → Type 0 = λ n. n.base + length n.words ≤ most in
    let first = All-head P m ms ends in
    omega (
      arith,
      length-append m.words (words_of_all ms),
      ends_all (base + length m.words) (slot + length m.branches) most ms follows.2 (omega (arith, first, follows.0))
          (All-tail P m ms ends),
    )

-- ---- the body

module _ (code_words : ℕ) (ms : List Placed) (loaded : AreLoaded code_words ms) where
  abbrev pub units : List CodeUnit
  units = body code_words ms loaded

  abbrev pub idles : ℕ
  idles = (trimmed code_words ms loaded).idles

  -- each of the body is a unit
  fits : (number : ℕ) (unit : CodeUnit) → slice_get units number ≡ Some unit → IsUnit unit
  fits number unit is =
      let joined = us code_words ms loaded in
      let there : slice_get joined number ≡ Some unit =
      ap (λ (xs : List CodeUnit). slice_get xs number) (trimmed code_words ms loaded).same
      ∙ there_left units (rest code_words ms loaded) number unit is in
      let o = of_module FIRST_BASE 0 ms (all code_words ms loaded) (chain code_words ms loaded) number unit there in
      let part = o.part.code in
      subst IsUnit (get_or_from_slice_get part o.k unit unit o.is)
      (All-get_or IsUnit part o.k unit (slice_get_within part o.k unit o.is)
      (All-from_recursion IsUnit part o.part.units.fit))

  words_are : words_of_all ms ≡ flat_map words_of units ++ flat_map words_of (replicate idles idle)
  words_are =
      sym (words_joined ms (all code_words ms loaded))
      ∙ ap (λ (xs : List CodeUnit). flat_map words_of xs) (trimmed code_words ms loaded).same
      ∙ flat_map-append words_of units (replicate idles idle)

  busy : slice_get units (length units - 1) ≢ Some idle
  busy is = ⊎_elim
      (λ (none : units ≡ []).
      absurd (omega (
        arith,
        slice_get_within units (length units - 1) idle is,
        ap (λ (xs : List CodeUnit). length xs) none,
      )))
      (λ (ends : EndsUnlinked units).
      let there : slice_get units (length units - 1) ≡ Some ends.0 = ends.1 in
      let same : idle ≡ ends.0 = cc in
      false≢true (ap may_be_last same ∙ ends.2))
      (trimmed code_words ms loaded).ends

  -- the code of each image is read as the body, the idle units and zeros
  module _ (live : List Placed) (image : Image) (of : IsLoadedImage code_words ms live image) where
    abbrev is : IsImage (DirectEdge live) ms code_words image
    is = of.1

    pub read : IsReadAs image.code units idles (length (drop (FIRST_BASE + length (words_of_all ms)) image.code))
    read =
        let zeros = length (drop (FIRST_BASE + length (words_of_all ms)) image.code) in
        let end = ends_all FIRST_BASE 0 code_words ms (chain code_words ms loaded) (omega (arith, loaded.size.least))
        loaded.ends in
        record {
          fit = recursion_from_All IsUnit units
              (λ k d within. fits k (get_or units k d) (slice_get-get_or units k d within));
          spelled = spelled image.code FIRST_BASE 0 ms (chain code_words ms loaded) is.code.placed
              (omega (arith, end, is.code.len))
              (λ word within none. is.code.free word (omega (arith, within, is.code.len)) none)
              ∙ ap (λ (ws : List ℕ). ws ++ replicate zeros 0) words_are;
          busy = busy;
        }
