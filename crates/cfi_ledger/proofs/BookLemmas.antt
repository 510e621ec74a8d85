-- The book of the live modules of a series, with the code of all, and of these without the last one.
use Rattle.std.proofs.Common.{◌≡◌, ◌∙◌, ℕ, ◌+◌, ◌-◌, ◌<◌, Bool, true, List, [], ◌∷◌, ◌++◌, length, take, get_or, Result, Ok, Err, refl, sym, ap, subst, IfOk, arith, length-append}
use Rattle.std.proofs.lemmas.List.{get_or_default, length-take-le, take_all, take_more}
use Rattle.std.proofs.lemmas.Option.{get_or_from_slice_get}
use Rattle.cfi_aux.specs.declared.placed.Placed.{Placed}
use Rattle.cfi_class.specs.Labels.{AreLabels}
use Rattle.cfi_graph.specs.Direct.{DirectEdge}
use Rattle.cfi_graph.specs.Live.{live_of}
use Rattle.cfi_policy.specs.Book.{KeptImage, StandsFor}
use Rattle.cfi_policy.specs.Code.{IsCodeOf}
use Rattle.cfi_policy.specs.Image.{HaveImage}
use Rattle.cfi_modules.specs.Series.{Series, live_in, without_last, EndsLive}
use Rattle.cfi_modules.proofs.LiveLemmas.{live_more}
use Rattle.cfi_ledger.specs.Roster.{IsBookOfSeries}
use Rattle.cfi_ledger.proofs.JoinedLemmas.{init_of}

-- what is said of a success in three clauses
pub if_ok_three : {T E : Type 0} (r : Result T E) (P Q R S : T → Type 0) → ((x : T) → P x → Q x → R x → S x)
    → IfOk r P → IfOk r Q → IfOk r R → IfOk r S
if_ok_three (Ok x) P Q R S then p q s = then x p q s
if_ok_three (Err e) P Q R S then p q s = p

-- an image can be made of the same modules in as many code words
pub image_there : (ms all : List Placed) (words code_words : ℕ) → ms ≡ all → words ≡ code_words
    → HaveImage all code_words → HaveImage ms words
image_there ms all words code_words is size image =
    subst (λ xs. HaveImage xs words) (sym is) (subst (HaveImage all) (sym size) image)

-- class numbers of the live ones, and the code of all, are those of the series' book
pub book_is : (series : Series) (live : List Placed) (words : ℕ) (book : KeptImage) → live ≡ live_in series
    → words ≡ series.code_words → StandsFor live book
    → AreLabels (DirectEdge live) words book.image.tary book.image.bary
    → IsCodeOf series.placed series.code_words book.image.code → IsBookOfSeries series book
book_is series live words book is size stands labels code = record {
  stands = subst (λ xs. StandsFor xs book) is stands;
  image = record {
    labels = subst (λ n. AreLabels (DirectEdge (live_in series)) n book.image.tary book.image.bary) size
        (subst (λ xs. AreLabels (DirectEdge xs) words book.image.tary book.image.bary) is labels);
    code = code;
  };
}

-- ---- the last module, which is live

-- items are those before the last, and the last
pub split_last : {X : Type 0} (xs : List X) (x : X) (n : ℕ) → 0 < length xs → n ≡ length xs - 1 → x ≡ get_or xs n x
    → take n xs ++ x ∷ [] ≡ xs
split_last xs x n some last is =
    ap (λ y. take n xs ++ y ∷ []) is
    ∙ sym (take_more xs n x (omega (arith, some, last)))
    ∙ take_all (n + 1) xs (omega (arith, some, last))

module _ (series : Series) (many : length series.flags ≡ length series.placed) (ends : EndsLive series) where
  module _ (m : Placed) (is : m ≡ get_or series.placed (length series.flags - 1) m) where
    -- all are those before it, and it
    pub placed_split : (without_last series).placed ++ m ∷ [] ≡ series.placed
    placed_split =
        ap (λ k. take k series.placed ++ m ∷ []) (omega (arith, many))
        ∙ split_last series.placed m (length series.flags - 1) ends.some (omega (arith, many)) is

    flags_split : (without_last series).flags ++ true ∷ [] ≡ series.flags
    flags_split =
        split_last series.flags true (length series.flags - 1) (omega (arith, ends.some, many)) (omega arith)
        (sym (get_or_from_slice_get series.flags (length series.flags - 1) true true ends.last))

    -- and so it is with the live ones
    pub live_split : live_in series ≡ live_in (without_last series) ++ m ∷ []
    live_split =
        let ps = (without_last series).placed in
        let bs = (without_last series).flags in
        let many_before : length bs ≡ length ps = omega (
          arith,
          many,
          length-take-le (length series.flags - 1) series.flags (omega arith),
          length-take-le (length series.placed - 1) series.placed (omega arith),
        ) in
        ap (λ xs. live_of xs series.flags) (sym placed_split)
        ∙ ap (live_of (ps ++ m ∷ [])) (sym flags_split)
        ∙ live_more ps bs m many_before

  -- so there is one
  pub some_live : 0 < length (live_in series)
  some_live = by series.placed refl
    where
      by : (ms : List Placed) → ms ≡ series.placed → 0 < length (live_in series)
      by [] same = absurd (omega (arith, ends.some, ap (λ (xs : List Placed). length xs) same))
      by (p ∷ ms) same =
          let n : ℕ = length series.flags - 1 in
          let m : Placed = get_or series.placed n p in
          let is = get_or_default series.placed n p m (omega (arith, many, ends.some)) in
          omega (
            arith,
            ap (λ (xs : List Placed). length xs) (live_split m is),
            length-append (live_in (without_last series)) (m ∷ []),
          )

-- the same, where the modules, their flags and the live ones are lent
module _ (series : Series) (ends : EndsLive series) (live ms : List Placed) (flags : List Bool)
    (live_is : live ≡ live_in series) (flags_are : flags ≡ series.flags) (many : length flags ≡ length series.placed)
    (ms_are : ms ≡ series.placed) (m : Placed) (is : m ≡ get_or ms (length flags - 1) m) where
  its_many : length series.flags ≡ length series.placed
  its_many = ap (λ (bs : List Bool). length bs) (sym flags_are) ∙ many

  it_is : m ≡ get_or series.placed (length series.flags - 1) m
  it_is =
      is ∙ ap (λ (bs : List Bool). get_or ms (length bs - 1) m) flags_are
      ∙ ap (λ (xs : List Placed). get_or xs (length series.flags - 1) m) ms_are

  pub first_live : take (length live - 1) live ≡ live_in (without_last series)
  first_live =
      ap (λ (xs : List Placed). take (length xs - 1) xs) (live_is ∙ live_split series its_many ends m it_is)
      ∙ init_of (live_in (without_last series)) m

  pub all_of_live : take (length live - 1) live ++ m ∷ [] ≡ live_in series
  all_of_live =
      ap (λ (xs : List Placed). xs ++ m ∷ []) first_live ∙ sym (live_split series its_many ends m it_is)

  pub all_of_modules : (without_last series).placed ++ m ∷ [] ≡ series.placed
  all_of_modules = placed_split series its_many ends m it_is
