-- The first modules of a series, and where its data lies.
use Rattle.std.proofs.Common.{◌≡◌, ℕ, ◌≤◌, List, length, take, drop, get_or, min, Some, All, ap, sym, subst, ◌∙◌, arith}
use Rattle.std.specs.List.{slice_get}
use Rattle.std.proofs.lemmas.List.{take-append-le, take-append-drop, length-take}
use Rattle.std.proofs.lemmas.List.Elements.{All-map}
use Rattle.std.proofs.lemmas.Option.{slice_get-get_or, slice_get_within, get_or_from_slice_get}
use Rattle.cfi_aux.specs.declared.placed.Placed.{Placed}
use Rattle.cfi_aux.specs.Sound.{IsSoundModule}
use Rattle.cfi_model.specs.Data.{LiesInData}
use Rattle.cfi_modules.specs.Fills.{fill_of, fills_of}
use Rattle.cfi_modules.specs.Order.{names_of}
use Rattle.cfi_modules.specs.Room.{room_after}
use Rattle.cfi_modules.specs.Series.{JoinsSome, IsSeries}
use Rattle.cfi_modules.proofs.JoinedLemmas.{there_left}
use Rattle.cfi_modules.proofs.PlacedLemmas.{fits}
use Rattle.cfi_modules.proofs.SeriesLemmas.{member, room_at}

-- what is there in the first of a list is there in all
pub get_in : {X : Type 0} (n : ℕ) (xs : List X) (k : ℕ) (x : X) → slice_get (take n xs) k ≡ Some x
    → slice_get xs k ≡ Some x
get_in {X} n xs k x is =
    ap (λ (ys : List X). slice_get ys k) (sym (take-append-drop n xs)) ∙ there_left (take n xs) (drop n xs) k x is

-- what comes before it is the same
pub take_in : {X : Type 0} (n : ℕ) (xs : List X) (k : ℕ) → k ≤ length (take n xs) → take k (take n xs) ≡ take k xs
take_in {X} n xs k within =
    sym (take-append-le k (take n xs) (drop n xs) within) ∙ ap (λ (ys : List X). take k ys) (take-append-drop n xs)

module _ (code_words : ℕ) (placed : List Placed) (series : IsSeries code_words placed) where
  pub prefix : (n : ℕ) → IsSeries code_words (take n placed)
  prefix n = record {
    size = series.size;
    modules = take n series.modules;
    sound = λ k d within.
        let m = get_or (take n series.modules) k d in
        let is = get_in n series.modules k m (slice_get-get_or (take n series.modules) k d within) in
        subst IsSoundModule (get_or_from_slice_get series.modules k m d is)
        (series.sound k d (slice_get_within series.modules k m is));
    count = length-take n placed ∙ ap (min n) series.count ∙ sym (length-take n series.modules);
    joined = λ k m p is there.
        let within = slice_get_within (take n placed) k p there in
        subst (λ (before : List Placed). JoinsSome code_words before m p)
        (sym (take_in n placed k (omega (arith, within))))
        (series.joined k m p (get_in n series.modules k m is) (get_in n placed k p there));
  }

  data_inside : (k : ℕ) (p : Placed) → slice_get placed k ≡ Some p → LiesInData (fill_of p)
  data_inside k p is =
      let within = slice_get_within placed k p is in
      let j = member code_words placed series k p is in
      let room = room_at code_words placed series k (omega (arith, within)) in
      let f = fits j.0 (room_after code_words (take k placed)) (names_of j.2.0) p j.1.object_sound.relocs
      j.2.2.behind in
      record {
        first = omega (arith, room.low, j.2.2.behind.data_base);
        last = omega (arith, room.low, j.2.2.behind.data_base, f.ends);
      }

  pub each_lies : All (λ (p : Placed). LiesInData (fill_of p)) placed
  each_lies = λ k d within. data_inside k (get_or placed k d) (slice_get-get_or placed k d within)

  pub data_lies : All LiesInData (fills_of placed)
  data_lies = All-map LiesInData fill_of placed each_lies
