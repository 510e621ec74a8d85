-- What is a start of an image of the first modules is a start of each image of all.
use Rattle.std.proofs.Common.{◌≡◌, ℕ, ◌+◌, ◌-◌, ◌<◌, ◌≤◌, ◌++◌, true, List, [], ◌∷◌, length, take, drop, replicate, Some, refl, ap, sym, subst, ◌∙◌, ⊎_elim, arith, length-append, append_assoc}
use Rattle.std.specs.List.{slice_get, AllByRecursion}
use Rattle.std.proofs.lemmas.Bool.{cases_lt}
use Rattle.std.proofs.lemmas.List.{take-append-drop}
use Rattle.cfi_unit.specs.declared.unit.Unit.{Unit as CodeUnit}
use Rattle.cfi_unit.specs.Spots.{place_of}
use Rattle.cfi_unit.proofs.CodeLemmas.{UnitCode-one}
use Rattle.cfi_word.specs.declared.map.TheConstants.{FIRST_BASE}
use Rattle.cfi_word.specs.declared.lists.Image.{Image}
use Rattle.cfi_aux.specs.declared.placed.Placed.{Placed}
use Rattle.cfi_model.specs.Closed.{idle, IsStartOf, IsStartIn}
use Rattle.cfi_model.proofs.ReadLemmas.{read_once}
use Rattle.cfi_verify.specs.Functions.{may_be_last}
use Rattle.cfi_modules.specs.Loaded.{AreLoaded, IsLoadedImage}
use Rattle.cfi_modules.proofs.ClosedLemmas.{all, us, trimmed, body}
use Rattle.cfi_modules.proofs.GrowthLemmas.{loaded_some}
use Rattle.cfi_modules.proofs.SpelledLemmas.{words_of_all}
use Rattle.cfi_modules.proofs.ReadLemmas.{read}
use Rattle.cfi_modules.proofs.JoinedLemmas.{HasUnits, joined, place_left, there_left, from_right}
use Rattle.cfi_modules.proofs.TrimmedLemmas.{EndsUnlinked, idle_goes_on}

-- the units of more modules begin with those of the first
joined_prefix : (xs ys : List Placed) (more : AllByRecursion HasUnits (xs ++ ys)) (part : AllByRecursion HasUnits xs)
    → (later : List CodeUnit) × (joined (xs ++ ys) more ≡ joined xs part ++ later)
joined_prefix [] ys more part = (joined ys more, refl)
joined_prefix (m ∷ xs) ys more part =
    let behind = joined_prefix xs ys more.1 part.1 in
    let own : more.0.code ≡ part.0.code = UnitCode-one m.words more.0.code part.0.code more.0.units part.0.units in (
      behind.0,
      ap (λ (us : List CodeUnit). us ++ joined (xs ++ ys) more.1) own
          ∙ ap (λ (us : List CodeUnit). part.0.code ++ us) behind.1
          ∙ sym (append_assoc part.0.code (joined xs part.1) behind.0),
    )

joined_first : (xs ys ms : List Placed) → xs ++ ys ≡ ms → (more : AllByRecursion HasUnits ms)
    (part : AllByRecursion HasUnits xs) → (later : List CodeUnit) × (joined ms more ≡ joined xs part ++ later)
joined_first xs ys ms same more part =
    subst (λ (zs : List Placed). (all : AllByRecursion HasUnits zs)
    → (later : List CodeUnit) × (joined zs all ≡ joined xs part ++ later)) same
    (λ all. joined_prefix xs ys all part) more

module _ (code_words n : ℕ) (ms : List Placed) (loaded : AreLoaded code_words ms) where
  abbrev some : List Placed
  some = take n ms

  abbrev first : AreLoaded code_words some
  first = loaded_some code_words n ms loaded

  abbrev few : List CodeUnit
  few = us code_words some first

  abbrev many : List CodeUnit
  many = us code_words ms loaded

  grown : (later : List CodeUnit) × (many ≡ few ++ later)
  grown =
      joined_first some (drop n ms) ms (take-append-drop n ms) (all code_words ms loaded) (all code_words some first)

  -- a unit after which one may be last is in the body of all
  in_body : (k last : ℕ) (unit : CodeUnit) → k ≤ last → slice_get many last ≡ Some unit → may_be_last unit ≡ true
      → k < length (body code_words ms loaded)
  in_body k last unit up there ends = ⊎_elim
      (λ (less : last < length (body code_words ms loaded)). omega (arith, less, up))
      (λ (more : length (body code_words ms loaded) ≤ last).
      let t = trimmed code_words ms loaded in
      let is = subst (λ (xs : List CodeUnit). slice_get xs last ≡ Some unit) t.same there in
      absurd (idle_goes_on t.idles (last - length t.body) unit
      (from_right t.body (replicate t.idles idle) last unit more is) ends))
      (cases_lt last (length (body code_words ms loaded)))

  stays_of : (address : ℕ) → IsStartOf (body code_words some first) address
      → IsStartOf (body code_words ms loaded) address
  stays_of address start =
      let t = trimmed code_words some first in
      let k = start.0 in
      let later = grown.0 in
      let ends : EndsUnlinked t.body = ⊎_elim
      (λ (none : t.body ≡ []).
      absurd (omega (arith, start.1, ap (λ (xs : List CodeUnit). length xs) none)))
      (λ (e : EndsUnlinked t.body). e) t.ends in
      let last = length t.body - 1 in
      let in_few : slice_get few last ≡ Some ends.0 =
      ap (λ (xs : List CodeUnit). slice_get xs last) t.same
      ∙ there_left t.body (replicate t.idles idle) last ends.0 ends.1 in
      let in_many : slice_get many last ≡ Some ends.0 =
      ap (λ (xs : List CodeUnit). slice_get xs last) grown.1 ∙ there_left few later last ends.0 in_few in
      let within = in_body k last ends.0 (omega (arith, start.1)) in_many ends.2 in
      let s = trimmed code_words ms loaded in
      let long : length few ≡ length t.body + length (replicate t.idles idle) =
      ap (λ (xs : List CodeUnit). length xs) t.same ∙ length-append t.body (replicate t.idles idle) in
      let place : place_of s.body k ≡ place_of t.body k =
      sym (ap (λ (xs : List CodeUnit). place_of xs k) s.same
      ∙ place_left s.body (replicate s.idles idle) k (omega (arith, within)))
      ∙ ap (λ (xs : List CodeUnit). place_of xs k) grown.1
      ∙ place_left few later k (omega (arith, start.1, long))
      ∙ ap (λ (xs : List CodeUnit). place_of xs k) t.same
      ∙ place_left t.body (replicate t.idles idle) k (omega (arith, start.1)) in
      (k, within, omega (arith, start.2, place))

  pub starts_stay : (live later : List Placed) (a b : Image) → IsLoadedImage code_words some live a
      → IsLoadedImage code_words ms later b → (address : ℕ) → IsStartIn a address → IsStartIn b address
  starts_stay live later a b of_a of_b address start =
      let old = read code_words some first live a of_a in
      let t = trimmed code_words some first in
      let one : start.body ≡ t.body =
      read_once a.code start.body t.body start.idles t.idles start.zeros _ start.code old in
      record {
        body = body code_words ms loaded;
        idles = (trimmed code_words ms loaded).idles;
        zeros = length (drop (FIRST_BASE + length (words_of_all ms)) b.code);
        code = read code_words ms loaded later b of_b;
        starts = stays_of address (subst (λ (xs : List CodeUnit). IsStartOf xs address) one start.starts);
      }
