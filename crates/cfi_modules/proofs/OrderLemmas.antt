-- One module more in a series, and that a module joins in one way or is refused.
use Rattle.std.proofs.Common.{◌≡◌, ◌≢◌, ℕ, ◌<◌, ◌≤◌, ◌++◌, List, [], ◌∷◌, length, take, get_or, Some, All, Err, refl, ap, sym, subst, ◌∙◌, ⊎_elim, arith, length-append}
use Rattle.std.specs.List.{slice_get}
use Rattle.std.proofs.Math.Seq.{take-length, get_or-append_seam}
use Rattle.std.proofs.Math.ListN.{get_or-append}
use Rattle.std.proofs.lemmas.Bool.{cases_lt}
use Rattle.std.proofs.lemmas.List.{take-append-le}
use Rattle.std.proofs.lemmas.List.Elements.{All-nil, All-cons, All-append, Contains-get_or}
use Rattle.std.proofs.lemmas.Option.{slice_get-get_or, slice_get_within, get_or_from_slice_get}
use Rattle.cfi_aux.specs.declared.modules.Module.{Module}
use Rattle.cfi_aux.specs.declared.placed.Placed.{Placed}
use Rattle.cfi_aux.specs.Sound.{IsSoundModule}
use Rattle.cfi_place.specs.declared.fault.PlaceFault.{PlaceFault}
use Rattle.cfi_verify.specs.declared.fault.VerifyFault.{VerifyFault}
use Rattle.cfi_verify.specs.Fault.{FaultStands, IsFirstFault}
use Rattle.cfi_verify.proofs.UniqueLemmas.{one_fault as one_first_fault}
use Rattle.cfi_verify.proofs.RowLemmas.{no_fault}
use Rattle.cfi_modules.specs.declared.fault.JoinFault.{JoinFault}
use Rattle.cfi_modules.specs.declared.fault.JoinFault.TheVariants.{Place, Verify, Memory}
use Rattle.cfi_modules.specs.Room.{room_after}
use Rattle.cfi_word.specs.Table.{IsSize}
use Rattle.cfi_modules.specs.Loaded.{AreAmong}
use Rattle.cfi_modules.specs.Order.{names_of, Joins, AreInOrder, IsJoinFault}
use Rattle.cfi_modules.specs.Series.{JoinsSome, IsSeries}
use Rattle.cfi_modules.proofs.LengthLemmas.{ok_not_err}
use Rattle.cfi_modules.proofs.PlacedLemmas.{placed_once}

-- ---- one more

module _ {X : Type 0} (xs : List X) where
  pub left : (ys : List X) (k : ℕ) (x : X) → k < length xs → slice_get (xs ++ ys) k ≡ Some x → slice_get xs k ≡ Some x
  left ys k x within is =
      slice_get-get_or xs k x within
      ∙ ap (λ (y : X). Some y) (sym (get_or-append xs ys x k within) ∙ get_or_from_slice_get (xs ++ ys) k x x is)

  pub last : (y : X) (k : ℕ) (x : X) → k ≡ length xs → slice_get (xs ++ y ∷ []) k ≡ Some x → y ≡ x
  last y k x end is =
      sym (get_or-append_seam xs y [] x) ∙ ap (λ (n : ℕ). get_or (xs ++ y ∷ []) n x) (sym end)
      ∙ get_or_from_slice_get (xs ++ y ∷ []) k x x is

-- what relates each module, and what placing made of it, to those before it, relates one more where it does so
module _ (Joined : List Placed → Module → Placed → Type 0) where
  abbrev EachJoined : List Module → List Placed → Type 0
  EachJoined modules placed = (k : ℕ) (m : Module) (p : Placed) → slice_get modules k ≡ Some m
      → slice_get placed k ≡ Some p → Joined (take k placed) m p

  each_more : (modules : List Module) (placed : List Placed) (m : Module) (p : Placed)
      → length placed ≡ length modules → EachJoined modules placed → Joined placed m p
      → EachJoined (modules ++ m ∷ []) (placed ++ p ∷ [])
  each_more modules placed m p count each joins k m' p' is is' = ⊎_elim
      (λ (less : k < length placed).
      let before : take k (placed ++ p ∷ []) ≡ take k placed = take-append-le k placed (p ∷ []) (omega (arith, less)) in
      subst (λ (xs : List Placed). Joined xs m' p') (sym before)
      (each k m' p' (left modules (m ∷ []) k m' (omega (arith, less, count)) is)
      (left placed (p ∷ []) k p' less is')))
      (λ (more : length placed ≤ k).
      let end : k ≡ length placed =
      omega (arith, more, slice_get_within (placed ++ p ∷ []) k p' is', length-append placed (p ∷ [])) in
      let before : take k (placed ++ p ∷ []) ≡ placed =
      take-append-le k placed (p ∷ []) (omega (arith, end)) ∙ ap (λ (n : ℕ). take n placed) end ∙ take-length placed in
      let same_m : m ≡ m' = last modules m k m' (end ∙ count) is in
      let same_p : p ≡ p' = last placed p k p' end is' in
      subst (λ (xs : List Placed). Joined xs m' p') (sym before)
      (subst (λ (x : Module). Joined placed x p') same_m (subst (λ (x : Placed). Joined placed m x) same_p joins)))
      (cases_lt k (length placed))

count_more : (modules : List Module) (placed : List Placed) (m : Module) (p : Placed)
    → length placed ≡ length modules → length (placed ++ p ∷ []) ≡ length (modules ++ m ∷ [])
count_more modules placed m p count =
    omega (arith, length-append modules (m ∷ []), length-append placed (p ∷ []), count)

-- a module joins modules in order, which are all live
pub order_more : (code_words : ℕ) (modules : List Module) (placed : List Placed) (m : Module) (p : Placed)
    → AreInOrder code_words modules placed → Joins code_words placed placed m p
    → AreInOrder code_words (modules ++ m ∷ []) (placed ++ p ∷ [])
order_more code_words modules placed m p order joins = record {
  count = count_more modules placed m p order.count;
  joins = each_more (λ (before : List Placed) (n : Module) (q : Placed). Joins code_words before before n q) modules
      placed m p order.count order.joins joins;
}

pub series_more : (code_words : ℕ) (placed : List Placed) (m : Module) (p : Placed) → IsSeries code_words placed
    → IsSoundModule m → JoinsSome code_words placed m p → IsSeries code_words (placed ++ p ∷ [])
series_more code_words placed m p series sound joins = record {
  size = series.size;
  modules = series.modules ++ m ∷ [];
  sound = All-append IsSoundModule series.modules (m ∷ []) series.sound
      (All-cons IsSoundModule m [] sound (All-nil IsSoundModule));
  count = count_more series.modules placed m p series.count;
  joined = each_more (JoinsSome code_words) series.modules placed m p series.count series.joined joins;
}

-- modules in order are a series
among_all : (ms : List Placed) → AreAmong ms ms
among_all ms = λ k d within. Contains-get_or ms k d within

pub order_series : (code_words : ℕ) (modules : List Module) (placed : List Placed) → IsSize code_words
    → All IsSoundModule modules → AreInOrder code_words modules placed → IsSeries code_words placed
order_series code_words modules placed size sound order = record {
  size = size;
  modules = modules;
  sound = sound;
  count = order.count;
  joined = λ k m p is is'. (take k placed, among_all (take k placed), order.joins k m p is is');
}

-- ---- one answer

pub joins_once : (code_words : ℕ) (before live : List Placed) (m : Module) (p q : Placed)
    → Joins code_words before live m p → Joins code_words before live m q → p ≡ q
joins_once code_words before live m p q a b =
    placed_once m (room_after code_words before) (names_of live) p q a.behind b.behind

pub joins_or_refused : (code_words : ℕ) (before live : List Placed) (m : Module) (p : Placed) (fault : JoinFault)
    → Joins code_words before live m p → IsJoinFault code_words before live m fault → fault ≡ Memory
joins_or_refused code_words before live m p (Place fault) joins refused =
    absurd (ok_not_err (sym refused.0 ∙ joins.behind.is_placed))
joins_or_refused code_words before live m p (Verify fault) joins refused =
    let same : refused.0 ≡ p =
    placed_once m (room_after code_words before) (names_of live) refused.0 p refused.1 joins.behind in
    absurd (no_fault p live joins.verified.0 joins.verified.1 fault
    (subst (λ (x : Placed). FaultStands x live fault) same refused.2.stands))
joins_or_refused code_words before live m p Memory joins refused = refl

-- a fault is the only one, if memory is there
module _ (code_words : ℕ) (before live : List Placed) (m : Module) where
  pub one_fault : (a b : JoinFault) → IsJoinFault code_words before live m a → IsJoinFault code_words before live m b
      → a ≢ Memory → b ≢ Memory → a ≡ b
  one_fault (Place a) (Place b) p q some some' =
      let both : Err a ≡ Err b = sym p.0 ∙ q.0 in
      let same : a ≡ b = cc in
      ap (λ (fault : PlaceFault). Place fault) same
  one_fault (Place a) (Verify b) p q some some' = absurd (ok_not_err (sym p.0 ∙ q.1.is_placed))
  one_fault (Verify a) (Place b) p q some some' = absurd (ok_not_err (sym q.0 ∙ p.1.is_placed))
  one_fault (Verify a) (Verify b) p q some some' =
      let same : p.0 ≡ q.0 = placed_once m (room_after code_words before) (names_of live) p.0 q.0 p.1 q.1 in
      let first = subst (λ (x : Placed). IsFirstFault x live a) same p.2 in
      ap (λ (fault : VerifyFault). Verify fault) (one_first_fault q.0 live a b first q.2)
  one_fault Memory b p q some some' = absurd (some refl)
  one_fault (Place a) Memory p q some some' = absurd (some' refl)
  one_fault (Verify a) Memory p q some some' = absurd (some' refl)
