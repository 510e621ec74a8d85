-- Modules are placed in order in one way.
use Rattle.std.proofs.Common.{◌≡◌, ℕ, zero, suc, ◌+◌, ◌-◌, ◌<◌, ◌≤◌, List, [], ◌∷◌, length, map, take, get_or, Option, Some, refl, sym, ap, subst, ◌∙◌, ⊎_elim, add-one, arith}
use Rattle.std.specs.List.{slice_get}
use Rattle.std.specs.Option.{option_map}
use Rattle.std.proofs.Math.Seq.{take-length}
use Rattle.std.proofs.lemmas.Bool.{cases_lt}
use Rattle.std.proofs.lemmas.List.{take_more_same}
use Rattle.std.proofs.lemmas.Option.{slice_get-get_or, slice_get-map, slice_get_within}
use Rattle.cfi_aux.specs.declared.modules.Module.{Module}
use Rattle.cfi_aux.specs.declared.placed.Placed.{Placed}
use Rattle.cfi_modules.specs.Order.{names_of, IsPlacedBehind, Joins, AreInOrder}
use Rattle.cfi_modules.specs.Room.{room_after}
use Rattle.cfi_modules.proofs.OrderLemmas.{joins_once}
use Rattle.cfi_modules.proofs.PlacedLemmas.{placed_once}
use Rattle.cfi_valid.specs.Kept.{Origin}
use Rattle.cfi_valid.specs.Loaded.{LoadedModule, placed_modules}
use Rattle.cfi_valid.specs.Modules.{origin_of, without, ArePlaced}

-- each of a list, by its number, stands as a relation says behind those before it
pub record StandSo (X : Type 0) (Behind : (k : ℕ) → List X → Module → X → Type 0) (modules : List Module) (xs : List X)
    : Type 0 where
  pub count : length xs ≡ length modules
  pub each : (k : ℕ) (m : Module) (x : X) → slice_get modules k ≡ Some m → slice_get xs k ≡ Some x
      → Behind k (take k xs) m x

module _ (X : Type 0) (Behind : (k : ℕ) → List X → Module → X → Type 0)
    (once : (k : ℕ) (before : List X) (m : Module) (a b : X) → Behind k before m a → Behind k before m b → a ≡ b) where
  module _ (modules : List Module) (ps qs : List X) (p : StandSo X Behind modules ps)
      (q : StandSo X Behind modules qs) where
    -- so many first ones are the same, if all before them are
    next_same : (k : ℕ) (m : Module) (d : X) → k < length ps → slice_get modules k ≡ Some m → take k ps ≡ take k qs
        → get_or ps k d ≡ get_or qs k d
    next_same k m d within is same =
        let within' : k < length qs = omega (arith, within, p.count, q.count) in
        let one = p.each k m (get_or ps k d) is (slice_get-get_or ps k d within) in
        let other = q.each k m (get_or qs k d) is (slice_get-get_or qs k d within') in
        once k (take k qs) m (get_or ps k d) (get_or qs k d)
        (subst (λ (before : List X). Behind k before m (get_or ps k d)) same one) other

    first_same : (k : ℕ) (m : Module) (d : X) → k ≤ length ps → take k ps ≡ take k qs
    first_same zero m d within = refl
    first_same (suc k) m d within =
        let below : k < length ps = omega (arith, within) in
        let there : k < length modules = omega (arith, below, p.count) in
        let same = first_same k m d (omega (arith, below)) in
        let next = next_same k (get_or modules k m) d below (slice_get-get_or modules k m there) same in
        let more = take_more_same ps qs k d below (omega (arith, below, p.count, q.count)) same next in
        subst (λ (n : ℕ). take n ps ≡ take n qs) (add-one k) more

  -- all of them
  stand_once : (modules : List Module) (ps qs : List X) → StandSo X Behind modules ps → StandSo X Behind modules qs
      → ps ≡ qs
  stand_once modules [] [] p q = refl
  stand_once modules [] (y ∷ qs) p q = absurd (omega (arith, p.count, q.count))
  stand_once modules (x ∷ ps) [] p q = absurd (omega (arith, p.count, q.count))
  stand_once [] (x ∷ ps) (y ∷ qs) p q = absurd (omega (arith, p.count))
  stand_once (m ∷ modules) (x ∷ ps) (y ∷ qs) p q =
      let count : length (x ∷ ps) ≡ length (y ∷ qs) = p.count ∙ sym q.count in
      sym (take-length (x ∷ ps))
      ∙ first_same (m ∷ modules) (x ∷ ps) (y ∷ qs) p q (length (x ∷ ps)) m x (omega arith)
      ∙ ap (λ (n : ℕ). take n (y ∷ qs)) count
      ∙ take-length (y ∷ qs)

-- ---- modules that join

pub order_once : (code_words : ℕ) (modules : List Module) (ps qs : List Placed) → AreInOrder code_words modules ps
    → AreInOrder code_words modules qs → ps ≡ qs
order_once code_words modules ps qs p q =
    stand_once Placed (λ k before m placed. Joins code_words before before m placed)
    (λ k before m a b one other. joins_once code_words before before m a b one other) modules ps qs
    (record { count = p.count; each = p.joins }) (record { count = q.count; each = q.joins })

-- ---- whether they verify or not

module _ (code_words starts : ℕ) (gone : List (List ℕ)) (origins : List Origin) where
  -- a module of this number comes from where the list says, and is placed behind those before it
  record IsPlacedAs (k : ℕ) (before : List LoadedModule) (m : Module) (l : LoadedModule) : Type 0 where
    pub origin : slice_get origins k ≡ Some (origin_of l)
    pub within : k < starts + length gone
    pub joins : k < starts → Joins code_words (placed_modules before) (placed_modules before) m l.placed
    pub behind : (j : ℕ) (numbers : List ℕ) → k ≡ starts + j → slice_get gone j ≡ Some numbers
        → IsPlacedBehind code_words (placed_modules before) (placed_modules (without numbers before)) m l.placed

  as_once : (k : ℕ) (before : List LoadedModule) (m : Module) (a b : LoadedModule) → IsPlacedAs k before m a
      → IsPlacedAs k before m b → a ≡ b
  as_once k before m a b p q =
      let both : Some (origin_of a) ≡ Some (origin_of b) = sym p.origin ∙ q.origin in
      let origin : origin_of a ≡ origin_of b = cc in
      let number : a.number ≡ b.number = ap (λ (o : Origin). o.number) origin in
      let policy : a.policy ≡ b.policy = ap (λ (o : Origin). o.policy) origin in
      let placed : a.placed ≡ b.placed = ⊎_elim
      (λ (less : k < starts).
      joins_once code_words (placed_modules before) (placed_modules before) m a.placed b.placed (p.joins less)
      (q.joins less))
      (λ (past : starts ≤ k).
      let at : k ≡ starts + (k - starts) = omega (arith, past) in
      let there : k - starts < length gone = omega (arith, past, p.within) in
      let numbers : List ℕ = get_or gone (k - starts) [] in
      let told = slice_get-get_or gone (k - starts) [] there in
      placed_once m (room_after code_words (placed_modules before))
      (names_of (placed_modules (without numbers before))) a.placed b.placed
      (p.behind (k - starts) numbers at told) (q.behind (k - starts) numbers at told))
      (cases_lt k starts) in
      let a_is : a ≡ record { number = a.number; placed = a.placed; policy = a.policy } = refl in
      let b_is : b ≡ record { number = b.number; placed = b.placed; policy = b.policy } = refl in
      cc

  module _ (modules : List Module) where
    stand_as : (loaded : List LoadedModule) → length loaded ≡ starts + length gone → map origin_of loaded ≡ origins
        → ArePlaced code_words starts modules gone loaded → StandSo LoadedModule IsPlacedAs modules loaded
    stand_as loaded many from p = record {
      count = p.count;
      each = λ k m l is there. record {
        origin = ap (λ (os : List Origin). slice_get os k) (sym from) ∙ slice_get-map origin_of loaded k
            ∙ ap (λ (o : Option LoadedModule). option_map origin_of o) there;
        within = omega (arith, slice_get_within loaded k l there, many);
        joins = λ less. p.starts_join k m l less is there;
        behind = λ j numbers at told.
            subst (λ (n : ℕ).
            IsPlacedBehind code_words (placed_modules (take n loaded))
            (placed_modules (without numbers (take n loaded))) m l.placed) (sym at)
            (p.behind j m l numbers (subst (λ (n : ℕ). slice_get modules n ≡ Some m) at is)
            (subst (λ (n : ℕ). slice_get loaded n ≡ Some l) at there) told);
      };
    }

    pub places_once : (ps qs : List LoadedModule) → length ps ≡ starts + length gone
        → length qs ≡ starts + length gone → map origin_of ps ≡ origins → map origin_of qs ≡ origins
        → ArePlaced code_words starts modules gone ps → ArePlaced code_words starts modules gone qs → ps ≡ qs
    places_once ps qs many many' from from' p q =
        stand_once LoadedModule IsPlacedAs as_once modules ps qs (stand_as ps many from p) (stand_as qs many' from' q)
