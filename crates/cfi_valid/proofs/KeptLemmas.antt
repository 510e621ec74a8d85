-- Loaded modules as they are kept: how many there are, where they stand, and one more of them.
use Rattle.std.proofs.Common.{◌≡◌, ℕ, zero, suc, ◌++◌, List, [], ◌∷◌, length, Some, refl, ap, ◌∙◌, arith}
use Rattle.std.specs.List.{slice_get}
use Rattle.cfi_aux.specs.declared.placed.Placed.{Placed}
use Rattle.cfi_valid.specs.Kept.{Origin, module_from, loaded_from}
use Rattle.cfi_valid.specs.Loaded.{LoadedModule, placed_modules}

module _ {A : Type 0} (origin : A → Origin) where
  -- what placing made of them are the places
  pub places_are : (kept : List A) (placed : List Placed) → length kept ≡ length placed
      → placed_modules (loaded_from origin kept placed) ≡ placed
  places_are [] [] many = refl
  places_are [] (one ∷ placed) many = absurd (omega (arith, many))
  places_are (k ∷ kept) [] many = absurd (omega (arith, many))
  places_are (k ∷ kept) (one ∷ placed) many =
      ap (λ (ps : List Placed). one ∷ ps) (places_are kept placed (omega (arith, many)))

  -- as many as there are places
  pub many_are : (kept : List A) (placed : List Placed) → length kept ≡ length placed
      → length (loaded_from origin kept placed) ≡ length placed
  many_are [] [] many = refl
  many_are [] (one ∷ placed) many = absurd (omega (arith, many))
  many_are (k ∷ kept) [] many = absurd (omega (arith, many))
  many_are (k ∷ kept) (one ∷ placed) many = omega (arith, many_are kept placed (omega (arith, many)))

  -- one module more
  pub loaded_more : (kept : List A) (placed : List Placed) (new : A) (one : Placed) → length kept ≡ length placed
      → loaded_from origin (kept ++ new ∷ []) (placed ++ one ∷ [])
      ≡ loaded_from origin kept placed ++ module_from (origin new) one ∷ []
  loaded_more [] [] new one many = refl
  loaded_more [] (other ∷ placed) new one many = absurd (omega (arith, many))
  loaded_more (k ∷ kept) [] new one many = absurd (omega (arith, many))
  loaded_more (k ∷ kept) (other ∷ placed) new one many =
      ap (λ (ls : List LoadedModule). module_from (origin k) other ∷ ls)
      (loaded_more kept placed new one (omega (arith, many)))

  -- the module of an origin and a place that stand in the same row
  pub loaded_at : (kept : List A) (placed : List Placed) (at : ℕ) (it : A) (one : Placed) → slice_get kept at ≡ Some it
      → slice_get placed at ≡ Some one
      → slice_get (loaded_from origin kept placed) at ≡ Some (module_from (origin it) one)
  loaded_at [] placed at it one here there = absurd (cc)
  loaded_at (k ∷ kept) [] at it one here there = absurd (cc)
  loaded_at (k ∷ kept) (p ∷ placed) zero it one here there =
      let kept_is : k ≡ it = cc in
      let place_is : p ≡ one = cc in
      ap (λ (x : A). Some (module_from (origin x) p)) kept_is
      ∙ ap (λ (x : Placed). Some (module_from (origin it) x)) place_is
  loaded_at (k ∷ kept) (p ∷ placed) (suc at) it one here there = loaded_at kept placed at it one here there

  -- and the origin of a module that stands in a row
  pub kept_at : (kept : List A) (placed : List Placed) (at : ℕ) (l : LoadedModule)
      → slice_get (loaded_from origin kept placed) at ≡ Some l
      → (it : A) × (slice_get kept at ≡ Some it) × ((origin it).number ≡ l.number)
  kept_at [] placed at l is = absurd (cc)
  kept_at (k ∷ kept) [] at l is = absurd (cc)
  kept_at (k ∷ kept) (p ∷ placed) zero l is =
      let same : module_from (origin k) p ≡ l = cc in
      (k, refl, ap (λ (m : LoadedModule). m.number) same)
  kept_at (k ∷ kept) (p ∷ placed) (suc at) l is = kept_at kept placed at l is
