-- The live ones of modules, and one more that is live.
use Rattle.std.proofs.Common.{◌≡◌, ◌∙◌, ◌-◌, Bool, true, false, List, [], ◌∷◌, ◌++◌, length, map, take, get_or, All, Result, Ok, Err, refl, sym, ap, arith}
use Rattle.std.proofs.lemmas.List.{map-append}
use Rattle.std.proofs.lemmas.List.Elements.{All-nil, All-cons, All-weaker, All-contains, Contains-append_right, Contains-get_or}
use Rattle.cfi_aux.specs.declared.placed.Placed.{Placed}
use Rattle.cfi_graph.specs.Live.{live_of}
use Rattle.cfi_modules.specs.Loaded.{AreAmong}
use Rattle.cfi_modules.specs.Series.{Series, AreAllLive, live_in, with_module}
use Rattle.cfi_modules.proofs.IndexLemmas.{before_last}
use Rattle.std.specs.List.{Contains}
use Rattle.std.specs.Prelude.{OnErr}

-- they are some of the modules

among_more : (ms live : List Placed) (m : Placed) → AreAmong live ms → AreAmong live (m ∷ ms)
among_more ms live m among =
    All-weaker (Contains ms) (Contains (m ∷ ms)) (λ x has. Contains-append_right (m ∷ []) ms x has) live among

pub live_among : (ms : List Placed) (flags : List Bool) → AreAmong (live_of ms flags) ms
live_among [] flags = All-nil (Contains [])
live_among (m ∷ ms) [] = All-nil (Contains (m ∷ ms))
live_among (m ∷ ms) (true ∷ flags) =
    All-cons (Contains (m ∷ ms)) m (live_of ms flags) (Contains-get_or (m ∷ ms) 0 m (omega arith))
    (among_more ms (live_of ms flags) m (live_among ms flags))
live_among (m ∷ ms) (false ∷ flags) = among_more ms (live_of ms flags) m (live_among ms flags)

-- what holds of all holds of some
pub all_among : (P : Placed → Type 0) (ms live : List Placed) → AreAmong live ms → All P ms → All P live
all_among P ms live among all = λ k d within. All-contains P ms (get_or live k d) all (among k d within)

-- where all are, they are the modules
pub all_are_live : (ms : List Placed) → live_of ms (map (λ (m : Placed). true) ms) ≡ ms
all_are_live [] = refl
all_are_live (m ∷ ms) = ap (λ (rest : List Placed). m ∷ rest) (all_are_live ms)

-- of a series in which none was retired the live ones are all, and so with one module more
pub all_live_in : (series : Series) → AreAllLive series → live_in series ≡ series.placed
all_live_in series all = ap (live_of series.placed) all ∙ all_are_live series.placed

pub all_live_more : (series : Series) (m : Placed) → AreAllLive series → AreAllLive (with_module series m)
all_live_more series m all =
    ap (λ (flags : List Bool). flags ++ true ∷ []) all
    ∙ sym (map-append (λ (n : Placed). true) series.placed (m ∷ []))

-- the live ones of modules and of one more
pub live_more : (ms : List Placed) (flags : List Bool) (m : Placed) → length flags ≡ length ms
    → live_of (ms ++ m ∷ []) (flags ++ true ∷ []) ≡ live_of ms flags ++ m ∷ []
live_more [] [] m many = refl
live_more [] (b ∷ flags) m many = absurd (omega (arith, many))
live_more (n ∷ ms) [] m many = absurd (omega (arith, many))
live_more (n ∷ ms) (true ∷ flags) m many =
    ap (λ (rest : List Placed). n ∷ rest) (live_more ms flags m (omega (arith, many)))
live_more (n ∷ ms) (false ∷ flags) m many = live_more ms flags m (omega (arith, many))

-- ---- as a series keeps them

-- a copy more
pub kept_more : (ms : List Placed) (flags : List Bool) (m : Placed) (items : List Placed) → length flags ≡ length ms
    → live_of ms flags ≡ items → live_of (ms ++ m ∷ []) (flags ++ true ∷ []) ≡ items ++ m ∷ []
kept_more ms flags m items many is = live_more ms flags m many ∙ ap (λ (xs : List Placed). xs ++ m ∷ []) is

-- and without the last
pub kept_less : (ms : List Placed) (flags : List Bool) (m : Placed) (items : List Placed) → length flags ≡ length ms
    → live_of (ms ++ m ∷ []) (flags ++ true ∷ []) ≡ items → live_of ms flags ≡ take (length items - 1) items
kept_less ms flags m items many is =
    let longer : live_of ms flags ++ m ∷ [] ≡ items = sym (live_more ms flags m many) ∙ is in
    sym (before_last (live_of ms flags) m) ∙ ap (λ (xs : List Placed). take (length xs - 1) xs) longer

-- where all are live, all without the last are
pub all_less : (ms : List Placed) (flags : List Bool) (m : Placed) → length flags ≡ length ms
    → live_of (ms ++ m ∷ []) (flags ++ true ∷ []) ≡ ms ++ m ∷ [] → live_of ms flags ≡ ms
all_less ms flags m many is = kept_less ms flags m (ms ++ m ∷ []) many is ∙ before_last ms m

-- what holds after an error holds where it holds
pub on_err : {T E P : Type 0} (r : Result T E) → P → OnErr r P
on_err (Ok x) p = tt
on_err (Err e) p = p
