-- The live ones of modules, one module after the other.
use Rattle.std.proofs.Common.{◌≡◌, ◌∙◌, ℕ, ◌+◌, ◌<◌, Bool, true, false, List, [], ◌∷◌, ◌++◌, length, get_or, drop, sym, ap}
use Rattle.std.proofs.lemmas.List.{drop_more, append_assoc}
use Rattle.cfi_aux.specs.declared.placed.Placed.{Placed}
use Rattle.cfi_graph.specs.Live.{live_of}

-- these are the live ones of the first modules: the rest gives the others
abbrev pub GivesLive : (ms : List Placed) (live : List Bool) (n : ℕ) → List Placed → Type 0
GivesLive ms live n list = list ++ live_of (drop n ms) (drop n live) ≡ live_of ms live

module _ (ms : List Placed) (live : List Bool) (n : ℕ) (m : Placed) (below : n < length ms) (flag : n < length live)
  where
    live_at : (b : Bool) → get_or live n false ≡ b
        → live_of (drop n ms) (drop n live) ≡ live_of (get_or ms n m ∷ drop (n + 1) ms) (b ∷ drop (n + 1) live)
    live_at b is =
        ap (λ xs. live_of xs (drop n live)) (drop_more ms n m below)
        ∙ ap (λ bs. live_of (get_or ms n m ∷ drop (n + 1) ms) bs)
        (drop_more live n false flag ∙ ap (λ c. c ∷ drop (n + 1) live) is)

    pub live_kept : (list : List Placed) → get_or live n false ≡ true → GivesLive ms live n list
        → GivesLive ms live (n + 1) (list ++ get_or ms n m ∷ [])
    live_kept list is gives =
        append_assoc list (get_or ms n m ∷ []) (live_of (drop (n + 1) ms) (drop (n + 1) live))
        ∙ ap (λ xs. list ++ xs) (sym (live_at true is)) ∙ gives

    pub live_left : (list : List Placed) → get_or live n false ≡ false → GivesLive ms live n list
        → GivesLive ms live (n + 1) list
    live_left list is gives = ap (λ xs. list ++ xs) (sym (live_at false is)) ∙ gives
