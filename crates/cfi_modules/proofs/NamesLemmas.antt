-- Names that are added to names.
use Rattle.std.proofs.Common.{◌≡◌, ℕ, ◌+◌, ◌<◌, List, [], ◌∷◌, ◌++◌, take, length, get_or, append_assoc, sym, ap, ◌∙◌}
use Rattle.std.proofs.lemmas.List.{take_more, flat_map_more}
use Rattle.std.specs.List.{flat_map}
use Rattle.cfi_aux.specs.declared.placed.Placed.{Placed}
use Rattle.cfi_place.specs.Names.{Names, first_in, with_name}
use Rattle.cfi_place.proofs.NameLemmas.{names-push}

pub one_name_more : (before exports : List (List ℕ × ℕ)) (i : ℕ) (e : List ℕ × ℕ) (old new : Names) → i < length exports
    → e ≡ get_or exports i e → ((name : List ℕ) → old name ≡ first_in (before ++ take i exports) name)
    → ((name : List ℕ) → new name ≡ with_name e.0 e.1 old name)
    → (name : List ℕ) → new name ≡ first_in (before ++ take (i + 1) exports) name
one_name_more before exports i e old new lt is was added =
    let more : before ++ take (i + 1) exports ≡ (before ++ take i exports) ++ e ∷ [] =
    ap (λ (xs : List (List ℕ × ℕ)). before ++ xs) (take_more exports i e lt)
    ∙ sym (append_assoc before (take i exports) (get_or exports i e ∷ []))
    ∙ ap (λ (x : List ℕ × ℕ). (before ++ take i exports) ++ x ∷ []) (sym is) in
    names-push (before ++ take i exports) (before ++ take (i + 1) exports) e.0 e.1 old new more was added

-- the names of one module more
pub one_module_more : (placed : List Placed) (i : ℕ) (m : Placed) → i < length placed → m ≡ get_or placed i m
    → flat_map (λ (p : Placed). p.exports) (take i placed) ++ m.exports
    ≡ flat_map (λ (p : Placed). p.exports) (take (i + 1) placed)
one_module_more placed i m lt is =
    let exports : Placed → List (List ℕ × ℕ) = λ p. p.exports in
    flat_map_more exports [] (take i placed) m
    ∙ ap (λ (x : Placed). flat_map exports (take i placed ++ x ∷ [])) is
    ∙ ap (flat_map exports) (sym (take_more placed i m lt))
