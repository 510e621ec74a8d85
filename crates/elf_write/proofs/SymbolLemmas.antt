-- The names and entries of the first symbols.
use Rattle.std.proofs.Common.{◌≡◌, ◌+◌, ◌<◌, ◌≤◌, ◌==◌, ◌++◌, ℕ, List, [], ◌∷◌, length, take, get_or, cond, refl, sym, ap, ◌∙◌, append_assoc, length-append, add-one, false, arith}
use Rattle.std.specs.List.{flat_map}
use Rattle.std.proofs.lemmas.List.{take_more, get_or_read}
use Rattle.std.proofs.lemmas.List.Folds.{length-flat_map-take}
use Rattle.std.proofs.lemmas.List.Concat.{flat_map-append}
use Rattle.std.proofs.lemmas.Bool.{ne_eqb}
use Rattle.elf_read.specs.Places.{joined}
use Rattle.elf_read.specs.declared.object.Symbol.{Symbol}
use Rattle.elf_write.specs.Contents.{zero_ended, name_table, no_symbol, symbol_entry, symbol_name_place, entry_of}

-- the names of one more symbol are longer by its name
pub names_more : (symbols : List Symbol) (k : ℕ) (symbol : Symbol) → k < length symbols
    → symbol ≡ get_or symbols k symbol
    → length (name_table (take (k + 1) symbols)) ≡ length (name_table (take k symbols)) + length (zero_ended symbol.name)
unfolding name_table
names_more symbols k symbol within is =
    let more : take (k + 1) symbols ≡ take k symbols ++ symbol ∷ [] = take_more symbols k symbol within
    ∙ ap (λ s. take k symbols ++ s ∷ []) (sym is) in
    let split = flat_map-append (λ (s : Symbol). zero_ended s.name) (take k symbols) (symbol ∷ []) in
    let sum = length-append (flat_map (λ (s : Symbol). zero_ended s.name) (take k symbols)) (zero_ended symbol.name ++ []) in
    let last = length-append (zero_ended symbol.name) [] in
    rw (more, split) (omega (arith, sum, last))

-- and no longer than those of all
pub names_within : (symbols : List Symbol) (k : ℕ) (symbol : Symbol) → k < length symbols
    → symbol ≡ get_or symbols k symbol
    → length (name_table (take k symbols)) + length (zero_ended symbol.name) ≤ length (name_table symbols)
unfolding name_table
names_within symbols k symbol within is =
    let all = length-flat_map-take (λ (s : Symbol). zero_ended s.name) symbols k symbol within in
    let part : length (zero_ended (get_or symbols k symbol).name) ≡ length (zero_ended symbol.name) =
    ap (λ (s : Symbol). length (zero_ended s.name)) (sym is) in
    omega (arith, all, part)

-- a name is no longer than what it takes
pub ended-above : (name : List ℕ) → length name ≤ length (zero_ended name)
ended-above [] = omega arith
ended-above (x ∷ xs) =
    let some : (length (x ∷ xs) == 0) ≡ false = ne_eqb _ _ (λ none. absurd (omega arith)) in
    let sum = length-append (x ∷ xs) (0 ∷ []) in
    rw some (omega (arith, sum))

-- the entry of a symbol with the place after the names before it
pub entry_is : (symbols : List Symbol) (k names place : ℕ) (symbol : Symbol) → k < length symbols
    → symbol ≡ get_or symbols k symbol
    → names ≡ length (name_table (take k symbols)) → place ≡ cond (length symbol.name == 0) 0 names
    → symbol_entry place symbol ≡ entry_of symbols k
unfolding symbol_name_place
entry_is symbols k names place symbol within is before at =
    let here : symbol ≡ get_or symbols k no_symbol = get_or_read symbols k symbol within is no_symbol in
    let names_before = length (name_table (take k symbols)) in
    let stands : place ≡ symbol_name_place symbols k = at ∙ ap (λ n. cond (length symbol.name == 0) 0 n) before
    ∙ ap (λ (s : Symbol). cond (length s.name == 0) 0 names_before) here in
    ap (λ p. symbol_entry p symbol) stands ∙ ap (λ (s : Symbol). symbol_entry (symbol_name_place symbols k) s) here

-- one more entry
pub entries_more : (give : ℕ → List ℕ) (k : ℕ) (old zeros out entry : List ℕ) → out ≡ old ++ (zeros ++ joined give k)
    → entry ≡ give k → out ++ entry ≡ old ++ (zeros ++ joined give (k + 1))
entries_more give k old zeros out entry before is =
    let next : joined give (k + 1) ≡ joined give k ++ give k = rw add-one refl in
    let whole = append_assoc old (zeros ++ joined give k) (give k) in
    let inner = append_assoc zeros (joined give k) (give k) in
    rw (before, is, next, whole, inner) refl
