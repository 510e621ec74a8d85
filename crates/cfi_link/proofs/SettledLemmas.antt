-- The symbols of the output, one more.
use Rattle.std.proofs.Common.{append_assoc, ◌≡◌, ◌∙◌, ℕ, ◌+◌, ◌<◌, List, [], ◌∷◌, ◌++◌, length, get_or, take, map, sym, ap}
use Rattle.std.specs.List.{enumerate_from}
use Rattle.std.proofs.lemmas.List.{map_push}
use Rattle.elf_read.specs.declared.object.Symbol.{Symbol}
use Rattle.cfi_place.specs.Names.{Names}
use Rattle.elf_read.specs.declared.object.Reloc.{Reloc}
use Rattle.cfi_link.specs.declared.joined.OwnReloc.{OwnReloc}
use Rattle.cfi_link.specs.declared.start.Start.{Start}
use Rattle.cfi_link.specs.Joined.{own_reloc_at}
use Rattle.cfi_link.specs.Chosen.{settled_symbol, settled, reach_of}
use Rattle.cfi_link.proofs.ChosenLemmas.{enumerate-more}

pub settled-more : (chosen : Names) (symbols : List Symbol) (k : ℕ) (d : Symbol) → k < length symbols
    → settled chosen (take (k + 1) symbols)
    ≡ settled chosen (take k symbols) ++ settled_symbol chosen (k, get_or symbols k d) ∷ []
settled-more chosen symbols k d lt =
    ap (map (settled_symbol chosen)) (enumerate-more symbols k d lt)
    ∙ map_push (settled_symbol chosen) (enumerate_from 0 (take k symbols)) (k, get_or symbols k d)

pub reaches-more : (chosen : Names) (all symbols : List Symbol) (k : ℕ) (d : Symbol) → k < length symbols
    → map (reach_of all chosen) (settled chosen (take (k + 1) symbols))
    ≡ map (reach_of all chosen) (settled chosen (take k symbols))
    ++ reach_of all chosen (settled_symbol chosen (k, get_or symbols k d)) ∷ []
reaches-more chosen all symbols k d lt =
    ap (map (reach_of all chosen)) (settled-more chosen symbols k d lt)
    ∙ map_push (reach_of all chosen) (settled chosen (take k symbols)) (settled_symbol chosen (k, get_or symbols k d))

-- relocations of a module, one more
pub relocs-more : (start : Start) (owner : ℕ) (relocs : List Reloc) (k : ℕ) (d : Reloc) → k < length relocs
    → (out : List OwnReloc) → out ++ map (own_reloc_at start owner) (enumerate_from 0 (take (k + 1) relocs))
    ≡ (out ++ map (own_reloc_at start owner) (enumerate_from 0 (take k relocs)))
    ++ own_reloc_at start owner (k, get_or relocs k d) ∷ []
relocs-more start owner relocs k d lt out =
    let f = own_reloc_at start owner in
    ap (λ (es : List (ℕ × Reloc)). out ++ map f es) (enumerate-more relocs k d lt)
    ∙ ap (λ (rs : List OwnReloc). out ++ rs)
    (map_push f (enumerate_from 0 (take k relocs)) (k, get_or relocs k d))
    ∙ sym (append_assoc out (map f (enumerate_from 0 (take k relocs))) (f (k, get_or relocs k d) ∷ []))
