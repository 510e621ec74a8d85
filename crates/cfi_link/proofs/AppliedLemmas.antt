-- Relocations that are applied, one after the other.
use Rattle.std.proofs.Common.{◌≡◌, ◌∙◌, ℕ, ◌+◌, ◌<◌, ◌≤◌, List, length, get_or, drop, Option, Result, Ok, Err, sym, ap}
use Rattle.std.proofs.lemmas.List.{at_drop_more, drop_all}
use Rattle.rv_reloc.specs.declared.fault.RelocFault.{RelocFault}
use Rattle.cfi_link.specs.declared.fault.LinkFault.TheVariants.{BadReloc}
use Rattle.cfi_link.specs.declared.joined.OwnReloc.{OwnReloc}
use Rattle.cfi_link.specs.Applied.{target_of, applied_to, or_bad, applied_from, kept_in}

applied-more : (reaches : List (Option ℕ)) (relocs : List OwnReloc) (k : ℕ) (text : List ℕ) (d : OwnReloc)
    → k < length relocs → applied_from reaches (drop k relocs) text
    ≡ or_bad (get_or relocs k d)
    (applied_to (target_of reaches (get_or relocs k d).reloc) (get_or relocs k d).reloc text)
    (λ next. applied_from reaches (drop (k + 1) relocs) next)
unfolding applied_from
applied-more reaches relocs k text d lt =
    at_drop_more (λ (rest : List OwnReloc). applied_from reaches rest text) relocs k d lt

-- the next one is refused
pub applied-stop : (reaches : List (Option ℕ)) (relocs : List OwnReloc) (k : ℕ) (text : List ℕ) (d : OwnReloc)
    (fault : RelocFault) → k < length relocs
    → applied_to (target_of reaches (get_or relocs k d).reloc) (get_or relocs k d).reloc text ≡ Err fault
    → applied_from reaches (drop k relocs) text ≡ Err (BadReloc (get_or relocs k d).owner (get_or relocs k d).number)
applied-stop reaches relocs k text d fault lt stops =
    applied-more reaches relocs k text d lt
    ∙ ap (λ (one : Result (List ℕ) RelocFault). or_bad (get_or relocs k d) one (λ next.
    applied_from reaches (drop (k + 1) relocs) next))
    stops

-- the next one is applied or kept
pub applied-next : (reaches : List (Option ℕ)) (relocs : List OwnReloc) (k : ℕ) (text next : List ℕ) (d : OwnReloc)
    → k < length relocs
    → applied_to (target_of reaches (get_or relocs k d).reloc) (get_or relocs k d).reloc text ≡ Ok next
    → applied_from reaches (drop k relocs) text ≡ applied_from reaches (drop (k + 1) relocs) next
applied-next reaches relocs k text next d lt goes =
    applied-more reaches relocs k text d lt
    ∙ ap (λ (one : Result (List ℕ) RelocFault). or_bad (get_or relocs k d) one (λ next.
    applied_from reaches (drop (k + 1) relocs) next))
    goes

pub applied-all : (reaches : List (Option ℕ)) (relocs : List OwnReloc) (k : ℕ) (text : List ℕ) → length relocs ≤ k
    → applied_from reaches (drop k relocs) text ≡ Ok text
unfolding applied_from
applied-all reaches relocs k text le =
    ap (λ (rest : List OwnReloc). applied_from reaches rest text) (drop_all k relocs le)

-- ---- what is kept

-- ---- equal lists

pub applied_same : (r s : List (Option ℕ)) (xs ys : List OwnReloc) (t u : List ℕ) → r ≡ s → xs ≡ ys → t ≡ u
    → applied_from s ys u ≡ applied_from r xs t
applied_same r s xs ys t u e f g =
    ap (λ (z : List (Option ℕ)). applied_from z ys u) (sym e)
    ∙ ap (λ (z : List OwnReloc). applied_from r z u) (sym f)
    ∙ ap (λ (z : List ℕ). applied_from r xs z) (sym g)

pub kept_same : (r s : List (Option ℕ)) (m n : List ℕ) (xs ys : List OwnReloc) → r ≡ s → m ≡ n → xs ≡ ys
    → kept_in r m xs ≡ kept_in s n ys
kept_same r s m n xs ys e f g =
    ap (λ (z : List (Option ℕ)). kept_in z m xs) e
    ∙ ap (λ (z : List ℕ). kept_in s z xs) f
    ∙ ap (λ (z : List OwnReloc). kept_in s n z) g
