-- Relocations, one after the other, and the high parts among them.
use Rattle.std.proofs.Common.{◌≡◌, ℕ, ◌+◌, ◌<◌, ◌≤◌, ◌&&◌, not, Bool, true, false, cond, eqb, List, [], ◌∷◌, ◌++◌, map, filter, length, get_or, take, drop, Option, Some, None, is_some, Result, Ok, Err, refl, sym, ap, ◌∙◌}
use Rattle.std.specs.Option.{option_or}
use Rattle.std.proofs.lemmas.List.{at_drop_more, drop_all, append-nil, map-append}
use Rattle.std.proofs.lemmas.List.Elements.{filter_more}
use Rattle.elf_read.specs.declared.object.Reloc.{Reloc}
use Rattle.rv_reloc.specs.declared.fault.RelocFault.{RelocFault}
use Rattle.cfi_place.specs.declared.fault.PlaceFault.TheVariants as faults
use Rattle.cfi_place.specs.declared.room.Room.{Room}
use Rattle.cfi_place.specs.Relocated.{Areas, field_address, value_in, applied_in, is_high, upper_part, high_parts, partner_in, with_partner, numbered, relocated_by, relocated_from}
use Rattle.cfi_values.specs.Then.{◌>>=◌}
use Rattle.cfi_place.proofs.NameLemmas.{lookup-push}

pub relocated-more : (room : Room) (values : List (Option ℕ)) (parts : List (ℕ × ℕ)) (k : ℕ) (relocs : List Reloc)
    (bytes : Areas) (reloc : Reloc) → k < length relocs
    → relocated_from room values parts k (drop k relocs) bytes
    ≡ (numbered k (relocated_by room values parts (get_or relocs k reloc) bytes) >>= λ next.
    relocated_from room values parts (k + 1) (drop (k + 1) relocs) next)
unfolding relocated_from
relocated-more room values parts k relocs bytes reloc lt =
    at_drop_more (λ (rest : List Reloc). relocated_from room values parts k rest bytes) relocs k reloc lt

-- a relocation that was applied where its value, its address and its partner are
pub relocated_by-is : (room : Room) (values : List (Option ℕ)) (parts : List (ℕ × ℕ)) (reloc : Reloc) (bytes : Areas)
    (at value : ℕ) (partner : Option ℕ) (out : Result Areas RelocFault) → at ≡ field_address room reloc
    → value ≡ value_in values reloc → partner ≡ partner_in parts value
    → applied_in reloc.area reloc at value partner bytes ≡ out → relocated_by room values parts reloc bytes ≡ out
relocated_by-is room values parts reloc bytes at value partner out a v p h =
    ap (λ (x : ℕ). applied_in reloc.area reloc x (value_in values reloc) (partner_in parts (value_in values reloc)) bytes)
    (sym a)
    ∙ ap (λ (x : ℕ). applied_in reloc.area reloc at x (partner_in parts x) bytes) (sym v)
    ∙ ap (λ (x : Option ℕ). applied_in reloc.area reloc at value x bytes) (sym p)
    ∙ h

pub relocated-stop : (room : Room) (values : List (Option ℕ)) (parts : List (ℕ × ℕ)) (k : ℕ) (relocs : List Reloc)
    (bytes : Areas) (reloc : Reloc) (fault : RelocFault) → k < length relocs
    → relocated_by room values parts (get_or relocs k reloc) bytes ≡ Err fault
    → relocated_from room values parts k (drop k relocs) bytes ≡ Err (faults.Reloc k fault)
relocated-stop room values parts k relocs bytes reloc fault lt stops =
    relocated-more room values parts k relocs bytes reloc lt
    ∙ ap (λ (one : Result Areas RelocFault). numbered k one >>= λ next.
    relocated_from room values parts (k + 1) (drop (k + 1) relocs) next) stops

pub relocated-next : (room : Room) (values : List (Option ℕ)) (parts : List (ℕ × ℕ)) (k : ℕ) (relocs : List Reloc)
    (bytes next : Areas) (reloc : Reloc) → k < length relocs
    → relocated_by room values parts (get_or relocs k reloc) bytes ≡ Ok next
    → relocated_from room values parts k (drop k relocs) bytes
    ≡ relocated_from room values parts (k + 1) (drop (k + 1) relocs) next
relocated-next room values parts k relocs bytes next reloc lt goes =
    relocated-more room values parts k relocs bytes reloc lt
    ∙ ap (λ (one : Result Areas RelocFault). numbered k one >>= λ next.
    relocated_from room values parts (k + 1) (drop (k + 1) relocs) next) goes

pub relocated-all : (room : Room) (values : List (Option ℕ)) (parts : List (ℕ × ℕ)) (k : ℕ) (relocs : List Reloc)
    (bytes : Areas) → length relocs ≤ k → relocated_from room values parts k (drop k relocs) bytes ≡ Ok bytes
unfolding relocated_from
relocated-all room values parts k relocs bytes le =
    ap (λ (rest : List Reloc). relocated_from room values parts k rest bytes) (drop_all k relocs le)

-- ---- high parts

pub high_parts-other : (room : Room) (values : List (Option ℕ)) (relocs : List Reloc) (i : ℕ) (d : Reloc)
    → i < length relocs → is_high (get_or relocs i d) ≡ false
    → high_parts room values (take (i + 1) relocs) ≡ high_parts room values (take i relocs)
high_parts-other room values relocs i d lt other =
    let more = filter_more is_high relocs i d lt in
    rw (more, other) (ap (map (upper_part room values)) (append-nil (filter is_high (take i relocs))))

pub high_parts-more : (room : Room) (values : List (Option ℕ)) (relocs : List Reloc) (i : ℕ) (d : Reloc)
    → i < length relocs → is_high (get_or relocs i d) ≡ true
    → high_parts room values (take (i + 1) relocs)
    ≡ high_parts room values (take i relocs) ++ upper_part room values (get_or relocs i d) ∷ []
high_parts-more room values relocs i d lt high =
    let more = filter_more is_high relocs i d lt in
    rw (more, high) (map-append (upper_part room values) (filter is_high (take i relocs)) (get_or relocs i d ∷ []))

kept : (test : Bool) (found : Option ℕ) (n : ℕ)
    → option_or found (cond test (Some n) None) ≡ cond (test && not (is_some found)) (Some n) found
kept true None n = refl
kept true (Some m) n = refl
kept false None n = refl
kept false (Some m) n = refl

pub partner_in-push : (parts : List (ℕ × ℕ)) (at n address : ℕ)
    → partner_in (parts ++ (at, n) ∷ []) address ≡ with_partner at n (partner_in parts address) address
partner_in-push parts at n address =
    lookup-push (λ other. eqb address other) parts (at, n)
    ∙ kept (eqb address at) (partner_in parts address) n

-- one part more, and numbers that answer as the parts do
pub partners-more : (room : Room) (values : List (Option ℕ)) (relocs : List Reloc) (i : ℕ) (d : Reloc) (part : ℕ × ℕ)
    (old new : ℕ → Option ℕ) → i < length relocs → is_high (get_or relocs i d) ≡ true
    → part ≡ upper_part room values (get_or relocs i d)
    → ((a : ℕ) → old a ≡ partner_in (high_parts room values (take i relocs)) a)
    → ((a : ℕ) → new a ≡ with_partner part.0 part.1 (old a) a)
    → (a : ℕ) → new a ≡ partner_in (high_parts room values (take (i + 1) relocs)) a
partners-more room values relocs i d part old new lt high is was added a =
    let before = high_parts room values (take i relocs) in
    let more : high_parts room values (take (i + 1) relocs) ≡ before ++ part ∷ [] =
    high_parts-more room values relocs i d lt high ∙ ap (λ (p : ℕ × ℕ). before ++ p ∷ []) (sym is) in
    added a
    ∙ ap (λ (found : Option ℕ). with_partner part.0 part.1 found a) (was a)
    ∙ sym (partner_in-push before part.0 part.1 a)
    ∙ ap (λ (parts : List (ℕ × ℕ)). partner_in parts a) (sym more)
