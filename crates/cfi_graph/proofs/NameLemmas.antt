-- Names that are gathered from branches and from modules, one after the other.
use Rattle.std.proofs.Common.{◌≡◌, ◌∙◌, ℕ, ◌+◌, ◌<◌, Bool, true, false, ◌&&◌, cond, List, [], ◌∷◌, length, get_or, Some, None, IsTrue, if◌then◌else◌, inl, inr, refl, sym, ap, subst, arith}
use Rattle.std.specs.List.{Contains, list_any}
use Rattle.std.specs.Str.{bytes_eq}
use Rattle.std.proofs.lemmas.Bool.{cases_lt, cases_Bool, false≢true}
use Rattle.std.proofs.lemmas.Option.{same_Some, slice_get_within, slice_get-get_or}
use Rattle.std.proofs.lemmas.Slice.Eq.{bytes_eq-Decides}
use Rattle.cfi_aux.specs.declared.placed.Placed.{Placed}
use Rattle.cfi_aux.specs.declared.placed.PlacedFunction.{PlacedFunction}
use Rattle.cfi_aux.specs.declared.records.Kind.{Kind}
use Rattle.cfi_aux.specs.declared.records.Kind.TheVariants.{Import}
use Rattle.cfi_graph.specs.declared.names.Names.{Names}
use Rattle.cfi_graph.specs.Code.{entry_of}
use Rattle.cfi_graph.specs.Facts.{ByName}
use Rattle.cfi_graph.specs.Named.{entry_by}
use Rattle.cfi_graph.specs.inner.Names.{has_name, Keeps, HasImports, HasMet}
use Rattle.cfi_graph.proofs.BoundLemmas.{at_contains}

-- what is there stays where a key is set
pub set_kept : (new test old : Bool) → new ≡ cond test true old → IsTrue old → IsTrue new
set_kept new true old is has = is
set_kept new false old is has = is ∙ has

-- both hold
pub both_hold : (a b : Bool) → IsTrue (a && b) → IsTrue a × IsTrue b
both_hold true b has = (refl, has)
both_hold false b has = absurd (false≢true has)

pub and_holds : (a b : Bool) → IsTrue a → IsTrue b → IsTrue (a && b)
and_holds true b one other = other
and_holds false b one other = one

-- where there are no keys none passes a test
pub no_keys : {K : Type 0} (test : K → Bool) (keys : List K) → length keys ≡ 0 → IsTrue (list_any test keys) → ⊥
no_keys test [] none has = false≢true has
no_keys test (key ∷ keys) none has = absurd (omega (arith, none))

module _ {X : Type 0} where
  -- the fact holds of the first items
  abbrev pub FirstHave : (X → Type 0) → List X → (count : ℕ) → Type 0
  FirstHave P xs count = (k : ℕ) (d : X) → k < count → P (get_or xs k d)

  pub first_none : (P : X → Type 0) (xs : List X) → FirstHave P xs 0
  first_none P xs k d low = absurd (omega (arith, low))

  -- one item more
  pub first_next : (P Q : X → Type 0) (xs : List X) (count : ℕ) (x : X) → ((y : X) → P y → Q y)
      → ((d : X) → x ≡ get_or xs count d) → FirstHave P xs count → Q x → FirstHave Q xs (count + 1)
  first_next P Q xs count x on is first here k d low =
      elim (cases_lt k count) [
        | inl less ↦ on (get_or xs k d) (first k d less)
        | inr last ↦
            let at : count ≡ k = omega (arith, low, last) in
            subst Q (is d ∙ ap (λ n. get_or xs n d) at) here
      ]

  pub first_all : (P : X → Type 0) (xs : List X) (count : ℕ) → count ≡ length xs → FirstHave P xs count → (x : X)
      → Contains xs x → P x
  first_all P xs count all first x has =
      let at = at_contains xs x has in
      let within = slice_get_within xs has.0 x at in
      let same : get_or xs has.0 x ≡ x =
      same_Some (get_or xs has.0 x) x (sym (slice_get-get_or xs has.0 x within) ∙ at) in
      subst P same (first has.0 x (omega (arith, within, all)))

-- the name that the branch imports is one of these
abbrev pub HasImport : Names → Kind → Type 0
HasImport names kind = (name : List ℕ) (cell : ℕ) → kind ≡ Import name cell → IsTrue (has_name names name)

-- where own functions have it
abbrev pub HasOneMet : Names → (own : ByName) → Kind → Type 0
HasOneMet names own kind = (name : List ℕ) (cell address : ℕ) → kind ≡ Import name cell → own name ≡ Some address
    → IsTrue (has_name names name)

pub has_imports : (names : Names) (branches : List Kind) (count : ℕ) → count ≡ length branches
    → FirstHave (HasImport names) branches count → HasImports names branches
has_imports names branches count all first name cell has =
    first_all (HasImport names) branches count all first (Import name cell) has name cell refl

pub has_met : (names : Names) (own : ByName) (branches : List Kind) (count : ℕ) → count ≡ length branches
    → FirstHave (HasOneMet names own) branches count → HasMet names own branches
has_met names own branches count all first name cell address has =
    first_all (HasOneMet names own) branches count all first (Import name cell) has name cell address refl

-- those that a module imports are there, and those that the first of the others import and own functions have
pub record Gathers (names : Names) (own : ByName) (old : List Placed) (new : List Kind) (count : ℕ) : Type 0 where
  pub imports : HasImports names new
  pub met : FirstHave (λ m. HasMet names own m.branches) old count

pub gathers_next : (names more : Names) (own : ByName) (old : List Placed) (new : List Kind) (count : ℕ) (m : Placed)
    → Gathers names own old new count → Keeps names more → ((d : Placed) → m ≡ get_or old count d)
    → HasMet more own m.branches → Gathers more own old new (count + 1)
gathers_next names more own old new count m before kept is here = record {
  imports = λ name cell has. kept name (before.imports name cell has);
  met = first_next (λ n. HasMet names own n.branches) (λ n. HasMet more own n.branches) old count m
      (λ n met name cell address has there. kept name (met name cell address has there)) is before.met here;
}

no_and : (a : Bool) (e : ℕ) → (if a && false then Some e else None) ≡ None
no_and true e = refl
no_and false e = refl

-- a function whose name is none of these gives none of these an address
pub not_named : (names : Names) (m : Placed) (name : List ℕ) (f : PlacedFunction) → IsTrue (has_name names name)
    → has_name names f.name ≡ false → entry_by m name f ≡ None
not_named names m name f has none =
    elim (cases_Bool (bytes_eq f.name name)) [
      | inl same ↦
          absurd (false≢true (sym none ∙ ap (has_name names) ((bytes_eq-Decides f.name name).0 same) ∙ has))
      | inr apart ↦
          ap (λ b. if f.global && b then Some (entry_of m f) else None) apart ∙ no_and f.global (entry_of m f)
    ]
