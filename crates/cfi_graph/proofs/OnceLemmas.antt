-- What modules that are apart tell, they tell once: where a call comes back, where a function begins, whose a slot is.
use Rattle.std.proofs.Common.{◌≡◌, ◌∙◌, ℕ, ◌+◌, Bool, true, false, ℤ, List, Some, sym, ap, subst, inl, inr, arith}
use Rattle.std.specs.Prelude.{slice_get, ⊤}
use Rattle.std.proofs.lemmas.Bool.{cases_lt}
use Rattle.std.proofs.lemmas.Option.{same_Some, slice_get_within}
use Rattle.cfi_flow.specs.declared.links.Flow.{Flow}
use Rattle.cfi_flow.specs.Fresh.{IsToldOnce}
use Rattle.cfi_flow.proofs.RowLemmas.{make_link}
use Rattle.cfi_aux.specs.declared.placed.Placed.{Placed}
use Rattle.cfi_aux.specs.declared.placed.PlacedFunction.{PlacedFunction}
use Rattle.cfi_aux.specs.declared.records.Kind.{Kind}
use Rattle.cfi_aux.specs.declared.records.Kind.TheVariants as kinds
use Rattle.cfi_graph.specs.declared.fact.Fact.{Fact}
use Rattle.cfi_graph.specs.declared.fact.Fact.TheVariants as facts
use Rattle.cfi_graph.specs.Shaped.{AreApart}
use Rattle.cfi_graph.specs.Calls.{HasKind}
use Rattle.cfi_graph.specs.Facts.{ByName, AreImports, type_node, IsJumpFact, IsBranchFact, IsFunctionFact, IsTold}
use Rattle.cfi_graph.proofs.NodeLemmas.{before_at, same_numbers, same_functions}
use Rattle.cfi_graph.proofs.ReadLemmas.{links_of, TellsFlow, unit_cases}
use Rattle.cfi_graph.proofs.SiteLemmas.{kind_one, one_site}
use Rattle.cfi_graph.proofs.SoundLemmas.{IsEntry, entry_told}
use Rattle.cfi_graph.proofs.WiderLemmas.{AreWider}

-- the kinds of branches
abbrev IsPointing : Kind → Type 0
IsPointing (kinds.Call type) = ⊤
IsPointing (kinds.Tail type) = ⊤
IsPointing kind = ⊥

abbrev IsReturning : Kind → Type 0
IsReturning kinds.Return = ⊤
IsReturning kind = ⊥

abbrev IsListing : Kind → Type 0
IsListing (kinds.Switch entries) = ⊤
IsListing (kinds.Import name cell) = ⊤
IsListing kind = ⊥

not_both_return : (kind : Kind) → IsPointing kind → IsReturning kind → ⊥
not_both_return (kinds.Call type) a b = b
not_both_return (kinds.Tail type) a b = b
not_both_return kinds.Return a b = a
not_both_return (kinds.Switch entries) a b = a
not_both_return (kinds.Import name cell) a b = a

not_both_list : (kind : Kind) → IsPointing kind → IsListing kind → ⊥
not_both_list (kinds.Call type) a b = b
not_both_list (kinds.Tail type) a b = b
not_both_list kinds.Return a b = a
not_both_list (kinds.Switch entries) a b = a
not_both_list (kinds.Import name cell) a b = a

not_return_list : (kind : Kind) → IsReturning kind → IsListing kind → ⊥
not_return_list kinds.Return a b = b
not_return_list (kinds.Call type) a b = a
not_return_list (kinds.Tail type) a b = a
not_return_list (kinds.Switch entries) a b = a
not_return_list (kinds.Import name cell) a b = a

-- the fact is of a branch alone
abbrev IsOfBranch : Fact → Type 0
IsOfBranch (facts.Pointer l) = ⊤
IsOfBranch (facts.Return l) = ⊤
IsOfBranch (facts.Listed l) = ⊤
IsOfBranch fact = ⊥

no_jump : (fact : Fact) → IsOfBranch fact → (m : Placed) (at : ℕ) (linked : Bool) (off : ℤ) → IsJumpFact m at linked off fact → ⊥
no_jump (facts.Pointer l) of m at true off told = told
no_jump (facts.Pointer l) of m at false off told = told
no_jump (facts.Return l) of m at true off told = told
no_jump (facts.Return l) of m at false off told = told
no_jump (facts.Listed l) of m at true off told = told
no_jump (facts.Listed l) of m at false off told = told
no_jump (facts.Arrow l) of m at linked off told = of
no_jump (facts.Site l) of m at linked off told = of
no_jump (facts.Entry l) of m at linked off told = of

module _ (ms : List Placed) (imports : ByName) (classes : List (List ℕ)) (apart : AreApart ms) where
  -- ---- functions by where they begin

  one_entry : (one other address : ℕ) → IsEntry ms classes one address → IsEntry ms classes other address → one ≡ other
  one_entry one other address a b =
      let a_entry = a.entry in
      let b_entry = b.entry in
      let same : a.owner.base + a.function.first ≡ b.owner.base + b.function.first = omega (arith, a_entry, b_entry) in
      let number = same_numbers ms apart a.number b.number a.owner b.owner a.function b.function a.at b.at same in
      let function = same_functions ms apart a.number b.number a.owner b.owner a.function b.function a.at b.at same in
      a.is ∙ ap (λ k. type_node classes k a.function.ty) number
      ∙ ap (λ f. type_node classes b.number f.ty) function ∙ sym b.is

  -- ---- branches by their slots

  -- a branch of the slot is of such a kind
  record HasBranch (slot : ℕ) (Q : Kind → Type 0) : Type 0 where
    pub number : ℕ
    pub owner : Placed
    pub is : slice_get ms number ≡ Some owner
    pub kind : Kind
    pub has : HasKind owner slot kind
    pub such : Q kind

  -- a slot is one module's
  slot_one : (i j : ℕ) (m n : Placed) → slice_get ms i ≡ Some m → slice_get ms j ≡ Some n → (slot : ℕ) (one other : Kind)
      → HasKind m slot one → HasKind n slot other → i ≡ j
  slot_one i j m n m_is n_is slot one other (k, k_is, k_has) (l, l_is, l_has) =
      let k_in = slice_get_within m.branches k one k_has in
      let l_in = slice_get_within n.branches l other l_has in
      elim (cases_lt i j) [
        | inl less ↦
            let before = before_at ms apart i j m n m_is n_is less in
            let slots = before.slots in
            absurd (omega (arith, slots, k_is, l_is, k_in))
        | inr more ↦ elim (cases_lt j i) [
          | inl less ↦
              let before = before_at ms apart j i n m n_is m_is less in
              let slots = before.slots in
              absurd (omega (arith, slots, k_is, l_is, l_in))
          | inr least ↦ omega (arith, more, least)
        ]
      ]

  one_branch : (slot : ℕ) (P Q : Kind → Type 0) → HasBranch slot P → HasBranch slot Q → (kind : Kind) × P kind × Q kind
  one_branch slot P Q a b =
      let number = slot_one a.number b.number a.owner b.owner a.is b.is slot a.kind b.kind a.has b.has in
      let owner : b.owner ≡ a.owner =
      same_Some b.owner a.owner (sym b.is ∙ ap (λ k. slice_get ms k) (sym number) ∙ a.is) in
      let kind : b.kind ≡ a.kind =
      kind_one a.owner slot b.kind a.kind (subst (λ m. HasKind m slot b.kind) owner b.has) a.has in
      (a.kind, a.such, subst Q kind b.such)

  branch_by : (Q : Kind → Type 0) (fact : Fact) (slot : ℕ)
      → ((number : ℕ) (m : Placed) (at own : ℕ) (kind : Kind) → IsBranchFact imports classes number m at own kind fact
      → (own ≡ slot) × Q kind)
      → ((m : Placed) (at : ℕ) (linked : Bool) (off : ℤ) → IsJumpFact m at linked off fact → ⊥)
      → (told : IsTold ms imports classes fact)
      → ((f : PlacedFunction) → IsFunctionFact classes told.number told.owner f fact → ⊥) → HasBranch slot Q
  branch_by Q fact slot by no_jump told no_function =
      elim told.tells [
        | inl unit ↦ elim (unit_cases imports classes told.number told.owner fact unit) [
          | inl check ↦
              let both = by told.number told.owner check.at check.slot check.kind check.tells in
              record {
                number = told.number;
                owner = told.owner;
                is = told.is;
                kind = check.kind;
                has = subst (λ s. HasKind told.owner s check.kind) both.0 check.has;
                such = both.1;
              }
          | inr jump ↦ absurd (no_jump told.owner jump.at jump.linked jump.off jump.tells)
        ]
        | inr function ↦ absurd (no_function function.function function.tells)
      ]

  pointing_kind : (node slot number : ℕ) (m : Placed) (at own : ℕ) (kind : Kind)
      → IsBranchFact imports classes number m at own kind (facts.Pointer (make_link node slot)) → (own ≡ slot) × IsPointing kind
  pointing_kind node slot number m at own (kinds.Call type) told = (sym told.1, tt)
  pointing_kind node slot number m at own (kinds.Tail type) told = (sym told.1, tt)
  pointing_kind node slot number m at own kinds.Return told = absurd told
  pointing_kind node slot number m at own (kinds.Switch entries) told = absurd told
  pointing_kind node slot number m at own (kinds.Import name cell) told = absurd told

  returning_kind : (node slot number : ℕ) (m : Placed) (at own : ℕ) (kind : Kind)
      → IsBranchFact imports classes number m at own kind (facts.Return (make_link node slot)) → (own ≡ slot) × IsReturning kind
  returning_kind node slot number m at own kinds.Return told = (sym told.1, tt)
  returning_kind node slot number m at own (kinds.Call type) told = absurd told
  returning_kind node slot number m at own (kinds.Tail type) told = absurd told
  returning_kind node slot number m at own (kinds.Switch entries) told = absurd told
  returning_kind node slot number m at own (kinds.Import name cell) told = absurd told

  listing_kind : (slot address number : ℕ) (m : Placed) (at own : ℕ) (kind : Kind)
      → IsBranchFact imports classes number m at own kind (facts.Listed (make_link slot address)) → (own ≡ slot) × IsListing kind
  listing_kind slot address number m at own (kinds.Switch entries) told = (sym told.0, tt)
  listing_kind slot address number m at own (kinds.Import name cell) told = (sym told.0, tt)
  listing_kind slot address number m at own (kinds.Call type) told = absurd told
  listing_kind slot address number m at own (kinds.Tail type) told = absurd told
  listing_kind slot address number m at own kinds.Return told = absurd told

  -- a branch that goes through a pointer, returns or lists, by the fact that it tells
  pointing_branch : (node slot : ℕ) → IsTold ms imports classes (facts.Pointer (make_link node slot)) → HasBranch slot IsPointing
  pointing_branch node slot told =
      branch_by IsPointing (facts.Pointer (make_link node slot)) slot (pointing_kind node slot)
      (no_jump (facts.Pointer (make_link node slot)) tt) told (λ f t. t)

  returning_branch : (node slot : ℕ) → IsTold ms imports classes (facts.Return (make_link node slot)) → HasBranch slot IsReturning
  returning_branch node slot told =
      branch_by IsReturning (facts.Return (make_link node slot)) slot (returning_kind node slot)
      (no_jump (facts.Return (make_link node slot)) tt) told (λ f t. t)

  listing_branch : (slot address : ℕ) → IsTold ms imports classes (facts.Listed (make_link slot address))
      → HasBranch slot IsListing
  listing_branch slot address told =
      branch_by IsListing (facts.Listed (make_link slot address)) slot (listing_kind slot address)
      (no_jump (facts.Listed (make_link slot address)) tt) told (λ f t. t)

  -- a flow that says what the modules tell
  pub told_once : AreImports ms imports → (flow : Flow) → AreWider ms classes flow.widenings.items
      → TellsFlow ms imports classes flow → IsToldOnce flow
  told_once named flow wider tells = record {
    entries = λ one other to a b.
        one_entry one other to
        (entry_told ms imports classes named apart (links_of flow) wider tells one to ((tells.entries one to).0 a))
        (entry_told ms imports classes named apart (links_of flow) wider tells other to ((tells.entries other to).0 b));
    sites = λ one other to a b.
        one_site ms imports classes apart one other to ((tells.sites one to).0 a) ((tells.sites other to).0 b);
    points_or_returns = λ node other slot a b.
        let both = one_branch slot IsPointing IsReturning (pointing_branch node slot ((tells.pointers node slot).0 a))
        (returning_branch other slot ((tells.returns other slot).0 b)) in
        not_both_return both.0 both.1 both.2;
    points_or_lists = λ node slot address a b.
        let both = one_branch slot IsPointing IsListing (pointing_branch node slot ((tells.pointers node slot).0 a))
        (listing_branch slot address ((tells.listed slot address).0 b)) in
        not_both_list both.0 both.1 both.2;
    returns_or_lists = λ node slot address a b.
        let both = one_branch slot IsReturning IsListing (returning_branch node slot ((tells.returns node slot).0 a))
        (listing_branch slot address ((tells.listed slot address).0 b)) in
        not_return_list both.0 both.1 both.2;
  }
