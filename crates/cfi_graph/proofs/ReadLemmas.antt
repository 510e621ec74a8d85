-- The links of a flow that is made of facts, and the facts by the units that tell them.
use Rattle.std.proofs.Common.{◌≡◌, ◌↔◌, ◌⊎◌, ◌∙◌, ℕ, ◌++◌, Bool, ℤ, List, [], ◌∷◌, Option, Some, None, map, refl, sym, ap, subst, inl, inr}
use Rattle.std.specs.List.{Contains, filter_map, cons_option}
use Rattle.std.proofs.lemmas.List.Elements.{Contains-append_left, Contains-append_right, Contains-append_cases}
use Rattle.std.proofs.lemmas.Option.{none-some, same_Some}
use Rattle.cfi_flow.specs.declared.links.Link.{Link}
use Rattle.cfi_flow.specs.declared.links.Flow.{Flow}
use Rattle.cfi_flow.specs.Flow.{flipped, Links, Goes}
use Rattle.cfi_flow.specs.Kept.{Kept, GoesAlong}
use Rattle.cfi_flow.proofs.Members.{member_first, member_later, no_member, member_cases}
use Rattle.cfi_unit.specs.declared.unit.Unit.{Unit as CodeUnit}
use Rattle.cfi_unit.specs.declared.unit.Unit.TheVariants as units
use Rattle.cfi_aux.specs.declared.placed.Placed.{Placed}
use Rattle.cfi_aux.specs.declared.records.Kind.{Kind}
use Rattle.cfi_graph.specs.declared.fact.Fact.{Fact}
use Rattle.cfi_graph.specs.declared.fact.Fact.TheVariants as facts
use Rattle.cfi_graph.specs.Code.{Stands}
use Rattle.cfi_graph.specs.Calls.{HasKind}
use Rattle.cfi_graph.specs.Facts.{ByName, IsJumpFact, IsBranchFact, IsUnitFact, UnitTells, IsTold, AreFacts}
use Rattle.cfi_graph.specs.Links.{Tell, TellsLinks}
use Rattle.cfi_graph.specs.inner.Flows.{arrow_in, site_in, return_in, pointer_in, entry_in, listed_in, IsFlowOf}
use Rattle.cfi_flow.proofs.RowLemmas.{make_link}
use Rattle.cfi_flow.proofs.PathLemmas.{flip, unflip}

-- ---- members of what a function picks

picked_later : {Y : Type 0} (o : Option Y) (ys : List Y) (y : Y) → Contains ys y → Contains (cons_option o ys) y
picked_later None ys y has = has
picked_later (Some x) ys y has = member_later x ys y has

picked_here : {Y : Type 0} (o : Option Y) (ys : List Y) (y : Y) → o ≡ Some y → Contains (cons_option o ys) y
picked_here None ys y is = absurd (none-some y is)
picked_here (Some x) ys y is =
    subst (λ z. Contains (x ∷ ys) z) (same_Some x y is) (member_first x ys)

picked_cases : {Y : Type 0} (o : Option Y) (ys : List Y) (y : Y) → Contains (cons_option o ys) y
    → (o ≡ Some y) ⊎ Contains ys y
picked_cases None ys y has = inr has
picked_cases (Some x) ys y has =
    elim (member_cases x ys y has) [ inl same ↦ inl (ap (λ z. Some z) same) | inr rest ↦ inr rest ]

member_picked : {X Y : Type 0} (h : X → Option Y) (xs : List X) (x : X) (y : Y) → Contains xs x → h x ≡ Some y
    → Contains (filter_map h xs) y
member_picked h [] x y has is = absurd (no_member x has)
member_picked h (z ∷ zs) x y has is =
    elim (member_cases z zs x has) [
      | inl same ↦ picked_here (h z) (filter_map h zs) y (ap h same ∙ is)
      | inr rest ↦ picked_later (h z) (filter_map h zs) y (member_picked h zs x y rest is)
    ]

from_picked : {X Y : Type 0} (h : X → Option Y) (xs : List X) (y : Y) → Contains (filter_map h xs) y
    → (x : X) × Contains xs x × (h x ≡ Some y)
from_picked h [] y has = absurd (no_member y has)
from_picked h (z ∷ zs) y has =
    elim (picked_cases (h z) (filter_map h zs) y has) [
      | inl is ↦ (z, member_first z zs, is)
      | inr rest ↦ let found = from_picked h zs y rest in (found.0, member_later z zs found.0 found.1, found.2)
    ]

-- ---- facts by their links

pub arrow_only : (fact : Fact) (l : Link) → arrow_in fact ≡ Some l → facts.Arrow l ≡ fact
arrow_only (facts.Arrow k) l is = ap facts.Arrow (sym (same_Some k l is))
arrow_only (facts.Site k) l is = absurd (none-some l is)
arrow_only (facts.Return k) l is = absurd (none-some l is)
arrow_only (facts.Pointer k) l is = absurd (none-some l is)
arrow_only (facts.Entry k) l is = absurd (none-some l is)
arrow_only (facts.Listed k) l is = absurd (none-some l is)

pub site_only : (fact : Fact) (l : Link) → site_in fact ≡ Some l → facts.Site l ≡ fact
site_only (facts.Site k) l is = ap facts.Site (sym (same_Some k l is))
site_only (facts.Arrow k) l is = absurd (none-some l is)
site_only (facts.Return k) l is = absurd (none-some l is)
site_only (facts.Pointer k) l is = absurd (none-some l is)
site_only (facts.Entry k) l is = absurd (none-some l is)
site_only (facts.Listed k) l is = absurd (none-some l is)

pub return_only : (fact : Fact) (l : Link) → return_in fact ≡ Some l → facts.Return l ≡ fact
return_only (facts.Return k) l is = ap facts.Return (sym (same_Some k l is))
return_only (facts.Arrow k) l is = absurd (none-some l is)
return_only (facts.Site k) l is = absurd (none-some l is)
return_only (facts.Pointer k) l is = absurd (none-some l is)
return_only (facts.Entry k) l is = absurd (none-some l is)
return_only (facts.Listed k) l is = absurd (none-some l is)

pub pointer_only : (fact : Fact) (l : Link) → pointer_in fact ≡ Some l → facts.Pointer l ≡ fact
pointer_only (facts.Pointer k) l is = ap facts.Pointer (sym (same_Some k l is))
pointer_only (facts.Arrow k) l is = absurd (none-some l is)
pointer_only (facts.Site k) l is = absurd (none-some l is)
pointer_only (facts.Return k) l is = absurd (none-some l is)
pointer_only (facts.Entry k) l is = absurd (none-some l is)
pointer_only (facts.Listed k) l is = absurd (none-some l is)

pub entry_only : (fact : Fact) (l : Link) → entry_in fact ≡ Some l → facts.Entry l ≡ fact
entry_only (facts.Entry k) l is = ap facts.Entry (sym (same_Some k l is))
entry_only (facts.Arrow k) l is = absurd (none-some l is)
entry_only (facts.Site k) l is = absurd (none-some l is)
entry_only (facts.Return k) l is = absurd (none-some l is)
entry_only (facts.Pointer k) l is = absurd (none-some l is)
entry_only (facts.Listed k) l is = absurd (none-some l is)

pub listed_only : (fact : Fact) (l : Link) → listed_in fact ≡ Some l → facts.Listed l ≡ fact
listed_only (facts.Listed k) l is = ap facts.Listed (sym (same_Some k l is))
listed_only (facts.Arrow k) l is = absurd (none-some l is)
listed_only (facts.Site k) l is = absurd (none-some l is)
listed_only (facts.Return k) l is = absurd (none-some l is)
listed_only (facts.Pointer k) l is = absurd (none-some l is)
listed_only (facts.Entry k) l is = absurd (none-some l is)

-- ---- links

-- the links that are picked of facts
pub by_pick : (make : Link → Fact) (pick : Fact → Option Link) → ((l : Link) → pick (make l) ≡ Some l)
    → ((fact : Fact) (l : Link) → pick fact ≡ Some l → make l ≡ fact) → (list : List Fact) (a b : ℕ)
    → Links (filter_map pick list) a b ↔ Contains list (make (make_link a b))
by_pick make pick gives only list a b = (
  λ has.
      let found = from_picked pick list (make_link a b) has in
      subst (λ fact. Contains list fact) (sym (only found.0 (make_link a b) found.2)) found.1,
  λ has. member_picked pick list (make (make_link a b)) (make_link a b) has (gives (make_link a b)),
)

-- the links of a flow
abbrev pub links_of : Flow → Kept
links_of flow = record {
  nodes = flow.nodes;
  arrows = flow.arrows.items;
  sites = flow.sites.items;
  returns = flow.returns.items;
  pointers = flow.pointers.items;
  entries = flow.entries.items;
  widenings = flow.widenings.items;
  listed = flow.listed.items;
  edges = [];
}

-- a flow that says what the modules tell
abbrev pub TellsFlow : (ms : List Placed) (imports : ByName) (classes : List (List ℕ)) (flow : Flow) → Type 0
TellsFlow ms imports classes flow = TellsLinks ms imports classes (links_of flow)

-- control goes along a flow as along its links
pub goes_along : (flow : Flow) (slot address : ℕ) → Goes flow slot address → GoesAlong (links_of flow) slot address
goes_along flow slot address goes =
    elim goes [
      | inl listed ↦ inl listed
      | inr by ↦ elim by.1 [
        | inl p ↦ inr (by.0, inl (record { entry = p.entry; pointing = p.pointing; wider = p.wider; pointer = p.pointer }))
        | inr r ↦ inr (by.0, inr (record { site = r.site; returning = r.returning; reached = r.reached; back = r.back }))
      ]
    ]

pub along_goes : (flow : Flow) (slot address : ℕ) → GoesAlong (links_of flow) slot address → Goes flow slot address
along_goes flow slot address goes =
    elim goes [
      | inl listed ↦ inl listed
      | inr by ↦ elim by.1 [
        | inl p ↦ inr (by.0, inl (record { entry = p.entry; pointing = p.pointing; wider = p.wider; pointer = p.pointer }))
        | inr r ↦ inr (by.0, inr (record { site = r.site; returning = r.returning; reached = r.reached; back = r.back }))
      ]
    ]

module _ (ms : List Placed) (imports : ByName) (classes : List (List ℕ)) (list : List Fact) (are : AreFacts ms imports classes list) where
  told_by : (make : Link → Fact) (pick : Fact → Option Link) (links : List Link)
      → links ≡ filter_map pick list → ((l : Link) → pick (make l) ≡ Some l)
      → ((fact : Fact) (l : Link) → pick fact ≡ Some l → make l ≡ fact) → Tell ms imports classes make links
  told_by make pick links is gives only a b = (
    λ has. are.sound (make (make_link a b)) ((by_pick make pick gives only list a b).0 (subst (λ ls. Links ls a b) is has)),
    λ told.
        subst (λ ls. Links ls a b) (sym is)
        ((by_pick make pick gives only list a b).1 (are.whole (make (make_link a b)) told)),
  )

  told_arrow : Tell ms imports classes (λ l. facts.Arrow l) (filter_map arrow_in list)
  told_arrow = told_by (λ l. facts.Arrow l) arrow_in (filter_map arrow_in list) refl (λ l. refl) arrow_only

  from_arrow : (widenings : List Link) (a b : ℕ) → Links (filter_map arrow_in list ++ map flipped widenings) a b
      → IsTold ms imports classes (facts.Arrow (make_link a b)) ⊎ Links widenings b a
  from_arrow widenings a b has =
      elim (Contains-append_cases (filter_map arrow_in list) (map flipped widenings) (make_link a b) has) [
        | inl told ↦ inl ((told_arrow a b).0 told)
        | inr back ↦ inr (unflip widenings a b back)
      ]

  to_arrow : (widenings : List Link) (a b : ℕ)
      → IsTold ms imports classes (facts.Arrow (make_link a b)) ⊎ Links widenings b a
      → Links (filter_map arrow_in list ++ map flipped widenings) a b
  to_arrow widenings a b is =
      elim is [
        | inl told ↦ Contains-append_left (filter_map arrow_in list) (map flipped widenings) (make_link a b)
            ((told_arrow a b).1 told)
        | inr back ↦ Contains-append_right (filter_map arrow_in list) (map flipped widenings) (make_link a b)
            (flip widenings b a back)
      ]

  -- ---- the flow

  pub tells_flow : (widenings : List Link) (nodes : ℕ) (flow : Flow) → IsFlowOf list widenings nodes flow
      → TellsFlow ms imports classes flow
  tells_flow widenings nodes flow is = record {
    arrows = λ a b. (
      λ has.
          subst (λ ws. IsTold ms imports classes (facts.Arrow (make_link a b)) ⊎ Links ws b a) (sym is.widenings)
          (from_arrow widenings a b (subst (λ ls. Links ls a b) is.arrows has)),
      λ arrow.
          subst (λ ls. Links ls a b) (sym is.arrows)
          (to_arrow widenings a b
          (subst (λ ws. IsTold ms imports classes (facts.Arrow (make_link a b)) ⊎ Links ws b a) is.widenings arrow)),
    );
    sites = told_by (λ l. facts.Site l) site_in flow.sites.items is.sites (λ l. refl) site_only;
    returns = told_by (λ l. facts.Return l) return_in flow.returns.items is.returns (λ l. refl) return_only;
    pointers = told_by (λ l. facts.Pointer l) pointer_in flow.pointers.items is.pointers (λ l. refl) pointer_only;
    entries = told_by (λ l. facts.Entry l) entry_in flow.entries.items is.entries (λ l. refl) entry_only;
    listed = told_by (λ l. facts.Listed l) listed_in flow.listed.items is.listed (λ l. refl) listed_only;
  }

-- ---- units

-- a check of the module tells the fact
pub record CheckTells (imports : ByName) (classes : List (List ℕ)) (number : ℕ) (m : Placed) (fact : Fact) : Type 0 where
  pub at : ℕ
  pub linked : Bool
  pub rs1 : ℕ
  pub imm : ℤ
  pub slot : ℕ
  pub stands : Stands m at (units.Check linked rs1 imm slot)
  pub kind : Kind
  pub has : HasKind m slot kind
  pub tells : IsBranchFact imports classes number m at slot kind fact

-- a direct jump of the module tells it
pub record JumpTells (m : Placed) (fact : Fact) : Type 0 where
  pub at : ℕ
  pub linked : Bool
  pub off : ℤ
  pub stands : Stands m at (units.Jump linked off)
  pub tells : IsJumpFact m at linked off fact

check_or_jump : (imports : ByName) (classes : List (List ℕ)) (number : ℕ) (m : Placed) (fact : Fact) (at : ℕ) (unit : CodeUnit)
    → Stands m at unit → IsUnitFact imports classes number m at unit fact
    → CheckTells imports classes number m fact ⊎ JumpTells m fact
check_or_jump imports classes number m fact at (units.Check linked rs1 imm slot) stands told = inl (record {
  at = at;
  linked = linked;
  rs1 = rs1;
  imm = imm;
  slot = slot;
  stands = stands;
  kind = told.0;
  has = told.1;
  tells = told.2;
})
check_or_jump imports classes number m fact at (units.Jump linked off) stands told =
    inr (record { at = at; linked = linked; off = off; stands = stands; tells = told })
check_or_jump imports classes number m fact at (units.Plain insn) stands told = absurd told
check_or_jump imports classes number m fact at (units.Load kind rd rs1 imm) stands told = absurd told
check_or_jump imports classes number m fact at (units.Store kind rs1 rs2 imm) stands told = absurd told
check_or_jump imports classes number m fact at (units.Branch cond rs1 rs2 off) stands told = absurd told
check_or_jump imports classes number m fact at units.Service stands told = absurd told

-- a unit that tells something is a check or a jump
pub unit_cases : (imports : ByName) (classes : List (List ℕ)) (number : ℕ) (m : Placed) (fact : Fact) → UnitTells imports classes number m fact
    → CheckTells imports classes number m fact ⊎ JumpTells m fact
unit_cases imports classes number m fact t = check_or_jump imports classes number m fact t.at t.unit t.stands t.tells
