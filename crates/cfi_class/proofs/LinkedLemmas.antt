-- Ends that are linked: along the edges on from one to the next, and what the first and the last edge tell.
use Rattle.std.proofs.Common.{◌≡◌, ◌⊎◌, ℕ, zero, suc, refl, subst, inl, inr}
use Rattle.cfi_word.specs.Chain.{ChainOf}
use Rattle.cfi_class.specs.Labels.{IsReached, IsUsed}
use Rattle.cfi_class.specs.inner.Linked.{End, Linked}
use Rattle.cfi_class.specs.inner.Linked.End.{Slot, Address}
use Rattle.cfi_class.specs.inner.Linked.Linked.{same, to_address, to_slot}

address_of : {one other : ℕ} → Address one ≡ Address other → one ≡ other
address_of is = cc

module _ (joins : (slot address : ℕ) → Type 0) where
  -- one way after the other
  pub Linked-append : {one middle other : End} → Linked joins one middle → Linked joins middle other
      → Linked joins one other
  Linked-append same rest = rest
  Linked-append (to_address edge way) rest = to_address edge (Linked-append way rest)
  Linked-append (to_slot edge way) rest = to_slot edge (Linked-append way rest)

  -- a slot from which there is a way to another end has an edge
  pub first_edge : {slot : ℕ} {other : End} → Linked joins (Slot slot) other
      → (Slot slot ≡ other) ⊎ IsUsed joins slot
  first_edge same = inl refl
  first_edge (to_address edge way) = inr (_, edge)

  -- an address to which there is a way from another end has an edge
  pub last_edge : {one : End} {address : ℕ} → Linked joins one (Address address)
      → (one ≡ Address address) ⊎ IsReached joins address
  last_edge same = inl refl
  last_edge (to_address edge way) =
      elim (last_edge way) [
        | inl here ↦ inr (subst (IsReached joins) (address_of here) (_, edge))
        | inr before ↦ inr before
      ]
  last_edge (to_slot edge way) =
      elim (last_edge way) [
        | inl here ↦ inl (absurd (cc))
        | inr before ↦ inr before
      ]

  -- a way from a slot to an address is a chain
  pub chain_from_Linked : {slot address : ℕ} → Linked joins (Slot slot) (Address address)
      → (more : ℕ) × ChainOf joins more slot address
  chain_from_Linked (to_address edge same) = (0, edge)
  chain_from_Linked (to_address edge (to_slot back way)) =
      let rest = chain_from_Linked way in (suc rest.0, (_, _, edge, back, rest.1))

  -- and a chain is such a way
  pub Linked-from_chain : (more : ℕ) {slot address : ℕ} → ChainOf joins more slot address
      → Linked joins (Slot slot) (Address address)
  Linked-from_chain zero edge = to_address edge same
  Linked-from_chain (suc more) (shared, other, edge, back, rest) =
      to_address edge (to_slot back (Linked-from_chain more rest))

  -- the way back
  pub Linked-back : {one other : End} → Linked joins one other → Linked joins other one
  Linked-back same = same
  Linked-back (to_address edge way) = Linked-append (Linked-back way) (to_slot edge same)
  Linked-back (to_slot edge way) = Linked-append (Linked-back way) (to_address edge same)

-- a way stays one where there are more edges
pub Linked-map : (old new : (slot address : ℕ) → Type 0) → ((slot address : ℕ) → old slot address → new slot address)
    → {one other : End} → Linked old one other → Linked new one other
Linked-map old new more same = same
Linked-map old new more (to_address edge way) = to_address (more _ _ edge) (Linked-map old new more way)
Linked-map old new more (to_slot edge way) = to_slot (more _ _ edge) (Linked-map old new more way)
