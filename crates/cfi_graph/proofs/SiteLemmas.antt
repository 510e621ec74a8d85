-- Where calls come back: what is told of an address is told by one unit.
use Rattle.std.proofs.Common.{◌≡◌, ◌∙◌, ℕ, zero, suc, ◌+◌, ◌-◌, Bool, true, false, ℤ, List, [], ◌∷◌, Some, sym, ap, subst, inl, inr, arith}
use Rattle.std.specs.Prelude.{slice_get}
use Rattle.std.proofs.lemmas.Bool.{cases_lt}
use Rattle.std.proofs.lemmas.Option.{none-some, same_Some, slice_get_within}
use Rattle.cfi_flow.proofs.RowLemmas.{make_link}
use Rattle.cfi_unit.specs.declared.unit.Unit.{Unit as CodeUnit}
use Rattle.cfi_unit.specs.declared.unit.Unit.TheVariants as units
use Rattle.cfi_unit.specs.Unit.{size_of}
use Rattle.cfi_unit.specs.Spots.{place_of}
use Rattle.cfi_unit.proofs.CodeLemmas.{UnitCode-one}
use Rattle.cfi_unit.proofs.UnitLemmas.{size_pos}
use Rattle.cfi_aux.specs.declared.placed.Placed.{Placed}
use Rattle.cfi_aux.specs.declared.records.Kind.{Kind}
use Rattle.cfi_aux.specs.declared.records.Kind.TheVariants as kinds
use Rattle.cfi_graph.specs.declared.fact.Fact.TheVariants as facts
use Rattle.cfi_graph.specs.Code.{Stands, code_address}
use Rattle.cfi_graph.specs.Shaped.{AreApart}
use Rattle.cfi_graph.specs.Calls.{HasKind}
use Rattle.cfi_graph.specs.Facts.{ByName, type_node, LeadsToWord, IsJumpFact, IsBranchFact, IsTold}
use Rattle.cfi_graph.proofs.BoundLemmas.{place_less, place_next, stands_within}
use Rattle.cfi_graph.proofs.NodeLemmas.{number_one}
use Rattle.cfi_graph.proofs.PlaceLemmas.{word_one}
use Rattle.cfi_graph.proofs.ReadLemmas.{unit_cases}

-- ---- units by where they end

-- a unit ends where the next one begins
ends_next : (code : List CodeUnit) (k : ℕ) (unit : CodeUnit) → slice_get code k ≡ Some unit
    → place_of code (k + 1) ≡ place_of code k + size_of unit
ends_next [] k unit is = absurd (none-some unit is)
ends_next (first ∷ code) zero unit is =
    let same : first ≡ unit = same_Some first unit is in
    let size : size_of first ≡ size_of unit = ap size_of same in
    let next = place_next first code 0 in
    omega (arith, size, next)
ends_next (first ∷ code) (suc k) unit is =
    let rest = ends_next code k unit is in
    let one = place_next first code k in
    let two = place_next first code (k + 1) in
    let next : suc k + 1 ≡ suc (k + 1) = omega arith in
    let here = ap (place_of (first ∷ code)) next in
    omega (arith, rest, one, two, here)

-- units of one code that end at one place are one
same_place : (code : List CodeUnit) (i j : ℕ) (one other : CodeUnit) → slice_get code i ≡ Some one
    → slice_get code j ≡ Some other → place_of code i + size_of one ≡ place_of code j + size_of other → i ≡ j
same_place code i j one other one_is other_is same =
    let end_i = ends_next code i one one_is in
    let end_j = ends_next code j other other_is in
    let i_in = slice_get_within code i one one_is in
    let j_in = slice_get_within code j other other_is in
    elim (cases_lt i j) [
      | inl less ↦
          let before = place_less code (i + 1) (j + 1) (omega (arith, less)) (omega (arith, j_in)) in
          absurd (omega (arith, before, end_i, end_j, same))
      | inr more ↦ elim (cases_lt j i) [
        | inl less ↦
            let before = place_less code (j + 1) (i + 1) (omega (arith, less)) (omega (arith, i_in)) in
            absurd (omega (arith, before, end_i, end_j, same))
        | inr least ↦ omega (arith, more, least)
      ]
    ]

-- units of a module that end at one word are one, at one word
pub record IsOneUnit (at other_at : ℕ) (unit other : CodeUnit) : Type 0 where
  pub at_is : at ≡ other_at
  pub unit_is : unit ≡ other

one_unit : (m : Placed) (at other_at : ℕ) (unit other : CodeUnit) → Stands m at unit → Stands m other_at other
    → at + size_of unit ≡ other_at + size_of other → IsOneUnit at other_at unit other
one_unit m at other_at unit other s t same =
    let code : t.code ≡ s.code = UnitCode-one m.words t.code s.code t.units s.units in
    let is : slice_get s.code t.number ≡ Some other = ap (λ c. slice_get c t.number) (sym code) ∙ t.is in
    let place : other_at ≡ place_of s.code t.number = t.place ∙ ap (λ c. place_of c t.number) code in
    let here = s.place in
    let number : s.number ≡ t.number =
    same_place s.code s.number t.number unit other s.is is (omega (arith, here, place, same)) in
    record {
      at_is = here ∙ ap (λ k. place_of s.code k) number ∙ sym place;
      unit_is = same_Some unit other (sym s.is ∙ ap (λ k. slice_get s.code k) number ∙ is);
    }

-- ---- calls by where they come back

-- the unit of a module is a call that enters the node
abbrev IsNode : (classes : List (List ℕ)) → (number : ℕ) (m : Placed) (at : ℕ) → CodeUnit → (node : ℕ) → Type 0
IsNode classes number m at (units.Jump true off) node = LeadsToWord (m.base + at) off node
IsNode classes number m at (units.Check link rs1 imm slot) node =
    (type : ℕ) × HasKind m slot (kinds.Call type) × (node ≡ type_node classes number type)
IsNode classes number m at unit node = ⊥

-- a slot of a module has one kind
pub kind_one : (m : Placed) (slot : ℕ) (one other : Kind) → HasKind m slot one → HasKind m slot other → one ≡ other
kind_one m slot one other (k, k_is, k_has) (l, l_is, l_has) =
    let same : k ≡ l = omega (arith, k_is, l_is) in
    same_Some one other (sym k_has ∙ ap (λ n. slice_get m.branches n) same ∙ l_has)

abbrev type_of : Kind → ℕ
type_of (kinds.Call type) = type
type_of kind = 0

node_one : (classes : List (List ℕ)) (number : ℕ) (m : Placed) (at : ℕ) (unit : CodeUnit) (one other : ℕ)
    → IsNode classes number m at unit one → IsNode classes number m at unit other → one ≡ other
node_one classes number m at (units.Jump true off) one other a b = word_one (m.base + at) off one other a b
node_one classes number m at (units.Jump false off) one other a b = absurd a
node_one classes number m at (units.Check link rs1 imm slot) one other (t, t_has, t_is) (u, u_has, u_is) =
    let same : t ≡ u = ap type_of (kind_one m slot (kinds.Call t) (kinds.Call u) t_has u_has) in
    t_is ∙ ap (λ k. type_node classes number k) same ∙ sym u_is
node_one classes number m at (units.Plain insn) one other a b = absurd a
node_one classes number m at (units.Load kind rd rs1 imm) one other a b = absurd a
node_one classes number m at (units.Store kind rs1 rs2 imm) one other a b = absurd a
node_one classes number m at (units.Branch cond rs1 rs2 off) one other a b = absurd a
node_one classes number m at units.Service one other a b = absurd a

module _ (ms : List Placed) (imports : ByName) (classes : List (List ℕ)) (apart : AreApart ms) where
  -- a unit that tells where a call comes back
  record IsSite (node address : ℕ) : Type 0 where
    pub number : ℕ
    pub owner : Placed
    pub is : slice_get ms number ≡ Some owner
    pub at : ℕ
    pub unit : CodeUnit
    pub stands : Stands owner at unit
    pub ends : address ≡ code_address owner (at + size_of unit)
    pub enters : IsNode classes number owner at unit node

  site_jump : (number : ℕ) (m : Placed) → slice_get ms number ≡ Some m → (at : ℕ) (linked : Bool) (off : ℤ)
      → Stands m at (units.Jump linked off) → (node address : ℕ)
      → IsJumpFact m at linked off (facts.Site (make_link node address)) → IsSite node address
  site_jump number m is at true off stands node address told = record {
    number = number;
    owner = m;
    is = is;
    at = at;
    unit = units.Jump true off;
    stands = stands;
    ends = told.1;
    enters = told.0;
  }
  site_jump number m is at false off stands node address told = absurd told

  site_check : (number : ℕ) (m : Placed) → slice_get ms number ≡ Some m → (at : ℕ) (linked : Bool) (rs1 : ℕ) (imm : ℤ)
      (slot : ℕ) → Stands m at (units.Check linked rs1 imm slot) → (kind : Kind) → HasKind m slot kind
      → (node address : ℕ) → IsBranchFact imports classes number m at slot kind (facts.Site (make_link node address))
      → IsSite node address
  site_check number m is at linked rs1 imm slot stands (kinds.Call type) has node address told = record {
    number = number;
    owner = m;
    is = is;
    at = at;
    unit = units.Check linked rs1 imm slot;
    stands = stands;
    ends = told.1;
    enters = (type, has, told.0);
  }
  site_check number m is at linked rs1 imm slot stands (kinds.Tail type) has node address told = absurd told
  site_check number m is at linked rs1 imm slot stands kinds.Return has node address told = absurd told
  site_check number m is at linked rs1 imm slot stands (kinds.Switch entries) has node address told = absurd told
  site_check number m is at linked rs1 imm slot stands (kinds.Import name cell) has node address told = absurd told

  site_told : (node address : ℕ) → IsTold ms imports classes (facts.Site (make_link node address)) → IsSite node address
  site_told node address told =
      elim told.tells [
        | inl unit ↦ elim (unit_cases imports classes told.number told.owner (facts.Site (make_link node address)) unit) [
          | inl check ↦
              site_check told.number told.owner told.is check.at check.linked check.rs1 check.imm check.slot check.stands
              check.kind check.has node address check.tells
          | inr jump ↦
              site_jump told.number told.owner told.is jump.at jump.linked jump.off jump.stands node address jump.tells
        ]
        | inr function ↦ absurd function.tells
      ]

  pub one_site : (one other address : ℕ) → IsTold ms imports classes (facts.Site (make_link one address))
      → IsTold ms imports classes (facts.Site (make_link other address)) → one ≡ other
  one_site one other address a b =
      let s = site_told one address a in
      let t = site_told other address b in
      let s_in = stands_within s.owner s.at s.unit s.stands in
      let t_in = stands_within t.owner t.at t.unit t.stands in
      let s_some = size_pos s.unit in
      let t_some = size_pos t.unit in
      let s_ends = s.ends in
      let t_ends = t.ends in
      let last = s.owner.base + s.at + (size_of s.unit - 1) in
      let number : s.number ≡ t.number =
      number_one ms apart s.number t.number s.owner t.owner s.is t.is last (omega arith)
      (omega (arith, s_in, s_some)) (omega (arith, s_ends, t_ends, s_some, t_some))
      (omega (arith, s_ends, t_ends, t_in, s_some, t_some)) in
      let owner : t.owner ≡ s.owner =
      same_Some t.owner s.owner (sym t.is ∙ ap (λ k. slice_get ms k) (sym number) ∙ s.is) in
      let base : t.owner.base ≡ s.owner.base = ap (λ m. m.base) owner in
      let stands : Stands s.owner t.at t.unit = subst (λ m. Stands m t.at t.unit) owner t.stands in
      let unit = one_unit s.owner s.at t.at s.unit t.unit s.stands stands (omega (arith, s_ends, t_ends, base)) in
      let enters : IsNode classes s.number s.owner s.at s.unit other =
      subst (λ u. IsNode classes s.number s.owner s.at u other) (sym unit.unit_is)
      (subst (λ n. IsNode classes s.number s.owner n t.unit other) (sym unit.at_is)
      (subst (λ m. IsNode classes s.number m t.at t.unit other) owner
      (subst (λ k. IsNode classes k t.owner t.at t.unit other) (sym number) t.enters))) in
      node_one classes s.number s.owner s.at s.unit one other s.enters enters
