-- What jumps, branches and functions tell, as the facts that are added for them.
use Rattle.std.proofs.Common.{◌≡◌, ◌⊎◌, ◌∙◌, ℕ, ◌+◌, Bool, false, ℤ, List, [], ◌∷◌, ◌++◌, Some, None, refl, sym, ap, subst, inl, inr}
use Rattle.std.specs.List.{AllPairs}
use Rattle.std.proofs.lemmas.Option.{none-some, same_Some}
use Rattle.cfi_flow.proofs.RowLemmas.{make_link, link_is}
use Rattle.cfi_aux.specs.declared.placed.Placed.{Placed}
use Rattle.cfi_aux.specs.declared.records.Kind.TheVariants as kinds
use Rattle.cfi_graph.specs.declared.fact.Fact.{Fact}
use Rattle.cfi_graph.specs.declared.fact.Fact.TheVariants as facts
use Rattle.cfi_graph.specs.Shaped.{FunctionPrecedes}
use Rattle.cfi_graph.specs.Facts.{ByName, type_node, word_of, LeadsToWord, IsFirst, LiesInNode, IsJumpFact, IsBranchFact, Adds}
use Rattle.cfi_graph.proofs.AddsLemmas.{adds_one, adds_two}
use Rattle.cfi_graph.proofs.PlaceLemmas.{word_one, first_one}

-- ---- jumps

-- the facts of a word that lies in no function
module _ (m : Placed) (at : ℕ) (no_first : (first : ℕ) → IsFirst m.functions at first → ⊥) where
  nowhere_arrow : (off : ℤ) (fact : Fact) → IsJumpFact m at false off fact → ⊥
  nowhere_arrow off (facts.Arrow l) told = no_first told.0.0 told.0.1
  nowhere_arrow off (facts.Site l) told = told
  nowhere_arrow off (facts.Return l) told = told
  nowhere_arrow off (facts.Pointer l) told = told
  nowhere_arrow off (facts.Entry l) told = told
  nowhere_arrow off (facts.Listed l) told = told

  pub jump_lies_nowhere : (linked : Bool) (off : ℤ) → linked ≡ false → (fact : Fact)
      → IsJumpFact m at linked off fact → ⊥
  jump_lies_nowhere linked off is fact told =
      nowhere_arrow off fact (subst (λ l. IsJumpFact m at l off fact) is told)

  pub nowhere_return : (imports : ByName) (classes : List (List ℕ)) (number slot : ℕ) (fact : Fact)
      → IsBranchFact imports classes number m at slot kinds.Return fact → ⊥
  nowhere_return imports classes number slot (facts.Return l) told = no_first told.0.0 told.0.1
  nowhere_return imports classes number slot (facts.Arrow l) told = told
  nowhere_return imports classes number slot (facts.Site l) told = told
  nowhere_return imports classes number slot (facts.Pointer l) told = told
  nowhere_return imports classes number slot (facts.Entry l) told = told
  nowhere_return imports classes number slot (facts.Listed l) told = told

  nowhere_tail : (imports : ByName) (classes : List (List ℕ)) (number slot node : ℕ) (fact : Fact)
      → IsBranchFact imports classes number m at slot (kinds.Tail node) fact
      → facts.Pointer (make_link (type_node classes number node) slot) ≡ fact
  nowhere_tail imports classes number slot node (facts.Pointer l) told =
      ap facts.Pointer (sym (link_is l (type_node classes number node) slot told.0 told.1))
  nowhere_tail imports classes number slot node (facts.Arrow l) told = absurd (no_first told.0.0 told.0.1)
  nowhere_tail imports classes number slot node (facts.Site l) told = absurd told
  nowhere_tail imports classes number slot node (facts.Return l) told = absurd told
  nowhere_tail imports classes number slot node (facts.Entry l) told = absurd told
  nowhere_tail imports classes number slot node (facts.Listed l) told = absurd told

  pub tail_adds_one : (imports : ByName) (classes : List (List ℕ)) (number slot node to : ℕ) (old : List Fact)
      → to ≡ type_node classes number node
      → Adds old (old ++ facts.Pointer (make_link to slot) ∷ [])
      (IsBranchFact imports classes number m at slot (kinds.Tail node))
  tail_adds_one imports classes number slot node to old is =
      subst (λ t. Adds old (old ++ facts.Pointer (make_link t slot) ∷ [])
      (IsBranchFact imports classes number m at slot (kinds.Tail node))) (sym is)
      (adds_one old (facts.Pointer (make_link (type_node classes number node) slot))
      (IsBranchFact imports classes number m at slot (kinds.Tail node)) (refl, refl)
      (nowhere_tail imports classes number slot node))

  nowhere_import : (imports : ByName) (classes : List (List ℕ)) (number slot cell : ℕ) (name : List ℕ) (address : ℕ)
      → imports name ≡ Some address → (fact : Fact)
      → IsBranchFact imports classes number m at slot (kinds.Import name cell) fact
      → facts.Listed (make_link slot address) ≡ fact
  nowhere_import imports classes number slot cell name address is (facts.Listed l) told =
      ap facts.Listed (sym (link_is l slot address told.0 (same_Some l.to address (sym told.1 ∙ is))))
  nowhere_import imports classes number slot cell name address is (facts.Arrow l) told =
      absurd (no_first told.0.0 told.0.1)
  nowhere_import imports classes number slot cell name address is (facts.Site l) told = absurd told
  nowhere_import imports classes number slot cell name address is (facts.Return l) told = absurd told
  nowhere_import imports classes number slot cell name address is (facts.Pointer l) told = absurd told
  nowhere_import imports classes number slot cell name address is (facts.Entry l) told = absurd told

  pub import_adds_one : (imports : ByName) (classes : List (List ℕ)) (number slot cell : ℕ) (name : List ℕ)
      (address : ℕ) → imports name ≡ Some address → (old : List Fact)
      → Adds old (old ++ facts.Listed (make_link slot address) ∷ [])
      (IsBranchFact imports classes number m at slot (kinds.Import name cell))
  import_adds_one imports classes number slot cell name address is old =
      adds_one old (facts.Listed (make_link slot address))
      (IsBranchFact imports classes number m at slot (kinds.Import name cell)) (refl, is)
      (nowhere_import imports classes number slot cell name address is)

-- an import of a name that no function has tells nothing
pub no_import : (m : Placed) (at : ℕ) (imports : ByName) (classes : List (List ℕ)) (number slot cell : ℕ)
    (name : List ℕ) → imports name ≡ None → (fact : Fact)
    → IsBranchFact imports classes number m at slot (kinds.Import name cell) fact → ⊥
no_import m at imports classes number slot cell name none (facts.Listed l) told =
    none-some l.to (sym none ∙ told.1)
no_import m at imports classes number slot cell name none (facts.Arrow l) (lies, (address, there, word)) =
    none-some address (sym none ∙ there)
no_import m at imports classes number slot cell name none (facts.Site l) told = told
no_import m at imports classes number slot cell name none (facts.Return l) told = told
no_import m at imports classes number slot cell name none (facts.Pointer l) told = told
no_import m at imports classes number slot cell name none (facts.Entry l) told = told

-- the facts of a word that lies in a function
module _ (m : Placed) (order : AllPairs FunctionPrecedes m.functions) (at first : ℕ)
    (is_first : IsFirst m.functions at first) where
  lies : LiesInNode m at (m.base + first)
  lies = (first, is_first, refl)

  same_node : (node : ℕ) → LiesInNode m at node → node ≡ m.base + first
  same_node node (one, is, e) =
      e ∙ ap (λ k. m.base + k) (first_one m.functions order at one first is is_first)

  one_arrow : (off : ℤ) (word : ℕ) → LeadsToWord (m.base + at) off word → (fact : Fact)
      → IsJumpFact m at false off fact → facts.Arrow (make_link (m.base + first) word) ≡ fact
  one_arrow off word leads (facts.Arrow l) told =
      ap facts.Arrow (sym (link_is l (m.base + first) word (same_node l.from told.0)
      (word_one (m.base + at) off l.to word told.1 leads)))
  one_arrow off word leads (facts.Site l) told = absurd told
  one_arrow off word leads (facts.Return l) told = absurd told
  one_arrow off word leads (facts.Pointer l) told = absurd told
  one_arrow off word leads (facts.Entry l) told = absurd told
  one_arrow off word leads (facts.Listed l) told = absurd told

  pub arrow_adds : (linked : Bool) (off : ℤ) (word : ℕ) (old : List Fact) → linked ≡ false
      → LeadsToWord (m.base + at) off word
      → Adds old (old ++ facts.Arrow (make_link (m.base + first) word) ∷ []) (IsJumpFact m at linked off)
  arrow_adds linked off word old is leads =
      subst (λ l. Adds old (old ++ facts.Arrow (make_link (m.base + first) word) ∷ []) (IsJumpFact m at l off)) (sym is)
      (adds_one old (facts.Arrow (make_link (m.base + first) word)) (IsJumpFact m at false off) (lies, leads)
      (one_arrow off word leads))

  one_return : (imports : ByName) (classes : List (List ℕ)) (number slot : ℕ) (fact : Fact)
      → IsBranchFact imports classes number m at slot kinds.Return fact → facts.Return (make_link (m.base + first) slot) ≡ fact
  one_return imports classes number slot (facts.Return l) told =
      ap facts.Return (sym (link_is l (m.base + first) slot (same_node l.from told.0) told.1))
  one_return imports classes number slot (facts.Arrow l) told = absurd told
  one_return imports classes number slot (facts.Site l) told = absurd told
  one_return imports classes number slot (facts.Pointer l) told = absurd told
  one_return imports classes number slot (facts.Entry l) told = absurd told
  one_return imports classes number slot (facts.Listed l) told = absurd told

  pub return_adds : (imports : ByName) (classes : List (List ℕ)) (number slot : ℕ) (old : List Fact)
      → Adds old (old ++ facts.Return (make_link (m.base + first) slot) ∷ [])
      (IsBranchFact imports classes number m at slot kinds.Return)
  return_adds imports classes number slot old =
      adds_one old (facts.Return (make_link (m.base + first) slot)) (IsBranchFact imports classes number m at slot kinds.Return)
      (lies, refl) (one_return imports classes number slot)

  two_of_tail : (imports : ByName) (classes : List (List ℕ)) (number slot node : ℕ) (fact : Fact)
      → IsBranchFact imports classes number m at slot (kinds.Tail node) fact
      → (facts.Pointer (make_link (type_node classes number node) slot) ≡ fact)
      ⊎ (facts.Arrow (make_link (m.base + first) (type_node classes number node)) ≡ fact)
  two_of_tail imports classes number slot node (facts.Pointer l) told =
      inl (ap facts.Pointer (sym (link_is l (type_node classes number node) slot told.0 told.1)))
  two_of_tail imports classes number slot node (facts.Arrow l) told =
      inr (ap facts.Arrow (sym (link_is l (m.base + first) (type_node classes number node)
      (same_node l.from told.0) told.1)))
  two_of_tail imports classes number slot node (facts.Site l) told = absurd told
  two_of_tail imports classes number slot node (facts.Return l) told = absurd told
  two_of_tail imports classes number slot node (facts.Entry l) told = absurd told
  two_of_tail imports classes number slot node (facts.Listed l) told = absurd told

  pub tail_adds_two : (imports : ByName) (classes : List (List ℕ)) (number slot node to : ℕ) (old : List Fact)
      → to ≡ type_node classes number node
      → Adds old ((old ++ facts.Pointer (make_link to slot) ∷ []) ++ facts.Arrow (make_link (m.base + first) to) ∷ [])
      (IsBranchFact imports classes number m at slot (kinds.Tail node))
  tail_adds_two imports classes number slot node to old is =
      subst (λ t. Adds old
      ((old ++ facts.Pointer (make_link t slot) ∷ []) ++ facts.Arrow (make_link (m.base + first) t) ∷ [])
      (IsBranchFact imports classes number m at slot (kinds.Tail node))) (sym is)
      (adds_two old (facts.Pointer (make_link (type_node classes number node) slot))
      (facts.Arrow (make_link (m.base + first) (type_node classes number node)))
      (IsBranchFact imports classes number m at slot (kinds.Tail node)) (refl, refl) (lies, refl)
      (two_of_tail imports classes number slot node))

  two_of_import : (imports : ByName) (classes : List (List ℕ)) (number slot cell : ℕ) (name : List ℕ) (address : ℕ)
      → imports name ≡ Some address → (fact : Fact)
      → IsBranchFact imports classes number m at slot (kinds.Import name cell) fact
      → (facts.Listed (make_link slot address) ≡ fact)
      ⊎ (facts.Arrow (make_link (m.base + first) (word_of address)) ≡ fact)
  two_of_import imports classes number slot cell name address is (facts.Listed l) told =
      inl (ap facts.Listed (sym (link_is l slot address told.0 (same_Some l.to address (sym told.1 ∙ is)))))
  two_of_import imports classes number slot cell name address is (facts.Arrow l) (there, (other, also, word)) =
      let same : other ≡ address = same_Some other address (sym also ∙ is) in
      inr (ap facts.Arrow (sym (link_is l (m.base + first) (word_of address) (same_node l.from there)
      (word ∙ ap word_of same))))
  two_of_import imports classes number slot cell name address is (facts.Site l) told = absurd told
  two_of_import imports classes number slot cell name address is (facts.Return l) told = absurd told
  two_of_import imports classes number slot cell name address is (facts.Pointer l) told = absurd told
  two_of_import imports classes number slot cell name address is (facts.Entry l) told = absurd told

  pub import_adds_two : (imports : ByName) (classes : List (List ℕ)) (number slot cell : ℕ) (name : List ℕ)
      (address : ℕ) → imports name ≡ Some address → (old : List Fact)
      → Adds old ((old ++ facts.Listed (make_link slot address) ∷ [])
      ++ facts.Arrow (make_link (m.base + first) (word_of address)) ∷ [])
      (IsBranchFact imports classes number m at slot (kinds.Import name cell))
  import_adds_two imports classes number slot cell name address is old =
      adds_two old (facts.Listed (make_link slot address))
      (facts.Arrow (make_link (m.base + first) (word_of address)))
      (IsBranchFact imports classes number m at slot (kinds.Import name cell)) (refl, is) (lies, (address, is, refl))
      (two_of_import imports classes number slot cell name address is)
