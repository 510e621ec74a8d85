-- What modules tell with one more behind them: what they told, and what the one more tells.
use Rattle.std.proofs.Common.{◌≡◌, ◌∙◌, ◌⊎◌, ℕ, ◌<◌, List, [], ◌∷◌, ◌++◌, length, None, Some, sym, ap, subst, inl, inr}
use Rattle.std.specs.Prelude.{slice_get}
use Rattle.std.specs.Option.{option_or}
use Rattle.std.proofs.lemmas.Option.{same_Some, slice_get_within}
use Rattle.cfi_unit.specs.declared.unit.Unit.{Unit as CodeUnit}
use Rattle.cfi_unit.specs.declared.unit.Unit.TheVariants as units
use Rattle.cfi_aux.specs.declared.placed.Placed.{Placed}
use Rattle.cfi_aux.specs.declared.records.Kind.{Kind}
use Rattle.cfi_aux.specs.declared.records.Kind.TheVariants as kinds
use Rattle.cfi_graph.specs.declared.fact.Fact.{Fact}
use Rattle.cfi_graph.specs.Facts.{ByName, AreImports, type_node, IsBranchFact, IsUnitFact, ModuleTells, IsTold}
use Rattle.cfi_graph.specs.More.{IsMetBranch, IsMetFact, IsMoreFact}
use Rattle.cfi_graph.proofs.BoundLemmas.{contains_at, at_contains}
use Rattle.cfi_graph.proofs.FirstLemmas.{none_or_some}
use Rattle.cfi_graph.proofs.NewEdgeLemmas.{imported_on}
use Rattle.cfi_graph.proofs.OneMoreLemmas.{at_first, at_last, at_cases}
use Rattle.cfi_graph.proofs.TellOnLemmas.{LeadsOn, all_lead_on, import_on, branch_on, function_on, module_on}

module _ (ms : List Placed) (m : Placed) (imports before own all : ByName) (classes more : List (List ℕ))
    (named : AreImports ms imports) (known : AreImports ms before) (all_named : AreImports (ms ++ m ∷ []) all)
    (joined : (name : List ℕ) → all name ≡ option_or (before name) (own name))
    (same : (number : ℕ) → number < length ms → (node : ℕ) → type_node classes number node ≡ type_node more number node)
  where
    -- ---- names

    leads_on : (name : List ℕ) → LeadsOn imports all name
    leads_on name address is = (all_named name address).1 (imported_on ms m name address ((named name address).0 is))

    -- a name that led nowhere leads where own functions say
    all_own : (name : List ℕ) → before name ≡ None → all name ≡ own name
    all_own name none = joined name ∙ ap (λ o. option_or o (own name)) none

    -- a name that led somewhere leads there
    leads_back : (name : List ℕ) (address : ℕ) → before name ≡ Some address → LeadsOn all imports name
    leads_back name address is other there =
        let first = (named name address).1 ((known name address).0 is) in
        let same_is : address ≡ other = same_Some address other (sym (leads_on name address first) ∙ there) in
        subst (λ a. imports name ≡ Some a) same_is first

    -- ---- to all modules

    pub told_before : (fact : Fact) → IsTold ms imports classes fact → IsTold (ms ++ m ∷ []) all more fact
    told_before fact told = record {
      number = told.number;
      owner = told.owner;
      is = at_first ms m told.number told.owner told.is;
      tells = module_on imports all classes more told.number
          (same told.number (slice_get_within ms told.number told.owner told.is)) told.owner
          (all_lead_on imports all leads_on told.owner) fact told.tells;
    }

    met_branch : (number : ℕ) (n : Placed) (at slot : ℕ) (kind : Kind) (fact : Fact)
        → IsMetBranch before own n at slot kind fact → IsBranchFact all more number n at slot kind fact
    met_branch number n at slot (kinds.Import name cell) fact (none, told) =
        import_on own all [] more 0 number n at slot name cell (λ address is. all_own name none ∙ is) fact told
    met_branch number n at slot (kinds.Call node) fact met = absurd met
    met_branch number n at slot (kinds.Tail node) fact met = absurd met
    met_branch number n at slot kinds.Return fact met = absurd met
    met_branch number n at slot (kinds.Switch entries) fact met = absurd met

    met_unit : (number : ℕ) (n : Placed) (at : ℕ) (unit : CodeUnit) (fact : Fact) → IsMetFact before own n at unit fact
        → IsUnitFact all more number n at unit fact
    met_unit number n at (units.Check linked rs1 imm slot) fact (kind, has, met) =
        (kind, has, met_branch number n at slot kind fact met)
    met_unit number n at (units.Jump linked off) fact met = absurd met
    met_unit number n at (units.Plain insn) fact met = absurd met
    met_unit number n at (units.Load kind rd rs1 imm) fact met = absurd met
    met_unit number n at (units.Store kind rs1 rs2 imm) fact met = absurd met
    met_unit number n at (units.Branch cond rs1 rs2 off) fact met = absurd met
    met_unit number n at units.Service fact met = absurd met

    -- what the one more tells is told by all
    pub more_told : (fact : Fact) → IsMoreFact before own all ms m more fact → IsTold (ms ++ m ∷ []) all more fact
    more_told fact told =
        elim told [
          | inl met ↦
              let tells = met.meets in
              record {
                number = met.placed.0;
                owner = met.owner;
                is = at_first ms m met.placed.0 met.owner (at_contains ms met.owner met.placed);
                tells = inl (record {
                  at = tells.at;
                  unit = tells.unit;
                  stands = tells.stands;
                  tells = met_unit met.placed.0 met.owner tells.at tells.unit fact tells.tells;
                });
              }
          | inr own_tells ↦ record { number = length ms; owner = m; is = at_last ms m; tells = own_tells }
        ]

    -- ---- from all modules

    branch_back : (number : ℕ) → number < length ms → (n : Placed) (at slot : ℕ) (kind : Kind) (fact : Fact)
        → IsBranchFact all more number n at slot kind fact
        → IsBranchFact imports classes number n at slot kind fact ⊎ IsMetBranch before own n at slot kind fact
    branch_back number low n at slot (kinds.Import name cell) fact told =
        elim (none_or_some (before name)) [
          | inl none ↦
              inr (
                none,
                import_on all own more [] number 0 n at slot name cell
                    (λ address is. sym (all_own name none) ∙ is) fact told,
              )
          | inr some ↦
              inl (import_on all imports more classes number number n at slot name cell (leads_back name some.0 some.1) fact told)
        ]
    branch_back number low n at slot (kinds.Call node) fact told =
        inl (branch_on all imports more classes number (λ k. sym (same number low k)) n at slot (kinds.Call node) fact tt told)
    branch_back number low n at slot (kinds.Tail node) fact told =
        inl (branch_on all imports more classes number (λ k. sym (same number low k)) n at slot (kinds.Tail node) fact tt told)
    branch_back number low n at slot kinds.Return fact told =
        inl (branch_on all imports more classes number (λ k. sym (same number low k)) n at slot kinds.Return fact tt told)
    branch_back number low n at slot (kinds.Switch entries) fact told =
        inl (branch_on all imports more classes number (λ k. sym (same number low k)) n at slot (kinds.Switch entries) fact
        tt told)

    unit_back : (number : ℕ) → number < length ms → (n : Placed) (at : ℕ) (unit : CodeUnit) (fact : Fact)
        → IsUnitFact all more number n at unit fact
        → IsUnitFact imports classes number n at unit fact ⊎ IsMetFact before own n at unit fact
    unit_back number low n at (units.Check linked rs1 imm slot) fact (kind, has, told) =
        elim (branch_back number low n at slot kind fact told) [
          | inl old ↦ inl (kind, has, old)
          | inr met ↦ inr (kind, has, met)
        ]
    unit_back number low n at (units.Jump linked off) fact told = inl told
    unit_back number low n at (units.Plain insn) fact told = inl told
    unit_back number low n at (units.Load kind rd rs1 imm) fact told = inl told
    unit_back number low n at (units.Store kind rs1 rs2 imm) fact told = inl told
    unit_back number low n at (units.Branch cond rs1 rs2 off) fact told = inl told
    unit_back number low n at units.Service fact told = inl told

    first_back : (number : ℕ) (n : Placed) → slice_get ms number ≡ Some n → (fact : Fact)
        → ModuleTells all more number n fact → IsTold ms imports classes fact ⊎ IsMoreFact before own all ms m more fact
    first_back number n is fact told =
        let low = slice_get_within ms number n is in
        elim told [
          | inl u ↦ elim (unit_back number low n u.at u.unit fact u.tells) [
            | inl old ↦ inl (record {
              number = number;
              owner = n;
              is = is;
              tells = inl (record { at = u.at; unit = u.unit; stands = u.stands; tells = old });
            })
            | inr met ↦ inr (inl (record {
              owner = n;
              placed = contains_at ms number n is;
              meets = record { at = u.at; unit = u.unit; stands = u.stands; tells = met };
            }))
          ]
          | inr f ↦ inl (record {
            number = number;
            owner = n;
            is = is;
            tells = inr (record {
              function = f.function;
              has = f.has;
              tells = function_on all imports more classes number (λ k. sym (same number low k)) n f.function fact f.tells;
            });
          })
        ]

    -- what all tell was told before, or the one more tells it
    pub told_back : (fact : Fact) → IsTold (ms ++ m ∷ []) all more fact
        → IsTold ms imports classes fact ⊎ IsMoreFact before own all ms m more fact
    told_back fact told =
        elim (at_cases ms m told.number told.owner told.is) [
          | inl is ↦ first_back told.number told.owner is fact told.tells
          | inr last ↦
              inr (inr (subst (λ k. ModuleTells all more k m fact) last.0
              (subst (λ n. ModuleTells all more told.number n fact) last.1 told.tells)))
        ]
