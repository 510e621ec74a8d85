-- Where the imports of modules lead: to the first function that is looked for.
use Rattle.std.proofs.Common.{◌≡◌, ◌∙◌, ℕ, Bool, true, false, ◌&&◌, List, Option, Some, None, is_some, if◌then◌else◌, inl, inr, refl, sym, ap, subst, arith}
use Rattle.std.specs.List.{Contains}
use Rattle.std.specs.Option.{option_or}
use Rattle.std.specs.Str.{bytes_eq}
use Rattle.std.proofs.lemmas.Bool.{cases_Bool}
use Rattle.std.proofs.lemmas.Option.{none-some, same_Some}
use Rattle.std.proofs.lemmas.Slice.Eq.{bytes_eq-Decides}
use Rattle.cfi_aux.specs.declared.placed.Placed.{Placed}
use Rattle.cfi_aux.specs.declared.placed.PlacedFunction.{PlacedFunction}
use Rattle.cfi_graph.specs.Code.{entry_of}
use Rattle.cfi_graph.specs.Calls.{IsGlobalNamed, IsImported}
use Rattle.cfi_graph.specs.Direct.{IsImportTarget}
use Rattle.cfi_graph.specs.Facts.{ByName, AreImports, function_node, word_of}
use Rattle.cfi_graph.specs.Named.{entry_by, entry_in, entry_among}
use Rattle.cfi_graph.proofs.BoundLemmas.{contains_at, at_contains}
use Rattle.cfi_graph.proofs.FirstLemmas.{or_none, none_or_some, first_found, first_is, none_given}
use Rattle.cfi_graph.proofs.NodeLemmas.{StandsAt}

-- ---- names with addresses

pub none_of : (o : Option ℕ) → (is_some o ≡ true → ⊥) → o ≡ None
none_of None none = refl
none_of (Some n) none = absurd (none refl)

or_some : (o p : Option ℕ) → is_some o ≡ true → o ≡ option_or o p
or_some None p is = absurd (cc)
or_some (Some n) p is = refl

-- a name that is there keeps its address
pub name_kept : (get : ByName) (name other : List ℕ) (number : ℕ) → is_some (get name) ≡ true
    → get other ≡ option_or (get other) (if bytes_eq name other then Some number else None)
name_kept get name other number there =
    elim (cases_Bool (bytes_eq name other)) [
      | inl same ↦
          let here : is_some (get other) ≡ true =
          subst (λ (o : List ℕ). is_some (get o) ≡ true) ((bytes_eq-Decides name other).0 same) there in
          or_some (get other) (if bytes_eq name other then Some number else None) here
      | inr apart ↦
          sym (ap (λ b. option_or (get other) (if b then Some number else None)) apart ∙ or_none (get other))
    ]

-- a new name gets its address
pub name_given : (get gives : ByName) (name other : List ℕ) (number : ℕ) → get name ≡ None
    → gives other ≡ (if bytes_eq name other then Some number else get other)
    → gives other ≡ option_or (get other) (if bytes_eq name other then Some number else None)
name_given get gives name other number missing is =
    elim (cases_Bool (bytes_eq name other)) [
      | inl same ↦
          let none : get other ≡ None =
          subst (λ (o : List ℕ). get o ≡ None) ((bytes_eq-Decides name other).0 same) missing in
          is ∙ (rw (none, same) refl)
      | inr apart ↦ is ∙ (rw apart (sym (or_none (get other))))
    ]

-- ---- functions

given_by : (a b : Bool) (e n : ℕ) → (if a && b then Some e else None) ≡ Some n → (a ≡ true) × (b ≡ true) × (n ≡ e)
given_by true true e n is = (refl, refl, sym (same_Some e n is))
given_by true false e n is = absurd (none-some n is)
given_by false b e n is = absurd (none-some n is)

module _ (m : Placed) (name : List ℕ) where
  -- what a function gives
  entry_given : (f : PlacedFunction) → IsGlobalNamed name f → entry_by m name f ≡ Some (entry_of m f)
  entry_given f is =
      let both : (f.global && bytes_eq f.name name) ≡ true =
      ap (λ b. b && bytes_eq f.name name) is.global ∙ (bytes_eq-Decides f.name name).1 is.named in
      ap (λ b. if b then Some (entry_of m f) else None) both

  pub given_named : (f : PlacedFunction) (n : ℕ) → entry_by m name f ≡ Some n
      → IsGlobalNamed name f × (n ≡ entry_of m f)
  given_named f n is =
      let all = given_by f.global (bytes_eq f.name name) (entry_of m f) n is in
      (record { global = all.0; named = (bytes_eq-Decides f.name name).0 all.1 }, all.2)

  not_given : (f : PlacedFunction) → entry_by m name f ≡ None → IsGlobalNamed name f → ⊥
  not_given f none is = none-some (entry_of m f) (sym none ∙ entry_given f is)

  not_named : (f : PlacedFunction) → (IsGlobalNamed name f → ⊥) → entry_by m name f ≡ None
  not_named f none =
      elim (none_or_some (entry_by m name f)) [
        | inl is ↦ is
        | inr some ↦ absurd (none (given_named f some.0 some.1).0)
      ]

  -- where a module gives no address, none of its functions is global and has the name
  none_in : entry_in m name ≡ None → (g : PlacedFunction) → Contains m.functions g → IsGlobalNamed name g → ⊥
  none_in none g has is =
      let given = none_given (entry_by m name) m.functions none has.0 g (at_contains m.functions g has) in
      not_given g given is

  all_none : ((g : PlacedFunction) → Contains m.functions g → IsGlobalNamed name g → ⊥) → entry_in m name ≡ None
  all_none none =
      elim (none_or_some (entry_in m name)) [
        | inl is ↦ is
        | inr some ↦
            let f = first_found (entry_by m name) m.functions some.0 some.1 in
            absurd (none f.item (contains_at m.functions f.place f.item f.is) (given_named f.item some.0 f.given).0)
      ]

-- ---- modules

module _ (ms : List Placed) where
  -- an imported function stands in its module
  pub imported_at : (name : List ℕ) (n : Placed) (f : PlacedFunction) (is : IsImported ms name n f)
      → StandsAt ms is.number n f
  imported_at name n f is = record { is = is.is; has = contains_at n.functions is.place f is.has }

  to_target : (name : List ℕ) (address : ℕ) → entry_among ms name ≡ Some address → IsImportTarget ms name address
  to_target name address found =
      let of_modules = first_found (λ m. entry_in m name) ms address found in
      let n = of_modules.item in
      let of_functions = first_found (entry_by n name) n.functions address of_modules.given in
      let f = of_functions.item in
      let named = given_named n name f address of_functions.given in
      record {
        owner = n;
        function = f;
        is = record {
          number = of_modules.place;
          is = of_modules.is;
          place = of_functions.place;
          has = of_functions.is;
          global = named.0;
          first = λ k g less there. not_given n name g (of_functions.none k g less there);
          earliest = λ k o g less there has. none_in o name (of_modules.none k o less there) g has;
        };
        entry = named.1;
      }

  from_target : (name : List ℕ) (address : ℕ) → IsImportTarget ms name address → entry_among ms name ≡ Some address
  from_target name address to =
      let i = to.is in
      let n = to.owner in
      let f = to.function in
      let in_module : entry_in n name ≡ Some address = first_is (entry_by n name) n.functions address (record {
        place = i.place;
        item = f;
        is = i.has;
        given = entry_given n name f i.global ∙ ap (λ k. Some k) (sym to.entry);
        none = λ k g less there. not_named n name g (i.first k g less there);
      }) in
      first_is (λ m. entry_in m name) ms address (record {
        place = i.number;
        item = n;
        is = i.is;
        given = in_module;
        none = λ k o less there. all_none o name (λ g has. i.earliest k o g less there has);
      })

  -- what finds the first such function is where the imports lead
  pub are_imports : AreImports ms (entry_among ms)
  are_imports = λ name address. (to_target name address, from_target name address)

  -- a name means one function
  pub one_target : (name : List ℕ) (one other : ℕ) → IsImportTarget ms name one → IsImportTarget ms name other
      → one ≡ other
  one_target name one other a b =
      same_Some one other (sym (from_target name one a) ∙ from_target name other b)

  -- the word of the address of an imported function
  pub imported_word : (name : List ℕ) (address word : ℕ) (to : IsImportTarget ms name address)
      → word ≡ word_of address → word ≡ function_node to.owner to.function
  imported_word name address word to is =
      omega (arith, is, to.entry)
