-- Nodes: a code word begins one function, and equal types alone have one class.
use Rattle.std.proofs.Common.{◌≡◌, ◌↔◌, ◌∙◌, ℕ, ◌+◌, ◌<◌, ◌≤◌, List, [], length, get_or, Some, sym, ap, subst, inl, inr, arith}
use Rattle.std.specs.Prelude.{slice_get}
use Rattle.std.specs.Option.{option_map}
use Rattle.std.specs.List.{Contains}
use Rattle.std.proofs.lemmas.Bool.{cases_lt}
use Rattle.std.proofs.lemmas.Option.{same_Some, slice_get-map, slice_get_within, get_or_from_slice_get}
use Rattle.std.proofs.lemmas.List.Elements.{All-contains}
use Rattle.cfi_word.specs.declared.limits.TheConstants.{MAX_CODE_WORDS}
use Rattle.cfi_types.specs.Same.{Equal}
use Rattle.cfi_types.specs.Classes.{table_of, class_of, IsNodePlace, AreClasses}
use Rattle.cfi_aux.specs.declared.placed.Placed.{Placed}
use Rattle.cfi_aux.specs.declared.placed.PlacedFunction.{PlacedFunction}
use Rattle.cfi_aux.specs.Extent.{LiesIn}
use Rattle.cfi_graph.specs.Shaped.{IsShaped, IsBefore, AreApart}
use Rattle.cfi_graph.specs.Facts.{type_node, function_node, LiesInNode}
use Rattle.cfi_graph.specs.Reading.{tables_of}
use Rattle.cfi_graph.proofs.BoundLemmas.{contains_at, inside}
use Rattle.cfi_graph.proofs.PlaceLemmas.{function_one}

-- the function of the module of the number
pub record StandsAt (ms : List Placed) (number : ℕ) (m : Placed) (f : PlacedFunction) : Type 0 where
  pub is : slice_get ms number ≡ Some m
  pub has : Contains m.functions f

-- the word of a module lies in the function of a node
pub record LiesThere (m : Placed) (at node : ℕ) : Type 0 where
  pub function : PlacedFunction
  pub has : Contains m.functions function
  pub lies : LiesIn function at
  pub is : node ≡ function_node m function

pub lies_there : (m : Placed) (at node : ℕ) → LiesInNode m at node → LiesThere m at node
lies_there m at node (first, is_first, is) =
    let begins = is_first.is in
    record {
      function = is_first.function;
      has = is_first.has;
      lies = is_first.lies;
      is = omega (arith, is, begins);
    }

-- ---- tables

table_at : (ms : List Placed) (number : ℕ) (m : Placed) → slice_get ms number ≡ Some m
    → slice_get (tables_of ms) number ≡ Some m.types
table_at ms number m is =
    slice_get-map (λ n. n.types) ms number ∙ ap (λ o. option_map (λ n. n.types) o) is

pub table_is : (ms : List Placed) (number : ℕ) (m : Placed) → slice_get ms number ≡ Some m
    → table_of (tables_of ms) number ≡ m.types
table_is ms number m is =
    get_or_from_slice_get (tables_of ms) number m.types [] (table_at ms number m is)

pub table_within : (ms : List Placed) (number : ℕ) (m : Placed) → slice_get ms number ≡ Some m
    → number < length (tables_of ms)
table_within ms number m is = slice_get_within (tables_of ms) number m.types (table_at ms number m is)

pub place_is : (ms : List Placed) (number : ℕ) (m : Placed) → slice_get ms number ≡ Some m → (node : ℕ)
    → node < length m.types → IsNodePlace (tables_of ms) number node
place_is ms number m is node within = (
  table_within ms number m is,
  subst (λ types. node < length types) (sym (table_is ms number m is)) within,
)

module _ (ms : List Placed) (classes : List (List ℕ)) (are : AreClasses (tables_of ms) classes) where
  -- two types have one node exactly where they are equal
  pub same_types : (i j : ℕ) (m n : Placed) → slice_get ms i ≡ Some m → slice_get ms j ≡ Some n → (a b : ℕ)
      → a < length m.types → b < length n.types
      → (type_node classes i a ≡ type_node classes j b) ↔ Equal m.types a n.types b
  same_types i j m n m_is n_is a b a_in b_in =
      let both = are.equal i a j b (place_is ms i m m_is a a_in) (place_is ms j n n_is b b_in) in
      let one = table_is ms i m m_is in
      let other = table_is ms j n n_is in (
        λ same.
            let class : class_of classes i a ≡ class_of classes j b = omega (arith, same) in
            subst (λ t. Equal t a n.types b) one (subst (λ t. Equal (table_of (tables_of ms) i) a t b) other
            (both.0 class)),
        λ equal.
            ap (λ c. MAX_CODE_WORDS + c) (both.1 (subst (λ t. Equal t a (table_of (tables_of ms) j) b) (sym one)
            (subst (λ t. Equal m.types a t b) (sym other) equal))),
      )

-- ---- words

module _ (ms : List Placed) (apart : AreApart ms) where
  pub shaped_at : (number : ℕ) (m : Placed) → slice_get ms number ≡ Some m → IsShaped m
  shaped_at number m is = All-contains IsShaped ms m apart.shaped (contains_at ms number m is)

  pub before_at : (i j : ℕ) (m n : Placed) → slice_get ms i ≡ Some m → slice_get ms j ≡ Some n → i < j → IsBefore m n
  before_at i j m n m_is n_is less =
      let one : get_or ms i m ≡ m = get_or_from_slice_get ms i m m m_is in
      let other : get_or ms j m ≡ n = get_or_from_slice_get ms j n m n_is in
      let before : IsBefore (get_or ms i m) (get_or ms j m) = apart.order i j m less (slice_get_within ms j n n_is) in
      subst (λ x. IsBefore m x) other (subst (λ x. IsBefore x (get_or ms j m)) one before)

  -- a code word is one module's
  pub number_one : (i j : ℕ) (m n : Placed) → slice_get ms i ≡ Some m → slice_get ms j ≡ Some n → (word : ℕ)
      → m.base ≤ word → word < m.base + length m.words → n.base ≤ word → word < n.base + length n.words → i ≡ j
  number_one i j m n m_is n_is word m_low m_high n_low n_high =
      elim (cases_lt i j) [
        | inl less ↦
            let before = before_at i j m n m_is n_is less in
            let words = before.words in
            absurd (omega (arith, words, m_high, n_low))
        | inr more ↦ elim (cases_lt j i) [
          | inl less ↦
              let before = before_at j i n m n_is m_is less in
              let words = before.words in
              absurd (omega (arith, words, n_high, m_low))
          | inr least ↦ omega (arith, more, least)
        ]
      ]

  -- a function's node is a code word of its module
  pub node_low : (number : ℕ) (m : Placed) (f : PlacedFunction) → StandsAt ms number m f
      → (function_node m f < m.base + length m.words) × (function_node m f < MAX_CODE_WORDS)
  node_low number m f at =
      let shape = shaped_at number m at.is in
      let in_words = inside m shape f at.has in
      let some = in_words.some in
      let ends = in_words.ends in
      let last = shape.1.ends in
      (omega (arith, some, ends), omega (arith, some, ends, last))

  pub same_numbers : (i j : ℕ) (m n : Placed) (f g : PlacedFunction) → StandsAt ms i m f → StandsAt ms j n g
      → function_node m f ≡ function_node n g → i ≡ j
  same_numbers i j m n f g one other same =
      let low = (node_low i m f one).0 in
      let high = (node_low j n g other).0 in
      number_one i j m n one.is other.is (function_node m f) (omega arith) low (omega (arith, same))
      (omega (arith, same, high))

  pub same_modules : (i j : ℕ) (m n : Placed) (f g : PlacedFunction) → StandsAt ms i m f → StandsAt ms j n g
      → function_node m f ≡ function_node n g → m ≡ n
  same_modules i j m n f g one other same =
      same_Some m n (sym one.is ∙ ap (λ k. slice_get ms k) (same_numbers i j m n f g one other same) ∙ other.is)

  -- a code word begins one function
  pub same_functions : (i j : ℕ) (m n : Placed) (f g : PlacedFunction) → StandsAt ms i m f → StandsAt ms j n g
      → function_node m f ≡ function_node n g → f ≡ g
  same_functions i j m n f g one other same =
      let modules : m ≡ n = same_modules i j m n f g one other same in
      let has : Contains m.functions g = subst (λ x. Contains x.functions g) (sym modules) other.has in
      let base : m.base ≡ n.base = ap (λ x. x.base) modules in
      let first : f.first ≡ g.first = omega (arith, same, base) in
      let shape = shaped_at i m one.is in
      let in_f = inside m shape f one.has in
      let in_g = inside m shape g has in
      let f_some = in_f.some in
      let g_some = in_g.some in
      function_one m.functions shape.1.order f.first f g one.has has (omega arith, omega (arith, f_some))
      (omega (arith, first), omega (arith, first, g_some))
