-- What stands behind a branch's kind and number of words is read exactly as it is spelled. The length of the data, within which cells are to lie, may be
-- known or not.
use Rattle.std.proofs.Common.{◌≡◌, ℕ, ◌≤◌, Bool, true, false, eqb, leb, cond, IsTrue, List, [], ◌++◌, length, Option, Some, None, Ok, refl, sym, subst, ◌∙◌, arith}
use Rattle.std.specs.List.{flat_map, AllByRecursion}
use Rattle.std.specs.Str.{is_utf8}
use Rattle.std.proofs.lemmas.Bool.{eqb-true, eq-eqb, and_parts, and_from, leb-true}
use Rattle.std.proofs.lemmas.Bool.Decides.{nat_tests}
use Rattle.cfi_type_table.specs.Node.{Node}
use Rattle.cfi_type_table.specs.Spelling.{word}
use Rattle.cfi_aux.specs.declared.format.TheConstants.{CALL, TAIL, RETURN, SWITCH, IMPORT}
use Rattle.cfi_aux.specs.declared.fault.AuxFault.TheVariants.{BadRecord}
use Rattle.cfi_aux.specs.declared.records.Kind.{Kind}
use Rattle.cfi_aux.specs.declared.records.Kind.TheVariants.{Call, Tail, Return, Switch, Import}
use Rattle.cfi_aux.specs.Format.{is_whole, is_name_length, import_words, fits_import, is_cell_in, has_count}
use Rattle.cfi_aux.specs.declared.version.RecordVersion.{RecordVersion}
use Rattle.cfi_aux.specs.declared.version.RecordVersion.TheVariants.{One, Two, Three}
use Rattle.cfi_aux.specs.Version.{is_type, last_kind}
use Rattle.cfi_aux.specs.Records.{name_bytes, kind_number, kind_words, body_bytes, word_count, IsNamed, IsBranchWordIn}
use Rattle.cfi_aux.specs.Reading.{Reader, word_where, and_also, seen_as, each}
use Rattle.cfi_aux.specs.Fault.{place_at, name_where, import_at, body_at}
use Rattle.cfi_type_table.proofs.Parts.{Takes}
use Rattle.cfi_aux.proofs.Formats.{Reads, Reads-also, Agree, Reads-as}
use Rattle.cfi_values.proofs.ThenLemmas.{ok_is}
use Rattle.cfi_aux.proofs.Words.{Passes, Reads-word}
use Rattle.cfi_aux.proofs.Lists.{AreGood, Reads-each}
use Rattle.cfi_aux.proofs.Functions.{IsNameOf, sized_name, Reads-name_where}

-- the branch's cell begins where one may, where it has one
abbrev pub fits_cell : (size : Option ℕ) → Kind → Bool
fits_cell size (Import name cell) = is_cell_in size cell
fits_cell size (Call node) = true
fits_cell size (Tail node) = true
fits_cell size Return = true
fits_cell size (Switch places) = true

-- a branch of a kind with n words
pub record IsBody (version : RecordVersion) (types : List Node) (size : Option ℕ) (kind n : ℕ) (b : Kind) : Type 0 where
  pub number : kind_number b ≡ kind
  pub count : word_count b ≡ n
  pub words : AllByRecursion (IsBranchWordIn version types b) (kind_words b)
  pub named : IsNamed b
  pub cell : IsTrue (fits_cell size b)

-- the node that a call names, the places of a switch, the cell and the name of an import
abbrev node_of : Kind → ℕ
node_of (Call node) = node
node_of (Tail node) = node
node_of Return = 0
node_of (Switch places) = 0
node_of (Import name cell) = 0

abbrev places_of : Kind → List ℕ
places_of (Call node) = []
places_of (Tail node) = []
places_of Return = []
places_of (Switch places) = places
places_of (Import name cell) = []

abbrev cell_of : Kind → ℕ
cell_of (Call node) = 0
cell_of (Tail node) = 0
cell_of Return = 0
cell_of (Switch places) = 0
cell_of (Import name cell) = cell

abbrev import_name : Kind → List ℕ
import_name (Call node) = []
import_name (Tail node) = []
import_name Return = []
import_name (Switch places) = []
import_name (Import name cell) = name

abbrev import_of : ℕ × List ℕ → Kind
import_of found = Import found.1 found.0

abbrev found_of : Kind → ℕ × List ℕ
found_of b = (cell_of b, import_name b)

abbrev import_bytes : ℕ × List ℕ → List ℕ
import_bytes found = word found.0 ++ name_bytes found.1

abbrev IsFound : (size : Option ℕ) → (n : ℕ) → ℕ × List ℕ → Type 0
IsFound size n found = Passes (is_cell_in size) found.0 × IsNameOf (fits_import n) found.1

-- a cell begins at a multiple of four
cell_whole : (size : Option ℕ) (cell : ℕ) → IsTrue (is_cell_in size cell) → IsTrue (is_whole cell)
cell_whole None cell h = h
cell_whole (Some size) cell h = (and_parts (is_whole cell) _ h).0

call_good : (version : RecordVersion) (types : List Node) (size : Option ℕ) (kind n : ℕ) (b : Kind) → kind ≡ CALL
    → IsBody version types size kind n b → Passes (is_type version types) (node_of b) × (Call (node_of b) ≡ b)
call_good version types size kind n (Call node) is h = (h.words.0, refl)
call_good version types size kind n (Tail node) is h =
    let no : TAIL ≡ CALL = h.number ∙ is in absurd (omega arith)
call_good version types size kind n Return is h =
    let no : RETURN ≡ CALL = h.number ∙ is in absurd (omega arith)
call_good version types size kind n (Switch places) is h =
    let no : SWITCH ≡ CALL = h.number ∙ is in absurd (omega arith)
call_good version types size kind n (Import name cell) is h =
    let no : IMPORT ≡ CALL = h.number ∙ is in absurd (omega arith)

tail_good : (version : RecordVersion) (types : List Node) (size : Option ℕ) (kind n : ℕ) (b : Kind) → kind ≡ TAIL
    → IsBody version types size kind n b → Passes (is_type version types) (node_of b) × (Tail (node_of b) ≡ b)
tail_good version types size kind n (Call node) is h =
    let no : CALL ≡ TAIL = h.number ∙ is in absurd (omega arith)
tail_good version types size kind n (Tail node) is h = (h.words.0, refl)
tail_good version types size kind n Return is h =
    let no : RETURN ≡ TAIL = h.number ∙ is in absurd (omega arith)
tail_good version types size kind n (Switch places) is h =
    let no : SWITCH ≡ TAIL = h.number ∙ is in absurd (omega arith)
tail_good version types size kind n (Import name cell) is h =
    let no : IMPORT ≡ TAIL = h.number ∙ is in absurd (omega arith)

return_good : (version : RecordVersion) (types : List Node) (size : Option ℕ) (kind n : ℕ) (b : Kind) → kind ≡ RETURN
    → IsBody version types size kind n b → Return ≡ b
return_good version types size kind n (Call node) is h =
    let no : CALL ≡ RETURN = h.number ∙ is in absurd (omega arith)
return_good version types size kind n (Tail node) is h =
    let no : TAIL ≡ RETURN = h.number ∙ is in absurd (omega arith)
return_good version types size kind n Return is h = refl
return_good version types size kind n (Switch places) is h =
    let no : SWITCH ≡ RETURN = h.number ∙ is in absurd (omega arith)
return_good version types size kind n (Import name cell) is h =
    let no : IMPORT ≡ RETURN = h.number ∙ is in absurd (omega arith)

switch_good : (version : RecordVersion) (types : List Node) (size : Option ℕ) (kind n : ℕ) (b : Kind) → kind ≡ SWITCH
    → IsBody version types size kind n b → AreGood (Passes is_whole) n (places_of b) × (Switch (places_of b) ≡ b)
switch_good version types size kind n (Call node) is h =
    let no : CALL ≡ SWITCH = h.number ∙ is in absurd (omega arith)
switch_good version types size kind n (Tail node) is h =
    let no : TAIL ≡ SWITCH = h.number ∙ is in absurd (omega arith)
switch_good version types size kind n Return is h =
    let no : RETURN ≡ SWITCH = h.number ∙ is in absurd (omega arith)
switch_good version types size kind n (Switch places) is h = ((h.count, h.words), refl)
switch_good version types size kind n (Import name cell) is h =
    let no : IMPORT ≡ SWITCH = h.number ∙ is in absurd (omega arith)

named_fits : (n : ℕ) (name : List ℕ) → IsTrue (is_name_length (length name)) → import_words (length name) ≡ n
    → IsTrue (is_utf8 name) → IsNameOf (fits_import n) name
named_fits n name short is text =
    let sized = sized_name (length name) short in
    let same : eqb (import_words (length name)) n ≡ true = eq-eqb (import_words (length name)) n is in
    ((sized.0, and_from (is_name_length (length name)) (eqb (import_words (length name)) n) short same), text)

import_good : (version : RecordVersion) (types : List Node) (size : Option ℕ) (kind n : ℕ) (b : Kind) → kind ≡ IMPORT
    → IsBody version types size kind n b → IsFound size n (found_of b) × (import_of (found_of b) ≡ b)
import_good version types size kind n (Call node) is h =
    let no : CALL ≡ IMPORT = h.number ∙ is in absurd (omega arith)
import_good version types size kind n (Tail node) is h =
    let no : TAIL ≡ IMPORT = h.number ∙ is in absurd (omega arith)
import_good version types size kind n Return is h =
    let no : RETURN ≡ IMPORT = h.number ∙ is in absurd (omega arith)
import_good version types size kind n (Switch places) is h =
    let no : SWITCH ≡ IMPORT = h.number ∙ is in absurd (omega arith)
import_good version types size kind n (Import name cell) is h =
    (((h.words.0.0, h.cell), named_fits n name h.named.count h.count h.named.text), refl)

calls_agree : (version : RecordVersion) (types : List Node) (size : Option ℕ) (kind n : ℕ) → kind ≡ CALL → n ≡ 1
    → Agree ℕ Kind word (Passes (is_type version types)) body_bytes (IsBody version types size kind n) Call node_of
calls_agree version types size kind n is one = record {
  spelled = λ node h. refl;
  viewed = λ node h. record { number = sym is; count = sym one; words = (h, tt); named = tt; cell = refl };
  good_back = λ b h. (call_good version types size kind n b is h).0;
  view_back = λ b h. (call_good version types size kind n b is h).1;
}

tails_agree : (version : RecordVersion) (types : List Node) (size : Option ℕ) (kind n : ℕ) → kind ≡ TAIL → n ≡ 1
    → Agree ℕ Kind word (Passes (is_type version types)) body_bytes (IsBody version types size kind n) Tail node_of
tails_agree version types size kind n is one = record {
  spelled = λ node h. refl;
  viewed = λ node h. record { number = sym is; count = sym one; words = (h, tt); named = tt; cell = refl };
  good_back = λ b h. (tail_good version types size kind n b is h).0;
  view_back = λ b h. (tail_good version types size kind n b is h).1;
}

switches_agree : (version : RecordVersion) (types : List Node) (size : Option ℕ) (kind n : ℕ) → kind ≡ SWITCH
    → Agree (List ℕ) Kind (flat_map word) (AreGood (Passes is_whole) n) body_bytes (IsBody version types size kind n) Switch
    places_of
switches_agree version types size kind n is = record {
  spelled = λ places h. refl;
  viewed = λ places h. record { number = sym is; count = h.0; words = h.1; named = tt; cell = refl };
  good_back = λ b h. (switch_good version types size kind n b is h).0;
  view_back = λ b h. (switch_good version types size kind n b is h).1;
}

imports_agree : (version : RecordVersion) (types : List Node) (size : Option ℕ) (kind n : ℕ) → kind ≡ IMPORT
    → Agree (ℕ × List ℕ) Kind import_bytes (IsFound size n) body_bytes (IsBody version types size kind n) import_of
    found_of
imports_agree version types size kind n is = record {
  spelled = λ found h. refl;
  viewed = λ found h. let both = and_parts (is_name_length (length found.1)) _ h.1.0.1 in record {
    number = sym is;
    count = eqb-true (import_words (length found.1)) n both.1;
    words = ((h.0.0, cell_whole size found.0 h.0.1), tt);
    named = record { count = both.0; text = h.1.1 };
    cell = h.0.1;
  };
  good_back = λ b h. (import_good version types size kind n b is h).0;
  view_back = λ b h. (import_good version types size kind n b is h).1;
}

Reads-return : (version : RecordVersion) (types : List Node) (size : Option ℕ) (kind n : ℕ) → kind ≡ RETURN → n ≡ 0
    → Reads Kind body_bytes (IsBody version types size kind n) (λ bytes. Ok (Return, bytes))
Reads-return version types size kind n is none = record {
  takes = λ bytes x fits e. subst
      (λ (y : Kind × List ℕ). Takes bytes (body_bytes y.0) y.1 × IsBody version types size kind n y.0)
      (ok_is (Return, bytes) x e) (
        record { parts = refl; rest_fits = fits },
        record { number = sym is; count = sym none; words = tt; named = tt; cell = refl },
      );
  again = λ b rest h. let same : Return ≡ b = return_good version types size kind n b is h in rw (← same) refl;
}

Reads-import : (version : RecordVersion) (types : List Node) (size : Option ℕ) (kind n : ℕ) → kind ≡ IMPORT
    → (k : ℕ) → Reads Kind body_bytes (IsBody version types size kind n) (import_at size k n)
unfolding import_at
Reads-import version types size kind n is k =
    let bad = BadRecord k in
    Reads-as import_bytes (IsFound size n)
    (and_also (word_where (is_cell_in size) bad) (name_where (fits_import n) k)) body_bytes
    (IsBody version types size kind n) import_of found_of (imports_agree version types size kind n is)
    (Reads-also word (Passes (is_cell_in size)) (word_where (is_cell_in size) bad) name_bytes (IsNameOf (fits_import n))
    (name_where (fits_import n) k) (Reads-word (is_cell_in size) bad) (Reads-name_where (fits_import n) k))

-- one of two readers
Reads-if : (X : Type 0) (spell : X → List ℕ) (good : X → Type 0) (one other : Reader X) (b : Bool)
    → (b ≡ true → Reads X spell good one) → (b ≡ false → Reads X spell good other)
    → Reads X spell good (cond b one other)
Reads-if X spell good one other true first second = first refl
Reads-if X spell good one other false first second = second refl

one_word : (kind n : ℕ) → has_count kind n ≡ true → kind ≤ TAIL → n ≡ 1
one_word kind n h le = grind (arith, nat_tests)

no_word : (kind n : ℕ) → has_count kind n ≡ true → kind ≡ RETURN → n ≡ 0
no_word kind n h is = grind (arith, nat_tests)

-- what a version may have
pub last_at_most : (version : RecordVersion) (kind : ℕ) → leb kind (last_kind version) ≡ true → kind ≤ IMPORT
last_at_most One kind h = let le = leb-true kind SWITCH h in omega arith
last_at_most Two kind h = let le = leb-true kind SWITCH h in omega arith
last_at_most Three kind h = leb-true kind IMPORT h

only_import : (kind : ℕ) → kind ≤ IMPORT → eqb kind CALL ≡ false → eqb kind TAIL ≡ false → eqb kind RETURN ≡ false
    → eqb kind SWITCH ≡ false → kind ≡ IMPORT
only_import kind le a b c d = grind (arith, nat_tests)

pub Reads-body : (version : RecordVersion) (types : List Node) (size : Option ℕ) (k kind n : ℕ)
    → leb kind (last_kind version) ≡ true → has_count kind n ≡ true
    → Reads Kind body_bytes (IsBody version types size kind n) (body_at version types size k kind n)
unfolding body_at
Reads-body version types size k kind n known counted =
    let node = word_where (is_type version types) (BadRecord k) in
    let places = each (place_at k) 0 n in
    let back : Reader Kind = λ bytes. Ok (Return, bytes) in
    let Good = IsBody version types size kind n in
    Reads-if Kind body_bytes Good (seen_as Call node) _ (eqb kind CALL)
    (λ e. let is : kind ≡ CALL = eqb-true kind CALL e in
    Reads-as word (Passes (is_type version types)) node body_bytes Good Call node_of
    (calls_agree version types size kind n is (one_word kind n counted (omega arith)))
    (Reads-word (is_type version types) (BadRecord k)))
    (λ no_call. Reads-if Kind body_bytes Good (seen_as Tail node) _ (eqb kind TAIL)
    (λ e. let is : kind ≡ TAIL = eqb-true kind TAIL e in
    Reads-as word (Passes (is_type version types)) node body_bytes Good Tail node_of
    (tails_agree version types size kind n is (one_word kind n counted (omega arith)))
    (Reads-word (is_type version types) (BadRecord k)))
    (λ no_tail. Reads-if Kind body_bytes Good back _ (eqb kind RETURN)
    (λ e. let is : kind ≡ RETURN = eqb-true kind RETURN e in
    Reads-return version types size kind n is (no_word kind n counted is))
    (λ no_return. Reads-if Kind body_bytes Good (seen_as Switch places) (import_at size k n) (eqb kind SWITCH)
    (λ e. Reads-as (flat_map word) (AreGood (Passes is_whole) n) places body_bytes Good Switch places_of
    (switches_agree version types size kind n (eqb-true kind SWITCH e))
    (Reads-each word (Passes is_whole) (place_at k) (λ i. Reads-word is_whole (BadRecord k)) 0 n))
    (λ no_switch. Reads-import version types size kind n
    (only_import kind (last_at_most version kind known) no_call no_tail no_return no_switch) k))))
