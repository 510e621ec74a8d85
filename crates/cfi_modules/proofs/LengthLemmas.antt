-- Relocations keep the lengths of text and data.
use Rattle.std.proofs.Common.{◌≡◌, ℕ, ◌+◌, ◌≤◌, ◌==◌, Bool, true, cond, List, [], ◌∷◌, ◌++◌, length, take, drop, Option, Some, None, Result, Ok, Err, refl, sym, ap, ◌∙◌, inl, inr, arith, length-append, length-drop}
use Rattle.std.specs.Prelude.{unwrap_or}
use Rattle.std.specs.Result.{result_unwrap_or}
use Rattle.std.specs.Int.{w32, to_le_bytes}
use Rattle.std.specs.List.{AllByRecursion}
use Rattle.std.specs.Map.{lookup}
use Rattle.std.proofs.lemmas.Bool.{cases_Bool, eqb-true}
use Rattle.std.proofs.lemmas.List.{length-take-le}
use Rattle.elf_read.specs.declared.object.Area.{Area}
use Rattle.elf_read.specs.declared.object.Area.TheVariants as areas
use Rattle.elf_read.specs.declared.object.Reloc.{Reloc}
use Rattle.elf_read.specs.Relocation.{field_size}
use Rattle.rv_reloc.specs.declared.fault.RelocFault.{RelocFault}
use Rattle.rv_reloc.specs.declared.table.Form.{Form}
use Rattle.rv_reloc.specs.declared.table.Rule.{Rule}
use Rattle.rv_reloc.specs.Table.{table, rule_of, size_by, rule_size}
use Rattle.rv_reloc.specs.Bytes.{word_at, with_word}
use Rattle.rv_reloc.specs.Field.{filled}
use Rattle.rv_reloc.specs.Formula.{number_by}
use Rattle.cfi_values.specs.Then as chain
use Rattle.rv_reloc.specs.Applied.{filled_next, with_next, written, applied_by, applied}
use Rattle.cfi_place.specs.declared.room.Room.{Room}
use Rattle.cfi_place.specs.Relocated.{Areas, field_address, value_in, partner_in, size_in, applied_in, numbered, relocated_by, relocated_from}
use Rattle.cfi_values.specs.Then.{◌>>=◌}

-- ---- what each step gave

pub ok_not_err : {X E : Type 0} {x : X} {e : E} → Err e ≡ Ok x → ⊥
ok_not_err {X} {E} same = cc

-- the row of a kind is of the size of its field
row_in : {K X : Type 0} (P : K × X → Type 0) (test : K → Bool) (es : List (K × X)) (x : X) → AllByRecursion P es
    → lookup test es ≡ Some x → (e : K × X) × P e × (test e.0 ≡ true) × (e.1 ≡ x)
row_in P test [] x all found = absurd (cc)
row_in {K} {X} P test (e ∷ es) x all found = elim (cases_Bool (test e.0)) [
  | inl here ↦
      let is : Some e.1 ≡ Some x =
      sym (ap (λ (b : Bool). cond b (Some e.1) (lookup test es)) here) ∙ found in
      (e, all.0, here, ap (λ (o : Option X). unwrap_or o x) is)
  | inr there ↦
      row_in P test es x all.1 (sym (ap (λ (b : Bool). cond b (Some e.1) (lookup test es)) there) ∙ found)
]

rows : AllByRecursion (λ (row : ℕ × Rule). rule_size row.1 ≡ field_size row.0) table
unfolding field_size
rows =
    (refl, (refl, (refl, (refl, (refl, (refl, (refl, (refl, (refl, (refl, (refl, (refl, (refl, tt)))))))))))))

row_size : (kind : ℕ) (rule : Rule) → rule_of kind ≡ Some rule → rule_size rule ≡ field_size kind
unfolding rule_of
row_size kind rule found =
    let row = row_in (λ (row : ℕ × Rule). rule_size row.1 ≡ field_size row.0) (λ number. kind == number) table rule rows found in
    ap rule_size (sym row.3) ∙ row.1 ∙ ap field_size (sym (eqb-true kind row.0.0 row.2))

-- ---- words

length-with_word : (at word : ℕ) (bytes : List ℕ) → at + 4 ≤ length bytes
    → length (with_word at word bytes) ≡ length bytes
unfolding with_word
length-with_word at word bytes within =
    omega (
      arith,
      within,
      length-append (take at bytes) (to_le_bytes w32 word ++ drop (at + 4) bytes),
      length-append (take at bytes ++ to_le_bytes w32 word) (drop (at + 4) bytes),
      length-append (take at bytes) (to_le_bytes w32 word),
      length-append (to_le_bytes w32 word) (drop (at + 4) bytes),
      length-take-le at bytes (omega (arith, within)),
      length-drop (at + 4) bytes,
    )

-- what a step that went well gave
pub then_ok : {A B E : Type 0} (r : Result A E) (f : A → Result B E) (y : B) → (r >>= f) ≡ Ok y
    → (x : A) × (r ≡ Ok x) × (f x ≡ Ok y)
then_ok (Ok x) f y done = (x, refl, done)
then_ok (Err e) f y done = absurd (ok_not_err done)

pub then_applied : {A B : Type 0} (r : Result A RelocFault) (f : A → Result B RelocFault) (y : B)
    → chain.◌>>=◌ r f ≡ Ok y → (x : A) × (r ≡ Ok x) × (f x ≡ Ok y)
then_applied (Ok x) f y done = (x, refl, done)
then_applied (Err e) f y done = absurd (ok_not_err done)

pub ok_is : {X E : Type 0} {x y : X} → ◌≡◌ {A = Result X E} (Ok x) (Ok y) → x ≡ y
ok_is {X} {E} {x} {y} same = ap (λ (r : Result X E). result_unwrap_or r x) same

size_least : (next : Option Form) → 4 ≤ size_by next
size_least None = omega arith
size_least (Some form) = omega arith

next_kept : (at : ℕ) (next : Option Form) (found : Option ℕ) (number word : ℕ) (bytes : List ℕ)
    → filled_next next number word ≡ Ok found → at + size_by next ≤ length bytes
    → length (with_next (at + 4) found bytes) ≡ length bytes
next_kept at None None number word bytes made within = refl
next_kept at None (Some x) number word bytes made within = absurd (cc)
next_kept at (Some form) None number word bytes made within = refl
next_kept at (Some form) (Some x) number word bytes made within =
    length-with_word (at + 4) x bytes (omega (arith, within))

written_kept : (rule : Rule) (number at : ℕ) (bytes new : List ℕ) → written rule number at bytes ≡ Ok new
    → at + rule_size rule ≤ length bytes → length new ≡ length bytes
written_kept rule number at bytes new done within =
    let one = then_applied (filled rule.field number (word_at at bytes)) (λ word.
    chain.◌>>=◌ (filled_next rule.next number (word_at (at + 4) bytes)) (λ next.
    Ok (with_next (at + 4) next (with_word at word bytes)))) new done in
    let two = then_applied (filled_next rule.next number (word_at (at + 4) bytes)) (λ next.
    Ok (with_next (at + 4) next (with_word at one.0 bytes))) new one.2 in
    let least : at + 4 ≤ length bytes = omega (arith, within, size_least rule.next) in
    let first = length-with_word at one.0 bytes least in
    let second = next_kept at rule.next two.0 number (word_at (at + 4) bytes) (with_word at one.0 bytes) two.1
    (omega (arith, within, first)) in
    let same : with_next (at + 4) two.0 (with_word at one.0 bytes) ≡ new = ok_is two.2 in
    sym (ap length same) ∙ second ∙ first

applied_kept_by : (found : Option Rule) (reloc : Reloc) (at value : ℕ) (partner : Option ℕ) (bytes new : List ℕ)
    → rule_of reloc.kind ≡ found → applied_by found reloc at value partner bytes ≡ Ok new
    → reloc.offset + field_size reloc.kind ≤ length bytes → length new ≡ length bytes
applied_kept_by None reloc at value partner bytes new is done within = sym (ap length (ok_is done))
applied_kept_by (Some rule) reloc at value partner bytes new is done within =
    let step = then_applied (number_by rule.formula value reloc.addend at partner)
    (λ number. written rule number reloc.offset bytes) new done in
    written_kept rule step.0 reloc.offset bytes new step.2
    (omega (arith, within, row_size reloc.kind rule is))

applied_kept : (reloc : Reloc) (at value : ℕ) (partner : Option ℕ) (bytes new : List ℕ)
    → applied reloc at value partner bytes ≡ Ok new → reloc.offset + field_size reloc.kind ≤ length bytes
    → length new ≡ length bytes
applied_kept reloc at value partner bytes new done within =
    applied_kept_by (rule_of reloc.kind) reloc at value partner bytes new refl done within

-- ---- relocations, one after the other

-- text and data are as long as others
pub record AreAsLong (one other : Areas) : Type 0 where
  pub text : length one.text ≡ length other.text
  pub static_data : length one.static_data ≡ length other.static_data

-- the field of a relocation lies in its area
abbrev pub IsInside : Areas → Reloc → Type 0
IsInside bytes reloc =
    reloc.offset + field_size reloc.kind ≤ size_in reloc.area (length bytes.text) (length bytes.static_data)

inside_too : (one other : Areas) → AreAsLong one other → (area : Area)
    → size_in area (length other.text) (length other.static_data) ≡ size_in area (length one.text) (length one.static_data)
inside_too one other long areas.Text = sym long.text
inside_too one other long areas.Data = sym long.static_data

in_area_kept : (area : Area) (reloc : Reloc) (at value : ℕ) (partner : Option ℕ) (bytes new : Areas)
    → applied_in area reloc at value partner bytes ≡ Ok new
    → reloc.offset + field_size reloc.kind ≤ size_in area (length bytes.text) (length bytes.static_data)
    → AreAsLong new bytes
in_area_kept areas.Text reloc at value partner bytes new done within =
    let step = then_ok (applied reloc at value partner bytes.text) (λ text. Ok (record bytes { text = text })) new done in
    let same : record bytes { text = step.0 } ≡ new = ok_is step.2 in
    record {
      text = sym (ap (λ (a : Areas). length a.text) same)
          ∙ applied_kept reloc at value partner bytes.text step.0 step.1 within;
      static_data = sym (ap (λ (a : Areas). length a.static_data) same);
    }
in_area_kept areas.Data reloc at value partner bytes new done within =
    let step = then_ok (applied reloc at value partner bytes.static_data)
    (λ static_data. Ok (record bytes { static_data = static_data })) new done in
    let same : record bytes { static_data = step.0 } ≡ new = ok_is step.2 in
    record {
      text = sym (ap (λ (a : Areas). length a.text) same);
      static_data = sym (ap (λ (a : Areas). length a.static_data) same)
          ∙ applied_kept reloc at value partner bytes.static_data step.0 step.1 within;
    }

still_inside : (bytes next : Areas) → AreAsLong next bytes → (relocs : List Reloc)
    → AllByRecursion (IsInside bytes) relocs → AllByRecursion (IsInside next) relocs
still_inside bytes next long [] inside = tt
still_inside bytes next long (reloc ∷ relocs) inside =
    (omega (arith, inside.0, inside_too next bytes long reloc.area), still_inside bytes next long relocs inside.1)

abbrev as_ok : Areas → Result Areas RelocFault
as_ok bytes = Ok bytes

pub numbered_ok : (k : ℕ) (r : Result Areas RelocFault) (bytes : Areas) → numbered k r ≡ Ok bytes → r ≡ Ok bytes
numbered_ok k (Ok x) bytes done = ap as_ok (ok_is done)
numbered_ok k (Err fault) bytes done = absurd (ok_not_err done)

pub relocated_kept : (room : Room) (values : List (Option ℕ)) (parts : List (ℕ × ℕ)) (k : ℕ) (relocs : List Reloc)
    (bytes new : Areas) → AllByRecursion (IsInside bytes) relocs
    → relocated_from room values parts k relocs bytes ≡ Ok new → AreAsLong new bytes
unfolding relocated_from
relocated_kept room values parts k [] bytes new inside done =
    let same : bytes ≡ new = ok_is done in
    record {
      text = sym (ap (λ (a : Areas). length a.text) same);
      static_data = sym (ap (λ (a : Areas). length a.static_data) same);
    }
relocated_kept room values parts k (reloc ∷ relocs) bytes new inside done =
    let step = then_ok (numbered k (relocated_by room values parts reloc bytes))
    (λ next. relocated_from room values parts (k + 1) relocs next) new done in
    let one = in_area_kept reloc.area reloc (field_address room reloc) (value_in values reloc)
    (partner_in parts (value_in values reloc)) bytes step.0
    (numbered_ok k (relocated_by room values parts reloc bytes) step.0 step.1) inside.0 in
    let rest = relocated_kept room values parts (k + 1) relocs step.0 new
    (still_inside bytes step.0 one relocs inside.1) step.2 in
    record { text = rest.text ∙ one.text; static_data = rest.static_data ∙ one.static_data }
