-- Records of functions are read exactly as they are spelled.
use Rattle.std.proofs.Common.{◌≡◌, ℕ, ◌≤◌, Bool, true, false, eqb, List, ◌++◌, length, replicate, lit<, refl, sym, ap, subst, arith}
use Rattle.std.specs.Str.{is_utf8}
use Rattle.std.proofs.lemmas.Bool.Decides.{nat_tests}
use Rattle.cfi_type_table.specs.Node.{Node}
use Rattle.cfi_type_table.specs.Spelling.{word}
use Rattle.cfi_word.specs.declared.limits.TheConstants.{MAX_NAME}
use Rattle.cfi_aux.specs.declared.fault.AuxFault.TheVariants.{BadRecord}
use Rattle.cfi_aux.specs.declared.records.Function.{Function}
use Rattle.cfi_aux.specs.Format.{is_whole, is_length, is_flag, is_name_length}
use Rattle.cfi_aux.specs.declared.version.RecordVersion.{RecordVersion}
use Rattle.cfi_aux.specs.Version.{is_type}
use Rattle.cfi_aux.specs.Records.{padding, name_bytes, flag_of, function_bytes, IsName, IsFunctionIn}
use Rattle.cfi_aux.specs.Reading.{word_where, and_with, and_also}
use Rattle.cfi_aux.specs.Fault.{text_at, zeroes_at, padded_at, name_where, name_at, function_of, function_at}
use Rattle.cfi_aux.proofs.Formats.{Reads, Reads-with, Reads-also, Agree, Reads-as, Reads-good}
use Rattle.cfi_aux.proofs.Words.{Passes, Reads-word}
use Rattle.cfi_aux.proofs.Lists.{IsText, Reads-text, Reads-zeroes}

-- ---- names

-- n bytes of text, padded
Reads-padded : (k n : ℕ)
    → Reads (List ℕ) (λ name. name ++ replicate (padding n) 0) (IsText n) (padded_at k n)
unfolding padded_at
Reads-padded k n =
    Reads-as (λ (x : List ℕ × (Unit {0})). x.0 ++ replicate (padding n) 0) (λ x. IsText n x.0 × (Unit {0}))
    (and_also (text_at k n) (zeroes_at k (padding n))) (λ name. name ++ replicate (padding n) 0) (IsText n) (λ x. x.0)
    (λ name. (name, tt)) (record {
      spelled = λ x h. refl;
      viewed = λ x h. h.0;
      good_back = λ name h. (h, tt);
      view_back = λ name h. refl;
    })
    (Reads-also (λ text. text) (IsText n) (text_at k n) (λ x. replicate (padding n) 0) (λ x. Unit {0})
    (zeroes_at k (padding n)) (Reads-text k n) (Reads-zeroes k (padding n)))

-- a name whose number of bytes passes a test
abbrev pub IsNameOf : (test : ℕ → Bool) → List ℕ → Type 0
IsNameOf test name = Passes test (length name) × (is_utf8 name ≡ true)

-- a name as it is read: its length and its bytes
abbrev named_bytes : ℕ × List ℕ → List ℕ
named_bytes x = word x.0 ++ (x.1 ++ replicate (padding x.0) 0)

abbrev IsRead : (test : ℕ → Bool) → ℕ × List ℕ → Type 0
IsRead test x = Passes test x.0 × IsText x.0 x.1

names_agree : (test : ℕ → Bool)
    → Agree (ℕ × List ℕ) (List ℕ) named_bytes (IsRead test) name_bytes (IsNameOf test) (λ x. x.1)
    (λ name. (length name, name))
names_agree test = record {
  spelled = λ x h. ap (λ (n : ℕ). word n ++ (x.1 ++ replicate (padding n) 0)) h.1.0;
  viewed = λ x h. (subst (λ (n : ℕ). Passes test n) (sym h.1.0) h.0, h.1.1);
  good_back = λ name h. (h.0, (refl, h.1));
  view_back = λ name h. refl;
}

pub Reads-name_where : (test : ℕ → Bool) (k : ℕ) → Reads (List ℕ) name_bytes (IsNameOf test) (name_where test k)
unfolding name_where
Reads-name_where test k =
    Reads-as named_bytes (IsRead test) (and_with (word_where test (BadRecord k)) (padded_at k)) name_bytes
    (IsNameOf test) (λ x. x.1) (λ name. (length name, name)) (names_agree test)
    (Reads-with word (Passes test) (word_where test (BadRecord k)) (λ n name. name ++ replicate (padding n) 0)
    (λ n name. IsText n name) (padded_at k) (Reads-word test (BadRecord k)) (λ n h. Reads-padded k n))

pub short_name : (n : ℕ) → is_name_length n ≡ true → n ≤ MAX_NAME
short_name n h = grind (arith, nat_tests)

-- the length of a name has a word
pub sized_name : (n : ℕ) → is_name_length n ≡ true → Passes is_name_length n
sized_name n h = (omega (arith, short_name n h), h)

Reads-name : (k : ℕ) → Reads (List ℕ) name_bytes IsName (name_at k)
Reads-name k =
    Reads-good name_bytes (IsNameOf is_name_length) IsName (name_at k)
    (λ name h. record { count = h.0.1; text = h.1 }) (λ name h. (sized_name (length name) h.count, h.text))
    (Reads-name_where is_name_length k)

-- ---- functions

-- a function as it is read: its offset, length, type, flags and name
abbrev Parts : Type 0
Parts = ℕ × (ℕ × (ℕ × (ℕ × List ℕ)))

abbrev parts_bytes : Parts → List ℕ
parts_bytes x = word x.0 ++ (word x.1.0 ++ (word x.1.1.0 ++ (word x.1.1.1.0 ++ name_bytes x.1.1.1.1)))

abbrev AreParts : (version : RecordVersion) (types : List Node) → Parts → Type 0
AreParts version types x =
    Passes is_whole x.0 × (Passes is_length x.1.0 × (Passes (is_type version types) x.1.1.0
    × (Passes is_flag x.1.1.1.0 × IsName x.1.1.1.1)))

abbrev parts_of : Function → Parts
parts_of f = (f.offset, (f.length, (f.ty, (flag_of f.taken, f.name))))

flag_again : (n : ℕ) → is_flag n ≡ true → flag_of (eqb n 1) ≡ n
flag_again n h = grind (arith, nat_tests)

flag_back : (b : Bool) → eqb (flag_of b) 1 ≡ b
flag_back true = refl
flag_back false = refl

flag_passes : (b : Bool) → Passes is_flag (flag_of b)
flag_passes true = (lit< tt, refl)
flag_passes false = (lit< tt, refl)

functions_agree : (version : RecordVersion) (types : List Node)
    → Agree Parts Function parts_bytes (AreParts version types) function_bytes (IsFunctionIn version types) function_of
    parts_of
functions_agree version types = record {
  spelled = λ x h. ap
      (λ (flags : ℕ). word x.0 ++ (word x.1.0 ++ (word x.1.1.0 ++ (word flags ++ name_bytes x.1.1.1.1))))
      (flag_again x.1.1.1.0 h.1.1.1.0.1);
  viewed = λ x h. record { offset = h.0; length = h.1.0; ty = h.1.1.0; name = h.1.1.1.1 };
  good_back = λ f h. (h.offset, (h.length, (h.ty, (flag_passes f.taken, h.name))));
  view_back = λ f h. ap (λ (b : Bool). record f { taken = b }) (flag_back f.taken);
}

pub Reads-function : (version : RecordVersion) (types : List Node) (k : ℕ)
    → Reads Function function_bytes (IsFunctionIn version types) (function_at version types k)
unfolding function_at
Reads-function version types k =
    let bad = BadRecord k in
    let last = Reads-also word (Passes is_flag) (word_where is_flag bad) name_bytes IsName (name_at k)
    (Reads-word is_flag bad) (Reads-name k) in
    let third = Reads-also word (Passes (is_type version types)) (word_where (is_type version types) bad)
    (λ (x : ℕ × List ℕ). word x.0 ++ name_bytes x.1) (λ (x : ℕ × List ℕ). Passes is_flag x.0 × IsName x.1)
    (and_also (word_where is_flag bad) (name_at k)) (Reads-word (is_type version types) bad) last in
    let second = Reads-also word (Passes is_length) (word_where is_length bad)
    (λ (x : ℕ × (ℕ × List ℕ)). word x.0 ++ (word x.1.0 ++ name_bytes x.1.1))
    (λ (x : ℕ × (ℕ × List ℕ)). Passes (is_type version types) x.0 × (Passes is_flag x.1.0 × IsName x.1.1))
    (and_also (word_where (is_type version types) bad) (and_also (word_where is_flag bad) (name_at k)))
    (Reads-word is_length bad) third in
    let first = Reads-also word (Passes is_whole) (word_where is_whole bad)
    (λ (x : ℕ × (ℕ × (ℕ × List ℕ))). word x.0 ++ (word x.1.0 ++ (word x.1.1.0 ++ name_bytes x.1.1.1)))
    (λ (x : ℕ × (ℕ × (ℕ × List ℕ))). Passes is_length x.0
    × (Passes (is_type version types) x.1.0 × (Passes is_flag x.1.1.0 × IsName x.1.1.1)))
    (and_also (word_where is_length bad)
    (and_also (word_where (is_type version types) bad) (and_also (word_where is_flag bad) (name_at k))))
    (Reads-word is_whole bad) second in
    Reads-as parts_bytes (AreParts version types)
    (and_also (word_where is_whole bad)
    (and_also (word_where is_length bad)
    (and_also (word_where (is_type version types) bad) (and_also (word_where is_flag bad) (name_at k)))))
    function_bytes (IsFunctionIn version types) function_of parts_of (functions_agree version types) first
