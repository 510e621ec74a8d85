-- What the IDs of two table words of a history say of their epochs and classes.
use Rattle.std.proofs.Common.{◌≡◌, ◌≢◌, ℕ, ◌*◌, ◌/◌, ◌%◌, ◌^◌, Some, List, sym, ◌∙◌, ap, arith, bit_xor}
use Rattle.std.specs.Int.Bits.{xor_add_and, xor_self}
use Rattle.std.proofs.lemmas.Nat.{xor_mod, and_le_l, and_le_r}
use Rattle.cfi_word.specs.Ids.{IsField, id_of, low_half}
use Rattle.cfi_word.specs.Word.{IsPackable, packed, id_in, policy_in, epoch_in}
use Rattle.cfi_word.proofs.IdLemmas.{low_half-id_of_any, same_versions, same_classes}
use Rattle.cfi_word.proofs.WordLemmas.{IsField-version, id_in-packed, policy_in-packed, epoch_in-packed}
use Rattle.cfi_model.specs.History.{History, IsEpoch, IsSeen, IsHistory, IsBaryWord, IsTaryWord, IsFair, target_class, slot_class}
use Rattle.cfi_model.specs.Shows.{AreApart}

-- numbers are equal exactly where they differ in no bit
pub same-xor : (a b : ℕ) → bit_xor a b ≡ 0 → a ≡ b
same-xor a b none = omega (arith, xor_add_and a b, and_le_l a b, and_le_r a b)

-- the two low bytes are equal exactly where none of their bits differs
pub same-low : (a b : ℕ) → bit_xor a b * 2 ^ 16 % 2 ^ 32 ≡ 0 → low_half a ≡ low_half b
same-low a b none =
    let low : bit_xor a b % 2 ^ 16 ≡ 0 = omega arith in
    same-xor (a % 2 ^ 16) (b % 2 ^ 16) (sym (xor_mod a b 16) ∙ low)

pub apart-low : (a b : ℕ) → bit_xor a b * 2 ^ 16 % 2 ^ 32 ≢ 0 → low_half a ≢ low_half b
apart-low a b some same =
    let parts : bit_xor a b % 2 ^ 16 ≡ bit_xor (a % 2 ^ 16) (b % 2 ^ 16) = xor_mod a b 16 in
    let none : bit_xor (a % 2 ^ 16) (b % 2 ^ 16) ≡ 0 =
    ap (λ x. bit_xor (a % 2 ^ 16) x) (sym same) ∙ xor_self (a % 2 ^ 16) in
    some (omega arith)

-- an epoch that is or was in force is seen
pub seen_of : (h : History) (epoch : ℕ) → IsEpoch h epoch → IsSeen h epoch
seen_of h epoch is = record { least = is.least; most = omega (arith, is.most) }

-- a table word of a history can be packed
packable : (h : History) (code : List ℕ) (epoch class : ℕ) → IsHistory h code → IsSeen h epoch → IsField class
    → IsPackable epoch (h.policy epoch) class h.versions
packable h code epoch class known is field = record {
  epoch_fits = known.epochs_fit epoch is;
  policy_fits = known.policies_fit epoch is;
  class_fits = field;
  versions_least = known.versions_least;
  versions_most = known.versions_most;
}

-- the classes of a history have fourteen bits
slot-field : (h : History) (code : List ℕ) (epoch slot : ℕ) → IsHistory h code → IsSeen h epoch
    → IsField (slot_class h epoch slot)
slot-field h code epoch slot known is = (known.classes epoch is).bary_most slot

target-field : (h : History) (code : List ℕ) (epoch target : ℕ) → IsHistory h code → IsSeen h epoch
    → IsField (target_class h epoch target)
target-field h code epoch target known is = (known.classes epoch is).tary_most (target / 4)

-- the words of one try
pub record IsTry (h : History) (slot target bary tary : ℕ) : Type 0 where
  pub branch : IsBaryWord h slot bary
  pub goal : IsTaryWord h target tary
  pub fair : IsFair h (Some bary) tary

-- a word of a history, by its parts
pub record Parts (h : History) (class_of : ℕ → ℕ) (word epoch : ℕ) : Type 0 where
  pub id : id_in word ≡ id_of (class_of epoch) (epoch % h.versions)
  pub policy : policy_in word ≡ h.policy epoch
  pub epoch_is : epoch_in word ≡ epoch
  pub class : IsField (class_of epoch)
  pub version : IsField (epoch % h.versions)

parts_of : (h : History) (code : List ℕ) (class_of : ℕ → ℕ) (word epoch : ℕ) → IsHistory h code → IsSeen h epoch
    → IsField (class_of epoch) → word ≡ packed epoch (h.policy epoch) (class_of epoch) h.versions
    → Parts h class_of word epoch
parts_of h code class_of word epoch known is field packs =
    let fits = packable h code epoch (class_of epoch) known is field in
    record {
      id = ap id_in packs ∙ id_in-packed _ _ _ _ fits;
      policy = ap policy_in packs ∙ policy_in-packed _ _ _ _ fits;
      epoch_is = ap epoch_in packs ∙ epoch_in-packed _ _ _ _ fits;
      class = field;
      version = IsField-version epoch h.versions known.versions_least known.versions_most;
    }

pub bary_parts : (h : History) (code : List ℕ) (slot target bary tary : ℕ) → IsHistory h code
    → (try : IsTry h slot target bary tary) → Parts h (λ epoch. slot_class h epoch slot) bary try.branch.epoch
bary_parts h code slot target bary tary known try =
    let seen = seen_of h try.branch.epoch try.branch.known in
    parts_of h code (λ epoch. slot_class h epoch slot) bary try.branch.epoch known seen
    (slot-field h code try.branch.epoch slot known seen) try.branch.is

pub tary_parts : (h : History) (code : List ℕ) (slot target bary tary : ℕ) → IsHistory h code
    → (try : IsTry h slot target bary tary) → Parts h (λ epoch. target_class h epoch target) tary try.goal.epoch
tary_parts h code slot target bary tary known try =
    parts_of h code (λ epoch. target_class h epoch target) tary try.goal.epoch known try.goal.known
    (target-field h code try.goal.epoch target known try.goal.known) try.goal.is

-- the epoch of a slot's word, and that of a target's
pub bary_epoch : (h : History) (code : List ℕ) (slot : ℕ) → {bary : ℕ} → IsHistory h code
    → (found : IsBaryWord h slot bary) → epoch_in bary ≡ found.epoch
bary_epoch h code slot {bary} known found =
    let seen = seen_of h found.epoch found.known in
    (parts_of h code (λ epoch. slot_class h epoch slot) bary found.epoch known seen
    (slot-field h code found.epoch slot known seen) found.is).epoch_is

pub tary_epoch : (h : History) (code : List ℕ) (target : ℕ) → {tary : ℕ} → IsHistory h code
    → (found : IsTaryWord h target tary) → epoch_in tary ≡ found.epoch
tary_epoch h code target {tary} known found =
    (parts_of h code (λ epoch. target_class h epoch target) tary found.epoch known found.known
    (target-field h code found.epoch target known found.known) found.is).epoch_is

pub tary_policy : (h : History) (code : List ℕ) (target : ℕ) → {tary : ℕ} → IsHistory h code
    → (found : IsTaryWord h target tary) → policy_in tary ≡ h.policy found.epoch
tary_policy h code target {tary} known found =
    (parts_of h code (λ epoch. target_class h epoch target) tary found.epoch known found.known
    (target-field h code found.epoch target known found.known) found.is).policy

-- equal low halves are one epoch
pub one_epoch : (h : History) (code : List ℕ) (slot target bary tary : ℕ) → IsHistory h code
    → (try : IsTry h slot target bary tary) → low_half (id_in tary) ≡ low_half (id_in bary)
    → try.branch.epoch ≡ try.goal.epoch
one_epoch h code slot target bary tary known try same =
    let b = bary_parts h code slot target bary tary known try in
    let t = tary_parts h code slot target bary tary known try in
    let low = sym (ap low_half b.id) ∙ sym same ∙ ap low_half t.id in
    let versions = same_versions _ _ _ _ b.version t.version low in
    let ends : epoch_in bary % h.versions ≡ epoch_in tary % h.versions =
    ap (λ e. e % h.versions) b.epoch_is ∙ versions ∙ sym (ap (λ e. e % h.versions) t.epoch_is) in
    sym b.epoch_is ∙ try.fair ends ∙ t.epoch_is

-- equal IDs are an allowed target, under the policy of the Tary word
pub equal-allows : (h : History) (code : List ℕ) (slot target bary tary : ℕ) → IsHistory h code
    → (try : IsTry h slot target bary tary) → id_in bary ≡ id_in tary
    → slot_class h try.goal.epoch slot ≡ target_class h try.goal.epoch target
equal-allows h code slot target bary tary known try same =
    let b = bary_parts h code slot target bary tary known try in
    let t = tary_parts h code slot target bary tary known try in
    let one = one_epoch h code slot target bary tary known try (ap low_half (sym same)) in
    let ids : id_of (slot_class h try.goal.epoch slot) (try.goal.epoch % h.versions)
    ≡ id_of (target_class h try.goal.epoch target) (try.goal.epoch % h.versions) =
    ap (λ e. id_of (slot_class h e slot) (e % h.versions)) (sym one) ∙ sym b.id ∙ same ∙ t.id in
    same_classes _ _ (try.goal.epoch % h.versions)
    (slot-field h code try.goal.epoch slot known try.goal.known) t.class ids

-- one version and two IDs are a target that is not allowed
pub apart-refuses : (h : History) (code : List ℕ) (slot target bary tary : ℕ) → IsHistory h code
    → (try : IsTry h slot target bary tary) → low_half (id_in tary) ≡ low_half (id_in bary)
    → id_in bary ≢ id_in tary
    → slot_class h try.goal.epoch slot ≢ target_class h try.goal.epoch target
apart-refuses h code slot target bary tary known try same other classes =
    let b = bary_parts h code slot target bary tary known try in
    let t = tary_parts h code slot target bary tary known try in
    let one = one_epoch h code slot target bary tary known try same in
    other (b.id ∙ ap (λ e. id_of (slot_class h e slot) (e % h.versions)) one
    ∙ ap (λ c. id_of c (try.goal.epoch % h.versions)) classes ∙ sym t.id)

-- two low halves are two versions
pub apart-versions : (h : History) (code : List ℕ) (slot target bary tary : ℕ) → IsHistory h code
    → (try : IsTry h slot target bary tary) → low_half (id_in tary) ≢ low_half (id_in bary)
    → AreApart h slot target bary tary
apart-versions h code slot target bary tary known try other = record {
  branch = try.branch;
  goal = try.goal;
  apart = λ same.
      let b = bary_parts h code slot target bary tary known try in
      let t = tary_parts h code slot target bary tary known try in
      let versions : try.branch.epoch % h.versions ≡ try.goal.epoch % h.versions =
      sym (ap (λ e. e % h.versions) b.epoch_is) ∙ same ∙ ap (λ e. e % h.versions) t.epoch_is in
      other (ap low_half t.id
      ∙ low_half-id_of_any (target_class h try.goal.epoch target) (slot_class h try.branch.epoch slot)
      (try.goal.epoch % h.versions)
      ∙ ap (λ v. low_half (id_of (slot_class h try.branch.epoch slot) v)) (sym versions)
      ∙ sym (ap low_half b.id));
}
