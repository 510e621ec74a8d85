-- Fields of IDs read back.
use Rattle.std.proofs.Common.{◌≡◌, ℕ, ◌+◌, ◌/◌, ◌<◌, ap, sym, ◌∙◌, arith}
use Rattle.cfi_word.specs.Ids.{IsField, spread_of, id_of, gathered_of, class_in, version_in, low_half}

spread_of-lt : (field : ℕ) → IsField field → spread_of field + 1 < 65536
spread_of-lt field h = omega arith

gathered_of-spread_of : (field : ℕ) → IsField field → gathered_of (spread_of field) ≡ field
gathered_of-spread_of field h = omega arith

-- the lowest bit is not looked at
gathered_of-spread_of_marked : (field : ℕ) → IsField field → gathered_of (spread_of field + 1) ≡ field
gathered_of-spread_of_marked field h = omega arith

high_half-id_of : (class version : ℕ) → IsField version → id_of class version / 65536 ≡ spread_of class
unfolding id_of
high_half-id_of class version h = omega (arith, spread_of-lt version h)

pub low_half-id_of : (class version : ℕ) → IsField version → low_half (id_of class version) ≡ spread_of version + 1
unfolding id_of
low_half-id_of class version h = omega (arith, spread_of-lt version h)

pub class_in-id_of : (class version : ℕ) → IsField class → IsField version → class_in (id_of class version) ≡ class
unfolding class_in
class_in-id_of class version c v = ap gathered_of (high_half-id_of class version v) ∙ gathered_of-spread_of class c

pub version_in-id_of : (class version : ℕ) → IsField version → version_in (id_of class version) ≡ version
unfolding version_in
version_in-id_of class version v =
    ap gathered_of (low_half-id_of class version v) ∙ gathered_of-spread_of_marked version v

-- the low half does not depend on the class
pub low_half-id_of_any : (class other version : ℕ) → low_half (id_of class version) ≡ low_half (id_of other version)
unfolding id_of
low_half-id_of_any class other version = omega arith

-- equal low halves have equal versions
pub same_versions : (class other old new : ℕ) → IsField old → IsField new
    → low_half (id_of class old) ≡ low_half (id_of other new) → old ≡ new
unfolding version_in
same_versions class other old new o n e =
    sym (version_in-id_of class old o) ∙ ap gathered_of e ∙ version_in-id_of other new n

-- equal IDs of one version have equal classes
pub same_classes : (class other version : ℕ) → IsField class → IsField other
    → id_of class version ≡ id_of other version → class ≡ other
unfolding id_of
same_classes class other version c o e = omega arith

pub id_of-lt : (class version : ℕ) → IsField class → IsField version → id_of class version < 4294967296
unfolding id_of
id_of-lt class version c v = omega arith
