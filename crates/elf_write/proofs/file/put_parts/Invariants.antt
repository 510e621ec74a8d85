use Rattle.std.proofs.Common.{◌≡◌, ◌*◌, ◌≤◌, ℕ, List, take}
use Rattle.elf_read.specs.Places.{joined}
use Rattle.elf_read.specs.declared.object.Object.{Object}
use Rattle.elf_write.specs.File.{sections_of, body_of, name_place, header_of}
use Rattle.elf_write.proofs.file.put_parts.Given as goal

-- the contents and headers of the first sections, and where the next name begins
pub record AreParts (object : Object) (body headers : List ℕ) (k name : ℕ) : Type 0 where
  pub contents : body ≡ body_of object (take k (sections_of object))
  pub each : headers ≡ joined (header_of object) k
  pub place : name ≡ name_place object k
  pub small : name ≤ 13 * k

abbrev pub invariant-loop-k : goal.invariant-loop-k
invariant-loop-k l = AreParts l.object l.body.items l.headers.items l.k l.name
