use Rattle.std.proofs.Common.{arith}
use Rattle.cfi_model.specs.inner.Paged.{made_by}
use Rattle.cfi_model.proofs.MakeLemmas.{count_most, length_made}
use Rattle.cfi_model.proofs.pages.PrivateData.pages.Goals as goal

pub overflow_cast-result : goal.overflow_cast-result
overflow_cast-result c =
    let most = count_most (made_by c.self.inside.numbers) in
    let size = length_made c.self.inside.numbers in
    omega (arith, most, size, c.self.invariant.count, c.self.invariant.places, c.len.ensures)
