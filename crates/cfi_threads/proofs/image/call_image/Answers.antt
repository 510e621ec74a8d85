use Rattle.std.proofs.Common.{rules, ◌≡◌, ℕ, sym, subst, inl, inr, arith}
use Rattle.cfi_word.specs.declared.lists.Image.{Image}
use Rattle.cfi_word.specs.Table.{IsSize}
use Rattle.cfi_model.specs.Closed.{IsClosed, IsStartIn}
use Rattle.cfi_threads.specs.Starts.{StartsAt, StartAll}
use Rattle.cfi_runner.proofs.CallLemmas.{call_bary, call_closed, call_code, call_image, call_starts, call_tary}
use Rattle.cfi_threads.proofs.image.call_image.Goals as goal

entries : (n entry : ℕ) → StartsAt entry → IsStartIn (call_image n) entry
entries n entry (inl is) = subst (IsStartIn (call_image n)) (sym is) (call_starts n 0 (omega arith))
entries n entry (inr (inl is)) = subst (IsStartIn (call_image n)) (sym is) (call_starts n 1 (omega arith))
entries n entry (inr (inr is)) = subst (IsStartIn (call_image n)) (sym is) (call_starts n 9 (omega arith))

pub returns : goal.returns
returns c =
    let n : ℕ = c.args.layout.now in
    let size : IsSize n = search rules in
    let t : c.from_vec.result ≡ call_tary n = search rules in
    let b : c.from_vec-2.result ≡ call_bary n = search rules in
    let d : c.from_vec-3.result ≡ call_code n = search rules in
    subst (λ (image : Image). IsClosed n image × StartAll image)
    (λ j. record { tary = sym t j; bary = sym b j; code = sym d j }) (call_closed n size, entries n)
