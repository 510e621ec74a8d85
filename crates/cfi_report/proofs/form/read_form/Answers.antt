use Rattle.std.proofs.Common.{sym}
use Rattle.cfi_report.proofs.WordLemmas.{too_many}
use Rattle.cfi_report.proofs.form.read_form.Goals as goal

pub returns-in-Some-rest-6 : goal.returns-in-Some-rest-6
returns-in-Some-rest-6 c =
    let e1 = rw c.in-Some.is at c.first_word.ensures in
    let e2 = rw c.in-Some-rest.is at c.first_word-2.ensures in
    let e3 = rw c.in-Some-rest-2.is at c.first_word-3.ensures in
    let e4 = rw c.in-Some-rest-3.is at c.first_word-4.ensures in
    let e5 = rw c.in-Some-rest-4.is at c.first_word-5.ensures in
    let e6 = rw c.in-Some-rest-5.is at c.first_word-6.ensures in
    let e7 = rw c.in-Some-rest-6.is at c.first_word-7.ensures in
    rw (e1, e2, e3, e4, e5, e6, e7) (sym (too_many _ _ _ _ _ _ _ _))
