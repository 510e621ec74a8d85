-- The headline, promise by promise.
use Rattle.cfi_guest_run.specs.Concluded.{Conclusion}
use Rattle.cfi_top.specs.Promises.{GuestsAskInForce, GuestsKeepPolicies, GuestsEnterUnits, GuestsStoreInside, course_in}
use Rattle.cfi_top.proofs.HeadlineLemmas.{run_in_force, run_keeps, run_policies}

pub keep_policies_in : (run : Conclusion) → GuestsKeepPolicies run
keep_policies_in run c number part there ran =
    (run_policies (course_in run c) c.tables c.history c.code c.of number part ran, ran.shown.shows)

pub ask_in_force : (run : Conclusion) → GuestsAskInForce run
ask_in_force run c number part there ran =
    (ran.run.timed, run_in_force (course_in run c) c.tables c.history c.code c.of number part ran)

pub enter_units : (run : Conclusion) → GuestsEnterUnits run
enter_units run c number part there ran =
    (run_keeps (course_in run c) c.tables c.history c.code c.of number part ran).confined.enters

pub store_inside : (run : Conclusion) → GuestsStoreInside run
store_inside run c number part there ran =
    (run_keeps (course_in run c) c.tables c.history c.code c.of number part ran).confined.stores
