use Rattle.cfi_report.proofs.WordLemmas.{words_in-first, words_in-last}
use Rattle.cfi_report.proofs.words.first_word.Goals as goal

pub returns-in-Some : goal.returns-in-Some
returns-in-Some c = words_in-first c.args.text.now c.in-Some.word.now c.in-Some.rest.now c.in-Some.ensures.some
    c.in-Some.ensures.first

pub returns-in-None : goal.returns-in-None
returns-in-None c = words_in-last c.args.text.now c.in-None.ensures.none
