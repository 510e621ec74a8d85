use Rattle.std.proofs.Common.{drop, sym, ◌∙◌, arith}
use Rattle.cfi_text.proofs.WordsLemmas.{words_in-word, words_in-blanks, words_in-none, take-rest}
use Rattle.cfi_text.proofs.words.next_word.Goals as goal

pub returns-then-end-eq0 : goal.returns-then-end-eq0
returns-then-end-eq0 c =
    let all = take-rest c.blanks.result c.args.statement.now in
    let end = rw all at c.word_end-end.ensures.place in
    words_in-none c.args.statement.now (rw (← c.blanks.ensures.place) (sym end ∙ c.if-end-eq0.true))

-- the word begins after the blanks and ends where the next blank is
pub returns-else-end-eq0 : goal.returns-else-end-eq0
returns-else-end-eq0 c =
    let end = c.word_end-end.result in
    let rest = drop c.blanks.result c.args.statement.now in
    let all = take-rest c.blanks.result c.args.statement.now in
    let within = rw all at c.word_end-end.ensures.within in
    let skip = rw (← c.blanks.ensures.place) at (words_in-blanks c.args.statement.now) in
    let word = words_in-word rest end (rw all at c.word_end-end.ensures.place) (omega arith) within in
    rw (all, take-rest end rest) (sym skip ∙ word)
