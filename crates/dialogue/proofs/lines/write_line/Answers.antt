use Rattle.dialogue.proofs.Parts.{no_line, number_fits, refusal_fits, count_fits, words_fit, end_fits, line_put}
use Rattle.dialogue.proofs.lines.write_line.Goals as goal

pub returns-then-not-fits : goal.returns-then-not-fits
returns-then-not-fits c = search no_line

pub put_decimal-at-requires : goal.put_decimal-at-requires
put_decimal-at-requires c = search number_fits

pub put_spaced-at-requires : goal.put_spaced-at-requires
put_spaced-at-requires c = search refusal_fits

pub put_spaced-at-requires-2 : goal.put_spaced-at-requires-2
put_spaced-at-requires-2 c = search count_fits

pub put_words-at-requires : goal.put_words-at-requires
put_words-at-requires c = search words_fit

pub put-requires : goal.put-requires
put-requires c = search end_fits

pub returns : goal.returns
returns c = search line_put
