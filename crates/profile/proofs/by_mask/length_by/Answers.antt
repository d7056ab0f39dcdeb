use borrow.Author.Rules.{rules}
use Rattle.words.proofs.Arrays.{long}
use Rattle.profile.proofs.PointSums.{count_word}
use Rattle.profile.proofs.by_mask.length_by.Goals as goal

pub overflow_cast-active_count : goal.overflow_cast-active_count
overflow_cast-active_count c = record { fits = search (count_word, long, rules) }
