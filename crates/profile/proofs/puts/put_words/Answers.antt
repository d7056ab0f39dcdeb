use borrow.Author.Rules.{rules}
use Rattle.words.proofs.Puts.{put_one, list_fits, list_put}
use Rattle.profile.proofs.puts.put_words.Goals as goal

pub loop-w-preserved : goal.loop-w-preserved
loop-w-preserved c = search (list_put, put_one, list_fits, rules)
