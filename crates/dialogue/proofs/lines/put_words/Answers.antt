use borrow.Author.Rules.{rules}
use Rattle.words.proofs.Puts.{turns_none}
use Rattle.dialogue.proofs.Parts.{hex_fits, hex_put}
use Rattle.dialogue.proofs.lines.put_words.Goals as goal

pub loop-w-init : goal.loop-w-init
loop-w-init c = search (turns_none, rules)

pub put-to-requires : goal.put-to-requires
put-to-requires c = search (hex_fits, rules)

pub loop-w-preserved : goal.loop-w-preserved
loop-w-preserved c = search (hex_put, rules)
