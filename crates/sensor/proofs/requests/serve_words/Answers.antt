use Rattle.sensor.proofs.Answering.{miscount_said, words_served}
use Rattle.sensor.proofs.requests.serve_words.Goals as goal

pub returns-then-words-want : goal.returns-then-words-want
returns-then-words-want c = search miscount_said

pub returns : goal.returns
returns c = search words_served
