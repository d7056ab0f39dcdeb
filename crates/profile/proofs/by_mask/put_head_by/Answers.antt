use Rattle.words.proofs.Puts.{put_first}
use Rattle.profile.proofs.ByMask.{plain_head, mixed_head_lem}
use Rattle.profile.proofs.by_mask.put_head_by.Goals as goal

pub returns-in-Plain : goal.returns-in-Plain
returns-in-Plain c = plain_head _ _ c.in-Plain.is (put_first c.put_words.ensures)

pub returns-in-Mixed : goal.returns-in-Mixed
returns-in-Mixed c = mixed_head_lem _ _ c.in-Mixed.is (put_first c.put_words-in-Mixed.ensures)
