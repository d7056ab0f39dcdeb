use native.Mathlib.Omega.{arith}
use mathlib.Core.Path.{◌∙◌}
use Rattle.words.proofs.Puts.{turns_none}
use Rattle.dialogue.proofs.Taking.{within, rest_left, word_taken, words_taken}
use Rattle.dialogue.proofs.records.take_words.Goals as goal

pub loop-k-init : goal.loop-k-init
loop-k-init c =
    rw (c.into_iter-k-iterator.ensures.into_iter_gives, c.enumerate-k-items.ensures.source, c.enumerate-k-items.ensures.count)
    (omega arith, c.chunks_exact.ensures.size, c.chunks_exact.ensures.rest, turns_none _ _ _)

pub loop-k-preserved : goal.loop-k-preserved
loop-k-preserved c =
    let i = c.loop-k.invariant in
    let s = c.in-Some.ensures.steps in
    let two = s.0.1.1 ∙ i.1 in
    let even = c.requires.0 in
    let few = within _ _ _ _ _ _ even c.requires.1 c.loop-k.auto.words i.0 i.2 i.3 _ _ s.0.1.0 two in
    rw (s.2, s.1) (
      few,
      s.0.0 ∙ i.1,
      rest_left _ _ _ _ _ _ even c.requires.1 c.loop-k.auto.words i.0 i.2 i.3 _ _ s.0.1.0 two,
      word_taken _ _ _ _ _ _ even c.requires.1 c.loop-k.auto.words i.0 i.2 i.3 _ _ s.0.1.0 two _ c.word.ensures,
    )

pub returns : goal.returns
returns c =
    let i = c.loop-k.invariant in
    let s = c.in-None.ensures.steps in
    words_taken _ _ _ _ _ _ c.requires.0 c.requires.1 c.loop-k.auto.words i.0 i.2 i.3 (rw i.1 at s.0.1.0)
